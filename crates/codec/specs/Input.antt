-- The binary form of tables and queries. Assumes nothing: these are definitions.
use Rattle.std.specs.Prelude.{ℕ, zero, suc, ◌+◌, ◌*◌, ◌/◌, Bool, ◌&&◌, List, [], ◌∷◌, ◌++◌, length, take, drop, nat_le, slice_index}
use Rattle.tables.specs.Bool.{pick}
use Rattle.codec.specs.Bytes.{numbers}

pub data Read : Type 0 where
  read : List ℕ → List ℕ → Read  -- the numbers that were read, and the bytes after them
  faulty : ℕ → Read  -- the first table that does not fit, or the operator that is cut off, counted from 0

-- a table is a byte of rows, a byte of columns, and eight bytes a cell, row by row
abbrev pub cells_in : List ℕ → ℕ
cells_in bs = slice_index bs 0 * slice_index bs 1

-- how many bytes the table at the front takes
abbrev pub table_bytes : List ℕ → ℕ
table_bytes bs = 2 + 8 * cells_in bs

-- here a table has at most 32 rows of 1 to 4 columns, and all its cells are there
abbrev pub table_whole : List ℕ → Bool
table_whole bs = nat_le 2 (length bs) && (nat_le (slice_index bs 0) 32 && (nat_le 1 (slice_index bs 1) && (nat_le (slice_index bs 1) 4 && nat_le (table_bytes bs) (length bs))))

-- the table at the front as memory holds it: its rows, its columns and its cells
abbrev pub table_numbers : List ℕ → List ℕ
table_numbers bs = slice_index bs 0 ∷ slice_index bs 1 ∷ numbers (cells_in bs) (drop 2 bs)

-- what was read, behind other numbers
abbrev pub behind : List ℕ → Read → Read
behind ns (read ms bs) = read (ns ++ ms) bs
behind ns (faulty t) = faulty t

-- n tables, the first of them table t
unfoldable pub tables_from : ℕ → ℕ → List ℕ → Read
tables_from t zero bs = read [] bs
tables_from t (suc n) bs = pick (table_whole bs) (behind (table_numbers bs) (tables_from (suc t) n (drop (table_bytes bs) bs))) (faulty t)

-- a byte says how many tables follow, 1 to 8: none is a fault at 0, and a ninth one a fault at 8
unfoldable pub read_tables : List ℕ → Read
read_tables bs =
    pick (nat_le 1 (slice_index bs 0))
    (pick (nat_le (slice_index bs 0) 8) (behind (slice_index bs 0 ∷ []) (tables_from 0 (slice_index bs 0) (drop 1 bs))) (faulty 8))
    (faulty 0)

-- a byte says how many operators a query has; each is six bytes, a byte a number. Without that byte the first operator is missing;
-- a seventeenth operator is a fault before one that is cut off
unfoldable pub read_query : List ℕ → Read
read_query [] = faulty 0
read_query (k ∷ bs) = pick (nat_le (6 * k) (length bs)) (read (take (6 * k) bs) (drop (6 * k) bs)) (faulty (pick (nat_le k 16) (length bs / 6) 16))
