-- One step of reading tables. Assumes nothing.
use Rattle.std.proofs.Common.{◌≡◌, ℕ, suc, ◌+◌, ◌-◌, ◌*◌, ◌/◌, ◌<◌, ◌≤◌, true, false, List, [], ◌∷◌, ◌++◌, length, get_or, take, drop, None, Err, sym, subst, refl, ap, ◌∙◌, append_assoc, append-nil, add-one, arith, le-leb}
use borrow.Author.Tests.{lt-leb}
use Rattle.std.specs.Option.{ok_or}
use Rattle.std.proofs.lemmas.List.{drop-drop}
use Rattle.tables.specs.Bool.{pick}
use Rattle.codec.specs.Input.{Read, read, faulty, cells_in, table_bytes, table_whole, table_numbers, behind, tables_from, read_tables}
use Rattle.codec.specs.declared.input.InputError.{InputError}
use Rattle.codec.specs.declared.input.InputError.TheVariants.{Table}
use Rattle.codec.specs.declared.tables_form.FrontTable.{FrontTable}
use Rattle.codec.specs.Reads.{front_numbers, AtFront, TablesRead}
use Rattle.codec.proofs.Bytes.{numbers_taken}

pub none_read : (bs : List ℕ) → get_or bs 0 0 < 1 → read_tables bs ≡ faulty 0
unfolding read_tables
none_read bs h = rw (lt-leb 1 (get_or bs 0 0) h)

pub many_read : (bs : List ℕ) → 8 < get_or bs 0 0 → read_tables bs ≡ faulty 8
unfolding read_tables
many_read bs h = rw (le-leb 1 (get_or bs 0 0) (omega arith), lt-leb (get_or bs 0 0) 8 h)

pub start_read : (bs : List ℕ) → 1 ≤ get_or bs 0 0 → get_or bs 0 0 ≤ 8 → read_tables bs ≡ behind (get_or bs 0 0 ∷ []) (tables_from 0 (get_or bs 0 0) (drop 1 bs))
unfolding read_tables
start_read bs l h = rw (le-leb 1 (get_or bs 0 0) l, le-leb (get_or bs 0 0) 8 h)

-- n tables are left to read, the first of them table t
from_more : (t n : ℕ) (bs : List ℕ) → t < n →
    tables_from t (n - t) bs ≡ pick (table_whole bs) (behind (table_numbers bs) (tables_from (t + 1) (n - (t + 1)) (drop (table_bytes bs) bs))) (faulty t)
unfolding tables_from
from_more t n bs h =
    let e : n - t ≡ suc (n - (t + 1)) = omega arith in
    rw (e, add-one)

from_on : (t n : ℕ) (bs : List ℕ) → t < n → table_whole bs ≡ true →
    tables_from t (n - t) bs ≡ behind (table_numbers bs) (tables_from (t + 1) (n - (t + 1)) (drop (table_bytes bs) bs))
from_on t n bs h e = from_more t n bs h ∙ rw e

from_off : (t n : ℕ) (bs : List ℕ) → t < n → table_whole bs ≡ false → tables_from t (n - t) bs ≡ faulty t
from_off t n bs h e = from_more t n bs h ∙ rw e

behind_behind : (ns ms : List ℕ) (r : Read) → behind ns (behind ms r) ≡ behind (ns ++ ms) r
behind_behind ns ms (read ks bs) = ap (λ ls. read ls bs) (sym (append_assoc ns ms ks))
behind_behind ns ms (faulty t) = refl

-- a table that fits is found
pub table_there : (bs : List ℕ) (t : FrontTable) → 2 ≤ length bs → get_or bs 0 0 ≤ 32 → 1 ≤ get_or bs 1 0 → get_or bs 1 0 ≤ 4 →
    t.rows ≡ get_or bs 0 0 → t.columns ≡ get_or bs 1 0 → table_bytes bs ≤ length bs → t.cells.now ≡ take (8 * cells_in bs) (drop 2 bs) →
    length t.cells.now ≡ 8 * cells_in bs → t.rest.now ≡ drop (8 * cells_in bs) (drop 2 bs) → AtFront bs t
table_there bs t l r c d e f there g n h =
    let m : 8 * cells_in bs / 8 ≡ cells_in bs = omega arith in
    record {
      whole = rw (le-leb 2 (length bs) l, le-leb (get_or bs 0 0) 32 r, le-leb 1 (get_or bs 1 0) c, le-leb (get_or bs 1 0) 4 d, le-leb (table_bytes bs) (length bs) there);
      held = rw (e, f, n, m, g, numbers_taken (cells_in bs) (drop 2 bs));
      rest = h ∙ drop-drop (8 * cells_in bs) 2 bs;
    }

-- the code's step past a table that fits
pub read_on : (whole : Read) (t n : ℕ) (ns more bs : List ℕ) (table : FrontTable) → t < n → whole ≡ behind ns (tables_from t (n - t) bs) → AtFront bs table →
    more ≡ ns ++ front_numbers table → whole ≡ behind more (tables_from (t + 1) (n - (t + 1)) table.rest.now)
read_on whole t n ns more bs table h i a f =
    rw (a.rest, f, a.held) (i ∙ ap (behind ns) (from_on t n bs h a.whole) ∙ behind_behind ns (table_numbers bs) _)

pub read_off : (whole : Read) (t n : ℕ) (ns bs : List ℕ) → t < n → whole ≡ behind ns (tables_from t (n - t) bs) → table_whole bs ≡ false → whole ≡ faulty t
read_off whole t n ns bs h i e = i ∙ ap (behind ns) (from_off t n bs h e)

pub read_end : (whole : Read) (t n : ℕ) (ns bs : List ℕ) → n ≤ t → whole ≡ behind ns (tables_from t (n - t) bs) → whole ≡ read ns bs
unfolding tables_from
read_end whole t n ns bs h i =
    let e : n - t ≡ 0 = omega arith in
    i ∙ rw e (ap (λ ms. read ms bs) (append-nil ns))

-- the count of tables is pushed first
pub first_pushed : (items old : List ℕ) (x k : ℕ) → items ≡ old ++ x ∷ [] → old ≡ [] → x ≡ k → items ≡ k ∷ []
first_pushed items old x k p e f = p ∙ rw (e, f)

-- the error that says so
pub table_told : (r : Read) (e : InputError) (t : ℕ) → Err e ≡ ok_or {T = FrontTable} None (Table t) → r ≡ faulty t → TablesRead r (Err e)
table_told r e t f h =
    let g : e ≡ Table t = cc in
    subst (λ (d : InputError). TablesRead r (Err d)) (sym g) h
