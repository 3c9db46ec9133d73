-- The rows of a stored answer. Assumes nothing: these are definitions.
use Rattle.std.specs.Prelude.{◌≡◌, ℕ, ◌+◌, ◌-◌, ◌*◌, ◌^◌, ◌<◌, min, List, length, take, drop, vec_items, Option, MatchOption}
use Rattle.std.specs.Borrow.{Bor}
use Rattle.std.specs.declared.slice.ChunksExact.{ChunksExact}
use Rattle.std.specs.Slice.Iter.{chunks_exact_rest, chunks_exact_size}
use Rattle.stored.specs.declared.Answer.{Answer}

-- how many numbers a row takes: its node and its cells
abbrev pub row_size : Answer → ℕ
row_size a = a.width + 1

-- row i stands behind the count and i rows; it is not there if the numbers end before it does
abbrev pub RowFound : Answer → ℕ → Option (Bor (List ℕ)) → Type 0
RowFound a i r =
    MatchOption r (length (vec_items a.rows) < row_size a * i + 1 + row_size a)
    (λ x. x.now ≡ take (row_size a) (drop (row_size a * i + 1) (vec_items a.rows)))

-- all rows are left to go through: they stand behind the count, each of as many numbers as a row takes, or as a machine counts at most
abbrev pub RowsLeft : Answer → ChunksExact ℕ → Type 0
RowsLeft a it = (chunks_exact_rest it ≡ drop 1 (vec_items a.rows)) × (chunks_exact_size it ≡ min (row_size a) (2 ^ 64 - 1))
