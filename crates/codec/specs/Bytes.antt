-- Numbers written as bytes. Assumes nothing: these are definitions.
use Rattle.std.specs.Prelude.{ℕ, zero, suc, ◌+◌, ◌*◌, List, [], ◌∷◌, drop, slice_index}

-- the number that the first n bytes write, low byte first
unfoldable pub number : ℕ → List ℕ → ℕ
number zero bs = 0
number (suc n) bs = slice_index bs 0 + 256 * number n (drop 1 bs)

-- the first n numbers that bytes write, eight bytes each
unfoldable pub numbers : ℕ → List ℕ → List ℕ
numbers zero bs = []
numbers (suc n) bs = number 8 bs ∷ numbers n (drop 8 bs)
