-- Ways as numbers. Assumes nothing: these are definitions.
use Rattle.std.specs.Prelude.{ℕ, List, [], ◌∷◌, ◌++◌, length}
use Rattle.provenance.specs.Polynomial.{Monomial}

-- a way: its count, how many marks it has, and its marks
abbrev pub way_numbers : Monomial → List ℕ
way_numbers m = m.count ∷ length m.marks ∷ m.marks

unfoldable pub ways_numbers : List Monomial → List ℕ
ways_numbers [] = []
ways_numbers (m ∷ ms) = way_numbers m ++ ways_numbers ms

-- a normal form: how many ways it has, and its ways
abbrev pub numbers_of : List Monomial → List ℕ
numbers_of ms = length ms ∷ ways_numbers ms
