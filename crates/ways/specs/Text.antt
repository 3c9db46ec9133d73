-- How a row and its ways are written, as bytes. Assumes nothing: these are definitions.
use Rattle.std.specs.Prelude.{ℕ, List, [], ◌∷◌, ◌++◌, decimal, ◌==◌}
use Rattle.tables.specs.Bool.{pick}
use Rattle.provenance.specs.Polynomial.{Monomial}
use Rattle.codec.specs.Output.{parted}

-- the bytes that are used: + - : x and the blank
abbrev pub plus_sign : List ℕ
plus_sign = 43 ∷ []

abbrev pub dash : List ℕ
dash = 45 ∷ []

abbrev pub colon : List ℕ
colon = 58 ∷ []

abbrev pub letter_x : List ℕ
letter_x = 120 ∷ []

abbrev pub blank : List ℕ
blank = 32 ∷ []

-- marks with a plus between them; a way that uses no mark is a dash
unfoldable pub marks_text : List ℕ → List ℕ
marks_text [] = dash
marks_text (k ∷ ks) = parted plus_sign (k ∷ ks)

-- the count and an x, for a way that occurs more than once
unfoldable pub count_text : ℕ → List ℕ
count_text n = pick (n == 1) [] (decimal n ++ letter_x)

unfoldable pub way_text : Monomial → List ℕ
way_text m = count_text m.count ++ marks_text m.marks

-- each way with a blank before it
unfoldable pub ways_text : List Monomial → List ℕ
ways_text [] = []
ways_text (m ∷ ms) = blank ++ way_text m ++ ways_text ms

-- the cells of a row, a colon, and its ways, as in `8 8: 2+2 2x2+3 3+3`
unfoldable pub line_text : List ℕ → List Monomial → List ℕ
line_text row ms = parted blank row ++ colon ++ ways_text ms
