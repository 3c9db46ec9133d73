-- The stored form of answers. Assumes nothing: these are definitions.
use Rattle.std.specs.Prelude.{ℕ, zero, suc, ◌/◌, ◌%◌, List, [], ◌∷◌, ◌++◌, length}
use Rattle.std.specs.List.{flat_map}

-- the first n bytes of a number, low byte first
unfoldable pub bytes_of : ℕ → ℕ → List ℕ
bytes_of zero x = []
bytes_of (suc n) x = x % 256 ∷ bytes_of n (x / 256)

-- numbers as bytes, eight each
abbrev pub written : List ℕ → List ℕ
written xs = flat_map (bytes_of 8) xs

-- an answer: how many cells its rows have; its nodes, as a count and three numbers for each; its rows, as a count and for each its node and its cells
pub record Held : Type 0 where
  pub width : ℕ
  pub nodes : List ℕ
  pub rows : List ℕ

-- an answer as numbers
abbrev pub numbers_of : Held → List ℕ
numbers_of a = a.width ∷ (a.nodes ++ a.rows)

-- the eight letters of `vibrusti`, the first one lowest
abbrev pub magic : ℕ
magic = 7598825419548289398

-- answers as numbers: the word that names the form, its version, the number of answers, and the answers
abbrev pub file_numbers : List Held → List ℕ
file_numbers hs = magic ∷ 1 ∷ length hs ∷ flat_map numbers_of hs

-- answers as bytes
abbrev pub file : List Held → List ℕ
file hs = written (file_numbers hs)
