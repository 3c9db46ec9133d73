-- What the programs print, as bytes. Assumes nothing: these are definitions.
use Rattle.std.specs.Prelude.{ℕ, List, [], ◌∷◌, ◌++◌, codes, decimal}

-- a refusal by its number and its place
abbrev pub refused_line : ℕ → ℕ → List ℕ
refused_line number place = codes "refused " ++ (decimal number ++ (codes " at " ++ decimal place))

-- each number in decimal, with the bytes b before it
unfoldable pub led : List ℕ → List ℕ → List ℕ
led b [] = []
led b (n ∷ ns) = b ++ decimal n ++ led b ns

-- numbers in decimal, with the bytes b between them
unfoldable pub parted : List ℕ → List ℕ → List ℕ
parted b [] = []
parted b (n ∷ ns) = decimal n ++ led b ns
