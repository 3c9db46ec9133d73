-- How a row and what it is worth are written, as bytes. Assumes nothing: these are definitions.
use Rattle.std.specs.Prelude.{ℕ, List, ◌++◌, codes, decimal, Some, None, Option}
use Rattle.codec.specs.Output.{parted}

-- a number, or none
abbrev pub worth_text : Option ℕ → List ℕ
worth_text None = codes ": none"
worth_text (Some n) = codes ": " ++ decimal n

-- the cells with blanks between them, and what the row is worth
abbrev pub line_text : List ℕ → Option ℕ → List ℕ
line_text cells worth = parted (codes " ") cells ++ worth_text worth
