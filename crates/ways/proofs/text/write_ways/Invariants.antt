use Rattle.std.proofs.Common.{◌≡◌, ◌++◌, take, string_bytes}
use Rattle.polynomial.specs.Ways.{monomials}
use Rattle.ways.specs.Text.{ways_text}
use Rattle.ways.proofs.text.write_ways.Given as goal

abbrev pub invariant-loop-way : goal.invariant-loop-way
invariant-loop-way l = string_bytes l.text ≡ string_bytes l.initial.text ++ ways_text (monomials (take l.way-index l.ways))
