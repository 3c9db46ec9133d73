use Rattle.std.proofs.Common.{arith}
use Rattle.std.proofs.lemmas.Bool.Decides.{nat_tests}
use Rattle.circuit.specs.Hints.{link_of}
use Rattle.circuit.proofs.hints.link.Goals as goal

pub returns-then-place-half : goal.returns-then-place-half
unfolding link_of
returns-then-place-half c = grind (arith, nat_tests)

pub returns-then-link-place : goal.returns-then-link-place
unfolding link_of
returns-then-link-place c = grind (arith, nat_tests)

pub returns-else-link-place : goal.returns-else-link-place
unfolding link_of
returns-else-link-place c = grind (arith, nat_tests)
