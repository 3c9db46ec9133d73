use Rattle.std.proofs.Common.{add-one, arith}
use Rattle.std.proofs.lemmas.Bool.Decides.{nat_tests}
use Rattle.std.proofs.lemmas.Bool.{lt-ltb}
use Rattle.circuit.specs.Hints.{hints_with, half}
use Rattle.circuit.proofs.hints.add_hint.Goals as goal

pub returns-then-place-half : goal.returns-then-place-half
unfolding hints_with
returns-then-place-half c = grind (arith, nat_tests)

pub returns : goal.returns
unfolding hints_with
returns c = rw (c.slot-slot.ensures.is, lt-ltb c.args.place (half c.args.hints.now) c.if-place-half.false, add-one)
