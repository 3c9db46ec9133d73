use Rattle.semiring.proofs.Valuing.{ValuedBelow}
use Rattle.semiring.proofs.reading.check_marks.Given as goal

abbrev pub invariant-loop-place : goal.invariant-loop-place
invariant-loop-place l = ValuedBelow l.count l.store.nodes.now l.chosen l.place
