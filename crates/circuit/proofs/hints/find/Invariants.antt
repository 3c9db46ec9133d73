use Rattle.circuit.proofs.Found.{Seeking}
use Rattle.circuit.proofs.hints.find.Given as goal

abbrev pub invariant-loop-rest : goal.invariant-loop-rest
invariant-loop-rest l = Seeking l.nodes l.hints l.node l.rest

abbrev pub decreases-loop-rest : goal.decreases-loop-rest
decreases-loop-rest l = l.rest
