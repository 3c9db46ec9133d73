use Rattle.tables.proofs.Places.{Reached}
use Rattle.tables.proofs.layout.find.Given as goal

abbrev pub invariant-loop-passed : goal.invariant-loop-passed
invariant-loop-passed l = Reached l.memory l.passed l.rest
