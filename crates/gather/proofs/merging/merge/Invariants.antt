use Rattle.std.proofs.Common.{◌+◌, map}
use Rattle.gather.specs.Gathered.{answer_of}
use Rattle.gather.proofs.Underway.{Merging}
use Rattle.gather.proofs.merging.merge.Given as goal

abbrev pub invariant-loop-entry : goal.invariant-loop-entry
invariant-loop-entry l = Merging (map answer_of l.entries) l.width l.initial.circuit l.circuit l.initial.out l.out (answer_of l.last) l.written (l.entry-index + 1)
