use Rattle.std.proofs.Common.{vec_items}
use Rattle.ways.proofs.Flattened.{Written}
use Rattle.ways.proofs.flat.numbers.Given as goal

abbrev pub invariant-loop-way : goal.invariant-loop-way
invariant-loop-way l = Written l.ways l.way-index (vec_items l.out)
