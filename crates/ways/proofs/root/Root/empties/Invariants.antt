use Rattle.std.proofs.Common.{vec_items}
use Rattle.ways.specs.Passes.{Empties}
use Rattle.ways.proofs.root.Root.empties.Given as goal

abbrev pub invariant-loop-place : goal.invariant-loop-place
invariant-loop-place l = Empties l.self.store.nodes.now l.place (vec_items l.empty)
