use Rattle.std.proofs.Common.{vec_items}
use Rattle.ways.proofs.Wanting.{Wanting}
use Rattle.ways.proofs.root.Root.wants.Given as goal

abbrev pub invariant-loop-place : goal.invariant-loop-place
invariant-loop-place l = Wanting l.self.store.nodes.now l.self.node (vec_items l.wanted) l.place
