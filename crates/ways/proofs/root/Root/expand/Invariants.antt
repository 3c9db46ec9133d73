use Rattle.std.proofs.Common.{vec_items}
use Rattle.ways.proofs.Expanding.{Making}
use Rattle.ways.proofs.root.Root.expand.Given as goal

abbrev pub invariant-loop : goal.invariant-loop
invariant-loop l = Making l.self.store.nodes.now l.wanted (vec_items l.made) l.counter
