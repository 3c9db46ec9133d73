use Rattle.std.proofs.Common.{length, arith}
use Rattle.ways.proofs.Nothing.{names_within}
use Rattle.ways.proofs.root.Root.expand_next.Goals as goal

pub expand_node-requires : goal.expand_node-requires
expand_node-requires c =
    let l = c.args.self.counted in
    names_within _ c.args.self.store.sound (length c.args.made.now) _ (omega arith) (omega arith) _ c.node.ensures
