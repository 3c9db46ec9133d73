use Rattle.std.proofs.Common.{sym, ◌∙◌}
use Rattle.circuit.proofs.NodeLists.{held_placed, sound_held}
use Rattle.circuit.proofs.store.Store.node.Goals as goal

pub returns : goal.returns
returns c =
    let known = sound_held c.args.self.nodes.now c.args.self.sound c.args.place c.requires in
    let held = held_placed c.args.self.nodes.now c.args.place c.unwrap.result (sym c.node_at.ensures ∙ c.unwrap.ensures) in
    cc
