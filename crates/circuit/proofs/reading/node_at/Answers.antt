use Rattle.std.proofs.Common.{rules}
use Rattle.circuit.proofs.NodeCells.{held_past, held_read}
use Rattle.circuit.proofs.reading.node_at.Goals as goal

pub returns-then-not-has_room : goal.returns-then-not-has_room
returns-then-not-has_room c = let e = held_past c.args.nodes.now c.args.place (search rules) in rw e

pub returns-in_err-node : goal.returns-in_err-node
returns-in_err-node c =
    let held = held_read c.args.nodes.now c.args.place (search rules) in
    let read = c.read_node.ensures in
    let was = c.in_err-node.was in
    rw (held, ← read, was) c.from_residual.ensures

pub returns : goal.returns
returns c =
    let held = held_read c.args.nodes.now c.args.place (search rules) in
    let read = c.read_node.ensures in
    let was = c.in_ok-node.was in
    rw (held, ← read, was)
