use Rattle.std.proofs.Common.{vec_items}
use Rattle.circuit.specs.Store.{nodes_in}
use Rattle.circuit.specs.Held.{count_in}
use Rattle.semiring.proofs.Marking.{Asked, Marking}
use Rattle.semiring.proofs.needed.needed_by.Given as goal

abbrev pub invariant-loop-node : goal.invariant-loop-node
invariant-loop-node l = Asked (count_in l.store.nodes.now) (nodes_in l.store.nodes.now) l.asked l.node-index (vec_items l.needed)

abbrev pub invariant-loop-place : goal.invariant-loop-place
invariant-loop-place l = Marking (count_in l.store.nodes.now) (nodes_in l.store.nodes.now) l.asked l.place (vec_items l.needed)
