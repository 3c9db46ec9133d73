use Rattle.std.proofs.Common.{◌≤◌, length, vec_items, vec_capacity}
use Rattle.semiring.proofs.Picking.{Picking}
use Rattle.semiring.proofs.reading.pick.Given as goal

abbrev pub invariant-loop-node : goal.invariant-loop-node
invariant-loop-node g l =
    record { room : length l.asked ≤ vec_capacity l.picked; so_far : Picking l.done l.asked l.node-index (vec_items l.picked) }
