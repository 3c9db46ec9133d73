use Rattle.std.proofs.Common.{ℕ, ◌<◌, get_or}
use Rattle.circuit.specs.Held.{count_in}
use Rattle.semiring.proofs.reading.check_nodes.Given as goal

abbrev pub invariant-loop-node : goal.invariant-loop-node
invariant-loop-node l = (j : ℕ) → j < l.node-index → get_or l.asked j 0 < count_in l.store.nodes.now
