use Rattle.std.proofs.Common.{◌≡◌, ℕ, ◌<◌, true, is_some}
use Rattle.circuit.specs.Held.{node_held}
use Rattle.circuit.proofs.reading.check_store.Given as goal

abbrev pub invariant-loop-place : goal.invariant-loop-place
invariant-loop-place l = (k : ℕ) → k < l.place → is_some (node_held l.nodes k) ≡ true
