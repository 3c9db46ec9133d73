use Rattle.std.proofs.Common.{ℕ, zero, suc, ◌<◌, refl, arith}
use Rattle.circuit.specs.Store.{readable, node_in, nodes_from}
use Rattle.circuit.specs.Held.{node_read, node_held}
use Rattle.gather.specs.Gathered.{rows_apart}
use Rattle.gather.proofs.tests.equal_rows_come_together.Goals as goal

below_five : (P : ℕ → Type 0) → P 0 → P 1 → P 2 → P 3 → P 4 → (i : ℕ) → i < 5 → P i
below_five P a b c d e zero h = a
below_five P a b c d e (suc zero) h = b
below_five P a b c d e (suc (suc zero)) h = c
below_five P a b c d e (suc (suc (suc zero))) h = d
below_five P a b c d e (suc (suc (suc (suc zero)))) h = e
below_five P a b c d e (suc (suc (suc (suc (suc i))))) h = absurd (omega arith)

-- five marks, and rows that name them
pub gather-requires : goal.gather-requires
unfolding rows_apart node_held node_read readable node_in nodes_from
gather-requires b c = record {
  few = omega arith;
  within = (omega arith, omega arith);
  ready = record {
    proper = record { sound = record { long = omega arith; each = below_five _ refl refl refl refl refl }; each = below_five _ refl refl refl refl refl };
    known = (omega arith, (omega arith, (omega arith, (omega arith, (omega arith, tt)))));
    nodes = omega arith;
    space = omega arith;
  };
}
