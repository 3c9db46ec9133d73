use Rattle.std.proofs.Common.{◌≤◌, length, vec_items, vec_capacity}
use Rattle.semiring.specs.Parts.{Evaluated}
use Rattle.semiring.proofs.reading.evaluate_chosen.Given as goal

abbrev pub invariant-loop-place : goal.invariant-loop-place
invariant-loop-place g l = record {
  room : length l.chosen ≤ vec_capacity l.done;
  so_far : Evaluated (g.S.Semiring.algebra l.semiring) l.values l.store.nodes.now l.chosen l.place (vec_items l.done);
}
