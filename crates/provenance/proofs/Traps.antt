-- The wrong readings, by computation. Assumes nothing.
use Rattle.std.proofs.Common.{refl}
use Rattle.provenance.specs.Ships.{given}
use Rattle.provenance.specs.Traps.{first_way, rows_used, once_each, as_sets, contained, contains_one, without_larger, stands_in, distinct, Traps}
use Rattle.provenance.proofs.Computed.{of_query, of_provenance}

pub traps_computed : Traps
unfolding of_query of_provenance given first_way rows_used once_each as_sets contained contains_one without_larger stands_in distinct
traps_computed = record {
  one_way_kept = (refl, refl);
  ways_in_one = (refl, refl);
  ways_as_sets = (refl, refl);
  larger_dropped = (refl, refl);
  number_forgotten = (refl, refl);
}
