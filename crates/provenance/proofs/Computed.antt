-- The definitions of a query, its provenance and its ways, opened under one name, so that an example computes. Assumes nothing.
use Rattle.tables.specs.Tables.{before, same_row}
use Rattle.query.specs.Query.{passes, cells, annotated, selected, projected, beside, paired, run, total, worth}
use Rattle.query.specs.Weight.{weight}
use Rattle.circuit.specs.Expr.{value, provenance}
use Rattle.circuit.specs.Store.{expr_at, expr_of}
use Rattle.provenance.specs.Polynomial.{put_mark, merged, put_monomial, sum, scaled, multiplied, normal, marks_value, times_over, normal_value}
use Rattle.provenance.specs.Ways.{time_beside, times_paired, times, often}

unfoldable pub of_query : Unit {0}
unfolding before same_row passes cells annotated selected projected beside paired run total worth weight
of_query = tt

unfoldable pub of_provenance : Unit {0}
unfolding value provenance expr_at expr_of put_mark merged put_monomial sum scaled multiplied normal marks_value times_over normal_value
of_provenance = tt

unfoldable pub of_ways : Unit {0}
unfolding time_beside times_paired times often
of_ways = tt
