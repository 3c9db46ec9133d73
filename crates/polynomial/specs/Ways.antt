-- A polynomial of the code, read as one of the theory. Assumes nothing: these are definitions.
use Rattle.std.specs.Prelude.{◌*◌, List, map, vec_items}
use Rattle.provenance.specs.Polynomial.{Monomial, merged}
use Rattle.polynomial.specs.declared.Way.{Way}

abbrev pub monomial : Way → Monomial
monomial w = record { count = w.count; marks = vec_items w.marks }

abbrev pub monomials : List Way → List Monomial
monomials ws = map monomial ws

-- the product of two monomials
abbrev pub times : Monomial → Monomial → Monomial
times m x = record { count = m.count * x.count; marks = merged m.marks x.marks }
