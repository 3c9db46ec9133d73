-- Two semirings as one, in which each goes by itself. Assumes nothing: these are definitions.
use Rattle.semiring.specs.Algebra.{Algebra}

-- pairs are added and multiplied part by part
abbrev pub paired : {V W : Type 0} → Algebra V → Algebra W → Algebra (V × W)
paired a b = record {
  zero = (a.zero, b.zero);
  one = (a.one, b.one);
  plus = λ x y. (a.plus x.0 y.0, b.plus x.1 y.1);
  times = λ x y. (a.times x.0 y.0, b.times x.1 y.1);
  lawful = λ x. a.lawful x.0 × b.lawful x.1;
  fits = λ x. a.fits x.0 × b.fits x.1;
  taken = λ x. (a.taken x.0, b.taken x.1);
}
