-- Two lawful semirings are one, part by part. Assumes nothing.
use Rattle.query.specs.Semiring.{Lawful}
use Rattle.semiring.specs.Algebra.{Algebra, semiring}
use Rattle.pair.specs.Pairs.{paired}

pub paired_lawful : {V W : Type 0} (a : Algebra V) (b : Algebra W) → Lawful (semiring a) a.lawful → Lawful (semiring b) b.lawful →
    Lawful (semiring (paired a b)) (paired a b).lawful
paired_lawful a b l r = record {
  zero_in = (l.zero_in, r.zero_in);
  one_in = (l.one_in, r.one_in);
  plus_in = λ x y X Y. (l.plus_in x.0 y.0 X.0 Y.0, r.plus_in x.1 y.1 X.1 Y.1);
  times_in = λ x y X Y. (l.times_in x.0 y.0 X.0 Y.0, r.times_in x.1 y.1 X.1 Y.1);
  plus_swap = λ x y X Y i. (l.plus_swap x.0 y.0 X.0 Y.0 i, r.plus_swap x.1 y.1 X.1 Y.1 i);
  plus_group = λ x y z X Y Z i.
      (l.plus_group x.0 y.0 z.0 X.0 Y.0 Z.0 i, r.plus_group x.1 y.1 z.1 X.1 Y.1 Z.1 i);
  plus_zero = λ x X i. (l.plus_zero x.0 X.0 i, r.plus_zero x.1 X.1 i);
  times_swap = λ x y X Y i. (l.times_swap x.0 y.0 X.0 Y.0 i, r.times_swap x.1 y.1 X.1 Y.1 i);
  times_group = λ x y z X Y Z i.
      (l.times_group x.0 y.0 z.0 X.0 Y.0 Z.0 i, r.times_group x.1 y.1 z.1 X.1 Y.1 Z.1 i);
  times_one = λ x X i. (l.times_one x.0 X.0 i, r.times_one x.1 X.1 i);
  times_zero = λ x X i. (l.times_zero x.0 X.0 i, r.times_zero x.1 X.1 i);
  spread = λ x y z X Y Z i. (l.spread x.0 y.0 z.0 X.0 Y.0 Z.0 i, r.spread x.1 y.1 z.1 X.1 Y.1 Z.1 i);
}
