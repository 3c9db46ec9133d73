use Rattle.semiring.proofs.Valuing.{valued_all}
use Rattle.semiring.proofs.reading.check_marks.Goals as goal

pub returns : goal.returns
returns c = valued_all _ _ _ c.loop-place.place c.loop-place.invariant c.loop-place-test.false
