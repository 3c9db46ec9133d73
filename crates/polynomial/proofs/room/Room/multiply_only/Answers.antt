use Rattle.polynomial.proofs.ProductSplit.{product_rise}
use Rattle.polynomial.proofs.room.Room.multiply_only.Goals as goal

pub only-requires-clause-rises : goal.only-requires-clause-rises
only-requires-clause-rises c =
    rw (c.in_ok-marks.ensures, c.deref.ensures.value, c.deref-2.ensures.value) (product_rise _ _ c.requires.right)
