use Rattle.std.proofs.Common.{◌+◌, length, vec_items}
use Rattle.provenance.specs.Polynomial.{sum}
use Rattle.polynomial.specs.Ways.{monomials}
use Rattle.polynomial.specs.Told.{poly}
use Rattle.polynomial.proofs.AddLoop.{Joining}
use Rattle.polynomial.proofs.room.Room.add.Given as goal

abbrev pub invariant-loop-ways : goal.invariant-loop-ways
invariant-loop-ways l =
    Joining (sum (poly l.fn.p) (poly l.fn.q)) l.self.numbers (monomials (vec_items l.ways)) l.size l.a.items l.b.items

abbrev pub decreases-loop-ways : goal.decreases-loop-ways
decreases-loop-ways l = length l.a.items + length l.b.items
