use Rattle.std.proofs.Common.{◌+◌, ◌-◌, ◌*◌, min, length}
use Rattle.polynomial.proofs.room.Room.+multiply_ways.Given as goal

abbrev pub decreases-multiply_ways : goal.decreases-multiply_ways
decreases-multiply_ways l = 2 * (length l.a.now + length l.b.now) - min (length l.a.now) 2
