use Rattle.std.proofs.Common.{length}
use Rattle.query.proofs.syntax.+read.Given as goal

abbrev pub decreases-read : goal.decreases-read
decreases-read l = length l.signs.now
