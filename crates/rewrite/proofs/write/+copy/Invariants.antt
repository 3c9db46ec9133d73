use Rattle.std.proofs.Common.{length}
use Rattle.rewrite.proofs.write.+copy.Given as goal

abbrev pub decreases-copy : goal.decreases-copy
decreases-copy l = length l.parts.now
