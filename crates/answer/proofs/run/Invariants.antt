use Rattle.std.proofs.Common.{length}
use Rattle.answer.proofs.run.Given as goal

-- each query takes some of the bytes that are left
abbrev pub decreases-loop-query : goal.decreases-loop-query
decreases-loop-query l = length l.rest
