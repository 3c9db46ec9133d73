use Rattle.std.proofs.lemmas.Result.{IfOk-weaker}
use Rattle.semiring.proofs.Meant.{counts_mean}
use Rattle.semiring.proofs.count.read_counts.Goals as goal

pub returns-clause-means : goal.returns-clause-means
returns-clause-means c = IfOk-weaker c.read.result _ _ (λ xs. counts_mean _ _ _ _) c.read.ensures.worth
