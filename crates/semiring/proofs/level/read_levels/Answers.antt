use Rattle.std.proofs.lemmas.Result.{IfOk-weaker}
use Rattle.semiring.proofs.Meant.{levels_mean}
use Rattle.semiring.proofs.level.read_levels.Goals as goal

pub returns-clause-means : goal.returns-clause-means
returns-clause-means c = IfOk-weaker c.read.result _ _ (λ xs. levels_mean _ _ _ _ _) c.read.ensures.worth
