use Rattle.std.proofs.lemmas.Result.{IfOk-weaker}
use Rattle.semiring.proofs.Meant.{prices_mean}
use Rattle.semiring.proofs.price.read_prices.Goals as goal

pub returns-clause-means : goal.returns-clause-means
returns-clause-means c = IfOk-weaker c.read.result _ _ (λ xs. prices_mean _ _ _ _) c.read.ensures.worth
