use Rattle.std.proofs.Common.{arith}
use Rattle.std.proofs.lemmas.Result.{IfOk-weaker}
use Rattle.semiring.proofs.Meant.{sets_mean}
use Rattle.semiring.proofs.cases.read_sets.Goals as goal

pub returns-clause-means : goal.returns-clause-means
returns-clause-means c = IfOk-weaker c.read.result _ _ (λ xs. sets_mean _ _ _ _ (λ k. let h = c.type_inv.values k in omega arith)) c.read.ensures.worth
