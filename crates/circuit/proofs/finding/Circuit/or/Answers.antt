use Rattle.std.proofs.Common.{sym, ◌∙◌}
use Rattle.circuit.proofs.Joins.{or_simple}
use Rattle.circuit.proofs.finding.Circuit.or.Goals as goal

pub returns-in-Some-clause-joined : goal.returns-in-Some-clause-joined
returns-in-Some-clause-joined c = or_simple _ _ _ _ _ (sym c.or_is.ensures ∙ c.in-Some.is)
