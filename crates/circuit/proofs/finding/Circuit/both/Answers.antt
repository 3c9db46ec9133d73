use Rattle.std.proofs.Common.{sym, ◌∙◌}
use Rattle.circuit.proofs.Joins.{both_simple}
use Rattle.circuit.proofs.finding.Circuit.both.Goals as goal

pub returns-in-Some-clause-joined : goal.returns-in-Some-clause-joined
returns-in-Some-clause-joined c = both_simple _ _ _ _ _ (sym c.both_is.ensures ∙ c.in-Some.is)
