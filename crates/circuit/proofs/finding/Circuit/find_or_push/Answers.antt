use Rattle.circuit.proofs.Found.{found_hinted, added_hinted}
use Rattle.circuit.proofs.finding.Circuit.find_or_push.Goals as goal

pub returns-in-Some-clause-found : goal.returns-in-Some-clause-found
returns-in-Some-clause-found c = found_hinted _ _ _ _ c.in-Some.ensures

pub returns-clause-found : goal.returns-clause-found
returns-clause-found c = rw c.add_hint.ensures (added_hinted _ _ _ _ _ c.in_default.ensures c.in_ok-place.ensures)
