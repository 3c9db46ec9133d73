use Rattle.stored.proofs.RoundTrip.{round_trip}
use Rattle.stored.proofs.round_trip.reads_back.Goals as goal

pub returns : goal.returns
returns c = round_trip
