use Rattle.rows.proofs.Storing.{put_goes}
use Rattle.rows.proofs.store.CircuitAnnotate.both.Goals as goal

pub returns-clause-goes : goal.returns-clause-goes
returns-clause-goes c =
    let told = c.place_of.ensures in
    put_goes c.args.self.now c.place_of.new.circuit _ c.place_of.result told.put told.shares told.memory (c.requires.meant.0.1.counted, c.requires.meant.1.1.counted) c.requires.can.room
