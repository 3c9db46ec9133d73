use Rattle.rows.specs.Notes.{anything}
use Rattle.rows.proofs.Noting.{goes_none}
use Rattle.rows.proofs.notes.UnannotatedAnnotate.mark.Goals as goal

pub returns-clause-goes : goal.returns-clause-goes
returns-clause-goes c = goes_none anything 1
