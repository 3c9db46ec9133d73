use Rattle.gather.proofs.Joining.{joined_extends}
use Rattle.gather.proofs.merging.join.Goals as goal

pub returns-clause-store : goal.returns-clause-store
returns-clause-store c = joined_extends _ _ _ _ c.args.a c.args.b _ (rw c.unwrap.ensures at c.or.ensures.joined) c.requires.store c.requires.counted
