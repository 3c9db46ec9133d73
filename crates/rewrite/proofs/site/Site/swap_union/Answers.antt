use Rattle.rewrite.proofs.Turning.{no_union, unturned, not_there}
use Rattle.rewrite.proofs.Pairs.{left_there, right_there, swap_union_made}
use Rattle.rewrite.proofs.site.Site.swap_union.Goals as goal

pub returns-in_err-union : goal.returns-in_err-union
returns-in_err-union c = rw c.from_residual.ensures (unturned (no_union c.in_err-union.ensures _))

pub returns-in_err-left : goal.returns-in_err-left
returns-in_err-left c = rw c.from_residual-in_err-left.ensures (not_there (left_there c.in_ok-union.ensures c.in_err-left.ensures))

pub returns-in_err-right : goal.returns-in_err-right
returns-in_err-right c = rw c.from_residual-in_err-right.ensures (not_there (right_there c.in_ok-union.ensures c.in_ok-left.ensures c.in_err-right.ensures))

pub returns : goal.returns
returns c = swap_union_made _ _ _ _ c.in_ok-union.ensures c.in_ok-left.ensures c.in_ok-right.ensures c.put.ensures
