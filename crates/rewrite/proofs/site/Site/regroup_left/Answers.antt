use Rattle.rewrite.proofs.Turning.{no_product, unturned, not_there}
use Rattle.rewrite.proofs.Pairs.{left_there, right_unturned, regroup_left_made}
use Rattle.rewrite.proofs.site.Site.regroup_left.Goals as goal

pub returns-in_err-outer : goal.returns-in_err-outer
returns-in_err-outer c = rw c.from_residual.ensures (unturned (no_product c.in_err-outer.ensures _))

pub returns-in_err-left : goal.returns-in_err-left
returns-in_err-left c = rw c.from_residual-in_err-left.ensures (not_there (left_there c.in_ok-outer.ensures c.in_err-left.ensures))

pub returns-in_err-inner : goal.returns-in_err-inner
returns-in_err-inner c = rw c.from_residual-in_err-inner.ensures (right_unturned c.in_ok-outer.ensures c.in_ok-left.ensures (λ l. no_product c.in_err-inner.ensures _))

pub returns : goal.returns
returns c = regroup_left_made _ _ c.in_ok-outer.ensures c.in_ok-left.ensures _ _ c.in_ok-inner.ensures c.put.ensures
