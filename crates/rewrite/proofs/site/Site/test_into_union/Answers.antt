use Rattle.rewrite.proofs.Turning.{no_test, no_union, unturned, not_there}
use Rattle.rewrite.proofs.Pairs.{left_there}
use Rattle.rewrite.proofs.Moved.{below_there, below_unturned, test_into_union_made}
use Rattle.rewrite.proofs.site.Site.test_into_union.Goals as goal

pub returns-in_err-selected : goal.returns-in_err-selected
returns-in_err-selected c = rw c.from_residual.ensures (unturned (no_test c.in_err-selected.ensures _))

pub returns-in_err-union : goal.returns-in_err-union
returns-in_err-union c = rw c.from_residual-in_err-union.ensures (below_unturned c.in_ok-selected.ensures (no_union c.in_err-union.ensures _))

pub returns-in_err-left : goal.returns-in_err-left
returns-in_err-left c = rw c.from_residual-in_err-left.ensures (not_there (below_there c.in_ok-selected.ensures (left_there c.in_ok-union.ensures c.in_err-left.ensures)))

pub returns : goal.returns
returns c = test_into_union_made _ _ c.in_ok-selected.ensures _ _ c.in_ok-union.ensures c.in_ok-left.ensures c.put.ensures
