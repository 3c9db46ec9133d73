use Rattle.std.proofs.Common.{sym}
use Rattle.rewrite.proofs.Turning.{no_test, no_product, unturned, not_there}
use Rattle.rewrite.proofs.Pairs.{left_there}
use Rattle.rewrite.proofs.Moved.{below_there, below_unturned, not_behind, test_into_right_made}
use Rattle.rewrite.proofs.site.Site.test_into_right.Goals as goal

pub returns-in_err-selected : goal.returns-in_err-selected
returns-in_err-selected c = rw c.from_residual.ensures (unturned (no_test c.in_err-selected.ensures _))

pub returns-in_err-product : goal.returns-in_err-product
returns-in_err-product c = rw c.from_residual-in_err-product.ensures (below_unturned c.in_ok-selected.ensures (no_product c.in_err-product.ensures _))

pub returns-in_err-left : goal.returns-in_err-left
returns-in_err-left c = rw c.from_residual-in_err-left.ensures (not_there (below_there c.in_ok-selected.ensures (left_there c.in_ok-product.ensures c.in_err-left.ensures)))

pub returns-then-not-reads_behind : goal.returns-then-not-reads_behind
returns-then-not-reads_behind c = not_behind _ _ c.in_ok-selected.ensures c.in_ok-product.ensures c.in_ok-left.ensures (sym c.if-not-reads_behind.ensures)

pub returns : goal.returns
returns c =
    test_into_right_made _ _ c.in_ok-selected.ensures c.in_ok-product.ensures c.in_ok-left.ensures _ _ (sym c.if-not-reads_behind.ensures) c.moved_left-test.ensures c.from-moved.ensures.is c.put.ensures
