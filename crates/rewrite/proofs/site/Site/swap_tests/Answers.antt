use Rattle.rewrite.proofs.Turning.{no_test, unturned}
use Rattle.rewrite.proofs.Moved.{below_unturned, swap_tests_made}
use Rattle.rewrite.proofs.site.Site.swap_tests.Goals as goal

pub returns-in_err-outer : goal.returns-in_err-outer
returns-in_err-outer c = rw c.from_residual.ensures (unturned (no_test c.in_err-outer.ensures _))

pub returns-in_err-inner : goal.returns-in_err-inner
returns-in_err-inner c = rw c.from_residual-in_err-inner.ensures (below_unturned c.in_ok-outer.ensures (no_test c.in_err-inner.ensures _))

pub returns : goal.returns
returns c = swap_tests_made _ _ c.in_ok-outer.ensures _ _ c.in_ok-inner.ensures c.put.ensures
