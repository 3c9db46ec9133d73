use Rattle.std.proofs.Common.{ap, ◌∙◌}
use Rattle.provenance.specs.Rewriting.{through}
use Rattle.query.specs.Operators.{test_of}
use Rattle.rewrite.proofs.Turning.{no_test, no_project, unturned, not_there}
use Rattle.rewrite.proofs.Moved.{below_there, below_unturned}
use Rattle.rewrite.proofs.Kept.{few_kept, test_below_projection_made}
use Rattle.rewrite.proofs.site.Site.test_below_projection.Goals as goal

pub returns-in_err-selected : goal.returns-in_err-selected
returns-in_err-selected c = rw c.from_residual.ensures (unturned (no_test c.in_err-selected.ensures _))

pub returns-in_err-projected : goal.returns-in_err-projected
returns-in_err-projected c = rw c.from_residual-in_err-projected.ensures (below_unturned c.in_ok-selected.ensures (no_project c.in_err-projected.ensures _))

pub returns-in_err-columns : goal.returns-in_err-columns
returns-in_err-columns c = rw c.from_residual-in_err-columns.ensures (not_there (below_there c.in_ok-selected.ensures (few_kept c.in_ok-projected.ensures c.in_err-columns.ensures)))

pub returns : goal.returns
returns c =
    test_below_projection_made _ _ _ _ c.in_ok-selected.ensures c.in_ok-projected.ensures c.from-moved.ensures.is
    (c.test_through-test.ensures ∙ ap (λ cs. through cs (test_of c.in_ok-selected.selected.test)) c.in_ok-columns.ensures) c.put.ensures
