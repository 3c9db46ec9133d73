use Rattle.std.proofs.Common.{[], ◌∷◌, ◌++◌, length, drop, ◌∙◌, ap₂}
use Rattle.query.specs.Query.{cells}
use Rattle.rewrite.proofs.Turning.{no_project, unturned, not_there}
use Rattle.rewrite.proofs.Moved.{below_there, below_unturned}
use Rattle.rewrite.proofs.Kept.{few_kept, join_projections_made}
use Rattle.rewrite.proofs.site.Site.join_projections.Goals as goal

pub returns-in_err-outer : goal.returns-in_err-outer
returns-in_err-outer c = rw c.from_residual.ensures (unturned (no_project c.in_err-outer.ensures _))

pub returns-in_err-inner : goal.returns-in_err-inner
returns-in_err-inner c = rw c.from_residual-in_err-inner.ensures (below_unturned c.in_ok-outer.ensures (no_project c.in_err-inner.ensures _))

pub returns-in_err-kept_columns : goal.returns-in_err-kept_columns
returns-in_err-kept_columns c = rw c.from_residual-in_err-kept_columns.ensures (not_there (few_kept c.in_ok-outer.ensures c.in_err-kept_columns.ensures))

pub returns-in_err-kept_columns-2 : goal.returns-in_err-kept_columns-2
returns-in_err-kept_columns-2 c = rw c.from_residual-in_err-kept_columns-2.ensures (not_there (below_there c.in_ok-outer.ensures (few_kept c.in_ok-inner.ensures c.in_err-kept_columns-2.ensures)))

pub returns : goal.returns
returns c =
    join_projections_made _ _ _ _ _ c.in_ok-outer.ensures c.in_ok-inner.ensures c.from-joined.ensures.is
    (c.keep_cells.ensures
    ∙ ap₂ (λ ds cs. cells ds cs ++ drop (length c.in_ok-kept_columns.field-0.now) (0 ∷ 0 ∷ 0 ∷ 0 ∷ [])) c.in_ok-kept_columns.ensures c.in_ok-kept_columns-2.ensures)
    c.put.ensures
