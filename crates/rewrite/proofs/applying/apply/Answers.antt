use Rattle.std.proofs.Common.{sym, ◌∙◌, subst, arith}
use Rattle.tables.specs.Tables.{widths_in}
use Rattle.query.proofs.Inverse.{parse_ok}
use Rattle.rewrite.specs.Outcome.{Steps}
use Rattle.rewrite.proofs.Fronts.{ok_was}
use Rattle.rewrite.proofs.Whole.{beyond, whole_step}
use Rattle.rewrite.proofs.applying.apply.Goals as goal

pub returns-then-place-signs : goal.returns-then-place-signs
returns-then-place-signs c = beyond c.args.tables.now c.args.signs.now c.args.step c.args.place c.args.into.now (omega arith)

pub returns : goal.returns
returns c =
    let (same, fits) = rw (ok_was c.fit.result c.in_ok-tables.tables (sym c.ok.ensures.value ∙ c.in_ok-tables.was)) at c.fit.ensures in
    let read = ok_was c.parse.result c.in_ok-ok.field-0 (sym c.ok-2.ensures.value ∙ c.in_ok-ok.was) in
    let m = c.in_ok-tables.tables.memory.now in
    let f = c.in_ok-tables.tables.whole in
    let p = parse_ok (widths_in m) c.args.signs.now _ (rw read at c.parse.ensures f) in
    subst (λ m. Steps m c.args.signs.now c.args.step c.args.place c.args.into.now c.make.new.into c.make.result) same
    (whole_step m c.args.signs.now c.args.step c.args.place c.args.into.now f p.0 _ p.1 _ _ (omega arith)
    c.split_at.ensures.front c.split_at.ensures.back _ c.make.result c.make.ensures)
