use Rattle.std.proofs.Common.{sym, ◌∙◌}
use Rattle.rewrite.proofs.Fronts.{ok_was, not_read, front_read, front_taken}
use Rattle.rewrite.proofs.signs.query_at.Goals as goal

pub returns-in_err-width : goal.returns-in_err-width
returns-in_err-width c =
    rw c.from_residual.ensures
    (not_read _ _ _ c.read_front.result (sym c.ok.ensures.value ∙ c.in_err-width.was) (c.read_front.ensures.agrees c.args.tables.whole))

pub returns : goal.returns
returns c ys q w after s e =
    let read = ok_was c.read_front.result _ (sym c.ok.ensures.value ∙ c.in_ok-width.was) in
    let k = front_read _ _ _ c.in_ok-width.field-0 (rw read at c.read_front.ensures.agrees c.args.tables.whole) ys q w after s e in
    record { signs = front_taken _ ys after _ e k.1; width = k.0; rest = k.1 }
