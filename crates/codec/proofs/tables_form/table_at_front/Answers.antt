use Rattle.std.proofs.Common.{◌*◌, ◌≤◌, length, take, drop, ap, ◌∙◌, refl, arith}
use Rattle.std.proofs.lemmas.List.{take_rest, length-drop}
use Rattle.codec.specs.Input.{cells_in}
use Rattle.codec.proofs.Tables.{table_there}
use Rattle.codec.proofs.tables_form.table_at_front.Goals as goal

pub returns : goal.returns
returns c =
    let h = c.in_ok-cells.ensures.cases in
    let e = take_rest c.args.bytes.now 2 in
    let there : 8 * cells_in c.args.bytes.now ≤ length (drop 2 c.args.bytes.now) = rw e at h.0 in
    table_there c.args.bytes.now _ (omega arith) (omega arith) (omega arith) (omega arith) refl refl
    (omega (arith, length-drop 2 c.args.bytes.now)) (h.1 ∙ ap (take (8 * cells_in c.args.bytes.now)) e) h.3 (h.2 ∙ ap (drop (8 * cells_in c.args.bytes.now)) e)
