use Rattle.std.proofs.Common.{false, Some, None, refl, arith}
use Rattle.std.proofs.lemmas.Bool.Decides.{Decides-eqb, not_from_Decides}
use Rattle.std.proofs.lemmas.Slice.Eq.{slice_eq-Decides}
use Rattle.std.proofs.lemmas.Str.Pattern.{split_parts}
use Rattle.std.proofs.lemmas.Result.{err_from_is_err_and}
use Rattle.rules.proofs.Settings.{none_given, value_wrong, mark_wrong, mark_given}
use Rattle.rules.proofs.setting.SettingFromStr.from_str.Goals as goal

pub returns-in_err-name : goal.returns-in_err-name
returns-in_err-name c =
    let p = err_from_is_err_and c.from_residual.result c.from_residual.ensures.1 in
    let none = c.in_err-name.ensures.ok_part in
    let n = split_parts 61 c.args.word.now None (rw none at c.split_once.ensures.cases) (omega arith) in
    rw (p.1, p.2) (none_given c.args.word.now _ (rw none at c.in_err-name.ensures.value) n)

pub returns-in_err-value : goal.returns-in_err-value
returns-in_err-value c =
    let p = err_from_is_err_and c.from_residual-in_err-value.result c.from_residual-in_err-value.ensures.1 in
    let some = rw c.in_ok-name.ensures.ok_part at c.split_once.ensures.cases in
    let s = split_parts 61 c.args.word.now (Some (c.in_ok-name.name, c.in_ok-name.value)) some (omega arith) in
    rw (p.1, p.2) (value_wrong c.args.word.now _ _ s _ c.in_err-value.ensures)

pub returns-in_err-mark : goal.returns-in_err-mark
returns-in_err-mark c =
    let p = err_from_is_err_and c.from_residual-in_err-mark.result c.from_residual-in_err-mark.ensures.1 in
    let some = rw c.in_ok-name.ensures.ok_part at c.split_once.ensures.cases in
    let s = split_parts 61 c.args.word.now (Some (c.in_ok-name.name, c.in_ok-name.value)) some (omega arith) in
    rw (p.1, p.2) (mark_wrong c.args.word.now _ _ s _ (not_from_Decides false (slice_eq-Decides Decides-eqb _ _ _ c.if-eq.ensures) refl) c.in_err-mark.ensures)

pub returns : goal.returns
returns c =
    let some = rw c.in_ok-name.ensures.ok_part at c.split_once.ensures.cases in
    let s = split_parts 61 c.args.word.now (Some (c.in_ok-name.name, c.in_ok-name.value)) some (omega arith) in
    mark_given c.args.word.now _ _ s _ _ (not_from_Decides false (slice_eq-Decides Decides-eqb _ _ _ c.if-eq.ensures) refl) c.in_ok-mark.ensures c.in_ok-value.ensures
