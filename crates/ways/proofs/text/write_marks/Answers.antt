use Rattle.std.proofs.Common.{◌≡◌, ◌<◌, length, arith}
use Rattle.std.proofs.lemmas.Result.{IfOk-weaker}
use Rattle.std.proofs.lemmas.Bool.Decides.{nat_tests}
use Rattle.ways.proofs.Lines.{marks_none, marks_some}
use Rattle.ways.proofs.text.write_marks.Goals as goal

pub returns-then-is_empty : goal.returns-then-is_empty
returns-then-is_empty c =
    let h : length c.args.marks.now ≡ 0 = grind (arith, nat_tests) in
    IfOk-weaker c.write.result _ _ (λ _ e. marks_none _ _ c.args.marks.now h e) c.write.ensures.bytes

pub returns : goal.returns
returns c =
    let h : 0 < length c.args.marks.now = grind (arith, nat_tests) in
    IfOk-weaker c.push_parted.result _ _ (λ _ e. marks_some _ _ c.args.marks.now h e) c.push_parted.ensures
