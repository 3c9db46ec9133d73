use Rattle.std.proofs.Common.{rules}
use Rattle.std.proofs.lemmas.Result.{IfOk-weaker}
use Rattle.codec.proofs.Texts.{parted_none, parted_some}
use Rattle.codec.proofs.output.push_parted.Goals as goal

pub returns-in_default : goal.returns-in_default
returns-in_default c = parted_none _ c.args.between.now c.args.numbers.now (search rules)

pub returns : goal.returns
returns c =
    IfOk-weaker c.push_led.result _ _
    (λ _ e. parted_some _ _ _ c.args.between.now c.args.numbers.now (search rules) c.in_ok-write.ensures.bytes e) c.push_led.ensures
