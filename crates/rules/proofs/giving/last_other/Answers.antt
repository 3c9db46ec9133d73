use Rattle.rules.proofs.Folds.{others_more, others_all}
use Rattle.rules.proofs.giving.last_other.Goals as goal

pub loop-setting-preserved : goal.loop-setting-preserved
loop-setting-preserved c =
    others_more _ _ _ c.args.settings.now c.loop-setting.setting-index _ c.loop-setting-test.true c.loop-setting.invariant
    c.next_other-other.ensures

pub returns : goal.returns
returns c = others_all _ _ c.args.settings.now c.loop-setting.setting-index c.loop-setting-test.false c.loop-setting.invariant
