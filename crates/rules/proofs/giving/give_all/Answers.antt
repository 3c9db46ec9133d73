use Rattle.rules.proofs.Folds.{values_more, values_all}
use Rattle.rules.proofs.giving.give_all.Goals as goal

pub loop-setting-preserved : goal.loop-setting-preserved
loop-setting-preserved c =
    values_more _ _ _ c.args.settings.now c.loop-setting.setting-index _ c.loop-setting-test.true c.loop-setting.invariant c.give.ensures

pub returns : goal.returns
returns c = values_all _ _ c.args.settings.now c.loop-setting.setting-index c.loop-setting-test.false c.loop-setting.invariant
