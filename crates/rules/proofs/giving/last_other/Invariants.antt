use Rattle.std.proofs.Common.{◌≡◌, drop}
use Rattle.rules.specs.Values.{others}
use Rattle.rules.proofs.giving.last_other.Given as goal

abbrev pub invariant-loop-setting : goal.invariant-loop-setting
invariant-loop-setting l = others l.other (drop l.setting-index l.settings) ≡ others l.default l.settings
