use Rattle.std.proofs.Common.{◌≡◌, drop}
use Rattle.rules.specs.Values.{values_of}
use Rattle.rules.proofs.giving.give_all.Given as goal

abbrev pub invariant-loop-setting : goal.invariant-loop-setting
invariant-loop-setting l = values_of l.values (drop l.setting-index l.settings) ≡ values_of l.initial.values l.settings
