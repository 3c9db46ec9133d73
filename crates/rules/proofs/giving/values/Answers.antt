use Rattle.std.proofs.Common.{replicate, ap, ◌∙◌}
use Rattle.rules.proofs.Folds.{all_given}
use Rattle.rules.proofs.giving.values.Goals as goal

pub returns : goal.returns
returns c =
    all_given _ _ _ _ _ c.args.settings.now c.give_all.ensures c.as_mut_slice.ensures.value
    (c.in_ok-values.ensures.items_if_clones_equal (λ y e. e) ∙ ap (replicate 7424) c.last_other-other.ensures) c.in_ok-values.values.ok.0
