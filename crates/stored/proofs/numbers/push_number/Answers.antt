use Rattle.std.proofs.Common.{ℕ, List, ◌++◌, vec_items, ap, ◌∙◌}
use Rattle.stored.proofs.Written.{eight_bytes, extended}
use Rattle.stored.proofs.numbers.push_number.Goals as goal

pub returns : goal.returns
returns c =
    extended c.extend_from_slice.result _ _ _ _ c.extend_from_slice.ensures.items
    (ap (λ (z : List ℕ). vec_items c.args.bytes.now ++ z) (c.to_le_bytes.ensures ∙ eight_bytes c.args.number))
