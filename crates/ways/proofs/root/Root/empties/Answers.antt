use Rattle.std.proofs.Common.{◌≡◌, length, vec_items, ap, ◌∙◌, arith, rules}
use Rattle.ways.proofs.Nothing.{names_within, empties_more}
use Rattle.ways.proofs.root.Root.empties.Goals as goal

pub empty_node-none-requires : goal.empty_node-none-requires
empty_node-none-requires c =
    let l = c.args.self.counted in
    let e : length c.deref.result.now ≡ c.loop-place.place = ap length c.deref.ensures.value ∙ c.loop-place.invariant.long in
    names_within _ c.args.self.store.sound c.loop-place.place _ (omega arith) (omega arith) _ c.node.ensures

pub loop-place-preserved : goal.loop-place-preserved
loop-place-preserved c =
    let l = c.args.self.counted in
    empties_more _ c.args.self.store.sound c.loop-place.place (omega arith) (vec_items c.loop-place.empty) _ _
    _ c.loop-place.invariant c.in_ok-push.ensures.items c.node.ensures
    (search (rules, c.empty_node-none.ensures, c.deref.ensures.value))
