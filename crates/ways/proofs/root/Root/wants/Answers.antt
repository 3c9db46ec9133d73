use Rattle.std.proofs.Common.{◌≡◌, ◌+◌, ◌-◌, ◌<◌, ◌≤◌, Bool, true, false, not, List, vec_items, length, get_or, set, replicate, sym, refl, ap, ◌∙◌, subst, arith}
use Rattle.std.proofs.lemmas.List.{take_at, get_or_read}
use Rattle.ways.specs.Passes.{wanted_with}
use Rattle.ways.proofs.Nothing.{names_within}
use Rattle.ways.proofs.Wanting.{Wanting, wanting_start, wanting_all, wanting_at, step_skip, step_more}
use Rattle.ways.proofs.root.Root.wants.Goals as goal

pub loop-place-init : goal.loop-place-init
loop-place-init c =
    let n = c.requires.long in
    let b : vec_items c.in_ok-wanted.wanted ≡ replicate (length c.args.empty.now) false = c.in_ok-wanted.ensures.items_if_clones_equal (λ y e. e) in
    wanting_at refl (sym n)
    (wanting_start _ c.args.self.node c.args.empty.now c.requires _
    (ap (λ (ws : List Bool). set ws c.args.self.node (not (get_or c.args.empty.now c.args.self.node false))) (b ∙ ap (λ m. replicate m false) n)))

pub index-requires : goal.index-requires
index-requires c =
    omega (arith, c.loop-place.invariant.long, c.requires.long, c.loop-place.auto.place, c.loop-place.wanted.ok.0)

pub want_named-requires : goal.want_named-requires
want_named-requires c =
    let l = c.loop-place.invariant.long in
    let n = c.args.self.counted in
    let d = c.deref_mut.ensures.len in
    let w = c.loop-place.wanted.ok.0 in
    let h : c.loop-place.place ≤ c.args.self.node + 1 = omega (arith, c.requires.long, c.loop-place.auto.place) in
    record {
      wants = names_within _ c.args.self.store.sound (c.loop-place.place - 1) _ (omega arith) (omega arith) _ c.node.ensures;
      empties = names_within _ c.args.self.store.sound (c.loop-place.place - 1) _ (omega arith) (omega (arith, c.requires.long)) _ c.node.ensures;
    }

pub loop-place-preserved-then-index : goal.loop-place-preserved-then-index
loop-place-preserved-then-index c =
    let n = c.args.self.counted in
    let l : c.loop-place.place - 1 < length (vec_items c.loop-place.wanted) = omega (arith, c.loop-place.invariant.long, c.requires.long, c.loop-place.auto.place) in
    let t : get_or (vec_items c.loop-place.wanted) (c.loop-place.place - 1) false ≡ true = sym (get_or_read _ _ _ l c.index.ensures false) ∙ c.if-index.true in
    subst (λ (z : List Bool). Wanting c.args.self.store.nodes.now c.args.self.node z (c.loop-place.place - 1))
    (sym (take_at c.want_named.new.wanted _ c.loop-place.wanted.len (omega (arith, c.want_named.auto.wanted, c.deref_mut.ensures.len))))
    (step_more _ _ _ _ c.loop-place.place c.requires c.loop-place.invariant (omega arith)
    (omega (arith, c.requires.long, c.loop-place.auto.place)) c.args.self.store.sound n t _ c.node.ensures _
    (c.want_named.ensures ∙ ap (wanted_with c.args.empty.now c.node.result) c.deref_mut.ensures.value))

pub loop-place-preserved : goal.loop-place-preserved
loop-place-preserved c =
    let l : c.loop-place.place - 1 < length (vec_items c.loop-place.wanted) = omega (arith, c.loop-place.invariant.long, c.requires.long, c.loop-place.auto.place) in
    step_skip _ _ _ _ c.loop-place.place c.requires c.loop-place.invariant (omega arith)
    (omega (arith, c.requires.long, c.loop-place.auto.place)) (sym (get_or_read _ _ _ l c.index.ensures false) ∙ c.if-index.false)

pub returns : goal.returns
returns c = wanting_all _ _ _ (wanting_at refl (omega arith) c.loop-place.invariant)
