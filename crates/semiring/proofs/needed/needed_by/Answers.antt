use Rattle.std.proofs.Common.{◌≡◌, ◌-◌, true, false, get_or, refl, arith, rules}
use Rattle.std.proofs.lemmas.List.{get_or_read}
use Rattle.semiring.proofs.Marking.{asked_more, marking_more, marking_all, turn_below}
use Rattle.semiring.proofs.needed.needed_by.Goals as goal

pub loop-node-preserved : goal.loop-node-preserved
loop-node-preserved c =
    asked_more _ _ _ c.loop-node.node-index _ _ c.loop-node-test.true (c.requires.there _ c.loop-node-test.true) refl c.loop-node.invariant

pub index_mut-requires-in-Or : goal.index_mut-requires-in-Or
index_mut-requires-in-Or c =
    let below = turn_below _ c.requires.sound c.loop-place.place _ _ (omega arith) (omega arith) _ c.node.ensures c.in-Or.is in
    omega arith

pub index_mut-requires-in-Or-2 : goal.index_mut-requires-in-Or-2
index_mut-requires-in-Or-2 c =
    let below = turn_below _ c.requires.sound c.loop-place.place _ _ (omega arith) (omega arith) _ c.node.ensures c.in-Or.is in
    omega arith

pub loop-place-preserved : goal.loop-place-preserved
loop-place-preserved c =
    let here : get_or c.loop-place.needed.items (c.loop-place.place - 1) false ≡ true = search (rules, get_or_read) in
    marking_more _ c.requires.sound c.loop-place.place _ _ (omega arith) (omega arith) _ c.node.ensures c.in-Or.is
    _ _ c.loop-place.invariant here

pub returns : goal.returns
returns c = marking_all _ _ _ _ c.loop-place.place (omega arith) c.loop-place.invariant
