use Rattle.std.proofs.Common.{ℕ, ◌-◌, get_or, ap, arith, rules}
use Rattle.circuit.proofs.Linked.{link_down}
use Rattle.circuit.proofs.Found.{seeking_none, seeking_more, seeking_found, seeking_all}
use Rattle.circuit.proofs.hints.find.Goals as goal

pub returns-then-stands_at : goal.returns-then-stands_at
returns-then-stands_at c = seeking_found _ _ _ _ _ (omega arith) (omega arith) (search rules) c.loop-rest.invariant

pub loop-rest-init : goal.loop-rest-init
loop-rest-init c = seeking_none _ _ _ _ (ap (λ (s : ℕ). get_or c.args.hints.now s 0) c.slot.ensures.is)

pub loop-rest-smaller : goal.loop-rest-smaller
loop-rest-smaller c = let e = c.link-rest.ensures in let down = link_down c.args.hints.now (c.loop-rest.rest - 1) in omega arith

pub loop-rest-preserved : goal.loop-rest-preserved
loop-rest-preserved c =
    rw c.link-rest.ensures (seeking_more _ _ _ c.loop-rest.rest (c.loop-rest.rest - 1) (omega arith) (λ s. search rules) c.loop-rest.invariant)

pub returns : goal.returns
returns c = seeking_all _ _ _ _ (omega arith) c.loop-rest.invariant
