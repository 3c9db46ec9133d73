use Rattle.std.proofs.Common.{◌≡◌, ◌^◌, ◌<◌, List, [], ◌∷◌, ◌++◌, length, vec_items, sym, ap, ◌∙◌, subst, true, arith, rules}
use Rattle.std.proofs.lemmas.List.{map_push}
use Rattle.std.proofs.lemmas.Result.{err_from_is_err_and}
use Rattle.provenance.specs.Polynomial.{Monomial}
use Rattle.polynomial.specs.Rise.{proper}
use Rattle.polynomial.specs.Ways.{monomial, monomials}
use Rattle.polynomial.specs.Fronts.{Taken}
use Rattle.polynomial.proofs.Checked.{taken, refused, too_large}
use Rattle.polynomial.proofs.AddLoop.{told_never, sum_proper, joining_none, joining_more, joining_full, joining_fails, joining_is, joining_fits, front_some, front_none}
use Rattle.polynomial.proofs.room.Room.add.Goals as goal

pub returns-in_err-ways : goal.returns-in_err-ways
returns-in_err-ways c =
    let p = err_from_is_err_and c.from_residual.result c.from_residual.ensures.1 in
    rw (p.1, p.2) (told_never _ _ _ c.in_err-ways.ensures)

pub loop-ways-init : goal.loop-ways-init
loop-ways-init c =
    let h = c.in_ok-ways.ensures in
    rw (h.0, c.from-a.ensures.0, c.from-b.ensures.0) (joining_none _ _ _ h.1.sized c.args.p.ok c.args.q.ok)

pub returns-in_err-way : goal.returns-in_err-way
returns-in_err-way c =
    let p = err_from_is_err_and c.from_residual-in_err-way.result c.from_residual-in_err-way.ensures.1 in
    rw (p.1, p.2) (joining_fails _ _ _ _ _ _ c.loop-ways.invariant c.take_first.new.a.items c.take_first.new.b.items _ c.in_err-way.ensures)

pub returns-in_err-size : goal.returns-in_err-size
returns-in_err-size c =
    let p = err_from_is_err_and c.from_residual-in_err-size.result c.from_residual-in_err-size.ensures.1 in
    let t : Taken c.loop-ways.a.items c.loop-ways.b.items c.take_first.new.a.items c.take_first.new.b.items c.in-Some.way = front_some _ _ _ _ _ _ c.in-Some.is c.in_ok-way.ensures in
    let l : c.len.result ≡ length (vec_items c.in-Some.way.marks) = search rules in
    rw (p.1, p.2, too_large c.larger.result c.in_err-size.field-0.0 c.in_err-size.ensures.value)
    (joining_full _ _ _ _ _ _ c.loop-ways.invariant _ _ _ t (λ h. refused _ _ _ c.in_err-size.ensures.ok_part c.larger.ensures (omega arith)))

pub loop-ways-preserved : goal.loop-ways-preserved
loop-ways-preserved c =
    let t : Taken c.loop-ways.a.items c.loop-ways.b.items c.take_first.new.a.items c.take_first.new.b.items c.in-Some.way = front_some _ _ _ _ _ _ c.in-Some.is c.in_ok-way.ensures in
    let l : c.len.result ≡ length (vec_items c.in-Some.way.marks) = search rules in
    let e : monomials (vec_items c.push.new.self) ≡ monomials (vec_items c.loop-ways.ways) ++ monomial c.in-Some.way ∷ [] =
    ap monomials c.in_ok-push.ensures.items ∙ map_push monomial (vec_items c.loop-ways.ways) c.in-Some.way in
    let g = taken c.larger.result c.in_ok-size.size _ _ c.in_ok-size.ensures.ok_part c.larger.ensures in
    let f : c.in-Some.way.count < 2 ^ 64 = search rules in
    rw e (joining_more _ _ _ _ _ _ c.loop-ways.invariant _ _ _ t c.in_ok-size.size (omega (arith, g.1)) (omega (arith, g.0, g.1)) f)

pub invariant_of-result : goal.invariant_of-result
invariant_of-result c =
    let n = front_none c.loop-ways.a.items c.loop-ways.b.items c.take_first.new.a.items c.take_first.new.b.items _ c.in_default.is c.in_ok-way.ensures in
    record { ok = subst (λ (z : List Monomial). proper z ≡ true) (sym (joining_is _ _ _ _ _ _ c.loop-ways.invariant n)) (sum_proper _ _ c.args.p.ok c.args.q.ok) }

pub returns : goal.returns
returns c =
    let n = front_none c.loop-ways.a.items c.loop-ways.b.items c.take_first.new.a.items c.take_first.new.b.items _ c.in_default.is c.in_ok-way.ensures in
    (joining_is _ _ _ _ _ _ c.loop-ways.invariant n, joining_fits _ _ _ _ _ _ c.loop-ways.invariant n)
