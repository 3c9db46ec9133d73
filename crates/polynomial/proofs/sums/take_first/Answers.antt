use Rattle.std.proofs.Common.{◌≡◌, length, vec_items, false, arith}
use Rattle.std.proofs.lemmas.Result.{err_from_is_err_and}
use Rattle.tables.specs.Tables.{before, same_row}
use Rattle.tables.proofs.RowOrder.{same_true}
use Rattle.polynomial.proofs.Checked.{taken, refused, too_large}
use Rattle.polynomial.proofs.Fronts.{else_after, same_marks, popped, first_popped, first_split, front_left, front_right, front_is, take_less, take_greater, take_both, take_large}
use Rattle.polynomial.proofs.sums.take_first.Goals as goal

pub returns-in_default : goal.returns-in_default
returns-in_default c =
    let l : length c.args.a.now.items ≡ 0 = omega (arith, c.in_default.ensures.item.3) in
    front_right _ _ _ _ _ _ l c.args.b.now.ok.0 c.requires.left c.requires.right c.pop_front.ensures.items c.pop_front.ensures.cases

pub returns-in_default-front : goal.returns-in_default-front
returns-in_default-front c =
    let l : length c.args.b.now.items ≡ 0 = omega (arith, c.in_default-front.ensures.item.3) in
    front_left _ _ _ _ _ _ l c.args.a.now.ok.0 c.requires.left c.requires.right c.pop_front-in_default-front.ensures.items c.pop_front-in_default-front.ensures.cases

pub returns-in-Less : goal.returns-in-Less
returns-in-Less c =
    let x = c.in-Some.ensures.item.3 in
    let y = c.in-Some-front.ensures.item.3 in
    let r = first_popped _ _ _ _ c.args.a.now.ok.0 x.0 x.1 c.pop_front-in-Less.ensures.value in
    front_is _ _ _ _ _ _ r
    (take_less _ _ _ _ _ _ (popped _ _ _ _ c.pop_front-in-Less.ensures.items r) (first_split _ _ y.0 y.1)
    c.requires.left c.requires.right (let e = c.in-Less.ensures.before in cc))

pub returns-in-Greater : goal.returns-in-Greater
returns-in-Greater c =
    let x = c.in-Some.ensures.item.3 in
    let y = c.in-Some-front.ensures.item.3 in
    let r = first_popped _ _ _ _ c.args.b.now.ok.0 y.0 y.1 c.pop_front-in-Greater.ensures.value in
    front_is _ _ _ _ _ _ r
    (take_greater _ _ _ _ _ _ (first_split _ _ x.0 x.1) (popped _ _ _ _ c.pop_front-in-Greater.ensures.items r)
    c.requires.left c.requires.right
    (let e = c.in-Greater.ensures in let f : before (vec_items c.in-Some.x.now.marks) (vec_items c.in-Some-front.y.now.marks) ≡ false = cc in let g : same_row (vec_items c.in-Some.x.now.marks) (vec_items c.in-Some-front.y.now.marks) ≡ false = cc in else_after _ _ g f))

pub returns-in_err-count-in-Equal : goal.returns-in_err-count-in-Equal
returns-in_err-count-in-Equal c =
    let p = err_from_is_err_and c.from_residual.result c.from_residual.ensures.1 in
    let x = c.in-Some.ensures.item.3 in
    let y = c.in-Some-front.ensures.item.3 in
    let r = first_popped _ _ _ _ c.args.a.now.ok.0 x.0 x.1 c.pop_front-in-Equal.ensures.value in
    let s = first_popped _ _ _ _ c.args.b.now.ok.0 y.0 y.1 c.pop_front-in-Equal-2.ensures.value in
    let m : vec_items c.in-Some.x.now.marks ≡ vec_items c.in-Some-front.y.now.marks = same_true _ _ (let e = c.in-Equal.ensures.same in cc) in
    rw (p.1, p.2, too_large c.checked_add.result c.in_err-count-in-Equal.field-0.0 c.in_err-count-in-Equal.ensures.value)
    (take_large _ _ _ _ _ _ (popped _ _ _ _ c.pop_front-in-Equal.ensures.items c.unwrap-x.ensures) (popped _ _ _ _ c.pop_front-in-Equal-2.ensures.items c.unwrap-y.ensures)
    c.requires.left c.requires.right
    (same_marks _ _ _ _ _ _ c.unwrap-x.ensures c.unwrap-y.ensures r s m)
    (refused _ _ _ c.in_err-count-in-Equal.ensures.ok_part c.checked_add.ensures))

pub returns-in_ok-count-in-Equal : goal.returns-in_ok-count-in-Equal
returns-in_ok-count-in-Equal c =
    let x = c.in-Some.ensures.item.3 in
    let y = c.in-Some-front.ensures.item.3 in
    let r = first_popped _ _ _ _ c.args.a.now.ok.0 x.0 x.1 c.pop_front-in-Equal.ensures.value in
    let s = first_popped _ _ _ _ c.args.b.now.ok.0 y.0 y.1 c.pop_front-in-Equal-2.ensures.value in
    let n = taken c.checked_add.result c.in_ok-count-in-Equal.count _ _ c.in_ok-count-in-Equal.ensures.ok_part c.checked_add.ensures in
    let m : vec_items c.in-Some.x.now.marks ≡ vec_items c.in-Some-front.y.now.marks = same_true _ _ (let e = c.in-Equal.ensures.same in cc) in
    take_both _ _ _ _ _ _ (popped _ _ _ _ c.pop_front-in-Equal.ensures.items c.unwrap-x.ensures) (popped _ _ _ _ c.pop_front-in-Equal-2.ensures.items c.unwrap-y.ensures)
    c.requires.left c.requires.right (record { count = c.in_ok-count-in-Equal.count; marks = c.unwrap-y.result.marks })
    (same_marks _ _ _ _ _ _ c.unwrap-x.ensures c.unwrap-y.ensures r s m)
    (λ i. record { count = n.1 i; marks = vec_items c.unwrap-y.result.marks })
