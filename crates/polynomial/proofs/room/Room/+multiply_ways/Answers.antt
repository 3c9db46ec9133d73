use Rattle.std.proofs.Common.{◌≡◌, ◌⊎◌, length, arith}
use Rattle.std.proofs.lemmas.Result.{err_from_is_err_and}
use Rattle.std.proofs.lemmas.Bool.Decides.{nat_tests}
use Rattle.polynomial.proofs.ProductSplit.{told_part}
use Rattle.polynomial.proofs.ProductHalves.{front_proper, back_proper, halves, fits_front, fits_back, told_sum, told_swap, told_none, told_only}
use Rattle.polynomial.proofs.room.Room.+multiply_ways.Goals as goal

pub multiply_ways-requires-in_default : goal.multiply_ways-requires-in_default
multiply_ways-requires-in_default t c =
    let s = c.in_default in
    (grind (arith, nat_tests), (front_proper _ c.split_at.result.0.now c.split_at.result.1.now c.split_at.ensures.by_index.0 c.requires.left, c.requires.right))

pub returns-in_err-p-in_default : goal.returns-in_err-p-in_default
returns-in_err-p-in_default t c =
    let p = err_from_is_err_and c.from_residual.result c.from_residual.ensures.1 in
    rw (p.1, p.2)
    (told_part _ _ _ (fits_front _ _ _ _ _ c.split_at.ensures.by_index.0 c.requires.left c.requires.right) _ c.in_err-p-in_default.ensures)

pub multiply_ways-requires-in_default-2 : goal.multiply_ways-requires-in_default-2
multiply_ways-requires-in_default-2 t c =
    let s = c.in_default in
    (grind (arith, nat_tests), (back_proper _ c.split_at.result.0.now c.split_at.result.1.now c.split_at.ensures.by_index.0 c.requires.left, c.requires.right))

pub returns-in_err-q-in_default : goal.returns-in_err-q-in_default
returns-in_err-q-in_default t c =
    let p = err_from_is_err_and c.from_residual-in_err-q-in_default.result c.from_residual-in_err-q-in_default.ensures.1 in
    rw (p.1, p.2)
    (told_part _ _ _ (fits_back _ _ _ _ _ c.split_at.ensures.by_index.0 c.requires.left c.requires.right) _ c.in_err-q-in_default.ensures)

pub returns-in-len1-len1 : goal.returns-in-len1-len1
returns-in-len1-len1 t c =
    let s = c.in-len1-len1 in
    let l : length c.args.a.now ≡ 1 = grind (arith, nat_tests) in
    let k : length c.args.b.now ≡ 1 = grind (arith, nat_tests) in
    told_only _ _ _ c.x-item.result c.y-item.result _ l k c.x-item.is c.y-item.is c.multiply_only.ensures

pub returns-in-len1-default : goal.returns-in-len1-default
returns-in-len1-default t c = told_swap _ _ _ _ c.requires.left c.requires.right c.multiply_ways.ensures

pub returns-in_ok-q-in_default : goal.returns-in_ok-q-in_default
returns-in_ok-q-in_default t c =
    told_sum _ _ _ _ c.in_ok-p-in_default.p c.in_ok-q-in_default.q _ c.in_ok-p-in_default.ensures.0 c.in_ok-q-in_default.ensures.0
    (halves _ _ _ _ c.split_at.ensures.by_index.0 c.requires.left c.requires.right)
    c.add.ensures

pub returns-in-empty-default : goal.returns-in-empty-default
returns-in-empty-default t c =
    let h : (length c.args.a.now ≡ 0) ⊎ (length c.args.b.now ≡ 0) = grind (arith, nat_tests) in
    told_none _ _ _ _ h c.never.ensures
