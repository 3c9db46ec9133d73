use Rattle.std.proofs.Common.{⊎_elim, refl, arith, rules}
use Rattle.std.proofs.lemmas.Result.{err_from_is_err_and}
use Rattle.stored.proofs.Measured.{no_answer, bad_width, nodes_cut, rows_cut, all_cut, cut_told}
use Rattle.stored.proofs.parts.cut_out.Goals as goal

pub returns-in_default : goal.returns-in_default
returns-in_default c = no_answer _ c.args.numbers.now (search rules)

pub returns-then-width-lt1 : goal.returns-then-width-lt1
returns-then-width-lt1 c =
    bad_width _ c.args.numbers.now (search rules) (λ l h. ⊎_elim (λ p. omega arith) (λ p. omega arith) c.then-width-lt1.either)

pub returns-in_err-nodes : goal.returns-in_err-nodes
returns-in_err-nodes c =
    let p = err_from_is_err_and c.from_residual.result c.from_residual.ensures.1 in
    let none = c.in_err-nodes.ensures.ok_part in
    let cut = nodes_cut c.args.place c.args.numbers.now (search rules) (omega arith) (omega arith) (rw none at c.part.ensures) in
    rw (p.1, p.2) (cut_told _ _ _ _ (rw none at c.in_err-nodes.ensures.value) cut)

pub returns-in_err-rows : goal.returns-in_err-rows
returns-in_err-rows c =
    let p = err_from_is_err_and c.from_residual-in_err-rows.result c.from_residual-in_err-rows.ensures.1 in
    let n = rw c.in_ok-nodes.ensures.ok_part at c.part.ensures in
    let none = c.in_err-rows.ensures.ok_part in
    let cut =
    rows_cut c.args.place c.args.numbers.now (search rules) (omega arith) (omega arith) _ n.0 n.2 (rw none at c.part-2.ensures) in
    rw (p.1, p.2) (cut_told _ _ _ _ (rw none at c.in_err-rows.ensures.value) cut)

pub returns : goal.returns
returns c =
    let n = rw c.in_ok-nodes.ensures.ok_part at c.part.ensures in
    let r = rw c.in_ok-rows.ensures.ok_part at c.part-2.ensures in
    all_cut c.args.place c.args.numbers.now (search rules) (omega arith) (omega arith) _ n.0 n.2 _ refl n.1 r.0 r.1 r.2
