use Rattle.std.proofs.Common.{◌≡◌, ◌≤◌, length, Some, None, ap, ◌∙◌, arith}
use Rattle.std.proofs.lemmas.Result.{err_from_is_err_and}
use Rattle.eval.specs.declared.reply.Refusal.TheVariants.{Weight, Work}
use Rattle.eval.proofs.Readying.{light, readied, refused_heavy, refused_work, refused_nodes, refused_out}
use Rattle.eval.proofs.asking.readied.Goals as goal

pub returns-in_err-weight : goal.returns-in_err-weight
returns-in_err-weight c =
    let a = c.in_ok-question.ensures in
    let none : c.weigh.result ≡ None = grind arith in
    let told : c.in_err-weight.field-0.0 ≡ Weight = grind arith in
    let p = err_from_is_err_and c.from_residual-in_err-weight.result c.from_residual-in_err-weight.ensures.1 in
    rw (p.1, p.2, told, ← a.0 ∙ c.in_ok-fit.ensures.0, ← a.1) (refused_heavy c.in_ok-question.question _ _ _ (rw none at c.weigh.ensures))

pub overflow_mul-weight : goal.overflow_mul-weight
overflow_mul-weight c =
    let given : c.weigh.result ≡ Some c.in_ok-weight.weight = grind arith in
    let l : c.in_ok-weight.weight ≤ 8192 = light c.in_ok-question.question 0 0 0 c.in_ok-weight.weight (rw given at c.weigh.ensures) in
    omega arith

pub returns-then-work-weight : goal.returns-then-work-weight
returns-then-work-weight c =
    let given : c.weigh.result ≡ Some c.in_ok-weight.weight = grind arith in
    let a = c.in_ok-question.ensures in
    let same : length c.weigh.new.work ≡ length c.args.work.now = omega arith in
    rw (← a.0 ∙ c.in_ok-fit.ensures.0, ← a.1)
    (refused_work c.in_ok-question.question _ _ _ c.in_ok-weight.weight (rw given at c.weigh.ensures) (omega arith) ∙ ap (λ n. Some (Work n)) (omega arith))

pub returns-then-nodes-weight : goal.returns-then-nodes-weight
returns-then-nodes-weight c =
    let given : c.weigh.result ≡ Some c.in_ok-weight.weight = grind arith in
    let a = c.in_ok-question.ensures in
    rw (← a.0 ∙ c.in_ok-fit.ensures.0, ← a.1) (refused_nodes c.in_ok-question.question _ _ _ c.in_ok-weight.weight (rw given at c.weigh.ensures) (omega arith) (omega arith))

pub returns-then-out-weight : goal.returns-then-out-weight
returns-then-out-weight c =
    let given : c.weigh.result ≡ Some c.in_ok-weight.weight = grind arith in
    let a = c.in_ok-question.ensures in
    rw (← a.0 ∙ c.in_ok-fit.ensures.0, ← a.1)
    (refused_out c.in_ok-question.question _ _ _ c.in_ok-weight.weight (rw given at c.weigh.ensures) (omega arith) (omega arith) (omega arith))

pub returns : goal.returns
returns c =
    let given : c.weigh.result ≡ Some c.in_ok-weight.weight = grind arith in
    let a = c.in_ok-question.ensures in (
      record { memory = a.0 ∙ c.in_ok-fit.ensures.0; signs = a.1 },
      readied c.in_ok-question.question _ _ _ c.in_ok-weight.weight (rw given at c.weigh.ensures) (omega arith) (omega arith) (omega arith),
    )
