use Rattle.std.proofs.Common.{◌≡◌, length, arith, rules}
use Rattle.std.proofs.lemmas.Result.{err_from_is_err_and}
use Rattle.std.proofs.lemmas.Bool.Decides.{nat_tests}
use Rattle.stored.proofs.Steps.{short_file, other_file, other_version, start_read, read_on, read_off, read_end, read_left, error_read}
use Rattle.stored.proofs.decoding.answers_in.Goals as goal

pub returns-in_default : goal.returns-in_default
returns-in_default c = short_file c.args.numbers.now (search rules)

pub returns-then-magic-ne-MAGIC : goal.returns-then-magic-ne-MAGIC
returns-then-magic-ne-MAGIC c = other_file c.args.numbers.now (search rules) (λ e. omega arith)

pub returns-then-version-ne-VERSION : goal.returns-then-version-ne-VERSION
returns-then-version-ne-VERSION c = other_version c.args.numbers.now (search rules) (omega arith) (λ e. omega arith)

pub loop-place-init : goal.loop-place-init
loop-place-init c = start_read c.args.numbers.now _ (search rules) (omega arith) (omega arith) c.new-answers.ensures.items

pub returns-in_err-parts : goal.returns-in_err-parts
returns-in_err-parts c =
    let p = err_from_is_err_and c.from_residual.result c.from_residual.ensures.1 in
    rw (p.1, p.2) (error_read _ _ (read_off _ _ _ _ _ _ (omega arith) c.loop-place.invariant c.in_err-parts.ensures))

pub loop-place-preserved : goal.loop-place-preserved
loop-place-preserved c = read_on _ _ _ _ _ _ _ _ (omega arith) c.loop-place.invariant c.in_ok-parts.ensures c.in_ok-owned.ensures c.in_ok-push.ensures.items

pub returns-then-not-is_empty : goal.returns-then-not-is_empty
returns-then-not-is_empty c = read_left _ _ _ _ _ (omega arith) (λ e. grind (arith, nat_tests, c.if-not-is_empty.ensures)) c.loop-place.invariant

pub returns : goal.returns
returns c =
    let h : length c.loop-place.rest.now ≡ 0 = grind (arith, nat_tests) in
    read_end _ _ _ _ _ (omega arith) h c.loop-place.invariant
