use Rattle.std.proofs.Common.{sym, subst}
use Rattle.std.proofs.lemmas.Result.{err_from_is_err_and}
use Rattle.stored.specs.Reads.{Outcome, FileRead}
use Rattle.stored.proofs.RoundTrip.{only_files}
use Rattle.stored.proofs.Steps.{error_numbers, file_read}
use Rattle.stored.proofs.decoding.decode.Goals as goal

pub returns-in_err-numbers : goal.returns-in_err-numbers
returns-in_err-numbers c =
    let p = err_from_is_err_and c.from_residual.result c.from_residual.ensures.1 in
    rw (p.1, p.2) (record { read = error_numbers c.args.bytes.now _ c.in_err-numbers.ensures; only = tt })

pub returns : goal.returns
returns c =
    let e = subst (λ (o : Outcome). FileRead o c.answers_in.result)
    (sym (file_read c.args.bytes.now _ c.in_ok-numbers.numbers c.in_ok-numbers.ensures c.as_slice.ensures.value))
    c.answers_in.ensures in
    record { read = e; only = only_files c.args.bytes.now c.answers_in.result (λ i. (c.type_inv.bytes i).fits) e }
