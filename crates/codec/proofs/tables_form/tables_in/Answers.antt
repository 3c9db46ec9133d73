use Rattle.std.proofs.Common.{◌<◌, length, get_or, arith, rules}
use native.Mathlib.Nat.{sub-zero}
use Rattle.std.proofs.lemmas.List.{take_rest, get_or_past}
use Rattle.std.proofs.lemmas.Result.{err_from_is_err_and}
use Rattle.codec.proofs.Tables.{first_pushed, none_read, many_read, start_read, read_on, read_off, read_end, table_told}
use Rattle.codec.proofs.tables_form.tables_in.Goals as goal

pub returns-in_default : goal.returns-in_default
returns-in_default c =
    let none : length c.args.bytes.now < 1 = search rules in
    none_read c.args.bytes.now (omega (arith, get_or_past c.args.bytes.now 0 0 (omega arith)))

pub returns-then-count-lt1 : goal.returns-then-count-lt1
returns-then-count-lt1 c = none_read c.args.bytes.now (omega arith)

pub returns-then-count-gt-MAX_TABLES : goal.returns-then-count-gt-MAX_TABLES
returns-then-count-gt-MAX_TABLES c = many_read c.args.bytes.now (omega arith)

pub loop-t-init : goal.loop-t-init
loop-t-init c =
    let e = first_pushed _ _ _ _ c.in_ok-push.ensures.items c.new-numbers.ensures.items c.from.ensures in
    rw (take_rest c.args.bytes.now 1, sub-zero (get_or c.args.bytes.now 0 0), e) (start_read c.args.bytes.now (omega arith) (omega arith))

pub returns-in_err-table : goal.returns-in_err-table
returns-in_err-table c =
    let p = err_from_is_err_and c.from_residual-in_err-table.result c.from_residual-in_err-table.ensures.1 in
    let none = c.in_err-table.ensures.ok_part in
    let off = read_off _ _ _ _ _ (omega arith) c.loop-t.invariant (rw none at c.table_at_front.ensures) in
    rw (p.1, p.2) (table_told _ _ _ (rw none at c.in_err-table.ensures.value) off)

pub loop-t-preserved : goal.loop-t-preserved
loop-t-preserved c =
    let some = c.in_ok-table.ensures.ok_part in
    read_on _ _ _ _ _ _ c.in_ok-table.table (omega arith) c.loop-t.invariant (rw some at c.table_at_front.ensures) c.in_ok-push_table.ensures

pub returns : goal.returns
returns c = read_end _ _ _ _ _ (omega arith) c.loop-t.invariant
