use Rattle.std.proofs.Common.{◌≡◌, ◌-◌, get_or, vec_items}
use Rattle.codec.specs.Input.{read_tables, tables_from, behind}
use Rattle.codec.proofs.tables_form.tables_in.Given as goal

-- what is left decides what the whole does
abbrev pub invariant-loop-t : goal.invariant-loop-t
invariant-loop-t l = read_tables l.bytes ≡ behind (vec_items l.numbers) (tables_from l.t (get_or l.bytes 0 0 - l.t) l.rest)
