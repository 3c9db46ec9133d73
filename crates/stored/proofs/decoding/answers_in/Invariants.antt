use Rattle.std.proofs.Common.{◌≡◌, ◌-◌, map, get_or, vec_items}
use Rattle.stored.specs.Reads.{held, behind, answers_from, read_numbers}
use Rattle.stored.proofs.decoding.answers_in.Given as goal

-- what is left decides what the whole does
abbrev pub invariant-loop-place : goal.invariant-loop-place
invariant-loop-place l =
    read_numbers l.numbers ≡ behind (map held (vec_items l.answers)) (answers_from l.place (get_or l.numbers 2 0 - l.place) l.rest)
