use Rattle.std.proofs.Common.{◌≡◌, ◌++◌, take, vec_items}
use Rattle.stored.specs.Form.{written}
use Rattle.stored.proofs.numbers.push_numbers.Given as goal

abbrev pub invariant-loop-number : goal.invariant-loop-number
invariant-loop-number l = vec_items l.bytes ≡ vec_items l.initial.bytes ++ written (take l.number-index l.numbers)
