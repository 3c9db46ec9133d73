use Rattle.std.proofs.Common.{◌≡◌, ◌++◌, map, take, vec_items}
use Rattle.std.specs.List.{flat_map}
use Rattle.stored.specs.Form.{written, numbers_of}
use Rattle.stored.specs.Reads.{held}
use Rattle.stored.proofs.encoding.encode.Given as goal

abbrev pub invariant-loop-answer : goal.invariant-loop-answer
invariant-loop-answer l = vec_items l.bytes ≡ vec_items l.initial.bytes ++ written (flat_map numbers_of (map held (take l.answer-index l.answers)))
