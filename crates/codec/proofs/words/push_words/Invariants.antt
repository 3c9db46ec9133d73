use Rattle.std.proofs.Common.{◌≡◌, ◌++◌, map, take, vec_items}
use Rattle.codec.proofs.Bytes.{eight}
use Rattle.codec.proofs.words.push_words.Given as goal

abbrev pub invariant-loop-word : goal.invariant-loop-word
invariant-loop-word l = vec_items l.memory ≡ vec_items l.initial.memory ++ map eight (take l.word-index l.words)
