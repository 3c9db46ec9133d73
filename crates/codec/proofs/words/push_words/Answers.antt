use Rattle.std.proofs.Common.{◌/◌, ◌++◌, map, length, vec_items, List, ℕ, ap, ◌∙◌}
use Rattle.std.proofs.lemmas.List.{take_all}
use Rattle.codec.proofs.Bytes.{eight, numbers_mapped}
use Rattle.codec.proofs.words.push_words.Goals as goal

pub returns : goal.returns
returns c =
    let e = ap (map eight) (take_all c.loop-word.word-index c.as_chunks.result.0.now c.loop-word-test.false ∙ c.as_chunks.ensures.front) in
    c.loop-word.invariant ∙ ap (λ (ns : List ℕ). vec_items c.args.memory.now ++ ns) (e ∙ numbers_mapped (length c.args.bytes.now / 8) c.args.bytes.now)
