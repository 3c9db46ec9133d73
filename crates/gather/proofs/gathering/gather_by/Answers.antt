use Rattle.std.proofs.Common.{◌≡◌, ℕ, ◌+◌, ◌-◌, ◌*◌, List, [], ◌∷◌, map, length, drop, sum_by, sym, refl, ap, ◌∙◌, rules, arith}
use Rattle.std.specs.List.Sorted.{IsPermutation}
use Rattle.std.proofs.lemmas.List.{length-drop}
use Rattle.std.proofs.lemmas.List.Sorted.{sum_by-IsPermutation, answers_always}
use Rattle.std.proofs.lemmas.List.Sums.{sum_by-cons}
use Rattle.provenance.specs.Answer.{Answer}
use Rattle.gather.specs.declared.region.Entry.{Entry}
use Rattle.gather.specs.Gathered.{answer_of}
use Rattle.gather.proofs.Ordering.{in_order, by_cells}
use Rattle.gather.proofs.Together.{SameSums}
use Rattle.gather.proofs.Whole.{wide_apart, wide_same, ready_same, written}
use Rattle.gather.proofs.gathering.gather_by.Goals as goal

sum_rows : (f : Answer → ℕ) (es : List Entry) → sum_by f (map answer_of es) ≡ sum_by (λ e. f (answer_of e)) es
sum_rows f [] = refl
sum_rows f (e ∷ es) =
    sum_by-cons f (answer_of e) (map answer_of es) ∙ ap (λ n. f (answer_of e) + n) (sum_rows f es) ∙ sym (sum_by-cons (λ x. f (answer_of x)) e es)

-- the sorted entries are the rows of the region
rows_same : (rows : List Answer) (es sorted : List Entry) → map answer_of es ≡ rows → IsPermutation es sorted → SameSums rows (map answer_of sorted)
rows_same rows es sorted e s f =
    sum_rows f sorted ∙ sum_by-IsPermutation (λ x. f (answer_of x)) es sorted s ∙ sym (sum_rows f es) ∙ ap (sum_by f) e

pub merge-count-requires : goal.merge-count-requires
merge-count-requires c =
    let same = rows_same _ _ _ c.load.ensures c.sort_unstable_by_key.ensures.permutation in
    let first : ℕ = 9 * c.args.batch.rows.first in
    let left : length (drop first c.args.batch.work.now) ≡ length c.args.batch.work.now - first = length-drop first c.args.batch.work.now in
    record {
      order = in_order c.sort_unstable_by_key.new.self _ refl (by_cells c.sort_unstable_by_key.new.self _ (c.sort_unstable_by_key.ensures.sorted (λ (e : Entry). (e.cells, e.place)) (answers_always _ _ _ (λ f a r g h. search rules))));
      wide = wide_same _ _ same _ (wide_apart 9 c.args.batch.rows.width c.args.batch.rows.count (drop first c.args.batch.work.now) (omega arith) (omega arith));
      ready = ready_same _ _ same _ _ _ c.requires.ready;
    }

pub returns : goal.returns
returns c = record {
  written = written _ _ (rows_same _ _ _ c.load.ensures c.sort_unstable_by_key.ensures.permutation) _ _ _ _ _ _ _ _ (omega arith) c.merge-count.ensures.merged;
  memory = c.merge-count.ensures.memory;
}
