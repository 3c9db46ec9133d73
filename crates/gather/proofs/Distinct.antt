-- In rows that rise each row stands once, so its node says what the rows equal to it come to. Assumes nothing.
use Rattle.std.proofs.Common.{◌≡◌, ℕ, ◌+◌, ◌<◌, false, List, [], ◌∷◌, length, sym, refl, ap, ◌∙◌, subst, ⊎_elim, arith}
use Rattle.std.specs.List.{AllByRecursion}
use Rattle.std.proofs.ByRecursion.{All-weaker}
use Rattle.std.proofs.lemmas.List.Sums.{sum_by-cons}
use Rattle.std.proofs.lemmas.Bool.{cases_Bool}
use Rattle.tables.specs.Tables.{Row, before, same_row}
use Rattle.tables.proofs.RowOrder.{Before, before_true, before_trans, before_apart, same_true, same_decides}
use Rattle.query.specs.Semiring.{Count}
use Rattle.query.specs.Query.{total}
use Rattle.circuit.specs.declared.Node.{Node}
use Rattle.provenance.specs.Answer.{Answer, RowsRise, one, more, Listed, here, there}
use Rattle.provenance.proofs.SameRows.{rest_rises}
use Rattle.gather.specs.Gathered.{Occurs, counted, Gathered}
use Rattle.gather.proofs.Together.{part, sum_at, counting, Together}

abbrev After : Row → Answer → Type 0
After r a = Before r a.row

rise_after : {a : Answer} {xs : List Answer} → RowsRise (a ∷ xs) → AllByRecursion (After a.row) xs
rise_after one = tt
rise_after (more {a = a} {b = b} {bs = bs} less rise) =
    let first : Before a.row b.row = before_true a.row b.row less in
    (first, All-weaker (After b.row) (After a.row) (λ x h. before_trans first h) bs (rise_after rise))

-- a row that stands before another is not that row
pub apart : (r s : Row) → (r ≡ s → ⊥) → same_row r s ≡ false
apart r s no_same = ⊎_elim (λ t. absurd (no_same (same_true r s t))) (λ f. f) (cases_Bool (same_row r s))

sum_none : (r : Row) (f : ℕ → ℕ) (xs : List Answer) → AllByRecursion (After r) xs → sum_at r f xs ≡ 0
sum_none r f [] later = refl
sum_none r f (x ∷ xs) later =
    let here : part r f x ≡ 0 = rw (apart r x.row (before_apart later.0)) in
    let rest = sum_none r f xs later.1 in
    let all = sum_by-cons (part r f) x xs in
    omega arith

listed_after : {r s : Row} {i : ℕ} {xs : List Answer} → AllByRecursion (After s) xs → Listed r i xs → Before s r
listed_after later here = later.0
listed_after later (there listed) = listed_after later.1 listed

pub listed_sum : {r : Row} {i : ℕ} {xs : List Answer} (f : ℕ → ℕ) → RowsRise xs → Listed r i xs → sum_at r f xs ≡ f i
listed_sum {r} {i} f rise (here {rest = rest}) =
    let mine : part r f (record { row = r; node = i }) ≡ f i = rw ((same_decides r r).1 refl) in
    let others = sum_none r f rest (rise_after rise) in
    let all = sum_by-cons (part r f) (record { row = r; node = i }) rest in
    omega arith
listed_sum {r} {i} f rise (there {a = a} {rest = rest} listed) =
    let first : part r f a ≡ 0 = rw (apart r a.row (λ e. before_apart (listed_after (rise_after rise) listed) (sym e))) in
    let others = listed_sum f (rest_rises rise) listed in
    let all = sum_by-cons (part r f) a rest in
    omega arith

-- a row occurs exactly if the rows equal to it are some
pub occurs_some : {r : Row} {i : ℕ} {xs : List Answer} → Listed r i xs → 0 < sum_at r (λ _. 1) xs
occurs_some {r} {i} (here {rest = rest}) =
    let mine : part r (λ _. 1) (record { row = r; node = i }) ≡ 1 = rw ((same_decides r r).1 refl) in
    let all = sum_by-cons (part r (λ _. 1)) (record { row = r; node = i }) rest in
    omega arith
occurs_some {r} (there {a = a} {rest = rest} listed) =
    let others = occurs_some listed in
    let all = sum_by-cons (part r (λ _. 1)) a rest in
    omega arith

pub some_occurs : (r : Row) (xs : List Answer) → 0 < sum_at r (λ _. 1) xs → Occurs r xs
some_occurs r [] h = absurd (omega arith)
some_occurs r (x ∷ xs) h =
    ⊎_elim
    (λ t. (x.node, subst (λ s. Listed s x.node (x ∷ xs)) (sym (same_true r x.row t)) here))
    (λ t.
    let rest : 0 < sum_at r (λ _. 1) xs = (let all = sum_by-cons (part r (λ _. 1)) x xs in let mine : part r (λ _. 1) x ≡ 0 = rw t in omega arith) in
    let found = some_occurs r xs rest in
    (found.0, there found.1))
    (cases_Bool (same_row r x.row))

total_more : (r : Row) (v : ℕ → ℕ) (ns : List Node) (x : Answer) (xs : List Answer) → total Count r (counted v ns (x ∷ xs)) ≡ part r (counting v ns) x + total Count r (counted v ns xs)
unfolding total
total_more r v ns x xs = ⊎_elim (λ t. rw t) (λ t. rw t (omega arith)) (cases_Bool (same_row r x.row))

total_none : (r : Row) → total Count r [] ≡ 0
unfolding total
total_none r = refl

pub total_sum : (r : Row) (v : ℕ → ℕ) (ns : List Node) (xs : List Answer) → total Count r (counted v ns xs) ≡ sum_at r (counting v ns) xs
total_sum r v ns [] = total_none r
total_sum r v ns (x ∷ xs) = total_more r v ns x xs ∙ ap (λ n. part r (counting v ns) x + n) (total_sum r v ns xs) ∙ sym (sum_by-cons (part r (counting v ns)) x xs)

listed_all : {r : Row} {i : ℕ} {xs : List Answer} (P : ℕ → Type 0) → AllByRecursion (λ (a : Answer). P a.node) xs → Listed r i xs → P i
listed_all P all here = all.0
listed_all P all (there listed) = listed_all P all.1 listed

-- rows that are together and rise are gathered
pub gathered : (before after : List Node) (xs ys : List Answer) → RowsRise ys → Together before after xs ys → AllByRecursion (λ (a : Answer). a.node < length after) ys → Gathered before after xs ys
gathered before after xs ys rise together known = record {
  rise = rise;
  all = λ r h. some_occurs r ys (together.all r (occurs_some h.1));
  only = λ r h. some_occurs r xs (together.only r (occurs_some h.1));
  node = λ r i h. listed_all (λ n. n < length after) known h;
  counts = λ r i h v. sym (listed_sum (counting v after) rise h) ∙ sym (together.sums r v) ∙ sym (total_sum r v before xs);
}
