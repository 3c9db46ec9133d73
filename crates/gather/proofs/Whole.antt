-- From the rows in order to the rows as they stood. Assumes nothing.
use Rattle.std.proofs.Common.{◌≡◌, ℕ, zero, suc, ◌+◌, ◌-◌, ◌*◌, ◌<◌, ◌≤◌, Bool, eqb, ltb, List, [], ◌∷◌, length, drop, set, Decides, sum_by, sym, refl, ◌∙◌, ⊎_elim, arith}
use Rattle.std.specs.List.{AllByRecursion}
use Rattle.std.proofs.lemmas.List.{length-take-le, length-drop, get_or-set_same, drop-set-lt}
use Rattle.std.proofs.lemmas.List.Sums.{sum_by-cons}
use Rattle.std.proofs.lemmas.Bool.{cases_Bool}
use Rattle.std.proofs.lemmas.Bool.Decides.{Decides-eqb, Decides-ltb}
use Rattle.tables.specs.Bool.{pick}
use Rattle.circuit.specs.declared.Node.{Node}
use Rattle.circuit.specs.Store.{nodes_in}
use Rattle.circuit.specs.Held.{count_in}
use Rattle.provenance.specs.Answer.{Answer}
use Rattle.gather.specs.Gathered.{rows_apart, answers_in, Wide, Ready, Gathered, Merged, Written}
use Rattle.gather.proofs.Together.{SameSums, together_same}
use Rattle.gather.proofs.Distinct.{occurs_some, some_occurs, total_sum}
use Rattle.gather.proofs.Extending.{extended_same}
use Rattle.gather.proofs.Answering.{gathering_answers}

pub wide_apart : (span w n : ℕ) (xs : List ℕ) → 1 + w ≤ span → span * n ≤ length xs → Wide w (rows_apart span w n xs)
unfolding rows_apart
wide_apart span w zero xs narrow h = tt
wide_apart span w (suc n) xs narrow h =
    let first : length (drop 1 xs) ≡ length xs - 1 = length-drop 1 xs in
    let rest : length (drop span xs) ≡ length xs - span = length-drop span xs in
    (length-take-le w (drop 1 xs) (omega arith), wide_apart span w n (drop span xs) narrow (omega arith))

sum_ones : (xs : List Answer) → sum_by (λ _. 1) xs ≡ length xs
sum_ones [] = refl
sum_ones (x ∷ xs) = sum_by-cons (λ _. 1) x xs ∙ (let e = sum_ones xs in omega arith)

-- what holds of each row is that none fails a test
abbrev fails : (Answer → Bool) → Answer → ℕ
fails t a = pick (t a) 0 1

all_none : (P : Answer → Type 0) (t : Answer → Bool) → ((a : Answer) → Decides (t a) (P a)) → (xs : List Answer) → AllByRecursion P xs → sum_by (fails t) xs ≡ 0
all_none P t d [] h = refl
all_none P t d (x ∷ xs) h =
    let here : fails t x ≡ 0 = rw ((d x).1 h.0) in
    let rest = all_none P t d xs h.1 in
    let all = sum_by-cons (fails t) x xs in
    omega arith

none_all : (P : Answer → Type 0) (t : Answer → Bool) → ((a : Answer) → Decides (t a) (P a)) → (xs : List Answer) → sum_by (fails t) xs ≡ 0 → AllByRecursion P xs
none_all P t d [] e = tt
none_all P t d (x ∷ xs) e =
    let all = sum_by-cons (fails t) x xs in
    (⊎_elim (λ h. (d x).0 h) (λ h. absurd (let here : fails t x ≡ 1 = rw h in omega arith)) (cases_Bool (t x)), none_all P t d xs (omega arith))

module _ (xs ys : List Answer) (same : SameSums xs ys) where
  long : length ys ≡ length xs
  long = sym (sum_ones ys) ∙ same (λ _. 1) ∙ sum_ones xs

  all_same : (P : Answer → Type 0) (t : Answer → Bool) → ((a : Answer) → Decides (t a) (P a)) → AllByRecursion P xs → AllByRecursion P ys
  all_same P t d h = none_all P t d ys (same (fails t) ∙ all_none P t d xs h)

  pub wide_same : (w : ℕ) → Wide w xs → Wide w ys
  wide_same w h = all_same (λ (a : Answer). length a.row ≡ w) (λ (a : Answer). eqb (length a.row) w) (λ a. Decides-eqb (length a.row) w) h

  pub ready_same : (w : ℕ) (m out : List ℕ) → Ready xs w m out → Ready ys w m out
  ready_same w m out r = record {
    proper = r.proper;
    known = all_same (λ (a : Answer). a.node < count_in m) (λ (a : Answer). ltb a.node (count_in m)) (λ a. Decides-ltb a.node (count_in m)) r.known;
    nodes = rw long r.nodes;
    space = rw long r.space;
  }

  gathered_same : (before after : List Node) (out : List Answer) → Gathered before after ys out → Gathered before after xs out
  gathered_same before after out g =
      let t = together_same before xs ys same in
      record {
        rise = g.rise;
        all = λ r h. g.all r (some_occurs r ys (t.all r (occurs_some h.1)));
        only = λ r h. let found = g.only r h in some_occurs r xs (t.only r (occurs_some found.1));
        node = g.node;
        counts = λ r i h v. g.counts r i h v ∙ total_sum r v before ys ∙ sym (t.sums r v) ∙ sym (total_sum r v before xs);
      }

  -- the number of rows goes in front
  pub written : (w : ℕ) (m m1 hints hints1 out0 out : List ℕ) (n : ℕ) → 0 < length out → Merged ys w m m1 hints hints1 out0 out n → Written xs w m m1 hints hints1 out0 (set out 0 n) n
  written w m m1 hints hints1 out0 out n some g =
      let rows : Gathered (nodes_in m) (nodes_in m1) xs (answers_in w n (drop 1 (set out 0 n))) =
      rw (drop-set-lt 1 out 0 n (omega arith)) (gathered_same (nodes_in m) (nodes_in m1) (answers_in w n (drop 1 out)) g.answer) in
      let few = g.few in
      let l = long in
      record {
        count = get_or-set_same out 0 n 0 some;
        merged = record {
          few = omega arith;
          answer = rows;
          store = extended_same m m1 hints hints1 (length ys - n) (length xs - n) g.store (omega arith);
          behind = drop-set-lt (1 + (1 + w) * n) out 0 n (omega arith) ∙ g.behind;
        };
        answers = gathering_answers (nodes_in m) (nodes_in m1) xs (answers_in w n (drop 1 (set out 0 n))) rows;
      }
