-- What a step makes has the provenance of what it is made of. Assumes nothing.
use Rattle.std.proofs.Common.{◌≡◌, ℕ, ◌+◌, ◌-◌, ◌<◌, Bool, true, false, ltb, leb, List, [], ◌∷◌, length, take, Some, None, Option, sym, refl, ap, ◌∙◌, subst, arith, ltb-true, leb-true}
use Rattle.std.specs.List.{AllByRecursion}
use Rattle.std.proofs.lemmas.Bool.{and_parts}
use Rattle.tables.specs.Bool.{pick}
use Rattle.tables.specs.Tables.{Row}
use Rattle.query.specs.Semiring.{Count}
use Rattle.query.specs.Query.{Test, same, is, below, Query, scan, select, project, product, union}
use Rattle.query.specs.Operators.{test_of, all_below}
use Rattle.query.specs.declared.operator.Change.TheVariants.{Select, Project}
use Rattle.query.specs.declared.operator.Pairing.TheVariants.{Product, Union}
use Rattle.query.proofs.Steps.{differ, select_fits, project_fits}
use Rattle.query.proofs.Shown.{stands_wide}
use Rattle.provenance.specs.Rewriting.{SameProvenance, Wide, Within, later}
use Rattle.provenance.proofs.Rewrites.{rewriting}
use Rattle.rewrite.specs.declared.Step.{Step}
use Rattle.rewrite.specs.declared.Step.TheVariants.{SwapTests, TestIntoLeft, TestIntoRight, TestIntoUnion, UnionOutOfLeft, UnionOutOfRight, RegroupLeft, RegroupRight, SwapUnion, TestBelowProjection, JoinProjections}
use Rattle.rewrite.specs.Rewritten.{width, on_select, on_project, on_product, on_union, within, behind, earlier, turned}
use Rattle.rewrite.specs.Written.{Written, scanned, changing, pairing}
use Rattle.rewrite.specs.Outcome.{OfWidths}
use Rattle.rewrite.proofs.Forms.{written_width, stands_there}
use Rattle.rewrite.proofs.Moved.{within_is_fits}

-- where something is made, the query has the form
module _ (n : Query) where
  test_shown : (q : Query) (f : Test → Query → Option Query) → on_select q f ≡ Some n → (c : Test) × (p : Query) × (q ≡ select c p) × (f c p ≡ Some n)
  test_shown (select c p) f e = (c, p, refl, e)
  test_shown (scan t) f e = absurd (differ cc)
  test_shown (project cs p) f e = absurd (differ cc)
  test_shown (product l r) f e = absurd (differ cc)
  test_shown (union l r) f e = absurd (differ cc)

  project_shown : (q : Query) (f : List ℕ → Query → Option Query) → on_project q f ≡ Some n →
      (cs : List ℕ) × (p : Query) × (q ≡ project cs p) × (f cs p ≡ Some n)
  project_shown (project cs p) f e = (cs, p, refl, e)
  project_shown (scan t) f e = absurd (differ cc)
  project_shown (select c p) f e = absurd (differ cc)
  project_shown (product l r) f e = absurd (differ cc)
  project_shown (union l r) f e = absurd (differ cc)

  product_shown : (q : Query) (f : Query → Query → Option Query) → on_product q f ≡ Some n →
      (l : Query) × (r : Query) × (q ≡ product l r) × (f l r ≡ Some n)
  product_shown (product l r) f e = (l, r, refl, e)
  product_shown (scan t) f e = absurd (differ cc)
  product_shown (select c p) f e = absurd (differ cc)
  product_shown (project cs p) f e = absurd (differ cc)
  product_shown (union l r) f e = absurd (differ cc)

  union_shown : (q : Query) (f : Query → Query → Option Query) → on_union q f ≡ Some n →
      (l : Query) × (r : Query) × (q ≡ union l r) × (f l r ≡ Some n)
  union_shown (union l r) f e = (l, r, refl, e)
  union_shown (scan t) f e = absurd (differ cc)
  union_shown (select c p) f e = absurd (differ cc)
  union_shown (project cs p) f e = absurd (differ cc)
  union_shown (product l r) f e = absurd (differ cc)

  pick_shown : (b : Bool) (p : Query) → pick b (Some p) None ≡ Some n → (b ≡ true) × (Some p ≡ Some n)
  pick_shown true p e = (refl, e)
  pick_shown false p e = absurd (differ cc)

-- the columns that a test reads
within_is : (w : ℕ) (c : Test) → within w c ≡ true → Within w c
within_is w (same a b) e = let k = and_parts (ltb a w) (ltb b w) e in (ltb-true a w k.0, ltb-true b w k.1)
within_is w (is a n) e = ltb-true a w e
within_is w (below a n) e = ltb-true a w e

back : (w a : ℕ) → leb w a ≡ true → w + (a - w) ≡ a
back w a e = omega (arith, leb-true w a e)

later_earlier : (w : ℕ) (c : Test) → behind w c ≡ true → later w (earlier w c) ≡ c
later_earlier w (same a b) e =
    let k = and_parts (leb w a) (leb w b) e in rw (back w a k.0, back w b k.1)
later_earlier w (is a n) e = rw (back w a e)
later_earlier w (below a n) e = rw (back w a e)

all_columns : (w : ℕ) (cs : List ℕ) → all_below w cs ≡ true → AllByRecursion (λ a. a < w) cs
unfolding all_below
all_columns w [] e = tt
all_columns w (x ∷ cs) e = let k = and_parts (ltb x w) (all_below w cs) e in (ltb-true x w k.0, all_columns w cs k.1)

-- what is written below a test, below a projection, and on the left of a product
below_test : {ws xs : List ℕ} {q : Query} {w : ℕ} (c : Test) (p : Query) → Written ws xs q w → q ≡ select c p →
    (ys : List ℕ) × (v : ℕ) × Written ws ys p v × (within v c ≡ true)
below_test c p (scanned t s h) e = absurd (differ cc)
below_test {ws} c p (changing {xs = xs} {q = q} {v = v} (Select d) s g i) e =
    let f : q ≡ p = cc in let h : test_of d ≡ c = cc in
    (xs, v, subst (λ r. Written ws xs r v) f i, subst (λ t. within v t ≡ true) h (within_is_fits d v ∙ (select_fits d v _ g).0))
below_test c p (changing (Project k cs) s g i) e = absurd (differ cc)
below_test c p (pairing Product s g i k) e = absurd (differ cc)
below_test c p (pairing Union s g i k) e = absurd (differ cc)

below_project : {ws xs : List ℕ} {q : Query} {w : ℕ} (cs : List ℕ) (p : Query) → Written ws xs q w → q ≡ project cs p →
    (ys : List ℕ) × (v : ℕ) × Written ws ys p v × (all_below v cs ≡ true)
below_project cs p (scanned t s h) e = absurd (differ cc)
below_project cs p (changing (Select d) s g i) e = absurd (differ cc)
below_project {ws} cs p (changing {xs = xs} {q = q} {v = v} (Project k ds) s g i) e =
    let f : q ≡ p = cc in let h : take k ds ≡ cs = cc in
    (xs, v, subst (λ r. Written ws xs r v) f i, subst (λ us. all_below v us ≡ true) h (project_fits k ds v _ g).below)
below_project cs p (pairing Product s g i k) e = absurd (differ cc)
below_project cs p (pairing Union s g i k) e = absurd (differ cc)

left_side : {ws xs : List ℕ} {q : Query} {w : ℕ} (l r : Query) → Written ws xs q w → q ≡ product l r → (ys : List ℕ) × (v : ℕ) × Written ws ys l v
left_side l r (scanned t s h) e = absurd (differ cc)
left_side l r (changing (Select d) s g i) e = absurd (differ cc)
left_side l r (changing (Project k cs) s g i) e = absurd (differ cc)
left_side {ws} l r (pairing {xs = xs} {l = l'} {u = u} Product s g i k) e = let f : l' ≡ l = cc in (xs, u, subst (λ q. Written ws xs q u) f i)
left_side l r (pairing Union s g i k) e = absurd (differ cc)

module _ (ws : List ℕ) (ts : List (List Row)) (rows : OfWidths ws ts) where
  wide : {xs : List ℕ} {q : Query} {w : ℕ} → Written ws xs q w → Wide ts q (width ws q)
  wide {q = q} {w = w} s = subst (Wide ts q) (sym (written_width s)) (stands_wide Count (λ k. 1) ws ts rows (stands_there [] s))

  alike_by : {p p' q q' : Query} → q ≡ p → Some p' ≡ Some q' → SameProvenance ts p p' → SameProvenance ts q q'
  alike_by {p} {p'} {q} {q'} e f h =
      let g : p' ≡ q' = cc in subst (λ r. SameProvenance ts q r) g (subst (λ r. SameProvenance ts r p') (sym e) h)

  other_way : (p q : Query) → SameProvenance ts p q → SameProvenance ts q p
  other_way p q h r = sym (h r)

  pub turned_alike : (s : Step) {xs : List ℕ} {q : Query} {w : ℕ} (n : Query) → Written ws xs q w → turned ws s q ≡ Some n → SameProvenance ts q n
  unfolding width
  turned_alike SwapTests {q = q} n t e =
      let a = test_shown n q _ e in let b = test_shown n a.1 _ a.3 in
      alike_by (a.2 ∙ ap (select a.0) b.2) b.3 (rewriting.moved ts b.1 b.1 b.1 a.0 b.0).tests_swapped
  turned_alike TestIntoUnion {q = q} n t e =
      let a = test_shown n q _ e in let b = union_shown n a.1 _ a.3 in
      alike_by (a.2 ∙ ap (select a.0) b.2) b.3 (rewriting.moved ts b.0 b.1 b.1 a.0 a.0).test_in_union
  turned_alike TestIntoLeft {q = q} n t e =
      let a = test_shown n q _ e in let b = product_shown n a.1 _ a.3 in
      let k = pick_shown n (within (width ws b.0) a.0) (product (select a.0 b.0) b.1) b.3 in
      let i = below_test a.0 a.1 t a.2 in let l = left_side b.0 b.1 i.2 b.2 in
      alike_by (a.2 ∙ ap (select a.0) b.2) k.1
      ((rewriting.pushed_in ts b.0 b.1 a.0 (width ws b.0) (wide l.2)).on_left (within_is (width ws b.0) a.0 k.0))
  turned_alike TestIntoRight {q = q} n t e =
      let a = test_shown n q _ e in let b = product_shown n a.1 _ a.3 in
      let v = width ws b.0 in
      let k = pick_shown n (behind v a.0) (product b.0 (select (earlier v a.0) b.1)) b.3 in
      let i = below_test a.0 a.1 t a.2 in let l = left_side b.0 b.1 i.2 b.2 in
      let h = (rewriting.pushed_in ts b.0 b.1 (earlier v a.0) v (wide l.2)).on_right in
      alike_by (a.2 ∙ ap (select a.0) b.2) k.1
      (subst (λ c. SameProvenance ts (select c (product b.0 b.1)) (product b.0 (select (earlier v a.0) b.1))) (later_earlier v a.0 k.0) h)
  turned_alike UnionOutOfLeft {q = q} n t e =
      let a = product_shown n q _ e in let b = union_shown n a.0 _ a.3 in
      alike_by (a.2 ∙ ap (λ l. product l a.1) b.2) b.3 (rewriting.moved ts b.0 b.1 a.1 (same 0 0) (same 0 0)).union_on_left
  turned_alike UnionOutOfRight {q = q} n t e =
      let a = product_shown n q _ e in let b = union_shown n a.1 _ a.3 in
      alike_by (a.2 ∙ ap (product a.0) b.2) b.3 (rewriting.moved ts a.0 b.0 b.1 (same 0 0) (same 0 0)).union_on_right
  turned_alike RegroupLeft {q = q} n t e =
      let a = product_shown n q _ e in let b = product_shown n a.1 _ a.3 in
      alike_by (a.2 ∙ ap (product a.0) b.2) b.3 (rewriting.moved ts a.0 b.0 b.1 (same 0 0) (same 0 0)).products_regrouped
  turned_alike RegroupRight {q = q} n t e =
      let a = product_shown n q _ e in let b = product_shown n a.0 _ a.3 in
      alike_by (a.2 ∙ ap (λ l. product l a.1) b.2) b.3
      (other_way (product b.0 (product b.1 a.1)) (product (product b.0 b.1) a.1)
      (rewriting.moved ts b.0 b.1 a.1 (same 0 0) (same 0 0)).products_regrouped)
  turned_alike SwapUnion {q = q} n t e =
      let a = union_shown n q _ e in
      alike_by a.2 a.3 (rewriting.moved ts a.0 a.1 a.1 (same 0 0) (same 0 0)).unions_swapped
  turned_alike TestBelowProjection {q = q} n t e =
      let a = test_shown n q _ e in let b = project_shown n a.1 _ a.3 in
      let i = below_test a.0 a.1 t a.2 in
      let h = within_is (length b.0) a.0 (subst (λ v. within v a.0 ≡ true) (sym (written_width i.2) ∙ ap (width ws) b.2) i.3) in
      alike_by (a.2 ∙ ap (select a.0) b.2) b.3 ((rewriting.projected ts b.1 b.1 b.0 b.0 a.0).test_below h)
  turned_alike JoinProjections {q = q} n t e =
      let a = project_shown n q _ e in let b = project_shown n a.1 _ a.3 in
      let i = below_project a.0 a.1 t a.2 in
      let h = all_columns (length b.0) a.0 (subst (λ v. all_below v a.0 ≡ true) (sym (written_width i.2) ∙ ap (width ws) b.2) i.3) in
      alike_by (a.2 ∙ ap (project a.0) b.2) b.3 ((rewriting.projected ts b.1 b.1 b.0 a.0 (same 0 0)).composed h)
