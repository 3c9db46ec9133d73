-- What reading shows of a whole query: where its operators stand, how wide it is, and how wide its rows are. Assumes nothing.
use Rattle.std.proofs.Common.{◌≡◌, ℕ, zero, suc, ◌+◌, ◌-◌, ◌*◌, ◌/◌, ◌<◌, ◌≤◌, List, [], ◌∷◌, length, get_or, take, drop, Some, None, Option, sym, refl, ap, ◌∙◌, subst, arith}
use Rattle.std.specs.List.{AllByRecursion}
use Rattle.std.proofs.lemmas.List.{drop-drop, length-drop, length-append, length-take-le}
use Rattle.std.proofs.ByRecursion.{All-append}
use Rattle.tables.specs.Tables.{Row}
use Rattle.tables.proofs.Choice.{picked}
use Rattle.query.specs.Semiring.{Semiring}
use Rattle.query.specs.Query.{Query, Test, scan, Annotated, passes, annotated, selected, projected, beside, run}
use Rattle.query.specs.Query as query
use Rattle.query.specs.Operators.{operator_at, change_width, pair_width, changed, paired}
use Rattle.query.specs.Parse.{Parsed, parsed, by_kind, reads}
use Rattle.query.specs.declared.operator.Operator.{Operator}
use Rattle.query.specs.declared.operator.Operator.TheVariants.{Scan, One, Two}
use Rattle.query.specs.declared.operator.Change.{Change}
use Rattle.query.specs.declared.operator.Change.TheVariants.{Select, Project}
use Rattle.query.specs.declared.operator.Pairing.{Pairing}
use Rattle.query.specs.declared.operator.Pairing.TheVariants.{Product, Union}
use Rattle.query.proofs.Steps.{reads_step, operator_long, project_four, change_narrow, pair_narrow, select_fits, project_fits, product_fits, union_fits}
use Rattle.query.proofs.Inverse.{no_fault, zero_inverse, scan_meant, one_meant, two_meant}
use Rattle.query.proofs.Keeping.{length_cells}
use Rattle.query.proofs.Related.{Noted}
use Rattle.query.proofs.Sides.{AllWide}

-- a query of width w stands at the front of xs, and ys comes after it: which operator, and what was checked, of it and of every query inside
pub data StandsIn (ws : List ℕ) : List ℕ → Query → ℕ → List ℕ → Type 0 where
  at_scan : {xs : List ℕ} (t : ℕ) → operator_at xs ≡ Some (Scan t) → t < length ws → StandsIn ws xs (scan t) (get_or ws t 0) (drop 6 xs)
  at_one : {xs ys : List ℕ} {q : Query} {v w : ℕ} (c : Change) → operator_at xs ≡ Some (One c) → Some w ≡ change_width c v →
      StandsIn ws (drop 6 xs) q v ys → StandsIn ws xs (changed c q) w ys
  at_two : {xs ys zs : List ℕ} {l r : Query} {u v w : ℕ} (j : Pairing) → operator_at xs ≡ Some (Two j) → Some w ≡ pair_width j u v →
      StandsIn ws (drop 6 xs) l u ys → StandsIn ws ys r v zs → StandsIn ws xs (paired j l r) w zs

by_front : (p : ℕ) (ws xs : List ℕ) (q : Query) (w : ℕ) (ys : List ℕ) (go : List ℕ → Parsed) →
    ((zs : List ℕ) (r : Query) (v : ℕ) (us : List ℕ) → go zs ≡ parsed r v us → StandsIn ws zs r v us) →
    (o : Option Operator) → operator_at xs ≡ o → by_kind o p ws (drop 6 xs) go ≡ parsed q w ys → StandsIn ws xs q w ys
by_front p ws xs q w ys go inner (Some (Scan t)) f e =
    let k = scan_meant q w ys p ws (drop 6 xs) go t e in
    subst (λ r. StandsIn ws xs r w ys) k.1
    (subst (λ v. StandsIn ws xs (scan t) v ys) k.2 (subst (λ us. StandsIn ws xs (scan t) (get_or ws t 0) us) k.3 (at_scan t f k.0)))
by_front p ws xs q w ys go inner (Some (One c)) f e =
    let k = one_meant q w ys p ws (drop 6 xs) go c e in
    subst (λ r. StandsIn ws xs r w ys) k.4 (at_one c f k.3 (inner _ _ _ _ k.2))
by_front p ws xs q w ys go inner (Some (Two j)) f e =
    let k = two_meant q w ys p ws (drop 6 xs) go j e in
    subst (λ r. StandsIn ws xs r w ys) k.8 (at_two j f k.7 (inner _ _ _ _ k.5) (inner _ _ _ _ k.6))
by_front p ws xs q w ys go inner None f e = absurd (no_fault p q w ys e)

pub stands_in : (fuel n : ℕ) (ws xs : List ℕ) (q : Query) (w : ℕ) (ys : List ℕ) → reads fuel n ws xs ≡ parsed q w ys → StandsIn ws xs q w ys
stands_in zero n ws xs q w ys e = absurd (zero_inverse n ws xs q w ys e)
stands_in (suc fuel) n ws xs q w ys e =
    by_front (n - length xs / 6) ws xs q w ys (λ zs. reads fuel n ws zs) (stands_in fuel n ws) (operator_at xs) refl (sym (reads_step fuel n ws xs) ∙ e)

-- the operators of a query are the first so many of those that are left, one at least
pub record Front (xs ys : List ℕ) : Type 0 where
  pub count : ℕ
  pub some : 1 ≤ count
  pub within : 6 * count ≤ length xs
  pub rest : drop (6 * count) xs ≡ ys

pub front : {ws xs : List ℕ} {q : Query} {w : ℕ} {ys : List ℕ} → StandsIn ws xs q w ys → Front xs ys
front (at_scan {xs = xs} t f _) = record { count = 1; some = omega arith; within = operator_long xs (Scan t) f; rest = refl }
front (at_one {xs = xs} c f _ s) =
    let a = front s in let long = operator_long xs (One c) f in
    let e : 6 * (1 + a.count) ≡ 6 + 6 * a.count = omega arith in
    record {
      count = 1 + a.count;
      some = omega arith;
      within = omega (arith, length-drop 6 xs);
      rest = rw e (sym (drop-drop (6 * a.count) 6 xs) ∙ a.rest);
    }
front (at_two {xs = xs} {ys = ys} j f _ s t) =
    let a = front s in let b = front t in let long = operator_long xs (Two j) f in
    let e : 6 * (1 + (a.count + b.count)) ≡ 6 + (6 * a.count + 6 * b.count) = omega arith in
    record {
      count = 1 + (a.count + b.count);
      some = omega arith;
      within = omega (arith, length-drop 6 xs, length-drop (6 * a.count) (drop 6 xs), ap length a.rest);
      rest =
          rw e
          (sym (drop-drop (6 * a.count + 6 * b.count) 6 xs) ∙ sym (drop-drop (6 * b.count) (6 * a.count) (drop 6 xs)) ∙ ap (drop (6 * b.count)) a.rest ∙ b.rest);
    }

-- so less is left after it
pub front_shorter : (xs ys : List ℕ) → Front xs ys → length ys < length xs
front_shorter xs ys a = omega (arith, ap length a.rest, length-drop (6 * a.count) xs)

-- no table is wider than eight columns, and the rows of each table have its width
abbrev pub Narrow : List ℕ → Type 0
Narrow ws = (t : ℕ) → t < length ws → get_or ws t 0 ≤ 8

abbrev pub RowsWide : List ℕ → List (List Row) → Type 0
RowsWide ws ts = (t : ℕ) → t < length ws → AllByRecursion (λ r. length r ≡ get_or ws t 0) (get_or ts t [])

pub stands_narrow : {ws xs : List ℕ} {q : Query} {w : ℕ} {ys : List ℕ} → Narrow ws → StandsIn ws xs q w ys → w ≤ 8
stands_narrow n (at_scan t _ h) = n t h
stands_narrow n (at_one c _ e s) = change_narrow c _ _ (stands_narrow n s) e
stands_narrow n (at_two j _ e s t) = pair_narrow j _ _ _ (stands_narrow n s) e

module _ {V : Type 0} (w : ℕ) where
  wide_annotated : (v : ℕ → V) (t i : ℕ) (rs : List Row) → AllByRecursion (λ r. length r ≡ w) rs → AllWide w (annotated v t i rs)
  unfolding annotated
  wide_annotated v t i [] h = tt
  wide_annotated v t i (r ∷ rs) h = (h.0, wide_annotated v t (suc i) rs h.1)

  wide_selected : (c : Test) (xs : Noted V) → AllWide w xs → AllWide w (selected c xs)
  unfolding selected
  wide_selected c [] h = tt
  wide_selected c (x ∷ xs) h = picked (λ (ys : Noted V). AllWide w ys) (passes c x.row) (λ _. (h.0, wide_selected c xs h.1)) (λ _. wide_selected c xs h.1)

wide_projected : {V : Type 0} (cs : List ℕ) (xs : Noted V) → AllWide (length cs) (projected cs xs)
unfolding projected
wide_projected cs [] = tt
wide_projected cs (x ∷ xs) = (length_cells cs x.row, wide_projected cs xs)

module _ (S : Semiring) (u v : ℕ) where
  wide_beside : (x : Annotated S.Value) (ys : Noted S.Value) → length x.row ≡ u → AllWide v ys → AllWide (u + v) (beside S x ys)
  unfolding beside
  wide_beside x [] e h = tt
  wide_beside x (y ∷ ys) e h = (omega (arith, length-append x.row y.row, h.0), wide_beside x ys e h.1)

  wide_paired : (xs ys : Noted S.Value) → AllWide u xs → AllWide v ys → AllWide (u + v) (query.paired S xs ys)
  unfolding query.paired
  wide_paired [] ys h k = tt
  wide_paired (x ∷ xs) ys h k = All-append _ (beside S x ys) (query.paired S xs ys) (wide_beside x ys h.0 k) (wide_paired xs ys h.1 k)

-- every row that a query gives has the query's width
module _ (S : Semiring) (v : ℕ → S.Value) (ws : List ℕ) (ts : List (List Row)) (rows : RowsWide ws ts) where
  wide_changed : (c : Change) (xs : List ℕ) (q : Query) (u w : ℕ) → operator_at xs ≡ Some (One c) → Some w ≡ change_width c u →
      AllWide u (run S v ts q) → AllWide w (run S v ts (changed c q))
  unfolding run
  wide_changed (Select c) xs q u w f e h = rw (select_fits c u w e).1 (wide_selected u _ (run S v ts q) h)
  wide_changed (Project n cs) xs q u w f e h =
      let k = project_fits n cs u w e in
      let long : length (take n cs) ≡ w = length-take-le n cs (omega (arith, project_four xs n cs f)) ∙ sym k.width in
      rw (← long) (wide_projected (take n cs) (run S v ts q))

  wide_joined : (j : Pairing) (p q : Query) (a b w : ℕ) → Some w ≡ pair_width j a b →
      AllWide a (run S v ts p) → AllWide b (run S v ts q) → AllWide w (run S v ts (paired j p q))
  unfolding run
  wide_joined Product p q a b w e h k = rw (product_fits a b w e).1 (wide_paired S a b (run S v ts p) (run S v ts q) h k)
  wide_joined Union p q a b w e h k =
      let f = union_fits a b w e in
      rw f.1 (All-append _ (run S v ts p) (run S v ts q) h (rw f.0 k))

  pub stands_wide : {xs : List ℕ} {q : Query} {w : ℕ} {ys : List ℕ} → StandsIn ws xs q w ys → AllWide w (run S v ts q)
  unfolding run
  stands_wide (at_scan t _ h) = wide_annotated (get_or ws t 0) v t 0 (get_or ts t []) (rows t h)
  stands_wide (at_one {xs = xs} c f e s) = wide_changed c xs _ _ _ f e (stands_wide s)
  stands_wide (at_two j _ e s t) = wide_joined j _ _ _ _ _ e (stands_wide s) (stands_wide t)
