-- The normal form of a row's provenance is its ways, as the query itself makes them. Assumes nothing.
use Rattle.std.proofs.Common.{◌≡◌, ℕ, ◌+◌, ◌*◌, ◌<◌, Bool, true, false, ◌&&◌, List, [], ◌∷◌, ◌++◌, get_or, sym, refl, ◌∙◌, ap₂, arith}
use mathlib.Core.List.{cons≢nil}
use Rattle.tables.specs.Bool.{pick}
use Rattle.tables.specs.Tables.{Row, same_row}
use Rattle.query.specs.Semiring.{Semiring, Count}
use Rattle.query.specs.Query.{Query, scan, select, project, product, union, Annotated, beside, paired, run, total, worth}
use Rattle.query.proofs.Related.{Noted, Alike, none, more, alike_append, alike_annotated, alike_selected, alike_projected}
use Rattle.circuit.specs.Expr.{Expr, Plain, mark, or, both, provenance}
use Rattle.provenance.specs.Polynomial.{Monomial, merged, put_monomial, sum, scaled, multiplied, normal, count_of}
use Rattle.provenance.specs.Ways.{MarksApart, Time, time_beside, times_paired, times, often, often_by, WaysOf, WayByWay}
use Rattle.provenance.proofs.PutCases.{put_cases}
use Rattle.provenance.proofs.Counts.{Such, count_put, counts_one}
use Rattle.provenance.proofs.Rising.{normal_rising, rising_well_formed, well_formed_rising}

pub marks_apart : MarksApart
marks_apart t u i j h l e = omega arith

-- a query run in a semiring has the rows of its times, with notes that are related to their ways if those of marks and pairs are
module _ (S : Semiring) (v : ℕ → S.Value) (R : List ℕ → S.Value → Type 0) (at_mark : (k : ℕ) → R (k ∷ []) (v k))
    (at_pair : (w u : List ℕ) (a b : S.Value) → R w a → R u b → R (merged w u) (S.times a b)) where
  alike_time_beside : {x : Time} {y : Annotated S.Value} → x.row ≡ y.row → R x.note y.note →
      {xs : List Time} {ys : Noted S.Value} → Alike R xs ys → Alike R (time_beside x xs) (beside S y ys)
  unfolding time_beside beside
  alike_time_beside e h none = none
  alike_time_beside e h (more f k a) = more (ap₂ ◌++◌ e f) (at_pair _ _ _ _ h k) (alike_time_beside e h a)

  alike_times_paired : {xs xs' : List Time} {ys ys' : Noted S.Value} →
      Alike R xs ys → Alike R xs' ys' → Alike R (times_paired xs xs') (paired S ys ys')
  unfolding times_paired paired
  alike_times_paired none b = none
  alike_times_paired (more e h a) b = alike_append R (alike_time_beside e h b) (alike_times_paired a b)

  alike_times : (ts : List (List Row)) (q : Query) → Alike R (times ts q) (run S v ts q)
  unfolding times run
  alike_times ts (scan t) = alike_annotated R (λ k. k ∷ []) v at_mark t 0 (get_or ts t [])
  alike_times ts (select c q) = alike_selected R c (alike_times ts q)
  alike_times ts (project cs q) = alike_projected R cs (alike_times ts q)
  alike_times ts (product p q) = alike_times_paired (alike_times ts p) (alike_times ts q)
  alike_times ts (union p q) = alike_append R (alike_times ts p) (alike_times ts q)

-- counted with every mark 1, each time counts once
often_total : (r : Row) {xs : List Time} {ys : Noted ℕ} → Alike (λ w n. n ≡ 1) xs ys → total Count r ys ≡ often r xs
unfolding total often
often_total r none = refl
often_total r (more e h a) = let f = often_total r a in rw (e, h) (grind arith)

pub often_worth : (ts : List (List Row)) (q : Query) (r : Row) → often r (times ts q) ≡ worth Count (λ k. 1) ts q r
unfolding worth
often_worth ts q r = sym (often_total r (alike_times Count (λ k. 1) (λ w n. n ≡ 1) (λ k. refl) (λ w u a b e f. ap₂ ◌*◌ e f) ts q))

-- an expression that stands for one way, once
abbrev Way : List ℕ → Expr → Type 0
Way w e = normal e ≡ record { count = 1; marks = w } ∷ []

way_both : (w u : List ℕ) (a b : Expr) → Way w a → Way u b → Way (merged w u) (both a b)
unfolding normal multiplied scaled sum put_monomial
way_both w u a b e f = ap₂ multiplied e f

way_mark : (k : ℕ) → Way (k ∷ []) (mark k)
unfolding normal
way_mark k = refl

-- one more time of a row, or of another one
count_more : (b : Bool) (w u : List ℕ) (n e : Expr) (k : ℕ) → Way u n → count_of w (normal e) ≡ k →
    count_of w (normal (pick b (or n e) e)) ≡ pick (b && same_row w u) (1 + k) k
unfolding normal sum
count_more true w u n e k h i =
    rw h (count_put w (record { count = 1; marks = u }) (normal e) ∙ grind arith)
count_more false w u n e k h i = i

count_total : (r : Row) (w : List ℕ) {xs : List Time} {ys : Noted Expr} → Alike Way xs ys → count_of w (normal (total Plain r ys)) ≡ often_by r w xs
unfolding total often_by count_of normal
count_total r w none = refl
count_total r w (more {x = x} {y = y} e h a) = rw e (count_more (same_row r y.row) w x.note y.note _ _ h (count_total r w a))

count_ways : (ts : List (List Row)) (q : Query) (r : Row) (w : List ℕ) → count_of w (normal (provenance ts q r)) ≡ often_by r w (times ts q)
unfolding provenance worth
count_ways ts q r w = count_total r w (alike_times Plain mark Way way_mark way_both ts q)

ways_of : (ts : List (List Row)) (q : Query) (r : Row) → WaysOf (times ts q) r (normal (provenance ts q r))
ways_of ts q r = record {
  well_formed = rising_well_formed (normal (provenance ts q r)) (normal_rising (provenance ts q r));
  counted = count_ways ts q r;
}

all_such : (ms : List Monomial) → Such (λ w. Unit {0}) ms
all_such [] = tt
all_such (m ∷ ms) = (tt, all_such ms)

no_other : (ts : List (List Row)) (q : Query) (r : Row) (ms : List Monomial) → WaysOf (times ts q) r ms → ms ≡ normal (provenance ts q r)
no_other ts q r ms ways =
    counts_one (λ w. Unit {0}) ms (normal (provenance ts q r)) (well_formed_rising ms ways.well_formed) (normal_rising (provenance ts q r))
    (all_such ms) (all_such (normal (provenance ts q r))) (λ w _. ways.counted w ∙ sym (count_ways ts q r w))

-- there is a way exactly if there is a time
abbrev pub SomeWay : List Monomial → ℕ → Type 0
SomeWay ms n = (0 < n → ms ≡ [] → ⊥) × ((ms ≡ [] → ⊥) → 0 < n)

put_some : (m : Monomial) (xs : List Monomial) → put_monomial m xs ≡ [] → ⊥
unfolding put_monomial
put_some m [] = cons≢nil
put_some m (x ∷ xs) = put_cases (λ zs. zs ≡ [] → ⊥) m x xs (λ _. cons≢nil) (λ _. cons≢nil) (λ _. cons≢nil)

some_more : (b : Bool) (u : List ℕ) (n e : Expr) (k : ℕ) → Way u n → SomeWay (normal e) k → SomeWay (normal (pick b (or n e) e)) (pick b (1 + k) k)
unfolding normal sum
some_more true u n e k h i = rw h (λ _. put_some (record { count = 1; marks = u }) (normal e), λ _. omega arith)
some_more false u n e k h i = i

some_total : (r : Row) {xs : List Time} {ys : Noted Expr} → Alike Way xs ys → SomeWay (normal (total Plain r ys)) (often r xs)
unfolding total often normal
some_total r none = (λ h. absurd (omega arith), λ h. absurd (h refl))
some_total r (more {x = x} {y = y} e h a) = rw e (some_more (same_row r y.row) x.note y.note _ _ h (some_total r a))

pub some_way : (ts : List (List Row)) (q : Query) (r : Row) → SomeWay (normal (provenance ts q r)) (often r (times ts q))
unfolding provenance worth
some_way ts q r = some_total r (alike_times Plain mark Way way_mark way_both ts q)

pub way_by_way : WayByWay
way_by_way = record {
  ways = ways_of;
  no_other = no_other;
  in_answer = λ ts q ns out a r i listed. (some_way ts q r).1 (a.comes r i listed);
  answered = λ ts q ns out a r comes. a.all r ((some_way ts q r).0 comes);
}
