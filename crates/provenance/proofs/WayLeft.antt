-- A row comes about without some rows exactly if one of its ways uses none of them. Assumes nothing.
use Rattle.std.proofs.Common.{◌≡◌, ℕ, ◌+◌, ◌<◌, Bool, false, List, [], ◌∷◌, inl, inr, arith}
use Rattle.std.specs.List.{AllByRecursion}
use Rattle.std.proofs.lemmas.Bool.{cases_lt}
use Rattle.tables.specs.Bool.{pick}
use Rattle.query.specs.Semiring.{Count}
use Rattle.circuit.specs.Expr.{provenance}
use Rattle.provenance.specs.Polynomial.{Monomial, Among, first, later, marks_value, times_over, normal_value}
use Rattle.provenance.specs.Without.{WayLeft}
use Rattle.provenance.proofs.NormalOne.{times_over_count, normal_counts}
use Rattle.provenance.proofs.Counts.{among_more}
use Rattle.provenance.proofs.Rising.{Rising, normal_rising}
use Rattle.provenance.proofs.TakenOut.{taken_out}
use Rattle.provenance.proofs.Exactly.{Told, product_pos}

module _ (gone : ℕ → Bool) where
  abbrev left : ℕ → ℕ
  left k = pick (gone k) 0 1

  -- a way that uses none of the rows that are gone
  abbrev Unharmed : Monomial → Type 0
  Unharmed m = AllByRecursion (λ k. gone k ≡ false) m.marks

  told_mark : (k : ℕ) → Told (gone k ≡ false) (left k)
  told_mark k = grind arith

  told_marks : (ks : List ℕ) → Told (AllByRecursion (λ k. gone k ≡ false) ks) (marks_value Count left ks)
  unfolding marks_value
  told_marks [] = (λ _. omega arith, λ _. tt)
  told_marks (k ∷ ks) =
      let pos = product_pos (left k) (marks_value Count left ks) in
      let here = told_mark k in
      let rest = told_marks ks in
      (λ h. pos.0 (here.0 h.0) (rest.0 h.1), λ p. let parts = pos.1 p in (here.1 parts.0, rest.1 parts.1))

  told_monomial : (m : Monomial) → 0 < m.count → Told (Unharmed m) (times_over Count m.count (marks_value Count left m.marks))
  told_monomial m some =
      let pos = product_pos m.count (marks_value Count left m.marks) in
      let marks = told_marks m.marks in
      rw times_over_count (λ h. pos.0 some (marks.0 h), λ p. marks.1 (pos.1 p).1)

  abbrev SomeLeft : List Monomial → Type 0
  SomeLeft ms = (m : Monomial) × Among m ms × Unharmed m

  told_ways : (ms : List Monomial) → Rising ms → Told (SomeLeft ms) (normal_value Count left ms)
  unfolding normal_value
  told_ways [] r = (λ h. elim h.1 [ ], λ p. absurd (omega arith))
  told_ways (m ∷ ms) r = more (told_monomial m r.some) (told_ways ms r.rest)
    where
      more : {a b : ℕ} → Told (Unharmed m) a → Told (SomeLeft ms) b → Told (SomeLeft (m ∷ ms)) (a + b)
      more {a} {b} here there = (
        λ h. among_more (λ x. Unharmed x → 0 < a + b) h.0 m ms
            (λ u. let l = here.0 u in omega arith) (λ i u. let l = there.0 (h.0, i, u) in omega arith) h.1 h.2,
        λ p. elim (cases_lt 0 a) [
          | inl l ↦ (m, first, here.1 l)
          | inr l ↦ let found = there.1 (omega arith) in (found.0, later found.1, found.2)
        ],
      )

pub way_left : WayLeft
way_left ts q gone r = rw (taken_out ts q gone r, ← normal_counts (left gone) (provenance ts q r)) (told_ways gone _ (normal_rising (provenance ts q r)))
