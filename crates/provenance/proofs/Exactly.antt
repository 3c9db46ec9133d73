-- A reading that says yes of a sum if it does of either part, and of a product if it does of both, says of a row whether it comes about
-- from the rows of which it says yes: so by level, and by each bit of a set. Assumes nothing.
use Rattle.std.proofs.Common.{◌≡◌, ℕ, zero, suc, ◌+◌, ◌*◌, ◌^◌, ◌<◌, ◌≤◌, Bool, eqb, ltb, ◌⊎◌, List, inl, inr, arith}
use native.Mathlib.Nat.{zero-div}
use Rattle.std.proofs.lemmas.Bool.{cases_lt}
use Rattle.std.proofs.lemmas.Bool.Decides.{nat_tests}
use Rattle.tables.specs.Bool.{pick}
use Rattle.tables.specs.Tables.{Row}
use Rattle.query.specs.Semiring.{Semiring, Count, Level, Sets, bit}
use Rattle.query.specs.Query.{Query}
use Rattle.query.proofs.Named.{bit_of_or, bit_of_and}
use Rattle.query.proofs.Related.{KeptBy, worth_related}
use Rattle.circuit.specs.Expr.{value, provenance}
use Rattle.provenance.specs.Without.{ExactlyWithout, AtLevel, InEachCase}
use Rattle.provenance.proofs.ValueWorth.{value_worth}
use Rattle.provenance.proofs.TakenOut.{often_without}

-- Y is a yes or no that sums and products keep
record Splits (S : Semiring) (Y : S.Value → Type 0) : Type 0 where
  at_zero : Y S.zero → ⊥
  at_plus : (a b : S.Value) → (Y (S.plus a b) → Y a ⊎ Y b) × (Y a → Y (S.plus a b)) × (Y b → Y (S.plus a b))
  at_times : (a b : S.Value) → (Y (S.times a b) → Y a × Y b) × (Y a → Y b → Y (S.times a b))

pub product_pos : (m n : ℕ) → (0 < m → 0 < n → 0 < m * n) × (0 < m * n → (0 < m) × (0 < n))
product_pos zero n = omega arith
product_pos (suc m) zero = omega arith
product_pos (suc m) (suc n) = omega arith

-- yes exactly if n is not 0
abbrev pub Told : Type 0 → ℕ → Type 0
Told yes_so n = (yes_so → 0 < n) × (0 < n → yes_so)

module _ (S : Semiring) (Y : S.Value → Type 0) (splits : Splits S Y) where
  told_plus : (a b : S.Value) (m n : ℕ) → Told (Y a) m → Told (Y b) n → Told (Y (S.plus a b)) (m + n)
  told_plus a b m n p q = (
    λ y. elim ((splits.at_plus a b).0 y) [ inl y ↦ let h = p.0 y in omega arith | inr y ↦ let h = q.0 y in omega arith ],
    λ h. elim (cases_lt 0 m) [ inl l ↦ (splits.at_plus a b).1 (p.1 l) | inr l ↦ (splits.at_plus a b).2 (q.1 (omega arith)) ],
  )

  told_times : (a b : S.Value) (m n : ℕ) → Told (Y a) m → Told (Y b) n → Told (Y (S.times a b)) (m * n)
  told_times a b m n p q = (
    λ y. let parts = (splits.at_times a b).0 y in (product_pos m n).0 (p.0 parts.0) (q.0 parts.1),
    λ h. let parts = (product_pos m n).1 h in (splits.at_times a b).1 (p.1 parts.0) (q.1 parts.1),
  )

  told_kept : KeptBy S Count (λ a n. Told (Y a) n)
  told_kept = record { at_zero = (λ y. absurd (splits.at_zero y), λ h. absurd (omega arith)); at_plus = told_plus; at_times = told_times }

  exactly : (v : ℕ → S.Value) (gone : ℕ → Bool) → ((k : ℕ) → Told (Y (v k)) (pick (gone k) 0 1)) → (ts : List (List Row)) (q : Query) (r : Row) →
      ExactlyWithout (Y (value S v (provenance ts q r))) gone ts q r
  exactly v gone each ts q r =
      rw (often_without ts q gone r, value_worth S v ts q r) (worth_related told_kept v (λ k. pick (gone k) 0 1) each ts q r)

level_splits : (top l : ℕ) → 0 < l → Splits (Level top) (λ a. l ≤ a)
level_splits top l h = record {
  at_zero = λ z. omega arith;
  at_plus = λ a b. grind (arith, nat_tests);
  at_times = λ a b. grind (arith, nat_tests);
}

pub at_level : AtLevel
at_level ts q top l v r h = exactly (Level top) (λ a. l ≤ a) (level_splits top l h) v (λ k. ltb (v k) l) (λ k. grind (arith, nat_tests)) ts q r

bit_splits : (j : ℕ) → Splits Sets (λ a. bit a j ≡ 1)
bit_splits j = record {
  at_zero = λ z. omega (arith, zero-div (2 ^ j));
  at_plus = λ a b. rw (bit_of_or a b j) (grind arith);
  at_times = λ a b. rw (bit_of_and a b j) (grind arith);
}

pub in_case : (j : ℕ) (v : ℕ → ℕ) (gone : ℕ → Bool) → ((k : ℕ) → Told (bit (v k) j ≡ 1) (pick (gone k) 0 1)) →
    (ts : List (List Row)) (q : Query) (r : Row) → ExactlyWithout (bit (value Sets v (provenance ts q r)) j ≡ 1) gone ts q r
in_case j = exactly Sets (λ a. bit a j ≡ 1) (bit_splits j)

pub in_each_case : InEachCase
in_each_case ts q v r j = in_case j v (λ k. eqb (bit (v k) j) 0) (λ k. grind (arith, nat_tests)) ts q r
