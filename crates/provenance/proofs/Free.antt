-- Normal forms are the free lawful semiring. Two of them are equal if they count alike, so each law is one of whole numbers. Assumes nothing.
use Rattle.std.proofs.Common.{◌≡◌, ℕ, zero, suc, ◌+◌, ◌*◌, List, [], ◌∷◌, sym, refl, ap, ◌∙◌, ap₂, mul_assoc, mul_comm, mul-add, arith}
use Rattle.query.specs.Semiring.{Semiring, Lawful, Count}
use Rattle.query.proofs.Named.{count_lawful}
use Rattle.circuit.specs.Expr.{Expr, never, always, mark, or, both, Plain, value}
use Rattle.provenance.specs.Polynomial.{Monomial, sum, multiplied, normal, marks_value, times_over, normal_value, WellFormed, Polynomials, only}
use Rattle.provenance.specs.NormalForm.{Reads, NormalFree}
use Rattle.provenance.proofs.Says.{once, sum_says, multiplied_says, normal_says}
use Rattle.provenance.proofs.Rising.{sum_rising, multiplied_rising, normal_rising, rising_well_formed, well_formed_rising}
use Rattle.provenance.proofs.NormalOne.{counted_one}

module _ (v : ℕ → ℕ) where
  -- how a polynomial counts
  abbrev pub counts : List Monomial → ℕ
  counts p = normal_value Count v p

  pub counts_sum : (p q : List Monomial) → counts (sum p q) ≡ counts p + counts q
  counts_sum p q = sum_says Count (λ _. Unit {0}) count_lawful v (λ _. tt) p q

  pub counts_product : (p q : List Monomial) → counts (multiplied p q) ≡ counts p * counts q
  counts_product p q = multiplied_says Count (λ _. Unit {0}) count_lawful v (λ _. tt) p q

  counts_one : counts Polynomials.one ≡ 1
  unfolding marks_value
  counts_one = once Count (λ _. Unit {0}) count_lawful v (λ _. tt) []

  counts_zero : counts [] ≡ 0
  unfolding normal_value
  counts_zero = refl

sum_in : (p q : List Monomial) → WellFormed p → WellFormed q → WellFormed (sum p q)
sum_in p q P Q = rising_well_formed (sum p q) (sum_rising p q (well_formed_rising p P) (well_formed_rising q Q))

product_in : (p q : List Monomial) → WellFormed p → WellFormed q → WellFormed (multiplied p q)
product_in p q P Q = rising_well_formed (multiplied p q) (multiplied_rising p q (well_formed_rising p P) (well_formed_rising q Q))

normal_in : (e : Expr) → WellFormed (normal e)
normal_in e = rising_well_formed (normal e) (normal_rising e)

one_in : WellFormed Polynomials.one
unfolding normal
one_in = normal_in always

by_counts : (p q : List Monomial) → WellFormed p → WellFormed q → ((v : ℕ → ℕ) → counts v p ≡ counts v q) → p ≡ q
by_counts p q P Q same = counted_one p q (well_formed_rising p P) (well_formed_rising q Q) same

polynomials_lawful : Lawful Polynomials WellFormed
polynomials_lawful = record {
  zero_in = tt;
  one_in = one_in;
  plus_in = sum_in;
  times_in = product_in;
  plus_swap = λ a b A B. by_counts _ _ (sum_in a b A B) (sum_in b a B A) (λ v. simp counts_sum (omega arith));
  plus_group = λ a b c A B C. by_counts _ _ (sum_in _ c (sum_in a b A B) C) (sum_in a _ A (sum_in b c B C)) (λ v. simp counts_sum (omega arith));
  plus_zero = λ a A. by_counts _ a (sum_in a [] A tt) A (λ v. simp (counts_sum, counts_zero) (omega arith));
  times_swap = λ a b A B. by_counts _ _ (product_in a b A B) (product_in b a B A) (λ v. rw (counts_product v a b, counts_product v b a) (mul_comm _ _));
  times_group = λ a b c A B C. by_counts _ _ (product_in _ c (product_in a b A B) C) (product_in a _ A (product_in b c B C))
      (λ v. simp counts_product (mul_assoc _ _ _));
  times_one = λ a A. by_counts _ a (product_in a _ A one_in) A (λ v. simp (counts_product, counts_one) (omega arith));
  times_zero = λ a A. by_counts _ [] (product_in a [] A tt) tt (λ v. simp (counts_product, counts_zero) (omega arith));
  spread = λ a b c A B C. by_counts _ _ (product_in a _ A (sum_in b c B C)) (sum_in _ _ (product_in a b A B) (product_in a c A C))
      (λ v. simp (counts_product, counts_sum) (mul-add _ _ _));
}

-- a polynomial written out as an expression is worth what it is
module _ (S : Semiring) (v : ℕ → S.Value) where
  written_marks : (ks : List ℕ) → value S v (marks_value Plain mark ks) ≡ marks_value S v ks
  unfolding value marks_value
  written_marks [] = refl
  written_marks (k ∷ ks) = rw (written_marks ks)

  written_over : (n : ℕ) (e : Expr) → value S v (times_over Plain n e) ≡ times_over S n (value S v e)
  unfolding value times_over
  written_over zero e = refl
  written_over (suc n) e = rw (written_over n e)

  written : (p : List Monomial) → value S v (normal_value Plain mark p) ≡ normal_value S v p
  unfolding value normal_value
  written [] = refl
  written (m ∷ ms) =
      ap₂ S.plus (written_over m.count (marks_value Plain mark m.marks) ∙ ap (times_over S m.count) (written_marks m.marks)) (written ms)

is_normal : (p : List Monomial) → WellFormed p → normal (normal_value Plain mark p) ≡ p
is_normal p P =
    by_counts _ p (normal_in _) P (λ v. normal_says Count (λ _. Unit {0}) count_lawful v (λ _. tt) (normal_value Plain mark p) ∙ written Count v p)

worked_out : (e : Expr) → value Polynomials only e ≡ normal e
unfolding value normal
worked_out never = refl
worked_out always = refl
worked_out (mark k) = refl
worked_out (or a b) = ap₂ sum (worked_out a) (worked_out b)
worked_out (both a b) = ap₂ multiplied (worked_out a) (worked_out b)

reads : (S : Semiring) (In : S.Value → Type 0) → Lawful S In → (v : ℕ → S.Value) → ((k : ℕ) → In (v k)) → Reads S v (normal_value S v)
unfolding normal_value marks_value
reads S In law v known = record {
  at_zero = refl;
  at_one = once S In law v known [];
  at_mark = λ k. once S In law v known (k ∷ []) ∙ law.times_one (v k) (known k);
  at_plus = λ a b A B. sum_says S In law v known a b;
  at_times = λ a b A B. multiplied_says S In law v known a b;
}

module _ (S : Semiring) (v : ℕ → S.Value) (h : List Monomial → S.Value) (reading : Reads S v h) where
  reads_normal : (e : Expr) → h (normal e) ≡ value S v e
  unfolding normal value
  reads_normal never = reading.at_zero
  reads_normal always = reading.at_one
  reads_normal (mark k) = reading.at_mark k
  reads_normal (or a b) = reading.at_plus (normal a) (normal b) (normal_in a) (normal_in b) ∙ ap₂ S.plus (reads_normal a) (reads_normal b)
  reads_normal (both a b) = reading.at_times (normal a) (normal b) (normal_in a) (normal_in b) ∙ ap₂ S.times (reads_normal a) (reads_normal b)

  one_reading : (p : List Monomial) → WellFormed p → h p ≡ normal_value S v p
  one_reading p P = sym (ap h (is_normal p P)) ∙ reads_normal (normal_value Plain mark p) ∙ written S v p

pub normal_free : NormalFree
normal_free = record {
  lawful = polynomials_lawful;
  well_formed = normal_in;
  all = λ p P. (normal_value Plain mark p, is_normal p P);
  worked_out = worked_out;
  reads = reads;
  one_reading = one_reading;
}
