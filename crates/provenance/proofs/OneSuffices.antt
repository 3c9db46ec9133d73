-- With a bit for each of some named rows, each bit says whether its row alone suffices. Assumes nothing.
use Rattle.std.proofs.Common.{◌≡◌, ℕ, suc, ◌+◌, ◌-◌, ◌^◌, ◌<◌, ◌≤◌, min, true, false, not, eqb, ◌⊎◌, List, [], ◌∷◌, length, get_or, sym, refl, ap, ◌∙◌, inl, inr, mod-eq_of_lt, pow-suc, zero-add, arith}
use native.Mathlib.Nat.{div_self, div-eq_of_lt}
use lib.Bits.{bit_and, and_mask}
use Rattle.std.proofs.lemmas.Nat.{pow_pos, pow-add, pow_below, shl-shr}
use Rattle.std.proofs.lemmas.Bool.{cases_eq, cases_order, eq-eqb, ne_eqb}
use Rattle.tables.specs.Bool.{pick}
use Rattle.query.specs.Semiring.{bit}
use Rattle.query.proofs.Named.{bit_of_and}
use Rattle.provenance.specs.Without.{own_bit, named, others, Apart, OneSuffices}
use Rattle.provenance.proofs.Exactly.{Told, in_case}

bit_own : (j : ℕ) → bit (2 ^ j) j ≡ 1
bit_own j = rw (div_self (pow_pos j))

bit_lower : (i j : ℕ) → i < j → bit (2 ^ i) j ≡ 0
bit_lower i j h = rw (div-eq_of_lt (pow_below i j h))

bit_higher : (j d : ℕ) → bit (2 ^ (suc d + j)) j ≡ 0
bit_higher j d = rw (pow-add 2 (suc d) j, shl-shr (2 ^ suc d) j, pow-suc 2 d) (omega arith)

bit_other : (i j : ℕ) → (i ≡ j → ⊥) → bit (2 ^ i) j ≡ 0
bit_other i j h =
    elim (cases_order i j) [
      | inl e ↦ absurd (h e)
      | inr (inl l) ↦ bit_lower i j l
      | inr (inr l) ↦ let e : i ≡ suc (i - suc j) + j = omega arith in rw e (bit_higher j (i - suc j))
    ]

-- the full set has all 64 bits
bit_full : (j : ℕ) → j < 64 → bit (2 ^ 64 - 1) j ≡ 1
bit_full j h =
    let within : bit_and (2 ^ j) (2 ^ 64 - 1) ≡ 2 ^ j = and_mask (2 ^ j) 64 ∙ mod-eq_of_lt (pow_below j 64 h) in
    let both : min (bit (2 ^ j) j) (bit (2 ^ 64 - 1) j) ≡ bit (2 ^ j) j = sym (bit_of_and (2 ^ j) (2 ^ 64 - 1) j) ∙ ap (λ a. bit a j) within in
    omega (arith, bit_own j)

-- a mark is no name and has all bits, or it is the name at a place and has the bit of that place
abbrev Owns : ℕ → List ℕ → ℕ → Type 0
Owns i names k =
    ((named names k ≡ false) × (own_bit i names k ≡ 2 ^ 64 - 1))
    ⊎ ((p : ℕ) × (p < length names) × (get_or names p 0 ≡ k) × (named names k ≡ true) × (own_bit i names k ≡ 2 ^ (i + p)))

owns : (i : ℕ) (names : List ℕ) (k : ℕ) → Owns i names k
unfolding named own_bit
owns i [] k = inl (refl, refl)
owns i (x ∷ xs) k = go (owns (suc i) xs k) (cases_eq k x)
  where
    go : Owns (suc i) xs k → (k ≡ x) ⊎ (k ≡ x → ⊥) → Owns i (x ∷ xs) k
    go more (inl e) = rw (eq-eqb k x e) (inr (0, omega arith, sym e, refl, ap (λ n. 2 ^ n) (omega arith)))
    go (inl a) (inr h) = rw (ne_eqb k x h) (inl a)
    go (inr a) (inr h) = rw (ne_eqb k x h) (inr (suc a.0, omega arith, a.2, a.3, a.4 ∙ ap (λ n. 2 ^ n) (omega arith)))

-- so bit j is set of the name at j and of what has no name
told : (names : List ℕ) (j : ℕ) → length names ≤ 64 → Apart names → j < length names →
    (k : ℕ) → Told (bit (own_bit 0 names k) j ≡ 1) (pick (others names j k) 0 1)
told names j few apart h k = go (owns 0 names k)
  where
    place : (p : ℕ) → p < length names → (p ≡ j) ⊎ (p ≡ j → ⊥) → Told (bit (2 ^ p) j ≡ 1) (pick (not (eqb (get_or names p 0) (get_or names j 0))) 0 1)
    place p l (inl e) = rw (e, eq-eqb (get_or names j 0) (get_or names j 0) refl) (omega (arith, bit_own j))
    place p l (inr f) = rw (ne_eqb (get_or names p 0) (get_or names j 0) (λ e. f (apart p j l h e))) (omega (arith, bit_other p j f))

    go : Owns 0 names k → Told (bit (own_bit 0 names k) j ≡ 1) (pick (others names j k) 0 1)
    go (inl a) = rw (a.0, a.1) (omega (arith, bit_full j (omega arith)))
    go (inr (p, l, e, n, o)) = rw (n, o, zero-add, ← e) (place p l (cases_eq p j))

pub one_suffices : OneSuffices
one_suffices ts q names r j few apart h = in_case j (own_bit 0 names) (others names j) (told names j few apart h) ts q r
