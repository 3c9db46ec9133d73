-- The test for a well-formed polynomial, and the relation that it decides. Assumes nothing.
use Rattle.std.proofs.Common.{◌≡◌, ℕ, ◌≤◌, Bool, true, ◌&&◌, ltb, leb, List, [], ◌∷◌, refl}
use Rattle.std.specs.List.{AllByRecursion}
use Rattle.std.proofs.lemmas.Bool.{and_parts, and_from, leb-true, le-leb, ltb-true, lt-ltb}
use Rattle.tables.specs.Tables.{before}
use Rattle.tables.proofs.RowOrder.{before_true}
use Rattle.provenance.specs.Polynomial.{Monomial}
use Rattle.provenance.proofs.Rising.{Sorted, After, Rising, true_before}
use Rattle.polynomial.specs.Rise.{every, rise, proper}

pub every_all : {A : Type 0} (f : A → Bool) (P : A → Type 0) → ((x : A) → f x ≡ true → P x) → (xs : List A) → every f xs ≡ true → AllByRecursion P xs
every_all f P h [] e = tt
every_all f P h (x ∷ xs) e = let b = and_parts (f x) (every f xs) e in (h x b.0, every_all f P h xs b.1)

all_every : {A : Type 0} (f : A → Bool) (P : A → Type 0) → ((x : A) → P x → f x ≡ true) → (xs : List A) → AllByRecursion P xs → every f xs ≡ true
all_every f P h [] a = refl
all_every f P h (x ∷ xs) a = and_from (f x) (every f xs) (h x a.0) (all_every f P h xs a.1)

pub rise_sorted : (ks : List ℕ) → rise ks ≡ true → Sorted ks
rise_sorted [] e = tt
rise_sorted (k ∷ ks) e =
    let b = and_parts (every (λ x. leb k x) ks) (rise ks) e in
    (every_all (λ x. leb k x) (λ x. k ≤ x) (λ x. leb-true k x) ks b.0, rise_sorted ks b.1)

pub sorted_rise : (ks : List ℕ) → Sorted ks → rise ks ≡ true
sorted_rise [] s = refl
sorted_rise (k ∷ ks) s =
    and_from (every (λ x. leb k x) ks) (rise ks) (all_every (λ x. leb k x) (λ x. k ≤ x) (λ x. le-leb k x) ks s.0) (sorted_rise ks s.1)

pub proper_rising : (ms : List Monomial) → proper ms ≡ true → Rising ms
proper_rising [] e = tt
proper_rising (m ∷ ms) e =
    let b = and_parts (ltb 0 m.count && rise m.marks) (every (λ x. before m.marks x.marks) ms && proper ms) e in
    let l = and_parts (ltb 0 m.count) (rise m.marks) b.0 in
    let r = and_parts (every (λ x. before m.marks x.marks) ms) (proper ms) b.1 in
    record {
      some = ltb-true 0 m.count l.0;
      sorted = rise_sorted m.marks l.1;
      after = every_all (λ x. before m.marks x.marks) (After m.marks) (λ x. before_true m.marks x.marks) ms r.0;
      rest = proper_rising ms r.1;
    }

pub rising_proper : (ms : List Monomial) → Rising ms → proper ms ≡ true
rising_proper [] r = refl
rising_proper (m ∷ ms) r =
    and_from (ltb 0 m.count && rise m.marks) (every (λ x. before m.marks x.marks) ms && proper ms)
    (and_from (ltb 0 m.count) (rise m.marks) (lt-ltb 0 m.count r.some) (sorted_rise m.marks r.sorted))
    (and_from (every (λ x. before m.marks x.marks) ms) (proper ms)
    (all_every (λ x. before m.marks x.marks) (After m.marks) (λ x p. true_before p) ms r.after) (rising_proper ms r.rest))
