-- A product by parts: the product of a polynomial cut in two is the sum of two products, and each fits where the whole does. Assumes nothing.
use Rattle.std.proofs.Common.{◌≡◌, ℕ, ◌+◌, ◌≤◌, true, List, [], ◌∷◌, ◌++◌, Err, sym, refl, subst, add-mul, arith}
use Rattle.std.specs.List.{AllByRecursion}
use Rattle.provenance.specs.Polynomial.{Monomial, merged, put_monomial, sum, scaled, multiplied}
use Rattle.provenance.specs.Polynomial.{normal_value}
use Rattle.provenance.proofs.PutCases.{put_cases}
use Rattle.provenance.proofs.Rising.{After, Rising, sum_rising, multiplied_rising, merged_sorted}
use Rattle.provenance.proofs.NormalOne.{counted_one}
use Rattle.provenance.proofs.Free.{counts, counts_sum, counts_product}
use Rattle.polynomial.specs.Rise.{size_of, Small, FitsIn, proper, rise}
use Rattle.polynomial.specs.Ways.{times}
use Rattle.polynomial.specs.Told.{Told}
use Rattle.polynomial.specs.declared.error.PolynomialError.{PolynomialError}
use Rattle.polynomial.specs.declared.error.PolynomialError.TheVariants.{Memory, TooLarge}
use Rattle.polynomial.proofs.ProperRising.{proper_rising, sorted_rise}

append_counts : (v : ℕ → ℕ) (xs ys : List Monomial) → counts v (xs ++ ys) ≡ counts v xs + counts v ys
unfolding normal_value
append_counts v [] ys = omega arith
append_counts v (x ∷ xs) ys = omega (arith, append_counts v xs ys)

pub sum_turned : (xs ys : List Monomial) → Rising xs → Rising ys → sum xs ys ≡ sum ys xs
sum_turned xs ys r q =
    counted_one (sum xs ys) (sum ys xs) (sum_rising xs ys r q) (sum_rising ys xs q r)
    (λ v. omega (arith, counts_sum v xs ys, counts_sum v ys xs))

all_front : (P : Monomial → Type 0) (xs ys : List Monomial) → AllByRecursion P (xs ++ ys) → AllByRecursion P xs
all_front P [] ys a = tt
all_front P (x ∷ xs) ys a = (a.0, all_front P xs ys a.1)

pub rising_front : (xs ys : List Monomial) → Rising (xs ++ ys) → Rising xs
rising_front [] ys r = tt
rising_front (x ∷ xs) ys r =
    record { some = r.some; sorted = r.sorted; after = all_front (After x.marks) xs ys r.after; rest = rising_front xs ys r.rest }

pub rising_back : (xs ys : List Monomial) → Rising (xs ++ ys) → Rising ys
rising_back [] ys r = r
rising_back (x ∷ xs) ys r = rising_back xs ys r.rest

pub split_left : (a b q : List Monomial) → Rising (a ++ b) → Rising q → sum (multiplied a q) (multiplied b q) ≡ multiplied (a ++ b) q
split_left a b q r s =
    counted_one (sum (multiplied a q) (multiplied b q)) (multiplied (a ++ b) q)
    (sum_rising (multiplied a q) (multiplied b q) (multiplied_rising a q (rising_front a b r) s) (multiplied_rising b q (rising_back a b r) s))
    (multiplied_rising (a ++ b) q r s)
    (λ v. rw (counts_sum v, counts_product v a q, counts_product v b q, counts_product v (a ++ b) q, append_counts v a b) (sym (add-mul (counts v a) (counts v b) (counts v q))))

-- one monomial more makes no polynomial smaller
put_grows : (m : Monomial) (xs : List Monomial) → size_of xs ≤ size_of (put_monomial m xs)
unfolding put_monomial
put_grows m [] = omega arith
put_grows m (x ∷ xs) =
    let e = put_grows m xs in
    put_cases (λ zs. size_of (x ∷ xs) ≤ size_of zs) m x xs (λ _. omega arith) (λ _. omega arith) (λ _. omega arith)

put_small : (m : Monomial) (xs : List Monomial) → AllByRecursion Small (put_monomial m xs) → AllByRecursion Small xs
unfolding put_monomial
put_small m [] = λ a. tt
put_small m (x ∷ xs) =
    let e = put_small m xs in
    put_cases (λ zs. AllByRecursion Small zs → AllByRecursion Small (x ∷ xs)) m x xs (λ _ a. (omega (arith, a.0), a.1)) (λ _ a. a.1) (λ _ a. (a.0, e a.1))

pub fits_right : (room : ℕ) (xs ys : List Monomial) → FitsIn room (sum xs ys) → FitsIn room ys
unfolding sum
fits_right room [] ys f = f
fits_right room (x ∷ xs) ys f =
    fits_right room xs ys (record { sized = omega (arith, put_grows x (sum xs ys), f.sized); small = put_small x (sum xs ys) f.small })

pub fits_left : (room : ℕ) (xs ys : List Monomial) → Rising xs → Rising ys → FitsIn room (sum xs ys) → FitsIn room xs
fits_left room xs ys r q f = fits_right room ys xs (subst (FitsIn room) (sum_turned xs ys r q) f)

pub single : (m x : Monomial) → multiplied (m ∷ []) (x ∷ []) ≡ times m x ∷ []
unfolding multiplied sum scaled put_monomial
single m x = refl

pub none_times : (q : List Monomial) → multiplied [] q ≡ []
unfolding multiplied
none_times q = refl

pub times_none : (p : List Monomial) → multiplied p [] ≡ []
unfolding multiplied scaled sum
times_none [] = refl
times_none (x ∷ p) = times_none p

-- the marks of the product of two well-formed monomials rise
pub product_rise : (ks : List ℕ) (x : Monomial) → proper (x ∷ []) ≡ true → rise (merged ks x.marks) ≡ true
product_rise ks x q = sorted_rise (merged ks x.marks) (merged_sorted ks x.marks (proper_rising (x ∷ []) q).sorted)

-- a part that does not fit is of a whole that does not
pub told_part : (room : ℕ) (part whole : List Monomial) → (FitsIn room whole → FitsIn room part) → (e : PolynomialError) → Told room part (Err e) → Told room whole (Err e)
told_part room part whole h Memory t = tt
told_part room part whole h TooLarge t = λ f. t (h f)
