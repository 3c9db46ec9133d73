-- A product of ways in two slices, one of which is cut in two. Assumes nothing.
use Rattle.std.proofs.Common.{◌≡◌, ℕ, true, ◌⊎◌, List, [], ◌∷◌, ◌++◌, length, get_or, Result, sym, ap, ◌∙◌, subst, ap₂, inl, inr, arith}
use Rattle.std.proofs.lemmas.List.{map-append, nil_from_length}
use Rattle.provenance.specs.Polynomial.{Monomial, sum, multiplied}
use Rattle.provenance.proofs.Free.{normal_free}
use Rattle.provenance.proofs.Rising.{Rising, multiplied_rising, rising_well_formed}
use Rattle.polynomial.specs.declared.error.PolynomialError.{PolynomialError}
use Rattle.polynomial.specs.declared.Polynomial.{Polynomial}
use Rattle.polynomial.specs.declared.Way.{Way}
use Rattle.polynomial.specs.Rise.{proper, FitsIn}
use Rattle.polynomial.specs.Ways.{monomial, monomials, times}
use Rattle.polynomial.specs.Told.{poly, Told}
use Rattle.polynomial.proofs.ProperRising.{proper_rising, rising_proper}
use Rattle.polynomial.proofs.ProductSplit.{rising_front, rising_back, split_left, fits_left, fits_right, single, none_times, times_none}

parts : (a f k : List Way) → a ≡ f ++ k → monomials a ≡ monomials f ++ monomials k
parts a f k e = ap monomials e ∙ map-append monomial f k

both_rising : (a f k : List Way) → a ≡ f ++ k → proper (monomials a) ≡ true → Rising (monomials f ++ monomials k)
both_rising a f k e p = subst Rising (parts a f k e) (proper_rising (monomials a) p)

front_rising : (a f k : List Way) → a ≡ f ++ k → proper (monomials a) ≡ true → Rising (monomials f)
front_rising a f k e p = rising_front (monomials f) (monomials k) (both_rising a f k e p)

back_rising : (a f k : List Way) → a ≡ f ++ k → proper (monomials a) ≡ true → Rising (monomials k)
back_rising a f k e p = rising_back (monomials f) (monomials k) (both_rising a f k e p)

pub front_proper : (a f k : List Way) → a ≡ f ++ k → proper (monomials a) ≡ true → proper (monomials f) ≡ true
front_proper a f k e p = rising_proper (monomials f) (front_rising a f k e p)

pub back_proper : (a f k : List Way) → a ≡ f ++ k → proper (monomials a) ≡ true → proper (monomials k) ≡ true
back_proper a f k e p = rising_proper (monomials k) (back_rising a f k e p)

pub halves : (a f k b : List Way) → a ≡ f ++ k → proper (monomials a) ≡ true → proper (monomials b) ≡ true →
    sum (multiplied (monomials f) (monomials b)) (multiplied (monomials k) (monomials b)) ≡ multiplied (monomials a) (monomials b)
halves a f k b e p q =
    split_left (monomials f) (monomials k) (monomials b) (both_rising a f k e p) (proper_rising (monomials b) q)
    ∙ ap (λ (z : List Monomial). multiplied z (monomials b)) (sym (parts a f k e))

-- each half fits where the whole does
module _ (room : ℕ) (a f k b : List Way) (e : a ≡ f ++ k) (p : proper (monomials a) ≡ true) (q : proper (monomials b) ≡ true) where
  pub fits_front : FitsIn room (multiplied (monomials a) (monomials b)) → FitsIn room (multiplied (monomials f) (monomials b))
  fits_front h =
      fits_left room (multiplied (monomials f) (monomials b)) (multiplied (monomials k) (monomials b))
      (multiplied_rising (monomials f) (monomials b) (front_rising a f k e p) (proper_rising (monomials b) q))
      (multiplied_rising (monomials k) (monomials b) (back_rising a f k e p) (proper_rising (monomials b) q))
      (subst (FitsIn room) (sym (halves a f k b e p q)) h)

  pub fits_back : FitsIn room (multiplied (monomials a) (monomials b)) → FitsIn room (multiplied (monomials k) (monomials b))
  fits_back h =
      fits_right room (multiplied (monomials f) (monomials b)) (multiplied (monomials k) (monomials b))
      (subst (FitsIn room) (sym (halves a f k b e p q)) h)

pub told_sum : (room : ℕ) (u v whole : List Monomial) (x y : Polynomial) (r : Result Polynomial PolynomialError) →
    poly x ≡ u → poly y ≡ v → sum u v ≡ whole → Told room (sum (poly x) (poly y)) r → Told room whole r
told_sum room u v whole x y r d e f t = subst (λ (z : List Monomial). Told room z r) (ap₂ sum d e ∙ f) t

-- the sides of a product change places
pub told_swap : (room : ℕ) (a b : List Way) (r : Result Polynomial PolynomialError) → proper (monomials a) ≡ true → proper (monomials b) ≡ true →
    Told room (multiplied (monomials b) (monomials a)) r → Told room (multiplied (monomials a) (monomials b)) r
told_swap room a b r p q t =
    subst (λ (z : List Monomial). Told room z r)
    (normal_free.lawful.times_swap (monomials b) (monomials a) (rising_well_formed (monomials b) (proper_rising (monomials b) q)) (rising_well_formed (monomials a) (proper_rising (monomials a) p))) t

pub told_none : (room : ℕ) (a b : List Way) (r : Result Polynomial PolynomialError) → (length a ≡ 0) ⊎ (length b ≡ 0) → Told room [] r →
    Told room (multiplied (monomials a) (monomials b)) r
told_none room a b r (inl e) t =
    subst (λ (z : List Monomial). Told room z r) (sym (ap (λ (z : List Way). multiplied (monomials z) (monomials b)) (nil_from_length a e) ∙ none_times (monomials b))) t
told_none room a b r (inr e) t =
    subst (λ (z : List Monomial). Told room z r) (sym (ap (λ (z : List Way). multiplied (monomials a) (monomials z)) (nil_from_length b e) ∙ times_none (monomials a))) t

only_one : (a : List Way) (x : Way) → length a ≡ 1 → x ≡ get_or a 0 x → a ≡ x ∷ []
only_one [] x l e = absurd (omega arith)
only_one (y ∷ []) x l e = ap (λ (z : Way). z ∷ []) (sym e)
only_one (y ∷ z ∷ zs) x l e = absurd (omega arith)

pub told_only : (room : ℕ) (a b : List Way) (x y : Way) (r : Result Polynomial PolynomialError) → length a ≡ 1 → length b ≡ 1 → x ≡ get_or a 0 x → y ≡ get_or b 0 y →
    Told room (times (monomial x) (monomial y) ∷ []) r → Told room (multiplied (monomials a) (monomials b)) r
told_only room a b x y r l k e f t =
    subst (λ (z : List Monomial). Told room z r)
    (sym (ap₂ (λ (u v : List Way). multiplied (monomials u) (monomials v)) (only_one a x l e) (only_one b y k f) ∙ single (monomial x) (monomial y))) t
