-- A sum that is written way by way, within the room, while its two sides are taken apart. Assumes nothing.
use Rattle.std.proofs.Common.{◌≡◌, ℕ, ◌+◌, ◌≤◌, true, List, [], ◌∷◌, ◌++◌, length, Some, None, Ok, Err, Option, sym, refl, ap, ◌∙◌, subst, append_assoc, arith}
use Rattle.std.specs.List.{AllByRecursion}
use Rattle.std.proofs.ByRecursion.{All-push}
use Rattle.std.proofs.lemmas.List.{append-nil}
use Rattle.provenance.specs.Polynomial.{Monomial, sum}
use Rattle.provenance.proofs.Rising.{sum_rising}
use Rattle.polynomial.specs.declared.error.PolynomialError.{PolynomialError}
use Rattle.polynomial.specs.declared.error.PolynomialError.TheVariants.{Memory, TooLarge}
use Rattle.polynomial.specs.declared.Way.{Way}
use Rattle.polynomial.specs.Rise.{proper, size_of, Small, FitsIn}
use Rattle.polynomial.specs.Ways.{monomial, monomials}
use Rattle.polynomial.specs.Told.{Told}
use Rattle.polynomial.specs.Fronts.{Taken, Front}
use Rattle.polynomial.proofs.ProperRising.{proper_rising, rising_proper}
use Rattle.polynomial.proofs.Sizes.{size_push, size_append, size_some, all_right}

-- out is written of the whole, and the sum of a and b is left
pub record Joining (whole : List Monomial) (room : ℕ) (out : List Monomial) (size : ℕ) (a b : List Way) : Type 0 where
  pub left : proper (monomials a) ≡ true
  pub right : proper (monomials b) ≡ true
  sized : size ≡ size_of out
  fits : size ≤ room
  small : AllByRecursion Small out
  parts : out ++ sum (monomials a) (monomials b) ≡ whole

-- where the room takes not even a polynomial with no way, it takes none
pub told_never : (room : ℕ) (whole : List Monomial) (e : PolynomialError) → Told room [] (Err e) → Told room whole (Err e)
told_never room whole Memory t = tt
told_never room whole TooLarge t = λ f. t (record { sized = omega (arith, size_some whole, f.sized); small = tt })

pub joining_none : (room : ℕ) (a b : List Way) → 1 ≤ room → proper (monomials a) ≡ true → proper (monomials b) ≡ true →
    Joining (sum (monomials a) (monomials b)) room [] 1 a b
joining_none room a b h p q = record { left = p; right = q; sized = refl; fits = h; small = tt; parts = refl }

module _ (whole : List Monomial) (room : ℕ) (out : List Monomial) (size : ℕ) (a b : List Way) (j : Joining whole room out size a b) where
  pub joining_more : (c d : List Way) (w : Way) → Taken a b c d w → (n : ℕ) → n ≡ 2 + length (monomial w).marks + size → n ≤ room → Small (monomial w) →
      Joining whole room (out ++ monomial w ∷ []) n c d
  joining_more c d w t n e h small =
      record {
        left = t.left;
        right = t.right;
        sized = omega (arith, size_push out (monomial w));
        fits = h;
        small = All-push Small out (monomial w) j.small small;
        parts = append_assoc out (monomial w ∷ []) (sum (monomials c) (monomials d)) ∙ (ap (λ (z : List Monomial). out ++ z) (sym t.whole) ∙ j.parts);
      }

  pub joining_full : (c d : List Way) (w : Way) → Taken a b c d w → (2 + length (monomial w).marks + size ≤ room → ⊥) → FitsIn room whole → ⊥
  joining_full c d w t large f =
      let rest : List Monomial = sum (monomials c) (monomials d) in
      let e : out ++ monomial w ∷ rest ≡ whole = ap (λ (z : List Monomial). out ++ z) (sym t.whole) ∙ j.parts in
      let n : size_of (out ++ monomial w ∷ rest) ≤ room = subst (λ (z : List Monomial). size_of z ≤ room) (sym e) f.sized in
      large (omega (arith, size_append out (monomial w ∷ rest), size_some rest))

  pub joining_fails : (c d : List Way) (e : PolynomialError) → Front a b c d (Err e) → Told room whole (Err e)
  joining_fails c d Memory n = tt
  joining_fails c d TooLarge n = λ f. n (all_right Small out (sum (monomials a) (monomials b)) (subst (AllByRecursion Small) (sym j.parts) f.small))

  pub joining_is : sum (monomials a) (monomials b) ≡ [] → out ≡ whole
  joining_is e = sym (append-nil out) ∙ (ap (λ (z : List Monomial). out ++ z) (sym e) ∙ j.parts)

  pub joining_fits : sum (monomials a) (monomials b) ≡ [] → FitsIn room whole
  joining_fits e = subst (FitsIn room) (joining_is e) (record { sized = omega arith; small = j.small })

-- a monomials whose first way is taken, or that is empty
pub front_some : (a b c d : List Way) (o : Option Way) (w : Way) → o ≡ Some w → Front a b c d (Ok o) → Taken a b c d w
front_some a b c d o w e n = subst (λ (z : Option Way). Front a b c d (Ok z)) e n

pub front_none : (a b c d : List Way) (o : Option Way) → o ≡ None → Front a b c d (Ok o) → sum (monomials a) (monomials b) ≡ []
front_none a b c d o e n = subst (λ (z : Option Way). Front a b c d (Ok z)) e n

pub sum_proper : (xs ys : List Monomial) → proper xs ≡ true → proper ys ≡ true → proper (sum xs ys) ≡ true
sum_proper xs ys p q = rising_proper (sum xs ys) (sum_rising xs ys (proper_rising xs p) (proper_rising ys q))
