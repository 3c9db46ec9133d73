-- A part of a sum, and a factor of a product whose other factor is not empty, is no larger than the whole. Assumes nothing.
use Rattle.std.proofs.Common.{◌≡◌, ℕ, zero, suc, ◌+◌, ◌*◌, ◌^◌, ◌<◌, ◌≤◌, leb, List, [], ◌∷◌, length, sym, refl, ap, ◌∙◌, subst, arith}
use Rattle.std.specs.List.{AllByRecursion}
use Rattle.std.proofs.ByRecursion.{All-weaker}
use Rattle.std.proofs.lemmas.Bool.{le-leb}
use Rattle.tables.specs.Bool.{pick}
use Rattle.tables.specs.Tables.{Row}
use Rattle.tables.proofs.Choice.{picked}
use Rattle.tables.proofs.RowOrder.{before_apart}
use Rattle.provenance.specs.Polynomial.{Monomial, put_mark, merged, put_monomial, sum, scaled, multiplied}
use Rattle.provenance.proofs.PutCases.{put_cases}
use Rattle.provenance.proofs.Free.{normal_free}
use Rattle.provenance.proofs.Rising.{After, Rising, scaled_rising, multiplied_rising, rising_well_formed}
use Rattle.polynomial.specs.Rise.{size_of, Small, FitsIn}
use Rattle.polynomial.specs.Ways.{times}
use Rattle.polynomial.proofs.Sizes.{size_some}
use Rattle.polynomial.proofs.ProductSplit.{fits_left, fits_right}

-- marks: a mark that was put in is the first that is not below it, so it can be taken out again
unput : ℕ → List ℕ → List ℕ
unput k [] = []
unput k (x ∷ xs) = pick (leb k x) xs (x ∷ unput k xs)

unput_put : (k : ℕ) (xs : List ℕ) → unput k (put_mark k xs) ≡ xs
unfolding put_mark unput
unput_put k [] = rw (le-leb k k (omega arith))
unput_put k (x ∷ xs) =
    let e = unput_put k xs in
    picked (λ zs. unput k zs ≡ x ∷ xs) (leb k x) (λ yes. rw (le-leb k k (omega arith))) (λ no. rw (no, e))

merged_one : (ks xs ys : List ℕ) → merged ks xs ≡ merged ks ys → xs ≡ ys
unfolding merged
merged_one [] xs ys e = e
merged_one (k ∷ ks) xs ys e = merged_one ks xs ys (sym (unput_put k (merged ks xs)) ∙ ap (unput k) e ∙ unput_put k (merged ks ys))

put_length : (k : ℕ) (xs : List ℕ) → length (put_mark k xs) ≡ 1 + length xs
unfolding put_mark
put_length k [] = omega arith
put_length k (x ∷ xs) =
    let e : length (x ∷ put_mark k xs) ≡ 1 + length (x ∷ xs) = omega (arith, put_length k xs) in
    let f : length (k ∷ x ∷ xs) ≡ 1 + length (x ∷ xs) = omega arith in
    picked (λ (zs : List ℕ). length zs ≡ 1 + length (x ∷ xs)) (leb k x) (λ _. f) (λ _. e)

merged_length : (ks xs : List ℕ) → length (merged ks xs) ≡ length ks + length xs
unfolding merged
merged_length [] xs = omega arith
merged_length (k ∷ ks) xs = omega (arith, put_length k (merged ks xs), merged_length ks xs)

-- none of the monomials has these marks
abbrev Without : Row → List Monomial → Type 0
Without w ms = AllByRecursion (λ m. m.marks ≡ w → ⊥) ms

put_without : (w : Row) (m : Monomial) (xs : List Monomial) → (m.marks ≡ w → ⊥) → Without w xs → Without w (put_monomial m xs)
unfolding put_monomial
put_without w m [] h t = (h, tt)
put_without w m (x ∷ xs) h t = put_cases (Without w) m x xs (λ e. t) (λ p. (h, t)) (λ p. (t.0, put_without w m xs h t.1))

scaled_without : (w : Row) (m : Monomial) (xs : List Monomial) → AllByRecursion (λ x. merged m.marks x.marks ≡ w → ⊥) xs → Without w (scaled m xs)
unfolding scaled
scaled_without w m [] h = tt
scaled_without w m (x ∷ xs) h = put_without w (times m x) (scaled m xs) h.0 (scaled_without w m xs h.1)

-- a monomial with marks of its own makes a polynomial larger by itself
abbrev OneMore : Monomial → List Monomial → List Monomial → Type 0
OneMore m xs zs = (size_of zs ≡ 2 + length m.marks + size_of xs) × (AllByRecursion Small zs → Small m × AllByRecursion Small xs)

put_new : (m : Monomial) (xs : List Monomial) → Without m.marks xs → OneMore m xs (put_monomial m xs)
unfolding put_monomial
put_new m [] h = (refl, λ a. a)
put_new m (x ∷ xs) h =
    let r = put_new m xs h.1 in
    put_cases (OneMore m (x ∷ xs)) m x xs
    (λ e. absurd (h.0 (sym e))) (λ _. (refl, λ a. a)) (λ _. (omega (arith, r.0), λ a. let s = r.1 a.1 in (s.0, (a.0, s.1))))

small_factor : (k n limit : ℕ) → 0 < k → k * n < limit → n < limit
small_factor zero n limit h l = absurd (omega arith)
small_factor (suc k) n limit h l = omega arith

scaled_part : (m : Monomial) (xs : List Monomial) → 0 < m.count → Rising xs →
    (size_of xs ≤ size_of (scaled m xs)) × (AllByRecursion Small (scaled m xs) → AllByRecursion Small xs)
unfolding scaled
scaled_part m [] h r = (omega arith, λ a. tt)
scaled_part m (x ∷ xs) h r =
    let s = scaled_part m xs h r.rest in
    let apart : AllByRecursion (λ y. merged m.marks y.marks ≡ merged m.marks x.marks → ⊥) xs =
    All-weaker (After x.marks) (λ y. merged m.marks y.marks ≡ merged m.marks x.marks → ⊥)
    (λ y p e. before_apart p (sym (merged_one m.marks y.marks x.marks e))) xs r.after in
    let n = put_new (times m x) (scaled m xs) (scaled_without (merged m.marks x.marks) m xs apart) in (
      omega (arith, n.0, s.0, merged_length m.marks x.marks),
      λ a. let t = n.1 a in (small_factor m.count x.count (2 ^ 64) h t.0, s.1 t.1),
    )

pub fits_second : (room : ℕ) (p q : List Monomial) → Rising p → Rising q → (p ≡ [] → ⊥) → FitsIn room (multiplied p q) → FitsIn room q
unfolding multiplied
fits_second room [] q r s some f = absurd (some refl)
fits_second room (m ∷ p) q r s some f =
    let g = fits_left room (scaled m q) (multiplied p q) (scaled_rising m q r.some s) (multiplied_rising p q r.rest s) f in
    let t = scaled_part m q r.some s in
    record { sized = omega (arith, g.sized, t.0); small = t.1 g.small }

pub fits_first : (room : ℕ) (p q : List Monomial) → Rising p → Rising q → (q ≡ [] → ⊥) → FitsIn room (multiplied p q) → FitsIn room p
fits_first room p q r s some f =
    fits_second room q p s r some (subst (FitsIn room) (normal_free.lawful.times_swap p q (rising_well_formed p r) (rising_well_formed q s)) f)

-- a polynomial with no way is the only one that takes a single number
fits_one : (p : List Monomial) → FitsIn 1 p → p ≡ []
fits_one [] f = refl
fits_one (m ∷ p) f = absurd (omega (arith, size_some p, f.sized))

one_fits : (p : List Monomial) → p ≡ [] → FitsIn 1 p
one_fits p e = subst (FitsIn 1) (sym e) (record { sized = omega arith; small = tt })

pub sum_some_first : (p q : List Monomial) → Rising p → Rising q → (p ≡ [] → ⊥) → sum p q ≡ [] → ⊥
sum_some_first p q r s some e = some (fits_one p (fits_left 1 p q r s (one_fits (sum p q) e)))

pub sum_some_second : (p q : List Monomial) → (q ≡ [] → ⊥) → sum p q ≡ [] → ⊥
sum_some_second p q some e = some (fits_one q (fits_right 1 p q (one_fits (sum p q) e)))

pub product_some : (p q : List Monomial) → Rising p → Rising q → (p ≡ [] → ⊥) → (q ≡ [] → ⊥) → multiplied p q ≡ [] → ⊥
product_some p q r s some other e = other (fits_one q (fits_second 1 p q r s some (one_fits (multiplied p q) e)))
