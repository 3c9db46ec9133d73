-- Two polynomials merged from their fronts are their sum. Assumes nothing.
use Rattle.std.proofs.Common.{◌≡◌, ◌+◌, List, [], ◌∷◌, sym, refl, subst}
use Rattle.std.specs.List.{AllByRecursion}
use Rattle.tables.specs.Tables.{Row}
use Rattle.tables.proofs.RowOrder.{Before, before_apart, before_trans}
use Rattle.provenance.specs.Polynomial.{Monomial, put_monomial, sum}
use Rattle.provenance.proofs.PutCases.{put_cases}
use Rattle.provenance.proofs.Rising.{After, Rising, after_all, put_after}

put_first : (m : Monomial) (xs : List Monomial) → AllByRecursion (After m.marks) xs → put_monomial m xs ≡ m ∷ xs
unfolding put_monomial
put_first m [] h = refl
put_first m (x ∷ xs) h =
    put_cases (λ zs. zs ≡ m ∷ x ∷ xs) m x xs
    (λ e. absurd (before_apart h.0 e)) (λ p. refl) (λ p. absurd (before_apart (before_trans h.0 p) refl))

put_past : (m x : Monomial) (xs : List Monomial) → Before x.marks m.marks → put_monomial m (x ∷ xs) ≡ x ∷ put_monomial m xs
put_past m x xs h =
    put_cases (λ zs. zs ≡ x ∷ put_monomial m xs) m x xs
    (λ e. absurd (before_apart h (sym e))) (λ p. absurd (before_apart (before_trans h p) refl)) (λ p. refl)

-- two ways with the same marks as one
abbrev pub joined : Monomial → Monomial → Monomial
joined m x = record { count = m.count + x.count; marks = x.marks }

put_into : (m x : Monomial) (xs : List Monomial) → m.marks ≡ x.marks → put_monomial m (x ∷ xs) ≡ joined m x ∷ xs
put_into m x xs e =
    put_cases (λ zs. zs ≡ joined m x ∷ xs) m x xs
    (λ _. refl) (λ p. absurd (before_apart p e)) (λ p. absurd (before_apart p (sym e)))

sum_after : (a : Row) (xs ys : List Monomial) → AllByRecursion (After a) xs → AllByRecursion (After a) ys → AllByRecursion (After a) (sum xs ys)
unfolding sum
sum_after a [] ys h k = k
sum_after a (x ∷ xs) ys h k = put_after a x (sum xs ys) h.0 (sum_after a xs ys h.1 k)

sum_past : (y : Monomial) (xs ys : List Monomial) → AllByRecursion (After y.marks) xs → sum xs (y ∷ ys) ≡ y ∷ sum xs ys
unfolding sum
sum_past y [] ys h = refl
sum_past y (x ∷ xs) ys h = rw (sum_past y xs ys h.1) (put_past x y (sum xs ys) h.0)

pub sum_none : (xs : List Monomial) → Rising xs → sum xs [] ≡ xs
unfolding sum
sum_none [] r = refl
sum_none (x ∷ xs) r = rw (sum_none xs r.rest) (put_first x xs r.after)

pub sum_left : (x y : Monomial) (xs ys : List Monomial) → Rising (x ∷ xs) → Rising (y ∷ ys) → Before x.marks y.marks →
    sum (x ∷ xs) (y ∷ ys) ≡ x ∷ sum xs (y ∷ ys)
unfolding sum
sum_left x y xs ys r q p =
    put_first x (sum xs (y ∷ ys)) (sum_after x.marks xs (y ∷ ys) r.after (after_all x.marks y ys p q))

pub sum_right : (x y : Monomial) (xs ys : List Monomial) → Rising (x ∷ xs) → Before y.marks x.marks →
    sum (x ∷ xs) (y ∷ ys) ≡ y ∷ sum (x ∷ xs) ys
sum_right x y xs ys r p = sum_past y (x ∷ xs) ys (after_all y.marks x xs p r)

pub sum_both : (x y : Monomial) (xs ys : List Monomial) → Rising (x ∷ xs) → x.marks ≡ y.marks →
    sum (x ∷ xs) (y ∷ ys) ≡ joined x y ∷ sum xs ys
unfolding sum
sum_both x y xs ys r e =
    rw (sum_past y xs ys (subst (λ (a : Row). AllByRecursion (After a) xs) e r.after)) (put_into x y (sum xs ys) e)
