-- Two polynomials taken apart from their fronts. Assumes nothing.
use Rattle.std.proofs.Common.{◌≡◌, ℕ, ◌+◌, ◌^◌, ◌<◌, Bool, true, false, List, [], ◌∷◌, ◌++◌, length, get_or, drop, Some, None, Ok, vec_items, Option, sym, ap, ◌∙◌, subst, arith}
use Rattle.std.specs.Option.{option_to_list, MatchOption}
use Rattle.std.specs.List.{AllByRecursion}
use Rattle.std.proofs.lemmas.List.{nil_from_length}
use Rattle.std.proofs.lemmas.Bool.{false≢true}
use Rattle.tables.specs.Tables.{Row, before, same_row}
use Rattle.tables.proofs.RowOrder.{before_true, Rank, equal, first, last, rank}
use Rattle.provenance.specs.Polynomial.{Monomial, sum}
use Rattle.provenance.proofs.Rising.{Rising, true_before}
use Rattle.polynomial.specs.declared.Way.{Way}
use Rattle.polynomial.specs.Rise.{proper, Small}
use Rattle.polynomial.specs.Ways.{monomial, monomials}
use Rattle.polynomial.specs.Fronts.{Taken, Front}
use Rattle.polynomial.proofs.ProperRising.{proper_rising, rising_proper}
use Rattle.polynomial.proofs.SumMerge.{joined, sum_none, sum_left, sum_right, sum_both}

-- a row that is neither equal to another nor before it is after it
pub else_after : (a b : Row) → same_row a b ≡ false → before a b ≡ false → before b a ≡ true
else_after a b e f = go (rank a b) e f
  where
    go : {s t : Bool} → Rank a b s t → s ≡ false → t ≡ false → before b a ≡ true
    go (equal d) e f = absurd (false≢true (sym e))
    go (first p) e f = absurd (false≢true (sym f))
    go (last p) e f = true_before p

-- what stands behind the first
abbrev pub behind : List Way → List Way
behind a = drop 1 a

pub first_split : (a : List Way) (x : Way) → 0 < length a → ((w : Way) → x ≡ get_or a 0 w) → a ≡ x ∷ behind a
first_split [] x h e = absurd (omega arith)
first_split (y ∷ ys) x h e = ap (λ (z : Way). z ∷ ys) (sym (e x))

ways_first : (a c : List Way) (x : Way) → a ≡ x ∷ c → monomials a ≡ monomial x ∷ monomials c
ways_first a c x e = ap monomials e

more_one : (a c : List Way) (x : Way) → a ≡ x ∷ c → length a ≡ length c + 1
more_one a c x e = let l = ap length e in omega arith

module _ (a c : List Way) (x : Way) (e : a ≡ x ∷ c) (p : proper (monomials a) ≡ true) where
  first_rising : Rising (monomial x ∷ monomials c)
  first_rising = subst Rising (ways_first a c x e) (proper_rising (monomials a) p)

  rest_proper : proper (monomials c) ≡ true
  rest_proper = rising_proper (monomials c) first_rising.rest

-- one side alone
ways_none : (a : List Way) → length a ≡ 0 → monomials a ≡ []
ways_none a h = ap monomials (nil_from_length a h)

pub alone_left : (a b c : List Way) (x : Way) → length b ≡ 0 → proper (monomials a) ≡ true → proper (monomials b) ≡ true → a ≡ x ∷ c → Taken a b c b x
alone_left a b c x h p q e =
    let r = first_rising a c x e p in
    record {
      left = rest_proper a c x e p;
      right = q;
      fewer = omega (arith, more_one a c x e);
      whole = rw (ways_none b h) (sum_none (monomials a) (proper_rising (monomials a) p) ∙ ways_first a c x e
          ∙ ap (λ (z : List Monomial). monomial x ∷ z) (sym (sum_none (monomials c) r.rest)));
    }

pub alone_right : (a b d : List Way) (y : Way) → length a ≡ 0 → proper (monomials a) ≡ true → proper (monomials b) ≡ true → b ≡ y ∷ d → Taken a b a d y
unfolding sum
alone_right a b d y h p q e =
    record {
      left = p;
      right = rest_proper b d y e q;
      fewer = omega (arith, more_one b d y e);
      whole = rw (ways_none a h) (ways_first b d y e);
    }

pub nothing : (a b : List Way) → length a ≡ 0 → length b ≡ 0 → sum (monomials a) (monomials b) ≡ []
unfolding sum
nothing a b h k = rw (ways_none a h, ways_none b k)

module _ (a b c d : List Way) (x y : Way) (e : a ≡ x ∷ c) (f : b ≡ y ∷ d) (p : proper (monomials a) ≡ true) (q : proper (monomials b) ≡ true) where
  pub take_less : before (vec_items x.marks) (vec_items y.marks) ≡ true → Taken a b c b x
  take_less t =
      record {
        left = rest_proper a c x e p;
        right = q;
        fewer = omega (arith, more_one a c x e);
        whole = rw (ways_first a c x e, ways_first b d y f)
            (sum_left (monomial x) (monomial y) (monomials c) (monomials d) (first_rising a c x e p) (first_rising b d y f q) (before_true _ _ t));
      }

  pub take_greater : before (vec_items y.marks) (vec_items x.marks) ≡ true → Taken a b a d y
  take_greater t =
      record {
        left = p;
        right = rest_proper b d y f q;
        fewer = omega (arith, more_one b d y f);
        whole = rw (ways_first a c x e, ways_first b d y f)
            (sum_right (monomial x) (monomial y) (monomials c) (monomials d) (first_rising a c x e p) (before_true _ _ t));
      }

  both_first : vec_items x.marks ≡ vec_items y.marks → sum (monomials a) (monomials b) ≡ joined (monomial x) (monomial y) ∷ sum (monomials c) (monomials d)
  both_first t =
      rw (ways_first a c x e, ways_first b d y f) (sum_both (monomial x) (monomial y) (monomials c) (monomials d) (first_rising a c x e p) t)

  pub take_both : (w : Way) → vec_items x.marks ≡ vec_items y.marks → monomial w ≡ joined (monomial x) (monomial y) → Taken a b c d w
  take_both w t same =
      record {
        left = rest_proper a c x e p;
        right = rest_proper b d y f q;
        fewer = omega (arith, more_one a c x e, more_one b d y f);
        whole = rw same (both_first t);
      }

  pub take_large : vec_items x.marks ≡ vec_items y.marks → (x.count + y.count < 2 ^ 64 → ⊥) → AllByRecursion Small (sum (monomials a) (monomials b)) → ⊥
  take_large t large small = large (subst (AllByRecursion Small) (both_first t) small).0

-- what is popped stood first
pub popped : (a c : List Way) (r : Option Way) (x : Way) → a ≡ option_to_list r ++ c → r ≡ Some x → a ≡ x ∷ c
popped a c r x e s = e ∙ ap (λ (z : Option Way). option_to_list z ++ c) s

-- the first way x of a, whose length is n, is popped
pub first_popped : (a : List Way) (n : ℕ) (x : Way) (r : Option Way) → n ≡ length a → 0 < length a → ((w : Way) → x ≡ get_or a 0 w) →
    ((w : Way) → 0 < n → r ≡ Some (get_or a 0 w)) → r ≡ Some x
first_popped a n x r l h e f = f x (omega arith) ∙ ap Some (sym (e x))

pub front_left : (a b c : List Way) (n k : ℕ) (r : Option Way) → length b ≡ 0 → n ≡ length a → proper (monomials a) ≡ true → proper (monomials b) ≡ true →
    a ≡ option_to_list r ++ c → MatchOption r ((n ≡ 0) × (k ≡ 0)) (λ _. k + 1 ≡ n) → Front a b c b (Ok r)
front_left a b c n k None h l p q e m = nothing a b (sym l ∙ m.0) h
front_left a b c n k (Some x) h l p q e m = alone_left a b c x h p q e

pub front_right : (a b d : List Way) (n k : ℕ) (r : Option Way) → length a ≡ 0 → n ≡ length b → proper (monomials a) ≡ true → proper (monomials b) ≡ true →
    b ≡ option_to_list r ++ d → MatchOption r ((n ≡ 0) × (k ≡ 0)) (λ _. k + 1 ≡ n) → Front a b a d (Ok r)
front_right a b d n k None h l p q e m = nothing a b h (sym l ∙ m.0)
front_right a b d n k (Some y) h l p q e m = alone_right a b d y h p q e

pub front_is : (a b c d : List Way) (w : Way) (r : Option Way) → r ≡ Some w → Taken a b c d w → Front a b c d (Ok r)
front_is a b c d w r e t = subst (λ (z : Option Way). Front a b c d (Ok z)) (sym e) t

-- the marks of what is popped are those that were compared
pub same_marks : (x y u w : Way) (r s : Option Way) → r ≡ Some x → s ≡ Some y → r ≡ Some u → s ≡ Some w → vec_items u.marks ≡ vec_items w.marks →
    vec_items x.marks ≡ vec_items y.marks
same_marks x y u w r s a b d e m = let p : x ≡ u = cc in let q : y ≡ w = cc in rw (p, q) m
