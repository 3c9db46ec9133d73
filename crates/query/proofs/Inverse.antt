-- What is known of a query that was read, by the operator in front. Assumes nothing.
use Rattle.std.proofs.Common.{◌≡◌, ℕ, zero, suc, ◌-◌, ◌/◌, ◌%◌, ◌<◌, ◌≤◌, Bool, true, false, eqb, ltb, leb, List, [], ◌∷◌, length, get_or, Some, None, Ok, Option, sym, refl, ap, ◌∙◌, ap₂, ltb-true, eqb-true, leb-true}
use Rattle.tables.specs.Bool.{pick}
use Rattle.query.specs.Query.{Query, scan}
use Rattle.query.specs.Operators.{operator_at, change_width, pair_width, changed, paired}
use Rattle.query.specs.Parse.{Parsed, parsed, fault, next, wide, meaning, reads, whole, parse, width_of}
use Rattle.query.specs.declared.operator.Operator.{Operator}
use Rattle.query.specs.declared.operator.Operator.TheVariants.{Scan, One, Two}
use Rattle.query.specs.declared.operator.Change.{Change}
use Rattle.query.specs.declared.operator.Pairing.{Pairing}
use Rattle.query.proofs.Steps.{differ, reads_zero, reads_step}
use Rattle.query.proofs.Agreeing.{Begun}

pub no_fault : (p : ℕ) (q : Query) (w : ℕ) (ys : List ℕ) → fault p ≡ parsed q w ys → ⊥
no_fault p q w ys e = differ cc

same_parsed : (q q' : Query) (w w' : ℕ) (ys ys' : List ℕ) → parsed q w ys ≡ parsed q' w' ys' → (q ≡ q') × (w ≡ w') × (ys ≡ ys')
same_parsed q q' w w' ys ys' e = (cc, cc, cc)

module _ (q : Query) (w : ℕ) (ys : List ℕ) where
  next_inverse : (p : Parsed) (f : Query → ℕ → List ℕ → Parsed) → next p f ≡ parsed q w ys →
      (q' : Query) × (v : ℕ) × (zs : List ℕ) × (p ≡ parsed q' v zs) × (f q' v zs ≡ parsed q w ys)
  next_inverse (parsed q' v zs) f e = (q', v, zs, refl, e)
  next_inverse (fault p) f e = absurd (no_fault p q w ys e)

  wide_inverse : (o : Option ℕ) (f : ℕ → Parsed) (p : ℕ) → wide o f p ≡ parsed q w ys → (v : ℕ) × (Some v ≡ o) × (f v ≡ parsed q w ys)
  wide_inverse (Some v) f p e = (v, refl, e)
  wide_inverse None f p e = absurd (no_fault p q w ys e)

  pick_inverse : (b : Bool) (x : Parsed) (p : ℕ) → pick b x (fault p) ≡ parsed q w ys → (b ≡ true) × (x ≡ parsed q w ys)
  pick_inverse true x p e = (refl, e)
  pick_inverse false x p e = absurd (no_fault p q w ys e)

  -- what an operator shows of the queries that stand in rest, which go reads
  module _ (p : ℕ) (ws rest : List ℕ) (go : List ℕ → Parsed) where
    pub scan_meant : (t : ℕ) → meaning (Scan t) p ws rest go ≡ parsed q w ys → (t < length ws) × (scan t ≡ q) × (get_or ws t 0 ≡ w) × (rest ≡ ys)
    scan_meant t e =
        let a = pick_inverse (ltb t (length ws)) _ _ e in
        let k = same_parsed _ _ _ _ _ _ a.1 in
        (ltb-true t (length ws) a.0, k.0, k.1, k.2)

    pub one_meant : (c : Change) → meaning (One c) p ws rest go ≡ parsed q w ys →
        (q' : Query) × (v : ℕ) × (go rest ≡ parsed q' v ys) × (Some w ≡ change_width c v) × (changed c q' ≡ q)
    one_meant c e =
        let a = next_inverse (go rest) _ e in
        let d = wide_inverse (change_width c a.1) _ _ a.4 in
        let k = same_parsed _ _ _ _ _ _ d.2 in
        (a.0, a.1, a.3 ∙ ap (parsed a.0 a.1) k.2, ap Some (sym k.1) ∙ d.1, k.0)

    pub two_meant : (j : Pairing) → meaning (Two j) p ws rest go ≡ parsed q w ys →
        (l : Query) × (u : ℕ) × (zs : List ℕ) × (r : Query) × (v : ℕ)
        × (go rest ≡ parsed l u zs) × (go zs ≡ parsed r v ys) × (Some w ≡ pair_width j u v) × (paired j l r ≡ q)
    two_meant j e =
        let a = next_inverse (go rest) _ e in
        let b = next_inverse (go a.2) _ a.4 in
        let d = wide_inverse (pair_width j a.1 b.1) _ _ b.4 in
        let k = same_parsed _ _ _ _ _ _ d.2 in
        (a.0, a.1, a.2, b.0, b.1, a.3, b.3 ∙ ap (parsed b.0 b.1) k.2, ap Some (sym k.1) ∙ d.1, k.0)

module _ (n : ℕ) (ws xs : List ℕ) (q : Query) (w : ℕ) (ys : List ℕ) where
  pub zero_inverse : reads zero n ws xs ≡ parsed q w ys → ⊥
  zero_inverse e = no_fault n q w ys (sym (reads_zero n ws xs) ∙ e)

  -- no query is read where there is no operator
  pub none_inverse : (fuel : ℕ) → operator_at xs ≡ None → reads fuel n ws xs ≡ parsed q w ys → ⊥
  none_inverse zero h e = zero_inverse e
  none_inverse (suc fuel) h e = no_fault (n - length xs / 6) q w ys (sym (reads_step fuel n ws xs ∙ rw h) ∙ e)

  module _ (rest : List ℕ) where
    begin : (o : Operator) → Begun xs o rest → (fuel : ℕ) → reads fuel n ws xs ≡ parsed q w ys →
        (less : ℕ) × (meaning o (n - length xs / 6) ws rest (λ zs. reads less n ws zs) ≡ parsed q w ys)
    begin o b zero e = absurd (zero_inverse e)
    begin o b (suc fuel) e = (fuel, sym (reads_step fuel n ws xs ∙ rw (b.1, ← b.2)) ∙ e)

    pub scan_inverse : (t : ℕ) → Begun xs (Scan t) rest → (fuel : ℕ) → reads fuel n ws xs ≡ parsed q w ys →
        (t < length ws) × (scan t ≡ q) × (get_or ws t 0 ≡ w) × (rest ≡ ys)
    scan_inverse t b fuel e = let s = begin (Scan t) b fuel e in scan_meant q w ys (n - length xs / 6) ws rest (λ zs. reads s.0 n ws zs) t s.1

    pub one_inverse : (c : Change) → Begun xs (One c) rest → (fuel : ℕ) → reads fuel n ws xs ≡ parsed q w ys →
        (less : ℕ) × (q' : Query) × (v : ℕ) × (reads less n ws rest ≡ parsed q' v ys) × (Some w ≡ change_width c v) × (changed c q' ≡ q)
    one_inverse c b fuel e =
        let s = begin (One c) b fuel e in let k = one_meant q w ys (n - length xs / 6) ws rest (λ zs. reads s.0 n ws zs) c s.1 in
        (s.0, k.0, k.1, k.2, k.3, k.4)

    pub two_inverse : (j : Pairing) → Begun xs (Two j) rest → (fuel : ℕ) → reads fuel n ws xs ≡ parsed q w ys →
        (less : ℕ) × (l : Query) × (u : ℕ) × (zs : List ℕ) × (r : Query) × (v : ℕ)
        × (reads less n ws rest ≡ parsed l u zs) × (reads less n ws zs ≡ parsed r v ys) × (Some w ≡ pair_width j u v) × (paired j l r ≡ q)
    two_inverse j b fuel e =
        let s = begin (Two j) b fuel e in let k = two_meant q w ys (n - length xs / 6) ws rest (λ zs. reads s.0 n ws zs) j s.1 in
        (s.0, k.0, k.1, k.2, k.3, k.4, k.5, k.6, k.7, k.8)

whole_inverse : (n : ℕ) (p : Parsed) (q : Query) (w : ℕ) (ys : List ℕ) → whole n p ≡ parsed q w ys → (p ≡ parsed q w ys) × (ys ≡ [])
whole_inverse n (parsed q' v []) q w ys e = (e, sym (same_parsed q' q v w [] ys e).2)
whole_inverse n (parsed q' v (x ∷ xs)) q w ys e = absurd (no_fault _ q w ys e)
whole_inverse n (fault p) q w ys e = absurd (no_fault p q w ys e)

-- what is known of a whole query: it was read with fuel for 16 operators, to the end, and its operators are whole
pub record WholeRead (ws xs : List ℕ) (q : Query) (w : ℕ) (ys : List ℕ) : Type 0 where
  pub read : reads 16 (length xs / 6) ws xs ≡ parsed q w ys
  pub all : ys ≡ []
  pub short : length xs ≤ 96
  pub even : length xs % 6 ≡ 0

pub parse_inverse : (ws xs : List ℕ) (q : Query) (w : ℕ) (ys : List ℕ) → parse ws xs ≡ parsed q w ys → WholeRead ws xs q w ys
unfolding parse
parse_inverse ws xs q w ys e =
    let a = pick_inverse q w ys (leb (length xs) 96) _ 16 e in
    let b = pick_inverse q w ys (eqb (length xs % 6) 0) _ (length xs / 6) a.1 in
    let c = whole_inverse (length xs / 6) (reads 16 (length xs / 6) ws xs) q w ys b.1 in
    record { read = c.0; all = c.1; short = leb-true (length xs) 96 a.0; even = eqb-true (length xs % 6) 0 b.0 }

-- what an Ok says of a query
pub parse_ok : (ws xs : List ℕ) (w : ℕ) → Ok w ≡ width_of (parse ws xs) → (q : Query) × (parse ws xs ≡ parsed q w []) × (length xs % 6 ≡ 0)
parse_ok ws xs w e = ok_parsed (parse ws xs) refl
  where
    ok_parsed : (p : Parsed) → parse ws xs ≡ p → (q : Query) × (parse ws xs ≡ parsed q w []) × (length xs % 6 ≡ 0)
    ok_parsed (parsed q v ys) i =
        let same : w ≡ v = cc in
        let k = parse_inverse ws xs q v ys i in
        (q, i ∙ ap₂ (parsed q) (sym same) k.all, k.even)
    ok_parsed (fault p) i = absurd (differ cc)
