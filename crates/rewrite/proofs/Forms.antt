-- What is known of a written query, by the operator in front; and that it reads as it is written. Assumes nothing.
use Rattle.std.proofs.Common.{◌≡◌, ℕ, zero, suc, ◌+◌, ◌*◌, ◌<◌, ◌≤◌, List, ◌++◌, length, get_or, take, drop, Some, sym, refl, ap, ◌∙◌, subst, ap₂, append_assoc, arith, lt-ltb}
use Rattle.std.proofs.lemmas.List.{get_or_append_left, length-append, length-drop, length-take-le, take-append-drop, take_at, drop_at}
use Rattle.query.specs.Query.{Query, scan}
use Rattle.query.specs.Operators.{Sign, operator_at, change_width, pair_width, changed, paired}
use Rattle.query.specs.Parse.{parsed, reads}
use Rattle.query.specs.declared.operator.Operator.{Operator}
use Rattle.query.specs.declared.operator.Operator.TheVariants.{Scan, One, Two}
use Rattle.query.specs.declared.operator.Change.{Change}
use Rattle.query.specs.declared.operator.Change.TheVariants.{Select, Project}
use Rattle.query.specs.declared.operator.Pairing.{Pairing}
use Rattle.query.specs.declared.operator.Pairing.TheVariants.{Product, Union}
use Rattle.query.proofs.Steps.{differ, operator_whole, operator_long, project_four, select_fits, project_fits, product_fits, union_fits, reads_step}
use Rattle.query.proofs.Shown.{StandsIn, at_scan, at_one, at_two, front, front_shorter}
use Rattle.rewrite.specs.Rewritten.{size, width}
use Rattle.rewrite.specs.Written.{Written, scanned, changing, pairing, Begun}

-- what stands behind its six numbers says nothing of an operator
pub operator_front : (six after : List ℕ) → length six ≡ 6 → operator_at (six ++ after) ≡ operator_at six
operator_front six after e =
    let long : 6 ≤ length six = omega arith in
    let longer : 6 ≤ length (six ++ after) = omega (arith, length-append six after) in
    let at = λ (i : ℕ) (h : i < 6). get_or_append_left six after 0 i (omega arith) in
    operator_whole (six ++ after) longer
    ∙ rw (at 0 (omega arith), at 1 (omega arith), at 2 (omega arith), at 3 (omega arith), at 4 (omega arith), at 5 (omega arith))
    (sym (operator_whole six long))

-- numbers with fronts of one length have one front
same_front : (a b c d : List ℕ) → length a ≡ length b → a ++ c ≡ b ++ d → (a ≡ b) × (c ≡ d)
same_front a b c d e f =
    let front = sym (take_at a c (length a) refl) ∙ ap (take (length a)) f ∙ take_at b d (length a) (sym e) in
    (front, sym (drop_at a c (length a) refl) ∙ ap (drop (length a)) f ∙ drop_at b d (length a) (sym e))

-- the operator in front is the one that was written there, and what is left is what was written behind it
same_sign : (at six rest six' rest' : List ℕ) (o o' : Operator) → Begun at o six rest → Sign six' o' → at ≡ six' ++ rest' → (o ≡ o') × (rest ≡ rest')
same_sign at six rest six' rest' o o' b s e =
    let k = same_front six six' rest rest' (b.sign.long ∙ sym s.long) (sym b.parts ∙ e) in
    let f : Some o ≡ Some o' = sym b.sign.is ∙ ap operator_at k.0 ∙ s.is in
    (cc, k.1)

pub record InsideOne (ws : List ℕ) (c : Change) (q : Query) (w : ℕ) (rest after : List ℕ) : Type 0 where
  pub inner : Query
  pub is : q ≡ changed c inner
  pub from : ℕ
  pub fits : Some w ≡ change_width c from
  pub signs : List ℕ
  pub written : Written ws signs inner from
  pub parts : rest ≡ signs ++ after

pub record InsideTwo (ws : List ℕ) (j : Pairing) (q : Query) (w : ℕ) (rest after : List ℕ) : Type 0 where
  pub left : Query
  pub right : Query
  pub is : q ≡ paired j left right
  pub left_width : ℕ
  pub right_width : ℕ
  pub fits : Some w ≡ pair_width j left_width right_width
  pub left_signs : List ℕ
  pub right_signs : List ℕ
  pub left_written : Written ws left_signs left left_width
  pub right_written : Written ws right_signs right right_width
  pub parts : rest ≡ left_signs ++ (right_signs ++ after)

module _ (ws at six rest after : List ℕ) where
  pub one_inside : (c : Change) {xs : List ℕ} {q : Query} {w : ℕ} → Begun at (One c) six rest → Written ws xs q w → at ≡ xs ++ after →
      InsideOne ws c q w rest after
  one_inside c b (scanned {six = six'} t' s h) e =
      let k = same_sign at six rest six' after (One c) (Scan t') b s e in absurd (differ cc)
  one_inside c b (changing {six = six'} {xs = xs} {q = q} {v = v} {w = w} c' s g i) e =
      let k = same_sign at six rest six' (xs ++ after) (One c) (One c') b s (e ∙ append_assoc six' xs after) in
      let same : c' ≡ c = cc in
      record {
        inner = q;
        is = ap (λ c. changed c q) same;
        from = v;
        fits = g ∙ ap (λ c. change_width c v) same;
        signs = xs;
        written = i;
        parts = k.1;
      }
  one_inside c b (pairing {six = six'} {xs = xs} {ys = ys} j s g l r) e =
      let k = same_sign at six rest six' ((xs ++ ys) ++ after) (One c) (Two j) b s (e ∙ append_assoc six' (xs ++ ys) after) in absurd (differ cc)

  pub two_inside : (j : Pairing) {xs : List ℕ} {q : Query} {w : ℕ} → Begun at (Two j) six rest → Written ws xs q w → at ≡ xs ++ after →
      InsideTwo ws j q w rest after
  two_inside j b (scanned {six = six'} t' s h) e =
      let k = same_sign at six rest six' after (Two j) (Scan t') b s e in absurd (differ cc)
  two_inside j b (changing {six = six'} {xs = xs} c' s g i) e =
      let k = same_sign at six rest six' (xs ++ after) (Two j) (One c') b s (e ∙ append_assoc six' xs after) in absurd (differ cc)
  two_inside j b (pairing {six = six'} {xs = xs} {ys = ys} {l = l} {r = r} {u = u} {v = v} j' s g i k) e =
      let f = same_sign at six rest six' ((xs ++ ys) ++ after) (Two j) (Two j') b s (e ∙ append_assoc six' (xs ++ ys) after) in
      let same : j' ≡ j = cc in
      record {
        left = l;
        right = r;
        is = ap (λ j. paired j l r) same;
        left_width = u;
        right_width = v;
        fits = g ∙ ap (λ j. pair_width j u v) same;
        left_signs = xs;
        right_signs = ys;
        left_written = i;
        right_written = k;
        parts = f.1 ∙ append_assoc xs ys after;
      }

-- a written query has six numbers for each operator, and its width
pub written_long : {ws xs : List ℕ} {q : Query} {w : ℕ} → Written ws xs q w → length xs ≡ 6 * size q
unfolding size
written_long (scanned t s h) = s.long
written_long (changing {six = six} {xs = xs} (Select c) s g i) = omega (arith, length-append six xs, s.long, written_long i)
written_long (changing {six = six} {xs = xs} (Project n cs) s g i) = omega (arith, length-append six xs, s.long, written_long i)
written_long (pairing {six = six} {xs = xs} {ys = ys} Product s g i k) =
    omega (arith, length-append six (xs ++ ys), length-append xs ys, s.long, written_long i, written_long k)
written_long (pairing {six = six} {xs = xs} {ys = ys} Union s g i k) =
    omega (arith, length-append six (xs ++ ys), length-append xs ys, s.long, written_long i, written_long k)

pub written_width : {ws xs : List ℕ} {q : Query} {w : ℕ} → Written ws xs q w → width ws q ≡ w
unfolding width
written_width (scanned t s h) = refl
written_width (changing (Select c) s g i) = written_width i ∙ sym (select_fits c _ _ g).1
written_width (changing {six = six} (Project n cs) s g i) =
    let k = project_fits n cs _ _ g in
    length-take-le n cs (omega (arith, project_four six n cs s.is)) ∙ sym k.width
written_width (pairing Product s g i k) = ap₂ ◌+◌ (written_width i) (written_width k) ∙ sym (product_fits _ _ _ g).1
written_width (pairing Union s g i k) = written_width i ∙ sym (union_fits _ _ _ g).1

-- what was read is written there
pub record Found (ws xs : List ℕ) (q : Query) (w : ℕ) (ys : List ℕ) : Type 0 where
  pub signs : List ℕ
  pub parts : xs ≡ signs ++ ys
  pub written : Written ws signs q w

pub sign_at : (xs : List ℕ) (o : Operator) → operator_at xs ≡ Some o → Begun xs o (take 6 xs) (drop 6 xs)
sign_at xs o f =
    let long = length-take-le 6 xs (operator_long xs o f) in
    let whole = take-append-drop 6 xs in
    record {
      parts = sym whole;
      sign = record { long = long; is = sym (operator_front (take 6 xs) (drop 6 xs) long) ∙ ap operator_at whole ∙ f };
    }

pub written_there : {ws xs : List ℕ} {q : Query} {w : ℕ} {ys : List ℕ} → StandsIn ws xs q w ys → Found ws xs q w ys
written_there (at_scan {xs = xs} t f h) =
    let b = sign_at xs (Scan t) f in record { signs = take 6 xs; parts = b.parts; written = scanned t b.sign h }
written_there (at_one {xs = xs} {ys = ys} c f e s) =
    let b = sign_at xs (One c) f in let a = written_there s in
    record {
      signs = take 6 xs ++ a.signs;
      parts = b.parts ∙ ap (λ zs. take 6 xs ++ zs) a.parts ∙ sym (append_assoc (take 6 xs) a.signs ys);
      written = changing c b.sign e a.written;
    }
written_there (at_two {xs = xs} {ys = ys} {zs = zs} j f e s t) =
    let b = sign_at xs (Two j) f in let l = written_there s in let r = written_there t in
    record {
      signs = take 6 xs ++ (l.signs ++ r.signs);
      parts =
          b.parts ∙ ap (λ us. take 6 xs ++ us) (l.parts ∙ ap (λ us. l.signs ++ us) r.parts ∙ sym (append_assoc l.signs r.signs zs))
          ∙ sym (append_assoc (take 6 xs) (l.signs ++ r.signs) zs);
      written = pairing j b.sign e l.written r.written;
    }

-- and what is written stands there
pub stands_there : {ws xs : List ℕ} {q : Query} {w : ℕ} (ys : List ℕ) → Written ws xs q w → StandsIn ws (xs ++ ys) q w ys
stands_there {ws} ys (scanned {six = six} t s h) =
    subst (λ zs. StandsIn ws (six ++ ys) (scan t) (get_or ws t 0) zs) (drop_at six ys 6 s.long) (at_scan t (operator_front six ys s.long ∙ s.is) h)
stands_there {ws} {xs} {q} {w} ys (changing {six = six} {xs = us} {q = p} {v = v} c s g i) =
    rw (append_assoc six us ys)
    (at_one c (operator_front six (us ++ ys) s.long ∙ s.is) g
    (subst (λ zs. StandsIn ws zs p v ys) (sym (drop_at six (us ++ ys) 6 s.long)) (stands_there ys i)))
stands_there {ws} ys (pairing {six = six} {xs = us} {ys = vs} {l = l} {u = u} j s g i k) =
    rw (append_assoc six (us ++ vs) ys, append_assoc us vs ys)
    (at_two j (operator_front six (us ++ (vs ++ ys)) s.long ∙ s.is) g
    (subst (λ zs. StandsIn ws zs l u (vs ++ ys)) (sym (drop_at six (us ++ (vs ++ ys)) 6 s.long)) (stands_there (vs ++ ys) i)) (stands_there ys k))

-- what stands there is read
pub reads_there : {ws xs : List ℕ} {q : Query} {w : ℕ} {ys : List ℕ} → StandsIn ws xs q w ys → (fuel n : ℕ) → length xs ≤ 6 * fuel →
    reads fuel n ws xs ≡ parsed q w ys
reads_there (at_scan {xs = xs} t f h) zero n enough = absurd (omega (arith, operator_long xs (Scan t) f))
reads_there {ws} (at_scan {xs = xs} t f h) (suc fuel) n enough = reads_step fuel n ws xs ∙ rw (f, lt-ltb t (length ws) h)
reads_there (at_one {xs = xs} c f e s) zero n enough = absurd (omega (arith, operator_long xs (One c) f))
reads_there {ws} (at_one {xs = xs} c f e s) (suc fuel) n enough =
    let i = reads_there s fuel n (omega (arith, length-drop 6 xs)) in
    reads_step fuel n ws xs ∙ rw (f, i, ← e)
reads_there (at_two {xs = xs} j f e s t) zero n enough = absurd (omega (arith, operator_long xs (Two j) f))
reads_there {ws} (at_two {xs = xs} {ys = ys} j f e s t) (suc fuel) n enough =
    let i = reads_there s fuel n (omega (arith, length-drop 6 xs)) in
    let k = reads_there t fuel n (omega (arith, length-drop 6 xs, front_shorter (drop 6 xs) ys (front s))) in
    reads_step fuel n ws xs ∙ rw (f, i, k, ← e)
