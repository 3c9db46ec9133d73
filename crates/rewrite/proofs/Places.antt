-- The query at a place of a written query, and what is written with another in its place. Assumes nothing.
use Rattle.std.proofs.Common.{◌≡◌, ℕ, zero, suc, ◌+◌, ◌-◌, ◌*◌, ◌<◌, ◌≤◌, Bool, true, false, ltb, List, [], ◌++◌, length, Some, None, sym, refl, ap, ◌∙◌, subst, append_assoc, arith, ltb-false, ltb-true, le-ltb, lt-ltb}
use Rattle.std.proofs.lemmas.List.{append-nil, length-append}
use Rattle.query.specs.Query.{Query, scan, select, project, product, union}
use Rattle.query.specs.Operators.{Sign, change_width, pair_width, changed, paired}
use Rattle.query.specs.declared.operator.Operator.TheVariants.{One, Two}
use Rattle.query.specs.declared.operator.Change.{Change}
use Rattle.query.specs.declared.operator.Change.TheVariants.{Select, Project}
use Rattle.query.specs.declared.operator.Pairing.{Pairing}
use Rattle.query.specs.declared.operator.Pairing.TheVariants.{Product, Union}
use Rattle.provenance.specs.Rewriting.{Replaced, here, unchanged, in_select, in_project, in_product, in_union}
use Rattle.rewrite.specs.Rewritten.{size, at_place, put_at}
use Rattle.rewrite.specs.Written.{Written, scanned, changing, pairing}
use Rattle.rewrite.proofs.Forms.{written_long}

-- no query begins behind the last operator
pub past : (i : ℕ) (q : Query) → size q ≤ i → at_place i q ≡ None
unfolding size at_place
past zero (scan t) h = absurd (omega arith)
past zero (select c q) h = absurd (omega arith)
past zero (project cs q) h = absurd (omega arith)
past zero (product p q) h = absurd (omega arith)
past zero (union p q) h = absurd (omega arith)
past (suc i) (scan t) h = refl
past (suc i) (select c q) h = past i q (omega arith)
past (suc i) (project cs q) h = past i q (omega arith)
past (suc i) (product p q) h = rw (le-ltb i (size p) (omega arith)) (past (i - size p) q (omega arith))
past (suc i) (union p q) h = rw (le-ltb i (size p) (omega arith)) (past (i - size p) q (omega arith))

-- the query at place i of q, whose numbers are xs: where its numbers stand, and what it is to put another one there
pub record Placed (ws xs : List ℕ) (q : Query) (w i : ℕ) : Type 0 where
  pub before : List ℕ
  pub signs : List ℕ
  pub after : List ℕ
  pub inner : Query
  pub width : ℕ
  pub parts : xs ≡ before ++ (signs ++ after)
  pub long : length before ≡ 6 * i
  pub there : at_place i q ≡ Some inner
  pub written : Written ws signs inner width
  pub put : (ys : List ℕ) (r : Query) → Written ws ys r width → Written ws (before ++ (ys ++ after)) (put_at i r q) w
  pub sized : (r : Query) → 6 * size (put_at i r q) ≡ length before + (6 * size r + length after)
  pub replaced : (r : Query) → Replaced inner r q (put_at i r q)

placed_here : {ws xs : List ℕ} {q : Query} {w : ℕ} → Written ws xs q w → Placed ws xs q w 0
unfolding at_place put_at
placed_here {ws} {xs} {q} {w} s = record {
  before = [];
  signs = xs;
  after = [];
  inner = q;
  width = w;
  parts = sym (append-nil xs);
  long = refl;
  there = refl;
  written = s;
  put = λ ys r t. rw (append-nil ys) t;
  sized = λ r. omega arith;
  replaced = λ r. here;
}

placed_one : {ws six xs : List ℕ} {q : Query} {v w : ℕ} (c : Change) (i : ℕ) → Sign six (One c) → Some w ≡ change_width c v →
    Placed ws xs q v i → Placed ws (six ++ xs) (changed c q) w (suc i)
unfolding at_place put_at size
placed_one {ws} {six} {xs} {q} (Select c) i s g a = record {
  before = six ++ a.before;
  signs = a.signs;
  after = a.after;
  inner = a.inner;
  width = a.width;
  parts = ap (λ us. six ++ us) a.parts ∙ sym (append_assoc six a.before _);
  long = omega (arith, length-append six a.before, s.long, a.long);
  there = a.there;
  written = a.written;
  put = λ ys r t. rw (append_assoc six a.before (ys ++ a.after)) (changing (Select c) s g (a.put ys r t));
  sized = λ r. omega (arith, a.sized r, length-append six a.before, s.long);
  replaced = λ r. in_select _ (a.replaced r);
}
placed_one {ws} {six} {xs} {q} (Project n cs) i s g a = record {
  before = six ++ a.before;
  signs = a.signs;
  after = a.after;
  inner = a.inner;
  width = a.width;
  parts = ap (λ us. six ++ us) a.parts ∙ sym (append_assoc six a.before _);
  long = omega (arith, length-append six a.before, s.long, a.long);
  there = a.there;
  written = a.written;
  put = λ ys r t. rw (append_assoc six a.before (ys ++ a.after)) (changing (Project n cs) s g (a.put ys r t));
  sized = λ r. omega (arith, a.sized r, length-append six a.before, s.long);
  replaced = λ r. in_project _ (a.replaced r);
}

-- what a product or a union is at a place of one of its sides
put_left : (j : Pairing) (i : ℕ) (l r q : Query) → i < size l → put_at (suc i) q (paired j l r) ≡ paired j (put_at i q l) r
unfolding put_at
put_left Product i l r q h = rw (lt-ltb i (size l) h)
put_left Union i l r q h = rw (lt-ltb i (size l) h)

put_right : (j : Pairing) (i : ℕ) (l r q : Query) → size l ≤ i → put_at (suc i) q (paired j l r) ≡ paired j l (put_at (i - size l) q r)
unfolding put_at
put_right Product i l r q h = rw (le-ltb i (size l) h)
put_right Union i l r q h = rw (le-ltb i (size l) h)

at_left : (j : Pairing) (i : ℕ) (l r : Query) → i < size l → at_place (suc i) (paired j l r) ≡ at_place i l
unfolding at_place
at_left Product i l r h = rw (lt-ltb i (size l) h)
at_left Union i l r h = rw (lt-ltb i (size l) h)

at_right : (j : Pairing) (i : ℕ) (l r : Query) → size l ≤ i → at_place (suc i) (paired j l r) ≡ at_place (i - size l) r
unfolding at_place
at_right Product i l r h = rw (le-ltb i (size l) h)
at_right Union i l r h = rw (le-ltb i (size l) h)

size_paired : (j : Pairing) (l r : Query) → size (paired j l r) ≡ 1 + (size l + size r)
unfolding size
size_paired Product l r = omega arith
size_paired Union l r = omega arith

in_paired : (j : Pairing) {p p' q q' s s' : Query} → Replaced p p' q q' → Replaced p p' s s' → Replaced p p' (paired j q s) (paired j q' s')
in_paired Product a b = in_product a b
in_paired Union a b = in_union a b

module _ {ws six xs ys : List ℕ} {l r : Query} {u v w : ℕ} (j : Pairing) (i : ℕ) (s : Sign six (Two j)) (g : Some w ≡ pair_width j u v)
    (lw : Written ws xs l u) (rw' : Written ws ys r v) where
  placed_left : i < size l → Placed ws xs l u i → Placed ws (six ++ (xs ++ ys)) (paired j l r) w (suc i)
  placed_left h a = record {
    before = six ++ a.before;
    signs = a.signs;
    after = a.after ++ ys;
    inner = a.inner;
    width = a.width;
    parts =
        ap (λ us. six ++ us) (ap (λ us. us ++ ys) a.parts ∙ append_assoc a.before (a.signs ++ a.after) ys
        ∙ ap (λ us. a.before ++ us) (append_assoc a.signs a.after ys))
        ∙ sym (append_assoc six a.before _);
    long = omega (arith, length-append six a.before, s.long, a.long);
    there = at_left j i l r h ∙ a.there;
    written = a.written;
    put = λ zs q t.
        let whole : six ++ ((a.before ++ (zs ++ a.after)) ++ ys) ≡ (six ++ a.before) ++ (zs ++ (a.after ++ ys)) =
        ap (λ us. six ++ us) (append_assoc a.before (zs ++ a.after) ys ∙ ap (λ us. a.before ++ us) (append_assoc zs a.after ys))
        ∙ sym (append_assoc six a.before _) in
        rw (put_left j i l r q h) (subst (λ us. Written ws us (paired j (put_at i q l) r) w) whole (pairing j s g (a.put zs q t) rw'));
    sized = λ q.
        rw (put_left j i l r q h, size_paired j (put_at i q l) r)
        (omega (arith, a.sized q, length-append six a.before, length-append a.after ys, s.long, written_long rw'));
    replaced = λ q. rw (put_left j i l r q h) (in_paired j (a.replaced q) unchanged);
  }

  placed_right : size l ≤ i → Placed ws ys r v (i - size l) → Placed ws (six ++ (xs ++ ys)) (paired j l r) w (suc i)
  placed_right h a = record {
    before = six ++ (xs ++ a.before);
    signs = a.signs;
    after = a.after;
    inner = a.inner;
    width = a.width;
    parts =
        ap (λ us. six ++ us) (ap (λ us. xs ++ us) a.parts ∙ sym (append_assoc xs a.before _))
        ∙ sym (append_assoc six (xs ++ a.before) _);
    long = omega (arith, length-append six (xs ++ a.before), length-append xs a.before, s.long, a.long, written_long lw);
    there = at_right j i l r h ∙ a.there;
    written = a.written;
    put = λ zs q t.
        let whole : six ++ (xs ++ (a.before ++ (zs ++ a.after))) ≡ (six ++ (xs ++ a.before)) ++ (zs ++ a.after) =
        ap (λ us. six ++ us) (sym (append_assoc xs a.before _)) ∙ sym (append_assoc six (xs ++ a.before) _) in
        rw (put_right j i l r q h) (subst (λ us. Written ws us (paired j l (put_at (i - size l) q r)) w) whole (pairing j s g lw (a.put zs q t)));
    sized = λ q.
        rw (put_right j i l r q h, size_paired j l (put_at (i - size l) q r))
        (omega (arith, a.sized q, length-append six (xs ++ a.before), length-append xs a.before, s.long, written_long lw));
    replaced = λ q. rw (put_right j i l r q h) (in_paired j unchanged (a.replaced q));
  }

  placed_side : (b : Bool) → ltb i (size l) ≡ b → (i < size l → Placed ws xs l u i) → (size l ≤ i → Placed ws ys r v (i - size l)) →
      Placed ws (six ++ (xs ++ ys)) (paired j l r) w (suc i)
  placed_side true e left right = let h = ltb-true i (size l) e in placed_left h (left h)
  placed_side false e left right = let h = ltb-false i (size l) e in placed_right h (right h)

pub placed : {ws xs : List ℕ} {q : Query} {w : ℕ} (i : ℕ) → Written ws xs q w → i < size q → Placed ws xs q w i
unfolding size
placed zero s h = placed_here s
placed (suc i) (scanned t s _) h = absurd (omega arith)
placed (suc i) (changing (Select c) s g k) h = placed_one (Select c) i s g (placed i k (omega arith))
placed (suc i) (changing (Project n cs) s g k) h = placed_one (Project n cs) i s g (placed i k (omega arith))
placed (suc i) (pairing {l = l} {r = r} j s g k m) h =
    placed_side j i s g k m (ltb i (size l)) refl (λ e. placed i k e) (λ e. placed (i - size l) m (omega (arith, size_paired j l r)))
