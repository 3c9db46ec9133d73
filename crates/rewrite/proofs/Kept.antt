-- What the steps on projections write. Assumes nothing.
use Rattle.std.proofs.Common.{◌≡◌, ℕ, ◌<◌, ◌≤◌, true, ltb, List, [], ◌∷◌, ◌++◌, length, get_or, take, Some, Option, sym, refl, ap, ◌∙◌, append_assoc, arith, ltb-true, lt-ltb, le-leb}
use Rattle.std.proofs.lemmas.List.{append-nil, length-take-le, take_at}
use Rattle.std.proofs.lemmas.Bool.{and_parts}
use Rattle.query.specs.Query as query
use Rattle.query.specs.Query.{same, is, below, select, project, cells}
use Rattle.query.specs.Operators.{Sign, test_of, test_fits, all_below, change_width}
use Rattle.query.specs.declared.operator.Operator.TheVariants.{One}
use Rattle.query.specs.declared.operator.Change.TheVariants.{Select, Project}
use Rattle.query.specs.declared.operator.Test.{Test}
use Rattle.query.proofs.Steps.{project_four, select_fits, project_fits}
use Rattle.query.proofs.Columns.{column_within}
use Rattle.query.proofs.Keeping.{length_cells}
use Rattle.provenance.specs.Rewriting.{through}
use Rattle.rewrite.specs.declared.Step.TheVariants.{TestBelowProjection, JoinProjections}
use Rattle.rewrite.specs.Rewritten.{within, turned}
use Rattle.rewrite.specs.Written.{changing, Begun, Puts, Turns}
use Rattle.rewrite.proofs.Forms.{one_inside}
use Rattle.rewrite.proofs.Fronts.{Cannot}
use Rattle.rewrite.proofs.Turning.{made}
use Rattle.rewrite.proofs.Moved.{select_some, within_is_fits}

project_some : (n : ℕ) (cs : List ℕ) (v w : ℕ) → 1 ≤ n → n ≤ 4 → all_below v (take n cs) ≡ true → w ≡ n → Some w ≡ change_width (Project n cs) v
project_some n cs v w a b e f = rw (le-leb 1 n a, le-leb n 4 b, e) (ap Some f)

-- a test of columns that are there is a test of columns that are there
within_through : (t : query.Test) (cs : List ℕ) (v : ℕ) → within (length cs) t ≡ true → all_below v cs ≡ true → within v (through cs t) ≡ true
within_through (same a b) cs v h k =
    let i = and_parts (ltb a (length cs)) (ltb b (length cs)) h in
    rw (lt-ltb (get_or cs a 0) v (column_within v cs a k (ltb-true a (length cs) i.0)), lt-ltb (get_or cs b 0) v (column_within v cs b k (ltb-true b (length cs) i.1))) refl
within_through (is a n) cs v h k = lt-ltb (get_or cs a 0) v (column_within v cs a k (ltb-true a (length cs) h))
within_through (below a n) cs v h k = lt-ltb (get_or cs a 0) v (column_within v cs a k (ltb-true a (length cs) h))

through_fits : (c d : Test) (cs : List ℕ) (v : ℕ) → test_fits c (length cs) ≡ true → all_below v cs ≡ true → test_of d ≡ through cs (test_of c) →
    test_fits d v ≡ true
through_fits c d cs v h k e =
    sym (within_is_fits d v) ∙ ap (within v) e ∙ within_through (test_of c) cs v (within_is_fits c (length cs) ∙ h) k

-- columns of columns that are there are there
cells_below : (v : ℕ) (ds cs : List ℕ) → all_below v cs ≡ true → all_below (length cs) ds ≡ true → all_below v (cells ds cs) ≡ true
unfolding all_below cells
cells_below v [] cs h k = refl
cells_below v (d ∷ ds) cs h k =
    let i = and_parts (ltb d (length cs)) (all_below (length cs) ds) k in
    rw (lt-ltb (get_or cs d 0) v (column_within v cs d h (ltb-true d (length cs) i.0)), cells_below v ds cs h i.1)

-- a projection has at least as many columns as it keeps
pub few_kept : {ws at six rest : List ℕ} {n : ℕ} {cs : List ℕ} → Begun at (One (Project n cs)) six rest → length cs < n → Cannot ws at
few_kept {ws} {at} {six} {rest} {n} {cs} b h xs q w after s e =
    let k = one_inside ws at six rest after (Project n cs) b s e in
    let p = project_fits n cs k.from w k.fits in omega (arith, p.few, project_four six n cs b.sign.is)

kept_long : (six : List ℕ) (n : ℕ) (cs : List ℕ) → Sign six (One (Project n cs)) → n ≤ 4 → length (take n cs) ≡ n
kept_long six n cs s h = length-take-le n cs (omega (arith, project_four six n cs s.is))

module _ {ws : List ℕ} (before : List ℕ) {at : List ℕ} (was : List ℕ) {six rest : List ℕ} where
  pub test_below_projection_made : (now : List ℕ) (r : Option ℕ) {c d : Test} {n : ℕ} {cs six₂ rest₂ six₃ : List ℕ} → Begun at (One (Select c)) six rest →
      Begun rest (One (Project n cs)) six₂ rest₂ → Sign six₃ (One (Select d)) → test_of d ≡ through (take n cs) (test_of c) →
      Puts (before ++ (six₂ ++ (six₃ ++ (rest₂ ++ [])))) was now r → Turns ws TestBelowProjection before at was now r
  test_below_projection_made now r {c} {d} {n} {cs} {six₂} {rest₂} {six₃} b b₂ sign j put xs q w after s e =
      let k = one_inside ws at six rest after (Select c) b s e in
      let k₂ = one_inside ws rest six₂ rest₂ after (Project n cs) b₂ k.written k.parts in
      let u = select_fits c k.from w k.fits in
      let v = project_fits n cs k₂.from k.from k₂.fits in
      let long = kept_long six₂ n cs b₂.sign v.few in
      let fits = through_fits c d (take n cs) k₂.from (ap (test_fits c) (long ∙ sym v.width) ∙ u.0) v.below j in
      made ws TestBelowProjection before q w after was now r (project (take n cs) (select (test_of d) k₂.inner)) (six₂ ++ (six₃ ++ k₂.signs))
      (before ++ (six₂ ++ (six₃ ++ (rest₂ ++ []))))
      (ap (turned ws TestBelowProjection) (k.is ∙ ap (select (test_of c)) k₂.is) ∙ ap (λ t. Some (project (take n cs) (select t k₂.inner))) (sym j))
      (changing (Project n cs) b₂.sign (ap Some u.1 ∙ k₂.fits)
      (changing (Select d) sign (select_some d k₂.from k₂.from fits refl) k₂.written))
      (ap (λ us. before ++ (six₂ ++ (six₃ ++ (us ++ [])))) k₂.parts ∙ simp (append_assoc, append-nil))
      put

  pub join_projections_made : (now : List ℕ) (r : Option ℕ) {n m : ℕ} {ds cs es six₂ rest₂ six₃ : List ℕ} (more : List ℕ) → Begun at (One (Project n ds)) six rest →
      Begun rest (One (Project m cs)) six₂ rest₂ → Sign six₃ (One (Project n es)) → es ≡ cells (take n ds) (take m cs) ++ more →
      Puts (before ++ (six₃ ++ (rest₂ ++ []))) was now r → Turns ws JoinProjections before at was now r
  join_projections_made now r {n} {m} {ds} {cs} {es} {six₂} {rest₂} {six₃} more b b₂ sign j put xs q w after s e =
      let k = one_inside ws at six rest after (Project n ds) b s e in
      let k₂ = one_inside ws rest six₂ rest₂ after (Project m cs) b₂ k.written k.parts in
      let u = project_fits n ds k.from w k.fits in
      let v = project_fits m cs k₂.from k.from k₂.fits in
      let kept : take n es ≡ cells (take n ds) (take m cs) =
      ap (take n) j ∙ take_at (cells (take n ds) (take m cs)) more n (length_cells (take n ds) (take m cs) ∙ kept_long six n ds b.sign u.few) in
      let long : k.from ≡ length (take m cs) = v.width ∙ sym (kept_long six₂ m cs b₂.sign v.few) in
      let there = cells_below k₂.from (take n ds) (take m cs) v.below (ap (λ v. all_below v (take n ds)) (sym long) ∙ u.below) in
      made ws JoinProjections before q w after was now r (project (take n es) k₂.inner) (six₃ ++ k₂.signs)
      (before ++ (six₃ ++ (rest₂ ++ [])))
      (ap (turned ws JoinProjections) (k.is ∙ ap (project (take n ds)) k₂.is) ∙ ap (λ us. Some (project us k₂.inner)) (sym kept))
      (changing (Project n es) sign (project_some n es k₂.from w u.some u.few (ap (all_below k₂.from) kept ∙ there) u.width) k₂.written)
      (ap (λ us. before ++ (six₃ ++ (us ++ []))) k₂.parts ∙ simp (append_assoc, append-nil))
      put
