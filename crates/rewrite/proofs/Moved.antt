-- What the steps on tests write. Assumes nothing.
use Rattle.std.proofs.Common.{◌≡◌, ℕ, ◌+◌, true, false, List, [], ◌++◌, Some, None, Option, sym, refl, ap, ◌∙◌, append_assoc, arith}
use Rattle.std.proofs.lemmas.List.{append-nil}
use Rattle.std.proofs.lemmas.Bool.Decides.{nat_tests}
use Rattle.tables.specs.Bool.{pick}
use Rattle.query.specs.Query as query
use Rattle.query.specs.Query.{same, is, below, select, product, union}
use Rattle.query.specs.Operators.{Sign, test_of, test_fits, change_width, changed}
use Rattle.query.specs.declared.operator.Operator.TheVariants.{One, Two}
use Rattle.query.specs.declared.operator.Change.{Change}
use Rattle.query.specs.declared.operator.Change.TheVariants.{Select}
use Rattle.query.specs.declared.operator.Pairing.TheVariants.{Product, Union}
use Rattle.query.specs.declared.operator.Test.{Test}
use Rattle.query.specs.declared.operator.Test.TheVariants.{Same, Is, Below}
use Rattle.query.proofs.Steps.{select_fits, product_fits, union_fits}
use Rattle.rewrite.specs.declared.Step.{Step}
use Rattle.rewrite.specs.declared.Step.TheVariants.{SwapTests, TestIntoLeft, TestIntoRight, TestIntoUnion}
use Rattle.rewrite.specs.declared.signs.Inner.{Inner}
use Rattle.rewrite.specs.Rewritten.{turned, width, within, behind, earlier}
use Rattle.rewrite.specs.Written.{changing, pairing, Begun, Puts, Turns}
use Rattle.rewrite.proofs.Forms.{one_inside, two_inside, written_width}
use Rattle.rewrite.proofs.Fronts.{Cannot}
use Rattle.rewrite.proofs.Turning.{Unmade, not_turned, made}
use Rattle.rewrite.proofs.Pairs.{product_some, union_some, Ends}

pub select_some : (c : Test) (v w : ℕ) → test_fits c v ≡ true → w ≡ v → Some w ≡ change_width (Select c) v
select_some c v w e f = rw e (ap Some f)

-- a test reads only some columns where it fits rows of so many
pub within_is_fits : (c : Test) (v : ℕ) → within v (test_of c) ≡ test_fits c v
within_is_fits (Same a b) v = refl
within_is_fits (Is a n) v = refl
within_is_fits (Below a n) v = refl

-- a test of the columns of a product that reads only those behind its left side is a test of the columns of its right side
within_earlier : (t : query.Test) (u v : ℕ) → within (u + v) t ≡ true → behind u t ≡ true → within v (earlier u t) ≡ true
within_earlier (same a b) u v h k = grind (arith, nat_tests)
within_earlier (is a n) u v h k = grind (arith, nat_tests)
within_earlier (below a n) u v h k = grind (arith, nat_tests)

behind_fits : (c d : Test) (u v : ℕ) → test_fits c (u + v) ≡ true → behind u (test_of c) ≡ true → test_of d ≡ earlier u (test_of c) → test_fits d v ≡ true
behind_fits c d u v h k e =
    sym (within_is_fits d v) ∙ ap (within v) e ∙ within_earlier (test_of c) u v (within_is_fits c (u + v) ∙ h) k

-- what a test needs is there
pub below_there : {ws at six rest : List ℕ} {c : Change} → Begun at (One c) six rest → Cannot ws rest → Cannot ws at
below_there {ws} {at} {six} {rest} {c} b n xs q w after s e =
    let k = one_inside ws at six rest after c b s e in n k.signs k.inner k.from after k.written k.parts

-- where a step makes nothing of one query below an operator, it makes nothing of the whole
pub below_unturned : {ws before at was six rest : List ℕ} {s : Step} {c : Change} → Begun at (One c) six rest →
    Unmade ws rest (λ q. turned ws s (changed c q)) → Turns ws s before at was was None
below_unturned {ws} {before} {at} {was} {six} {rest} {s} {c} b f xs q w after t e =
    let k = one_inside ws at six rest after c b t e in
    not_turned ws s before q w after was (ap (turned ws s) k.is ∙ f k.signs k.inner k.from after k.written k.parts)

module _ {ws : List ℕ} (before : List ℕ) {at : List ℕ} (was : List ℕ) {six rest : List ℕ} {c : Test} (b : Begun at (One (Select c)) six rest) where
  pub swap_tests_made : (now : List ℕ) (r : Option ℕ) {d : Test} {six₂ rest₂ : List ℕ} → Begun rest (One (Select d)) six₂ rest₂ →
      Puts (before ++ (six₂ ++ (six ++ (rest₂ ++ [])))) was now r → Turns ws SwapTests before at was now r
  swap_tests_made now r {d} {six₂} {rest₂} b₂ put xs q w after s e =
      let k = one_inside ws at six rest after (Select c) b s e in
      let k₂ = one_inside ws rest six₂ rest₂ after (Select d) b₂ k.written k.parts in
      let u = select_fits c k.from w k.fits in
      let v = select_fits d k₂.from k.from k₂.fits in
      made ws SwapTests before q w after was now r (select (test_of d) (select (test_of c) k₂.inner)) (six₂ ++ (six ++ k₂.signs))
      (before ++ (six₂ ++ (six ++ (rest₂ ++ []))))
      (ap (turned ws SwapTests) (k.is ∙ ap (select (test_of c)) k₂.is))
      (changing (Select d) b₂.sign (select_some d k₂.from w v.0 (u.1 ∙ v.1))
      (changing (Select c) b.sign (select_some c k₂.from k₂.from (ap (test_fits c) (sym v.1) ∙ u.0) refl) k₂.written))
      (ap (λ us. before ++ (six₂ ++ (six ++ (us ++ [])))) k₂.parts ∙ simp (append_assoc, append-nil))
      put

  module _ {six₂ rest₂ : List ℕ} {x : Inner} (b₂ : Begun rest (Two Product) six₂ rest₂) (f : Ends ws rest₂ x) where
    pub not_within : test_fits c x.width ≡ false → Turns ws TestIntoLeft before at was was None
    not_within n xs q w after s e =
        let k = one_inside ws at six rest after (Select c) b s e in
        let k₂ = two_inside ws rest six₂ rest₂ after Product b₂ k.written k.parts in
        let l = f k₂.left_signs k₂.left k₂.left_width _ k₂.left_written k₂.parts in
        let no : within (width ws k₂.left) (test_of c) ≡ false = within_is_fits c (width ws k₂.left) ∙ ap (test_fits c) (written_width k₂.left_written ∙ sym l.width) ∙ n in
        not_turned ws TestIntoLeft before q w after was
        (ap (turned ws TestIntoLeft) (k.is ∙ ap (select (test_of c)) k₂.is) ∙ ap (λ t. pick t (Some (product (select (test_of c) k₂.left) k₂.right)) None) no)

    pub not_behind : behind x.width (test_of c) ≡ false → Turns ws TestIntoRight before at was was None
    not_behind n xs q w after s e =
        let k = one_inside ws at six rest after (Select c) b s e in
        let k₂ = two_inside ws rest six₂ rest₂ after Product b₂ k.written k.parts in
        let l = f k₂.left_signs k₂.left k₂.left_width _ k₂.left_written k₂.parts in
        let no : behind (width ws k₂.left) (test_of c) ≡ false = ap (λ v. behind v (test_of c)) (written_width k₂.left_written ∙ sym l.width) ∙ n in
        not_turned ws TestIntoRight before q w after was
        (ap (turned ws TestIntoRight) (k.is ∙ ap (select (test_of c)) k₂.is)
        ∙ ap (λ t. pick t (Some (product k₂.left (select (earlier (width ws k₂.left) (test_of c)) k₂.right))) None) no)

    pub test_into_left_made : (now : List ℕ) (r : Option ℕ) → test_fits c x.width ≡ true →
        Puts (before ++ (six₂ ++ (six ++ (rest₂ ++ [])))) was now r → Turns ws TestIntoLeft before at was now r
    test_into_left_made now r h put xs q w after s e =
        let k = one_inside ws at six rest after (Select c) b s e in
        let k₂ = two_inside ws rest six₂ rest₂ after Product b₂ k.written k.parts in
        let l = f k₂.left_signs k₂.left k₂.left_width _ k₂.left_written k₂.parts in
        let u = select_fits c k.from w k.fits in
        let v = product_fits k₂.left_width k₂.right_width k.from k₂.fits in
        let fits : test_fits c k₂.left_width ≡ true = ap (test_fits c) (sym l.width) ∙ h in
        let yes : within (width ws k₂.left) (test_of c) ≡ true =
        within_is_fits c (width ws k₂.left) ∙ ap (test_fits c) (written_width k₂.left_written) ∙ fits in
        made ws TestIntoLeft before q w after was now r (product (select (test_of c) k₂.left) k₂.right)
        (six₂ ++ ((six ++ k₂.left_signs) ++ k₂.right_signs))
        (before ++ (six₂ ++ (six ++ (rest₂ ++ []))))
        (ap (turned ws TestIntoLeft) (k.is ∙ ap (select (test_of c)) k₂.is)
        ∙ ap (λ t. pick t (Some (product (select (test_of c) k₂.left) k₂.right)) None) yes)
        (pairing Product b₂.sign (product_some k₂.left_width k₂.right_width w (u.1 ∙ v.1) (omega (arith, u.1, v.1, v.0)))
        (changing (Select c) b.sign (select_some c k₂.left_width k₂.left_width fits refl) k₂.left_written) k₂.right_written)
        (ap (λ us. before ++ (six₂ ++ (six ++ (us ++ [])))) k₂.parts ∙ simp (append_assoc, append-nil))
        put

    pub test_into_right_made : (now : List ℕ) (r : Option ℕ) {d : Test} {six₃ : List ℕ} → behind x.width (test_of c) ≡ true → test_of d ≡ earlier x.width (test_of c) →
        Sign six₃ (One (Select d)) → Puts (before ++ (six₂ ++ (x.signs.now ++ (six₃ ++ (x.rest.now ++ []))))) was now r →
        Turns ws TestIntoRight before at was now r
    test_into_right_made now r {d} {six₃} h i sign put xs q w after s e =
        let k = one_inside ws at six rest after (Select c) b s e in
        let k₂ = two_inside ws rest six₂ rest₂ after Product b₂ k.written k.parts in
        let l = f k₂.left_signs k₂.left k₂.left_width _ k₂.left_written k₂.parts in
        let u = select_fits c k.from w k.fits in
        let v = product_fits k₂.left_width k₂.right_width k.from k₂.fits in
        let wide : x.width ≡ width ws k₂.left = l.width ∙ sym (written_width k₂.left_written) in
        let yes : behind (width ws k₂.left) (test_of c) ≡ true = ap (λ v. behind v (test_of c)) (sym wide) ∙ h in
        let moved : test_of d ≡ earlier (width ws k₂.left) (test_of c) = i ∙ ap (λ v. earlier v (test_of c)) wide in
        let fits : test_fits d k₂.right_width ≡ true =
        behind_fits c d k₂.left_width k₂.right_width (ap (test_fits c) (sym v.1) ∙ u.0) (ap (λ v. behind v (test_of c)) (sym l.width) ∙ h)
        (i ∙ ap (λ v. earlier v (test_of c)) l.width) in
        made ws TestIntoRight before q w after was now r (product k₂.left (select (test_of d) k₂.right))
        (six₂ ++ (k₂.left_signs ++ (six₃ ++ k₂.right_signs)))
        (before ++ (six₂ ++ (x.signs.now ++ (six₃ ++ (x.rest.now ++ [])))))
        (ap (turned ws TestIntoRight) (k.is ∙ ap (select (test_of c)) k₂.is)
        ∙ ap (λ t. pick t (Some (product k₂.left (select (earlier (width ws k₂.left) (test_of c)) k₂.right))) None) yes
        ∙ ap (λ t. Some (product k₂.left (select t k₂.right))) (sym moved))
        (pairing Product b₂.sign (product_some k₂.left_width k₂.right_width w (u.1 ∙ v.1) (omega (arith, u.1, v.1, v.0)))
        k₂.left_written (changing (Select d) sign (select_some d k₂.right_width k₂.right_width fits refl) k₂.right_written))
        (rw (l.signs, l.rest) (simp (append_assoc, append-nil)))
        put

  pub test_into_union_made : (now : List ℕ) (r : Option ℕ) {six₂ rest₂ : List ℕ} {x : Inner} → Begun rest (Two Union) six₂ rest₂ → Ends ws rest₂ x →
      Puts (before ++ (six₂ ++ (six ++ (x.signs.now ++ (six ++ (x.rest.now ++ [])))))) was now r → Turns ws TestIntoUnion before at was now r
  test_into_union_made now r {six₂} {rest₂} {x} b₂ f put xs q w after s e =
      let k = one_inside ws at six rest after (Select c) b s e in
      let k₂ = two_inside ws rest six₂ rest₂ after Union b₂ k.written k.parts in
      let l = f k₂.left_signs k₂.left k₂.left_width _ k₂.left_written k₂.parts in
      let u = select_fits c k.from w k.fits in
      let v = union_fits k₂.left_width k₂.right_width k.from k₂.fits in
      let on_left : test_fits c k₂.left_width ≡ true = ap (test_fits c) (sym v.1) ∙ u.0 in
      let on_right : test_fits c k₂.right_width ≡ true = ap (test_fits c) (sym v.0) ∙ on_left in
      made ws TestIntoUnion before q w after was now r (union (select (test_of c) k₂.left) (select (test_of c) k₂.right))
      (six₂ ++ ((six ++ k₂.left_signs) ++ (six ++ k₂.right_signs)))
      (before ++ (six₂ ++ (six ++ (x.signs.now ++ (six ++ (x.rest.now ++ []))))))
      (ap (turned ws TestIntoUnion) (k.is ∙ ap (select (test_of c)) k₂.is))
      (pairing Union b₂.sign (union_some k₂.left_width k₂.right_width w v.0 (u.1 ∙ v.1))
      (changing (Select c) b.sign (select_some c k₂.left_width k₂.left_width on_left refl) k₂.left_written)
      (changing (Select c) b.sign (select_some c k₂.right_width k₂.right_width on_right refl) k₂.right_written))
      (rw (l.signs, l.rest) (simp (append_assoc, append-nil)))
      put
