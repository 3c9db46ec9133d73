-- What the steps on products and unions write. Assumes nothing.
use Rattle.std.proofs.Common.{◌≡◌, ℕ, ◌+◌, ◌≤◌, List, [], ◌++◌, Some, None, Option, sym, refl, ap, ◌∙◌, append_assoc, arith, eq-eqb, le-leb}
use Rattle.std.proofs.lemmas.List.{append-nil}
use Rattle.query.specs.Query.{Query, product, union}
use Rattle.query.specs.Operators.{pair_width, paired}
use Rattle.query.specs.declared.operator.Operator.TheVariants.{Two}
use Rattle.query.specs.declared.operator.Pairing.{Pairing}
use Rattle.query.specs.declared.operator.Pairing.TheVariants.{Product, Union}
use Rattle.query.proofs.Steps.{product_fits, union_fits}
use Rattle.rewrite.specs.declared.Step.{Step}
use Rattle.rewrite.specs.declared.Step.TheVariants.{UnionOutOfLeft, UnionOutOfRight, RegroupLeft, RegroupRight, SwapUnion}
use Rattle.rewrite.specs.declared.signs.Inner.{Inner}
use Rattle.rewrite.specs.Rewritten.{turned}
use Rattle.rewrite.specs.Written.{pairing, Begun, Takes, Puts, Turns}
use Rattle.rewrite.proofs.Forms.{two_inside}
use Rattle.rewrite.proofs.Fronts.{Cannot}
use Rattle.rewrite.proofs.Turning.{Unmade, not_turned, made}

pub product_some : (a b w : ℕ) → w ≡ a + b → w ≤ 8 → Some w ≡ pair_width Product a b
product_some a b w e h = let k : a + b ≤ 8 = omega arith in rw (le-leb (a + b) 8 k) (ap Some e)

pub union_some : (a b w : ℕ) → a ≡ b → w ≡ a → Some w ≡ pair_width Union a b
union_some a b w e f = rw (eq-eqb a b e) (ap Some f)

-- the query at the front of xs was taken off
abbrev pub Ends : List ℕ → List ℕ → Inner → Type 0
Ends ws xs x = Takes ws xs (Some x)

-- the queries that a product or a union needs are there
module _ {ws at six rest : List ℕ} {j : Pairing} (b : Begun at (Two j) six rest) where
  pub left_there : Cannot ws rest → Cannot ws at
  left_there n xs q w after s e =
      let k = two_inside ws at six rest after j b s e in n k.left_signs k.left k.left_width _ k.left_written k.parts

  pub right_there : {x : Inner} → Ends ws rest x → Cannot ws x.rest.now → Cannot ws at
  right_there f n xs q w after s e =
      let k = two_inside ws at six rest after j b s e in
      let l = f k.left_signs k.left k.left_width _ k.left_written k.parts in
      n k.right_signs k.right k.right_width after k.right_written l.rest

  -- and so are those that a product or a union on its left needs
  pub third_there : {i : Pairing} {six₂ rest₂ : List ℕ} {x y : Inner} → Begun rest (Two i) six₂ rest₂ → Ends ws rest₂ x → Ends ws x.rest.now y →
      Cannot ws y.rest.now → Cannot ws at
  third_there {i} {six₂} {rest₂} b₂ f g n xs q w after s e =
      let k = two_inside ws at six rest after j b s e in
      let k₂ = two_inside ws rest six₂ rest₂ (k.right_signs ++ after) i b₂ k.left_written k.parts in
      let l = f k₂.left_signs k₂.left k₂.left_width _ k₂.left_written k₂.parts in
      let m = g k₂.right_signs k₂.right k₂.right_width _ k₂.right_written l.rest in
      n k.right_signs k.right k.right_width after k.right_written m.rest

-- where a step makes nothing of any query with what stands on one side, it makes nothing of the whole
module _ {ws before at was six rest : List ℕ} {s : Step} {j : Pairing} (b : Begun at (Two j) six rest) where
  pub left_unturned : ((r : Query) → Unmade ws rest (λ l. turned ws s (paired j l r))) → Turns ws s before at was was None
  left_unturned f xs q w after t e =
      let k = two_inside ws at six rest after j b t e in
      not_turned ws s before q w after was (ap (turned ws s) k.is ∙ f k.right k.left_signs k.left k.left_width _ k.left_written k.parts)

  pub right_unturned : {x : Inner} → Ends ws rest x → ((l : Query) → Unmade ws x.rest.now (λ r. turned ws s (paired j l r))) →
      Turns ws s before at was was None
  right_unturned g f xs q w after t e =
      let k = two_inside ws at six rest after j b t e in
      let l = g k.left_signs k.left k.left_width _ k.left_written k.parts in
      not_turned ws s before q w after was (ap (turned ws s) k.is ∙ f k.left k.right_signs k.right k.right_width after k.right_written l.rest)

module _ {ws : List ℕ} (before : List ℕ) {at : List ℕ} (was : List ℕ) where
  pub swap_union_made : (now : List ℕ) (r : Option ℕ) {six rest : List ℕ} {x y : Inner} → Begun at (Two Union) six rest → Ends ws rest x → Ends ws x.rest.now y →
      Puts (before ++ (six ++ (y.signs.now ++ (x.signs.now ++ (y.rest.now ++ []))))) was now r → Turns ws SwapUnion before at was now r
  swap_union_made now r {six} {rest} {x} {y} b f g put xs q w after s e =
      let k = two_inside ws at six rest after Union b s e in
      let l = f k.left_signs k.left k.left_width _ k.left_written k.parts in
      let m = g k.right_signs k.right k.right_width after k.right_written l.rest in
      let u = union_fits k.left_width k.right_width w k.fits in
      made ws SwapUnion before q w after was now r (union k.right k.left) (six ++ (k.right_signs ++ k.left_signs))
      (before ++ (six ++ (y.signs.now ++ (x.signs.now ++ (y.rest.now ++ [])))))
      (ap (turned ws SwapUnion) k.is)
      (pairing Union b.sign (union_some k.right_width k.left_width w (sym u.0) (u.1 ∙ u.0)) k.right_written k.left_written)
      (rw (m.signs, l.signs, m.rest) (simp (append_assoc, append-nil)))
      put

  -- a product with a product on its right
  module _ {six rest : List ℕ} {x : Inner} (b : Begun at (Two Product) six rest) (f : Ends ws rest x) where
    module _ (now : List ℕ) (r : Option ℕ) {six₂ rest₂ : List ℕ} where
      pub regroup_left_made : Begun x.rest.now (Two Product) six₂ rest₂ →
          Puts (before ++ (six ++ (six₂ ++ (x.signs.now ++ (rest₂ ++ []))))) was now r → Turns ws RegroupLeft before at was now r
      regroup_left_made b₂ put xs q w after s e =
          let k = two_inside ws at six rest after Product b s e in
          let l = f k.left_signs k.left k.left_width _ k.left_written k.parts in
          let k₂ = two_inside ws x.rest.now six₂ rest₂ after Product b₂ k.right_written l.rest in
          let u = product_fits k.left_width k.right_width w k.fits in
          let v = product_fits k₂.left_width k₂.right_width k.right_width k₂.fits in
          let a = k.left_width + k₂.left_width in
          made ws RegroupLeft before q w after was now r (product (product k.left k₂.left) k₂.right)
          (six ++ ((six₂ ++ (k.left_signs ++ k₂.left_signs)) ++ k₂.right_signs))
          (before ++ (six ++ (six₂ ++ (x.signs.now ++ (rest₂ ++ [])))))
          (ap (turned ws RegroupLeft) (k.is ∙ ap (product k.left) k₂.is))
          (pairing Product b.sign (product_some a k₂.right_width w (omega (arith, u.1, v.1)) (omega (arith, u.0, u.1)))
          (pairing Product b₂.sign (product_some k.left_width k₂.left_width a refl (omega (arith, u.0, v.1))) k.left_written k₂.left_written)
          k₂.right_written)
          (ap (λ us. before ++ (six ++ (six₂ ++ (x.signs.now ++ (us ++ []))))) k₂.parts ∙ rw l.signs (simp (append_assoc, append-nil)))
          put

      pub union_out_of_right_made : {y : Inner} → Begun x.rest.now (Two Union) six₂ rest₂ → Ends ws rest₂ y →
          Puts (before ++ (six₂ ++ (six ++ (x.signs.now ++ (y.signs.now ++ (six ++ (x.signs.now ++ (y.rest.now ++ [])))))))) was now r →
          Turns ws UnionOutOfRight before at was now r
      union_out_of_right_made {y} b₂ g put xs q w after s e =
          let k = two_inside ws at six rest after Product b s e in
          let l = f k.left_signs k.left k.left_width _ k.left_written k.parts in
          let k₂ = two_inside ws x.rest.now six₂ rest₂ after Union b₂ k.right_written l.rest in
          let m = g k₂.left_signs k₂.left k₂.left_width _ k₂.left_written k₂.parts in
          let u = product_fits k.left_width k.right_width w k.fits in
          let v = union_fits k₂.left_width k₂.right_width k.right_width k₂.fits in
          made ws UnionOutOfRight before q w after was now r (union (product k.left k₂.left) (product k.left k₂.right))
          (six₂ ++ ((six ++ (k.left_signs ++ k₂.left_signs)) ++ (six ++ (k.left_signs ++ k₂.right_signs))))
          (before ++ (six₂ ++ (six ++ (x.signs.now ++ (y.signs.now ++ (six ++ (x.signs.now ++ (y.rest.now ++ []))))))))
          (ap (turned ws UnionOutOfRight) (k.is ∙ ap (product k.left) k₂.is))
          (pairing Union b₂.sign (union_some w w w refl refl)
          (pairing Product b.sign (product_some k.left_width k₂.left_width w (omega (arith, u.1, v.1)) (omega (arith, u.0, u.1)))
          k.left_written k₂.left_written)
          (pairing Product b.sign (product_some k.left_width k₂.right_width w (omega (arith, u.1, v.1, v.0)) (omega (arith, u.0, u.1)))
          k.left_written k₂.right_written))
          (rw (l.signs, m.signs, m.rest) (simp (append_assoc, append-nil)))
          put

  -- a product with a product, or a union, on its left
  module _ {six rest : List ℕ} (b : Begun at (Two Product) six rest) where
    pub regroup_right_made : (now : List ℕ) (r : Option ℕ) {six₂ rest₂ : List ℕ} {x : Inner} → Begun rest (Two Product) six₂ rest₂ → Ends ws rest₂ x →
        Puts (before ++ (six ++ (x.signs.now ++ (six₂ ++ (x.rest.now ++ []))))) was now r → Turns ws RegroupRight before at was now r
    regroup_right_made now r {six₂} {rest₂} {x} b₂ f put xs q w after s e =
        let k = two_inside ws at six rest after Product b s e in
        let k₂ = two_inside ws rest six₂ rest₂ (k.right_signs ++ after) Product b₂ k.left_written k.parts in
        let l = f k₂.left_signs k₂.left k₂.left_width _ k₂.left_written k₂.parts in
        let u = product_fits k.left_width k.right_width w k.fits in
        let v = product_fits k₂.left_width k₂.right_width k.left_width k₂.fits in
        let a = k₂.right_width + k.right_width in
        made ws RegroupRight before q w after was now r (product k₂.left (product k₂.right k.right))
        (six ++ (k₂.left_signs ++ (six₂ ++ (k₂.right_signs ++ k.right_signs))))
        (before ++ (six ++ (x.signs.now ++ (six₂ ++ (x.rest.now ++ [])))))
        (ap (turned ws RegroupRight) (k.is ∙ ap (λ l. product l k.right) k₂.is))
        (pairing Product b.sign (product_some k₂.left_width a w (omega (arith, u.1, v.1)) (omega (arith, u.0, u.1))) k₂.left_written
        (pairing Product b₂.sign (product_some k₂.right_width k.right_width a refl (omega (arith, u.0, v.1))) k₂.right_written k.right_written))
        (rw (l.signs, l.rest) (simp (append_assoc, append-nil)))
        put

    pub union_out_of_left_made : (now : List ℕ) (r : Option ℕ) {six₂ rest₂ : List ℕ} {x y z : Inner} → Begun rest (Two Union) six₂ rest₂ →
        Ends ws rest₂ x → Ends ws x.rest.now y → Ends ws y.rest.now z →
        Puts (before ++ (six₂ ++ (six ++ (x.signs.now ++ (z.signs.now ++ (six ++ (y.signs.now ++ (y.rest.now ++ [])))))))) was now r →
        Turns ws UnionOutOfLeft before at was now r
    union_out_of_left_made now r {six₂} {rest₂} {x} {y} {z} b₂ f g h put xs q w after s e =
        let k = two_inside ws at six rest after Product b s e in
        let k₂ = two_inside ws rest six₂ rest₂ (k.right_signs ++ after) Union b₂ k.left_written k.parts in
        let l = f k₂.left_signs k₂.left k₂.left_width _ k₂.left_written k₂.parts in
        let m = g k₂.right_signs k₂.right k₂.right_width _ k₂.right_written l.rest in
        let n = h k.right_signs k.right k.right_width after k.right_written m.rest in
        let u = product_fits k.left_width k.right_width w k.fits in
        let v = union_fits k₂.left_width k₂.right_width k.left_width k₂.fits in
        made ws UnionOutOfLeft before q w after was now r (union (product k₂.left k.right) (product k₂.right k.right))
        (six₂ ++ ((six ++ (k₂.left_signs ++ k.right_signs)) ++ (six ++ (k₂.right_signs ++ k.right_signs))))
        (before ++ (six₂ ++ (six ++ (x.signs.now ++ (z.signs.now ++ (six ++ (y.signs.now ++ (y.rest.now ++ []))))))))
        (ap (turned ws UnionOutOfLeft) (k.is ∙ ap (λ l. product l k.right) k₂.is))
        (pairing Union b₂.sign (union_some w w w refl refl)
        (pairing Product b.sign (product_some k₂.left_width k.right_width w (omega (arith, u.1, v.1)) (omega (arith, u.0, u.1)))
        k₂.left_written k.right_written)
        (pairing Product b.sign (product_some k₂.right_width k.right_width w (omega (arith, u.1, v.1, v.0)) (omega (arith, u.0, u.1)))
        k₂.right_written k.right_written))
        (rw (l.signs, n.signs, m.signs, m.rest) (simp (append_assoc, append-nil)))
        put
