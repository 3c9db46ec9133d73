-- What a query counts depends on what each row of the queries inside it counts, and on nothing else of them. Assumes nothing.
use Rattle.std.proofs.Common.{◌≡◌, ℕ, zero, suc, ◌+◌, ◌*◌, ◌≤◌, Bool, true, false, List, [], ◌∷◌, ◌++◌, length, sym, refl, ap, ◌∙◌, ap₂, mul_comm, one-mul, mul-zero, zero-add, zero-mul, mul-add, arith}
use Rattle.tables.specs.Bool.{pick}
use Rattle.tables.specs.Tables.{Row, same_row}
use Rattle.tables.proofs.RowOrder.{same_true, same_decides}
use Rattle.query.specs.Semiring.{Count}
use Rattle.query.specs.Query.{Test, Query, Annotated, passes, cells, selected, projected, beside, paired, run, total}
use Rattle.query.proofs.Related.{Noted}
use Rattle.query.proofs.Answers.{total_append}
use Rattle.provenance.specs.Rewriting.{Replaced, here, unchanged, in_select, in_project, in_product, in_union}

-- the rows counted with a weight for each
weighed : (Row → ℕ) → Noted ℕ → ℕ
weighed g [] = 0
weighed g (x ∷ xs) = g x.row * x.note + weighed g xs

-- the rows other than s
other_than : Row → Noted ℕ → Noted ℕ
other_than s [] = []
other_than s (x ∷ xs) = pick (same_row s x.row) (other_than s xs) (x ∷ other_than s xs)

abbrev pub SameTotal : Noted ℕ → Noted ℕ → Type 0
SameTotal xs ys = (r : Row) → total Count r xs ≡ total Count r ys

module _ (s : Row) where
  length_other : (xs : Noted ℕ) → length (other_than s xs) ≤ length xs
  unfolding other_than
  length_other [] = omega arith
  length_other (x ∷ xs) = let h = length_other xs in grind arith

  total_other : (r : Row) (xs : Noted ℕ) → total Count r (other_than s xs) ≡ pick (same_row r s) 0 (total Count r xs)
  unfolding other_than total
  total_other r [] = grind arith
  total_other r (x ∷ xs) = go (same_row s x.row) refl (total_other r xs)
    where
      go : (b : Bool) → same_row s x.row ≡ b → total Count r (other_than s xs) ≡ pick (same_row r s) 0 (total Count r xs) →
          total Count r (pick b (other_than s xs) (x ∷ other_than s xs)) ≡ pick (same_row r s) 0 (total Count r (x ∷ xs))
      go true e more = rw (← same_true s x.row e) (more ∙ grind arith)
      go false e more =
          let apart : same_row r s ≡ true → same_row r x.row ≡ false = λ h. rw (same_true r s h) e in
          grind arith

  weighed_other : (g : Row → ℕ) (xs : Noted ℕ) → weighed g xs ≡ g s * total Count s xs + weighed g (other_than s xs)
  unfolding weighed other_than total
  weighed_other g [] = omega (arith, mul-zero (g s))
  weighed_other g (x ∷ xs) = go (same_row s x.row) refl (weighed_other g xs)
    where
      go : (b : Bool) → same_row s x.row ≡ b → weighed g xs ≡ g s * total Count s xs + weighed g (other_than s xs) →
          weighed g (x ∷ xs) ≡ g s * pick b (x.note + total Count s xs) (total Count s xs) + weighed g (pick b (other_than s xs) (x ∷ other_than s xs))
      go true e more = rw (← same_true s x.row e) (omega (arith, mul-add (g s) x.note (total Count s xs)))
      go false e more = omega arith

-- rows that have the same totals are weighed alike: take away the rows equal to the first, from both
module _ (g : Row → ℕ) where
  weighed_step : (s : Row) (xs ys : Noted ℕ) → SameTotal xs ys →
      weighed g (other_than s xs) ≡ weighed g (other_than s ys) → weighed g xs ≡ weighed g ys
  weighed_step s xs ys same e = weighed_other s g xs ∙ ap₂ (λ n m. g s * n + m) (same s) e ∙ sym (weighed_other s g ys)

  other_same : (s : Row) (xs ys : Noted ℕ) → SameTotal xs ys → SameTotal (other_than s xs) (other_than s ys)
  other_same s xs ys same r = total_other s r xs ∙ ap (pick (same_row r s) 0) (same r) ∙ sym (total_other s r ys)

  length_less : (x : Annotated ℕ) (xs : Noted ℕ) → length (other_than x.row (x ∷ xs)) ≤ length xs
  unfolding other_than
  length_less x xs = rw ((same_decides x.row x.row).1 refl) (length_other x.row xs)

  weighed_fuel : (n : ℕ) (xs ys : Noted ℕ) → length xs + length ys ≤ n → SameTotal xs ys → weighed g xs ≡ weighed g ys
  weighed_fuel n [] [] h same = refl
  weighed_fuel zero [] (y ∷ ys) h same = absurd (omega arith)
  weighed_fuel zero (x ∷ xs) ys h same = absurd (omega arith)
  weighed_fuel (suc n) [] (y ∷ ys) h same =
      let s = y.row in
      weighed_step s [] (y ∷ ys) same
      (weighed_fuel n (other_than s []) (other_than s (y ∷ ys)) (omega (arith, length_other s [], length_less y ys)) (other_same s [] (y ∷ ys) same))
  weighed_fuel (suc n) (x ∷ xs) ys h same =
      let s = x.row in
      weighed_step s (x ∷ xs) ys same
      (weighed_fuel n (other_than s (x ∷ xs)) (other_than s ys) (omega (arith, length_less x xs, length_other s ys)) (other_same s (x ∷ xs) ys same))

  weighed_same : (xs ys : Noted ℕ) → SameTotal xs ys → weighed g xs ≡ weighed g ys
  weighed_same xs ys same = weighed_fuel (length xs + length ys) xs ys (omega arith) same

module _ (r : Row) where
  selected_weighed : (c : Test) (xs : Noted ℕ) → total Count r (selected c xs) ≡ weighed (λ s. pick (passes c s) (pick (same_row r s) 1 0) 0) xs
  unfolding selected total weighed
  selected_weighed c [] = refl
  selected_weighed c (x ∷ xs) = let e = selected_weighed c xs in grind arith

  projected_weighed : (cs : List ℕ) (xs : Noted ℕ) → total Count r (projected cs xs) ≡ weighed (λ s. pick (same_row r (cells cs s)) 1 0) xs
  unfolding projected total weighed
  projected_weighed cs [] = refl
  projected_weighed cs (x ∷ xs) = let e = projected_weighed cs xs in grind arith

  -- a row beside others counts its number times the others that make up r with it
  beside_weighed : (x : Annotated ℕ) (ys : Noted ℕ) → total Count r (beside Count x ys) ≡ x.note * weighed (λ t. pick (same_row r (x.row ++ t)) 1 0) ys
  unfolding beside total weighed
  beside_weighed x [] = sym (mul-zero x.note)
  beside_weighed x (y ∷ ys) = go (same_row r (x.row ++ y.row)) _ (beside_weighed x ys)
    where
      go : (b : Bool) (n : ℕ) {t : ℕ} → t ≡ x.note * n → pick b (x.note * y.note + t) t ≡ x.note * (pick b 1 0 * y.note + n)
      go true n e = rw (one-mul, mul-add, e)
      go false n e = rw (zero-mul, zero-add) e

  paired_weighed : (xs ys : Noted ℕ) → total Count r (paired Count xs ys) ≡ weighed (λ s. weighed (λ t. pick (same_row r (s ++ t)) 1 0) ys) xs
  unfolding paired total weighed
  paired_weighed [] ys = refl
  paired_weighed (x ∷ xs) ys =
      total_append r (beside Count x ys) (paired Count xs ys) ∙ ap₂ ◌+◌ (beside_weighed x ys ∙ mul_comm _ _) (paired_weighed xs ys)

  paired_right : (xs ys zs : Noted ℕ) → SameTotal ys zs → total Count r (paired Count xs ys) ≡ total Count r (paired Count xs zs)
  unfolding paired
  paired_right [] ys zs same = refl
  paired_right (x ∷ xs) ys zs same =
      total_append r (beside Count x ys) (paired Count xs ys)
      ∙ ap₂ ◌+◌ (beside_weighed x ys ∙ ap (λ n. x.note * n) (weighed_same _ ys zs same) ∙ sym (beside_weighed x zs)) (paired_right xs ys zs same)
      ∙ sym (total_append r (beside Count x zs) (paired Count xs zs))

-- so what counts alike may be put in place of one another, anywhere in a query
module _ (ts : List (List Row)) (v : ℕ → ℕ) (p p' : Query) (same : SameTotal (run Count v ts p) (run Count v ts p')) where
  pub inside_total : {q q' : Query} → Replaced p p' q q' → SameTotal (run Count v ts q) (run Count v ts q')
  unfolding run
  inside_total here r = same r
  inside_total unchanged r = refl
  inside_total (in_select c h) r = selected_weighed r c _ ∙ weighed_same _ _ _ (inside_total h) ∙ sym (selected_weighed r c _)
  inside_total (in_project cs h) r = projected_weighed r cs _ ∙ weighed_same _ _ _ (inside_total h) ∙ sym (projected_weighed r cs _)
  inside_total (in_product a b) r =
      paired_weighed r _ _ ∙ weighed_same _ _ _ (inside_total a) ∙ sym (paired_weighed r _ _) ∙ paired_right r _ _ _ (inside_total b)
  inside_total (in_union a b) r = total_append r _ _ ∙ ap₂ ◌+◌ (inside_total a r) (inside_total b r) ∙ sym (total_append r _ _)
