-- What each step writes is what it makes. Assumes nothing.
use Rattle.std.proofs.Common.{◌≡◌, ℕ, ◌+◌, ◌*◌, List, ◌++◌, length, Some, None, Option, refl, ap, ◌∙◌, subst, append_assoc, arith}
use Rattle.std.proofs.lemmas.List.{length-append}
use Rattle.query.specs.Query as query
use Rattle.query.specs.Query.{Query}
use Rattle.query.specs.Operators.{operator_at}
use Rattle.query.specs.declared.operator.Change.TheVariants.{Select, Project}
use Rattle.query.specs.declared.operator.Pairing.TheVariants.{Product, Union}
use Rattle.query.proofs.Steps.{differ}
use Rattle.rewrite.specs.declared.Step.{Step}
use Rattle.rewrite.specs.Rewritten.{size, on_select, on_project, on_product, on_union, turned}
use Rattle.rewrite.specs.Written.{Written, scanned, changing, pairing, Selects, Projects, Pairs, Puts, Left, Turned, Turns}
use Rattle.rewrite.proofs.Forms.{operator_front, written_long}
use Rattle.rewrite.proofs.Fronts.{Cannot}

-- nothing is made of whatever query stands at the front of some signs
abbrev pub Unmade : List ℕ → List ℕ → (Query → Option Query) → Type 0
Unmade ws at make = (xs : List ℕ) (q : Query) (w : ℕ) (after : List ℕ) → Written ws xs q w → at ≡ xs ++ after → make q ≡ None

-- where the operator is of another form, so is the query
module _ {ws at : List ℕ} where
  pub no_test : Selects at None → (f : query.Test → Query → Option Query) → Unmade ws at (λ q. on_select q f)
  no_test n f _ _ _ after (scanned t s h) e = refl
  no_test n f _ _ _ after (changing (Project k cs) s g i) e = refl
  no_test n f _ _ _ after (pairing Product s g i k) e = refl
  no_test n f _ _ _ after (pairing Union s g i k) e = refl
  no_test n f _ _ _ after (changing {six = six} {xs = us} (Select c) s g i) e =
      absurd (n c (ap operator_at (e ∙ append_assoc six us after) ∙ operator_front six (us ++ after) s.long ∙ s.is))

  pub no_project : Projects at None → (f : List ℕ → Query → Option Query) → Unmade ws at (λ q. on_project q f)
  no_project n f _ _ _ after (scanned t s h) e = refl
  no_project n f _ _ _ after (changing (Select c) s g i) e = refl
  no_project n f _ _ _ after (pairing Product s g i k) e = refl
  no_project n f _ _ _ after (pairing Union s g i k) e = refl
  no_project n f _ _ _ after (changing {six = six} {xs = us} (Project k cs) s g i) e =
      absurd (n k cs (ap operator_at (e ∙ append_assoc six us after) ∙ operator_front six (us ++ after) s.long ∙ s.is))

  pub no_product : Pairs at Product None → (f : Query → Query → Option Query) → Unmade ws at (λ q. on_product q f)
  no_product n f _ _ _ after (scanned t s h) e = refl
  no_product n f _ _ _ after (changing (Select c) s g i) e = refl
  no_product n f _ _ _ after (changing (Project k cs) s g i) e = refl
  no_product n f _ _ _ after (pairing Union s g i k) e = refl
  no_product n f _ _ _ after (pairing {six = six} {xs = us} {ys = vs} Product s g i k) e =
      absurd (n (ap operator_at (e ∙ append_assoc six (us ++ vs) after) ∙ operator_front six ((us ++ vs) ++ after) s.long ∙ s.is))

  pub no_union : Pairs at Union None → (f : Query → Query → Option Query) → Unmade ws at (λ q. on_union q f)
  no_union n f _ _ _ after (scanned t s h) e = refl
  no_union n f _ _ _ after (changing (Select c) s g i) e = refl
  no_union n f _ _ _ after (changing (Project k cs) s g i) e = refl
  no_union n f _ _ _ after (pairing Product s g i k) e = refl
  no_union n f _ _ _ after (pairing {six = six} {xs = us} {ys = vs} Union s g i k) e =
      absurd (n (ap operator_at (e ∙ append_assoc six (us ++ vs) after) ∙ operator_front six ((us ++ vs) ++ after) s.long ∙ s.is))

module _ (ws : List ℕ) (s : Step) (before : List ℕ) (q : Query) (w : ℕ) (after : List ℕ) where
  -- nothing is written where the step makes nothing
  pub not_turned : (was : List ℕ) → turned ws s q ≡ None → Left ws s before q after was was
  not_turned was n = record { kept = refl; none = λ new e _. differ cc }

  -- what is written is what the step makes
  pub made : (was now : List ℕ) (r : Option ℕ) (new : Query) (signs parts : List ℕ) → turned ws s q ≡ Some new → Written ws signs new w →
      parts ≡ before ++ (signs ++ after) → Puts parts was now r → Turned ws s before q w after was now r
  made was now (Some n) new signs parts e t p put =
      record { new = new; made = e; signs = signs; written = t; put = subst (λ us. Puts us was now (Some n)) p put }
  made was now None new signs parts e t p put =
      record {
        kept = put.1;
        none = λ other f fits.
            let same : other ≡ new = cc in
            let long : length parts ≡ length before + (6 * size other + length after) =
            rw same (ap length p ∙ length-append before (signs ++ after) ∙ omega (arith, length-append signs after, written_long t)) in
            put.0 (rw long fits);
      }

-- where no query stands, none is turned
pub not_there : {ws before at was : List ℕ} {s : Step} → Cannot ws at → Turns ws s before at was was None
not_there n xs q w after t e = absurd (n xs q w after t e)

-- where it makes nothing of whatever query stands there, nothing is written
pub unturned : {ws before at was : List ℕ} {s : Step} → Unmade ws at (turned ws s) → Turns ws s before at was was None
unturned f xs q w after t e = not_turned _ _ _ q w after _ (f xs q w after t e)
