-- What reading shows of the query at the front of some signs. Assumes nothing.
use Rattle.std.proofs.Common.{◌≡◌, ℕ, ◌-◌, List, ◌++◌, length, take, Some, None, Ok, Err, Result, sym, ap, ◌∙◌, subst, arith}
use Rattle.std.specs.Result.{result_ok}
use Rattle.std.proofs.lemmas.List.{length-append, take_at}
use Rattle.query.specs.Query.{Query}
use Rattle.query.specs.Parse.{parsed, reads}
use Rattle.query.specs.Agree.{Reads}
use Rattle.query.specs.declared.syntax.Faulty.{Faulty}
use Rattle.query.specs.declared.syntax.Reading.{Reading}
use Rattle.query.proofs.Steps.{differ}
use Rattle.query.proofs.Inverse.{no_fault}
use Rattle.query.proofs.Shown.{StandsIn}
use Rattle.rewrite.specs.Written.{Written, Fronts}
use Rattle.rewrite.proofs.Forms.{stands_there, reads_there}

-- no query stands at the front of some signs
abbrev pub Cannot : List ℕ → List ℕ → Type 0
Cannot ws at = Fronts ws at (λ ys w after. ⊥)

-- what is there was told
pub ok_was : {T E : Type 0} (r : Result T E) (x : T) → result_ok r ≡ Some x → r ≡ Ok x
ok_was (Ok y) x e = let same : y ≡ x = cc in ap Ok same
ok_was (Err f) x e = absurd (differ cc)

module _ (n : ℕ) (ws xs : List ℕ) where
  -- with fuel that is enough, what is written in front is read
  read_there : {ys : List ℕ} {q : Query} {w : ℕ} (after : List ℕ) → Written ws ys q w → xs ≡ ys ++ after → reads (length xs) n ws xs ≡ parsed q w after
  read_there {ys} {q} {w} after s e =
      reads_there (subst (λ us. StandsIn ws us q w after) (sym e) (stands_there after s)) (length xs) n (omega arith)

  -- so where nothing is read nothing is written, and else it is what was read
  pub not_read : (r : Result Reading Faulty) → result_ok r ≡ None → Reads n ws xs r → Cannot ws xs
  not_read (Ok x) e a = absurd (differ cc)
  not_read (Err f) e a = λ ys q w after s g. no_fault _ q w after (sym (a (length xs) (omega arith)) ∙ read_there after s g)

  pub front_read : (x : Reading) → Reads n ws xs (Ok x) → Fronts ws xs (λ ys w after. (x.width ≡ w) × (x.rest.now ≡ after))
  front_read x a ys q w after s g =
      let b = a (length xs) (omega arith) in
      let k : parsed b.0 x.width x.rest.now ≡ parsed q w after = sym b.1 ∙ read_there after s g in
      (cc, cc)

-- its own signs are those before what is left
pub front_taken : (at xs after rest : List ℕ) → at ≡ xs ++ after → rest ≡ after → take (length at - length rest) at ≡ xs
front_taken at xs after rest e f =
    let n : length xs ≡ length at - length rest = omega (arith, ap length e, length-append xs after, ap length f) in
    ap (take (length at - length rest)) e ∙ take_at xs after (length at - length rest) n
