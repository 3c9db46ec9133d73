-- What is read in counts, levels, prices and sets means what the theory promises of them. Assumes nothing.
use Rattle.std.proofs.Common.{◌≡◌, ℕ, ◌^◌, ◌<◌, ◌≤◌, eqb, ltb, List, get_or, Some, None, sym, refl, ◌∙◌, subst, mod-eq_of_lt, arith}
use Rattle.std.proofs.lemmas.Bool.Decides.{nat_tests}
use Rattle.tables.specs.Tables.{Row}
use Rattle.query.specs.Semiring.{Cost, Count, Level, Price, Sets, bit}
use Rattle.query.specs.Query.{Query}
use Rattle.circuit.specs.Expr.{value, provenance}
use Rattle.provenance.specs.Polynomial.{normal}
use Rattle.provenance.specs.Without.{ExactlyWithout, own_bit, others}
use Rattle.provenance.proofs.ValueWorth.{value_worth}
use Rattle.provenance.proofs.TakenOut.{taken_out}
use Rattle.provenance.proofs.Exactly.{at_level, in_each_case}
use Rattle.provenance.proofs.OneSuffices.{one_suffices}
use Rattle.provenance.proofs.LeastPrice.{least_price}
use Rattle.semiring.specs.Algebra.{count_algebra, level_algebra, price_algebra, set_algebra}
use Rattle.semiring.specs.Readings.{Worth}
use Rattle.semiring.specs.Meanings.{CountsMean, LevelsMean, LeastOf, PricesMean, SetsMean}

pub counts_mean : (vs m asked xs : List ℕ) → Worth count_algebra vs m asked xs → CountsMean vs m asked xs
counts_mean vs m asked xs worth = record {
  given_agree = record { lawful = λ k. tt; same = λ i k h e. refl };
  worth_read = worth.agreeing;
  taken_out = λ ts q out answered r j h listed gone agrees.
      worth.agreeing ts q out answered r j h listed _ agrees ∙ sym (value_worth Count _ ts q r) ∙ sym (taken_out ts q gone r);
}

pub levels_mean : (top : ℕ) (vs m asked xs : List ℕ) → Worth (level_algebra top) vs m asked xs → LevelsMean top vs m asked xs
levels_mean top vs m asked xs worth = record {
  given_agree = record { lawful = λ k. grind (arith, nat_tests); same = λ i k h e. refl };
  worth_read = worth.agreeing;
  exactly_if = λ ts q out answered r j h listed v agrees l pos.
      subst (λ (x : ℕ). ExactlyWithout (l ≤ x) (λ k. ltb (v k) l) ts q r)
      (value_worth (Level top) v ts q r ∙ sym (worth.agreeing ts q out answered r j h listed v agrees))
      (at_level ts q top l v r pos);
}

least_of : (ts : List (List Row)) (q : Query) (v : ℕ → Cost) (r : Row) (c : Cost) → value Price v (provenance ts q r) ≡ c →
    LeastOf v (normal (provenance ts q r)) c
least_of ts q v r None e = (least_price ts q v r).1 e
least_of ts q v r (Some n) e = (least_price ts q v r).0 n e

pub prices_mean : (vs : List Cost) (m asked : List ℕ) (xs : List Cost) → Worth price_algebra vs m asked xs → PricesMean vs m asked xs
prices_mean vs m asked xs worth = record {
  given_agree = record { lawful = λ k. tt; same = λ i k h e. refl };
  worth_read = worth.agreeing;
  least = λ ts q out answered r j h listed v agrees.
      least_of ts q v r _ (value_worth Price v ts q r ∙ sym (worth.agreeing ts q out answered r j h listed v agrees));
}

pub sets_mean : (vs m asked xs : List ℕ) → ((k : ℕ) → get_or vs k 0 < 2 ^ 64) → Worth set_algebra vs m asked xs → SetsMean vs m asked xs
sets_mean vs m asked xs small worth = record {
  given_agree = record { lawful = small; same = λ i k h e. sym (mod-eq_of_lt (small k)) };
  worth_read = worth.agreeing;
  exactly_if = λ ts q out answered r j h listed v agrees i.
      subst (λ (x : ℕ). ExactlyWithout (bit x i ≡ 1) (λ k. eqb (bit (v k) i) 0) ts q r)
      (value_worth Sets v ts q r ∙ sym (worth.agreeing ts q out answered r j h listed v agrees))
      (in_each_case ts q v r i);
  one_suffices = λ ts q out answered r j h listed names few apart agrees i within.
      subst (λ (x : ℕ). ExactlyWithout (bit x i ≡ 1) (others names i) ts q r)
      (value_worth Sets (own_bit 0 names) ts q r ∙ sym (worth.agreeing ts q out answered r j h listed (own_bit 0 names) agrees))
      (one_suffices ts q names r i few apart within);
}
