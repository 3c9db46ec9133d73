use Rattle.std.proofs.Common.{◌≡◌, List, true, sym, subst}
use Rattle.provenance.specs.Polynomial.{Monomial}
use Rattle.polynomial.specs.Rise.{proper}
use Rattle.polynomial.proofs.CopiedWays.{copied_ways}
use Rattle.polynomial.proofs.copies.PolynomialClone.clone.Goals as goal

pub invariant_of-result : goal.invariant_of-result
invariant_of-result c = record {
  ok = subst (λ (z : List Monomial). proper z ≡ true) (sym (copied_ways _ _ c.in_ok-ways.ensures.cases.0)) c.args.self.now.ok;
}

pub returns : goal.returns
returns c = record { cases = copied_ways _ _ c.in_ok-ways.ensures.cases.0 }
