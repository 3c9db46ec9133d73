-- What is read is what the query gives. Assumes nothing.
use Rattle.std.proofs.Common.{◌≡◌, ℕ, Bool, List, length, sym, refl, ◌∙◌, subst, arith}
use Rattle.query.specs.Semiring.{Lawful}
use Rattle.query.specs.Query.{worth}
use Rattle.circuit.specs.Store.{nodes_in}
use Rattle.circuit.specs.Held.{count_in}
use Rattle.provenance.proofs.Promised.{any_semiring}
use Rattle.semiring.specs.declared.errors.ReadError.{ReadError}
use Rattle.semiring.specs.declared.errors.ReadError.TheVariants.{NoMemory, BadNode, NoValue, Overflow}
use Rattle.semiring.specs.Algebra.{Algebra, semiring}
use Rattle.semiring.specs.Needed.{asked_for, named, MarksNeeded}
use Rattle.semiring.specs.Refusals.{Good, Complete, HasNoValue, Overflows, NotRead, given}
use Rattle.semiring.specs.Readings.{Reads, Agrees, AtRows, Worth}
use Rattle.semiring.specs.Parts.{Chosen, MarksValued, FirstPast, ToldPast, Evaluated, FirstLarge, NotEvaluated, Picked}
use Rattle.semiring.proofs.Valuing.{set_within}
use Rattle.semiring.proofs.NodeValues.{worth_same}

module _ {V : Type 0} (a : Algebra V) (law : Lawful (semiring a) a.lawful) (vs : List V) (m asked : List ℕ) (xs : List V)
    (reads : Reads a vs m asked xs) where
  agreeing : AtRows a vs m asked (λ ts q r x. (v : ℕ → V) → Agrees a vs m asked v → x ≡ worth (semiring a) v ts q r) xs
  agreeing ts q out answered r j h listed v agrees =
      let good = reads.complete.good in
      reads.each j h
      ∙ sym (worth_same a m asked good.sound v (given a vs) agrees.same _ (good.there j h) (asked_for j _ h refl))
      ∙ (any_semiring ts q (nodes_in m) out answered (semiring a) a.lawful law v agrees.lawful r).0 _ listed

  pub reads_worth : ((x : V) → a.lawful (a.taken x)) → Worth a vs m asked xs
  reads_worth admitted = record {
    as_given = λ ts q out answered r j h listed.
        agreeing ts q out answered r j h listed (given a vs) (record { lawful = λ k. admitted _; same = λ i k needed e. refl });
    agreeing = agreeing;
  }

-- zs are the flags bs, which say what is needed
module _ (m asked : List ℕ) (bs zs : List Bool) (e : zs ≡ bs) (good : Good m asked) (from : MarksNeeded (count_in m) (nodes_in m) asked bs) where
  marks : MarksNeeded (count_in m) (nodes_in m) asked zs
  marks = subst (MarksNeeded (count_in m) (nodes_in m) asked) (sym e) from

  pub needed_chosen : Chosen m zs
  needed_chosen = record {
    sound = good.sound;
    long = marks.long;
    closed = λ i k on t. marks.all k (named i k (marks.only i on) t);
  }

  past_no_value : (n k : ℕ) → FirstPast n m zs k → HasNoValue n m asked k
  past_no_value n k f = record {
    good = good;
    node = f.node;
    lacks = record { needed = marks.only f.node f.here.chosen; mark = f.here.mark; past = f.past };
    before = λ i l h lacks.
        let w = f.before i l h (record { chosen = marks.all i lacks.needed; mark = lacks.mark }) in
        let u = lacks.past in
        omega arith;
  }

  valued_complete : (n : ℕ) → MarksValued n m zs → Complete n m asked
  valued_complete n valued = record {
    good = good;
    valued = λ i k lacks.
        let w = valued i k (record { chosen = marks.all i lacks.needed; mark = lacks.mark }) in
        let u = lacks.past in
        omega arith;
  }

  pub past_not_read : {V : Type 0} (a : Algebra V) (vs : List V) (e : ReadError) → ToldPast (length vs) m zs e → NotRead a vs m asked e
  past_not_read a vs NoMemory h = absurd h
  past_not_read a vs (BadNode p) h = absurd h
  past_not_read a vs (NoValue k) h = past_no_value (length vs) k h
  past_not_read a vs (Overflow p) h = absurd h

  module _ {V : Type 0} (a : Algebra V) (vs : List V) (valued : MarksValued (length vs) m zs) where
    large_overflows : (p : ℕ) → FirstLarge a vs m zs p → Overflows a vs m asked p
    large_overflows p f = record {
      complete = valued_complete (length vs) valued;
      needed = marks.only p f.chosen;
      large = f.large;
      before = λ i h needed. f.before i h (marks.all i needed);
    }

    pub picked_reads : (ds done xs : List V) → done ≡ ds → Evaluated a vs m zs (count_in m) ds → Picked done asked xs → Reads a vs m asked xs
    picked_reads ds done xs same d from-done = let p = subst (λ (l : List V). Picked l asked xs) same from-done in record {
      complete = valued_complete (length vs) valued;
      fit = λ i needed.
          let on = marks.all i needed in
          let within = set_within zs i on in
          let long = marks.long in
          d.fit i (omega arith) on;
      long = p.long;
      each = λ j h. p.each j a.zero h ∙ d.each _ (good.there j h) (marks.all _ (asked_for j _ h refl));
    }

    pub not_read : (e : ReadError) → NotEvaluated a vs m zs e → NotRead a vs m asked e
    not_read NoMemory h = tt
    not_read (BadNode p) h = absurd h
    not_read (NoValue k) h = absurd h
    not_read (Overflow p) h = large_overflows p h
