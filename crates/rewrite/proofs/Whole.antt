-- From a step at a query inside to the whole query in memory. Assumes nothing.
use Rattle.std.proofs.Common.{◌≡◌, ℕ, ◌+◌, ◌*◌, ◌/◌, ◌%◌, ◌<◌, ◌≤◌, List, [], ◌++◌, length, take, drop, Some, None, Option, sym, refl, ap, ◌∙◌, subst, arith, eq-eqb, le-leb}
use Rattle.std.proofs.lemmas.List.{append-nil, length-append, take_at, drop_at}
use Rattle.tables.specs.Tables.{Row, fit, fits, widths_in}
use Rattle.query.specs.Query.{Query}
use Rattle.query.specs.Parse.{parsed, reads, parse}
use Rattle.query.proofs.Steps.{differ}
use Rattle.query.proofs.Inverse.{parse_inverse}
use Rattle.query.proofs.Shown.{stands_in}
use Rattle.query.proofs.Fitting.{fit_wide}
use Rattle.provenance.proofs.Rewrites.{rewriting}
use Rattle.rewrite.specs.declared.Step.{Step}
use Rattle.rewrite.specs.Rewritten.{size, put_at, put_back, turned, rewritten}
use Rattle.rewrite.specs.Written.{Written, Fits, Made, Left, Turned, Turns}
use Rattle.rewrite.specs.Outcome.{OfWidths, Stepped, NotStepped, Steps}
use Rattle.rewrite.proofs.Forms.{written_long, written_there, stands_there, reads_there}
use Rattle.rewrite.proofs.Places.{past, Placed, placed}
use Rattle.rewrite.proofs.Alike.{turned_alike}

-- a whole query that is read is written, and the other way round
parse_written : (ws xs : List ℕ) (q : Query) (w : ℕ) → parse ws xs ≡ parsed q w [] → Written ws xs q w
parse_written ws xs q w e =
    let k = parse_inverse ws xs q w [] e in
    let f = written_there (stands_in 16 (length xs / 6) ws xs q w [] k.read) in
    subst (λ us. Written ws us q w) (sym (f.parts ∙ append-nil f.signs)) f.written

written_parse : (ws xs : List ℕ) (q : Query) (w : ℕ) → Written ws xs q w → length xs ≤ 96 → parse ws xs ≡ parsed q w []
unfolding parse
written_parse ws xs q w s h =
    let even : length xs % 6 ≡ 0 = omega (arith, written_long s) in
    let s' = subst (λ us. reads 16 (length xs / 6) ws us ≡ parsed q w []) (append-nil xs)
    (reads_there (stands_there [] s) 16 (length xs / 6) (omega (arith, length-append xs []))) in
    rw (le-leb (length xs) 96 h, eq-eqb (length xs % 6) 0 even, s')

module _ (tables signs : List ℕ) (s : Step) (place : ℕ) (was : List ℕ) where
  -- where no query begins at the place, the step makes nothing
  pub beyond : length signs / 6 ≤ place → NotStepped tables signs s place was was
  unfolding rewritten
  beyond h = record {
    kept = refl;
    none = λ _ old w e new f _.
        let long = written_long (parse_written (widths_in tables) signs old w e) in
        let gone : None ≡ Some new = sym (rw (past place old (omega arith))) ∙ f in
        differ cc;
  }

  put_shown : (o : Option Query) (q new : Query) → put_back place q o ≡ Some new → (r : Query) × (o ≡ Some r) × (new ≡ put_at place r q)
  put_shown (Some r) q new e = (r, refl, cc)
  put_shown None q new e = absurd (differ cc)

  module _ (f : fit tables ≡ fits) (old : Query) (w : ℕ) (e : parse (widths_in tables) signs ≡ parsed old w []) (before at : List ℕ)
      (p : Placed (widths_in tables) signs old w place) (front : before ≡ p.before) where
    step_made : (now : List ℕ) (n : ℕ) → Made (widths_in tables) s before p.inner p.width p.after was now n → Stepped tables signs s place was now n
    unfolding rewritten
    step_made now n m =
        let ws = widths_in tables in
        let xs = before ++ (m.signs ++ p.after) in
        let whole : Written ws xs (put_at place m.new old) w =
        subst (λ us. Written ws (us ++ (m.signs ++ p.after)) (put_at place m.new old) w) (sym front) (p.put m.signs m.new m.written) in
        let taken : take n now ≡ xs = ap (take n) m.put.2 ∙ take_at xs (drop n was) n (sym m.put.0) in
        let same = λ (ts : List (List Row)) (rows : OfWidths ws ts). rewriting.inside ts p.inner m.new old (put_at place m.new old)
        (turned_alike ws ts rows s m.new p.written m.made) (p.replaced m.new) in
        record {
          fit = f;
          old = old;
          width = w;
          read = e;
          new = put_at place m.new old;
          made = rw (p.there, m.made);
          many = m.put.0 ∙ written_long whole;
          short = m.put.1;
          reads = rw taken (written_parse ws xs (put_at place m.new old) w whole (omega (arith, m.put.0, m.put.1.0)));
          behind = ap (drop n) m.put.2 ∙ drop_at xs (drop n was) n (sym m.put.0);
          same = same _ (fit_wide tables f);
          everywhere = same;
        }

    step_left : (now : List ℕ) → Left (widths_in tables) s before p.inner p.after was now → NotStepped tables signs s place was now
    unfolding rewritten
    step_left now l = record {
      kept = l.kept;
      none = λ _ old' w' e' new g room.
          let same : old' ≡ old = cc in
          let ws = widths_in tables in
          let g' : put_back place old (turned ws s p.inner) ≡ Some new =
          sym (rw p.there) ∙ subst (λ q. rewritten ws s place q ≡ Some new) same g in
          let k = put_shown (turned ws s p.inner) old new g' in
          let long : 6 * size new ≡ length before + (6 * size k.0 + length p.after) =
          ap (λ q. 6 * size q) k.2 ∙ p.sized k.0 ∙ ap (λ us. length us + (6 * size k.0 + length p.after)) (sym front) in
          l.none k.0 k.1 (subst (λ n. Fits n (length was)) long room);
    }

    pub step_done : (now : List ℕ) (r : Option ℕ) → Turned (widths_in tables) s before p.inner p.width p.after was now r →
        Steps tables signs s place was now r
    step_done now (Some n) t = step_made now n t
    step_done now None t = step_left now t

  pub whole_step : fit tables ≡ fits → (old : Query) (w : ℕ) → parse (widths_in tables) signs ≡ parsed old w [] → (before at : List ℕ) →
      place < length signs / 6 → before ≡ take (6 * place) signs → at ≡ drop (6 * place) signs →
      (now : List ℕ) (r : Option ℕ) → Turns (widths_in tables) s before at was now r → Steps tables signs s place was now r
  whole_step f old w e before at h front rear now r t =
      let written = parse_written (widths_in tables) signs old w e in
      let p = placed place written (omega (arith, written_long written)) in
      let start = front ∙ ap (take (6 * place)) p.parts ∙ take_at p.before _ (6 * place) p.long in
      let left = rear ∙ ap (drop (6 * place)) p.parts ∙ drop_at p.before _ (6 * place) p.long in
      step_done f old w e before at p start now r (t p.signs p.inner p.width p.after p.written left)
