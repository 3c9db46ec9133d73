-- Rows that are gathered are an answer to every query that gives them. Assumes nothing.
use Rattle.std.proofs.Common.{◌≡◌, ℕ, ◌+◌, ◌*◌, ◌<◌, List, [], ◌∷◌, map, length, sym, refl, ap, ◌∙◌, subst, ap₂, ⊎_elim, arith}
use Rattle.std.specs.List.{AllByRecursion}
use Rattle.std.proofs.lemmas.List.Sums.{sum_by-cons}
use Rattle.std.proofs.lemmas.Bool.{cases_Bool, cases_lt}
use Rattle.tables.specs.Tables.{Row, same_row}
use Rattle.tables.proofs.RowOrder.{same_decides}
use Rattle.query.specs.Semiring.{Count}
use Rattle.query.specs.Query.{Query, Annotated, run, total, worth}
use Rattle.query.proofs.Named.{count_lawful}
use Rattle.query.proofs.Related.{Alike, none, more, KeptBy, alike_run}
use Rattle.circuit.specs.declared.Node.{Node}
use Rattle.circuit.specs.Expr.{Expr, never, mark, Plain, value, provenance}
use Rattle.circuit.specs.Store.{expr_of}
use Rattle.provenance.specs.Polynomial.{normal, normal_value}
use Rattle.provenance.specs.Answer.{Answer, Listed, here, there, Answered}
use Rattle.provenance.proofs.ValueWorth.{value_worth}
use Rattle.provenance.proofs.Says.{normal_says}
use Rattle.provenance.proofs.NormalOne.{normal_one}
use Rattle.gather.specs.Gathered.{counted, noted, Gathered, Gives, GatheringAnswers, NotedGives}
use Rattle.gather.proofs.Together.{part, sum_at, counting}
use Rattle.gather.proofs.Distinct.{some_occurs, total_sum}
use Rattle.gather.proofs.Positive.{Comes, run_comes}

-- where each row counts more than 0, so do the rows equal to one of them
sum_comes : {r : Row} {i : ℕ} {xs : List Answer} (v : ℕ → ℕ) (ns : List Node) → AllByRecursion Comes (counted v ns xs) → Listed r i xs → 0 < sum_at r (counting v ns) xs
sum_comes {r} {i} v ns h (here {rest = rest}) =
    let mine : part r (counting v ns) (record { row = r; node = i }) ≡ counting v ns i = rw ((same_decides r r).1 refl) in
    let some = h.0 in
    let all = sum_by-cons (part r (counting v ns)) (record { row = r; node = i }) rest in
    omega arith
sum_comes {r} v ns h (there {a = a} {rest = rest} listed) =
    let later = sum_comes v ns h.1 listed in
    let all = sum_by-cons (part r (counting v ns)) a rest in
    omega arith

-- a row that does not occur comes to 0
sum_nothing : (r : Row) (f : ℕ → ℕ) (xs : List Answer) → sum_at r (λ _. 1) xs ≡ 0 → sum_at r f xs ≡ 0
sum_nothing r f [] h = refl
sum_nothing r f (x ∷ xs) h =
    let ones = sum_by-cons (part r (λ _. 1)) x xs in
    let all = sum_by-cons (part r f) x xs in
    let rest = sum_nothing r f xs (omega arith) in
    ⊎_elim
    (λ t. absurd (let mine : part r (λ _. 1) x ≡ 1 = rw t in omega arith))
    (λ t. let mine : part r f x ≡ 0 = rw t in omega arith)
    (cases_Bool (same_row r x.row))

normal_never : normal never ≡ []
unfolding normal
normal_never = refl

value_never : (v : ℕ → ℕ) → value Count v never ≡ 0
unfolding value
value_never v = refl

value_none : (v : ℕ → ℕ) → normal_value Count v [] ≡ 0
unfolding normal_value
value_none v = refl

worth_is : (v : ℕ → ℕ) (ts : List (List Row)) (q : Query) (r : Row) → worth Count v ts q r ≡ total Count r (run Count v ts q)
unfolding worth
worth_is v ts q r = refl

module _ (before after : List Node) (rows out : List Answer) (g : Gathered before after rows out) (ts : List (List Row)) (q : Query) (gives : Gives ts q before rows) where
  -- what the rows equal to r come to is what the provenance of r counts
  sum_is : (r : Row) (v : ℕ → ℕ) → sum_at r (counting v before) rows ≡ value Count v (provenance ts q r)
  sum_is r v = sym (total_sum r v before rows) ∙ ap (total Count r) (gives v) ∙ sym (worth_is v ts q r) ∙ sym (value_worth Count v ts q r)

  right : (r : Row) (i : ℕ) → Listed r i out → (i < length after) × (normal (expr_of after i) ≡ normal (provenance ts q r))
  right r i h = (g.node r i h, normal_one (expr_of after i) (provenance ts q r) (λ v. g.counts r i h v ∙ total_sum r v before rows ∙ sum_is r v))

  comes : (r : Row) (i : ℕ) → Listed r i out → normal (provenance ts q r) ≡ [] → ⊥
  comes r i h empty =
      let once : ℕ → ℕ = λ _. 1 in
      let some : 0 < sum_at r (counting once before) rows = sum_comes once before (subst (AllByRecursion Comes) (sym (gives once)) (run_comes ts q)) (g.only r (i, h)).1 in
      let zero-way : value Count once (provenance ts q r) ≡ 0 =
      sym (normal_says Count (λ _. Unit {0}) count_lawful once (λ _. tt) (provenance ts q r)) ∙ ap (normal_value Count once) empty ∙ value_none once in
      let same = sum_is r once in
      omega arith

  all : (r : Row) → (normal (provenance ts q r) ≡ [] → ⊥) → (i : ℕ) × Listed r i out
  all r some =
      ⊎_elim
      (λ h. g.all r (some_occurs r rows h))
      (λ h. absurd (some (normal_one (provenance ts q r) never (λ v. sym (sum_is r v) ∙ sum_nothing r (counting v before) rows (omega arith) ∙ sym (value_never v)) ∙ normal_never)))
      (cases_lt 0 (sum_at r (λ _. 1) rows))

  answered : Answered ts q after out
  answered = record { rise = g.rise; right = right; comes = comes; all = all }

pub gathering_answers : GatheringAnswers
gathering_answers before after rows out g ts q gives = answered before after rows out g ts q gives

-- annotated rows, each with what its expression counts
abbrev counts_of : (ℕ → ℕ) → List (Annotated Expr) → List (Annotated ℕ)
counts_of v xs = map (λ (x : Annotated Expr). record { row = x.row; note = value Count v x.note }) xs

abbrev ReadsAs : (ℕ → ℕ) → Expr → ℕ → Type 0
ReadsAs v e n = value Count v e ≡ n

alike_counts : (v : ℕ → ℕ) {xs : List (Annotated Expr)} {ys : List (Annotated ℕ)} → Alike (ReadsAs v) xs ys → counts_of v xs ≡ ys
alike_counts v none = refl
alike_counts v (more e h alike) = ap₂ ◌∷◌ (λ i. record { row = e i; note = h i }) (alike_counts v alike)

noted_counts : (v : ℕ → ℕ) (ns : List Node) (rows : List Answer) → counts_of v (noted ns rows) ≡ counted v ns rows
noted_counts v ns [] = refl
noted_counts v ns (x ∷ rows) = ap (λ ys. record { row = x.row; note = counting v ns x.node } ∷ ys) (noted_counts v ns rows)

reading : (v : ℕ → ℕ) → KeptBy Plain Count (ReadsAs v)
unfolding value
reading v = record { at_zero = refl; at_plus = λ a b c d p q. ap₂ ◌+◌ p q; at_times = λ a b c d p q. ap₂ ◌*◌ p q }

mark_reads : (v : ℕ → ℕ) (k : ℕ) → value Count v (mark k) ≡ v k
unfolding value
mark_reads v k = refl

pub noted_gives : NotedGives
noted_gives ts q ns rows e v = sym (noted_counts v ns rows) ∙ ap (counts_of v) e ∙ alike_counts v (alike_run (reading v) mark v (mark_reads v) ts q)
