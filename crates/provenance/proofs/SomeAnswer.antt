-- Every query has an answer: the rows that come about, in order, with nodes that write out the provenance of each. Assumes nothing.
use Rattle.std.proofs.Common.{◌≡◌, ℕ, ◌+◌, ◌<◌, Bool, true, false, List, [], ◌∷◌, map, length, sym, refl, ap, ◌∙◌, subst, arith}
use Rattle.std.specs.List.{AllByRecursion}
use Rattle.std.proofs.ByRecursion.{All-weaker}
use Rattle.tables.specs.Bool.{pick}
use Rattle.tables.specs.Tables.{Row, same_row}
use Rattle.tables.proofs.RowOrder.{same_true}
use Rattle.query.specs.Query.{Query}
use Rattle.circuit.specs.Expr.{provenance}
use Rattle.circuit.specs.declared.Node.{Node}
use Rattle.circuit.specs.Store.{expr_of}
use Rattle.provenance.specs.Answer.{Answer, RowsRise, none, one, more, Listed, here, there, Answered}
use Rattle.provenance.specs.Polynomial.{normal}
use Rattle.provenance.specs.Ways.{Time, times, often}
use Rattle.provenance.specs.Reading.{SomeAnswer}
use Rattle.provenance.proofs.Rising.{true_before}
use Rattle.provenance.proofs.WayByWay.{some_way}
use Rattle.provenance.proofs.Grown.{GoesOn, goes_on_on, grown}
use Rattle.provenance.proofs.InOrder.{Rise, in_order, in_order_rises, in_order_back, in_order_comes}

-- what holds of each entry of an answer holds of what is listed there
pub listed_each : (P : Row → ℕ → Type 0) (r : Row) (i : ℕ) {out : List Answer} → Listed r i out → AllByRecursion (λ a. P a.row a.node) out → P r i
listed_each P r i here h = h.0
listed_each P r i (there listed) h = listed_each P r i listed h.1

-- what holds of the row of each time holds of a row that comes about
pub often_each : (P : Row → Type 0) (r : Row) (xs : List Time) → AllByRecursion (λ x. P x.row) xs → 0 < often r xs → P r
unfolding often
often_each P r [] h some = absurd (omega arith)
often_each P r (x ∷ xs) h some = go (same_row r x.row) refl (often_each P r xs h.1) some
  where
    go : (b : Bool) → same_row r x.row ≡ b → (0 < often r xs → P r) → 0 < pick b (1 + often r xs) (often r xs) → P r
    go true e tail s = subst P (sym (same_true r x.row e)) h.0
    go false e tail s = tail s

abbrev rows : List Answer → List Row
rows out = map (λ (a : Answer). a.row) out

rows_rise : (out : List Answer) → Rise (rows out) → RowsRise out
rows_rise [] h = none
rows_rise (a ∷ []) h = one
rows_rise (a ∷ b ∷ out) h = more (true_before h.0.0) (rows_rise (b ∷ out) h.1)

-- a row has a place in an answer
abbrev Placed : List Answer → Row → Type 0
Placed out r = (i : ℕ) × Listed r i out

all_placed : (out : List Answer) → AllByRecursion (Placed out) (rows out)
all_placed [] = tt
all_placed (a ∷ out) =
    ((a.node, here), All-weaker (Placed out) (Placed (a ∷ out)) (λ r l. (l.0, there l.1)) (rows out) (all_placed out))

all_rows : (P : Row → Type 0) (out : List Answer) → AllByRecursion P (rows out) → AllByRecursion (λ a. P a.row) out
all_rows P [] h = tt
all_rows P (a ∷ out) h = (h.0, all_rows P out h.1)

module _ (ts : List (List Row)) (q : Query) where
  abbrev Right : List Node → Row → ℕ → Type 0
  Right ns r i = (i < length ns) × (expr_of ns i ≡ provenance ts q r)

  -- nodes that go on from ns, and an answer over them with the rows rs
  record Written (ns : List Node) (rs : List Row) : Type 0 where
    nodes : List Node
    goes_on : GoesOn ns nodes
    out : List Answer
    has_rows : rows out ≡ rs
    right : AllByRecursion (λ a. Right nodes a.row a.node) out

  written : (ns : List Node) (rs : List Row) → Written ns rs
  written ns [] = record { nodes = ns; goes_on = record { longer = omega arith; same = λ k h. refl }; out = []; has_rows = refl; right = tt }
  written ns (r ∷ rs) =
      let head = grown ns (provenance ts q r) in
      let tail = written head.nodes rs in
      let place = head.place in
      record {
        nodes = tail.nodes;
        goes_on = goes_on_on head.goes_on tail.goes_on;
        out = record { row = r; node = place } ∷ tail.out;
        has_rows = ap (λ xs. r ∷ xs) tail.has_rows;
        right = ((omega (arith, head.there, tail.goes_on.longer), tail.goes_on.same place head.there ∙ head.stands_for), tail.right);
      }

  abbrev Comes : Row → Type 0
  Comes r = 0 < often r (times ts q)

  answered : (w : Written [] (in_order (times ts q))) → Answered ts q w.nodes w.out
  answered w =
      let rise : Rise (rows w.out) = subst Rise (sym w.has_rows) (in_order_rises (times ts q)) in
      let come : AllByRecursion Comes (rows w.out) = subst (AllByRecursion Comes) (sym w.has_rows) (in_order_comes (times ts q)) in
      let placed : AllByRecursion (Placed w.out) (in_order (times ts q)) = subst (AllByRecursion (Placed w.out)) w.has_rows (all_placed w.out) in
      record {
        rise = rows_rise w.out rise;
        right = λ r i l. let h = listed_each (Right w.nodes) r i l w.right in (h.0, ap normal h.1);
        comes = λ r i l. (some_way ts q r).0 (listed_each (λ r i. Comes r) r i l (all_rows Comes w.out come));
        all = λ r some. often_each (Placed w.out) r (times ts q) (in_order_back (Placed w.out) (times ts q) placed) ((some_way ts q r).1 some);
      }

pub some_answer : SomeAnswer
some_answer ts q = let w = written ts q [] (in_order (times ts q)) in (w.nodes, w.out, answered ts q w)
