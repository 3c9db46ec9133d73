-- From the rows of a query to its answer. Assumes nothing.
use Rattle.std.proofs.Common.{◌≡◌, ℕ, ◌+◌, ◌-◌, ◌*◌, ◌/◌, ◌≤◌, min, Bool, true, false, List, [], map, length, drop, is_some, Some, None, MatchBool, sym, ap, ◌∙◌, subst, ap₂, ⊎_elim, mul-le-mul, arith}
use native.Mathlib.Nat.{le-min}
use Rattle.std.proofs.lemmas.List.{drop-drop}
use Rattle.std.proofs.lemmas.Bool.{cases_lt, false≢true}
use borrow.Author.Tests.{lt-leb}
use Rattle.tables.specs.Tables.{fit, fits, tables_in, widths_in}
use Rattle.query.specs.Query.{Query}
use Rattle.query.specs.Parse.{parsed, parse}
use Rattle.query.specs.Weight.{weight}
use Rattle.query.proofs.Inverse.{parse_inverse}
use Rattle.query.proofs.Shown.{stands_in, stands_narrow}
use Rattle.query.proofs.Fitting.{fit_narrow}
use Rattle.circuit.specs.Store.{nodes_in}
use Rattle.circuit.specs.Held.{Sound, node_held, count_in}
use Rattle.circuit.proofs.NodeCells.{held_past}
use Rattle.circuit.specs.Hints.{half, Started}
use Rattle.circuit.proofs.NodeLists.{length_nodes_in}
use Rattle.rows.specs.declared.memory.Region.{Region}
use Rattle.rows.specs.Memory.{held}
use Rattle.rows.specs.Notes.{Can, GoesOn, InOrder, room_in, stored_notes}
use Rattle.engine.specs.Weighed.{Weighed as Weighs}
use Rattle.engine.specs.Weighed as engine
use Rattle.provenance.specs.Answer.{Answered}
use Rattle.gather.specs.Gathered.{region_rows, answers_in, Written}
use Rattle.gather.specs.Gathered as gather
use Rattle.gather.proofs.Answering.{noted_gives}
use Rattle.eval.specs.Ask.{Ready, Answers}
use Rattle.eval.specs.declared.asking.Weighed.{Weighed}
use Rattle.circuit.specs.declared.finding.Circuit.{Circuit}
use Rattle.eval.proofs.Regions.{answer_from, rows_both, length_apart, names_noted, names_known}

-- a query that is read has at most eight columns
pub width_narrow : (m xs : List ℕ) (q : Query) (w : ℕ) → fit m ≡ fits → parse (widths_in m) xs ≡ parsed q w [] → w ≤ 8
width_narrow m xs q w f e =
    let whole = parse_inverse (widths_in m) xs q w [] e in
    stands_narrow (fit_narrow m f) (stands_in 16 (length xs / 6) (widths_in m) xs q w [] whole.read)

-- memory that is not empty was made a store
pub was_started : (b : Bool) {P : Type 0} {Q : Type 0} → MatchBool b P Q → (Q → ⊥) → P
was_started true w away = w
was_started false w away = absurd (away w)

started_empty : (m after hints hints_after : List ℕ) → Started m after hints hints_after → count_in after ≡ 0
started_empty m after hints hints_after s = sym (length_nodes_in after) ∙ ap length s.nodes

-- a store that was made anew has room for a note for each row
pub started_can : (c₀ c₁ : Circuit) (n : ℕ) → Started c₀.nodes.now c₁.nodes.now c₀.hints.now c₁.hints.now → 7 + 6 * n ≤ length c₀.nodes.now → 4 + 4 * n ≤ length c₀.hints.now →
    Can n (stored_notes c₁)
started_can c₀ c₁ n s a b =
    let none = started_empty c₀.nodes.now c₁.nodes.now c₀.hints.now c₁.hints.now s in
    let nodes : n ≤ (length c₁.nodes.now - 1) / 3 = omega (arith, s.long) in
    let room : n ≤ half c₁.hints.now = omega (arith, s.same_length) in
    let both : n ≤ min ((length c₁.nodes.now - 1) / 3) (half c₁.hints.now) = le-min nodes room in
    record {
      ready = record { proper = s.proper; linked = s.linked; distinct = s.distinct };
      room = omega arith;
    }

-- a question that is ready has been weighed
pub ready_weighed : (a : Weighed) (work nodes out : ℕ) → Ready a work nodes out → Weighs a.question 8192 (Some a.weight)
ready_weighed a work nodes out r q w e =
    let m = a.question.tables.memory.now in
    let same : r.query ≡ q = cc (r.reads, e) in
    let weighs : a.weight ≡ weight (tables_in m) q = r.weighs ∙ ap (weight (tables_in m)) same in
    (weighs, omega (arith, r.light))

-- all nodes of a sound store are there
sound_long : (m : List ℕ) → Sound m → 1 + 3 * count_in m ≤ length m
sound_long m s =
    ⊎_elim
    (λ none. omega (arith, s.long))
    (λ some.
    ⊎_elim
    (λ short.
    let i : ℕ = count_in m - 1 in
    let gone : node_held m i ≡ None = held_past m i (lt-leb (4 + 3 * i) (length m) (omega arith)) in
    absurd (false≢true (sym (ap is_some gone) ∙ s.each i (omega arith))))
    (λ long. long)
    (cases_lt (length m) (1 + 3 * count_in m)))
    (cases_lt (count_in m) 1)

-- a question that is asked, the store before, when it was made anew, and after the query was run, and the work row then
module _ (a : Weighed) (work-size nodes_size out-size : ℕ) (ready : Ready a work-size nodes_size out-size)
    (c₀ c₁ c₂ : Circuit) (started : Started c₀.nodes.now c₁.nodes.now c₀.hints.now c₁.hints.now) (goes : GoesOn a.weight (stored_notes c₁) (stored_notes c₂))
    (work : List ℕ) (r : Region) (ran : engine.Answers (stored_notes c₂) a.question a.weight work r)
    (long₀ : length c₀.nodes.now ≡ nodes_size) (long₂ : length c₂.nodes.now ≡ length c₁.nodes.now) (wide₂ : length c₂.hints.now ≡ length c₁.hints.now) (hints : 4 + 4 * a.weight ≤ length c₀.hints.now) where
  in_order : InOrder c₂.nodes.now c₂.hints.now
  in_order = goes.ready (record { proper = started.proper; linked = started.linked; distinct = started.distinct })

  -- as many nodes stand there as notes were made
  made_all : count_in c₂.nodes.now ≡ goes.made
  made_all =
      let none = started_empty c₀.nodes.now c₁.nodes.now c₀.hints.now c₁.hints.now started in
      let same : room_in c₂.nodes.now c₂.hints.now ≡ room_in c₁.nodes.now c₁.hints.now = ap₂ min (ap (λ l. (l - 1) / 3) long₂) (ap (λ l. l / 2) wide₂) in
      let within : count_in c₂.nodes.now ≤ room_in c₂.nodes.now c₂.hints.now = le-min (omega (arith, sound_long c₂.nodes.now in_order.proper.sound)) in_order.linked.room in
      omega (arith, goes.room)

  pub few_made : count_in c₂.nodes.now ≤ a.weight
  few_made = omega (arith, made_all, goes.few)

  told : engine.Answered (stored_notes c₂) a.question.tables.memory.now ready.query a.question.width a.weight work r
  told = ran ready.query a.question.width ready.reads

  narrow : r.width ≤ 8
  narrow = omega (arith, told.width, width_narrow a.question.tables.memory.now a.question.signs.now ready.query a.question.width a.question.tables.whole ready.reads)

  rows_are : region_rows work r ≡ map answer_from (held work r)
  rows_are = rows_both r.width r.count r.first work narrow

  pub gather_ready : (out : List ℕ) → length out ≡ out-size → gather.Ready (region_rows work r) r.width c₂.nodes.now out
  gather_ready out e =
      let rows = length_apart 9 r.width r.count (drop (9 * r.first) work) in
      let few = few_made in
      let within = told.within in
      let area : (1 + r.width) * length (region_rows work r) ≤ 9 * a.weight = mul-le-mul (omega (arith, narrow)) (omega arith) in
      record {
        proper = in_order.proper;
        known = rw rows_are (names_known c₂.nodes.now told.rows);
        nodes = omega (arith, started.long, ready.nodes_long);
        space = omega (arith, ready.out_long);
      }

  pub in_work : work-size ≡ length work → (r.count ≤ 8192) × (r.width ≤ 8) × (9 * (r.first + r.count) ≤ length work)
  in_work e = (omega (arith, told.within, ready.light), narrow, omega (arith, told.within, ready.work_long))

  -- what was gathered is the answer
  module _ (m₃ h₃ out after : List ℕ) (k : ℕ) (written : Written (region_rows work r) r.width c₂.nodes.now m₃ c₂.hints.now h₃ out after k) where
    gives : (q : Query) (w : ℕ) → parse (widths_in a.question.tables.memory.now) a.question.signs.now ≡ parsed q w [] → gather.Gives (tables_in a.question.tables.memory.now) q (nodes_in c₂.nodes.now) (region_rows work r)
    gives q w e = noted_gives (tables_in a.question.tables.memory.now) q (nodes_in c₂.nodes.now) (region_rows work r) (ap (gather.noted (nodes_in c₂.nodes.now)) rows_are ∙ names_noted c₂.nodes.now (ran q w e).rows)

    few_nodes : count_in m₃ ≤ half c₂.hints.now
    few_nodes =
        let rows = length_apart 9 r.width r.count (drop (9 * r.first) work) in
        omega (arith, written.merged.store.few, few_made, told.within, wide₂, started.same_length)

    -- the memory behind the nodes, from step to step
    behind : drop (1 + 3 * count_in m₃) m₃ ≡ drop (1 + 3 * count_in m₃) c₀.nodes.now
    behind =
        let none = started_empty c₀.nodes.now c₁.nodes.now c₀.hints.now c₁.hints.now started in
        let more = written.merged.store.more in
        let left : ℕ = count_in m₃ - count_in c₂.nodes.now in
        let at₂ : 1 + 3 * (count_in c₂.nodes.now + left) ≡ 1 + 3 * count_in m₃ = omega arith in
        let at₁ : 1 + 3 * (count_in c₁.nodes.now + (goes.made + left)) ≡ 1 + 3 * count_in m₃ = omega (arith, made_all) in
        written.merged.store.behind
        ∙ ap (λ j. drop j c₂.nodes.now) (sym at₂) ∙ sym (goes.behind left) ∙ ap (λ j. drop j c₁.nodes.now) at₁
        ∙ sym (drop-drop (3 * count_in m₃) 1 c₁.nodes.now) ∙ ap (drop (3 * count_in m₃)) started.behind ∙ drop-drop (3 * count_in m₃) 1 c₀.nodes.now

    pub answered : length after ≡ length out → (q : Query) (w : ℕ) → parse (widths_in a.question.tables.memory.now) a.question.signs.now ≡ parsed q w [] → Answers a.question.tables.memory.now q w c₀.nodes.now m₃ out after k
    answered long q w e =
        let width = (ran q w e).width in
        record {
          count = written.count;
          answer = subst (λ (v : ℕ). Answered (tables_in a.question.tables.memory.now) q (nodes_in m₃) (answers_in v k (drop 1 after))) width (written.answers (tables_in a.question.tables.memory.now) q (gives q w e));
          proper = written.merged.store.proper;
          distinct = written.merged.store.distinct in_order.linked few_nodes in_order.distinct;
          nodes_long = written.merged.store.long ∙ long₂ ∙ started.long;
          nodes_behind = behind;
          out_long = long;
          out_behind = subst (λ (v : ℕ). drop (1 + (1 + v) * k) after ≡ drop (1 + (1 + v) * k) out) width written.merged.behind;
        }

-- the answer is in whatever is the memory of the nodes
pub answers_same : (m : List ℕ) (q : Query) (w : ℕ) (nodes after out out_after : List ℕ) (k : ℕ) → Answers m q w nodes after out out_after k →
    (after' : List ℕ) → after' ≡ after → Answers m q w nodes after' out out_after k
answers_same m q w nodes after out out_after k a after' e = rw e a
