use Rattle.std.proofs.Common.{◌≡◌, ℕ, ◌+◌, ◌-◌, ◌<◌, List, [], map, length, get_or, take, drop, sym, ap, ◌∙◌, rules, arith}
use Rattle.std.proofs.lemmas.List.{length-map, get_or-map, get_or-take, get_or-drop, places}
use Rattle.std.proofs.lemmas.Bool.Decides.{not_from_Decides}
use Rattle.gather.specs.declared.region.Entry.{Entry}
use Rattle.gather.specs.Gathered.{answer_of}
use Rattle.gather.proofs.Underway.{underway_none, underway_counted, underway_joins, underway_apart, underway_all, merged_none, memory_same, memory_over, merging_meets}
use Rattle.gather.proofs.merging.merge.Goals as goal
use Rattle.gather.proofs.merging.merge.Goals.{then-equal, else-equal}

long : (es : List Entry) → length (map answer_of es) ≡ length es
long es = length-map es answer_of

-- entry i, as the code reads it, and its row
abbrev entry_at : List Entry → ℕ → Entry
entry_at es i = get_or es i (record { cells = record { ref_ptr = (0, 0); now = [] }; node = 0; place = 0 })

row_is : (es : List Entry) (i : ℕ) → i < length es → answer_of (entry_at es i) ≡ get_or (map answer_of es) i (record { row = []; node = 0 })
row_is es i h = sym (get_or-map answer_of es i (record { cells = record { ref_ptr = (0, 0); now = [] }; node = 0; place = 0 }) (record { row = []; node = 0 }) h)

-- the entries behind the first
next_is : (es : List Entry) (i : ℕ) → i + 1 < length es → answer_of (entry_at (take (length es - 1) (drop 1 es)) i) ≡ get_or (map answer_of es) (i + 1) (record { row = []; node = 0 })
next_is es i h =
    let e : 1 + i ≡ i + 1 = omega arith in
    ap answer_of (get_or-take (length es - 1) (drop 1 es) i _ (omega arith) ∙ get_or-drop 1 es i _ ∙ ap (entry_at es) e) ∙ row_is es (i + 1) h

pub returns-in_default-clause-merged : goal.returns-in_default-clause-merged
returns-in_default-clause-merged c =
    let l = long c.args.entries.now in
    merged_none _ _ _ _ _ c.requires.order c.requires.wide c.requires.ready (omega arith)

pub loop-entry-init : goal.loop-entry-init
loop-entry-init c =
    let l = long c.args.entries.now in (
      underway_none _ _ _ _ _ c.requires.order c.requires.wide c.requires.ready _ (omega arith) (row_is c.args.entries.now 0 (omega arith)),
      memory_same c.args.circuit.now,
    )

pub join-requires-clause-counted : goal.join-requires-clause-counted
join-requires-clause-counted c =
    let l = long c.args.entries.now in
    let is = next_is c.args.entries.now c.loop-entry.entry-index (omega arith) in
    underway_counted _ _ _ _ _ c.requires.order c.requires.wide c.requires.ready _ _ _ _ _ _ c.loop-entry.invariant.0 (omega arith) _ is

pub loop-entry-preserved : goal.loop-entry-preserved
loop-entry-preserved c =
    let l = long c.args.entries.now in
    let i = c.loop-entry.entry-index + 1 in
    let there : i < length (map answer_of c.args.entries.now) = omega arith in
    let is = next_is c.args.entries.now c.loop-entry.entry-index (omega arith) in
    let g = c.loop-entry.invariant.0 in
    let memory = c.loop-entry.invariant.1 in
    elim c.if-equal.branch [
      | then-equal w ↦
          merging_meets _ _ c.args.circuit.now c.if-equal.circuit w.join.new.circuit _ _ _ _ _ _ _ _ w.circuit-is w.out-is w.last-is w.written-is (
            underway_joins _ _ _ _ _ c.requires.order c.requires.wide c.requires.ready _ _ _ _ _ _ g there _ is
                (c.equal.ensures.0 w.if-equal.true) w.join.new.circuit.nodes.now w.join.new.circuit.hints.now w.join.result w.join.ensures.store w.join.ensures.counts,
            memory_over c.args.circuit.now c.loop-entry.circuit w.join.new.circuit memory w.join.ensures.memory,
          )
      | else-equal w ↦
          merging_meets _ _ c.args.circuit.now c.if-equal.circuit c.loop-entry.circuit _ _ _ _ _ _ _ _ w.circuit-is w.out-is w.last-is w.written-is (
            underway_apart _ _ _ _ _ c.requires.order c.requires.wide c.requires.ready _ _ _ _ _ _ g there _ is
                (not_from_Decides _ c.equal.ensures w.if-equal.false) w.write_row.new.out w.write_row.auto.out w.write_row.ensures.rows w.write_row.ensures.behind,
            memory,
          )
    ]

pub returns-clause-merged : goal.returns-clause-merged
returns-clause-merged c =
    let l = long c.args.entries.now in
    let rest : length (take (length c.args.entries.now - 1) (drop 1 c.args.entries.now)) ≡ length c.args.entries.now - 1 = search (rules, places) in
    underway_all _ _ _ _ _ c.requires.order c.requires.wide c.requires.ready _ _ _ _ _ _ c.loop-entry.invariant.0 (omega arith) _ c.write_row-2.ensures.rows c.write_row-2.ensures.behind
