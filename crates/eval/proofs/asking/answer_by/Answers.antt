use Rattle.std.proofs.Common.{◌≡◌, length, refl, arith, rules}
use Rattle.rows.proofs.Storing.{kept_memory}
use Rattle.eval.proofs.Answering.{was_started, started_can, ready_weighed, in_work, gather_ready, answered, answers_same}
use Rattle.eval.proofs.asking.answer_by.Goals as goal

pub run_weighed-rows-requires : goal.run_weighed-rows-requires
run_weighed-rows-requires c =
    let r = c.requires.ready in
    let s = was_started c.start.result c.start.ensures.started (λ e. omega (arith, e.0, r.nodes_long)) in
    record {
      weight = ready_weighed c.args.asked _ _ _ r;
      room = r.work_long;
      can = started_can (record { nodes = c.args.nodes; hints = c.args.hints }) c.start.new.self c.args.asked.weight s r.nodes_long c.requires.enough;
    }

pub gather-requires : goal.gather-requires
gather-requires c =
    let r = c.requires.ready in
    let s = was_started c.start.result c.start.ensures.started (λ e. omega (arith, e.0, r.nodes_long)) in
    let ran = c.run_weighed-rows.ensures in
    let memory = kept_memory c.start.new.self c.run_weighed-rows.new.notes c.args.asked.weight ran.notes in
    let same : length c.args.work.now ≡ length c.run_weighed-rows.new.work = omega arith in
    let at = in_work c.args.asked _ _ _ r (record { nodes = c.args.nodes; hints = c.args.hints }) c.start.new.self c.run_weighed-rows.new.notes s ran.notes _ _ ran.rows refl memory.1 memory.2 c.requires.enough same in
    record {
      few = at.0;
      within = (at.1, at.2);
      ready = gather_ready c.args.asked _ _ _ r (record { nodes = c.args.nodes; hints = c.args.hints }) c.start.new.self c.run_weighed-rows.new.notes s ran.notes _ _ ran.rows refl memory.1 memory.2 c.requires.enough _ refl;
    }

pub returns : goal.returns
returns c q w e =
    let r = c.requires.ready in
    let s = was_started c.start.result c.start.ensures.started (λ e. omega (arith, e.0, r.nodes_long)) in
    let ran = c.run_weighed-rows.ensures in
    let memory = kept_memory c.start.new.self c.run_weighed-rows.new.notes c.args.asked.weight ran.notes in
    let told = answered c.args.asked _ _ _ r (record { nodes = c.args.nodes; hints = c.args.hints }) c.start.new.self c.run_weighed-rows.new.notes s ran.notes _ _ ran.rows refl memory.1 memory.2 c.requires.enough _ _ _ _ _ c.gather.ensures.written (omega arith) q w e in
    let name = memory.0.nodes in
    let gathered = c.gather.ensures.memory.nodes in
    let started = c.start.ensures.memory.nodes in
    answers_same _ q w _ c.gather.new.circuit.nodes.now _ _ _ told _ (search rules)
