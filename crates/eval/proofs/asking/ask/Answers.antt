use Rattle.eval.proofs.Readying.{ready_none}
use Rattle.eval.proofs.asking.ask.Goals as goal

pub returns : goal.returns
returns c =
    let a = c.in_ok-asked.ensures.0 in
    let r = c.in_ok-asked.ensures.1 in
    rw (← a.memory, ← a.signs) (record {
      none = ready_none c.in_ok-asked.asked _ _ _ r;
      query = r.query;
      width = c.in_ok-asked.asked.question.width;
      reads = r.reads;
      answers = c.answer.ensures r.query c.in_ok-asked.asked.question.width r.reads;
    })
