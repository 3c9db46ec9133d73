use Rattle.std.proofs.Common.{arith}
use Rattle.std.proofs.lemmas.Result.{IfOk-weaker}
use Rattle.ways.proofs.Lines.{count_one, count_more}
use Rattle.ways.proofs.text.write_count.Goals as goal

pub returns-then-count-eq1 : goal.returns-then-count-eq1
returns-then-count-eq1 c = count_one _ c.args.count (omega arith)

pub returns : goal.returns
returns c = IfOk-weaker c.write.result _ _ (λ _ e. count_more _ _ c.args.count (λ z. omega arith) e) c.write.ensures.bytes
