use Rattle.std.proofs.lemmas.Result.{IfOk-weaker}
use Rattle.ways.proofs.Lines.{line_all}
use Rattle.ways.proofs.text.write_line.Goals as goal

pub returns : goal.returns
returns c =
    IfOk-weaker c.write_ways.result _ _
    (λ _ e. line_all _ _ _ _ c.args.row.now _ c.in_ok-push_parted.ensures c.in_ok-write.ensures.bytes e) c.write_ways.ensures
