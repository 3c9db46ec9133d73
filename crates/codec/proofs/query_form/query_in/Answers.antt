use Rattle.std.proofs.Common.{arith, rules}
use Rattle.codec.proofs.Queries.{none_cut, all_there, cut_many, cut_few}
use Rattle.codec.proofs.query_form.query_in.Goals as goal

pub returns-in_default-clause-read : goal.returns-in_default-clause-read
returns-in_default-clause-read c = none_cut c.args.bytes.now (search rules)

pub returns-in_ok-widened-in-Some-clause-read : goal.returns-in_ok-widened-in-Some-clause-read
returns-in_ok-widened-in-Some-clause-read c = all_there c.args.bytes.now (search rules) _ _ _ c.in-Some.ensures.cases c.in_ok-widened-in-Some.ensures

pub returns-in-None-clause-read : goal.returns-in-None-clause-read
returns-in-None-clause-read c = cut_many c.args.bytes.now (search rules) c.in-None.ensures.cases (omega arith)

pub returns-in-None-2-clause-read : goal.returns-in-None-2-clause-read
returns-in-None-2-clause-read c = cut_few c.args.bytes.now (search rules) c.in-None-2.ensures.cases (omega arith)
