-- Which refusal applies. Assumes nothing.
use Rattle.std.proofs.Common.{◌≡◌, ℕ, ◌+◌, ◌*◌, ◌<◌, ◌≤◌, List, [], Some, None, sym, ap, ◌∙◌, arith, le-leb}
use borrow.Author.Tests.{lt-leb}
use Rattle.tables.specs.Tables.{tables_in, widths_in}
use Rattle.query.specs.Query.{Query}
use Rattle.query.specs.Parse.{parsed, parse}
use Rattle.query.specs.Weight.{weight}
use Rattle.query.proofs.Inverse.{parse_ok}
use Rattle.engine.specs.Weighed.{Weighed as Weighs}
use Rattle.query.specs.declared.question.Question.{Question}
use Rattle.eval.specs.declared.asking.Weighed.{Weighed}
use Rattle.eval.specs.Refusals.{refusal, by_weight}
use Rattle.eval.specs.Ask.{Ready}
use Rattle.eval.specs.declared.reply.Refusal.TheVariants.{Weight, Work, Nodes, Out}

module _ (n work nodes out : ℕ) where
  by_heavy : 8192 < n → by_weight n work nodes out ≡ Some Weight
  by_heavy h = rw (lt-leb n 8192 h)

  by_work : n ≤ 8192 → work < 9 * n → by_weight n work nodes out ≡ Some (Work work)
  by_work l h = rw (le-leb n 8192 l, lt-leb (9 * n) work h)

  by_nodes : n ≤ 8192 → 9 * n ≤ work → nodes < 7 + 6 * n → by_weight n work nodes out ≡ Some (Nodes nodes)
  by_nodes l a h = rw (le-leb n 8192 l, le-leb (9 * n) work a, lt-leb (7 + 6 * n) nodes h)

  by_out : n ≤ 8192 → 9 * n ≤ work → 7 + 6 * n ≤ nodes → out < 1 + 9 * n → by_weight n work nodes out ≡ Some (Out out)
  by_out l a b h = rw (le-leb n 8192 l, le-leb (9 * n) work a, le-leb (7 + 6 * n) nodes b, lt-leb (1 + 9 * n) out h)

  by_none : n ≤ 8192 → 9 * n ≤ work → 7 + 6 * n ≤ nodes → 1 + 9 * n ≤ out → by_weight n work nodes out ≡ None
  by_none l a b h = rw (le-leb n 8192 l, le-leb (9 * n) work a, le-leb (7 + 6 * n) nodes b, le-leb (1 + 9 * n) out h)

module _ (a : Question) (work nodes out : ℕ) where
  abbrev m : List ℕ
  m = a.tables.memory.now

  abbrev xs : List ℕ
  xs = a.signs.now

  read : (q : Query) × (parse (widths_in m) xs ≡ parsed q a.width [])
  read = let p = parse_ok (widths_in m) xs a.width a.whole in (p.0, p.1)

  refused_by : refusal m xs work nodes out ≡ by_weight (weight (tables_in m) read.0) work nodes out
  refused_by = rw (a.tables.whole, read.1)

  pub refused_heavy : Weighs a 8192 None → refusal m xs work nodes out ≡ Some Weight
  refused_heavy w = refused_by ∙ by_heavy _ work nodes out (w read.0 a.width read.1)

  module _ (n : ℕ) (w : Weighs a 8192 (Some n)) where
    weighs : n ≡ weight (tables_in m) read.0
    weighs = (w read.0 a.width read.1).0

    pub light : n ≤ 8192
    light = omega (arith, (w read.0 a.width read.1).0, (w read.0 a.width read.1).1)

    refused_at : refusal m xs work nodes out ≡ by_weight n work nodes out
    refused_at = refused_by ∙ ap (λ x. by_weight x work nodes out) (sym weighs)

    pub refused_work : work < 9 * n → refusal m xs work nodes out ≡ Some (Work work)
    refused_work h = refused_at ∙ by_work n work nodes out light h

    pub refused_nodes : 9 * n ≤ work → nodes < 7 + 6 * n → refusal m xs work nodes out ≡ Some (Nodes nodes)
    refused_nodes e f = refused_at ∙ by_nodes n work nodes out light e f

    pub refused_out : 9 * n ≤ work → 7 + 6 * n ≤ nodes → out < 1 + 9 * n → refusal m xs work nodes out ≡ Some (Out out)
    refused_out e f g = refused_at ∙ by_out n work nodes out light e f g

    pub readied : 9 * n ≤ work → 7 + 6 * n ≤ nodes → 1 + 9 * n ≤ out → Ready (record { question = a; weight = n }) work nodes out
    readied e f g = record {
      query = read.0;
      reads = read.1;
      weighs = weighs;
      light = light;
      work_long = e;
      nodes_long = f;
      out_long = g;
    }

pub ready_none : (a : Weighed) (work nodes out : ℕ) → Ready a work nodes out → refusal a.question.tables.memory.now a.question.signs.now work nodes out ≡ None
ready_none a work nodes out r =
    rw (a.question.tables.whole, r.reads, ← r.weighs) (by_none a.weight work nodes out r.light r.work_long r.nodes_long r.out_long)
