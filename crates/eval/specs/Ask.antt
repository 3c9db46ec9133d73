-- What is asked and answered. Assumes nothing: these are definitions.
use Rattle.std.specs.Prelude.{◌≡◌, ℕ, ◌+◌, ◌*◌, ◌≤◌, List, [], length, drop, Some, None, Ok, Err, Result, slice_index_or}
use Rattle.tables.specs.Tables.{tables_in, widths_in}
use Rattle.query.specs.Query as queries
use Rattle.query.specs.Parse.{parsed, parse}
use Rattle.query.specs.Weight.{weight}
use Rattle.circuit.specs.Store.{nodes_in}
use Rattle.circuit.specs.Held.{count_in, Proper}
use Rattle.circuit.specs.Hints.{Distinct}
use Rattle.provenance.specs.Answer.{Answered}
use Rattle.gather.specs.Gathered.{answers_in}
use Rattle.eval.specs.Refusals.{refusal}
use Rattle.eval.specs.declared.reply.Refusal.{Refusal}
use Rattle.eval.specs.declared.asking.Weighed.{Weighed}
use Rattle.query.specs.declared.question.Question.{Question}

-- `after` holds n rows of w cells, which with the nodes in `nodes_after` are the answer to the query q over the tables in the memory m;
-- no two of these nodes are equal, and behind them and behind the rows both lent rows are as they were
pub record Answers (m : List ℕ) (q : queries.Query) (w : ℕ) (nodes nodes_after out after : List ℕ) (n : ℕ) : Type 0 where
  pub count : slice_index_or after 0 0 ≡ n
  pub answer : Answered (tables_in m) q (nodes_in nodes_after) (answers_in w n (drop 1 after))
  pub proper : Proper nodes_after
  pub distinct : Distinct nodes_after
  pub nodes_long : length nodes_after ≡ length nodes
  pub nodes_behind : drop (1 + 3 * count_in nodes_after) nodes_after ≡ drop (1 + 3 * count_in nodes_after) nodes
  pub out_long : length after ≡ length out
  pub out_behind : drop (1 + (1 + w) * n) after ≡ drop (1 + (1 + w) * n) out

-- the query that xs say is answered, and nothing stood against it
pub record AnsweredAll (m xs : List ℕ) (work : ℕ) (nodes nodes_after out after : List ℕ) (n : ℕ) : Type 0 where
  pub none : refusal m xs work (length nodes) (length out) ≡ None
  pub query : queries.Query
  pub width : ℕ
  pub reads : parse (widths_in m) xs ≡ parsed query width []
  pub answers : Answers m query width nodes nodes_after out after n

-- what is asked is answered; or it is turned away by the first refusal that applies, and both lent rows are as they were
abbrev pub Asked : List ℕ → List ℕ → ℕ → List ℕ → List ℕ → List ℕ → List ℕ → Result ℕ Refusal → Type 0
Asked m xs work nodes nodes_after out after (Ok n) = AnsweredAll m xs work nodes nodes_after out after n
Asked m xs work nodes nodes_after out after (Err e) =
    (refusal m xs work (length nodes) (length out) ≡ Some e) × (nodes_after ≡ nodes) × (after ≡ out)

-- the question weighs what is said, and the lent rows are long enough for it
pub record Ready (a : Weighed) (work nodes out : ℕ) : Type 0 where
  pub query : queries.Query
  pub reads : parse (widths_in a.question.tables.memory.now) a.question.signs.now ≡ parsed query a.question.width []
  pub weighs : a.weight ≡ weight (tables_in a.question.tables.memory.now) query
  pub light : a.weight ≤ 8192
  pub work_long : 9 * a.weight ≤ work
  pub nodes_long : 7 + 6 * a.weight ≤ nodes
  pub out_long : 1 + 9 * a.weight ≤ out

-- it is the one that xs say over the tables in m
pub record Read (m xs : List ℕ) (a : Weighed) : Type 0 where
  pub memory : a.question.tables.memory.now ≡ m
  pub signs : a.question.signs.now ≡ xs

-- nothing stands against the question, or the first refusal that applies
abbrev pub Readied : List ℕ → List ℕ → ℕ → ℕ → ℕ → Result Weighed Refusal → Type 0
Readied m xs work nodes out (Ok a) = Read m xs a × Ready a work nodes out
Readied m xs work nodes out (Err e) = refusal m xs work nodes out ≡ Some e

-- whatever query the question is, it is answered
abbrev pub Given : Question → List ℕ → List ℕ → List ℕ → List ℕ → ℕ → Type 0
Given a nodes nodes_after out after n = (q : queries.Query) (w : ℕ) → parse (widths_in a.tables.memory.now) a.signs.now ≡ parsed q w [] →
    Answers a.tables.memory.now q w nodes nodes_after out after n
