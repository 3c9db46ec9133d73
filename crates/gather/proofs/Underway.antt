-- Equal neighbours brought together, entry by entry. Assumes nothing.
use Rattle.std.proofs.Common.{◌≡◌, ℕ, ◌+◌, ◌-◌, ◌*◌, ◌<◌, ◌≤◌, true, false, List, [], ◌∷◌, ◌++◌, length, get_or, drop, sym, refl, ap, ◌∙◌, subst, arith}
use Rattle.std.specs.List.{AllByRecursion}
use Rattle.std.proofs.ByRecursion.{All-get_or, All-drop, All-push, All-weaker}
use Rattle.std.proofs.lemmas.List.{append_assoc, get_or-map, drop_more, drop_all, nil_from_length}
use Rattle.tables.specs.Tables.{before}
use Rattle.tables.proofs.RowOrder.{before_else}
use Rattle.query.specs.Semiring.{Count}
use Rattle.circuit.specs.declared.Node.TheVariants.{Or}
use Rattle.circuit.specs.Expr.{Expr, or, value}
use Rattle.circuit.specs.Store.{nodes_in, expr_of}
use Rattle.circuit.specs.Held.{count_in}
use Rattle.circuit.specs.Joins.{CountsAs}
use Rattle.circuit.specs.Lent.{SameMemory}
use Rattle.circuit.specs.declared.finding.Circuit.{Circuit}
use Rattle.circuit.proofs.NodeLists.{length_nodes_in}
use Rattle.provenance.specs.Answer.{Answer, RowsRise, none, one}
use Rattle.gather.specs.declared.region.Entry.{Entry}
use Rattle.gather.specs.Gathered.{rows_apart, rows_of, answer_of, answers_in, Wide, InOrder, Ready, Merged, Extended}
use Rattle.gather.proofs.Together.{Together, together_same, together_then, together_joined}
use Rattle.gather.proofs.Distinct.{apart, gathered}
use Rattle.gather.proofs.Extending.{drop_further, extended_none, extended_same, extended_more}
use Rattle.gather.proofs.Rises.{rise_last, rise_push}

-- i of the rows are together: n of them are written to `out`, behind its first number, and one more, `last`, is still to come
pub record Underway (rows : List Answer) (w : ℕ) (m0 m hints0 hints out0 out : List ℕ) (last : Answer) (n i : ℕ) : Type 0 where
  pub few : n < i
  pub within : i ≤ length rows
  pub wide : length last.row ≡ w
  pub at : last.row ≡ get_or (rows_of rows) (i - 1) []
  pub rise : RowsRise (answers_in w n (drop 1 out) ++ last ∷ [])
  pub together : Together (nodes_in m0) (nodes_in m) rows (answers_in w n (drop 1 out) ++ last ∷ drop i rows)
  pub known : AllByRecursion (λ (a : Answer). a.node < count_in m) (answers_in w n (drop 1 out))
  pub counted : last.node < count_in m
  pub store : Extended m0 m hints0 hints (i - (n + 1))
  pub long : length out ≡ length out0
  pub behind : drop (1 + (1 + w) * n) out ≡ drop (1 + (1 + w) * n) out0

answers_none : (w : ℕ) (xs : List ℕ) → answers_in w 0 xs ≡ []
unfolding rows_apart
answers_none w xs = refl

value_or : (v : ℕ → ℕ) (a b : Expr) → value Count v (or a b) ≡ value Count v a + value Count v b
unfolding value
value_or v a b = refl

module _ (rows : List Answer) (w : ℕ) (m0 hints0 out0 : List ℕ) (order : InOrder rows) (all_wide : Wide w rows) (ready : Ready rows w m0 out0) where
  abbrev row_at : ℕ → Answer
  row_at i = get_or rows i (record { row = []; node = 0 })

  row_of_at : (i : ℕ) → i < length rows → (row_at i).row ≡ get_or (rows_of rows) i []
  row_of_at i h = sym (get_or-map (λ (a : Answer). a.row) rows i (record { row = []; node = 0 }) [] h)

  pub underway_none : (last : Answer) → 0 < length rows → last ≡ row_at 0 → Underway rows w m0 m0 hints0 hints0 out0 out0 last 0 1
  underway_none last some is =
      let empty : answers_in w 0 (drop 1 out0) ≡ [] = answers_none w (drop 1 out0) in
      let whole : last ∷ drop 1 rows ≡ rows = sym (drop_more rows 0 (record { row = []; node = 0 }) some ∙ ap (λ (a : Answer). a ∷ drop 1 rows) (sym is)) in
      record {
        few = omega arith;
        within = omega arith;
        wide = rw is (All-get_or (λ (a : Answer). length a.row ≡ w) rows 0 (record { row = []; node = 0 }) some all_wide);
        at = rw is (row_of_at 0 some);
        rise = rw empty one;
        together = rw (empty, whole) (together_same (nodes_in m0) rows rows (λ f. refl));
        known = rw empty tt;
        counted = rw is (All-get_or (λ (a : Answer). a.node < count_in m0) rows 0 (record { row = []; node = 0 }) some ready.known);
        store = extended_none m0 hints0 (1 - (0 + 1)) ready.proper;
        long = refl;
        behind = refl;
      }

  module _ (m hints out : List ℕ) (last : Answer) (n i : ℕ) (g : Underway rows w m0 m hints0 hints out0 out last n i) where
    further : drop (1 + (1 + w) * (n + 1)) out ≡ drop (1 + (1 + w) * (n + 1)) out0
    further = drop_further (1 + (1 + w) * n) (1 + (1 + w) * (n + 1)) out out0 (omega arith) g.behind

    -- y is the next row
    module _ (h : i < length rows) (y : Answer) (is : y ≡ row_at i) where
      next_known : y.node < count_in m0
      next_known = rw is (All-get_or (λ (a : Answer). a.node < count_in m0) rows i (record { row = []; node = 0 }) h ready.known)

      pub underway_counted : (last.node < count_in m) × (y.node < count_in m)
      underway_counted = (g.counted, let k = next_known in let more = g.store.more in omega arith)

      next_row : y.row ≡ get_or (rows_of rows) i []
      next_row = rw is (row_of_at i h)

      left : drop i rows ≡ y ∷ drop (i + 1) rows
      left = rw is (drop_more rows i (record { row = []; node = 0 }) h)

      -- it is equal to the last one
      pub underway_joins : last.row ≡ y.row → (m1 hints1 : List ℕ) (q : ℕ) → Extended m m1 hints hints1 1 → CountsAs m m1 (Or last.node y.node) q →
          Underway rows w m0 m1 hints0 hints1 out0 out (record { row = last.row; node = q }) n (i + 1)
      underway_joins same m1 hints1 q extends counts =
          let few = g.few in
          let more0 = g.store.more in
          let more1 = extends.more in
          let done : List Answer = answers_in w n (drop 1 out) in
          let both : (v : ℕ → ℕ) → value Count v (expr_of (nodes_in m1) q) ≡ value Count v (expr_of (nodes_in m) last.node) + value Count v (expr_of (nodes_in m) y.node) =
          λ v. counts.alike v ∙ value_or v (expr_of (nodes_in m) last.node) (expr_of (nodes_in m) y.node) in
          let done-stays : AllByRecursion (λ (x : Answer). expr_of (nodes_in m1) x.node ≡ expr_of (nodes_in m) x.node) done =
          All-weaker (λ (x : Answer). x.node < count_in m) (λ (x : Answer). expr_of (nodes_in m1) x.node ≡ expr_of (nodes_in m) x.node) (λ x l. extends.same x.node l) done g.known in
          let left-stays : AllByRecursion (λ (x : Answer). expr_of (nodes_in m1) x.node ≡ expr_of (nodes_in m) x.node) (drop (i + 1) rows) =
          All-weaker (λ (x : Answer). x.node < count_in m0) (λ (x : Answer). expr_of (nodes_in m1) x.node ≡ expr_of (nodes_in m) x.node) (λ x l. extends.same x.node (omega arith)) (drop (i + 1) rows)
          (All-drop (λ (x : Answer). x.node < count_in m0) (i + 1) rows ready.known) in
          let before : Together (nodes_in m0) (nodes_in m) rows (done ++ last ∷ y ∷ drop (i + 1) rows) =
          subst (λ (xs : List Answer). Together (nodes_in m0) (nodes_in m) rows (done ++ last ∷ xs)) left g.together in
          record {
            few = omega arith;
            within = omega arith;
            wide = g.wide;
            at = same ∙ next_row ∙ ap (λ (k : ℕ). get_or (rows_of rows) k []) (omega arith);
            rise = rise_last done last (record { row = last.row; node = q }) refl g.rise;
            together = together_then before (together_joined (nodes_in m) (nodes_in m1) done (drop (i + 1) rows) last (y) q same both done-stays left-stays);
            known = All-weaker (λ (x : Answer). x.node < count_in m) (λ (x : Answer). x.node < count_in m1) (λ x l. omega arith) done g.known;
            counted = counts.counted;
            store = extended_more m0 m m1 hints0 hints hints1 (i - (n + 1)) (i + 1 - (n + 1)) g.store extends (omega arith);
            long = g.long;
            behind = g.behind;
          }

      -- it is another
      pub underway_apart : (last.row ≡ y.row → ⊥) → (out1 : List ℕ) → length out1 ≡ length out →
          answers_in w (n + 1) (drop 1 out1) ≡ answers_in w n (drop 1 out) ++ last ∷ [] → drop (1 + (1 + w) * (n + 1)) out1 ≡ drop (1 + (1 + w) * (n + 1)) out →
          Underway rows w m0 m hints0 hints out0 out1 y (n + 1) (i + 1)
      underway_apart other out1 long written behind =
          let few = g.few in
          let k = underway_counted.1 in
          let done : List Answer = answers_in w n (drop 1 out) in
          let no_less : before y.row last.row ≡ false =
          rw (next_row, g.at) (subst (λ (k : ℕ). before (get_or (rows_of rows) k []) (get_or (rows_of rows) (i - 1) []) ≡ false) (omega arith) (order (i - 1) (omega arith))) in
          let less : before last.row y.row ≡ true = before_else last.row y.row (apart last.row y.row other) no_less in
          record {
            few = omega arith;
            within = omega arith;
            wide = rw is (All-get_or (λ (a : Answer). length a.row ≡ w) rows i (record { row = []; node = 0 }) h all_wide);
            at = next_row ∙ ap (λ (k : ℕ). get_or (rows_of rows) k []) (omega arith);
            rise = rw written (rise_push done last (y) g.rise less);
            together = rw (written, append_assoc done (last ∷ []) (y ∷ drop (i + 1) rows), ← left) g.together;
            known = rw written (All-push (λ (a : Answer). a.node < count_in m) done last g.known g.counted);
            counted = k;
            store = extended_same m0 m hints0 hints (i - (n + 1)) (i + 1 - (n + 1 + 1)) g.store (omega arith);
            long = long ∙ g.long;
            behind = behind ∙ further;
          }

    pub underway_all : i ≡ length rows → (out1 : List ℕ) →
        answers_in w (n + 1) (drop 1 out1) ≡ answers_in w n (drop 1 out) ++ last ∷ [] → drop (1 + (1 + w) * (n + 1)) out1 ≡ drop (1 + (1 + w) * (n + 1)) out →
        Merged rows w m0 m hints0 hints out0 out1 (n + 1)
    underway_all end out1 written behind =
        let few = g.few in
        let done : List Answer = answers_in w n (drop 1 out) in
        let none_left : drop i rows ≡ [] = drop_all i rows (omega arith) in
        let long : length (nodes_in m) ≡ count_in m = length_nodes_in m in
        record {
          few = omega arith;
          answer = rw written (gathered (nodes_in m0) (nodes_in m) rows (done ++ last ∷ []) g.rise (subst (λ (xs : List Answer). Together (nodes_in m0) (nodes_in m) rows (done ++ last ∷ xs)) none_left g.together)
              (subst (λ (k : ℕ). AllByRecursion (λ (a : Answer). a.node < k) (done ++ last ∷ [])) (sym long) (All-push (λ (a : Answer). a.node < count_in m) done last g.known g.counted)));
          store = extended_same m0 m hints0 hints (i - (n + 1)) (length rows - (n + 1)) g.store (omega arith);
          behind = behind ∙ further;
        }

  pub merged_none : length rows ≡ 0 → Merged rows w m0 m0 hints0 hints0 out0 out0 0
  merged_none e =
      let empty : answers_in w 0 (drop 1 out0) ≡ [] = answers_none w (drop 1 out0) in
      let no_rows : rows ≡ [] = nil_from_length rows e in
      record {
        few = omega arith;
        answer = rw empty (gathered (nodes_in m0) (nodes_in m0) rows [] none (subst (Together (nodes_in m0) (nodes_in m0) rows) no_rows (together_same (nodes_in m0) rows rows (λ f. refl))) tt);
        store = extended_none m0 hints0 (length rows - 0) ready.proper;
        behind = refl;
      }

-- the same of a circuit, which stays in the memory that it was lent
abbrev pub Merging : List Answer → ℕ → Circuit → Circuit → List ℕ → List ℕ → Answer → ℕ → ℕ → Type 0
Merging rows w c0 c out0 out last n i = Underway rows w c0.nodes.now c.nodes.now c0.hints.now c.hints.now out0 out last n i × SameMemory c0 c

pub memory_same : (c : Circuit) → SameMemory c c
memory_same c = record { nodes = refl; hints = refl }

pub memory_over : (c0 c c1 : Circuit) → SameMemory c0 c → SameMemory c c1 → SameMemory c0 c1
memory_over c0 c c1 a b = record { nodes = b.nodes ∙ a.nodes; hints = b.hints ∙ a.hints }

pub merging_meets : (rows : List Answer) (w : ℕ) (c0 c c1 : Circuit) (out0 out out1 : List ℕ) (last last1 : Entry) (n n1 i : ℕ) → c ≡ c1 → out ≡ out1 → last ≡ last1 → n ≡ n1 →
    Merging rows w c0 c1 out0 out1 (answer_of last1) n1 i → Merging rows w c0 c out0 out (answer_of last) n i
merging_meets rows w c0 c c1 out0 out out1 last last1 n n1 i a b e f g = rw (a, b, e, f) g
