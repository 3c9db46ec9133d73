-- Evaluating the chosen nodes from the first up. Assumes nothing.
use Rattle.std.proofs.Common.{◌≡◌, ℕ, ◌+◌, ◌<◌, Bool, true, false, List, [], ◌∷◌, ◌++◌, length, get_or, None, Err, sym, refl, ap, ◌∙◌, subst, ⊎_elim, arith}
use Rattle.std.specs.Option.{ok_or}
use Rattle.std.proofs.lemmas.Bool.{cases_eq}
use Rattle.std.proofs.lemmas.List.{get_or_append_left, get_or_push, length_push}
use Rattle.circuit.specs.declared.Node.{Node}
use Rattle.circuit.specs.declared.Node.TheVariants.{Never, Always, Mark, Or, Both}
use Rattle.circuit.specs.Store.{nodes_in}
use Rattle.circuit.specs.Held.{count_in, NamesEarlier}
use Rattle.circuit.proofs.NodeLists.{sound_names}
use Rattle.semiring.specs.declared.errors.ReadError.{ReadError}
use Rattle.semiring.specs.declared.errors.ReadError.TheVariants.{Overflow}
use Rattle.semiring.specs.Algebra.{Algebra}
use Rattle.semiring.specs.Needed.{Names}
use Rattle.semiring.specs.Refusals.{given, value_at}
use Rattle.semiring.specs.Parts.{Chosen, MarksValued, Valued, node_value, by_place, Evaluated, FirstLarge, NotEvaluated}
use Rattle.semiring.proofs.NodeValues.{names_below, worth_node, node_value_same}

-- a node whose mark is one of n values
pub node_valued : (n : ℕ) (x : Node) → ((k : ℕ) → x ≡ Mark k → k < n) → Valued n x
node_valued n Never h = tt
node_valued n Always h = tt
node_valued n (Mark k) h = h k refl
node_valued n (Or i j) h = tt
node_valued n (Both i j) h = tt

module _ {V : Type 0} (a : Algebra V) (vs : List V) (m : List ℕ) (bs : List Bool) where
  module _ (p : ℕ) (ds : List V) (d : Evaluated a vs m bs p ds) where
    pushed : (x : V) → (get_or bs p false ≡ true → (x ≡ value_at a vs m p) × a.fits (value_at a vs m p)) → Evaluated a vs m bs (p + 1) (ds ++ x ∷ [])
    pushed x new =
        let l = d.long in
        record {
          long = length_push ds x ∙ omega arith;
          each = λ i h t. ⊎_elim
              (λ e. subst (λ (k : ℕ). get_or (ds ++ x ∷ []) k a.zero ≡ value_at a vs m k) (sym e)
              (get_or_push ds x a.zero p l ∙ (new (subst (λ (k : ℕ). get_or bs k false ≡ true) e t)).0))
              (λ e. get_or_append_left ds (x ∷ []) a.zero i (omega arith) ∙ d.each i (omega arith) t)
              (cases_eq i p);
          fit = λ i h t. ⊎_elim
              (λ e. subst (λ (k : ℕ). a.fits (value_at a vs m k)) (sym e) (new (subst (λ (k : ℕ). get_or bs k false ≡ true) e t)).1)
              (λ e. d.fit i (omega arith) t)
              (cases_eq i p);
        }

    -- a node n that is chosen; zs are the values at hand
    module _ (c : Chosen m bs) (within : p < length bs) (here : get_or bs p false ≡ true) (zs : List V) (n : Node) (e : zs ≡ ds)
        (f : n ≡ get_or (nodes_in m) p Never) where
      h : p < count_in m
      h = let long = c.long in omega arith

      names : NamesEarlier p (get_or (nodes_in m) p Never)
      names = sound_names m c.sound p h

      pub names_done : NamesEarlier (length zs) n
      names_done = subst (λ (k : ℕ). NamesEarlier k n) (sym (ap length e ∙ d.long)) (subst (NamesEarlier p) (sym f) names)

      pub mark_valued : MarksValued (length vs) m bs → Valued (length vs) n
      mark_valued valued = node_valued (length vs) n (λ k g. valued p k (record { chosen = here; mark = sym f ∙ g }))

      node_is : node_value a (given a vs) (by_place a zs) n ≡ value_at a vs m p
      node_is =
          let at : Node = get_or (nodes_in m) p Never in
          let below : (j : ℕ) → Names at j → by_place a ds j ≡ value_at a vs m j =
          λ j t. d.each j (names_below p at names j t) (c.closed p j here t) in
          ap (λ (l : List V). node_value a (given a vs) (by_place a l) n) e
          ∙ ap (node_value a (given a vs) (by_place a ds)) f
          ∙ node_value_same a (given a vs) (given a vs) (by_place a ds) (value_at a vs m) at (λ k g. refl) below
          ∙ sym (worth_node a m c.sound (given a vs) p h)

      pub evaluated_more : (x : V) → let y : V = node_value a (given a vs) (by_place a zs) n in
          a.fits y × (x ≡ y) → (after : List V) → after ≡ ds ++ x ∷ [] → Evaluated a vs m bs (p + 1) after
      evaluated_more x got after q =
          subst (Evaluated a vs m bs (p + 1)) (sym q) (pushed x (λ _. (got.1 ∙ node_is, subst a.fits node_is got.0)))

      pub first_large : (a.fits (node_value a (given a vs) (by_place a zs) n) → ⊥) → FirstLarge a vs m bs p
      first_large large = record { chosen = here; large = λ fits. large (subst a.fits (sym node_is) fits); before = d.fit }

  -- the error that says so
  pub large_told : (e : ReadError) (p : ℕ) → Err e ≡ ok_or {T = V} None (Overflow p) → FirstLarge a vs m bs p → NotEvaluated a vs m bs e
  large_told e p f large =
      let g : e ≡ Overflow p = cc in
      subst (NotEvaluated a vs m bs) (sym g) large
