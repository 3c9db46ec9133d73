-- Nodes expanded from the first on. Assumes nothing.
use Rattle.std.proofs.Common.{◌≡◌, ℕ, ◌+◌, ◌<◌, ◌≤◌, Bool, true, false, ◌⊎◌, List, [], ◌∷◌, ◌++◌, map, length, get_or, Err, Result, sym, refl, ap, ◌∙◌, subst, ap₂, inl, inr, arith}
use lib.ListN.{length-map}
use Rattle.std.proofs.lemmas.List.{get_or_push, get_or_append_left, length_push, map_push}
use Rattle.std.proofs.lemmas.Bool.{false≢true, cases_eq, cases_Bool}
use Rattle.circuit.specs.declared.Node.{Node}
use Rattle.circuit.specs.declared.Node.TheVariants.{Never, Always, Mark, Or, Both}
use Rattle.circuit.specs.Store.{nodes_in}
use Rattle.circuit.specs.Held.{count_in, Sound, NamesEarlier, stands}
use Rattle.circuit.proofs.NodeLists.{sound_names}
use Rattle.provenance.specs.Polynomial.{Monomial, sum, multiplied, normal}
use Rattle.polynomial.specs.declared.Polynomial.{Polynomial}
use Rattle.polynomial.specs.declared.error.PolynomialError.{PolynomialError}
use Rattle.polynomial.specs.Told.{poly, Told}
use Rattle.polynomial.specs.Rise.{FitsIn}
use Rattle.polynomial.proofs.Sizes.{size_some}
use Rattle.polynomial.proofs.ProductSplit.{told_part}
use Rattle.ways.specs.Passes.{normal_at, node_at, OfNamed, Covered, Wanted, node_normal, next_normal}
use Rattle.ways.proofs.Nothing.{normal_of}

next_skip : (m : List ℕ) (ws : List Bool) (qs : List (List Monomial)) → get_or ws (length qs) false ≡ false → next_normal m ws qs ≡ []
next_skip m ws qs e = rw e

next_take : (m : List ℕ) (ws : List Bool) (qs : List (List Monomial)) → get_or ws (length qs) false ≡ true → next_normal m ws qs ≡ node_normal qs (node_at m (length qs))
next_take m ws qs e = rw e

-- qs are the normal forms of the first nodes, of those that are wanted or come to nothing
pub record Expanded (m : List ℕ) (ws : List Bool) (qs : List (List Monomial)) : Type 0 where
  each : (j : ℕ) → j < length qs → Covered m ws j → get_or qs j [] ≡ normal_at m j

pub expanded_none : (m : List ℕ) (ws : List Bool) → Expanded m ws []
expanded_none m ws = record { each = λ j h c. absurd (omega arith) }

module _ (m : List ℕ) (ws : List Bool) (qs : List (List Monomial)) (x : Expanded m ws qs) where
  node_expanded : (n : Node) → NamesEarlier (length qs) n → OfNamed (Covered m ws) n → node_normal qs n ≡ normal (stands (nodes_in m) n)
  unfolding normal
  node_expanded Never h c = refl
  node_expanded Always h c = refl
  node_expanded (Mark k) h c = refl
  node_expanded (Or a b) h c = ap₂ sum (x.each a h.0 c.0) (x.each b h.1 c.1)
  node_expanded (Both a b) h c = ap₂ multiplied (x.each a h.0 c.0) (x.each b h.1 c.1)

  module _ (i : ℕ) (s : Sound m) (w : Wanted m i ws) (h : length qs ≤ i) (k : i < count_in m) where
    pub next_is : Covered m ws (length qs) → next_normal m ws qs ≡ normal_at m (length qs)
    next_is c = go (cases_Bool (get_or ws (length qs) false))
      where
        go : (get_or ws (length qs) false ≡ true) ⊎ (get_or ws (length qs) false ≡ false) → next_normal m ws qs ≡ normal_at m (length qs)
        go (inl t) =
            next_take m ws qs t
            ∙ node_expanded (node_at m (length qs)) (sound_names m s (length qs) (omega arith)) (w.named (length qs) h t)
            ∙ sym (normal_of m s (length qs) (omega arith) (node_at m (length qs)) refl)
        go (inr f) = next_skip m ws qs f ∙ sym (c f)

    pub next_fits : (room : ℕ) → FitsIn room (normal_at m i) → FitsIn room (next_normal m ws qs)
    next_fits room f = go (cases_Bool (get_or ws (length qs) false))
      where
        go : (get_or ws (length qs) false ≡ true) ⊎ (get_or ws (length qs) false ≡ false) → FitsIn room (next_normal m ws qs)
        go (inl t) = subst (FitsIn room) (sym (next_is (λ e. absurd (false≢true (sym e ∙ t))))) (w.part (length qs) h t room f)
        go (inr e) = subst (FitsIn room) (sym (next_skip m ws qs e)) (record { sized = omega (arith, size_some (normal_at m i), f.sized); small = tt })

    pub expanded_more : (q : List Monomial) → q ≡ next_normal m ws qs → Expanded m ws (qs ++ q ∷ [])
    expanded_more q e = record { each = λ j l c. go j l c (cases_eq j (length qs)) }
      where
        go : (j : ℕ) → j < length (qs ++ q ∷ []) → Covered m ws j → (j ≡ length qs) ⊎ (j ≡ length qs → ⊥) → get_or (qs ++ q ∷ []) j [] ≡ normal_at m j
        go j l c (inl f) =
            get_or_push qs q [] j (sym f) ∙ e ∙ next_is (subst (Covered m ws) f c) ∙ ap (normal_at m) (sym f)
        go j l c (inr f) =
            let n = length_push qs q in
            get_or_append_left qs (q ∷ []) [] j (omega arith) ∙ x.each j (omega arith) c

-- ps are the polynomials of the first k nodes
pub record Making (m : List ℕ) (ws : List Bool) (ps : List Polynomial) (k : ℕ) : Type 0 where
  pub long : length ps ≡ k
  done : Expanded m ws (map poly ps)

pub making_none : (m : List ℕ) (ws : List Bool) (ps : List Polynomial) → ps ≡ [] → Making m ws ps 0
making_none m ws ps e =
    record { long = ap length e; done = subst (λ (z : List Polynomial). Expanded m ws (map poly z)) (sym e) (expanded_none m ws) }

module _ (m : List ℕ) (ws : List Bool) (ps : List Polynomial) (k i : ℕ) (x : Making m ws ps k) (s : Sound m) (w : Wanted m i ws) (h : k ≤ i) (c : i < count_in m)
    (sl : List Polynomial) (is : sl ≡ ps) where
  made_long : length (map poly ps) ≡ k
  made_long = length-map ps poly ∙ x.long

  here : next_normal m ws (map poly sl) ≡ next_normal m ws (map poly ps)
  here = ap (λ (z : List Polynomial). next_normal m ws (map poly z)) is

  pub making_more : (p : Polynomial) → poly p ≡ next_normal m ws (map poly sl) → (vs : List Polynomial) → vs ≡ ps ++ p ∷ [] → Making m ws vs (k + 1)
  making_more p t vs e =
      record {
        long = ap length e ∙ length_push ps p ∙ ap (λ (z : ℕ). z + 1) x.long;
        done = subst (Expanded m ws) (sym (ap (map poly) e ∙ map_push poly ps p))
            (expanded_more m ws (map poly ps) x.done i s w (omega (arith, made_long)) c (poly p) (t ∙ here));
      }

  pub making_fails : (room : ℕ) (e : PolynomialError) → Told room (next_normal m ws (map poly sl)) (Err e) → Told room (normal_at m i) (Err e)
  making_fails room e t =
      told_part room (next_normal m ws (map poly sl)) (normal_at m i)
      (λ f. subst (FitsIn room) (sym here) (next_fits m ws (map poly ps) x.done i s w (omega (arith, made_long)) c room f)) e t

  pub making_all : k ≡ i → (room : ℕ) (r : Result Polynomial PolynomialError) → Told room (next_normal m ws (map poly sl)) r → Told room (normal_at m i) r
  making_all e room r t =
      subst (λ (z : List Monomial). Told room z r)
      (here ∙ next_is m ws (map poly ps) x.done i s w (omega (arith, made_long)) c (subst (Covered m ws) (sym (made_long ∙ e)) w.last)
      ∙ ap (normal_at m) (made_long ∙ e)) t
