-- Which nodes have to be expanded. Assumes nothing.
use Rattle.std.proofs.Common.{◌≡◌, ℕ, ◌+◌, ◌-◌, ◌<◌, ◌≤◌, Bool, true, false, not, ◌≢◌, ◌⊎◌, List, [], length, get_or, set, replicate, sym, refl, ap, ◌∙◌, subst, inl, inr, arith, length-set}
use lib.ListN.{length-replicate}
use Rattle.std.proofs.lemmas.Bool.{false≢true, not-true, not-false, cases_eq}
use Rattle.std.proofs.lemmas.List.{get_or-set_same, get_or-set_other, get_or-replicate}
use Rattle.circuit.specs.declared.Node.{Node}
use Rattle.circuit.specs.declared.Node.TheVariants.{Never, Always, Mark, Or, Both}
use Rattle.circuit.specs.Store.{nodes_in, expr_of}
use Rattle.circuit.specs.Held.{count_in, Sound, NamesEarlier}
use Rattle.circuit.proofs.NodeLists.{sound_names}
use Rattle.provenance.specs.Polynomial.{Monomial, normal, sum, multiplied}
use Rattle.provenance.proofs.Rising.{Rising, normal_rising}
use Rattle.polynomial.specs.Rise.{FitsIn}
use Rattle.polynomial.proofs.ProductSplit.{none_times, times_none, fits_left, fits_right}
use Rattle.polynomial.proofs.Factors.{fits_first, fits_second}
use Rattle.ways.specs.Passes.{normal_at, node_at, Empties, OfNamed, wanted_with, Covered, Wanted}
use Rattle.ways.proofs.Nothing.{normal_of}

-- node j does not come to nothing, and is no larger than node i
record Part (m : List ℕ) (i j : ℕ) : Type 0 where
  some : normal_at m j ≡ [] → ⊥
  fits : (room : ℕ) → FitsIn room (normal_at m i) → FitsIn room (normal_at m j)

abbrev Parts : List ℕ → ℕ → ℕ → ℕ → Type 0
Parts m i a b = ((normal_at m a ≡ [] → ⊥) → Part m i a) × ((normal_at m b ≡ [] → ⊥) → Part m i b)

rising_at : (m : List ℕ) (j : ℕ) → Rising (normal_at m j)
rising_at m j = normal_rising (expr_of (nodes_in m) j)

-- what a part of node i names is a part of it
part_or : (m : List ℕ) (i k a b : ℕ) → Sound m → k < count_in m → node_at m k ≡ Or a b → Part m i k → Parts m i a b
unfolding normal
part_or m i k a b s h n p =
    let e : normal_at m k ≡ sum (normal_at m a) (normal_at m b) = normal_of m s k h (Or a b) n in (
      (λ z. record {
        some = z;
        fits = λ room f.
            fits_left room (normal_at m a) (normal_at m b) (rising_at m a) (rising_at m b) (subst (FitsIn room) e (p.fits room f));
      }),
      λ z. record { some = z; fits = λ room f. fits_right room (normal_at m a) (normal_at m b) (subst (FitsIn room) e (p.fits room f)) },
    )

part_both : (m : List ℕ) (i k a b : ℕ) → Sound m → k < count_in m → node_at m k ≡ Both a b → Part m i k → Parts m i a b
unfolding normal
part_both m i k a b s h n p =
    let e : normal_at m k ≡ multiplied (normal_at m a) (normal_at m b) = normal_of m s k h (Both a b) n in
    let left : normal_at m a ≡ [] → ⊥ = λ z. p.some (e ∙ ap (λ (x : List Monomial). multiplied x (normal_at m b)) z ∙ none_times (normal_at m b)) in
    let right : normal_at m b ≡ [] → ⊥ = λ z. p.some (e ∙ ap (multiplied (normal_at m a)) z ∙ times_none (normal_at m a)) in (
      (λ z. record {
        some = z;
        fits = λ room f.
            fits_first room (normal_at m a) (normal_at m b) (rising_at m a) (rising_at m b) right (subst (FitsIn room) e (p.fits room f));
      }),
      λ z. record {
        some = z;
        fits = λ room f.
            fits_second room (normal_at m a) (normal_at m b) (rising_at m a) (rising_at m b) left (subst (FitsIn room) e (p.fits room f));
      },
    )

-- what wanted nodes from place k on name is wanted, or comes to nothing
pub record Wanting (m : List ℕ) (i : ℕ) (ws : List Bool) (k : ℕ) : Type 0 where
  pub long : length ws ≡ i + 1
  end : Covered m ws i
  named : (j : ℕ) → k ≤ j → j ≤ i → get_or ws j false ≡ true → OfNamed (Covered m ws) (node_at m j)
  part : (j : ℕ) → j ≤ i → get_or ws j false ≡ true → Part m i j

named_map : (P Q : ℕ → Type 0) → ((x : ℕ) → P x → Q x) → (n : Node) → OfNamed P n → OfNamed Q n
named_map P Q f Never h = tt
named_map P Q f Always h = tt
named_map P Q f (Mark k) h = tt
named_map P Q f (Or a b) h = (f a h.0, f b h.1)
named_map P Q f (Both a b) h = (f a h.0, f b h.1)

set_cases : (P : Bool → Type 0) (ws : List Bool) (a j : ℕ) (v : Bool) → a < length ws → (j ≡ a → P v) → (j ≢ a → P (get_or ws j false)) →
    P (get_or (set ws a v) j false)
set_cases P ws a j v h same other = go (cases_eq j a)
  where
    go : (j ≡ a) ⊎ (j ≡ a → ⊥) → P (get_or (set ws a v) j false)
    go (inl e) = subst P (sym (ap (λ (z : ℕ). get_or (set ws a v) z false) e ∙ get_or-set_same ws a v false h)) (same e)
    go (inr e) = subst P (sym (get_or-set_other ws a j v false e)) (other e)

abbrev want : List Bool → ℕ → List Bool → List Bool
want es a ws = set ws a (not (get_or es a false))

module _ (m : List ℕ) (i : ℕ) (es : List Bool) (E : Empties m (i + 1) es) where
  unwanted : (a : ℕ) → a ≤ i → not (get_or es a false) ≡ false → normal_at m a ≡ []
  unwanted a h e = (E.each a (omega arith)).0 (not-false (get_or es a false) e)

  wanted_some : (a : ℕ) → a ≤ i → not (get_or es a false) ≡ true → normal_at m a ≡ [] → ⊥
  wanted_some a h e z = false≢true (sym (not-true (get_or es a false) e) ∙ (E.each a (omega arith)).1 z)

  want_covers : (ws : List Bool) → length ws ≡ i + 1 → (a j : ℕ) → a ≤ i → (j ≢ a → Covered m ws j) → Covered m (want es a ws) j
  want_covers ws l a j h c =
      set_cases (λ b. b ≡ false → normal_at m j ≡ []) ws a j (not (get_or es a false)) (omega arith)
      (λ e f. subst (λ (z : ℕ). normal_at m z ≡ []) (sym e) (unwanted a h f)) c

  pub wanting_start : (ws : List Bool) → ws ≡ want es i (replicate (i + 1) false) → Wanting m i ws (i + 1)
  wanting_start ws e =
      let l : length (replicate (i + 1) false) ≡ i + 1 = length-replicate (i + 1) false in
      subst (λ (z : List Bool). Wanting m i z (i + 1)) (sym e)
      (record {
        long = length-set (replicate (i + 1) false) i (not (get_or es i false)) ∙ l;
        end = want_covers (replicate (i + 1) false) l i i (omega arith) (λ n. absurd (n refl));
        named = λ j h k _. absurd (omega arith);
        part = λ j h. set_cases (λ b. b ≡ true → Part m i j) (replicate (i + 1) false) i j (not (get_or es i false)) (omega arith)
            (λ f g. subst (Part m i) (sym f) (record { some = wanted_some i (omega arith) g; fits = λ room x. x }))
            (λ f g. absurd (false≢true (sym (get_or-replicate (i + 1) j false false (omega arith)) ∙ g)));
      })

  module _ (ws : List Bool) (k : ℕ) (w : Wanting m i ws (k + 1)) (h : k ≤ i) where
    pub wanting_skip : get_or ws k false ≡ false → Wanting m i ws k
    wanting_skip e =
        record {
          long = w.long;
          end = w.end;
          part = w.part;
          named = λ j l u t. w.named j (past j l t (cases_eq j k)) u t;
        }
      where
        past : (j : ℕ) → k ≤ j → get_or ws j false ≡ true → (j ≡ k) ⊎ (j ≡ k → ⊥) → k + 1 ≤ j
        past j l t (inl f) = absurd (false≢true (sym e ∙ ap (λ (z : ℕ). get_or ws z false) (sym f) ∙ t))
        past j l t (inr f) = omega arith

    two : (a b : ℕ) → a < k → b < k → ((normal_at m a ≡ [] → ⊥) → Part m i a) → ((normal_at m b ≡ [] → ⊥) → Part m i b) →
        ((zs : List Bool) → Covered m zs a → Covered m zs b → OfNamed (Covered m zs) (node_at m k)) →
        Wanting m i (want es b (want es a ws)) k
    two a b ha hb pa pb here =
        record {
          long = length-set vs b (not (get_or es b false)) ∙ vl;
          end = covers i w.end;
          named = λ j l u t. named j l u t (cases_eq j k);
          part = part;
        }
      where
        vs : List Bool
        vs = want es a ws

        vl : length vs ≡ i + 1
        vl = length-set ws a (not (get_or es a false)) ∙ w.long

        covers : (j : ℕ) → Covered m ws j → Covered m (want es b vs) j
        covers j c = want_covers vs vl b j (omega arith) (λ _. want_covers ws w.long a j (omega arith) (λ _. c))

        part : (j : ℕ) → j ≤ i → get_or (want es b vs) j false ≡ true → Part m i j
        part j u =
            set_cases (λ c. c ≡ true → Part m i j) vs b j (not (get_or es b false)) (omega (arith, vl))
            (λ e t. subst (Part m i) (sym e) (pb (wanted_some b (omega arith) t)))
            (λ _. set_cases (λ c. c ≡ true → Part m i j) ws a j (not (get_or es a false)) (omega (arith, w.long))
            (λ e t. subst (Part m i) (sym e) (pa (wanted_some a (omega arith) t)))
            (λ _. w.part j u))

        before : (j : ℕ) → k < j → get_or (want es b vs) j false ≡ true → get_or ws j false ≡ true
        before j u t =
            sym (get_or-set_other ws a j (not (get_or es a false)) false (λ e. omega arith))
            ∙ sym (get_or-set_other vs b j (not (get_or es b false)) false (λ e. omega arith)) ∙ t

        named : (j : ℕ) → k ≤ j → j ≤ i → get_or (want es b vs) j false ≡ true → (j ≡ k) ⊎ (j ≡ k → ⊥) → OfNamed (Covered m (want es b vs)) (node_at m j)
        named j l u t (inl e) =
            subst (λ (z : ℕ). OfNamed (Covered m (want es b vs)) (node_at m z)) (sym e)
            (here (want es b vs) (want_covers vs vl b a (omega arith) (λ _. want_covers ws w.long a a (omega arith) (λ f. absurd (f refl))))
            (want_covers vs vl b b (omega arith) (λ f. absurd (f refl))))
        named j l u t (inr e) = named_map (Covered m ws) (Covered m (want es b vs)) covers (node_at m j) (w.named j (omega arith) u (before j (omega arith) t))

    plain : ((zs : List Bool) → OfNamed (Covered m zs) (node_at m k)) → Wanting m i ws k
    plain here = record { long = w.long; end = w.end; part = w.part; named = λ j l u t. named j l u t (cases_eq j k) }
      where
        named : (j : ℕ) → k ≤ j → j ≤ i → get_or ws j false ≡ true → (j ≡ k) ⊎ (j ≡ k → ⊥) → OfNamed (Covered m ws) (node_at m j)
        named j l u t (inl e) = subst (λ (z : ℕ). OfNamed (Covered m ws) (node_at m z)) (sym e) (here ws)
        named j l u t (inr e) = w.named j (omega arith) u t

    pub wanting_more : Sound m → i < count_in m → get_or ws k false ≡ true → (n : Node) → node_at m k ≡ n → Wanting m i (wanted_with es n ws) k
    wanting_more s c t Never e = plain (λ zs. subst (OfNamed (Covered m zs)) (sym e) tt)
    wanting_more s c t Always e = plain (λ zs. subst (OfNamed (Covered m zs)) (sym e) tt)
    wanting_more s c t (Mark x) e = plain (λ zs. subst (OfNamed (Covered m zs)) (sym e) tt)
    wanting_more s c t (Or a b) e =
        let l : NamesEarlier k (Or a b) = subst (NamesEarlier k) e (sound_names m s k (omega arith)) in
        let p = part_or m i k a b s (omega arith) e (w.part k h t) in
        two a b l.0 l.1 p.0 p.1 (λ zs ca cb. subst (OfNamed (Covered m zs)) (sym e) (ca, cb))
    wanting_more s c t (Both a b) e =
        let l : NamesEarlier k (Both a b) = subst (NamesEarlier k) e (sound_names m s k (omega arith)) in
        let p = part_both m i k a b s (omega arith) e (w.part k h t) in
        two a b l.0 l.1 p.0 p.1 (λ zs ca cb. subst (OfNamed (Covered m zs)) (sym e) (ca, cb))

pub wanting_all : (m : List ℕ) (i : ℕ) (ws : List Bool) → Wanting m i ws 0 → Wanted m i ws
wanting_all m i ws w =
    record { long = w.long; last = w.end; named = λ j h t. w.named j (omega arith) h t; part = λ j h t room f. (w.part j h t).fits room f }

-- the same node and the same place, under other names
pub wanting_at : {m : List ℕ} {i j : ℕ} {ws : List Bool} {k l : ℕ} → j ≡ i → k ≡ l → Wanting m j ws k → Wanting m i ws l
wanting_at {m} {i} {j} {ws} {k} {l} e f w = subst (λ (z : ℕ). Wanting m z ws l) e (subst (λ (z : ℕ). Wanting m j ws z) f w)

-- from place p to the one before it
module _ (m : List ℕ) (i : ℕ) (es ws : List Bool) (p : ℕ) (E : Empties m (i + 1) es) (w : Wanting m i ws p) (some : 0 < p) (within : p ≤ i + 1) where
  pub step_skip : get_or ws (p - 1) false ≡ false → Wanting m i ws (p - 1)
  step_skip e = wanting_skip m i es E ws (p - 1) (wanting_at refl (omega arith) w) (omega arith) e

  pub step_more : Sound m → i < count_in m → get_or ws (p - 1) false ≡ true → (n : Node) → n ≡ node_at m (p - 1) →
      (vs : List Bool) → vs ≡ wanted_with es n ws → Wanting m i vs (p - 1)
  step_more s c t n d vs e =
      subst (λ (z : List Bool). Wanting m i z (p - 1)) (sym e)
      (wanting_more m i es E ws (p - 1) (wanting_at refl (omega arith) w) (omega arith) s c t n (sym d))
