-- A node added to the hints: those that were hinted still are. Assumes nothing.
use Rattle.std.proofs.Common.{◌≡◌, ℕ, suc, ◌+◌, ◌/◌, ◌<◌, ◌≤◌, ltb, ◌≢◌, List, ◌++◌, drop, replicate, length, get_or, set, Some, sym, refl, ap, ◌∙◌, subst, ⊎_elim, mod-lt, arith}
use Rattle.std.proofs.lemmas.List.{length-append, length-replicate, length-drop, get_or_append_left, get_or-replicate, length-set, get_or-set_same, get_or-set_other, drop-set-lt}
use Rattle.std.proofs.lemmas.Bool.{lt-ltb, le-leb, cases_Bool, cases_eq, cases_lt}
use Rattle.std.proofs.lemmas.Bool.Decides.{nat_tests}
use Rattle.circuit.specs.declared.Node.{Node}
use Rattle.circuit.specs.declared.Node.TheVariants.{Never}
use Rattle.circuit.specs.Store.{nodes_from, nodes_in}
use Rattle.circuit.specs.Held.{count_in, Sound, Pushed}
use Rattle.circuit.specs.Hints.{half, slot_of, head_of, link_of, Visits, here, later, Hinted, hints_with, Linked, Distinct, Shares, Started}
use Rattle.circuit.proofs.NodeLists.{sound_held}
use Rattle.circuit.proofs.Added.{counts_one, put_pushed}

slot_in : (k : Node) (heads : ℕ) → 0 < heads → slot_of k heads < heads
unfolding slot_of
slot_in k heads h = mod-lt _ h

pub link_down : (hints : List ℕ) (q : ℕ) → link_of hints q ≤ q
unfolding link_of
link_down hints q = grind (arith, nat_tests)

-- the hints with the link of a place p of n set, and then its head too
abbrev linking : List ℕ → Node → ℕ → List ℕ
linking hints n p = set hints (half hints + p) (head_of hints n)

abbrev hinting : List ℕ → Node → ℕ → List ℕ
hinting hints n p = set (linking hints n p) (slot_of n (half hints)) (suc p)

linking_length : (hints : List ℕ) (n : Node) (p : ℕ) → length (linking hints n p) ≡ length hints
linking_length hints n p = length-set hints (half hints + p) (head_of hints n)

hinting_length : (hints : List ℕ) (n : Node) (p : ℕ) → length (hinting hints n p) ≡ length hints
hinting_length hints n p = length-set (linking hints n p) (slot_of n (half hints)) (suc p) ∙ linking_length hints n p

with_length : (hints : List ℕ) (n : Node) (p : ℕ) → length (hints_with hints n p) ≡ length hints
unfolding hints_with
with_length hints n p = ⊎_elim (λ e. rw e (hinting_length hints n p)) (λ e. rw e) (cases_Bool (ltb p (half hints)))

with_is : (hints : List ℕ) (n : Node) (p : ℕ) → p < half hints → hints_with hints n p ≡ hinting hints n p
unfolding hints_with
with_is hints n p h = rw (lt-ltb p (half hints) h)

-- what stands in the hints with n added at the place p
module _ (hints : List ℕ) (n : Node) (p : ℕ) (room : p < half hints) where
  slot_below : slot_of n (half hints) < half hints
  slot_below = slot_in n (half hints) (omega arith)

  half_same : half (hinting hints n p) ≡ half hints
  half_same = ap (λ (k : ℕ). k / 2) (hinting_length hints n p)

  head_other : (s : ℕ) → s < half hints → s ≢ slot_of n (half hints) → get_or (hinting hints n p) s 0 ≡ get_or hints s 0
  head_other s h ne =
      get_or-set_other (linking hints n p) (slot_of n (half hints)) s (suc p) 0 ne ∙ get_or-set_other hints (half hints + p) s (head_of hints n) 0 (omega arith)

  head_same : get_or (hinting hints n p) (slot_of n (half hints)) 0 ≡ suc p
  head_same = let b = slot_below in let l = linking_length hints n p in get_or-set_same (linking hints n p) (slot_of n (half hints)) (suc p) 0 (omega arith)

  past_heads : (q : ℕ) → get_or (hinting hints n p) (half hints + q) 0 ≡ get_or (linking hints n p) (half hints + q) 0
  past_heads q = let b = slot_below in get_or-set_other (linking hints n p) (slot_of n (half hints)) (half hints + q) (suc p) 0 (omega arith)

  link_other : (q : ℕ) → q < p → get_or (hinting hints n p) (half hints + q) 0 ≡ get_or hints (half hints + q) 0
  link_other q h = past_heads q ∙ get_or-set_other hints (half hints + p) (half hints + q) (head_of hints n) 0 (omega arith)

  link_same : get_or (hinting hints n p) (half hints + p) 0 ≡ head_of hints n
  link_same = past_heads p ∙ get_or-set_same hints (half hints + p) (head_of hints n) 0 (omega arith)

  link_kept : (q : ℕ) → q < p → link_of (hinting hints n p) q ≡ link_of hints q
  unfolding link_of
  link_kept q h = rw (half_same, link_other q h)

  link_new : head_of hints n ≤ p → link_of (hinting hints n p) p ≡ head_of hints n
  unfolding link_of
  link_new h = rw (half_same, link_same, lt-ltb p (half hints) room, le-leb (head_of hints n) p h)

  visits_kept : (v i : ℕ) → v ≤ p → Visits hints v i → Visits (hinting hints n p) v i
  visits_kept v i h (here e) = here e
  visits_kept v i h (later q e w) =
      let down = link_down hints q in
      later q e (subst (λ (x : ℕ). Visits (hinting hints n p) x i) (sym (link_kept q (omega arith))) (visits_kept (link_of hints q) i (omega arith) w))

  head_at : (k : Node) → head_of (hinting hints n p) k ≡ get_or (hinting hints n p) (slot_of k (half hints)) 0
  head_at k = ap (λ (x : ℕ). get_or (hinting hints n p) (slot_of k x) 0) half_same

  visits_new : Visits (hinting hints n p) (head_of (hinting hints n p) n) p
  visits_new = here (head_at n ∙ head_same)

  visits_head : (k : Node) (i : ℕ) → slot_of k (half hints) < half hints → ((s : ℕ) → s < half hints → get_or hints s 0 ≤ p) →
      Visits hints (head_of hints k) i → Visits (hinting hints n p) (head_of (hinting hints n p) k) i
  visits_head k i below low w =
      ⊎_elim
      (λ e. let same : head_of hints k ≡ head_of hints n = ap (λ (s : ℕ). get_or hints s 0) e in
      let lower : head_of hints n ≤ p = low _ slot_below in
      later p (head_at k ∙ ap (λ (s : ℕ). get_or (hinting hints n p) s 0) e ∙ head_same)
      (subst (λ (x : ℕ). Visits (hinting hints n p) x i) (sym (link_new lower)) (visits_kept (head_of hints n) i lower (subst (λ (x : ℕ). Visits hints x i) same w))))
      (λ ne. subst (λ (x : ℕ). Visits (hinting hints n p) x i) (sym (head_at k ∙ head_other _ below ne)) (visits_kept (head_of hints k) i (low _ below) w))
      (cases_eq (slot_of k (half hints)) (slot_of n (half hints)))

-- a node of a store whose nodes are all hinted
pub hinted_node : (m hints : List ℕ) (n : Node) → Sound m → Linked m hints → (i : ℕ) → i < count_in m → get_or (nodes_in m) i Never ≡ n → Hinted m hints n i
hinted_node m hints n s l i h e =
    let long = l.room in
    record {
      some = omega arith;
      visited = rw e at (l.each i h);
      stands = record { counted = h; held = sound_held m s i h ∙ ap Some e };
    }

module _ (m after hints : List ℕ) (n : Node) (p : ℕ) (none_hinted : (q : ℕ) → Hinted m hints n q → ⊥) (w : Pushed m after n p) where
  linked_pushed : Linked m hints → count_in after ≤ half hints → Linked after (hints_with hints n p)
  linked_pushed l long =
      let c = counts_one m after n p w in let at = w.place in let put = put_pushed m after n p w in
      let room : p < half hints = omega arith in
      let low : (s : ℕ) → s < half hints → get_or hints s 0 ≤ p = λ s h. let k = l.heads s h in omega arith in
      let same = half_same hints n p room in
      rw (with_is hints n p room) (record {
        room = omega arith;
        heads = λ s h. ⊎_elim
            (λ e. let t = head_same hints n p room in rw e (omega arith))
            (λ ne. let t = head_other hints n p room s (omega arith) ne in let u = low s (omega arith) in omega arith)
            (cases_eq s (slot_of n (half hints)));
        each = λ i h. ⊎_elim
            (λ below. rw (put.grown.before i (omega arith)) (visits_head hints n p room _ i (slot_in _ _ (omega arith)) low (l.each i (omega arith))))
            (λ past. let e : i ≡ p = omega arith in rw (e, put.node) (visits_new hints n p room))
            (cases_lt i p);
      })

  distinct_pushed : Sound m → Linked m hints → Distinct m → Distinct after
  distinct_pushed s l d i j h k e =
      let c = counts_one m after n p w in let at = w.place in let put = put_pushed m after n p w in
      let old : (t : ℕ) → t < p → get_or (nodes_in after) t Never ≡ get_or (nodes_in m) t Never = λ t u. put.grown.before t (omega arith) in
      let new : (t : ℕ) → p ≤ t → t < count_in after → get_or (nodes_in after) t Never ≡ n = λ t u v. let is : t ≡ p = omega arith in rw is put.node in
      ⊎_elim
      (λ a. ⊎_elim
      (λ b. d i j (omega arith) (omega arith) (sym (old i a) ∙ e ∙ old j b))
      (λ b. absurd (none_hinted i (hinted_node m hints n s l i (omega arith) (sym (old i a) ∙ e ∙ new j b k))))
      (cases_lt j p))
      (λ a. ⊎_elim
      (λ b. absurd (none_hinted j (hinted_node m hints n s l j (omega arith) (sym (old j b) ∙ sym e ∙ new i a h))))
      (λ b. omega arith)
      (cases_lt j p))
      (cases_lt i p)

  pub shares_pushed : Shares m after hints (hints_with hints n p)
  shares_pushed = record { linked = linked_pushed; distinct = distinct_pushed; same_length = with_length hints n p }

-- nothing is changed
pub shares_none : (m hints : List ℕ) → Shares m m hints hints
shares_none m hints = record { linked = λ l _. l; distinct = λ _ _ d. d; same_length = refl }

-- an empty store, with heads that lead nowhere
pub linked_empty : (m hints : List ℕ) → count_in m ≡ 0 → ((s : ℕ) → s < half hints → get_or hints s 0 ≡ 0) → Linked m hints
linked_empty m hints e low = record {
  room = omega arith;
  heads = λ s h. let z = low s h in omega arith;
  each = λ p h. absurd (omega arith);
}

-- the hints with their heads made 0
pub length_cleared : (hints : List ℕ) → length (replicate (half hints) 0 ++ drop (half hints) hints) ≡ length hints
length_cleared hints = simp (length-append, length-replicate, length-drop) (omega arith)

pub head_cleared : (hints : List ℕ) (s : ℕ) → s < half hints → get_or (replicate (half hints) 0 ++ drop (half hints) hints) s 0 ≡ 0
head_cleared hints s h = get_or_append_left (replicate (half hints) 0) _ 0 s (rw length-replicate h) ∙ get_or-replicate (half hints) s 0 0 h

pub started : (m hints new : List ℕ) → 0 < length m → length new ≡ length hints → ((s : ℕ) → s < half hints → get_or new s 0 ≡ 0) →
    Started m (set m 0 0) hints new
unfolding nodes_from
started m hints new long same low =
    let e : count_in (set m 0 0) ≡ 0 = get_or-set_same m 0 0 0 long in
    let h : half new ≡ half hints = ap (λ (k : ℕ). k / 2) same in
    record {
      nodes = rw e;
      behind = drop-set-lt 1 m 0 0 (omega arith);
      long = length-set m 0 0;
      proper = record {
        sound = record { long = simp length-set long; each = λ i l. absurd (omega arith) };
        each = λ i l. absurd (omega arith);
      };
      linked = linked_empty (set m 0 0) new e (λ s l. low s (omega arith));
      distinct = λ p q l k _. absurd (omega arith);
      same_length = same;
    }
