-- How often each way occurs among monomials, and that this is all that well-formed monomials say. Assumes nothing.
use Rattle.std.proofs.Common.{◌≡◌, ℕ, ◌+◌, ◌<◌, Bool, List, [], ◌∷◌, sym, refl, ap, ◌∙◌, ap₂, arith}
use Rattle.std.specs.List.{AllByRecursion}
use Rattle.tables.specs.Bool.{pick}
use Rattle.tables.specs.Tables.{Row, same_row}
use Rattle.tables.proofs.Choice.{picked}
use Rattle.tables.proofs.RowOrder.{before_apart, same_true, same_decides, Rank, equal, first as ahead, last as behind, rank}
use Rattle.provenance.specs.Polynomial.{Monomial, put_monomial, Among, first, later, count_of}
use Rattle.provenance.proofs.PutCases.{put_cases}
use Rattle.provenance.proofs.Rising.{After, Rising, after_all}

-- one of x and ms is x or one of ms
pub among_more : (P : Monomial → Type 0) (m x : Monomial) (ms : List Monomial) → P x → (Among m ms → P m) → Among m (x ∷ ms) → P m
among_more P m x ms here there first = here
among_more P m x ms here there (later a) = there a

-- to put a monomial among others adds its count to that of its way
pub count_put : (w : List ℕ) (m : Monomial) (xs : List Monomial) →
    count_of w (put_monomial m xs) ≡ pick (same_row w m.marks) m.count 0 + count_of w xs
unfolding put_monomial count_of
count_put w m [] = grind arith
count_put w m (x ∷ xs) = put_cases Adds m x xs joined (λ _. grind arith) (λ _. passed (count_put w m xs))
  where
    Adds : List Monomial → Type 0
    Adds zs = count_of w zs ≡ pick (same_row w m.marks) m.count 0 + count_of w (x ∷ xs)

    joined : m.marks ≡ x.marks → Adds (record { count = m.count + x.count; marks = x.marks } ∷ xs)
    joined e = rw e (grind arith)

    passed : count_of w (put_monomial m xs) ≡ pick (same_row w m.marks) m.count 0 + count_of w xs → Adds (x ∷ put_monomial m xs)
    passed e = grind arith

count_here : (m : Monomial) (ms : List Monomial) → count_of m.marks (m ∷ ms) ≡ m.count + count_of m.marks ms
unfolding count_of
count_here m ms = rw ((same_decides m.marks m.marks).1 refl)

-- a way does not occur among monomials that come after it
count_after : (a : Row) (ms : List Monomial) → AllByRecursion (After a) ms → count_of a ms ≡ 0
unfolding count_of
count_after a [] h = refl
count_after a (m ∷ ms) h =
    picked (λ n. n ≡ 0) (same_row a m.marks) (λ e. absurd (before_apart h.0 (same_true a m.marks e))) (λ _. count_after a ms h.1)

-- what both begin with can be taken away
count_cancel : (w : List ℕ) (m : Monomial) (ps qs : List Monomial) → count_of w (m ∷ ps) ≡ count_of w (m ∷ qs) → count_of w ps ≡ count_of w qs
unfolding count_of
count_cancel w m ps qs e = grind arith

module _ (P : List ℕ → Type 0) where
  -- all ways are such ways
  abbrev pub Such : List Monomial → Type 0
  Such ms = AllByRecursion (λ m. P m.marks) ms

  abbrev pub SameCounts : List Monomial → List Monomial → Type 0
  SameCounts ps qs = (w : List ℕ) → P w → count_of w ps ≡ count_of w qs

  count_clash : (p : Monomial) (ps qs : List Monomial) → P p.marks → 0 < p.count → AllByRecursion (After p.marks) qs → SameCounts (p ∷ ps) qs → ⊥
  count_clash p ps qs such some after same =
      omega (arith, same p.marks such, count_here p ps, count_after p.marks qs after)

  same_head : (p q : Monomial) (ps qs : List Monomial) → Rising (p ∷ ps) → Rising (q ∷ qs) → P p.marks →
      p.marks ≡ q.marks → SameCounts (p ∷ ps) (q ∷ qs) → p ≡ q
  same_head p q ps qs r u such e same =
      let here : count_of p.marks (q ∷ qs) ≡ q.count = rw e (omega (arith, count_here q qs, count_after q.marks qs u.after)) in
      let counts : p.count ≡ q.count = omega (arith, same p.marks such, count_here p ps, count_after p.marks ps r.after) in
      λ i. record { count = counts i; marks = e i }

  -- rising monomials are known by how often each way occurs
  pub counts_one : (ps qs : List Monomial) → Rising ps → Rising qs → Such ps → Such qs → SameCounts ps qs → ps ≡ qs
  counts_one [] [] r u f g same = refl
  counts_one [] (q ∷ qs) r u f g same = absurd (count_clash q qs [] g.0 u.some tt (λ w h. sym (same w h)))
  counts_one (p ∷ ps) [] r u f g same = absurd (count_clash p ps [] f.0 r.some tt same)
  counts_one (p ∷ ps) (q ∷ qs) r u f g same = go (counts_one ps qs r.rest u.rest f.1 g.1) (rank p.marks q.marks)
    where
      go : (SameCounts ps qs → ps ≡ qs) → {s t : Bool} → Rank p.marks q.marks s t → p ∷ ps ≡ q ∷ qs
      go more (equal e) =
          let head : p ≡ q = same_head p q ps qs r u f.0 e same in
          ap₂ ◌∷◌ head (more (λ w h. count_cancel w p ps qs (same w h ∙ ap (λ m. count_of w (m ∷ qs)) (sym head))))
      go more (ahead h) = absurd (count_clash p ps (q ∷ qs) f.0 r.some (after_all p.marks q qs h u) same)
      go more (behind h) = absurd (count_clash q qs (p ∷ ps) g.0 u.some (after_all q.marks p ps h r) (λ w h. sym (same w h)))
