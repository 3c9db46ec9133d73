-- Text that is written piece by piece. Assumes nothing.
use Rattle.std.proofs.Common.{◌≡◌, ℕ, ◌+◌, ◌<◌, List, [], ◌∷◌, ◌++◌, length, get_or, take, vec_items, decimal, sym, ap, ◌∙◌, ap₂, append_assoc, arith}
use Rattle.std.proofs.lemmas.List.{append-nil}
use Rattle.std.proofs.lemmas.Bool.{eq-eqb, ne_eqb}
use Rattle.provenance.specs.Polynomial.{Monomial}
use Rattle.polynomial.specs.declared.Way.{Way}
use Rattle.polynomial.specs.Ways.{monomial, monomials}
use Rattle.codec.specs.Output.{parted}
use Rattle.ways.proofs.Flattened.{monomials_more}
use Rattle.ways.specs.Text.{dash, letter_x, plus_sign, colon, blank, count_text, marks_text, way_text, ways_text, line_text}

pub count_one : (t : List ℕ) (n : ℕ) → n ≡ 1 → t ≡ t ++ count_text n
unfolding count_text
count_one t n e = sym (rw (eq-eqb n 1 e) (append-nil t))

pub count_more : (t u : List ℕ) (n : ℕ) → (n ≡ 1 → ⊥) → u ≡ t ++ (decimal n ++ letter_x) → u ≡ t ++ count_text n
unfolding count_text
count_more t u n e f = rw (ne_eqb n 1 e) f

pub marks_none : (t u ks : List ℕ) → length ks ≡ 0 → u ≡ t ++ dash → u ≡ t ++ marks_text ks
unfolding marks_text
marks_none t u [] h e = e
marks_none t u (k ∷ ks) h e = absurd (omega arith)

pub marks_some : (t u ks : List ℕ) → 0 < length ks → u ≡ t ++ parted plus_sign ks → u ≡ t ++ marks_text ks
unfolding marks_text
marks_some t u [] h e = absurd (omega arith)
marks_some t u (k ∷ ks) h e = e

ways_push : (ms : List Monomial) (m : Monomial) → ways_text (ms ++ m ∷ []) ≡ ways_text ms ++ (blank ++ way_text m)
unfolding ways_text
ways_push [] m = append-nil (blank ++ way_text m)
ways_push (x ∷ ms) m = ap (λ (z : List ℕ). blank ++ way_text x ++ z) (ways_push ms m) ∙ sym (append_assoc (blank ++ way_text x) (ways_text ms) (blank ++ way_text m))

pub ways_none : (t : List ℕ) (ws : List Way) → t ≡ t ++ ways_text (monomials (take 0 ws))
unfolding ways_text
ways_none t ws = sym (append-nil t)

-- a blank, the count and the marks of the next way
pub ways_more : (t u a b v : List ℕ) (ws : List Way) (i : ℕ) (w : Way) (ks : List ℕ) → i < length ws → w ≡ get_or ws i w → ks ≡ vec_items w.marks →
    u ≡ t ++ ways_text (monomials (take i ws)) → a ≡ u ++ blank → b ≡ a ++ count_text w.count → v ≡ b ++ marks_text ks →
    v ≡ t ++ ways_text (monomials (take (i + 1) ws))
unfolding way_text
ways_more t u a b v ws i w ks h x k e f g p =
    p ∙ ap₂ (λ (y z : List ℕ). y ++ marks_text z) g k ∙ append_assoc a (count_text w.count) (marks_text (vec_items w.marks))
    ∙ ap (λ (z : List ℕ). z ++ way_text (monomial w)) f ∙ append_assoc u blank (way_text (monomial w))
    ∙ ap (λ (z : List ℕ). z ++ (blank ++ way_text (monomial w))) e
    ∙ append_assoc t (ways_text (monomials (take i ws))) (blank ++ way_text (monomial w))
    ∙ ap (λ (z : List ℕ). t ++ z) (sym (ways_push (monomials (take i ws)) (monomial w)) ∙ ap ways_text (monomials_more ws i w h x))

pub line_all : (t a b u row : List ℕ) (ms : List Monomial) → a ≡ t ++ parted blank row → b ≡ a ++ colon → u ≡ b ++ ways_text ms → u ≡ t ++ line_text row ms
unfolding line_text
line_all t a b u row ms e f g =
    g ∙ ap (λ (z : List ℕ). z ++ ways_text ms) (f ∙ ap (λ (z : List ℕ). z ++ colon) e ∙ append_assoc t (parted blank row) colon)
    ∙ append_assoc t (parted blank row ++ colon) (ways_text ms)
