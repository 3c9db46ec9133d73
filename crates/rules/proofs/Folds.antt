-- Settings, one after the other. Assumes nothing.
use Rattle.std.proofs.Common.{◌≡◌, ℕ, ◌+◌, ◌<◌, ◌≤◌, List, [], ◌∷◌, ◌++◌, length, get_or, take, drop, replicate, sym, refl, ap, ◌∙◌}
use Rattle.std.proofs.lemmas.List.{drop_more, drop_all, length-set, take_at}
use Rattle.rules.specs.declared.setting.Setting.{Setting}
use Rattle.rules.specs.declared.setting.Setting.TheVariants.{Mark, Others}
use Rattle.rules.specs.Values.{said, others, given, values_of}

pub others_more : (all d e : ℕ) (ss : List Setting) (i : ℕ) (s : Setting) → i < length ss → others d (drop i ss) ≡ all → e ≡ said d (get_or ss i s) →
    others e (drop (i + 1) ss) ≡ all
unfolding others
others_more all d e ss i s h inv f = rw f (sym (ap (others d) (drop_more ss i s h)) ∙ inv)

pub others_all : (all d : ℕ) (ss : List Setting) (i : ℕ) → length ss ≤ i → others d (drop i ss) ≡ all → d ≡ all
unfolding others
others_all all d ss i h inv = sym (ap (others d) (drop_all i ss h)) ∙ inv

pub values_more : (all vs ws : List ℕ) (ss : List Setting) (i : ℕ) (s : Setting) → i < length ss → values_of vs (drop i ss) ≡ all →
    ws ≡ given vs (get_or ss i s) → values_of ws (drop (i + 1) ss) ≡ all
unfolding values_of
values_more all vs ws ss i s h inv f = rw f (sym (ap (values_of vs) (drop_more ss i s h)) ∙ inv)

pub values_all : (all vs : List ℕ) (ss : List Setting) (i : ℕ) → length ss ≤ i → values_of vs (drop i ss) ≡ all → vs ≡ all
unfolding values_of
values_all all vs ss i h inv = sym (ap (values_of vs) (drop_all i ss h)) ∙ inv

length_given : (vs : List ℕ) (s : Setting) → length (given vs s) ≡ length vs
length_given vs (Mark k v) = length-set vs k v
length_given vs (Others v) = refl

length_values : (vs : List ℕ) (ss : List Setting) → length (values_of vs ss) ≡ length vs
unfolding values_of
length_values vs [] = refl
length_values vs (s ∷ ss) = length_values (given vs s) ss ∙ length_given vs s

-- what a Vec holds after its slice was written to
pub all_given : (n d : ℕ) (last items slice : List ℕ) (ss : List Setting) → last ≡ values_of slice ss → slice ≡ items → items ≡ replicate 7424 d →
    n ≡ length items → take n (last ++ drop (length last) items) ≡ values_of (replicate 7424 d) ss
all_given n d last items slice ss l s i e =
    take_at last (drop (length last) items) n (ap length l ∙ length_values slice ss ∙ ap length s ∙ sym e) ∙ l ∙ ap (λ (z : List ℕ). values_of z ss) (s ∙ i)
