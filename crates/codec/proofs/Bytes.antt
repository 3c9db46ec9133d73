-- Numbers written as bytes. Assumes nothing.
use Rattle.std.proofs.Common.{◌≡◌, ℕ, zero, suc, ◌+◌, ◌*◌, List, ◌∷◌, map, get_or, take, drop, sym, refl, ap, ◌∙◌, arith}
use Rattle.std.proofs.lemmas.List.{drop-drop, get_or-drop, get_or-take, drop-take, take-take}
use Rattle.std.specs.Simd.{first_chunks}
use Rattle.codec.specs.Bytes.{number, numbers}

-- the sum that the machine's reading of eight bytes is
abbrev pub eight : List ℕ → ℕ
eight bs =
    get_or bs 0 0 + get_or bs 1 0 * 256 + get_or bs 2 0 * 65536 + get_or bs 3 0 * 16777216 + get_or bs 4 0 * 4294967296 + get_or bs 5 0 * 1099511627776
    + get_or bs 6 0 * 281474976710656 + get_or bs 7 0 * 72057594037927936

number_eight : (bs : List ℕ) → number 8 bs ≡ eight bs
unfolding number
number_eight bs = simp (drop-drop, get_or-drop) (omega arith)

eight_taken : (bs : List ℕ) → eight (take 8 bs) ≡ eight bs
eight_taken bs =
    rw (
      get_or-take 8 bs 0 0 (omega arith),
      get_or-take 8 bs 1 0 (omega arith),
      get_or-take 8 bs 2 0 (omega arith),
      get_or-take 8 bs 3 0 (omega arith),
      get_or-take 8 bs 4 0 (omega arith),
      get_or-take 8 bs 5 0 (omega arith),
      get_or-take 8 bs 6 0 (omega arith),
      get_or-take 8 bs 7 0 (omega arith),
    )

-- the numbers of whole words, as the code reads them
pub numbers_mapped : (n : ℕ) (bs : List ℕ) → map eight (first_chunks 8 n bs) ≡ numbers n bs
unfolding numbers
numbers_mapped zero bs = refl
numbers_mapped (suc n) bs =
    ap (λ (w : ℕ). w ∷ map eight (first_chunks 8 n (drop 8 bs))) (eight_taken bs ∙ sym (number_eight bs))
    ∙ ap (λ (ns : List ℕ). number 8 bs ∷ ns) (numbers_mapped n (drop 8 bs))

-- they are there in the front of the bytes
pub numbers_taken : (n : ℕ) (bs : List ℕ) → numbers n (take (8 * n) bs) ≡ numbers n bs
unfolding numbers
numbers_taken zero bs = refl
numbers_taken (suc n) bs =
    let e : 8 * suc n ≡ 8 + 8 * n = omega arith in
    let f : number 8 (take (8 + 8 * n) bs) ≡ number 8 bs =
    number_eight (take (8 + 8 * n) bs) ∙ sym (eight_taken (take (8 + 8 * n) bs)) ∙ ap eight (take-take 8 (8 + 8 * n) bs (omega arith)) ∙ eight_taken bs ∙ sym (number_eight bs) in
    rw (e, f, drop-take 8 (8 * n) bs, numbers_taken n (drop 8 bs))
