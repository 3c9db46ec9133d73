-- A store with more nodes. Assumes nothing.
use Rattle.std.proofs.Common.{◌≡◌, ℕ, ◌+◌, ◌-◌, ◌*◌, ◌≤◌, List, drop, sym, refl, ap, ◌∙◌, arith}
use Rattle.std.proofs.lemmas.List.{drop-drop}
use Rattle.circuit.specs.Held.{count_in, Proper}
use Rattle.circuit.specs.Hints.{half}
use Rattle.gather.specs.Gathered.{Extended}

-- what is the same from a place on is the same further on
pub drop_further : (a b : ℕ) (xs ys : List ℕ) → a ≤ b → drop a xs ≡ drop a ys → drop b xs ≡ drop b ys
drop_further a b xs ys h e =
    let at : (zs : List ℕ) → drop (b - a) (drop a zs) ≡ drop b zs = λ zs. drop-drop (b - a) a zs ∙ ap (λ k. drop k zs) (omega arith) in
    sym (at xs) ∙ ap (drop (b - a)) e ∙ at ys

pub extended_none : (m hints : List ℕ) (k : ℕ) → Proper m → Extended m m hints hints k
extended_none m hints k proper = record {
  proper = proper;
  long = refl;
  more = omega arith;
  few = omega arith;
  before = λ i h. refl;
  same = λ i h. refl;
  behind = refl;
  as_many = refl;
  linked = λ l room. l;
  distinct = λ l room d. d;
}

pub extended_same : (m after hints hints_after : List ℕ) (k j : ℕ) → Extended m after hints hints_after k → k ≤ j → Extended m after hints hints_after j
extended_same m after hints hints_after k j e h = record {
  proper = e.proper;
  long = e.long;
  more = e.more;
  few = let x = e.few in omega arith;
  before = e.before;
  same = e.same;
  behind = e.behind;
  as_many = e.as_many;
  linked = e.linked;
  distinct = e.distinct;
}

pub extended_more : (m between after hints hints_between hints_after : List ℕ) (k j : ℕ) →
    Extended m between hints hints_between k → Extended between after hints_between hints_after 1 → k + 1 ≤ j → Extended m after hints hints_after j
extended_more m between after hints hints_between hints_after k j e f h =
    let fewer : count_in after ≤ half hints → count_in between ≤ half hints = λ room. let y = f.more in omega arith in
    let as_wide : count_in after ≤ half hints → count_in after ≤ half hints_between = λ room. rw e.as_many room in
    record {
      proper = f.proper;
      long = f.long ∙ e.long;
      more = let x = e.more in let y = f.more in omega arith;
      few = let x = e.few in let y = f.few in omega arith;
      before = λ i l. f.before i (let x = e.more in omega arith) ∙ e.before i l;
      same = λ i l. f.same i (let x = e.more in omega arith) ∙ e.same i l;
      behind = f.behind ∙ drop_further (1 + 3 * count_in between) (1 + 3 * count_in after) between m (let y = f.more in omega arith) e.behind;
      as_many = f.as_many ∙ e.as_many;
      linked = λ l room. f.linked (e.linked l (fewer room)) (as_wide room);
      distinct = λ l room d. f.distinct (e.linked l (fewer room)) (as_wide room) (e.distinct l (fewer room) d);
    }
