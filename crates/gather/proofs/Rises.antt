-- Rows that rise, and one more. Assumes nothing.
use Rattle.std.proofs.Common.{◌≡◌, true, List, [], ◌∷◌, ◌++◌, subst}
use Rattle.tables.specs.Tables.{Row, before}
use Rattle.provenance.specs.Answer.{Answer, RowsRise, one, more}

pub rise_last : (done : List Answer) (a b : Answer) → a.row ≡ b.row → RowsRise (done ++ a ∷ []) → RowsRise (done ++ b ∷ [])
rise_last [] a b e h = one
rise_last (x ∷ []) a b e (more less rest) = more (subst (λ (r : Row). before x.row r ≡ true) e less) one
rise_last (x ∷ y ∷ done) a b e (more less rest) = more less (rise_last (y ∷ done) a b e rest)

pub rise_push : (done : List Answer) (a b : Answer) → RowsRise (done ++ a ∷ []) → before a.row b.row ≡ true → RowsRise ((done ++ a ∷ []) ++ b ∷ [])
rise_push [] a b h less = more less one
rise_push (x ∷ []) a b (more first rest) less = more first (more less one)
rise_push (x ∷ y ∷ done) a b (more first rest) less = more first (rise_push (y ∷ done) a b rest less)
