-- The query that one step makes of a query at a place. Assumes nothing: these are definitions.
use Rattle.std.specs.Prelude.{ℕ, zero, suc, ◌+◌, ◌-◌, Bool, ◌&&◌, List, length, Some, None, Option, nat_le, nat_lt, slice_index}
use Rattle.tables.specs.Bool.{pick}
use Rattle.query.specs.Query.{Test, same, is, below, Query, scan, select, project, product, union, cells}
use Rattle.provenance.specs.Rewriting.{through}
use Rattle.rewrite.specs.declared.Step.{Step}
use Rattle.rewrite.specs.declared.Step.TheVariants.{SwapTests, TestIntoLeft, TestIntoRight, TestIntoUnion, UnionOutOfLeft, UnionOutOfRight, RegroupLeft, RegroupRight, SwapUnion, TestBelowProjection, JoinProjections}

-- how many operators a query has
unfoldable pub size : Query → ℕ
size (scan t) = 1
size (select c q) = suc (size q)
size (project cs q) = suc (size q)
size (product p q) = suc (size p + size q)
size (union p q) = suc (size p + size q)

-- how wide the rows of a query are, over tables of the widths ws
unfoldable pub width : List ℕ → Query → ℕ
width ws (scan t) = slice_index ws t
width ws (select c q) = width ws q
width ws (project cs q) = length cs
width ws (product p q) = width ws p + width ws q
width ws (union p q) = width ws p

-- the query that begins at a place, counted from 0 in operators in reading order
unfoldable pub at_place : ℕ → Query → Option Query
at_place zero q = Some q
at_place (suc i) (scan t) = None
at_place (suc i) (select c q) = at_place i q
at_place (suc i) (project cs q) = at_place i q
at_place (suc i) (product p q) = pick (nat_lt i (size p)) (at_place i p) (at_place (i - size p) q)
at_place (suc i) (union p q) = pick (nat_lt i (size p)) (at_place i p) (at_place (i - size p) q)

-- a query with r in place of the query that begins at a place
unfoldable pub put_at : ℕ → Query → Query → Query
put_at zero r q = r
put_at (suc i) r (scan t) = scan t
put_at (suc i) r (select c q) = select c (put_at i r q)
put_at (suc i) r (project cs q) = project cs (put_at i r q)
put_at (suc i) r (product p q) = pick (nat_lt i (size p)) (product (put_at i r p) q) (product p (put_at (i - size p) r q))
put_at (suc i) r (union p q) = pick (nat_lt i (size p)) (union (put_at i r p) q) (union p (put_at (i - size p) r q))

-- goes on with the parts of a query of one form; of any other form nothing is made
abbrev pub on_select : Query → (Test → Query → Option Query) → Option Query
on_select (select c q) f = f c q
on_select (scan t) f = None
on_select (project cs q) f = None
on_select (product p q) f = None
on_select (union p q) f = None

abbrev pub on_project : Query → (List ℕ → Query → Option Query) → Option Query
on_project (project cs q) f = f cs q
on_project (scan t) f = None
on_project (select c q) f = None
on_project (product p q) f = None
on_project (union p q) f = None

abbrev pub on_product : Query → (Query → Query → Option Query) → Option Query
on_product (product p q) f = f p q
on_product (scan t) f = None
on_product (select c q) f = None
on_product (project cs q) f = None
on_product (union p q) f = None

abbrev pub on_union : Query → (Query → Query → Option Query) → Option Query
on_union (union p q) f = f p q
on_union (scan t) f = None
on_union (select c q) f = None
on_union (project cs q) f = None
on_union (product p q) f = None

-- whether a test reads only the first w columns, and whether only those behind them
abbrev pub within : ℕ → Test → Bool
within w (same a b) = nat_lt a w && nat_lt b w
within w (is a n) = nat_lt a w
within w (below a n) = nat_lt a w

abbrev pub behind : ℕ → Test → Bool
behind w (same a b) = nat_le w a && nat_le w b
behind w (is a n) = nat_le w a
behind w (below a n) = nat_le w a

-- the same test, w columns before
abbrev pub earlier : ℕ → Test → Test
earlier w (same a b) = same (a - w) (b - w)
earlier w (is a n) = is (a - w) n
earlier w (below a n) = below (a - w) n

-- what a step makes of a query whose first operator is the one at which it is made, if its pattern stands there
abbrev pub turned : List ℕ → Step → Query → Option Query
turned ws SwapTests q = on_select q (λ c q. on_select q (λ d q. Some (select d (select c q))))
turned ws TestIntoLeft q = on_select q (λ c q. on_product q (λ l r. pick (within (width ws l) c) (Some (product (select c l) r)) None))
turned ws TestIntoRight q =
    on_select q (λ c q. on_product q (λ l r. pick (behind (width ws l) c) (Some (product l (select (earlier (width ws l) c) r))) None))
turned ws TestIntoUnion q = on_select q (λ c q. on_union q (λ l r. Some (union (select c l) (select c r))))
turned ws UnionOutOfLeft q = on_product q (λ l s. on_union l (λ p q. Some (union (product p s) (product q s))))
turned ws UnionOutOfRight q = on_product q (λ p r. on_union r (λ q s. Some (union (product p q) (product p s))))
turned ws RegroupLeft q = on_product q (λ p r. on_product r (λ q s. Some (product (product p q) s)))
turned ws RegroupRight q = on_product q (λ l s. on_product l (λ p q. Some (product p (product q s))))
turned ws SwapUnion q = on_union q (λ p q. Some (union q p))
turned ws TestBelowProjection q = on_select q (λ c q. on_project q (λ cs q. Some (project cs (select (through cs c) q))))
turned ws JoinProjections q = on_project q (λ ds q. on_project q (λ cs q. Some (project (cells ds cs) q)))

-- what was made of the query at place i of q, put in its place
abbrev pub put_back : ℕ → Query → Option Query → Option Query
put_back i q (Some r) = Some (put_at i r q)
put_back i q None = None

abbrev pub turned_at : List ℕ → Step → Option Query → Option Query
turned_at ws s (Some r) = turned ws s r
turned_at ws s None = None

-- the query that a step makes of the query q at a place, over tables of the widths ws; none where its pattern does not stand there
unfoldable pub rewritten : List ℕ → Step → ℕ → Query → Option Query
rewritten ws s i q = put_back i q (turned_at ws s (at_place i q))
