use Rattle.rewrite.proofs.Turning.{no_product, no_union, unturned, not_there}
use Rattle.rewrite.proofs.Pairs.{left_there, right_there, third_there, left_unturned, union_out_of_left_made}
use Rattle.rewrite.proofs.site.Site.union_out_of_left.Goals as goal

pub returns-in_err-product : goal.returns-in_err-product
returns-in_err-product c = rw c.from_residual.ensures (unturned (no_product c.in_err-product.ensures _))

pub returns-in_err-union : goal.returns-in_err-union
returns-in_err-union c = rw c.from_residual-in_err-union.ensures (left_unturned c.in_ok-product.ensures (λ r. no_union c.in_err-union.ensures _))

pub returns-in_err-left : goal.returns-in_err-left
returns-in_err-left c = rw c.from_residual-in_err-left.ensures (not_there (left_there c.in_ok-product.ensures (left_there c.in_ok-union.ensures c.in_err-left.ensures)))

pub returns-in_err-right : goal.returns-in_err-right
returns-in_err-right c = rw c.from_residual-in_err-right.ensures (not_there (left_there c.in_ok-product.ensures (right_there c.in_ok-union.ensures c.in_ok-left.ensures c.in_err-right.ensures)))

pub returns-in_err-other : goal.returns-in_err-other
returns-in_err-other c = rw c.from_residual-in_err-other.ensures (not_there (third_there c.in_ok-product.ensures c.in_ok-union.ensures c.in_ok-left.ensures c.in_ok-right.ensures c.in_err-other.ensures))

pub returns : goal.returns
returns c = union_out_of_left_made _ _ c.in_ok-product.ensures _ _ c.in_ok-union.ensures c.in_ok-left.ensures c.in_ok-right.ensures c.in_ok-other.ensures c.put.ensures
