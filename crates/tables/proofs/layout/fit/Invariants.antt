use Rattle.std.proofs.Common.{◌≡◌, ◌-◌, get_or}
use Rattle.tables.specs.Tables.{fit, fit_from}
use Rattle.tables.proofs.layout.fit.Given as goal

-- what is left decides what the whole does
abbrev pub invariant-loop-t : goal.invariant-loop-t
invariant-loop-t l = fit l.memory ≡ fit_from l.t (get_or l.memory 0 0 - l.t) l.rest
