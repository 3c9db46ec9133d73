-- The values that settings give to marks. Assumes nothing: these are definitions.
use Rattle.std.specs.Prelude.{ℕ, List, [], ◌∷◌, slice_set}
use Rattle.rules.specs.declared.setting.Setting.{Setting}
use Rattle.rules.specs.declared.setting.Setting.TheVariants.{Mark, Others}

-- the value of all marks that are given none, after a setting
abbrev pub said : ℕ → Setting → ℕ
said d (Mark k v) = d
said d (Others v) = v

-- the last that is said
unfoldable pub others : ℕ → List Setting → ℕ
others d [] = d
others d (s ∷ ss) = others (said d s) ss

-- the values vs after a setting
abbrev pub given : List ℕ → Setting → List ℕ
given vs (Mark k v) = slice_set vs k v
given vs (Others v) = vs

-- the values vs, changed by settings one after the other
unfoldable pub values_of : List ℕ → List Setting → List ℕ
values_of vs [] = vs
values_of vs (s ∷ ss) = values_of (given vs s) ss
