-- The parts of a word that gives a value. Assumes nothing.
use Rattle.std.proofs.Common.{◌≡◌, ℕ, ◌<◌, List, ◌∷◌, ◌++◌, length, get_or, None, Ok, Err, codes, inl, inr}
use Rattle.std.specs.Option.{ok_or}
use Rattle.rules.specs.declared.error.ArgumentError.{ArgumentError}
use Rattle.rules.specs.declared.error.ArgumentError.TheVariants.{NoMemory, UnknownRule, NoTop, NoSetting, NoNumber, NoMark}
use Rattle.rules.specs.declared.setting.Setting.TheVariants.{Mark}
use Rattle.rules.specs.Words.{NumberRead, MarkRead, Split, SettingRead}

pub none_given : {T : Type 0} (bs : List ℕ) (e : ArgumentError) → Err e ≡ ok_or {T = T} None NoSetting → SettingRead bs (Err NoSetting) → SettingRead bs (Err e)
none_given bs e f h =
    let g : e ≡ NoSetting = cc in
    rw g h

module _ (bs name what : List ℕ) (p : (bs ≡ name ++ (61 ∷ what)) × ((i : ℕ) → i < length name → get_or name i 0 ≡ 61 → ⊥)) where
  split_of : Split bs name what
  split_of = record { is = p.0; here = p.1 }

  pub value_wrong : (e : ArgumentError) → NumberRead what (Err e) → SettingRead bs (Err e)
  value_wrong NoMemory h = absurd h
  value_wrong UnknownRule h = absurd h
  value_wrong NoTop h = absurd h
  value_wrong NoSetting h = absurd h
  value_wrong NoNumber h = record { name = name; what = what; split = split_of; why = inl h }
  value_wrong NoMark h = absurd h

  pub mark_wrong : (e : ArgumentError) → (name ≡ codes "else" → ⊥) → MarkRead name (Err e) → SettingRead bs (Err e)
  mark_wrong NoMemory n h = absurd h
  mark_wrong UnknownRule n h = absurd h
  mark_wrong NoTop n h = absurd h
  mark_wrong NoSetting n h = absurd h
  mark_wrong NoNumber n h = record { name = name; what = what; split = split_of; why = inr (n, h) }
  mark_wrong NoMark n h = record { name = name; what = what; split = split_of; why = (n, h) }

  pub mark_given : (k v : ℕ) → (name ≡ codes "else" → ⊥) → MarkRead name (Ok k) → NumberRead what (Ok v) → SettingRead bs (Ok (Mark k v))
  mark_given k v n m h = record { name = name; what = what; split = split_of; why = (n, m, h) }
