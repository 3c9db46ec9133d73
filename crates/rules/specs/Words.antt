-- What words mean. Assumes nothing: these are definitions.
use Rattle.std.specs.Prelude.{◌≡◌, ℕ, ◌^◌, ◌<◌, ◌≤◌, ◌⊎◌, List, ◌∷◌, ◌++◌, length, Ok, Err, codes, Result, ◌≢◌, slice_index}
use Rattle.std.specs.Str.Parse.{IsNumeral, digits_value, without_leading_plus}
use Rattle.rules.specs.declared.error.ArgumentError.{ArgumentError}
use Rattle.rules.specs.declared.error.ArgumentError.TheVariants.{NoMemory, UnknownRule, NoTop, NoSetting, NoNumber, NoMark}
use Rattle.rules.specs.declared.setting.Setting.{Setting}
use Rattle.rules.specs.declared.setting.Setting.TheVariants.{Mark, Others}

-- a word is a number below 2^64 in decimal, with or without a plus before it
abbrev pub IsNumber : List ℕ → Type 0
IsNumber bs = IsNumeral 10 (without_leading_plus bs) × (digits_value 10 (without_leading_plus bs) < 2 ^ 64)

-- that number
abbrev pub number_of : List ℕ → ℕ
number_of bs = digits_value 10 (without_leading_plus bs)

abbrev pub NumberRead : List ℕ → Result ℕ ArgumentError → Type 0
NumberRead bs (Ok n) = IsNumber bs × (n ≡ number_of bs)
NumberRead bs (Err NoMemory) = ⊥
NumberRead bs (Err UnknownRule) = ⊥
NumberRead bs (Err NoTop) = ⊥
NumberRead bs (Err NoSetting) = ⊥
NumberRead bs (Err NoNumber) = IsNumber bs → ⊥
NumberRead bs (Err NoMark) = ⊥

-- a mark is a number up to 7423
abbrev pub MarkRead : List ℕ → Result ℕ ArgumentError → Type 0
MarkRead bs (Ok n) = IsNumber bs × (n ≡ number_of bs) × (n ≤ 7423)
MarkRead bs (Err NoMemory) = ⊥
MarkRead bs (Err UnknownRule) = ⊥
MarkRead bs (Err NoTop) = ⊥
MarkRead bs (Err NoSetting) = ⊥
MarkRead bs (Err NoNumber) = IsNumber bs → ⊥
MarkRead bs (Err NoMark) = IsNumber bs × (7423 < number_of bs)

-- a word is a name and what stands behind its first equals sign
pub record Split (bs name what : List ℕ) : Type 0 where
  pub is : bs ≡ name ++ (61 ∷ what)
  pub here : (i : ℕ) → i < length name → slice_index name i ≢ 61

-- a word with an equals sign has two parts of which P holds
pub record Parted (P : List ℕ → List ℕ → Type 0) (bs : List ℕ) : Type 0 where
  pub name : List ℕ
  pub what : List ℕ
  pub split : Split bs name what
  pub why : P name what

-- a word gives a value to a mark, or to all others
abbrev pub SettingRead : List ℕ → Result Setting ArgumentError → Type 0
SettingRead bs (Ok (Mark k v)) =
    Parted (λ name what. (name ≢ codes "else") × MarkRead name (Ok k) × NumberRead what (Ok v)) bs
SettingRead bs (Ok (Others v)) = Parted (λ name what. (name ≡ codes "else") × NumberRead what (Ok v)) bs
SettingRead bs (Err NoMemory) = ⊥
SettingRead bs (Err UnknownRule) = ⊥
SettingRead bs (Err NoTop) = ⊥
SettingRead bs (Err NoSetting) = (i : ℕ) → i < length bs → slice_index bs i ≢ 61
SettingRead bs (Err NoNumber) =
    Parted (λ name what. NumberRead what (Err NoNumber) ⊎ ((name ≢ codes "else") × MarkRead name (Err NoNumber))) bs
SettingRead bs (Err NoMark) = Parted (λ name what. (name ≢ codes "else") × MarkRead name (Err NoMark)) bs
