-- What the laws of paths say.
use Rattle.std.specs.Prelude.{◌≡◌, ◌⊎◌, ℕ, List}
use Rattle.typed_value.specs.Paths.{Stride}
use Rattle.value_text.specs.PathText.{IsBadPath, PathWrites}

-- a text writes at most one path
abbrev pub OnePath : Type 0
OnePath = (text : List ℕ) (a b : List Stride) → PathWrites text a → PathWrites text b → a ≡ b

-- a text has at most one bad place
abbrev pub OneBadPlace : Type 0
OneBadPlace = (text : List ℕ) (place other : ℕ) → IsBadPath text place → IsBadPath text other → place ≡ other

-- a text that writes a path has no bad place
abbrev pub PathOrPlace : Type 0
PathOrPlace = (text : List ℕ) (steps : List Stride) (place : ℕ) → PathWrites text steps → IsBadPath text place → ⊥

-- each text writes a path or has a bad place
abbrev pub SomePathOrPlace : Type 0
SomePathOrPlace = (text : List ℕ)
    → ((steps : List Stride) × PathWrites text steps) ⊎ ((place : ℕ) × IsBadPath text place)
