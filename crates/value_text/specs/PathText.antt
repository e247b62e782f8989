-- The text of a path. This project's own.
use Rattle.std.specs.Prelude.{◌≡◌, ℕ, ◌+◌, ◌<◌, ◌≤◌, ◌^◌, List, [], ◌∷◌, ◌++◌, length, take, decimal}
use Rattle.bit_slice.specs.Names.{IsName}
use Rattle.typed_value.specs.Paths.{Stride, named, item, keyed}
use Rattle.value_text.specs.Tokens.{bits, spelling}
use Rattle.value_text.specs.Writes.{AreFew}

abbrev pub step_text : Stride → List ℕ
step_text (named name) = name
step_text (item i) = decimal i
step_text (keyed key) = spelling (bits key)

-- each step after a '/' (47)
abbrev pub steps_text : List Stride → List ℕ
steps_text [] = []
steps_text (s ∷ steps) = 47 ∷ step_text s ++ steps_text steps

-- a '/' alone has no step
abbrev pub path_text : List Stride → List ℕ
path_text [] = 47 ∷ []
path_text (s ∷ steps) = steps_text (s ∷ steps)

-- names have their form, item numbers and bits are within their limits
abbrev pub IsStep : Stride → Type 0
IsStep (named name) = IsName name
IsStep (item i) = i < 2 ^ 32
IsStep (keyed key) = AreFew key

abbrev pub AreSteps : List Stride → Type 0
AreSteps [] = Unit {0}
AreSteps (s ∷ steps) = IsStep s × AreSteps steps

-- the text writes the path
abbrev pub PathWrites : List ℕ → List Stride → Type 0
PathWrites text steps = AreSteps steps × (text ≡ path_text steps)

-- some text that begins so writes a path
abbrev pub GoesOn : List ℕ → Type 0
GoesOn prefix = (after : List ℕ) × (steps : List Stride) × PathWrites (prefix ++ after) steps

-- The first byte with which no path can go on, or the end of a text that is no path and could go on.
pub record IsBadPath (text : List ℕ) (place : ℕ) : Type 0 where
  pub within : place ≤ length text
  pub before : GoesOn (take place text)
  pub stuck : place < length text → GoesOn (take (place + 1) text) → ⊥
  pub unfinished : place ≡ length text → (steps : List Stride) → PathWrites text steps → ⊥
