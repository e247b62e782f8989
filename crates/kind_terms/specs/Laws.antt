-- What the laws say: facts about the definitions alone.
use Rattle.std.specs.Prelude.{◌≡◌, ◌||◌, not}
use Rattle.kind_terms.specs.Words.{Word}
use Rattle.kind_terms.specs.Classes.{is_built_in, is_dictionary, is_free}

-- a word is free where it is neither a built-in one nor that of a dictionary
abbrev pub FreeWords : Type 0
FreeWords = (x : Word) → is_free x ≡ not (is_built_in x || is_dictionary x)
