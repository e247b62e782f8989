-- The refusals of a schema by its tags and leads, in their order. A schema stands here by its core forms.
-- Source: this project's own.
use Rattle.std.specs.Prelude.{List, [], ◌∷◌, ◌++◌, ◌&&◌, not, length, nat_lt, bytes_eq}
use Rattle.std.specs.Prelude.{Option, Some, None, if◌then◌else◌}
use Rattle.std.specs.List.{flat_map}
use Rattle.core_form.specs.Core.{Word, Declaration, CoreSchema}
use Rattle.schema_leads.specs.Separation.{are_separated}

-- a tag that is too long, with the type and the constructor as it is shown; two constructors of a type that are not
-- separated, with the type and both of them
pub data TagRefusal : Type 0 where
  tag_too_long : Word → Word → TagRefusal
  ambiguous : Word → Word → Word → TagRefusal

abbrev pub of_tag : Declaration → List TagRefusal
of_tag d = if nat_lt 63 (length d.core.tag) then tag_too_long d.of_type d.shown ∷ [] else []

-- of tags, in the order of the text
abbrev pub of_tags : CoreSchema → List TagRefusal
of_tags s = flat_map of_tag s

-- of two constructors
abbrev pub of_pair : CoreSchema → Declaration → Declaration → List TagRefusal
of_pair s d e =
    if bytes_eq e.of_type d.of_type && not (are_separated s d e) then ambiguous d.of_type d.shown e.shown ∷ [] else []

-- of a constructor and later ones
abbrev pub of_later : CoreSchema → Declaration → CoreSchema → List TagRefusal
of_later s d es = flat_map (of_pair s d) es

-- of the pairs among these constructors that are of a type, by the first of a pair and then by the second
abbrev pub of_pairs : CoreSchema → Word → CoreSchema → List TagRefusal
of_pairs s x [] = []
of_pairs s x (d ∷ ds) = (if bytes_eq d.of_type x then of_later s d ds else []) ++ of_pairs s x ds

-- of the type of a constructor
abbrev pub of_type_of : CoreSchema → Declaration → List TagRefusal
of_type_of s d = of_pairs s d.of_type s

-- Tags first, and then the pairs of each type, in the order of the types' first constructors. Those of a type stand
-- here once for each of its constructors, which changes nothing in which is the first.
unfoldable pub tag_refusals : CoreSchema → List TagRefusal
tag_refusals s = of_tags s ++ flat_map (of_type_of s) s

abbrev pub first_of : List TagRefusal → Option TagRefusal
first_of [] = None
first_of (r ∷ rs) = Some r

-- the first refusal
abbrev pub first_tag_refusal : CoreSchema → Option TagRefusal
first_tag_refusal s = first_of (tag_refusals s)
