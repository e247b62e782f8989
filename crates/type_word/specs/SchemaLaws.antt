-- The kinds by which a word is resolved are those of the schema.
use Rattle.std.proofs.Common.{◌≡◌, ap, refl, Bool, true, false, cond, List, [], ◌∷◌, ◌++◌, ℕ, Some}
use Rattle.std.specs.Prelude.{Option, option_map, bytes_eq}
use Rattle.tlb_syntax.specs.Tree.{ConstructorView, SchemaView}
use Rattle.kind_terms.specs.declared.kind.TermKind.{TermKind}
use Rattle.kind_terms.specs.declared.kind.TermKind.TheVariants.{NumberIn, TypeIn, NumberOut, NoKind}
use Rattle.kind_terms.specs.Dictionaries.{of_type}
use Rattle.kind_terms.specs.Params.{kinds}
use Rattle.kind_terms.specs.Types.{first_kinds}
use Rattle.kind_terms.specs.Words.{Word}
use Rattle.type_index.specs.declared.index.TypeIndex.{TypeIndex}
use Rattle.type_index.specs.Index.{IsTypeIndex, kinds_at}
use Rattle.core_form.specs.Closed as closed
use Rattle.core_form.specs.Core.{Parameter, number_in, type_in, number_out, no_parameter}
use Rattle.schema_core.specs.CoreOf.{parameters_of}
use Rattle.schema_core.specs.Cores.{cores_after, cores_of}
use Rattle.type_closing.specs.Laws.{Declares, parameters_by}
use Rattle.type_word.specs.InSchema.{kinds_of}

-- what an index of the schema has are the kinds of the schema
pub index_has_kinds : (index : TypeIndex) (s : SchemaView) → IsTypeIndex index s → kinds_at index ≡ kinds_of s
index_has_kinds index s h = λ i x. h.kinds x i

same_parameters : (ks : List TermKind) → parameters_by ks ≡ parameters_of ks
same_parameters [] = refl
same_parameters (NumberIn n ∷ ks) = ap (λ ps. number_in ∷ ps) (same_parameters ks)
same_parameters (TypeIn ∷ ks) = ap (λ ps. type_in ∷ ps) (same_parameters ks)
same_parameters (NumberOut ∷ ks) = ap (λ ps. number_out ∷ ps) (same_parameters ks)
same_parameters (NoKind ∷ ks) = ap (λ ps. no_parameter ∷ ps) (same_parameters ks)

declared_after : (types before s : SchemaView) (tag : ConstructorView → List ℕ) (x : Word)
    → option_map parameters_by (first_kinds (of_type s x)) ≡ closed.parameters_of (cores_after types tag before s) x
declared_after types before [] tag x = refl
declared_after types before (c ∷ cs) tag x =
    cases (bytes_eq c.result x) (declared_after types (before ++ c ∷ []) cs tag x)
  where
    later : Option (List Parameter)
    later = closed.parameters_of (cores_after types tag (before ++ c ∷ []) cs) x

    cases : (b : Bool) → option_map parameters_by (first_kinds (of_type cs x)) ≡ later
        → option_map parameters_by (first_kinds (cond b (c ∷ of_type cs x) (of_type cs x)))
        ≡ cond b (Some (parameters_of (kinds c))) later
    cases true h = let f : List Parameter → Option (List Parameter) = λ ps. Some ps in ap f (same_parameters (kinds c))
    cases false h = h

-- the kinds of the schema are those of its core forms, whatever tags these have
pub schema_declares : (s : SchemaView) (tag : ConstructorView → List ℕ) → Declares (kinds_of s) (cores_of tag s)
schema_declares s tag x = declared_after s [] s tag x
