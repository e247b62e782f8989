-- The declarations of a schema and their core forms.
use Rattle.std.proofs.Common.{◌≡◌, ℕ, zero, suc, Bool, true, false, List, [], ◌∷◌, ◌++◌, refl, ap, ◌∙◌, map}
use Rattle.std.specs.Prelude.{cond, bytes_eq, Some, slice_get}
use Rattle.std.specs.List.{list_any}
use Rattle.std.proofs.lemmas.Bool.{false≢true, or_left, or_right}
use Rattle.tlb_syntax.specs.Tree.{ConstructorView, SchemaView}
use Rattle.kind_terms.specs.Words.{Word}
use Rattle.kind_terms.specs.Dictionaries.{of_type}
use Rattle.tlb_guard.specs.DeclaredTypes.{result_of}
use Rattle.core_form.specs.Core.{Declaration}
use Rattle.schema_core.specs.Cores.{declaration_of, cores_after}
use Rattle.schema_leads.specs.Tags.{tag_of, cores}

abbrev type_of_declaration : Declaration → Word
type_of_declaration d = d.of_type

types_after : (types : SchemaView) (tag : ConstructorView → List ℕ) (before cs : SchemaView)
    → map type_of_declaration (cores_after types tag before cs) ≡ map result_of cs
types_after types tag before [] = refl
types_after types tag before (c ∷ cs) = ap (λ (xs : List Word). c.result ∷ xs) (types_after types tag (before ++ c ∷ []) cs)

-- the types of the core forms are those of the declarations
pub core_types : (s : SchemaView) → map (λ (d : Declaration). d.of_type) (cores s) ≡ map result_of s
core_types s = types_after s tag_of [] s

-- a core form stands for the declaration at its place
pub record StandsFor (types : SchemaView) (cs : SchemaView) (i : ℕ) (d : Declaration) : Type 0 where
  pub before : SchemaView
  pub of : ConstructorView
  pub there : slice_get cs i ≡ Some of
  pub core : d ≡ declaration_of types (tag_of of) before of

core_after : (types before cs : SchemaView) (i : ℕ) (d : Declaration)
    → slice_get (cores_after types tag_of before cs) i ≡ Some d → StandsFor types cs i d
core_after types before [] i d e = cc
core_after types before (c ∷ cs) zero d e =
    record { before = before; of = c; there = refl; core = cc }
core_after types before (c ∷ cs) (suc i) d e =
    let r = core_after types (before ++ c ∷ []) cs i d e in
    record { before = r.before; of = r.of; there = r.there; core = r.core }

pub core_at : (s : SchemaView) (i : ℕ) (d : Declaration) → slice_get (cores s) i ≡ Some d → StandsFor s s i d
core_at s i d e = core_after s [] s i d e

-- a declaration that passes a test is found among those of its type
at_kept : (p : ConstructorView → Bool) (b : ConstructorView) (cs : SchemaView) (t : Bool) → t ≡ true → p b ≡ true → list_any p (cond t (b ∷ cs) cs) ≡ true
at_kept p b cs true e h = or_left (p b) (list_any p cs) h
at_kept p b cs false e h = absurd (false≢true e)

at_more : (p : ConstructorView → Bool) (b : ConstructorView) (cs : SchemaView) (t : Bool) → list_any p cs ≡ true → list_any p (cond t (b ∷ cs) cs) ≡ true
at_more p b cs true h = or_right (p b) (list_any p cs) h
at_more p b cs false h = h

pub any_of_type : (p : ConstructorView → Bool) (x : Word) (s : SchemaView) (i : ℕ) (c : ConstructorView) → slice_get s i ≡ Some c
    → bytes_eq c.result x ≡ true → p c ≡ true → list_any p (of_type s x) ≡ true
any_of_type p x [] i c e is h = cc
any_of_type p x (b ∷ cs) zero c e is h =
    let same : b ≡ c = cc in
    at_kept p b (of_type cs x) (bytes_eq b.result x) (ap (λ (z : ConstructorView). bytes_eq z.result x) same ∙ is) (ap p same ∙ h)
any_of_type p x (b ∷ cs) (suc i) c e is h =
    at_more p b (of_type cs x) (bytes_eq b.result x) (any_of_type p x cs i c e is h)
