-- A schema that begins with the lines and then declares other types has the lines.
use Rattle.std.proofs.Common.{◌≡◌, ℕ, zero, suc, Bool, true, false, cond, [], ◌∷◌, ◌++◌, Some, slice_get, refl, sym, ap, ◌∙◌, subst}
use Rattle.std.specs.Prelude.{bytes_eq, filter}
use Rattle.std.proofs.lemmas.List.{append-nil}
use Rattle.std.proofs.lemmas.List.Elements.{filter-append}
use Rattle.std.proofs.lemmas.Slice.Eq.{bytes_eq-Decides}
use Rattle.kind_terms.specs.Classes.{word_class}
use Rattle.kind_terms.specs.Words.{Word, is_among}
use Rattle.tlb_syntax.specs.Tree.{ConstructorView, SchemaView}
use Rattle.core_form.specs.Core.{Declaration, CoreSchema}
use Rattle.schema_core.specs.Cores.{cores_after}
use Rattle.schema_leads.specs.Leads.{of_type_named}
use Rattle.schema_leads.specs.Tags.{tag_of, cores}
use Rattle.tlb_kinds.specs.Refusals.{ordinary, kept_of}
use Rattle.accepted_schema.specs.Accepted.{kept_cores}
use Rattle.declared_maps.proofs.Found.{some_same}
use Rattle.declared_maps.specs.Lines.{line_types, lines, AreOthers, HasLines}
use Rattle.declared_maps.specs.LineCores.{line_cores, lines_have_cores}

-- the lines have their core forms whatever follows them
line_forms : (rest : SchemaView) → cores (lines ++ rest) ≡ line_cores ++ cores_after (lines ++ rest) tag_of lines rest
unfolding word_class
line_forms rest = refl

-- none of the others is of a type of the lines
none_after : (types before rest : SchemaView) → AreOthers rest → (x : Word) → is_among line_types x ≡ true
    → of_type_named (cores_after types tag_of before rest) x ≡ []
none_after types before [] others x e = refl
none_after types before (c ∷ cs) others x e =
    go (bytes_eq c.result x) refl (none_after types (before ++ c ∷ []) cs (λ i d there. others (suc i) d there) x e)
  where
    clash : true ≡ false → ⊥
    clash e = cc

    go : (b : Bool) → bytes_eq c.result x ≡ b → of_type_named (cores_after types tag_of (before ++ c ∷ []) cs) x ≡ []
        → of_type_named (cores_after types tag_of before (c ∷ cs)) x ≡ []
    go false is later = rw is later
    go true is later =
        let same : c.result ≡ x = (bytes_eq-Decides c.result x).0 is in
        let among : is_among line_types c.result ≡ true = ap (is_among line_types) same ∙ e in
        absurd (clash (sym among ∙ others 0 c refl))

of_others : (rest : SchemaView) → AreOthers rest → HasLines (cores (lines ++ rest))
of_others rest others x e =
    ap (λ (z : CoreSchema). of_type_named z x) (line_forms rest)
    ∙ filter-append (λ (d : Declaration). bytes_eq d.of_type x) line_cores (cores_after (lines ++ rest) tag_of lines rest)
    ∙ ap (λ (z : CoreSchema). of_type_named line_cores x ++ z) (none_after (lines ++ rest) lines rest others x e)
    ∙ append-nil (of_type_named line_cores x)
    ∙ ap (λ (z : CoreSchema). of_type_named z x) (sym lines_have_cores)

-- ---- declarations that are passed over

filtered : (p : ConstructorView → Bool) (rest : SchemaView) → AreOthers rest → AreOthers (filter p rest)
filtered p [] others i c e = cc
filtered p (d ∷ ds) others i c e = go (p d) (filtered p ds (λ j x there. others (suc j) x there)) i e
  where
    go : (b : Bool) → AreOthers (filter p ds) → (i : ℕ) → slice_get (cond b (d ∷ filter p ds) (filter p ds)) i ≡ Some c
        → is_among line_types c.result ≡ false
    go true later zero e =
        ap (λ (z : ConstructorView). is_among line_types z.result) (sym (some_same d c e)) ∙ others 0 d refl
    go true later (suc i) e = later i c e
    go false later i e = later i c e

lines_stay : (rest : SchemaView) → kept_of (lines ++ rest) ≡ lines ++ kept_of rest
unfolding word_class
lines_stay rest = refl

pub lines_are_there : (rest : SchemaView) → AreOthers rest → HasLines (kept_cores (lines ++ rest))
lines_are_there rest others =
    let P : SchemaView → Type 0 = λ s. HasLines (cores s) in
    let kept : AreOthers (kept_of rest) = filtered _ (ordinary rest) (filtered _ rest others) in
    subst P (sym (lines_stay rest)) (of_others (kept_of rest) kept)
