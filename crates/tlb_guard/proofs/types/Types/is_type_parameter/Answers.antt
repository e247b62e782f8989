use Rattle.std.proofs.Common.{◌≡◌, List, sym, ap, ◌∙◌, refl}
use Rattle.std.specs.Prelude.{Option, None, Some, option_map, slice_get}
use Rattle.std.proofs.lemmas.Option.{slice_get-map}
use Rattle.tlb_syntax.specs.declared.tree.Constructor.{Constructor}
use Rattle.tlb_syntax.specs.View.{constructor}
use Rattle.kind_terms.specs.declared.kind.TermKind.{TermKind}
use Rattle.kind_terms.specs.Params.{kinds}
use Rattle.tlb_guard.specs.DeclaredTypes.{is_type_kind, kinds_of_type}
use Rattle.tlb_guard.specs.Numbering.{views}
use Rattle.tlb_guard.proofs.Numberings.{kinds_at_place}
use Rattle.tlb_guard.proofs.types.Types.is_type_parameter.Goals as goal

same : (o : Option Constructor) → option_map kinds (option_map constructor o) ≡ option_map (λ d. kinds (constructor d)) o
same None = refl
same (Some d) = refl

some_same : (ks js : List TermKind) → Some ks ≡ Some js → ks ≡ js
some_same ks js e = cc

pub returns-in-Some : goal.returns-in-Some
returns-in-Some c = λ x place.
    let s = views c.args.self.now in
    let found : Some c.in-Some.constructor.now ≡ slice_get c.args.self.now c.args.of =
    c.in-Some.ensures ∙ ap (λ cs. slice_get cs c.args.of) c.self.view_is in
    let e : Some (kinds (constructor c.in-Some.constructor.now)) ≡ Some (kinds_of_type s x) =
    ap (option_map (λ d. kinds (constructor d))) found ∙ sym (ap (option_map kinds) (slice_get-map constructor c.args.self.now c.args.of) ∙ same (slice_get c.args.self.now c.args.of)) ∙ kinds_at_place s x c.args.of place in
    let fixed : kinds (constructor c.in-Some.constructor.now) ≡ kinds_of_type s x = some_same _ _ e in
    c.is_input_type.ensures ∙ ap (λ ks. is_type_kind (slice_get ks c.args.place)) fixed
