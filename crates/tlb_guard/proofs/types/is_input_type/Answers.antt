use Rattle.std.proofs.Common.{sym, ap, ◌∙◌}
use Rattle.std.specs.Prelude.{option_map}
use Rattle.tlb_syntax.specs.View.{expr, items}
use Rattle.kind_terms.specs.Params.{is_type_in, kind_of}
use Rattle.tlb_guard.specs.DeclaredTypes.{is_type_kind}
use Rattle.tlb_guard.proofs.Numberings.{kind_at}
use Rattle.tlb_guard.proofs.types.is_input_type.Goals as goal

pub returns-in-None : goal.returns-in-None
returns-in-None c =
    let is = items c.args.constructor.now.items in
    let e = kind_at is c.args.constructor.now.params c.args.place in
    ap (λ o. is_type_kind (option_map (λ e. kind_of is (expr e)) o)) c.in-None.ensures.value ∙ sym (ap is_type_kind e)

pub returns-in-Some : goal.returns-in-Some
returns-in-Some c =
    let is = items c.args.constructor.now.items in
    let e = kind_at is c.args.constructor.now.params c.args.place in
    c.is_same.ensures
    ∙ ap is_type_in c.kind_of.ensures
    ∙ ap (λ l. is_type_in (kind_of (items l) (expr c.in-Some.e.now))) c.as_slice.ensures
    ∙ ap (λ o. is_type_kind (option_map (λ e. kind_of is (expr e)) o)) c.in-Some.ensures.value ∙ sym (ap is_type_kind e)
