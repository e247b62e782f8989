use Rattle.std.proofs.Common.{◌≡◌, ◌∙◌, Some, sym, ap, subst, map}
use Rattle.tlb_syntax.specs.View.{constructor}
use Rattle.kind_terms.specs.Dictionaries.{of_type}
use Rattle.kind_declarations.specs.declared.error.Cause.TheVariants.{Reserved, TwiceNamed}
use Rattle.kind_declarations.specs.Faults.{Judges, fault_at, verdict}
use Rattle.kind_declarations.specs.HeadingViews.{all_params, heading_by}
use Rattle.kind_declarations.specs.Headings.{Heading}
use Rattle.kind_declarations.specs.Nodes.{heading_nodes, result_path}
use Rattle.kind_declarations.proofs.Params.{name_twice, names_pass, reserved_name, same_heading}
use Rattle.kind_declarations.proofs.Verdicts.{judged_from}
use Rattle.kind_declarations.proofs.headings.judge_heading.Goals as goal

pub returns-in-Ok-true : goal.returns-in-Ok-true
returns-in-Ok-true c =
    let earlier = of_type (map constructor c.args.types.now) in
    let seen = c.declared-earlier.ensures.constructors ∙ ap earlier c.text.ensures.value in
    subst (λ (r : Heading). verdict (heading_nodes r) ≡ Some (fault_at result_path Reserved))
    (same_heading c.declared-earlier.result c.args.constructor.now (earlier c.args.constructor.now.result) seen)
    (reserved_name (heading_by c.declared-earlier.result c.args.constructor.now) (sym c.in-Ok-true.field-0-test ∙ c.in-Ok-true.ensures))

pub returns-then-is_twice : goal.returns-then-is_twice
returns-then-is_twice c =
    let earlier = of_type (map constructor c.args.types.now) in
    let seen = c.declared-earlier.ensures.constructors ∙ ap earlier c.text.ensures.value in
    subst (λ (r : Heading). verdict (heading_nodes r) ≡ Some (fault_at result_path TwiceNamed))
    (same_heading c.declared-earlier.result c.args.constructor.now (earlier c.args.constructor.now.result) seen)
    (name_twice (heading_by c.declared-earlier.result c.args.constructor.now) (sym c.in-Ok-false.field-0-test ∙ c.in-Ok-false.ensures) (c.if-is_twice.ensures))

pub returns : goal.returns
returns c =
    let earlier = of_type (map constructor c.args.types.now) in
    let seen = c.declared-earlier.ensures.constructors ∙ ap earlier c.text.ensures.value in
    let r = heading_by c.declared-earlier.result c.args.constructor.now in
    subst (λ (r : Heading). Judges (heading_nodes r) result_path c.judge_params.result)
    (same_heading c.declared-earlier.result c.args.constructor.now (earlier c.args.constructor.now.result) seen)
    (judged_from (all_params r) (heading_nodes r) result_path c.judge_params.result
    (sym (names_pass r (sym c.in-Ok-false.field-0-test ∙ c.in-Ok-false.ensures) (c.if-is_twice.ensures))) c.judge_params.ensures)
