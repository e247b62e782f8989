use Rattle.std.proofs.Common.{◌∙◌, List, ap, map, subst}
use Rattle.tlb_syntax.specs.declared.tree.Constructor.{Constructor}
use Rattle.tlb_syntax.specs.declared.tree.Schema.{Schema}
use Rattle.tlb_syntax.specs.View.{constructor, schema}
use Rattle.schema_leads.specs.Tags.{cores}
use Rattle.plan_compile.specs.Compiled.{IsCompiled}
use Rattle.type_index.specs.Index.{IsTypeIndex}
use Rattle.field_plan.specs.Names.{AreNames}
use Rattle.field_plan.proofs.Apart.{enters_one, shown_apart}
use Rattle.field_plan.proofs.Planning.{is_planned}
use Rattle.field_plan.proofs.plan.compile.Goals as goal

pub invariant_of-result : goal.invariant_of-result
invariant_of-result c =
    let made = c.in_ok-compiled.compiled in
    let index = c.in_ok-index.index in
    let called = c.in_ok-names.names in
    let list = c.as_slice-constructors.ensures ∙ ap (λ (z : Schema). z.constructors) c.schema.ensures.same in
    let P : List Constructor → Type 0 = λ z. IsCompiled (map constructor z) made in
    let Q : List Constructor → Type 0 = λ z. IsTypeIndex index (map constructor z) in
    let R : List Constructor → Type 0 = λ z. AreNames (cores (map constructor z)) called in
    let s = schema c.args.accepted in
    record {
      planned = is_planned s made (subst P list c.in_ok-compiled.ensures);
      index = subst Q list c.in_ok-index.ensures;
      names = subst R list c.in_ok-names.ensures;
      one_constructor = enters_one s c.one_constructor.ensures c.schema.ensures.accepted c.schema.ensures.kept;
      apart = shown_apart s c.schema.ensures.accepted c.schema.ensures.kept;
    }
