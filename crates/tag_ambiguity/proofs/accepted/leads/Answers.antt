use Rattle.std.proofs.Common.{◌≡◌, ◌∙◌, ◌<◌, List, ap, arith, length, map, subst}
use Rattle.std.proofs.lemmas.List.{length-map}
use Rattle.tlb_syntax.specs.declared.tree.Constructor.{Constructor}
use Rattle.tlb_syntax.specs.declared.tree.Schema.{Schema}
use Rattle.tlb_syntax.specs.View.{constructor, schema}
use Rattle.schema_leads.specs.FirstFields.{IsGuarded}
use Rattle.lead_table.specs.Tables.{IsLeadTable}
use Rattle.tag_ambiguity.proofs.Keeping.{kept_is_guarded}
use Rattle.tag_ambiguity.proofs.Table.{lead_total, removed_there}
use Rattle.tag_ambiguity.proofs.accepted.leads.Goals as goal

pub remove-requires : goal.remove-requires
remove-requires c =
    let e = c.schema.ensures in
    let list : c.as_slice.result.now ≡ c.args.kinded.now.constructors = c.as_slice.ensures ∙ ap (λ (z : Schema). z.constructors) e.same in
    let T : List Constructor → Type 0 = λ z. IsGuarded (map constructor z) → IsLeadTable (map constructor z) c.in_ok-table.table in
    let is = subst T list c.in_ok-table.ensures (kept_is_guarded (schema c.args.kinded.now) e.kinded e.ordinary e.no_dictionaries) in
    omega (arith, c.requires, length-map c.args.kinded.now.constructors constructor, lead_total (schema c.args.kinded.now) c.in_ok-table.table is)

pub returns : goal.returns
returns c =
    let e = c.schema.ensures in
    let list : c.as_slice.result.now ≡ c.args.kinded.now.constructors = c.as_slice.ensures ∙ ap (λ (z : Schema). z.constructors) e.same in
    let T : List Constructor → Type 0 = λ z. IsGuarded (map constructor z) → IsLeadTable (map constructor z) c.in_ok-table.table in
    let is = subst T list c.in_ok-table.ensures (kept_is_guarded (schema c.args.kinded.now) e.kinded e.ordinary e.no_dictionaries) in
    let lt : c.args.c < length (schema c.args.kinded.now) = omega (arith, c.requires, length-map c.args.kinded.now.constructors constructor) in
    removed_there (schema c.args.kinded.now) c.in_ok-table.table c.args.c c.remove.result is lt c.remove.ensures.item
