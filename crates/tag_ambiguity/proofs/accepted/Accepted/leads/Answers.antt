use Rattle.std.proofs.Common.{◌∙◌, ◌<◌, ap, arith, get_or, length, subst}
use Rattle.std.proofs.lemmas.List.{length-map}
use Rattle.tlb_syntax.specs.declared.tree.Schema.{Schema}
use Rattle.tlb_syntax.specs.View.{constructor, schema}
use Rattle.tag_ambiguity.specs.Separated.{IsSeparated}
use Rattle.tag_ambiguity.proofs.Table.{lead_total, leads_there}
use Rattle.tag_ambiguity.proofs.accepted.Accepted.leads.Goals as goal

pub bounds-as_slice-c : goal.bounds-as_slice-c
bounds-as_slice-c c =
    let P : Schema → Type 0 = λ z. IsSeparated (schema z) c.self.inside.table in
    let is = subst P c.self.view_is c.self.invariant in
    omega (
      arith,
      c.requires,
      length-map c.args.self.now.constructors constructor,
      lead_total (schema c.args.self.now) c.self.inside.table is.is_table,
      ap length c.as_slice.ensures,
    )

pub returns : goal.returns
returns c =
    let P : Schema → Type 0 = λ z. IsSeparated (schema z) c.self.inside.table in
    let is = subst P c.self.view_is c.self.invariant in
    let lt : c.args.c < length (schema c.args.self.now) = omega (arith, c.requires, length-map c.args.self.now.constructors constructor) in
    leads_there (schema c.args.self.now) c.self.inside.table c.args.c c.as_slice-2.result.now c.index-as_slice-c.result is.is_table lt
    (c.as_slice-2.ensures ∙ c.index-as_slice-c.is ∙ ap (λ z. get_or z c.args.c c.index-as_slice-c.result) c.as_slice.ensures)
