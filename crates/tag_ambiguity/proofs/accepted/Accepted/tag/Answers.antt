use Rattle.std.proofs.Common.{◌∙◌, ◌<◌, Some, ap, arith, get_or, length, subst, sym}
use Rattle.std.proofs.lemmas.List.{length-map}
use Rattle.tlb_syntax.specs.declared.tree.Schema.{Schema}
use Rattle.tlb_syntax.specs.View.{constructor, schema}
use Rattle.lead_table.specs.declared.heads.Head.{Head}
use Rattle.tag_ambiguity.specs.Separated.{IsSeparated}
use Rattle.tag_ambiguity.proofs.Table.{head_total, tag_there}
use Rattle.tag_ambiguity.proofs.accepted.Accepted.tag.Goals as goal

pub bounds-as_slice-c : goal.bounds-as_slice-c
bounds-as_slice-c c =
    let P : Schema → Type 0 = λ z. IsSeparated (schema z) c.self.inside.table in
    let is = subst P c.self.view_is c.self.invariant in
    omega (
      arith,
      c.requires,
      length-map c.args.self.now.constructors constructor,
      head_total (schema c.args.self.now) c.self.inside.table is.is_table,
      ap length c.as_slice.ensures,
    )

pub returns : goal.returns
returns c =
    let P : Schema → Type 0 = λ z. IsSeparated (schema z) c.self.inside.table in
    let is = subst P c.self.view_is c.self.invariant in
    let lt : c.args.c < length (schema c.args.self.now) = omega (arith, c.requires, length-map c.args.self.now.constructors constructor) in
    tag_there (schema c.args.self.now) c.self.inside.table c.args.c c.index-as_slice-c.result is.is_table lt
    (c.index-as_slice-c.is ∙ ap (λ z. get_or z c.args.c c.index-as_slice-c.result) c.as_slice.ensures)
    ∙ ap (λ (h : Head). Some h.tag) c.index-as_slice-c.is ∙ ap Some (sym c.slice.ensures)
