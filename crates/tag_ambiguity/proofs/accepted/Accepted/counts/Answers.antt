use Rattle.std.proofs.Common.{◌∙◌, [], ap, arith, length, subst, sym}
use Rattle.tlb_syntax.specs.declared.tree.Schema.{Schema}
use Rattle.tlb_syntax.specs.View.{schema}
use Rattle.tag_ambiguity.specs.Separated.{IsSeparated}
use Rattle.tag_ambiguity.proofs.Listing.{core_count}
use Rattle.tag_ambiguity.proofs.Table.{head_total}
use Rattle.tag_ambiguity.proofs.accepted.Accepted.counts.Goals as goal

pub count_types-requires : goal.count_types-requires
count_types-requires c =
    let P : Schema → Type 0 = λ z. IsSeparated (schema z) c.self.inside.table in
    let is = subst P c.self.view_is c.self.invariant in
    omega (
      arith,
      head_total (schema c.args.self.now) c.self.inside.table is.is_table,
      ap length c.as_slice-heads.ensures,
      is.accepted.within.counts.all,
    )

pub overflow_cast-result : goal.overflow_cast-result
overflow_cast-result c =
    let P : Schema → Type 0 = λ z. IsSeparated (schema z) c.self.inside.table in
    let is = subst P c.self.view_is c.self.invariant in
    omega (
      arith,
      head_total (schema c.args.self.now) c.self.inside.table is.is_table,
      ap length c.as_slice-heads.ensures,
      is.accepted.within.counts.all,
    )

pub returns-clause-constructors : goal.returns-clause-constructors
returns-clause-constructors c =
    let P : Schema → Type 0 = λ z. IsSeparated (schema z) c.self.inside.table in
    let is = subst P c.self.view_is c.self.invariant in
    ap length c.as_slice-heads.ensures ∙ head_total (schema c.args.self.now) c.self.inside.table is.is_table
    ∙ sym (core_count (schema c.args.self.now) [] (schema c.args.self.now))
