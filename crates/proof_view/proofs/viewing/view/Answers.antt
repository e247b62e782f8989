use Rattle.std.proofs.Common.{rules, ◌∙◌, Result, Err, Bor, ap, subst}
use Rattle.accepted_schema.specs.Accepted.{kept_cores}
use Rattle.cell_nodes.specs.declared.tree.Mode.TheVariants.{Partial}
use Rattle.cell_nodes.specs.declared.tree.Tree.{Tree}
use Rattle.closed_type.specs.View.{closed_type as type_view}
use Rattle.tlb_syntax.specs.View.{schema as schema_view}
use Rattle.typed_reader.specs.Promise as reader
use Rattle.typed_reader.specs.declared.error.ReadError.{ReadError}
use Rattle.typed_value.specs.View.{value}
use Rattle.typed_value.specs.declared.value.Value.{Value}
use Rattle.field_plan.specs.Placed.{place_view}
use Rattle.proof_laws.specs.Viewing.{IsRoot}
use Rattle.proof_view.specs.Viewed.{Seals}
use Rattle.proof_view.specs.declared.error.ViewError.{ViewError}
use Rattle.proof_view.proofs.One.{refused, shows, stops}
use Rattle.proof_view.proofs.viewing.view.Goals as goal

pub returns-in-Err : goal.returns-in-Err
returns-in-Err c =
    let s = schema_view c.args.plan.now.0 in
    let t = type_view c.args.ty.now in
    let proof = c.args.proof.now in
    let P : Result (Bor Tree) ViewError → Type 0 = Seals proof in
    refused (kept_cores s) t proof c.args.root c.in-Err.error
    (c.one_view_answer.ensures s c.schema.ensures.accepted t proof c.good.ensures c.args.root)
    (subst P c.in-Err.is c.sealed.ensures)

pub returns-in-Ok-read : goal.returns-in-Ok-read
returns-in-Ok-read c =
    let s = schema_view c.args.plan.now.0 in
    let t = type_view c.args.ty.now in
    let proof = c.args.proof.now in
    let p = c.in-Ok.child.now in
    let P : Result (Bor Tree) ViewError → Type 0 = Seals proof in
    let Q : Result Value ReadError → Type 0 = reader.Answers Partial (kept_cores s) t p in
    let given : IsRoot c.args.root c.hash-hash.result = search rules in
    shows (kept_cores s) t proof p c.args.root c.hash-hash.result (value c.in-Ok-read.value)
    (c.one_view_answer.ensures s c.schema.ensures.accepted t proof c.good.ensures c.args.root)
    (subst P c.in-Ok.is c.sealed.ensures) c.hash-hash.ensures given (subst Q c.in-Ok-read.is c.read.ensures).reading

pub returns-in-Err-Stuck : goal.returns-in-Err-Stuck
returns-in-Err-Stuck c =
    let s = schema_view c.args.plan.now.0 in
    let t = type_view c.args.ty.now in
    let proof = c.args.proof.now in
    let p = c.in-Ok.child.now in
    let P : Result (Bor Tree) ViewError → Type 0 = Seals proof in
    let Q : Result Value ReadError → Type 0 = reader.Answers Partial (kept_cores s) t p in
    let given : IsRoot c.args.root c.hash-hash.result = search rules in
    let stuck = (subst Q (c.in-Err-Stuck.is ∙ ap (λ (e : ReadError). Err e) c.in-Err-Stuck.field-0-is) c.read.ensures).stuck
    in
    rw c.in-Err-Stuck.field-0-is (stops (kept_cores s) t proof p c.args.root c.hash-hash.result (place_view c.in-Err-Stuck.place)
    (c.one_view_answer.ensures s c.schema.ensures.accepted t proof c.good.ensures c.args.root)
    (subst P c.in-Ok.is c.sealed.ensures) c.hash-hash.ensures given stuck)
