use Rattle.std.proofs.Common.{rules, ◌≡◌, ◌∙◌, Some, ap}
use Rattle.std.specs.Prelude.{◌≢◌, slice_get}
use Rattle.cell_nodes.specs.Layout.{hash_from, depth_from}
use Rattle.cell_nodes.specs.Tree.{mask, hash}
use Rattle.cell_nodes.specs.declared.tree.Kind.TheVariants.{Proof}
use Rattle.cell_nodes.specs.declared.tree.Tree.{out-Tree}
use Rattle.proof_laws.specs.Viewing.{kept_hash, kept_depth}
use Rattle.proof_view.proofs.Sealing.{is_child, hash_holds, depth_holds}
use Rattle.proof_view.proofs.sealed.sealed.Goals as goal

pub returns-then-ne-2 : goal.returns-then-ne-2
returns-then-ne-2 c =
    let proof = c.args.proof.now in
    let p = c.in-Some.child.now in
    let kind : (out-Tree proof).kind ≡ Proof = search rules in
    let first : slice_get (out-Tree proof).children 0 ≡ Some p = search rules in
    let whole : mask proof ≡ 0 = search rules in
    let other : c.stored_hash-kept.result ≢ c.hash-found.result = search rules in
    hash_holds proof p c.stored_hash-kept.result c.hash-found.result (is_child proof p c.good.ensures kind first) whole
    (c.stored_hash-kept.ensures ∙ ap (hash_from 8) c.bits.ensures) c.hash-found.ensures other

pub returns-then-kept-found : goal.returns-then-kept-found
returns-then-kept-found c =
    let proof = c.args.proof.now in
    let p = c.in-Some.child.now in
    let kind : (out-Tree proof).kind ≡ Proof = search rules in
    let first : slice_get (out-Tree proof).children 0 ≡ Some p = search rules in
    let whole : mask proof ≡ 0 = search rules in
    let kept : c.stored_hash-kept.result ≡ kept_hash proof = c.stored_hash-kept.ensures ∙ ap (hash_from 8) c.bits.ensures in
    let same : kept_hash proof ≡ hash p 0 = search rules in
    let other : c.stored_depth-kept.result ≢ c.depth-found.result = search rules in
    depth_holds proof p c.stored_depth-kept.result c.depth-found.result (is_child proof p c.good.ensures kind first) whole
    same (c.stored_depth-kept.ensures ∙ ap (depth_from 264) c.bits-2.ensures) c.depth-found.ensures.value other

pub returns : goal.returns
returns c =
    let proof = c.args.proof.now in
    let p = c.in-Some.child.now in
    let kind : (out-Tree proof).kind ≡ Proof = search rules in
    let first : slice_get (out-Tree proof).children 0 ≡ Some p = search rules in
    let kept : c.stored_hash-kept.result ≡ kept_hash proof = c.stored_hash-kept.ensures ∙ ap (hash_from 8) c.bits.ensures in
    let deep : c.stored_depth-kept.result ≡ kept_depth proof =
    c.stored_depth-kept.ensures ∙ ap (depth_from 264) c.bits-2.ensures in
    let child = is_child proof p c.good.ensures kind first in (
      child.0,
      child.1,
      record {
        whole = search rules;
        same_hash = search rules;
        same_depth = search rules;
      },
    )
