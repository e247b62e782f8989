use Rattle.std.proofs.Common.{refl, map}
use Rattle.std.proofs.Math.Seq.{take-length}
use Rattle.tlb_syntax.specs.View.{constructor, item}
use Rattle.kind_declarations.specs.Views.{words}
use Rattle.kind_declarations.proofs.RecordNodes.{added_front, added_scope}
use Rattle.kind_declarations.proofs.scope.Scope.declare.Goals as goal

pub returns-clause-scope : goal.returns-clause-scope
returns-clause-scope c =
    let s = c.args.self.now in
    added_scope (map constructor s.types.now) s.bindings c.add_binding.new.bindings s.around (words s.inputs.now) (words s.known) (words c.add_known.new.known)
    (item c.args.item.now) c.requires c.in_ok-add_binding.ensures c.in_ok-add_known.ensures.names

pub returns-clause-follows : goal.returns-clause-follows
returns-clause-follows c = record {
  same = refl;
  bindings = added_front c.args.self.now.bindings c.add_binding.new.bindings (item c.args.item.now) c.in_ok-add_binding.ensures;
  known = c.in_ok-add_known.ensures.kept;
  fields = take-length c.args.self.now.fields;
}
