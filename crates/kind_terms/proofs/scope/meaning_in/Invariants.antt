use Rattle.std.proofs.Common.{◌≡◌, drop, map}
use Rattle.kind_terms.specs.Scopes.{meaning_in}
use Rattle.kind_terms.specs.Views.{binding_of}
use Rattle.kind_terms.proofs.scope.meaning_in.Given as goal

abbrev pub invariant-loop-binding : goal.invariant-loop-binding
invariant-loop-binding l = meaning_in (map binding_of (drop l.binding-index l.bindings)) l.name ≡ meaning_in (map binding_of l.bindings) l.name
