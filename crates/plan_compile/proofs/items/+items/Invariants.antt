use Rattle.std.proofs.Common.{◌≡◌, ◌+◌, drop, map}
use Rattle.tlb_syntax.specs.View.{constructor, items}
use Rattle.flat_form.specs.Growth.{Adds}
use Rattle.flat_form.specs.Parts.{AreOps, append_items, items_so_far}
use Rattle.schema_core.specs.CoreOf.{items_of, names_after}
use Rattle.schema_core.specs.Slots.{slots_in}
use Rattle.plan_compile.specs.Views.{names_by}
use Rattle.plan_compile.proofs.items.+items.Given as goal

abbrev pub invariant-compile_items-loop-item : goal.invariant-compile_items-loop-item
invariant-compile_items-loop-item l = record {
  adds : Adds l.fn.flat l.flat;
  ops : AreOps l.flat l.ops;
  same : append_items (items_so_far l.flat l.ops)
      (items_of (map constructor l.types) (names_by l.names) l.next l.place l.unnamed (items (drop l.item-index l.items)))
      ≡ items_of (map constructor l.types) (names_by l.fn.names) l.fn.next 1 0 (items l.items);
  next : l.next + slots_in (items (drop l.item-index l.items)) ≡ l.fn.next + slots_in (items l.items);
  names : names_after (items (drop l.item-index l.items)) (names_by l.names) l.next
      ≡ names_after (items l.items) (names_by l.fn.names) l.fn.next;
}
