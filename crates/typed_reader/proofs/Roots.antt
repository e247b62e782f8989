-- What the plain reader gives of a root, in the words of the promise.
use Rattle.std.proofs.Common.{◌≡◌, true, false, Some, None, Result, Ok, Err, ap, sym, ◌∙◌}
use Rattle.accepted_schema.specs.Accepted.{IsAccepted, kept_cores}
use Rattle.accepted_spelling.specs.Laws.{ReadIsExact, ReadOrStuck}
use Rattle.cell_nodes.specs.declared.tree.Hidden.{Hidden}
use Rattle.cell_nodes.specs.declared.tree.Mode.{Mode}
use Rattle.cell_nodes.specs.declared.tree.Tree.{Tree}
use Rattle.core_form.specs.Closed.{Closed}
use Rattle.core_form.specs.Core.{CoreSchema}
use Rattle.hashmap_tree.specs.Dict.{unseen}
use Rattle.plan_reading.specs.Stops.{place_from}
use Rattle.plan_reading.specs.declared.stop.Stop.{Stop}
use Rattle.schema_leads.specs.Tags.{cores}
use Rattle.spelling.specs.Goals.{is_ref, under_ref}
use Rattle.spelling.specs.Places.{Place, at_root, stuck}
use Rattle.spelling.specs.PlainReader.{cell_value, read, reading, root_of}
use Rattle.spelling.specs.declared.Cause.TheVariants.{Exotic}
use Rattle.spelling_laws.specs.StepLaws.{when_true, when_false}
use Rattle.tlb_kinds.specs.Refusals.{kept_of}
use Rattle.tlb_syntax.specs.Tree.{SchemaView}
use Rattle.typed_value.specs.Values.{Plain, most_levels, most_parts, unknown}
use Rattle.typed_reader.specs.declared.error.ReadError.{ReadError}
use Rattle.typed_reader.specs.declared.error.ReadError.TheVariants as errors
use Rattle.field_plan.specs.Placed.{place_view}
use Rattle.typed_reader.specs.Promise.{Answers, IsReading, IsStuck, Placed}

module _ (exact : ReadIsExact) (one : ReadOrStuck) (mode : Mode) (s : SchemaView) (accepted : IsAccepted s)
    (kept : kept_of s ≡ s)
    (t : Closed) (c : Tree) where
  by_kept : (r : Result Plain Place) → read mode (cores s) t c ≡ r → read mode (kept_cores s) t c ≡ r
  by_kept r e = ap (λ z. read mode (cores z) t c) kept ∙ e

  pub is_reading : (v : Plain) → read mode (cores s) t c ≡ Ok v → IsReading mode (kept_cores s) t c v
  is_reading v e =
      let reading = ((exact mode s accepted t c).readings v).0 (by_kept (Ok v) e) in
      record {
        reading = reading;
        only = λ w r. (one mode s accepted t c).one_reading w v r reading;
      }

  is_stuck : (p : Place) → read mode (cores s) t c ≡ Err p → IsStuck mode (kept_cores s) t c p
  is_stuck p e =
      let stuck = ((exact mode s accepted t c).places p).0 (by_kept (Err p) e) in
      record {
        stuck = stuck;
        only = λ o r. (one mode s accepted t c).one_place o p r stuck;
        unread = λ w r. (one mode s accepted t c).not_both w p r stuck;
      }

  pub answers_placed : (stop : Stop) (e : ReadError) → Placed stop e → read mode (cores s) t c ≡ Err (place_from at_root stop)
      → Answers mode (kept_cores s) t c (Err e)
  answers_placed stop (errors.Stuck p) placed e = is_stuck (place_view p) (e ∙ ap Err (sym placed))
  answers_placed stop errors.NoMemory placed e = tt

-- ---- a root that is hidden, and one that is seen

module _ (mode : Mode) (schema : CoreSchema) (t : Closed) (c : Tree) where
  pub hidden_ref : (x : Hidden) → unseen mode c ≡ Some x → is_ref t ≡ true → read mode schema t c ≡ Err (stuck at_root Exotic)
  hidden_ref x e ref =
      ap (λ z. root_of (reading most_levels most_parts mode schema) t z c) e
      ∙ when_true {A = Result Plain Place} (is_ref t) (Err (stuck at_root Exotic)) (Ok (unknown x)) ref

  pub hidden_root : (x : Hidden) → unseen mode c ≡ Some x → is_ref t ≡ false → read mode schema t c ≡ Ok (unknown x)
  hidden_root x e other =
      ap (λ z. root_of (reading most_levels most_parts mode schema) t z c) e
      ∙ when_false {A = Result Plain Place} (is_ref t) (Err (stuck at_root Exotic)) (Ok (unknown x)) other

  pub seen_root : unseen mode c ≡ None
      → read mode schema t c ≡ cell_value (reading most_levels most_parts mode schema) at_root (under_ref t) 0 c
  seen_root e = ap (λ z. root_of (reading most_levels most_parts mode schema) t z c) e
