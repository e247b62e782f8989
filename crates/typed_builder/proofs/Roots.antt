-- What the plain builder gives of a root, in the words of the promise.
use Rattle.std.proofs.Common.{◌≡◌, ◌≢◌, ℕ, ◌<◌, ◌≤◌, Bool, true, false, cond, nat_lt, min, Option, Some, None, Result}
use Rattle.std.proofs.Common.{Ok, Err, refl, ap, sym, ◌∙◌, arith}
use Rattle.std.proofs.lemmas.Bool.{le-ltb, lt-ltb}
use Rattle.accepted_building.specs.Laws.{BuiltIsOne, IsOnePlaceOf, IsOneTreeOf, StopsAtOne}
use Rattle.accepted_schema.specs.Accepted.{IsAccepted, kept_cores}
use Rattle.cell_nodes.specs.Constructed.{pruned_of}
use Rattle.cell_nodes.specs.Tree.{capped, unfolded}
use Rattle.cell_nodes.specs.declared.tree.Hidden.{Hidden}
use Rattle.cell_nodes.specs.declared.tree.Mode.{Mode}
use Rattle.cell_nodes.specs.declared.tree.Mode.TheVariants.{Lax, Partial, Whole}
use Rattle.cell_nodes.specs.declared.tree.Tree.{Tree}
use Rattle.core_form.specs.Closed.{Closed}
use Rattle.core_form.specs.Core.{CoreSchema}
use Rattle.hashmap_labels.specs.declared.forms.Forms.TheVariants.{Required}
use Rattle.hashmap_tree.specs.Dict.{forms_of}
use Rattle.plan_reading.specs.StopLaws.{stops_at, stops_then}
use Rattle.plan_reading.specs.Stops.{Stops, StopsAt, place_from}
use Rattle.plan_reading.specs.declared.stop.Stop.{Stop}
use Rattle.plan_reading.specs.declared.stop.StopError.{StopError}
use Rattle.schema_leads.specs.Tags.{cores}
use Rattle.spelling.specs.Goals.{under_ref}
use Rattle.spelling.specs.Places.{Place, at_root, stuck}
use Rattle.spelling.specs.PlainReader.{◌>>=◌}
use Rattle.spelling.specs.declared.Cause.TheVariants.{Sprawl, TooDeep}
use Rattle.spelling_laws.specs.StepLaws.{when_true, when_false}
use Rattle.tlb_kinds.specs.Refusals.{kept_of}
use Rattle.tlb_syntax.specs.Tree.{SchemaView}
use Rattle.typed_value.specs.Values.{Plain, most_levels, most_parts}
use Rattle.building.specs.Buildable.{InRange}
use Rattle.building.specs.PlainBuilder.{build, built_root, hidden_root, hides_root, making, most_cells, root_by, sized}
use Rattle.field_plan.specs.Placed.{place_view}
use Rattle.typed_builder.specs.declared.error.BuildError.{BuildError}
use Rattle.typed_builder.specs.declared.error.BuildError.TheVariants as errors
use Rattle.typed_builder.specs.Promise.{Answers, Placed}
use Rattle.typed_builder.specs.View.{built_cell}
use Rattle.typed_builder.proofs.Steps.{goes_on, stops_same}

-- ---- the promise

required : (mode : Mode) → (mode ≡ Lax → ⊥) → forms_of mode ≡ Required
required Whole f = refl
required Partial f = refl
required Lax f = absurd (f refl)

module _ (one : BuiltIsOne) (stops : StopsAtOne) (mode : Mode) (strict : mode ≡ Lax → ⊥) (s : SchemaView)
    (accepted : IsAccepted s) (kept : kept_of s ≡ s) (t : Closed) (v : Plain) (range : InRange v) where
  by_kept : (r : Result Tree Place) → build mode (cores s) t v ≡ r → build mode (kept_cores s) t v ≡ r
  by_kept r e = ap (λ z. build mode (cores z) t v) kept ∙ e

  pub is_tree : (c : Tree) → build mode (cores s) t v ≡ Ok c → IsOneTreeOf mode (kept_cores s) t v c
  is_tree c e = one mode (required mode strict) s accepted t v range c (by_kept (Ok c) e)

  pub answers_placed : (stop : Stop) (e : BuildError) → Placed stop e
      → build mode (cores s) t v ≡ Err (place_from at_root stop) → Answers mode (kept_cores s) t v (Err e)
  answers_placed stop (errors.Unfit p) placed e =
      stops mode (required mode strict) s accepted t v range (place_view p)
      (by_kept (Err (place_view p)) (e ∙ ap Err (sym placed)))
  answers_placed stop errors.NoMemory placed e = tt

-- ---- the root cell

module _ (mode : Mode) (schema : CoreSchema) (t : Closed) (v : Plain) where
  pub open_is : hides_root mode t v ≡ None
      → built_root most_levels most_parts mode schema t v
      ≡ built_cell (making most_levels most_parts mode schema) at_root (under_ref t) 0 v
  open_is e = ap (λ o. root_by o most_levels most_parts mode schema t v) e

  pub hidden_is : (x : Hidden) → hides_root mode t v ≡ Some x
      → built_root most_levels most_parts mode schema t v ≡ hidden_root most_levels most_parts x
  hidden_is x e = ap (λ o. root_by o most_levels most_parts mode schema t v) e

  -- and the number of its cells

  pub root_stops : (e : StopError) → Stops at_root e (built_root most_levels most_parts mode schema t v)
      → Stops at_root e (build mode schema t v)
  root_stops e stop = stops_then at_root e (built_root most_levels most_parts mode schema t v) (sized most_cells) stop

  pub root_sprawls : (c : Tree) (e : StopError) → built_root most_levels most_parts mode schema t v ≡ Ok c
      → 262144 < capped (unfolded c) → StopsAt at_root e (stuck at_root Sprawl) → Stops at_root e
      (build mode schema t v)
  root_sprawls c e built many at =
      stops_at at_root e (stuck at_root Sprawl) (build mode schema t v) at
      (goes_on (built_root most_levels most_parts mode schema t v) (sized most_cells) c built
      ∙ when_true {A = Result Tree Place} (nat_lt most_cells (unfolded c)) (Err (stuck at_root Sprawl)) (Ok c)
      (lt-ltb most_cells (unfolded c) (omega (arith, many))))

  pub root_on : (c : Tree) → built_root most_levels most_parts mode schema t v ≡ Ok c → capped (unfolded c) ≤ 262144
      → build mode schema t v ≡ Ok c
  root_on c built few =
      goes_on (built_root most_levels most_parts mode schema t v) (sized most_cells) c built
      ∙ when_false {A = Result Tree Place} (nat_lt most_cells (unfolded c)) (Err (stuck at_root Sprawl)) (Ok c)
      (le-ltb most_cells (unfolded c) (omega (arith, few)))

-- ---- a pruned branch as the root

pub too_deep : (x : Hidden) → 1024 < x.depth → hidden_root most_levels most_parts x ≡ Err (stuck at_root TooDeep)
too_deep x deep =
    when_true {A = Result Tree Place} (nat_lt 1024 x.depth) (Err (stuck at_root TooDeep))
    (Ok (pruned_of x.hash x.depth))
    (lt-ltb 1024 x.depth deep)

pub pruned_on : (x : Hidden) (c : Tree) → x.depth ≤ 1024 → c ≡ pruned_of x.hash x.depth
    → hidden_root most_levels most_parts x ≡ Ok c
pruned_on x c low is =
    when_false {A = Result Tree Place} (nat_lt 1024 x.depth) (Err (stuck at_root TooDeep))
    (Ok (pruned_of x.hash x.depth))
    (le-ltb 1024 x.depth low)
    ∙ ap (λ (z : Tree). Ok z) (sym is)
