-- What spells a value in mode Lax can be made to spell it in mode Whole, no longer.
use Rattle.std.proofs.Common.{inl, inr, ℕ, ◌≤◌, Some, None, refl, sym, subst}
use Rattle.cell_nodes.specs.Good.{IsGood}
use Rattle.cell_nodes.specs.declared.tree.Mode.TheVariants.{Whole, Lax}
use Rattle.cell_nodes.specs.declared.tree.Tree.{Tree}
use Rattle.core_form.specs.Core.{CoreSchema}
use Rattle.core_form.specs.Closed.{Closed}
use Rattle.building.specs.PlainBuilder.{most_cells}
use Rattle.spelling.specs.Goals.{under_ref}
use Rattle.spelling.specs.Spells.{Spells, SpellsShape, Each, EachPair, IsRootOf}
use Rattle.typed_value.specs.Values.{Plain, Plains, PlainPairs, number, bit_string, record_of, absent, list_of, ref_to, unknown}
use Rattle.typed_value.specs.Values.{map_of, raw, rest, no_vals, a_val, no_pairs, a_pair}
use Rattle.strict_laws.specs.Laws.{LaxHasTree}
use Rattle.strict_laws.proofs.Forms.{Tightens, TightensAll, TightensBy, TightensAt, by_shape, number_tightened, string_tightened}
use Rattle.strict_laws.proofs.Forms.{declared_tightened, inner_tightened, absent_tightened, list_tightened, HeldLess}
use Rattle.strict_laws.proofs.Forms.{holds_tightened, ref_tightened, unknown_tightened, raw_tightened, rest_tightened}
use Rattle.strict_laws.proofs.Maps.{map_tightened}

mutual
  shape_tightened : (schema : CoreSchema) (v : Plain) → TightensAt (SpellsShape Lax schema v) (SpellsShape Whole schema v)
  shape_tightened schema (number negative size) = number_tightened negative size
  shape_tightened schema (bit_string bits) = string_tightened bits
  shape_tightened schema (record_of (Some name) names vs) =
      declared_tightened schema name names (Each Lax schema vs) (Each Whole schema vs) (all_tightened schema vs)
  shape_tightened schema (record_of None names vs) =
      inner_tightened names (Each Lax schema vs) (Each Whole schema vs) (all_tightened schema vs)
  shape_tightened schema absent = absent_tightened
  shape_tightened schema (list_of vs) = list_tightened (Each Lax schema vs) (Each Whole schema vs) (all_tightened schema vs)
  shape_tightened schema (ref_to a v) =
      let one = by_shape (SpellsShape Lax schema v) (SpellsShape Whole schema v) (shape_tightened schema v) in
      ref_tightened (Spells Lax schema v) (Spells Whole schema v) one
  shape_tightened schema (unknown h) = unknown_tightened h
  shape_tightened schema (map_of a ps us) =
      map_tightened (EachPair Lax schema ps) (EachPair Whole schema ps) (by_tightened schema ps) us
  shape_tightened schema (raw c) = raw_tightened c
  shape_tightened schema (rest s) = rest_tightened s

  pub all_tightened : (schema : CoreSchema) (vs : Plains) → TightensAll (Each Lax schema vs) (Each Whole schema vs)
  all_tightened schema no_vals = tt
  all_tightened schema (a_val v vs) =
      (by_shape (SpellsShape Lax schema v) (SpellsShape Whole schema v) (shape_tightened schema v), all_tightened schema vs)

  pub by_tightened : (schema : CoreSchema) (ps : PlainPairs) → TightensBy (EachPair Lax schema ps) (EachPair Whole schema ps)
  by_tightened schema no_pairs = tt
  by_tightened schema (a_pair k v ps) =
      (refl, by_shape (SpellsShape Lax schema v) (SpellsShape Whole schema v) (shape_tightened schema v), by_tightened schema ps)

-- what is spelled in mode Lax, in mode Whole of a slice that is no longer
pub spelling_tightened : (schema : CoreSchema) (v : Plain) → Tightens (Spells Lax schema v) (Spells Whole schema v)
spelling_tightened schema v = by_shape (SpellsShape Lax schema v) (SpellsShape Whole schema v) (shape_tightened schema v)

-- ---- the root

root_tightened : (schema : CoreSchema) (t : Closed) (v : Plain) (c : Tree) → IsRootOf Lax schema t c v → IsGood c
    → HeldLess (Spells Whole schema v) (under_ref t) c
root_tightened schema t v c (inl h) g =
    holds_tightened (Spells Lax schema v) (Spells Whole schema v) (spelling_tightened schema v) (under_ref t) c h g
root_tightened schema t (unknown h) c (inr e) g = let seen = e.0 in cc
root_tightened schema t (number negative size) c (inr e) g = absurd e
root_tightened schema t (bit_string bits) c (inr e) g = absurd e
root_tightened schema t (record_of name names vs) c (inr e) g = absurd e
root_tightened schema t absent c (inr e) g = absurd e
root_tightened schema t (list_of vs) c (inr e) g = absurd e
root_tightened schema t (ref_to _ v) c (inr e) g = absurd e
root_tightened schema t (map_of _ ps us) c (inr e) g = absurd e
root_tightened schema t (raw d) c (inr e) g = absurd e
root_tightened schema t (rest r) c (inr e) g = absurd e

pub lax_has_tree : LaxHasTree
lax_has_tree schema t v c e =
    let k = root_tightened schema t v c e.reading.root e.good in
    let S : ℕ → Type 0 = λ n. n ≤ most_cells in (
      k.0,
      record {
        tree = record {
          good = k.2.fine;
          reading = record { root = inl k.1; deep = e.reading.deep; large = e.reading.large };
          small = subst S (sym k.2.same_cells) e.small;
        };
        shape = k.2.shape;
      },
    )
