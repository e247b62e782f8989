-- A root cell with parts hidden reads as its value with these parts hidden.
use Rattle.std.proofs.Common.{◌≡◌, inl, ◌≤◌, List, [], None, refl, sym, subst, arith}
use Rattle.cell_nodes.specs.Prunes.{Prunes, same}
use Rattle.cell_nodes.specs.declared.tree.Mode.TheVariants.{Partial}
use Rattle.cell_nodes.specs.declared.tree.Tree.{Tree}
use Rattle.hashmap_tree.specs.Dict.{unseen}
use Rattle.core_form.specs.Core.{CoreSchema}
use Rattle.core_form.specs.Closed.{Closed}
use Rattle.spelling.specs.Goals.{Goal, at_cell, as_cell, under_ref}
use Rattle.spelling.specs.Spells.{Spells, Holds, Reading}
use Rattle.typed_value.specs.Values.{Plain, levels, parts, most_levels, most_parts}
use Rattle.typed_value.specs.Values as values
use Rattle.pruning.specs.Laid.{Laid, plain}
use Rattle.pruning.specs.SpellsLaid.{LaidRoot, as_it_is, laid, plain_root, IsLaidRoot}
use Rattle.pruning.specs.Spots.{at_root}
use Rattle.pruning.specs.Cut.{Choice, cell_with, cut, cut_root}
use Rattle.pruning_laws.specs.CleanLaws.{IsClean}
use Rattle.pruning_laws.specs.Cuts.{blank, blank_root, ForRest, ForRaw, Cuts}
use Rattle.pruning_laws.specs.ReadsLaws.{Trusts, holds_go, reads}
use Rattle.pruning_laws.specs.ChoiceLaws.{kept_rest, kept_raw, chooses, clean-seen, trusts_kept}
use Rattle.pruning_laws.specs.SizeLaws.{no_larger}

-- within the limits of a value
pub record IsSmall (v : Plain) : Type 0 where
  pub deep : levels v ≤ most_levels
  pub large : parts v ≤ most_parts

-- the pruned cell and its reading
pub record Shows (schema : CoreSchema) (t : Closed) (c p : Tree) (w : Plain) : Type 0 where
  pub prunes : Prunes c p 0
  pub reads : Reading Partial schema t p w

pub raw_holds : (schema : CoreSchema) (g : Goal) (p : Tree) → g ≡ at_cell
    → unseen Partial p ≡ None
    → Holds Partial (Spells Partial schema (values.raw p)) g p
raw_holds schema g p e seen =
    let P : Goal → Type 0 = λ g. Holds Partial (Spells Partial schema (values.raw p)) g p in
    subst P (sym e) ([], seen, (as_cell, refl, (refl, record { bits = refl; refs = refl })))

-- any cut of the value in the cell
pub cut_shows : (schema : CoreSchema) (K : ForRest) (R : ForRaw) → Trusts K R → (t : Closed) (c : Tree) (d : Laid)
    → IsClean c → IsLaidRoot schema t c (laid d) → IsSmall (plain d) → (ps : List Tree) (w : Plain) → Cuts K R d ps w
    → Shows schema t c (cell_with c ps) w
cut_shows schema K R trust t c d clean lies small ps w cuts =
    let x = holds_go schema K R d (reads schema K R trust d) (under_ref t) c clean lies ps w cuts in
    let y = no_larger K R d ps w cuts in
    let yd = y.deep in
    let yl = y.large in
    let sd = small.deep in
    let sl = small.large in
    record {
      prunes = x.prunes;
      reads = record { root = inl x.holds; deep = omega (arith, yd, sd); large = omega (arith, yl, sl) };
    }

pub choice_shows : (schema : CoreSchema) (t : Closed) (c : Tree) (r : LaidRoot) (f : Choice) → IsClean c
    → IsLaidRoot schema t c r → IsSmall (plain_root r) → Shows schema t c (cut_root f r c) (blank_root f r)
choice_shows schema t c (as_it_is x) f clean lies small =
    let P : Tree → Type 0 = λ x. Shows schema t c c (values.raw x) in
    subst P (sym lies.1) (record {
      prunes = same c 0;
      reads = record {
        root = inl (raw_holds schema (under_ref t) c lies.0 (clean-seen c clean));
        deep = omega arith;
        large = omega arith;
      };
    })
choice_shows schema t c (laid d) f clean lies small =
    cut_shows schema kept_rest kept_raw trusts_kept t c d clean lies small (cut f at_root d) (blank f at_root d)
    (chooses f at_root d)
