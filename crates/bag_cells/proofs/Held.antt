-- Raw bytes that nothing refuses hold a tree.
use Rattle.std.proofs.Common.{◌≡◌, ◌⊎◌, inl, inr, ℕ, ◌-◌, ◌<◌, List, refl, arith}
use Rattle.std.specs.Prelude.{Option, Some, None, Result, Ok, Err}
use Rattle.cell_nodes.specs.declared.tree.Tree.{Tree}
use Rattle.bag_cells.specs.Form.{raw_of}
use Rattle.bag_cells.specs.Header.{cells, root, header_refusal}
use Rattle.bag_cells.specs.Trees.{trees, root_tree}
use Rattle.bag_cells.specs.Bag.{refusal, BagHolds, BagRefused, form, content}
use Rattle.bag_cells.specs.declared.error.BagError.{BagError}
use Rattle.bag_cells.proofs.Nones.{trees-length, root-within, root_refusal-none, header_refusal-none, there}
use Rattle.bag_cells.proofs.Unfolding.{LastAccepted, all-accepted, root_unfolds}

pub root-found : (raw : List ℕ) → root raw < cells raw → LastAccepted raw (cells raw) → (t : Tree) × (root_tree raw ≡ Some t)
root-found raw within each =
    let count = trees-length raw (cells raw) (omega arith) each in
    there (trees raw (cells raw)) (cells raw - 1 - root raw) (omega arith)

pub root-inside : (raw : List ℕ) → header_refusal raw ≡ None → root raw < cells raw
root-inside raw h = root-within raw (root_refusal-none raw h)

pub root_found : (raw : List ℕ) → refusal raw ≡ None → (t : Tree) × (root_tree raw ≡ Some t)
root_found raw h = root-found raw (root-inside raw (header_refusal-none raw h)) (all-accepted raw h)

by_refusal : (file raw : List ℕ) (o : Option BagError) → raw_of file ≡ Ok raw → refusal raw ≡ o → ((t : Tree) × BagHolds file t) ⊎ ((e : BagError) × BagRefused file e)
by_refusal file raw (Some e) f h = inr (e, content raw f h)
by_refusal file raw None f h =
    let found = root_found raw h in
    inl (found.0, record { raw = raw; form = f; accepted = h; unfolded = root_unfolds raw found.0 h found.1 })

by_form : (file : List ℕ) (r : Result (List ℕ) BagError) → raw_of file ≡ r → ((t : Tree) × BagHolds file t) ⊎ ((e : BagError) × BagRefused file e)
by_form file (Err e) f = inr (e, form f)
by_form file (Ok raw) f = by_refusal file raw (refusal raw) f refl

pub holds_or_refused : (file : List ℕ) → ((t : Tree) × BagHolds file t) ⊎ ((e : BagError) × BagRefused file e)
holds_or_refused file = by_form file (raw_of file) refl
