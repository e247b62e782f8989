-- A choice of spots cuts a laid value, and what is kept stays as it is.
use Rattle.std.proofs.Common.{◌≡◌, inl, inr, ℕ, suc, Bool, true, false, cond, List, [], ◌∷◌, ◌++◌, length, Some, None}
use Rattle.std.proofs.Common.{refl, sym, ap, ◌∙◌, subst}
use Rattle.cell_nodes.specs.Constructed.{stub}
use Rattle.cell_nodes.specs.HiddenParts.{hidden_by}
use Rattle.cell_nodes.specs.Prunes.{Prunes, same, AllPrune, none, more}
use Rattle.cell_nodes.specs.declared.tree.Kind.{Kind}
use Rattle.cell_nodes.specs.declared.tree.Kind.TheVariants.{Ordinary, Pruned, Library, Proof, Update}
use Rattle.cell_nodes.specs.declared.tree.Mode.TheVariants.{Partial}
use Rattle.cell_nodes.specs.declared.tree.Tree.{Tree, out-Tree}
use Rattle.hashmap_tree.specs.Dict.{unseen}
use Rattle.typed_value.specs.Paths.{named, item, keyed}
use Rattle.typed_value.specs.Values as values
use Rattle.pruning.specs.Laid.{Laid, number, bit_string, record_of, absent, list_of, ref_to, ref_to_raw, no_map}
use Rattle.pruning.specs.Laid.{map_under, map_here, rest, Laids, no_laids, a_laid, LaidEdge, a_leaf, a_fork, trees}
use Rattle.pruning.specs.Spots.{Where, stepped, past, in_edge, in_ref, spot, first_name, other_names}
use Rattle.pruning.specs.Blanked.{hidden_of}
use Rattle.pruning.specs.Cut.{Choice, cut_cell, cut, cut_fields, cut_items, cut_edge}
use Rattle.pruning_laws.specs.CleanLaws.{IsClean}
use Rattle.pruning_laws.specs.Cuts.{Parts, hidden_part, blank, blank_fields, blank_items, blank_edge, ForRest, ForRaw}
use Rattle.pruning_laws.specs.Cuts.{CutsCell, Cuts, CutsAll, CutsEdge}
use Rattle.pruning_laws.specs.ReadsLaws.{Trusts}

abbrev pub kept_rest : ForRest
kept_rest ts ps = ps ≡ ts

abbrev pub kept_raw : ForRaw
kept_raw c p = p ≡ c

cuts_cell : (E : List Tree → Parts → Type 0) (b : Bool) (c : Tree) (qs : List Tree) (x : Parts) → E qs x
    → CutsCell E c (cut_cell b c qs) (cond b (hidden_part c) x)
cuts_cell E true c qs x e = inl (refl, refl)
cuts_cell E false c qs x e = inr (qs, refl, e)

mutual
  pub chooses : (f : Choice) (w : Where) (d : Laid) → Cuts kept_rest kept_raw d (cut f w d) (blank f w d)
  chooses f w (number negative size) = (refl, refl)
  chooses f w (bit_string bits) = (refl, refl)
  chooses f w (record_of name names ds) = (blank_fields f w names ds, refl, chooses_fields f w names ds)
  chooses f w absent = (refl, refl)
  chooses f w (list_of ds) = (blank_items f w 0 ds, refl, chooses_items f w 0 ds)
  chooses f w (ref_to c d) = go (f (spot w None c)) (chooses f (in_ref w) d)
    where
      go : (b : Bool) → Cuts kept_rest kept_raw d (cut f (in_ref w) d) (blank f (in_ref w) d)
          → Cuts kept_rest kept_raw (ref_to c d) (cut_cell b c (cut f (in_ref w) d) ∷ [])
          (cond b (values.unknown (hidden_of c)) (values.ref_to tt (blank f (in_ref w) d)))
      go true e = inl (refl, refl)
      go false e = inr (cut f (in_ref w) d, blank f (in_ref w) d, refl, refl, e)
  chooses f w (ref_to_raw c) = go (f (spot w None c))
    where
      go : (b : Bool) → Cuts kept_rest kept_raw (ref_to_raw c) (cond b (stub c 0) c ∷ [])
          (cond b (values.unknown (hidden_of c)) (values.ref_to tt (values.raw c)))
      go true = inl (refl, refl)
      go false = inr (c, refl, refl, refl)
  chooses f w no_map = (refl, refl)
  chooses f w (map_under c e) = (
    cut_cell (f (spot w (Some []) c)) c (cut_edge f (in_edge w) [] e),
    cond (f (spot w (Some []) c)) (hidden_part c) (blank_edge f (in_edge w) [] e),
    refl,
    refl,
    cuts_cell (CutsEdge kept_rest kept_raw e) (f (spot w (Some []) c)) c (cut_edge f (in_edge w) [] e)
        (blank_edge f (in_edge w) [] e) (chooses_edge f (in_edge w) [] e),
  )
  chooses f w (map_here e) = (blank_edge f w [] e, refl, chooses_edge f w [] e)
  chooses f w (rest s) = (refl, refl)

  chooses_fields : (f : Choice) (w : Where) (names : List (List ℕ)) (ds : Laids)
      → CutsAll kept_rest kept_raw ds (cut_fields f w names ds) (blank_fields f w names ds)
  chooses_fields f w names no_laids = (refl, refl)
  chooses_fields f w names (a_laid d ds) = (
    cut f (stepped w (named (first_name names))) d,
    cut_fields f (past w (length (trees d))) (other_names names) ds,
    blank f (stepped w (named (first_name names))) d,
    blank_fields f (past w (length (trees d))) (other_names names) ds,
    refl,
    refl,
    chooses f (stepped w (named (first_name names))) d,
    chooses_fields f (past w (length (trees d))) (other_names names) ds,
  )

  chooses_items : (f : Choice) (w : Where) (i : ℕ) (ds : Laids)
      → CutsAll kept_rest kept_raw ds (cut_items f w i ds) (blank_items f w i ds)
  chooses_items f w i no_laids = (refl, refl)
  chooses_items f w i (a_laid d ds) = (
    cut f (stepped w (item i)) d,
    cut_items f (past w (length (trees d))) (suc i) ds,
    blank f (stepped w (item i)) d,
    blank_items f (past w (length (trees d))) (suc i) ds,
    refl,
    refl,
    chooses f (stepped w (item i)) d,
    chooses_items f (past w (length (trees d))) (suc i) ds,
  )

  chooses_edge : (f : Choice) (w : Where) (q : List ℕ) (e : LaidEdge)
      → CutsEdge kept_rest kept_raw e (cut_edge f w q e) (blank_edge f w q e)
  chooses_edge f w q (a_leaf l d) =
      (blank f (stepped w (keyed (q ++ l))) d, refl, chooses f (stepped w (keyed (q ++ l))) d)
  chooses_edge f w q (a_fork l z a o b) =
      let x = q ++ (l ++ 0 ∷ []) in
      let y = q ++ (l ++ 1 ∷ []) in (
        cut_cell (f (spot w (Some x) z)) z (cut_edge f (in_edge w) x a),
        cut_cell (f (spot (past w 1) (Some y) o)) o (cut_edge f (in_edge (past w 1)) y b),
        cond (f (spot w (Some x) z)) (hidden_part z) (blank_edge f (in_edge w) x a),
        cond (f (spot (past w 1) (Some y) o)) (hidden_part o) (blank_edge f (in_edge (past w 1)) y b),
        refl,
        refl,
        cuts_cell (CutsEdge kept_rest kept_raw a) (f (spot w (Some x) z)) z (cut_edge f (in_edge w) x a)
            (blank_edge f (in_edge w) x a) (chooses_edge f (in_edge w) x a),
        cuts_cell (CutsEdge kept_rest kept_raw b) (f (spot (past w 1) (Some y) o)) o
            (cut_edge f (in_edge (past w 1)) y b)
            (blank_edge f (in_edge (past w 1)) y b) (chooses_edge f (in_edge (past w 1)) y b),
      )

-- ---- what is kept

pub all_same : (ts : List Tree) → AllPrune ts ts 0
all_same [] = none 0
all_same (t ∷ ts) = more t t ts ts 0 (same t 0) (all_same ts)

nothing-hidden : (k : Kind) (bits : List ℕ) → hidden_by k bits 0 ≡ None
nothing-hidden Ordinary bits = refl
nothing-hidden Pruned bits = refl
nothing-hidden Library bits = refl
nothing-hidden Proof bits = refl
nothing-hidden Update bits = refl

pub clean-seen : (c : Tree) → IsClean c → unseen Partial c ≡ None
clean-seen c h =
    ap (hidden_by (out-Tree c).kind (out-Tree c).bits) h.level ∙ nothing-hidden (out-Tree c).kind (out-Tree c).bits

pub trusts_kept : Trusts kept_rest kept_raw
trusts_kept = record {
  rests = λ ts ps clean e. let P : List Tree → Type 0 = λ ps. AllPrune ts ps 0 in subst P (sym e) (all_same ts);
  raws = λ c p clean e.
      let P : Tree → Type 0 = λ p. Prunes c p 0 × (unseen Partial p ≡ None) in
      subst P (sym e) (same c 0, clean-seen c clean);
}
