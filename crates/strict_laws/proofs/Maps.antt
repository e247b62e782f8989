-- What a map takes in mode Lax, and then in mode Whole of a slice that is no longer.
use Rattle.std.proofs.Common.{inl, inr, ℕ, List, [], ◌∷◌, refl, ◌∙◌, subst}
use Rattle.cell_nodes.specs.declared.tree.Hidden.{Hidden}
use Rattle.cell_nodes.specs.declared.tree.Mode.TheVariants.{Whole, Lax}
use Rattle.cell_nodes.specs.declared.tree.Tree.{Tree}
use Rattle.core_form.specs.Closed.{Closed}
use Rattle.core_form.specs.Closed as closed
use Rattle.hashmap_tree.specs.Dict.{Branch}
use Rattle.hashmap_tree.specs.Entries.{Slice, leaf, hidden, Entries}
use Rattle.hashmap_tree.specs.First.{LeafEdge}
use Rattle.spelling.specs.Goals.{at_type, typed}
use Rattle.spelling.specs.Slices.{nothing}
use Rattle.spelling.specs.Spells.{Keyed, no_keyed, a_keyed, EntriesHold, InPlace, SpellsDict, IsEmpty, SpellsDictE, no_entries}
use Rattle.spelling.specs.Spells.{some_entries, SpellsMap}
use Rattle.strict_laws.proofs.Less.{Fine}
use Rattle.strict_laws.proofs.Steps.{Tightened, tightened_then, tightened_as, tightened_bits, tightened_ref, ref_fine}
use Rattle.strict_laws.proofs.Steps.{shorter_nothing}
use Rattle.strict_laws.proofs.Dicts.{EntriesLess, AllFine, leaf_tightened, fork_fine, fork_tightened, branch_fine, shorten_cell}
use Rattle.strict_laws.proofs.Forms.{TightensBy, TightensAt, anywhere}

-- entries no longer than these that hold the same in mode Whole
pub record TightEntries (Ws : Keyed) (us : List (List ℕ × Hidden)) (t : Closed) (es : Entries) : Type 0 where
  pub entries : Entries
  pub less : EntriesLess entries es
  pub hold : EntriesHold Ws us t entries

contents_tightened : (Ls Ws : Keyed) → TightensBy Ls Ws → (us : List (List ℕ × Hidden)) (t : Closed) (es : Entries)
    → AllFine es → EntriesHold Ls us t es → TightEntries Ws us t es
contents_tightened no_keyed no_keyed r us t [] fine e = record { entries = []; less = tt; hold = e }
contents_tightened no_keyed (a_keyed j W Ws) r us t [] fine e = absurd r
contents_tightened (a_keyed k L Ls) Ws r us t [] fine e = absurd e.0
contents_tightened Ls Ws r us t ((k, hidden h) ∷ es) fine e = absurd fine.0
contents_tightened no_keyed Ws r us t ((k, leaf c) ∷ es) fine e = let wrong = e.0 in cc
contents_tightened (a_keyed j L Ls) no_keyed r us t ((k, leaf c) ∷ es) fine e = absurd r
contents_tightened (a_keyed j L Ls) (a_keyed i W Ws) r us t ((k, leaf c) ∷ es) fine e =
    let one = (r.1 (at_type t) c e.0.0 nothing e.0.2 fine.0).strict nothing shorter_nothing in
    let more = contents_tightened Ls Ws r.2 us t es fine.1 (e.0.3, e.1) in record {
      entries = (k, leaf one.start) ∷ more.entries;
      less = (refl, one.shorter, more.less);
      hold = ((e.0.0, e.0.1 ∙ r.0, one.spelled, more.hold.0), more.hold.1);
    }

-- ---- an edge in place

place_tightened : (Ls Ws : Keyed) → TightensBy Ls Ws → (us : List (List ℕ × Hidden)) (n : ℕ) (t : Closed)
    (before after : Slice) → InPlace Lax Ls us n t before after → Fine before
    → Tightened (λ b a. InPlace Whole Ws us n t b a) before after
place_tightened (a_keyed k L no_keyed) (a_keyed j W no_keyed) r [] n t before after e fine =
    let K : List ℕ → Type 0 = λ x. LeafEdge Lax n x before e.0 in
    let label = leaf_tightened n j before e.0 (subst K r.0 e.2) fine in
    tightened_as (tightened_then label (r.1 (at_type t) e.0 e.1 after e.3 label.fine)) (λ b a k. (k.0, e.1, k.1, k.2))
place_tightened (a_keyed k L no_keyed) (a_keyed j W (a_keyed i X Xs)) r [] n t before after e fine = absurd r.2
place_tightened (a_keyed k L no_keyed) no_keyed r [] n t before after e fine = absurd r
place_tightened (a_keyed k L (a_keyed i X Xs)) Ws r [] n t before after e fine = absurd e
place_tightened no_keyed Ws r [] n t before after e fine = absurd e
place_tightened Ls Ws r (u ∷ us) n t before after e fine = absurd (nowhere Ls e)
  where
    nowhere : (Ls : Keyed) → InPlace Lax Ls (u ∷ us) n t before after → ⊥
    nowhere no_keyed e = e
    nowhere (a_keyed k L no_keyed) e = e
    nowhere (a_keyed k L (a_keyed i X Xs)) e = e

dict_tightened : (Ls Ws : Keyed) → TightensBy Ls Ws → (us : List (List ℕ × Hidden)) (n : ℕ) (t : Closed)
    (before after : Slice) → SpellsDict Lax Ls us n t before after → Fine before
    → Tightened (λ b a. SpellsDict Whole Ws us n t b a) before after
dict_tightened Ls Ws r us n t before after (inl e) fine =
    tightened_as (place_tightened Ls Ws r us n t before after e fine) (λ b a k. inl k)
dict_tightened Ls Ws r us n t before after (inr e) fine =
    let held = contents_tightened Ls Ws r us t e.0 (fork_fine n e.0 before after e.1 fine).0 e.2 in
    tightened_as (fork_tightened n e.0 held.entries before after e.1 fine held.less) (λ b a k. inr (held.entries, k, held.hold))

-- ---- an edge in a cell of its own

empty_tightened : (Ls Ws : Keyed) → TightensBy Ls Ws → IsEmpty Ls → IsEmpty Ws
empty_tightened no_keyed no_keyed r e = tt
empty_tightened no_keyed (a_keyed j W Ws) r e = absurd r
empty_tightened (a_keyed k L Ls) Ws r e = absurd e

dict_e_tightened : (Ls Ws : Keyed) → TightensBy Ls Ws → (us : List (List ℕ × Hidden)) (n : ℕ) (t : Closed)
    (before after : Slice) → SpellsDictE Lax Ls us n t before after → Fine before
    → Tightened (λ b a. SpellsDictE Whole Ws us n t b a) before after
dict_e_tightened Ls Ws r us n t before after (no_entries empty none then) fine =
    tightened_as (tightened_bits (0 ∷ []) before after then fine) (λ b a k. no_entries (empty_tightened Ls Ws r empty) none k)
dict_e_tightened Ls Ws r us n t before after (some_entries c es then branch hold) fine =
    let good = (ref_fine (1 ∷ []) c before after then fine).1 in
    let held = contents_tightened Ls Ws r us t es (branch_fine n es c branch good) hold in
    let cell = shorten_cell n es c branch good held.entries held.less in
    let P : Tree → Type 0 = λ d. Branch Whole n held.entries d in
    tightened_as (tightened_ref P (1 ∷ []) c cell.0 before after then fine cell.1 cell.2)
    (λ b a k. some_entries k.0 held.entries k.1 k.2 held.hold)

pub map_tightened : (Ls Ws : Keyed) → TightensBy Ls Ws → (us : List (List ℕ × Hidden))
    → TightensAt (SpellsMap anywhere Lax Ls us) (SpellsMap anywhere Whole Ws us)
map_tightened Ls Ws r us (typed (closed.dict n t)) before outs after e fine =
    tightened_as (dict_tightened Ls Ws r us n t before after e.1 fine) (λ b a k. (e.0, k, tt))
map_tightened Ls Ws r us (typed (closed.dict_e n t)) before outs after e fine =
    tightened_as (dict_e_tightened Ls Ws r us n t before after e.1 fine) (λ b a k. (e.0, k, tt))
map_tightened Ls Ws r us _ before outs after e fine = absurd e
