-- The tree of a root, by what is cut in it.
use Rattle.std.proofs.Common.{◌≡◌, true, false, Ok, Err, refl, sym, ap, ◌∙◌, subst, arith, Result}
use Rattle.accepted_schema.specs.Accepted.{kept_cores}
use Rattle.cell_nodes.specs.Good.{IsGood}
use Rattle.cell_nodes.specs.Tree.{mask}
use Rattle.cell_nodes.specs.declared.tree.Tree.{Tree}
use Rattle.core_form.specs.Closed.{Closed}
use Rattle.schema_leads.specs.Tags.{cores}
use Rattle.spelling.specs.Goals.{under_ref}
use Rattle.tlb_kinds.specs.Refusals.{kept_of}
use Rattle.tlb_syntax.specs.Tree.{SchemaView}
use Rattle.typed_value.specs.Values.{Plain, levels, most_levels}
use Rattle.pruning.specs.Cut.{cell_with}
use Rattle.pruning.specs.Laid.{Laid}
use Rattle.pruning.specs.SpellsLaid.{LaidRoot, as_it_is, laid, plain_root, LaidReading}
use Rattle.pruning_laws.specs.FilledLaws.{cell_filled, takes}
use Rattle.proof_laws.specs.Proving.{pruned_for}
use Rattle.pruned_proof.specs.Proved.{CutsTo}
use Rattle.pruned_proof.specs.Walks.{Fills, Gives, Is, is_raw}
use Rattle.pruned_proof.specs.Wanted.{Rests, is_whole, cut_for}
use Rattle.pruned_proof.specs.declared.cutting.CutError.{CutError}
use Rattle.pruned_proof.specs.declared.cutting.CutError.TheVariants.{Unread, NoMemory}
use Rattle.pruned_proof.proofs.CutLaws.{cuts_root}
use Rattle.pruned_proof.proofs.Led.{not_raw}
use Rattle.pruned_proof.proofs.Pruned.{cut_whole}

module _ (s : SchemaView) (kept : kept_of s ≡ s) (t : Closed) (c : Tree) (good : IsGood c) (whole : mask c ≡ 0)
    (paths : Rests) where
  -- a cell as it is, or one that a path keeps whole
  pub raw_root : (r : LaidRoot) → LaidReading (kept_cores s) t c r → is_raw (plain_root r) ≡ true → c ≡ pruned_for paths r c
  raw_root (as_it_is x) l e = refl
  raw_root (laid d) l e = let f : false ≡ true = sym (not_raw d) ∙ e in absurd (cc)

  root_fills : (d : Laid) → LaidReading (kept_cores s) t c (laid d) → Fills (cores s) (under_ref t) d c
  root_fills d l =
      let P : SchemaView → Type 0 = λ z. Fills (cores z) (under_ref t) d c in
      subst P kept (record { clean = record { good = good; level = whole }; holds = l.lies })

  pub whole_root : (r : LaidRoot) → LaidReading (kept_cores s) t c r → is_whole paths ≡ true → c ≡ pruned_for paths r c
  whole_root (as_it_is x) l e = refl
  whole_root (laid d) l e =
      let f = root_fills d l in
      let x = cell_filled (cores s) d (takes (cores s) d) (under_ref t) c f.holds in
      x.0 ∙ ap (cell_with c) (sym (cut_whole paths e d x.1)) ∙ cuts_root paths (laid d) c

  -- what the walk gives
  pub cut_gives : (v : Plain) (k : Rests) (r : LaidRoot) (a : Result Tree CutError) → k ≡ paths → plain_root r ≡ v
      → is_raw v ≡ false → LaidReading (kept_cores s) t c r
      → ((d : Laid) → Is d v most_levels → Fills (cores s) (under_ref t) d c → Gives (λ p. p ≡ cell_with c (cut_for k d)) a)
      → CutsTo paths r c a
  cut_gives v k (as_it_is x) a same is raw l walked =
      let f : true ≡ false = ap is_raw is ∙ raw in absurd (cc)
  cut_gives v k (laid d) a same is raw l walked =
      let deep = l.deep in
      let lower = ap levels is in
      as_answer a (walked d (record { value = is; deep = omega (arith, deep, lower) }) (root_fills d l))
    where
      as_answer : (a : Result Tree CutError) → Gives (λ p. p ≡ cell_with c (cut_for k d)) a → CutsTo paths (laid d) c a
      as_answer (Ok p) g = g ∙ ap (λ (z : Rests). cell_with c (cut_for z d)) same ∙ cuts_root paths (laid d) c
      as_answer (Err Unread) g = g
      as_answer (Err NoMemory) g = tt
