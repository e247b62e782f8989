-- An accepted schema has all that the laws of spelling need.
use Rattle.std.proofs.Common.{◌≡◌, ◌<◌, ◌≤◌, ◌⊎◌, inl, inr, sym, subst, arith, ℕ, suc, true, false, [], Some}
use Rattle.std.proofs.lemmas.Bool.Decides.{leb_tells}
use Rattle.std.specs.Prelude.{leb, slice_get}
use Rattle.tlb_syntax.specs.Tree.{SchemaView}
use Rattle.tlb_kinds.specs.Laws.{KeptStaysWithin}
use Rattle.tlb_kinds.specs.Refusals.{kept_of}
use Rattle.core_form.specs.Core.{Declaration}
use Rattle.core_form.specs.Plain.{IsPlain}
use Rattle.schema_core.specs.Laws.{CoreIsPlain}
use Rattle.schema_leads.specs.Laws.{NoLongChain}
use Rattle.schema_leads.specs.Separation.{AreSeparated}
use Rattle.schema_leads.specs.Tags.{tag_of}
use Rattle.accepted_schema.specs.Accepted.{IsAccepted, kept_cores}
use Rattle.accepted_schema.specs.GuardLaws.{kinded_is_guarded}
use Rattle.accepted_schema.specs.SeparatedLaws.{separated_order}
use Rattle.spelling.specs.Acceptable.{IsAcceptable, Seeks, AreInRange}
use Rattle.accepted_spelling.specs.PlainLaws.{plain_seeks}
use Rattle.accepted_spelling.specs.RangeLaws.{core_at, inputs_in_range}

each_seeks : CoreIsPlain → (s : SchemaView) (i : ℕ) (d : Declaration) → slice_get (kept_cores s) i ≡ Some d
    → Seeks d.core.items
each_seeks plain s i d there =
    let core = core_at (kept_of s) tag_of [] (kept_of s) i d there in
    let is_plain = subst IsPlain (sym core.core) (plain (kept_of s) (tag_of core.constructor) core.constructor) in
    plain_seeks d.core.items is_plain.items

each_in_range : KeptStaysWithin → (s : SchemaView) → IsAccepted s → (i : ℕ) (d : Declaration)
    → slice_get (kept_cores s) i ≡ Some d
    → AreInRange d.core.inputs
each_in_range within s ok i d there =
    inputs_in_range (kept_of s) tag_of (kept_of s) i d (within s ok.within).constructors (core_at
    (kept_of s) tag_of [] (kept_of s) i d there)

by_test : (i j : ℕ) → (i ≡ j → ⊥) → ((leb (suc i) j ≡ true) × (suc i ≤ j)) ⊎ ((leb (suc i) j ≡ false) ×
    (j < suc i)) → (i < j) ⊎ (j < i)
by_test i j other (inl h) = inl (omega (arith, h.1))
by_test i j other (inr h) = inr (omega (arith, other, h.1))

two_orders : (i j : ℕ) → (i ≡ j → ⊥) → (i < j) ⊎ (j < i)
two_orders i j other = by_test i j other (leb_tells (suc i) j)

either_separated : (s : SchemaView) → IsAccepted s → (i j : ℕ) (d e : Declaration) → slice_get (kept_cores s) i ≡ Some d
    → slice_get (kept_cores s) j ≡ Some e → d.of_type ≡ e.of_type → (i < j) ⊎ (j < i) → AreSeparated (kept_cores s) d e
either_separated s ok i j d e first second same (inl less) = ok.separated i j d e less first second same
either_separated s ok i j d e first second same (inr less) =
    separated_order (kept_cores s) e d (ok.separated j i e d less second first (sym same))

pub accepted_is_acceptable : CoreIsPlain → KeptStaysWithin → NoLongChain → (s : SchemaView) → IsAccepted s
    → IsAcceptable (kept_cores s)
accepted_is_acceptable plain within no_chain s ok = record {
  seeks = each_seeks plain s;
  in_range = each_in_range within s ok;
  guarded = λ x there chain. no_chain (kept_of s) x (kinded_is_guarded s ok.kinded) there chain;
  separated = λ i j d e first second same other. either_separated s ok i j d e first second same (two_orders i j other);
}
