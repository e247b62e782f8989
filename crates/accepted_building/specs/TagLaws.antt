-- In a schema within the limits of a text the tags of constructors are bits.
use Rattle.std.proofs.Common.{◌≡◌, ℕ, sym, subst, List, [], Option, Some, None}
use Rattle.std.specs.Prelude.{slice_get}
use Rattle.bit_slice.specs.Bits.{AreBits}
use Rattle.bit_slice.specs.BitLists.{AreBits-spelled}
use Rattle.tlb_syntax.specs.Limits.{IsTag}
use Rattle.tlb_syntax.specs.Tree.{SchemaView, TagView, computed, given}
use Rattle.kind_terms.specs.Words.{Word}
use Rattle.tlb_kinds.specs.Laws.{KeptStaysWithin}
use Rattle.tlb_kinds.specs.Refusals.{kept_of}
use Rattle.tlb_sums.specs.Crc.{crc32_of}
use Rattle.core_form.specs.Core.{Constructor, Declaration}
use Rattle.schema_leads.specs.Tags.{computed_tag, tag_by, tag_of}
use Rattle.accepted_schema.specs.Accepted.{IsAccepted, kept_cores}
use Rattle.accepted_spelling.specs.RangeLaws.{core_at}
use Rattle.accepted_building.specs.NamesLaws.{constructor_at}

computed_bits : (text : List ℕ) → AreBits (computed_tag text)
unfolding computed_tag
computed_bits text = AreBits-spelled 32 (crc32_of text)

tag_bits : (name : Option Word) (tag : TagView) (text : List ℕ) → IsTag tag → AreBits (tag_by name tag text)
tag_bits name (given bits) text h = h.are_bits
tag_bits None computed text h = tt
tag_bits (Some x) computed text h = computed_bits text

pub accepted_tags : KeptStaysWithin → (s : SchemaView) → IsAccepted s → (i : ℕ) (d : Declaration)
    → slice_get (kept_cores s) i ≡ Some d → AreBits d.core.tag
accepted_tags within s ok i d there =
    let found = core_at (kept_of s) tag_of [] (kept_of s) i d there in
    let c = found.constructor in
    let limits = constructor_at (kept_of s) i c (within s ok.within).constructors found.there in
    let P : Constructor → Type 0 = λ x. AreBits x.tag in
    subst P (sym found.core) (tag_bits c.name c.tag _ limits.tag)
