-- The tags of constructors.
-- Source: the TON documentation on the TL-B language (constructor tags: a named constructor without a tag has the CRC-32
-- of its text); that the text is the canonical one, and the tag of all 32 bits, is this project's rule.
use Rattle.std.specs.Prelude.{ℕ, List, [], Option, Some, None}
use Rattle.bit_slice.specs.Bits.{spelled}
use Rattle.tlb_sums.specs.Crc.{crc32_of}
use Rattle.tlb_syntax.specs.Text.{constructor_text}
use Rattle.tlb_syntax.specs.Tree.{TagView, ConstructorView, SchemaView, computed, given}
use Rattle.kind_terms.specs.Words.{Word}
use Rattle.core_form.specs.Core.{CoreSchema}
use Rattle.schema_core.specs.Cores.{cores_of}

-- the 32 bits of the CRC-32 of a text, the most significant first
unfoldable pub computed_tag : List ℕ → List ℕ
computed_tag text = spelled 32 (crc32_of text)

-- by the name, the written tag and the canonical text
abbrev pub tag_by : Option Word → TagView → List ℕ → List ℕ
tag_by name (given bits) text = bits
tag_by None computed text = []
tag_by (Some x) computed text = computed_tag text

-- the tag of a constructor, as it is written or computed; an unnamed constructor without a tag has the empty one
abbrev pub tag_of : ConstructorView → List ℕ
tag_of c = tag_by c.name c.tag (constructor_text c)

-- the core forms of a schema
abbrev pub cores : SchemaView → CoreSchema
cores s = cores_of tag_of s
