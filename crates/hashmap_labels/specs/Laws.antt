-- What the laws say: facts about the definitions alone.
use Rattle.std.specs.Prelude.{◌≡◌, ◌⊎◌, ◌↔◌, ℕ, ◌+◌, ◌≤◌, List, length}
use Rattle.bit_slice.specs.Bits.{AreBits, bit_length}
use Rattle.hashmap_labels.specs.Labels.{IsForm, IsLabel, EndsEarly, IsTooLong, HasOtherForm, required_form}
use Rattle.hashmap_labels.specs.SpellingLaws.{size, IsBest}
use Rattle.hashmap_labels.specs.declared.forms.LabelForm.{LabelForm}
use Rattle.hashmap_labels.specs.declared.forms.Forms.{Forms}
use Rattle.hashmap_labels.specs.declared.forms.Forms.TheVariants.{Required}

-- the bits of a label have one spelling in the required form
abbrev pub OneSpelling : Type 0
OneSpelling =
    (n : ℕ) (bits s t rest : List ℕ) → IsLabel Required n bits s rest → IsLabel Required n bits t rest → s ≡ t

-- and each list of at most n bits has one
abbrev pub HasSpelling : Type 0
HasSpelling =
    (n : ℕ) (bits rest : List ℕ) → AreBits bits → length bits ≤ n → (s : List ℕ) × IsLabel Required n bits s rest

-- bits begin with one label at most, in whatever form
abbrev pub OneLabel : Type 0
OneLabel =
    (forms : Forms) (n : ℕ) (s bits rest more after : List ℕ)
    → IsLabel forms n bits s rest → IsLabel forms n more s after → (bits ≡ more) × (rest ≡ after)

-- bits begin with a label in the required form, or there is a reason why not
abbrev pub LabelOrRefusal : Type 0
LabelOrRefusal =
    (n : ℕ) (s : List ℕ) → ((bits : List ℕ) × (rest : List ℕ) × IsLabel Required n bits s rest)
    ⊎ (EndsEarly n s ⊎ (IsTooLong n s ⊎ HasOtherForm n s))

-- a label takes as many bits as its form's size says
abbrev pub HasSize : Type 0
HasSize =
    (form : LabelForm) (k : ℕ) (bits s rest : List ℕ)
    → IsForm form k bits s rest → length s ≡ size form k (length bits) + length rest

-- no form that spells the bits is shorter than the required one, and one that comes before it is longer
abbrev pub IsShortest : Type 0
IsShortest =
    (n : ℕ) (form : LabelForm) (bits s rest : List ℕ) → length bits ≤ n
    → IsForm form (bit_length n) bits s rest → IsBest (required_form n bits) form (bit_length n) (length bits)

-- a label of bits before bits is bits, and nothing else is
abbrev pub KeepsBits : Type 0
KeepsBits =
    (forms : Forms) (n : ℕ) (bits s rest : List ℕ)
    → IsLabel forms n bits s rest → AreBits s ↔ (AreBits bits × AreBits rest)
