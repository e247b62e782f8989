-- What results stand for.
use Rattle.std.specs.Prelude.{◌≡◌, ℕ, ◌+◌, List, drop, replicate, Option, Some, None, Result, Ok, Err}
use Rattle.bit_slice.specs.Bits.{bit_number}
use Rattle.hashmap_labels.specs.Reading.{ones_of}
use Rattle.hashmap_labels.specs.declared.forms.LabelForm.{LabelForm}
use Rattle.hashmap_labels.specs.declared.reading.Found.{Found}
use Rattle.hashmap_labels.specs.declared.labels.LabelBits.{LabelBits}
use Rattle.hashmap_labels.specs.declared.labels.LabelBits.TheVariants as the
use Rattle.hashmap_labels.specs.declared.labels.Label.{Label}
use Rattle.hashmap_labels.specs.declared.labels.LabelError.{LabelError}

-- the bits of a label
abbrev pub bits_of : LabelBits → List ℕ
bits_of (the.Part bits) = bits
bits_of (the.Same b count) = replicate count (bit_number b)

-- a label of these bits was read from s, and the rest is what follows it
abbrev pub Gives : Result Label LabelError → List ℕ → List ℕ → List ℕ → Type 0
Gives (Ok label) s bits rest = (bits_of label.bits ≡ bits) × (drop label.taken s ≡ rest)
Gives (Err e) s bits rest = ⊥

-- what was read is this result of the reading function
abbrev pub Reads : Result Label LabelError → List ℕ → Result (List ℕ × List ℕ) LabelError → Type 0
Reads (Ok label) s read = read ≡ Ok (bits_of label.bits, drop label.taken s)
Reads (Err e) s read = read ≡ Err e

abbrev pub FindsAny : Result Found LabelError → Result (LabelForm × List ℕ × List ℕ) LabelError → Type 0
FindsAny (Ok x) read = read ≡ Ok (x.form, bits_of x.bits, x.rest)
FindsAny (Err e) read = read ≡ Err e

-- the ones before the first zero
abbrev pub CountsOnes : Option ℕ → List ℕ → Type 0
CountsOnes (Some m) s = ones_of s ≡ Some (m, drop (m + 1) s)
CountsOnes None s = ones_of s ≡ None
