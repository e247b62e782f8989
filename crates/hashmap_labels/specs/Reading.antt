-- The label that bits begin with, as a function. `ReadingLaws` ties it to the relations of `Labels`.
use Rattle.std.specs.Prelude.{ℕ, zero, suc, Bool, true, false, ◌&&◌, if◌then◌else◌, nat_lt, List, [], ◌∷◌, length, take, drop, replicate, Option, Some, None, Result, Ok, Err}
use Rattle.bit_slice.specs.Bits.{bit_number, bit_length, number_of}
use Rattle.hashmap_labels.specs.Labels.{required_form}
use Rattle.hashmap_labels.specs.declared.forms.LabelForm.{LabelForm}
use Rattle.hashmap_labels.specs.declared.forms.LabelForm.TheVariants.{Short, Long, Same}
use Rattle.hashmap_labels.specs.declared.forms.Forms.{Forms}
use Rattle.hashmap_labels.specs.declared.forms.Forms.TheVariants.{Required, Every}
use Rattle.hashmap_labels.specs.declared.heads.Head.{Head}
use Rattle.hashmap_labels.specs.declared.labels.LabelError.{LabelError}
use Rattle.hashmap_labels.specs.declared.labels.LabelError.TheVariants as why

-- each number is a bit
abbrev pub are_bits : List ℕ → Bool
are_bits [] = true
are_bits (b ∷ bs) = nat_lt b 2 && are_bits bs

abbrev pub one_more : Option (ℕ × List ℕ) → Option (ℕ × List ℕ)
one_more None = None
one_more (Some r) = Some (suc r.0, r.1)

-- how many ones stand before the first zero, and what follows it
abbrev pub ones_of : List ℕ → Option (ℕ × List ℕ)
ones_of [] = None
ones_of (zero ∷ s) = Some (0, s)
ones_of (suc zero ∷ s) = one_more (ones_of s)
ones_of (suc (suc b) ∷ s) = None

-- a length of k bits, and what follows it
abbrev pub read_length : ℕ → List ℕ → Option (ℕ × List ℕ)
read_length k s =
    if nat_lt (length s) k then None
    else if are_bits (take k s) then Some (number_of (take k s), drop k s) else None

abbrev pub head_of : LabelForm → Bool → Option (ℕ × List ℕ) → Option Head
head_of form b None = None
head_of form b (Some r) = Some (record { form = form; repeated = b; len = r.0; rest = r.1 })

-- a form and a length, and what follows them
abbrev pub read_head : ℕ → List ℕ → Option Head
read_head k [] = None
read_head k (zero ∷ s) = head_of Short false (ones_of s)
read_head k (suc zero ∷ zero ∷ s) = head_of Long false (read_length k s)
read_head k (suc zero ∷ suc zero ∷ zero ∷ s) = head_of Same false (read_length k s)
read_head k (suc zero ∷ suc zero ∷ suc zero ∷ s) = head_of Same true (read_length k s)
read_head k _ = None

-- a form, a label's bits, and what follows it
abbrev pub Found : Type 0
Found = LabelForm × List ℕ × List ℕ

abbrev pub first_bits : LabelForm → ℕ → List ℕ → Result Found LabelError
first_bits form m s = if nat_lt (length s) m then Err why.LabelShort else Ok (form, take m s, drop m s)

abbrev pub read_bits : LabelForm → Bool → ℕ → List ℕ → Result Found LabelError
read_bits Short b m s = first_bits Short m s
read_bits Long b m s = first_bits Long m s
read_bits Same b m s = Ok (Same, replicate m (bit_number b), s)

abbrev pub at_head : ℕ → Option Head → Result Found LabelError
at_head n None = Err why.LabelShort
at_head n (Some h) = if nat_lt n h.len then Err why.LabelLong else read_bits h.form h.repeated h.len h.rest

-- a label of at most n bits in any form
abbrev pub read_any : ℕ → List ℕ → Result Found LabelError
read_any n s = at_head n (read_head (bit_length n) s)

abbrev pub same_form : LabelForm → LabelForm → Bool
same_form Short Short = true
same_form Long Long = true
same_form Same Same = true
same_form _ _ = false

abbrev pub may_have : Forms → ℕ → List ℕ → LabelForm → Bool
may_have Required n bits form = same_form form (required_form n bits)
may_have Every n bits form = true

abbrev pub judged : Forms → ℕ → Result Found LabelError → Result (List ℕ × List ℕ) LabelError
judged forms n (Err e) = Err e
judged forms n (Ok x) = if may_have forms n x.1 x.0 then Ok (x.1, x.2) else Err why.LabelForm

-- the bits of a label of at most n bits and what follows it, or why there is none
abbrev pub read_label : Forms → ℕ → List ℕ → Result (List ℕ × List ℕ) LabelError
read_label forms n s = judged forms n (read_any n s)
