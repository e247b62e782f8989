-- Labels of a dictionary's edges: their three forms, which of them is required, and what is no label.
--
-- Source: the TON documentation on hashmaps and the TVM whitepaper, section 3.3.6, which give a label of n bits
-- where m is the greatest length:
--
--   hml_short$0 {m:#} {n:#} len:(Unary ~n) {n <= m} s:(n * Bit) = HmLabel ~n m;
--   hml_long$10 {m:#} n:(#<= m) s:(n * Bit) = HmLabel ~n m;
--   hml_same$11 {m:#} v:Bit n:(#<= m) = HmLabel ~n m;
--
-- `Unary` is n ones and a zero, and `#<= m` takes as many bits as m has binary digits. That the shortest form is
-- required is the same documents' rule; of forms of one size the first in the order short, long, same is.
use Rattle.std.specs.Prelude.{◌≡◌, ◌≢◌, ◌⊎◌, ℕ, ◌-◌, ◌*◌, ◌^◌, ◌<◌, ◌≤◌, Bool, true, ◌&&◌, if◌then◌else◌, nat_lt, nat_eq, List, [], ◌∷◌, ◌++◌, length, replicate}
use Rattle.bit_slice.specs.Bits.{bit_number, bit_length, spelled}
use Rattle.hashmap_labels.specs.declared.forms.LabelForm.{LabelForm}
use Rattle.hashmap_labels.specs.declared.forms.LabelForm.TheVariants.{Short, Long, Same}
use Rattle.hashmap_labels.specs.declared.forms.Forms.{Forms}
use Rattle.hashmap_labels.specs.declared.forms.Forms.TheVariants.{Required, Every}

-- ---- the required form

abbrev pub all_are : ℕ → List ℕ → Bool
all_are b [] = true
all_are b (c ∷ cs) = nat_eq c b && all_are b cs

-- all bits are equal
abbrev pub all_equal : List ℕ → Bool
all_equal [] = true
all_equal (b ∷ bs) = all_are b bs

-- the form for so many bits, of which it says whether they are equal; a length takes k bits
abbrev pub form_for : ℕ → ℕ → Bool → LabelForm
form_for k len equal =
    if nat_lt 1 len && equal && nat_lt k (2 * len - 1) then Same else if nat_lt k len then Long else Short

-- the form that these bits must have as a label of at most n bits
abbrev pub required_form : ℕ → List ℕ → LabelForm
required_form n bits = form_for (bit_length n) (length bits) (all_equal bits)

-- ---- labels

-- s is the label of these bits in a form, and then the rest; a length takes k bits
abbrev pub IsForm : LabelForm → ℕ → List ℕ → List ℕ → List ℕ → Type 0
IsForm Short k bits s rest = s ≡ 0 ∷ (replicate (length bits) 1 ++ (0 ∷ (bits ++ rest)))
IsForm Long k bits s rest = s ≡ 1 ∷ (0 ∷ (spelled k (length bits) ++ (bits ++ rest)))
IsForm Same k bits s rest =
    (b : Bool) × (bits ≡ replicate (length bits) (bit_number b))
    × (s ≡ 1 ∷ (1 ∷ (bit_number b ∷ (spelled k (length bits) ++ rest))))

-- the form is one that a label of these bits may have
abbrev pub MayHave : Forms → ℕ → List ℕ → LabelForm → Type 0
MayHave Required n bits form = form ≡ required_form n bits
MayHave Every n bits form = Unit {0}

-- s is a label of these bits, which are at most n, and then the rest
abbrev pub IsLabel : Forms → ℕ → List ℕ → List ℕ → List ℕ → Type 0
IsLabel forms n bits s rest =
    (form : LabelForm) × (length bits ≤ n) × MayHave forms n bits form × IsForm form (bit_length n) bits s rest

-- ---- bits that begin with no label

-- s is a form, the length m and then the rest; a length takes k bits
abbrev pub HasLength : LabelForm → ℕ → ℕ → List ℕ → List ℕ → Type 0
HasLength Short k m s rest = s ≡ 0 ∷ (replicate m 1 ++ (0 ∷ rest))
HasLength Long k m s rest = (m < 2 ^ k) × (s ≡ 1 ∷ (0 ∷ (spelled k m ++ rest)))
HasLength Same k m s rest = (b : Bool) × (m < 2 ^ k) × (s ≡ 1 ∷ (1 ∷ (bit_number b ∷ (spelled k m ++ rest))))

-- there is no form with a length
abbrev pub HasNoLength : ℕ → List ℕ → Type 0
HasNoLength n s = (form : LabelForm) (m : ℕ) (rest : List ℕ) → HasLength form (bit_length n) m s rest → ⊥

-- after a length of at most n there are fewer bits, where the bits stand in the label
abbrev pub HasFewBits : ℕ → List ℕ → Type 0
HasFewBits n s =
    (form : LabelForm) × (m : ℕ) × (rest : List ℕ) × (form ≢ Same) × HasLength form (bit_length n) m s rest
    × (m ≤ n) × (length rest < m)

-- the bits end before the form, the length or the label's bits
abbrev pub EndsEarly : ℕ → List ℕ → Type 0
EndsEarly n s = HasNoLength n s ⊎ HasFewBits n s

-- there is a length above n, whatever follows it
abbrev pub IsTooLong : ℕ → List ℕ → Type 0
IsTooLong n s =
    (form : LabelForm) × (m : ℕ) × (rest : List ℕ) × HasLength form (bit_length n) m s rest × (n < m)

-- a label of at most n bits stands there in another form than the required one
abbrev pub HasOtherForm : ℕ → List ℕ → Type 0
HasOtherForm n s =
    (form : LabelForm) × (bits : List ℕ) × (rest : List ℕ) × (length bits ≤ n)
    × (form ≢ required_form n bits) × IsForm form (bit_length n) bits s rest
