-- What the answer of reading a text says of the text.
use Rattle.std.proofs.Common.{◌≡◌, ◌↔◌, ℕ, ◌+◌, ◌*◌, ◌-◌, ◌<◌, ◌≤◌, List, length, Result, Ok, Err, ap, subst, arith}
use Rattle.bit_slice.specs.declared.hex.HexTextError.{HexTextError}
use Rattle.bit_slice.specs.declared.hex.HexTextError.TheVariants.{Bad, TooLong, NoMemory}
use Rattle.bit_slice.specs.Bits.{HexText, IsBadAt, IsTooLong}
use Rattle.bit_slice.specs.HexLists.{IsSpelling}
use Rattle.bit_slice.specs.HexTexts.{spelling_bits, HexText-spelling, length-spelling_bits, bad-only, bad-unique, HexText-unique}

pub bad-bad : {T : Type 0} (text : List ℕ) (p : ℕ) → IsBadAt text p → (q : ℕ) → (◌≡◌ {A = Result T HexTextError} (Err (Bad p)) (Err (Bad q))) ↔ IsBadAt text q
bad-bad {T} text p b q = (
  λ e. let h : p ≡ q = cc in let P : ℕ → Type 0 = λ x. IsBadAt text x in subst P h b,
  λ c. let f : ℕ → Result T HexTextError = λ x. Err (Bad x) in ap f (bad-unique text p q b c),
)

pub bad-long : {T : Type 0} (text : List ℕ) (p : ℕ) → IsBadAt text p → (◌≡◌ {A = Result T HexTextError} (Err (Bad p)) (Err TooLong)) ↔ IsTooLong text
bad-long text p b = (λ e. absurd (cc), λ l. absurd (bad-only text l.0 p l.1 b))

pub long-bad : {T : Type 0} (text : List ℕ) → IsTooLong text → (q : ℕ) → (◌≡◌ {A = Result T HexTextError} (Err TooLong) (Err (Bad q))) ↔ IsBadAt text q
long-bad text l q = (λ e. absurd (cc), λ b. absurd (bad-only text l.0 q l.1 b))

pub long-only : (text bs : List ℕ) → HexText text bs → length bs ≤ 1023 → IsTooLong text → ⊥
long-only text bs h n l =
    let e : length bs ≡ length l.0 = ap length (HexText-unique text bs l.0 h l.1) in
    let m : 1023 < length l.0 = l.2 in
    omega arith

pub none-bad : {T : Type 0} (text bs : List ℕ) → HexText text bs → (q : ℕ) → (◌≡◌ {A = Result T HexTextError} (Err NoMemory) (Err (Bad q))) ↔ IsBadAt text q
none-bad text bs h q = (λ e. absurd (cc), λ b. absurd (bad-only text bs q h b))

pub none-long : {T : Type 0} (text bs : List ℕ) → HexText text bs → length bs ≤ 1023 → (◌≡◌ {A = Result T HexTextError} (Err NoMemory) (Err TooLong)) ↔ IsTooLong text
none-long text bs h n = (λ e. absurd (cc), λ l. absurd (long-only text bs h n l))

pub ok-bad : (text bs : List ℕ) → HexText text bs → (q : ℕ) → (◌≡◌ {A = Result (List ℕ) HexTextError} (Ok bs) (Err (Bad q))) ↔ IsBadAt text q
ok-bad text bs h q = (λ e. absurd (cc), λ b. absurd (bad-only text bs q h b))

pub ok-long : (text bs : List ℕ) → HexText text bs → length bs ≤ 1023 → (◌≡◌ {A = Result (List ℕ) HexTextError} (Ok bs) (Err TooLong)) ↔ IsTooLong text
ok-long text bs h n = (λ e. absurd (cc), λ l. absurd (long-only text bs h n l))

pub too-long : (text ds : List ℕ) (k : ℕ) → IsSpelling text ds k → 1023 + k < 4 * length ds → IsTooLong text
too-long text ds k s h =
    let n : length (spelling_bits ds k) ≡ 4 * length ds - k = length-spelling_bits ds k in
    (spelling_bits ds k, HexText-spelling text ds k s, omega arith)

pub short : (ds : List ℕ) (k : ℕ) → 4 * length ds ≤ 1023 + k → length (spelling_bits ds k) ≤ 1023
short ds k h = let n : length (spelling_bits ds k) ≡ 4 * length ds - k = length-spelling_bits ds k in omega arith
