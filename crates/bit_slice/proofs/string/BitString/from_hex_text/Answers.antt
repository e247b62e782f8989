use Rattle.std.proofs.Common.{◌≡◌, ◌↔◌, ◌≤◌, ℕ, List, Result, Ok, Err, length, inl, inr, refl, ap, sym, subst, arith, rules}
use Rattle.bit_slice.specs.declared.hex.HexTextError.{HexTextError}
use Rattle.bit_slice.specs.declared.hex.HexTextError.TheVariants.{Bad, TooLong, NoMemory}
use Rattle.bit_slice.specs.Bits.{HexText, IsBadAt, IsTooLong}
use Rattle.bit_slice.specs.HexLists.{IsSpelling}
use Rattle.bit_slice.specs.HexTexts.{spelling_bits, HexText-spelling, bad-only, HexText-unique}
use Rattle.bit_slice.proofs.HexReading.{bad-bad, bad-long, long-bad, long-only, none-bad, none-long, ok-bad, ok-long, too-long, short}
use Rattle.bit_slice.proofs.string.BitString.from_hex_text.Goals as goal

pub returns-in-Err-clause-bad : goal.returns-in-Err-clause-bad
returns-in-Err-clause-bad c = bad-bad c.args.text.now c.in-Err.place c.in-Err.ensures.bad

pub returns-in-Err-clause-too_long : goal.returns-in-Err-clause-too_long
returns-in-Err-clause-too_long c = bad-long c.args.text.now c.in-Err.place c.in-Err.ensures.bad

pub returns-in-Err-clause-back : goal.returns-in-Err-clause-back
returns-in-Err-clause-back c = λ b h n. absurd (bad-only c.args.text.now b c.in-Err.place h c.in-Err.ensures.bad)

pub overflow_cast-dropped : goal.overflow_cast-dropped
overflow_cast-dropped c =
    let s : IsSpelling c.args.text.now c.in-Ok.spelling.digits.now c.in-Ok.spelling.dropped = c.in-Ok.ensures.good in
    let f : c.in-Ok.spelling.dropped ≤ 3 = s.few in
    omega arith

pub overflow_add-dropped : goal.overflow_add-dropped
overflow_add-dropped c =
    let s : IsSpelling c.args.text.now c.in-Ok.spelling.digits.now c.in-Ok.spelling.dropped = c.in-Ok.ensures.good in
    let f : c.in-Ok.spelling.dropped ≤ 3 = s.few in
    omega arith

pub returns-then-digits-dropped-clause-bad : goal.returns-then-digits-dropped-clause-bad
returns-then-digits-dropped-clause-bad c =
    let s : IsSpelling c.args.text.now c.in-Ok.spelling.digits.now c.in-Ok.spelling.dropped = c.in-Ok.ensures.good in
    let l : IsTooLong c.args.text.now = too-long c.args.text.now c.in-Ok.spelling.digits.now c.in-Ok.spelling.dropped s (omega arith) in
    long-bad c.args.text.now l

pub returns-then-digits-dropped-clause-too_long : goal.returns-then-digits-dropped-clause-too_long
returns-then-digits-dropped-clause-too_long c =
    let s : IsSpelling c.args.text.now c.in-Ok.spelling.digits.now c.in-Ok.spelling.dropped = c.in-Ok.ensures.good in
    let l : IsTooLong c.args.text.now = too-long c.args.text.now c.in-Ok.spelling.digits.now c.in-Ok.spelling.dropped s (omega arith) in
    (λ e. l, λ e. refl)

pub returns-then-digits-dropped-clause-back : goal.returns-then-digits-dropped-clause-back
returns-then-digits-dropped-clause-back c =
    let s : IsSpelling c.args.text.now c.in-Ok.spelling.digits.now c.in-Ok.spelling.dropped = c.in-Ok.ensures.good in
    let l : IsTooLong c.args.text.now = too-long c.args.text.now c.in-Ok.spelling.digits.now c.in-Ok.spelling.dropped s (omega arith) in
    λ b h n. absurd (long-only c.args.text.now b h n l)

pub read_digits-requires-clause-digits : goal.read_digits-requires-clause-digits
read_digits-requires-clause-digits c =
    let s : IsSpelling c.args.text.now c.in-Ok.spelling.digits.now c.in-Ok.spelling.dropped = c.in-Ok.ensures.good in
    s.are_digits

pub read_digits-requires-clause-few : goal.read_digits-requires-clause-few
read_digits-requires-clause-few c =
    let s : IsSpelling c.args.text.now c.in-Ok.spelling.digits.now c.in-Ok.spelling.dropped = c.in-Ok.ensures.good in
    s.few

pub read_digits-requires-clause-some : goal.read_digits-requires-clause-some
read_digits-requires-clause-some c =
    let s : IsSpelling c.args.text.now c.in-Ok.spelling.digits.now c.in-Ok.spelling.dropped = c.in-Ok.ensures.good in
    s.some

pub read_digits-requires-clause-short : goal.read_digits-requires-clause-short
read_digits-requires-clause-short c = omega arith

pub returns-in_err-read_digits-clause-ok : goal.returns-in_err-read_digits-clause-ok
returns-in_err-read_digits-clause-ok c = search rules

pub returns-in_err-read_digits-clause-bad : goal.returns-in_err-read_digits-clause-bad
returns-in_err-read_digits-clause-bad c =
    let s : IsSpelling c.args.text.now c.in-Ok.spelling.digits.now c.in-Ok.spelling.dropped = c.in-Ok.ensures.good in
    let h : HexText c.args.text.now (spelling_bits c.in-Ok.spelling.digits.now c.in-Ok.spelling.dropped) = HexText-spelling c.args.text.now c.in-Ok.spelling.digits.now c.in-Ok.spelling.dropped s in
    let r : c.from_residual.result ≡ Err NoMemory = search rules in
    let P : Result (List ℕ) HexTextError → Type 0 = λ o. (place : ℕ) → (o ≡ Err (Bad place)) ↔ IsBadAt c.args.text.now place in
    subst P (sym r) (none-bad c.args.text.now (spelling_bits c.in-Ok.spelling.digits.now c.in-Ok.spelling.dropped) h)

pub returns-in_err-read_digits-clause-too_long : goal.returns-in_err-read_digits-clause-too_long
returns-in_err-read_digits-clause-too_long c =
    let s : IsSpelling c.args.text.now c.in-Ok.spelling.digits.now c.in-Ok.spelling.dropped = c.in-Ok.ensures.good in
    let h : HexText c.args.text.now (spelling_bits c.in-Ok.spelling.digits.now c.in-Ok.spelling.dropped) = HexText-spelling c.args.text.now c.in-Ok.spelling.digits.now c.in-Ok.spelling.dropped s in
    let n : length (spelling_bits c.in-Ok.spelling.digits.now c.in-Ok.spelling.dropped) ≤ 1023 = short c.in-Ok.spelling.digits.now c.in-Ok.spelling.dropped (omega arith) in
    let r : c.from_residual.result ≡ Err NoMemory = search rules in
    let P : Result (List ℕ) HexTextError → Type 0 = λ o. (o ≡ Err TooLong) ↔ IsTooLong c.args.text.now in
    subst P (sym r) (none-long c.args.text.now (spelling_bits c.in-Ok.spelling.digits.now c.in-Ok.spelling.dropped) h n)

pub returns-in_err-read_digits-clause-back : goal.returns-in_err-read_digits-clause-back
returns-in_err-read_digits-clause-back c =
    let r : c.from_residual.result ≡ Err NoMemory = search rules in
    λ b h n. inr r

pub returns-clause-ok : goal.returns-clause-ok
returns-clause-ok c =
    let s : IsSpelling c.args.text.now c.in-Ok.spelling.digits.now c.in-Ok.spelling.dropped = c.in-Ok.ensures.good in
    let e : c.in_ok-read_digits.field-0 ≡ spelling_bits c.in-Ok.spelling.digits.now c.in-Ok.spelling.dropped = c.in_ok-read_digits.ensures in
    let h : HexText c.args.text.now c.in_ok-read_digits.field-0 = let P : List ℕ → Type 0 = λ b. HexText c.args.text.now b in subst P (sym e) (HexText-spelling c.args.text.now c.in-Ok.spelling.digits.now c.in-Ok.spelling.dropped s) in
    h

pub returns-clause-bad : goal.returns-clause-bad
returns-clause-bad c =
    let s : IsSpelling c.args.text.now c.in-Ok.spelling.digits.now c.in-Ok.spelling.dropped = c.in-Ok.ensures.good in
    let e : c.in_ok-read_digits.field-0 ≡ spelling_bits c.in-Ok.spelling.digits.now c.in-Ok.spelling.dropped = c.in_ok-read_digits.ensures in
    let h : HexText c.args.text.now c.in_ok-read_digits.field-0 = let P : List ℕ → Type 0 = λ b. HexText c.args.text.now b in subst P (sym e) (HexText-spelling c.args.text.now c.in-Ok.spelling.digits.now c.in-Ok.spelling.dropped s) in
    ok-bad c.args.text.now c.in_ok-read_digits.field-0 h

pub returns-clause-too_long : goal.returns-clause-too_long
returns-clause-too_long c =
    let s : IsSpelling c.args.text.now c.in-Ok.spelling.digits.now c.in-Ok.spelling.dropped = c.in-Ok.ensures.good in
    let e : c.in_ok-read_digits.field-0 ≡ spelling_bits c.in-Ok.spelling.digits.now c.in-Ok.spelling.dropped = c.in_ok-read_digits.ensures in
    let h : HexText c.args.text.now c.in_ok-read_digits.field-0 = let P : List ℕ → Type 0 = λ b. HexText c.args.text.now b in subst P (sym e) (HexText-spelling c.args.text.now c.in-Ok.spelling.digits.now c.in-Ok.spelling.dropped s) in
    let n : length c.in_ok-read_digits.field-0 ≤ 1023 = let P : List ℕ → Type 0 = λ b. length b ≤ 1023 in subst P (sym e) (short c.in-Ok.spelling.digits.now c.in-Ok.spelling.dropped (omega arith)) in
    ok-long c.args.text.now c.in_ok-read_digits.field-0 h n

pub returns-clause-back : goal.returns-clause-back
returns-clause-back c =
    let s : IsSpelling c.args.text.now c.in-Ok.spelling.digits.now c.in-Ok.spelling.dropped = c.in-Ok.ensures.good in
    let e : c.in_ok-read_digits.field-0 ≡ spelling_bits c.in-Ok.spelling.digits.now c.in-Ok.spelling.dropped = c.in_ok-read_digits.ensures in
    let h : HexText c.args.text.now c.in_ok-read_digits.field-0 = let P : List ℕ → Type 0 = λ b. HexText c.args.text.now b in subst P (sym e) (HexText-spelling c.args.text.now c.in-Ok.spelling.digits.now c.in-Ok.spelling.dropped s) in
    λ b l n. inl (ap (λ (x : List ℕ). Ok x) (HexText-unique c.args.text.now c.in_ok-read_digits.field-0 b h l))
