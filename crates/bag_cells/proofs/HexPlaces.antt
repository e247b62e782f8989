-- The place that a refused hexadecimal text is reported by.
use Rattle.std.proofs.Common.{◌≡◌, ◌∙◌, ℕ, zero, suc, ◌+◌, ◌*◌, ◌%◌, ◌==◌, ◌<◌, ◌≢◌, Bool, true, false, if◌then◌else◌, List, [], ◌∷◌, length, get_or, refl, sym, subst, ap, arith}
use Rattle.std.specs.Prelude.{Option, Some, None, is_some, Result, Ok, Err}
use Rattle.std.proofs.lemmas.Bool.Decides.{nat_tests}
use Rattle.hex.specs.declared.error.FromHexError.{FromHexError}
use Rattle.hex.specs.declared.error.FromHexError.TheVariants.{InvalidHexCharacter, OddLength}
use Rattle.hex.specs.Hex.{hex_digit_value, is_hex_digit, digit_or_error, ◌>>=◌, decode_pairs}
use Rattle.bag_cells.specs.Form.{IsFirstBad, IsBadHex, odd, even, of_hex, raw_of_hex, bad_place}
use Rattle.bag_cells.specs.declared.error.BagError.{BagError}
use Rattle.bag_cells.specs.declared.error.BagError.TheVariants.{BadHex}

-- the bytes of a pair of digits and those of the rest, from what the parts gave
abbrev pub joined : ℕ → ℕ → ℕ → Option ℕ → Option ℕ → Result (List ℕ) FromHexError → Result (List ℕ) FromHexError
joined i high low first second rest =
    (digit_or_error high i first >>= (λ h. digit_or_error low (i + 1) second >>= (λ l. Ok (h * 16 + l))))
    >>= (λ byte. rest >>= (λ bytes. Ok (byte ∷ bytes)))

pub pairs_of : (i high low : ℕ) (rest : List ℕ)
    → decode_pairs i (high ∷ low ∷ rest) ≡ joined i high low (hex_digit_value high) (hex_digit_value low) (decode_pairs (i + 2) rest)
unfolding decode_pairs
pairs_of i high low rest = refl

-- a text from place i of a whole is refused at its first bad byte
record Refused (i : ℕ) (text : List ℕ) (e : FromHexError) : Type 0 where
  digit : ℕ
  place : ℕ
  reported : e ≡ InvalidHexCharacter digit (i + place)
  first : IsFirstBad text place

at_high : (i high low : ℕ) (rest : List ℕ) (e : FromHexError) → hex_digit_value high ≡ None → InvalidHexCharacter high i ≡ e → Refused i (high ∷ low ∷ rest) e
at_high i high low rest e h k = let here : i ≡ i + 0 = omega arith in record {
  digit = high;
  place = 0;
  reported = sym k ∙ ap (λ (p : ℕ). InvalidHexCharacter high p) here;
  first = record { within = omega arith; bad = ap is_some h; before = λ j l. absurd (omega arith) };
}

below_one : (high low : ℕ) (rest : List ℕ) → is_hex_digit high ≡ true → (j : ℕ) → j < 1 → is_hex_digit (get_or (high ∷ low ∷ rest) j 0) ≡ true
below_one high low rest h zero l = h
below_one high low rest h (suc j) l = absurd (omega arith)

at_low : (i high low : ℕ) (rest : List ℕ) (v : ℕ) (e : FromHexError) → hex_digit_value high ≡ Some v → hex_digit_value low ≡ None
    → InvalidHexCharacter low (i + 1) ≡ e → Refused i (high ∷ low ∷ rest) e
at_low i high low rest v e g h k = record {
  digit = low;
  place = 1;
  reported = sym k;
  first = record { within = omega arith; bad = ap is_some h; before = below_one high low rest (ap is_some g) };
}

below_two : (high low : ℕ) (rest : List ℕ) (place : ℕ) → is_hex_digit high ≡ true → is_hex_digit low ≡ true
    → ((j : ℕ) → j < place → is_hex_digit (get_or rest j 0) ≡ true)
    → (j : ℕ) → j < suc (suc place) → is_hex_digit (get_or (high ∷ low ∷ rest) j 0) ≡ true
below_two high low rest place h k before zero l = h
below_two high low rest place h k before (suc zero) l = k
below_two high low rest place h k before (suc (suc j)) l = before j (omega arith)

at_rest : (i high low : ℕ) (rest : List ℕ) (v w : ℕ) (e : FromHexError) → hex_digit_value high ≡ Some v → hex_digit_value low ≡ Some w
    → Refused (i + 2) rest e → Refused i (high ∷ low ∷ rest) e
at_rest i high low rest v w e g h r =
    let moved : i + 2 + r.place ≡ i + suc (suc r.place) = omega arith in
    record {
      digit = r.digit;
      place = suc (suc r.place);
      reported = r.reported ∙ ap (λ (p : ℕ). InvalidHexCharacter r.digit p) moved;
      first = record {
        within = omega (arith, r.first.within);
        bad = r.first.bad;
        before = below_two high low rest r.place (ap is_some g) (ap is_some h) r.first.before;
      };
    }

by_parts : (i high low : ℕ) (rest : List ℕ) (first second : Option ℕ) (r : Result (List ℕ) FromHexError) (e : FromHexError)
    → hex_digit_value high ≡ first → hex_digit_value low ≡ second → ((d : FromHexError) → r ≡ Err d → Refused (i + 2) rest d)
    → joined i high low first second r ≡ Err e → Refused i (high ∷ low ∷ rest) e
by_parts i high low rest None second r e g h further k = at_high i high low rest e g (cc)
by_parts i high low rest (Some v) None r e g h further k = at_low i high low rest v e g h (cc)
by_parts i high low rest (Some v) (Some w) (Err d) e g h further k = at_rest i high low rest v w e g h (further e (cc))
by_parts i high low rest (Some v) (Some w) (Ok bytes) e g h further k = absurd (cc)

refused_at : (i : ℕ) (text : List ℕ) (e : FromHexError) → length text % 2 ≡ 0 → decode_pairs i text ≡ Err e → Refused i text e
unfolding decode_pairs
refused_at i [] e paired h = absurd (cc)
refused_at i (digit ∷ []) e paired h = absurd (omega arith)
refused_at i (high ∷ low ∷ rest) e paired h =
    by_parts i high low rest (hex_digit_value high) (hex_digit_value low) (decode_pairs (i + 2) rest) e refl refl
    (λ d k. refused_at (i + 2) rest d (omega arith) k) (sym (pairs_of i high low rest) ∙ h)

same_place : (a b : ℕ) → BadHex a ≡ BadHex b → a ≡ b
same_place a b h = cc

abbrev refused_with : BagError → Result (List ℕ) BagError
refused_with e = Err e

same_error : (a b : BagError) → refused_with a ≡ refused_with b → a ≡ b
same_error a b h = cc

place_reported : (size place p : ℕ) (digit : ℕ) (e : FromHexError) → e ≡ InvalidHexCharacter digit p → BadHex (bad_place size e) ≡ BadHex place → place ≡ p
place_reported size place p digit e h k =
    let q : bad_place size e ≡ p = ap (bad_place size) h in
    let r : bad_place size e ≡ place = same_place (bad_place size e) place k in
    sym r ∙ q

is_odd : (n : ℕ) → (n % 2 == 1) ≡ true → n % 2 ≡ 1
is_odd n h = grind (arith, nat_tests)

is_even : (n : ℕ) → (n % 2 == 1) ≡ false → n % 2 ≡ 0
is_even n h = let k : n % 2 ≢ 1 = grind (arith, nat_tests) in omega arith

by_length : (text : List ℕ) (place : ℕ) (b : Bool) (r : Result (List ℕ) FromHexError) → (length text % 2 == 1) ≡ b → decode_pairs 0 text ≡ r
    → of_hex (length text) (if b then Err OddLength else r) ≡ Err (BadHex place) → IsBadHex text place
by_length text place true r e d h = odd (is_odd (length text) e) (sym (same_place (length text) place (same_error (BadHex (length text)) (BadHex place) h)))
by_length text place false (Ok raw) e d h = absurd (cc)
by_length text place false (Err cause) e d h =
    let found = refused_at 0 text cause (is_even (length text) e) d in
    let reported = place_reported (length text) place (0 + found.place) found.digit cause found.reported
    (same_error (BadHex (bad_place (length text) cause)) (BadHex place) h) in
    let at : found.place ≡ place = omega arith in
    even (is_even (length text) e) (subst (λ (p : ℕ). IsFirstBad text p) at found.first)

pub hex_place : (text : List ℕ) (place : ℕ) → raw_of_hex text ≡ Err (BadHex place) → IsBadHex text place
unfolding raw_of_hex
hex_place text place h = by_length text place (length text % 2 == 1) (decode_pairs 0 text) refl refl h
