use Rattle.std.proofs.Common.{◌≡◌, List, ℕ, Result, Ok, Err, MatchResult, ap, sym, subst, ◌∙◌}
use Rattle.hex.specs.Hex.{encode_lower}
use Rattle.hex.specs.declared.error.FromHexError.{FromHexError}
use Rattle.value_text.specs.Writes.{AreBytes}
use Rattle.value_text.specs.HiddenPartsLaws.{hash_decoded}
use Rattle.value_text.proofs.scan.hash_of.Goals as goal

pub returns-clause-text : goal.returns-clause-text
returns-clause-text c =
    let P : Result (List ℕ) FromHexError → Type 0 = λ r. MatchResult r
    (λ bytes. (c.decode_to_slice.result ≡ Ok tt) × (c.decode_to_slice.new.out ≡ bytes)) (λ e. c.decode_to_slice.result ≡ Err e) in
    let got = subst P (hash_decoded c.args.digits.now c.requires) c.decode_to_slice.ensures.value in
    c.requires.whole ∙ ap encode_lower (sym got.1)

pub returns-clause-bytes : goal.returns-clause-bytes
returns-clause-bytes c =
    let P : Result (List ℕ) FromHexError → Type 0 = λ r. MatchResult r
    (λ bytes. (c.decode_to_slice.result ≡ Ok tt) × (c.decode_to_slice.new.out ≡ bytes)) (λ e. c.decode_to_slice.result ≡ Err e) in
    let got = subst P (hash_decoded c.args.digits.now c.requires) c.decode_to_slice.ensures.value in
    let Q : List ℕ → Type 0 = λ b. AreBytes b in
    subst Q (sym got.1) c.requires.are_bytes
