-- What is printed writes the value.
use Rattle.std.specs.Prelude.{◌≡◌, ℕ, List, [], ◌∷◌}
use Rattle.std.proofs.Common.{refl, sym, subst}
use Rattle.typed_value.specs.Values.{Val}
use Rattle.value_text.specs.Text.{text_of, tokens}
use Rattle.value_text.specs.Tokens.{Token, written}
use Rattle.value_text.specs.Writes.{IsWritable, Spaced, TextWrites}

-- what is printed has no white space
pub spaced-written : (ts : List Token) → Spaced ts (written ts)
spaced-written [] = refl
spaced-written (t ∷ ts) = ([], written ts, refl, refl, spaced-written ts)

pub writes-text : {A : Type 0} (v : Val A) (file : List ℕ) → file ≡ text_of v → IsWritable v → TextWrites file v
writes-text v file e w =
    let P : List ℕ → Type 0 = λ f. Spaced (tokens v) f in
    record { text = subst P (sym e) (spaced-written (tokens v)); writable = w }
