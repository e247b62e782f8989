-- What is left after a read.
use Rattle.std.proofs.Common.{◌≡◌, ◌<◌, ◌+◌, ◌∙◌, sym, ap, ℕ, List, [], ◌++◌, length, drop, take, min, refl, Some, Ok, ◌∷◌, arith, get_or, unwrap_or, Option, None, String, Vec, Global}
use Rattle.std.proofs.lemmas.List.{drop-drop}
use Rattle.std.proofs.Math.Seq.{drop-nil}
use Rattle.std.specs.Option.{option_map}
use Rattle.std.proofs.lemmas.Option.{slice_get_read}
use Rattle.tlb_edge.specs.Files.{bytes_at}
use Rattle.tlb_edge.specs.Left.{left_from}
use Rattle.std.proofs.lemmas.List.{take-append-drop}
use Rattle.tlb_edge.specs.Moves.{Reads}

-- the prefix that fits the buffer is taken
pub reads_prefix : (E : Type 0) (left buf : List ℕ) (n : ℕ) → n ≡ min (length buf) (length left) → take n buf ≡ take n left →
    Reads {E = E} (Some left) (Some (drop n left)) (Ok n) buf
reads_prefix E [] buf n count prefix = (ap Some (sym (take-append-drop n []) ∙ ap (λ xs. xs ++ drop n []) (sym prefix)), λ none room. refl)
reads_prefix E (x ∷ left) buf n count prefix = (ap Some (sym (take-append-drop n (x ∷ left)) ∙ ap (λ xs. xs ++ drop n (x ∷ left)) (sym prefix)), λ none room. absurd (omega arith))

pub bytes_at-read : (es : List (String Global × Vec ℕ Global)) (i : ℕ) (e : String Global × Vec ℕ Global) → i < length es → e ≡ get_or es i e →
    bytes_at es i ≡ Some e.1.items
bytes_at-read es i e h is = ap (option_map (λ e. e.1.items)) (slice_get_read es (length es) i e refl h is)

pub left_from-more : (es : List (String Global × Vec ℕ Global)) (place n : ℕ) (current : Option ℕ) →
    left_from es (place + n) current ≡ drop n (left_from es place current)
left_from-more es place n None = sym (drop-nil n)
left_from-more es place n (Some i) = sym (drop-drop n place (unwrap_or (bytes_at es i) []))

-- after a read of the entry that is open
pub reads_at : (E : Type 0) (es : List (String Global × Vec ℕ Global)) (place : ℕ) (current : Option ℕ) (left old buf : List ℕ) (n : ℕ) →
    left ≡ left_from es place current → length buf ≡ length old → n ≡ min (length old) (length left) → take n buf ≡ take n left →
    Reads {E = E} (Some (left_from es place current)) (Some (left_from es (place + n) current)) (Ok n) buf
reads_at E es place current left old buf n is same count prefix =
    rw (left_from-more es place n current, ← is) (reads_prefix E left buf n (count ∙ ap (λ m. min m (length left)) (sym same)) prefix)
