-- Bytes that are taken or put piece by piece.
use Rattle.std.proofs.Common.{◌≡◌, ◌≤◌, ◌+◌, ◌-◌, ◌∙◌, sym, ap, ℕ, List, ◌++◌, length, take, drop, append_assoc, Option, None, Some, arith}
use Rattle.std.proofs.Math.Seq.{take-add}
use Rattle.std.proofs.lemmas.List.{length-drop, length-take-le, take-take}
use Rattle.std.specs.Io.KnownBytes.{append_known}
use Rattle.tlb_edge.specs.Moves.{Writes, WritesPrefix}

pub Writes-trans : (a b c : Option (List ℕ)) (xs ys : List ℕ) → Writes a b xs → Writes b c ys → Writes a c (xs ++ ys)
Writes-trans None b c xs ys p q = q ∙ ap (λ o. append_known o ys) p
Writes-trans (Some z) b c xs ys p q = q ∙ ap (λ o. append_known o ys) p ∙ ap Some (append_assoc z xs ys)

-- a piece more
pub Writes-piece : (a b c : Option (List ℕ)) (text : List ℕ) (at n : ℕ) → Writes a b (take at text) → Writes b c (take n (drop at text)) →
    Writes a c (take (at + n) text)
Writes-piece a b c text at n p q = Writes-trans a b c (take at text) (take n (drop at text)) p q ∙ ap (append_known a) (sym (take-add at n text))

pub Writes-part : (a b c : Option (List ℕ)) (text : List ℕ) (at n : ℕ) → Writes a b (take at text) → Writes b c (take (at + n - at) (drop at text)) →
    Writes a c (take (at + n) text)
Writes-part a b c text at n p q = Writes-piece a b c text at n p (q ∙ ap (λ m. append_known b (take m (drop at text))) (omega arith))

-- a piece of which a prefix was put
pub WritesPrefix-piece : (a b c : Option (List ℕ)) (text piece : List ℕ) (at m : ℕ) → piece ≡ take (at + m - at) (drop at text) → at + m ≤ length text →
    Writes a b (take at text) → WritesPrefix b c piece → WritesPrefix a c text
WritesPrefix-piece a b c text piece at m cut fits p q =
    let is : piece ≡ take m (drop at text) = cut ∙ ap (λ n. take n (drop at text)) (omega arith) in
    let len : length piece ≡ m = ap length is ∙ length-take-le m (drop at text) (omega (arith, length-drop at text)) in
    let short : q.0 ≤ m = omega (arith, q.1) in
    let same : take q.0 piece ≡ take q.0 (drop at text) = ap (take q.0) is ∙ take-take q.0 m (drop at text) short in
    (at + q.0, omega arith, Writes-piece a b c text at q.0 p (q.2 ∙ ap (append_known b) same))
