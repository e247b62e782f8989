-- Whether bits begin with others.
use Rattle.std.proofs.Common.{◌≡◌, ◌∙◌, ◌↔◌, Bool, true, false, ℕ, List, [], ◌∷◌, length, take, refl, sym, ap}
use Rattle.std.specs.Prelude.{IsTrue, nat_eq}
use Rattle.std.proofs.lemmas.Bool.{and_from, and_parts, eq-eqb, eqb-true, false_from_ne_true, false≢true}
use Rattle.bit_slice.specs.Bits.{BeginsWith}
use Rattle.schema_leads.specs.Leads.{begins}

begins_from : (lead bits : List ℕ) → BeginsWith bits lead → begins lead bits ≡ true
begins_from [] bits e = refl
begins_from (x ∷ lead) [] e = cc
begins_from (x ∷ lead) (y ∷ bits) e =
    let first : y ≡ x = cc in
    let rest : take (length lead) bits ≡ lead = cc in
    and_from (nat_eq x y) (begins lead bits) (eq-eqb x y (sym first)) (begins_from lead bits rest)

begins_to : (lead bits : List ℕ) → begins lead bits ≡ true → BeginsWith bits lead
begins_to [] bits e = refl
begins_to (x ∷ lead) [] e = cc
begins_to (x ∷ lead) (y ∷ bits) e =
    let both = and_parts (nat_eq x y) (begins lead bits) e in
    ap (λ z. z ∷ take (length lead) bits) (sym (eqb-true x y both.0)) ∙ ap (λ z. x ∷ z) (begins_to lead bits both.1)

pub tested_begin : (b : Bool) (lead bits : List ℕ) → IsTrue b ↔ BeginsWith bits lead → b ≡ begins lead bits
tested_begin true lead bits h = sym (begins_from lead bits (h.0 refl))
tested_begin false lead bits h =
    sym (false_from_ne_true (begins lead bits) (λ e. false≢true (h.1 (begins_to lead bits e))))
