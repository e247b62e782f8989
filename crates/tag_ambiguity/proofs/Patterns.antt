-- Patterns without the slots of their variables, and pairs of inputs.
use Rattle.std.proofs.Common.{◌≡◌, ◌∙◌, ◌+◌, ap, sym, refl, subst, arith, ℕ, zero, suc, Bool, true, false, List, [], ◌∷◌, drop, ◌↔◌}
use Rattle.std.specs.Prelude.{IsTrue, ◌||◌, Option, Some, None, slice_get}
use Rattle.nat_solver.specs.Pattern as patterns
use Rattle.nat_solver.specs.declared.pattern.Pattern.{Pattern}
use Rattle.nat_solver.specs.declared.pattern.Pattern.TheVariants.{Lit, Var, Plus}
use Rattle.core_form.specs.Core.{Input, number, type}
use Rattle.schema_leads.specs.PatternLaws.{exclude_sound, exclude_complete}
use Rattle.schema_leads.specs.Separation.{exclude, excluding}
use Rattle.tag_ambiguity.specs.declared.inputs.Input.{Input as ProgramInput}
use Rattle.tag_ambiguity.specs.declared.inputs.Input.TheVariants.{Number}
use Rattle.tag_ambiguity.specs.Inputs.{IsVerdict, input_by, inputs_by, or_those_after, plain_pattern, plain_inputs}
use Rattle.tag_ambiguity.proofs.Listing.{left_at}

plain_exclude : (p q : Pattern) → exclude (plain_pattern p) (plain_pattern q) ≡ exclude p q
plain_exclude (Lit n) q = by q
  where
    by : (q : Pattern) → exclude (plain_pattern (Lit n)) (plain_pattern q) ≡ exclude (Lit n) q
    by (Lit m) = refl
    by (Var w) = refl
    by (Plus w l) = refl
plain_exclude (Var v) q = by q
  where
    by : (q : Pattern) → exclude (plain_pattern (Var v)) (plain_pattern q) ≡ exclude (Var v) q
    by (Lit m) = refl
    by (Var w) = refl
    by (Plus w l) = refl
plain_exclude (Plus v k) q = by q
  where
    by : (q : Pattern) → exclude (plain_pattern (Plus v k)) (plain_pattern q) ≡ exclude (Plus v k) q
    by (Lit m) = refl
    by (Var w) = refl
    by (Plus w l) = refl

pub plain_excluding : (ps qs : List Input) → excluding (plain_inputs ps) (plain_inputs qs) ≡ excluding ps qs
plain_excluding [] qs = refl
plain_excluding (number p ∷ ps) [] = refl
plain_excluding (number p ∷ ps) (number q ∷ qs) =
    ap (λ b. b || excluding (plain_inputs ps) (plain_inputs qs)) (plain_exclude p q) ∙ ap (λ b. exclude p q || b) (plain_excluding ps qs)
plain_excluding (number p ∷ ps) (type w ∷ qs) = refl
plain_excluding (type v ∷ ps) [] = refl
plain_excluding (type v ∷ ps) (number q ∷ qs) = refl
plain_excluding (type v ∷ ps) (type w ∷ qs) = plain_excluding ps qs

-- the program's test is that of the definition
pub tested : (b : Bool) (p q : Pattern) → IsTrue b ↔ patterns.Exclude p q → exclude p q ≡ b
tested true p q h = exclude_complete p q (h.0 refl)
tested false p q h = off (exclude p q) refl
  where
    off : (e : Bool) → exclude p q ≡ e → exclude p q ≡ false
    off true is = absurd (cc (h.1 (exclude_sound p q is)))
    off false is = is

-- a list begins with no input where the other has none
pub none_excluding : (p : Input) (ps : List Input) → excluding (p ∷ ps) [] ≡ false
none_excluding (number p) ps = refl
none_excluding (type v) ps = refl

-- ---- the program's inputs, place by place

pub excluded : (p q : Pattern) (b : Bool) (i j : ProgramInput) → IsTrue b ↔ patterns.Exclude p q → b ≡ true → i ≡ Number p → j ≡ Number q
    → IsVerdict i j (Some true)
excluded p q b i j h on is_p is_q =
    let first : IsVerdict (Number p) (Number q) (Some true) = λ ps qs. ap (λ c. c || excluding ps qs) (tested b p q h ∙ on) in
    let P : ProgramInput → Type 0 = λ z. IsVerdict z (Number q) (Some true) in
    let Q : ProgramInput → Type 0 = λ z. IsVerdict i z (Some true) in
    subst Q (sym is_q) (subst P (sym is_p) first)

none_left : {X : Type 0} (xs : List X) (k : ℕ) → slice_get xs k ≡ None → drop k xs ≡ []
none_left [] zero e = refl
none_left [] (suc k) e = refl
none_left (x ∷ xs) zero e = cc
none_left (x ∷ xs) (suc k) e = none_left xs k e

pub ended : (ps qs : List ProgramInput) (k : ℕ) (p : ProgramInput) → slice_get ps k ≡ Some p → slice_get qs k ≡ None
    → excluding (inputs_by (drop k ps)) (inputs_by (drop k qs)) ≡ false
ended ps qs k p here none =
    ap (λ z. excluding (inputs_by z) (inputs_by (drop k qs))) (left_at ps k p here)
    ∙ ap (λ z. excluding (inputs_by (p ∷ drop (suc k) ps)) (inputs_by z)) (none_left qs k none)
    ∙ none_excluding (input_by p) (inputs_by (drop (suc k) ps))

pub settled : (ps qs : List ProgramInput) (k : ℕ) (p q : ProgramInput) (r : Option Bool) → slice_get ps k ≡ Some p → slice_get qs k ≡ Some q
    → IsVerdict p q r → excluding (inputs_by (drop k ps)) (inputs_by (drop k qs))
    ≡ or_those_after r (excluding (inputs_by (drop (k + 1) ps)) (inputs_by (drop (k + 1) qs)))
settled ps qs k p q r here there verdict =
    let e : suc k ≡ k + 1 = omega arith in
    ap (λ z. excluding (inputs_by z) (inputs_by (drop k qs))) (left_at ps k p here)
    ∙ ap (λ z. excluding (inputs_by (p ∷ drop (suc k) ps)) (inputs_by z)) (left_at qs k q there)
    ∙ verdict (inputs_by (drop (suc k) ps)) (inputs_by (drop (suc k) qs))
    ∙ ap (λ n. or_those_after r (excluding (inputs_by (drop n ps)) (inputs_by (drop n qs)))) e
