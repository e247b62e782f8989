-- First refusals.
use Rattle.std.proofs.Common.{◌≡◌, ◌∙◌, ap, sym, refl, List, [], ◌∷◌, ◌++◌}
use Rattle.std.specs.Prelude.{Some, None, Result, Ok, Err}
use Rattle.accepted_schema.specs.Refusals.{TagRefusal, tag_too_long, ambiguous, first_of}
use Rattle.tag_ambiguity.specs.declared.error.TagError.{TagError}
use Rattle.tag_ambiguity.specs.declared.error.TagError.TheVariants.{TagTooLong, Ambiguous, NoMemory}
use Rattle.tag_ambiguity.specs.Judged.{Finds, IsFirst, Reports}

-- with further refusals after them
more : (rs qs : List TagRefusal) (r : TagRefusal) → first_of rs ≡ Some r → first_of (rs ++ qs) ≡ Some r
more [] qs r e = cc
more (q ∷ rs) qs r e = e

pub is_first_more : (rs qs : List TagRefusal) (e : TagError) → IsFirst rs e → IsFirst (rs ++ qs) e
is_first_more rs qs (TagTooLong x c) h = λ ne. more rs qs (tag_too_long x c) (h ne)
is_first_more rs qs (Ambiguous x c d) h = λ ne. more rs qs (ambiguous x c d) (h ne)
is_first_more rs qs NoMemory h = λ ne. absurd (ne refl)

-- after none
pub is_first_later : (rs qs : List TagRefusal) (e : TagError) → rs ≡ [] → IsFirst qs e → IsFirst (rs ++ qs) e
is_first_later rs qs e none h = λ ne. ap (λ z. first_of (z ++ qs)) none ∙ h ne

pub finds_later : (rs qs : List TagRefusal) → rs ≡ [] → (result : Result (Unit {0}) TagError) → Finds qs result → Finds (rs ++ qs) result
finds_later rs qs none (Ok done) h = ap (λ z. z ++ qs) none ∙ h
finds_later rs qs none (Err e) h = is_first_later rs qs e none h

-- a refusal that is reported, and is the first
pub reported : (rs : List TagRefusal) (r : TagRefusal) (e : TagError) → first_of rs ≡ Some r → Reports r e → IsFirst rs e
reported rs r e first reports = λ ne. first ∙ sym (reports ne)

-- where there is none it is out of memory
pub out_of_memory : (rs : List TagRefusal) (e : TagError) → rs ≡ [] → IsFirst rs e → e ≡ NoMemory
out_of_memory rs (TagTooLong x c) none h =
    let is : None ≡ Some (tag_too_long x c) = sym (ap first_of none) ∙ h (λ same. cc) in cc
out_of_memory rs (Ambiguous x c d) none h =
    let is : None ≡ Some (ambiguous x c d) = sym (ap first_of none) ∙ h (λ same. cc) in cc
out_of_memory rs NoMemory none h = refl
