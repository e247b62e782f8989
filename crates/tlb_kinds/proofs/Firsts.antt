-- The first of several refusals.
use Rattle.std.proofs.Common.{◌≡◌, ◌∙◌, ap, sym, refl, List, [], ◌∷◌, ◌++◌, map, Some, None, Ok, Err, Result}
use Rattle.tlb_syntax.specs.declared.tree.Schema.{Schema}
use Rattle.tlb_syntax.specs.Tree.{SchemaView}
use Rattle.kind_declarations.specs.declared.error.Cause.{Cause}
use Rattle.field_path.specs.declared.part.Part.{Part}
use Rattle.kind_declarations.specs.Faults.{fault_at, faults, first, verdict}
use Rattle.kind_declarations.specs.Headings.{Heading}
use Rattle.kind_declarations.specs.Nodes.{Judged}
use Rattle.tlb_kinds.specs.declared.error.KindError.{KindError}
use Rattle.tlb_kinds.specs.Answers.{IsFirst, Finds, IsJudged, IsPassed, IsRefused}
use Rattle.tlb_kinds.specs.Refusals.{first_refusal, IsKinded}
use Rattle.tlb_kinds.specs.RefusalLaws.{refused_not_kinded}
use Rattle.tlb_kinds.specs.Spots.{refusal_at, refusals_at, spot, refusal}

none_first : {X : Type 0} (xs : List X) → first xs ≡ None → xs ≡ []
none_first [] e = refl
none_first (x ∷ xs) e = cc

-- further refusals come later
first_more : {X : Type 0} (xs ys : List X) (x : X) → first xs ≡ Some x → first (xs ++ ys) ≡ Some x
first_more [] ys x e = cc
first_more (z ∷ xs) ys x e = e

first_map : {X Y : Type 0} (f : X → Y) (xs : List X) (x : X) → first xs ≡ Some x → first (map f xs) ≡ Some (f x)
first_map f [] x e = cc
first_map f (z ∷ xs) x e = let same : z ≡ x = cc in ap (λ y. Some (f y)) same

pub is_first_more : (xs ys : List KindError) (e : KindError) → IsFirst xs e → IsFirst (xs ++ ys) e
is_first_more xs ys e h = λ no_room. first_more xs ys e (h no_room)

pub is_first_later : (xs ys : List KindError) (e : KindError) → xs ≡ [] → IsFirst ys e → IsFirst (xs ++ ys) e
is_first_later xs ys e none h = λ no_room. ap (λ z. first (z ++ ys)) none ∙ h no_room

pub finds_later : (xs ys : List KindError) → xs ≡ [] → (r : Result (Unit {0}) KindError) → Finds ys r → Finds (xs ++ ys) r
finds_later xs ys none (Ok done) h = ap (λ z. z ++ ys) none ∙ h
finds_later xs ys none (Err e) h = is_first_later xs ys e none h

-- what is judged without a fault has no refusal
pub no_refusals : (h : Heading) (js : List Judged) → verdict js ≡ None → refusals_at h js ≡ []
unfolding verdict
no_refusals h js e = ap (map (refusal_at h)) (none_first (faults js) e)

pub first_at : (h : Heading) (js : List Judged) (path : List Part) (c : Cause) → verdict js ≡ Some (fault_at path c)
    → first (refusals_at h js) ≡ Some (refusal c (spot h path))
unfolding verdict
first_at h js path c e = first_map (refusal_at h) (faults js) (fault_at path c) e

-- ---- the answers of the whole check

pub passed_from : (s : SchemaView) (r : Result Schema KindError) → IsJudged s r → IsKinded s → IsPassed s r
passed_from s (Ok kept) judged good = judged.1
passed_from s (Err e) judged good = λ other. refused_not_kinded s e (judged other) good

pub refused_from : (s : SchemaView) (r : Result Schema KindError) → IsJudged s r → (e : KindError) → first_refusal s ≡ Some e → IsRefused e r
refused_from s (Ok kept) judged e is = absurd (refused_not_kinded s e is judged.0)
refused_from s (Err found) judged e is = λ other. let same : Some found ≡ Some e = sym (judged other) ∙ is in cc
