-- The names of fields, and the first causes that one test decides.
use Rattle.std.proofs.Common.{◌≡◌, ap, sym, ◌∙◌, refl, List, [], ◌∷◌, ◌++◌, Bool, true, false, ◌||◌}
use Rattle.std.specs.Prelude.{Some, None, Ok, Err, if◌then◌else◌, bytes_eq}
use Rattle.std.proofs.lemmas.List.Folds.{list_any-append}
use Rattle.field_path.specs.declared.part.Part.{Part}
use Rattle.kind_terms.specs.Words.{Word, is_among}
use Rattle.kind_declarations.specs.declared.error.Cause.TheVariants.{TwiceNamed}
use Rattle.kind_declarations.specs.declared.error.Fault.TheVariants.{Refused}
use Rattle.kind_declarations.specs.Nodes.{a_field, name_at}
use Rattle.kind_declarations.specs.Faults.{Judges, causes, first, verdict}
use Rattle.kind_declarations.proofs.Verdicts.{passed_here, refused_here, verdict_none}

pub among_both : (xs ys : List Word) (x : Word) → is_among (xs ++ ys) x ≡ (is_among xs x || is_among ys x)
among_both xs ys x = list_any-append (bytes_eq x) xs ys

pub first_if : {X : Type 0} (b : Bool) (x : X) → first (if b then x ∷ [] else []) ≡ (if b then Some x else None)
first_if true x = refl
first_if false x = refl

cause_of_field : (x : Word) (others : List Word)
    → first (causes (a_field (record { name = x; others = others }))) ≡ (if is_among others x then Some TwiceNamed else None)
cause_of_field x others = first_if (is_among others x) TwiceNamed

pub named_twice : (p : List Part) (x : Word) (others : List Word) (b : Bool) → b ≡ is_among others x → b ≡ true
    → Judges (name_at p others (Some x)) p (Err (Refused TwiceNamed))
named_twice p x others b is t =
    refused_here p (a_field (record { name = x; others = others })) [] TwiceNamed
    (sym (cause_of_field x others ∙ ap (λ c. if c then Some TwiceNamed else None) (sym is ∙ t)))

pub named_once : (p : List Part) (x : Word) (others : List Word) (b : Bool) → b ≡ is_among others x → b ≡ false
    → verdict (name_at p others (Some x)) ≡ None
named_once p x others b is t =
    passed_here p (a_field (record { name = x; others = others })) [] (Ok tt)
    (sym (cause_of_field x others ∙ ap (λ c. if c then Some TwiceNamed else None) (sym is ∙ t))) verdict_none
