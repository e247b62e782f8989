-- What a name stands for after items.
use Rattle.std.proofs.Common.{◌≡◌, ◌∙◌, ap, sym, refl, ℕ, Bool, true, false, [], ◌∷◌, ◌++◌}
use Rattle.std.specs.Prelude.{Option, Some, None, option_map, bytes_eq, cond}
use Rattle.std.specs.Option.{option_or}
use Rattle.tlb_syntax.specs.declared.tree.ParamKind.{ParamKind}
use Rattle.tlb_syntax.specs.declared.tree.ParamKind.TheVariants.{Nat, Ty}
use Rattle.tlb_syntax.specs.Tree.{ItemView, ItemList, implicit, check, explicit, no_items, an_item}
use Rattle.kind_terms.specs.Words.{Word}
use Rattle.kind_terms.specs.Forms.{is_field_of_numbers}
use Rattle.schema_core.specs.CoreOf.{names_after}
use Rattle.schema_core.specs.Names.{Names, Variable, declares, field_variable, implicit_variable, meaning}
use Rattle.schema_core.specs.Slots.{next_slot}
use Rattle.tag_ambiguity.specs.declared.inputs.Variable.{Variable as ProgramVariable}
use Rattle.tag_ambiguity.specs.Inputs.{variable_by}

-- what the first of the items that is of the name brings into scope
abbrev pub found_in : ItemList → Word → Option ProgramVariable
found_in no_items x = None
found_in (an_item i is) x = option_or (option_map variable_by (meaning (declares i 0) x)) (found_in is x)

by_kind : (b : Bool) (k : ParamKind) (v : ℕ) → option_map variable_by (cond b (Some (implicit_variable k v)) None)
    ≡ option_map variable_by (cond b (Some (implicit_variable k 0)) None)
by_kind true Nat v = refl
by_kind true Ty v = refl
by_kind false k v = refl

by_numbers : (b numbers : Bool) (v : ℕ) → option_map variable_by (cond b (Some (field_variable numbers v)) None)
    ≡ option_map variable_by (cond b (Some (field_variable numbers 0)) None)
by_numbers true true v = refl
by_numbers true false v = refl
by_numbers false numbers v = refl

-- whatever its slot
any_slot : (i : ItemView) (v : ℕ) (x : Word) → option_map variable_by (meaning (declares i v) x) ≡ option_map variable_by (meaning (declares i 0) x)
any_slot (implicit y k) v x = by_kind (bytes_eq y x) k v
any_slot (check a op b) v x = refl
any_slot (explicit None t) v x = refl
any_slot (explicit (Some y) t) v x = by_numbers (bytes_eq y x) (is_field_of_numbers t) v

either : (b : Bool) (v : Variable) (o p : Option Variable) → cond b (Some v) (option_or o p) ≡ option_or (cond b (Some v) o) p
either true v o p = refl
either false v o p = refl

meaning_append : (a b : Names) (x : Word) → meaning (a ++ b) x ≡ option_or (meaning a x) (meaning b x)
meaning_append [] b x = refl
meaning_append (e ∷ es) b x =
    ap (λ o. cond (bytes_eq e.0 x) (Some e.1) o) (meaning_append es b x)
    ∙ either (bytes_eq e.0 x) e.1 (meaning es x) (meaning b x)

mapped_or : (o p : Option Variable) → option_map variable_by (option_or o p) ≡ option_or (option_map variable_by o) (option_map variable_by p)
mapped_or None p = refl
mapped_or (Some v) p = refl

or_none : {X : Type 0} (o : Option X) → o ≡ option_or o None
or_none None = refl
or_none (Some v) = refl

or_or : {X : Type 0} (o p q : Option X) → option_or (option_or o p) q ≡ option_or o (option_or p q)
or_or None p q = refl
or_or (Some v) p q = refl

found : (is : ItemList) (names : Names) (next : ℕ) (x : Word)
    → option_map variable_by (meaning (names_after is names next) x) ≡ option_or (option_map variable_by (meaning names x)) (found_in is x)
found no_items names next x = or_none (option_map variable_by (meaning names x))
found (an_item i is) names next x =
    let here = option_map variable_by (meaning names x) in
    found is (names ++ declares i next) (next_slot next i) x
    ∙ ap (λ o. option_or (option_map variable_by o) (found_in is x)) (meaning_append names (declares i next) x)
    ∙ ap (λ o. option_or o (found_in is x)) (mapped_or (meaning names x) (meaning (declares i next) x) ∙ ap (option_or here) (any_slot i next x))
    ∙ or_or here (option_map variable_by (meaning (declares i 0) x)) (found_in is x)

-- with nothing in scope before
pub found_first : (is : ItemList) (x : Word) → option_map variable_by (meaning (names_after is [] 0) x) ≡ found_in is x
found_first is x = found is [] 0 x

pub found_here : (i : ItemView) (is all : ItemList) (x : Word) (o : Option ProgramVariable) (v : ProgramVariable)
    → found_in all x ≡ found_in (an_item i is) x → o ≡ option_map variable_by (meaning (declares i 0) x) → o ≡ Some v
    → Some v ≡ option_map variable_by (meaning (names_after all [] 0) x)
found_here i is all x o v so_far is_here found =
    sym (found_first all x ∙ so_far ∙ ap (λ p. option_or p (found_in is x)) (sym is_here ∙ found))

pub found_later : (i : ItemView) (is all : ItemList) (x : Word) (o : Option ProgramVariable)
    → found_in all x ≡ found_in (an_item i is) x → o ≡ option_map variable_by (meaning (declares i 0) x) → o ≡ None
    → found_in all x ≡ found_in is x
found_later i is all x o so_far is_here none = so_far ∙ ap (λ p. option_or p (found_in is x)) (sym is_here ∙ none)
