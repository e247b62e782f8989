-- What the rules on kinds and the core form say of a name is the same.
use Rattle.std.proofs.Common.{◌≡◌, ℕ, List, [], ◌∷◌, ◌++◌, Some, None, Bool, true, false, refl, sym, cond}
use Rattle.std.proofs.Common.{append_assoc, subst}
use Rattle.std.specs.Prelude.{bytes_eq}
use Rattle.tlb_syntax.specs.declared.tree.ParamKind.{ParamKind}
use Rattle.tlb_syntax.specs.declared.tree.ParamKind.TheVariants.{Nat, Ty}
use Rattle.tlb_syntax.specs.Tree.{ItemView, SchemaView, implicit, check, explicit, no_items, an_item}
use Rattle.kind_terms.specs.declared.words.WordClass.{WordClass}
use Rattle.kind_terms.specs.declared.words.WordClass.TheVariants.{TypeWord, Any, Cell, Sized, Numbered, Hashmap}
use Rattle.kind_terms.specs.declared.words.WordClass.TheVariants.{HashmapE, HashmapNode, Free}
use Rattle.kind_terms.specs.Words.{Word}
use Rattle.kind_terms.specs.Classes.{word_class}
use Rattle.kind_terms.specs.Dictionaries.{of_type}
use Rattle.kind_terms.specs.Forms.{is_field_of_numbers}
use Rattle.kind_terms.specs.Scopes.{Binding, Scope, meaning_in, after, at_end, implicit_meaning, number_or_other}
use Rattle.kind_terms.specs.Scopes as kinds
use Rattle.kind_terms.specs.Types.{type_named, type_of_class, declared_as}
use Rattle.schema_core.specs.Names.{Names, declares, meaning, implicit_variable, field_variable}
use Rattle.schema_core.specs.Names.{type_by, declared_by}
use Rattle.schema_core.specs.Slots.{next_slot}
use Rattle.schema_core.specs.Same.{IsSameVariable, IsSameMeaning, AreSameNames, named_as}
use Rattle.schema_core.specs.Laws.{MeaningsAgree, ScopesAgree, TypesAgree}

-- ---- names in scope

pub meanings_agree : MeaningsAgree
meanings_agree [] [] x p = tt
meanings_agree [] (e ∷ es) x p = absurd p
meanings_agree (b ∷ bs) [] x p = absurd p
meanings_agree (b ∷ bs) (e ∷ es) x p =
    let P : Word → Type 0 = λ w. IsSameMeaning (cond (bytes_eq w x) (Some b.meaning) (meaning_in bs x))
    (meaning (e ∷ es) x) in
    subst P (sym p.0) (cases (bytes_eq e.0 x) (meanings_agree bs es x p.2))
  where
    cases : (t : Bool) → IsSameMeaning (meaning_in bs x) (meaning es x)
        → IsSameMeaning (cond t (Some b.meaning) (meaning_in bs x)) (cond t (Some e.1) (meaning es x))
    cases true q = p.1
    cases false q = q

pub same_append : (bs cs : List Binding) (es fs : Names) → AreSameNames bs es → AreSameNames cs fs
    → AreSameNames (bs ++ cs) (es ++ fs)
same_append [] cs [] fs p q = q
same_append [] cs (e ∷ es) fs p q = absurd p
same_append (b ∷ bs) cs [] fs p q = absurd p
same_append (b ∷ bs) cs (e ∷ es) fs p q = (p.0, p.1, same_append bs cs es fs p.2 q)

same_implicit : (k : ParamKind) (v : ℕ) → IsSameVariable (implicit_meaning k) (implicit_variable k v)
same_implicit Nat v = tt
same_implicit Ty v = tt

same_field : (b : Bool) (v : ℕ) → IsSameVariable (number_or_other b) (field_variable b v)
same_field true v = tt
same_field false v = tt

pub same_declared : (i : ItemView) (v : ℕ) → AreSameNames (kinds.declares i) (declares i v)
same_declared (implicit x k) v = (refl, same_implicit k v, tt)
same_declared (check a op b) v = tt
same_declared (explicit None t) v = tt
same_declared (explicit (Some x) t) v = (refl, same_field (is_field_of_numbers t) v, tt)

-- after an item
pub same_after : (s : Scope) (i : ItemView) (names : Names) (v : ℕ) → AreSameNames (s.around ++ s.own) names
    → AreSameNames ((after s i).around ++ (after s i).own) (names ++ declares i v)
same_after s i names v p =
    let q = same_append (s.around ++ s.own) (kinds.declares i) names (declares i v) p (same_declared i v) in
    let P : List Binding → Type 0 = λ bs. AreSameNames bs (names ++ declares i v) in
    subst P (append_assoc s.around s.own (kinds.declares i)) q

pub scopes_agree : ScopesAgree
scopes_agree s no_items names v p = p
scopes_agree s (an_item i is) names v p = scopes_agree (after s i) is (names ++ declares i v) (next_slot v i)
    (same_after s i names v p)

-- ---- names of types

same_declarations : (types : SchemaView) (b : Bool) → declared_as types ≡ named_as b (declared_by types)
same_declarations [] b = refl
same_declarations (c ∷ cs) b = refl

same_class : (types : SchemaView) (x : Word) (b : Bool) (w : WordClass)
    → type_of_class types x b w ≡ named_as b (type_by types x w)
same_class types x b TypeWord = refl
same_class types x b Any = refl
same_class types x b Cell = refl
same_class types x b (Sized f) = refl
same_class types x b (Numbered f) = refl
same_class types x b Hashmap = refl
same_class types x b HashmapE = refl
same_class types x b HashmapNode = refl
same_class types x b Free = same_declarations (of_type types x) b

pub types_agree : TypesAgree
unfolding type_named
types_agree types x b = same_class types x b (word_class x)
