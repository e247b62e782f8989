-- Constructors of which no cause holds.
use Rattle.std.proofs.Common.{◌≡◌, ℕ, List, [], ◌∷◌, ◌++◌, Option, Some, None, Bool, true, false, ◌||◌}
use Rattle.std.proofs.Common.{refl, sym, ap, ◌∙◌, cond}
use Rattle.std.specs.Prelude.{bytes_eq}
use Rattle.std.specs.List.{list_all}
use Rattle.std.proofs.lemmas.List.Folds.{list_any-append}
use Rattle.tlb_syntax.specs.declared.tree.ParamKind.{ParamKind}
use Rattle.tlb_syntax.specs.declared.tree.ParamKind.TheVariants.{Nat, Ty}
use Rattle.tlb_syntax.specs.Tree.{ExprView, ExprList, ItemList, ConstructorView, SchemaView, lit, named}
use Rattle.tlb_syntax.specs.Tree.{nat32, bits, below, up_to, plus, star, out, ref, group, no_exprs, an_expr, implicit}
use Rattle.tlb_syntax.specs.Tree.{check}
use Rattle.tlb_syntax.specs.Tree.{explicit, no_items, an_item}
use Rattle.kind_terms.specs.declared.kind.TermKind.TheVariants.{NoKind}
use Rattle.kind_terms.specs.Words.{Word, is_among}
use Rattle.kind_terms.specs.Forms.{is_field_of_numbers}
use Rattle.kind_terms.specs.Params.{bare_name, is_literal, variable_of, implicit_kind, kind_in_sum, kind_of}
use Rattle.kind_terms.specs.Params.{kind_of_sum, kinds}
use Rattle.kind_terms.specs.Params.{has_kind, inputs, option_list, greatest}
use Rattle.kind_declarations.specs.Nodes.{ItemContext, record_nodes, output_nodes, expr_nodes, first, at_result}
use Rattle.kind_declarations.specs.Nodes.{record_and_outputs, constructor_nodes}
use Rattle.kind_rules.specs.ExpectedKinds.{a_number}
use Rattle.core_form.specs.Core.{Input}
use Rattle.core_form.specs.Core as core
use Rattle.core_form.specs.Parameters.{AreParameters}
use Rattle.core_form.specs.Determined.{Known, is_in, is_valued, pattern_sets, known_by, after_all, is_determined}
use Rattle.schema_core.specs.Names.{Names, a_number as numbered, a_type as typed, declares, meaning, number_slot}
use Rattle.schema_core.specs.Names.{implicit_variable, field_variable}
use Rattle.schema_core.specs.Slots.{next_slot}
use Rattle.schema_core.specs.Numbers.{named_number}
use Rattle.schema_core.specs.CoreOf.{names_after, variable_input, sum_input, literal_of, input_of, inputs_of}
use Rattle.schema_core.specs.CoreOf.{outputs_of, items_of, core_of}
use Rattle.kinded_core.specs.Clean.{AreClean, Agrees}
use Rattle.kinded_core.specs.CleanLaws.{clean_both}
use Rattle.kinded_core.specs.NumberLaws.{number_set, both_true}
use Rattle.kinded_core.specs.ItemLaws.{InputsSet, Grows, items_set, meaning_after, meaning_new, only_among, in_more}
use Rattle.kinded_core.specs.ItemLaws.{in_one}
use Rattle.kinded_core.specs.ResultLaws.{HaveKinds, other_word, implicit_meaning, are_parameters}

-- ---- inputs

-- a variable of types is that of an implicit field
type_kind : (is : ItemList) (names : Names) (next : ℕ) (x : Word) (v : ℕ) → meaning names x ≡ None
    → meaning (names_after is names next) x ≡ Some (typed v) → implicit_kind is x ≡ Some Ty
type_kind no_items names next x v n m = let bad : None ≡ Some (typed v) = sym n ∙ m in cc
type_kind (an_item (implicit y k) is) names next x v n m =
    cases (bytes_eq y x) refl k refl (λ o. type_kind is (names ++ declares (implicit y k) next)
    (next_slot next (implicit y k)) x v o m)
  where
    here : bytes_eq y x ≡ true → meaning (names_after is (names ++ declares (implicit y k) next)
        (next_slot next (implicit y k))) x
        ≡ Some (implicit_variable k next)
    here b = meaning_after is (names ++ declares (implicit y k) next)
        (next_slot next (implicit y k)) x (implicit_variable k next)
        (meaning_new names (declares (implicit y k) next) x n
        ∙ ap (λ b. cond b (Some (implicit_variable k next)) None) b)

    cases : (b : Bool) → bytes_eq y x ≡ b → (l : ParamKind) → k ≡ l
        → (meaning (names ++ declares (implicit y k) next) x ≡ None → implicit_kind is x ≡ Some Ty)
        → cond b (Some l) (implicit_kind is x) ≡ Some Ty
    cases true b Ty i r = refl
    cases true b Nat i r =
        let e : Some (implicit_variable Nat next) ≡ Some (typed v) = ap (λ l. Some (implicit_variable l next)) (sym i)
        ∙ sym (here b) ∙ m in cc
    cases false b l i r = r (meaning_new names (declares (implicit y k) next) x n
        ∙ other_word y x (implicit_variable k next) b)
type_kind (an_item (check a op b) is) names next x v n m =
    type_kind is (names ++ declares (check a op b) next)
    (next_slot next (check a op b)) x v (meaning_new names [] x n) m
type_kind (an_item (explicit None t) is) names next x v n m =
    type_kind is (names ++ declares (explicit None t) next)
    (next_slot next (explicit None t)) x v (meaning_new names [] x n) m
type_kind (an_item (explicit (Some y) t) is) names next x v n m =
    cases (bytes_eq y x) refl (is_field_of_numbers t) refl
    (λ o. type_kind is (names ++ declares (explicit (Some y) t) next) (next_slot next (explicit (Some y) t)) x v o m)
  where
    here : bytes_eq y x ≡ true
        → meaning (names_after is (names ++ declares (explicit (Some y) t) next)
        (next_slot next (explicit (Some y) t))) x
        ≡ Some (field_variable (is_field_of_numbers t) next)
    here b = meaning_after is (names ++ declares (explicit (Some y) t) next) (next_slot next (explicit (Some y) t)) x
        (field_variable (is_field_of_numbers t) next)
        (meaning_new names (declares (explicit (Some y) t) next) x n
        ∙ ap (λ b. cond b (Some (field_variable (is_field_of_numbers t) next)) None) b)

    cases : (b : Bool) → bytes_eq y x ≡ b → (f : Bool) → is_field_of_numbers t ≡ f
        → (meaning (names ++ declares (explicit (Some y) t) next) x ≡ None → implicit_kind is x ≡ Some Ty)
        → implicit_kind is x ≡ Some Ty
    cases true b true i r =
        let e : Some (field_variable true next) ≡ Some (typed v) = ap (λ f. Some (field_variable f next)) (sym i)
        ∙ sym (here b) ∙ m in cc
    cases true b false i r =
        let e : Some (field_variable false next) ≡ Some (typed v) = ap (λ f. Some (field_variable f next)) (sym i)
        ∙ sym (here b) ∙ m in cc
    cases false b f i r = r (meaning_new names (declares (explicit (Some y) t) next) x n ∙ other_word y x _ b)

-- what further inputs set stays set
known_more : (xs ys : List Input) → Grows (known_by ys) (known_by (xs ++ ys))
known_more [] ys = record { numbers = λ v h. h; types = λ v h. h }
known_more (core.number p ∷ xs) ys =
    let g = known_more xs ys in
    record {
      numbers = λ v h. in_more (pattern_sets p)
          (known_by (xs ++ ys)).numbers v (g.numbers v h);
      types = g.types;
    }
known_more (core.type w ∷ xs) ys =
    let g = known_more xs ys in
    record { numbers = g.numbers; types = λ v h. in_more (w ∷ []) (known_by (xs ++ ys)).types v (g.types v h) }

-- an input sets what its variable stands for
record InputSet (end : Names) (k : Known) (x : Word) : Type 0 where
  numbers : (v : ℕ) → meaning end x ≡ Some (numbered v) → is_in k.numbers v ≡ true
  types : (v : ℕ) → meaning end x ≡ Some (typed v) → is_in k.types v ≡ true

abbrev TypesImplicit : ItemList → Names → Type 0
TypesImplicit is end = (x : Word) (v : ℕ) → meaning end x ≡ Some (typed v) → implicit_kind is x ≡ Some Ty

named_input : (end : Names) (y : Word) (rest : List Input) (x : Word) → x ≡ y
    → InputSet end (known_by (variable_input (meaning end y) ++ rest)) x
named_input end y rest x same = record {
  numbers = λ v m.
      let n : meaning end y ≡ Some (numbered v) = ap (meaning end) (sym same) ∙ m in
      ap (λ o. is_in (known_by (variable_input o ++ rest)).numbers v) n ∙ in_one v (known_by rest).numbers;
  types = λ v m.
      let n : meaning end y ≡ Some (typed v) = ap (meaning end) (sym same) ∙ m in
      ap (λ o. is_in (known_by (variable_input o ++ rest)).types v) n ∙ in_one v (known_by rest).types;
}

sum_input_set : (is : ItemList) (end : Names) → TypesImplicit is end → (a b : ExprView) (rest : List Input) (x : Word)
    → has_kind (kind_of is (plus a b)) ≡ true → is_among (option_list (variable_of (plus a b))) x ≡ true
    → InputSet end (known_by (sum_input (named_number end (bare_name a)) (literal_of b) ++ rest)) x
sum_input_set is end ti a b rest x h m = cases (is_literal b) (bare_name a) refl refl m
  where
    set : (y : Word) → bare_name a ≡ Some y → kind_of is (plus a b) ≡ kind_in_sum (implicit_kind is y) → x ≡ y
        → InputSet end (known_by (sum_input (named_number end (bare_name a)) (literal_of b) ++ rest)) x
    set y j e same = record {
      numbers = λ v m.
          let n : meaning end y ≡ Some (numbered v) = ap (meaning end) (sym same) ∙ m in
          let slot : named_number end (bare_name a) ≡ Some v = ap (named_number end) j ∙ ap number_slot n in
          ap (λ o. is_in (known_by (sum_input o (literal_of b) ++ rest)).numbers v) slot
          ∙ in_one v (known_by rest).numbers;
      types = λ v m.
          let n : meaning end y ≡ Some (typed v) = ap (meaning end) (sym same) ∙ m in
          let k : kind_of is (plus a b) ≡ NoKind = e ∙ ap kind_in_sum (ti y v n) in
          let bad : false ≡ true = sym (ap has_kind k) ∙ h in cc;
    }

    cases : (l : Bool) (o : Option Word) → is_literal b ≡ l → bare_name a ≡ o
        → is_among (option_list (variable_of (plus a b))) x ≡ true
        → InputSet end (known_by (sum_input (named_number end (bare_name a)) (literal_of b) ++ rest)) x
    cases false o i j m =
        let bad : false ≡ true = sym (ap (λ l. is_among (option_list (cond l (bare_name a) None)) x) i) ∙ m in cc
    cases true None i j m =
        let e : variable_of (plus a b) ≡ None = ap (λ l. cond l (bare_name a) None) i ∙ j in
        let bad : false ≡ true = sym (ap (λ o. is_among (option_list o) x) e) ∙ m in cc
    cases true (Some y) i j m =
        let e : variable_of (plus a b) ≡ Some y = ap (λ l. cond l (bare_name a) None) i ∙ j in
        set y j (ap (kind_of_sum is) e) (only_among y x (sym (ap (λ o. is_among (option_list o) x) e) ∙ m))

input_set : (is : ItemList) (end : Names) → TypesImplicit is end → (e : ExprView) (rest : List Input) (x : Word)
    → has_kind (kind_of is e) ≡ true
    → is_among (option_list (variable_of e)) x ≡ true → InputSet end (known_by (input_of end e ++ rest)) x
input_set is end ti (named y no_exprs) rest x h m = named_input end y rest x (only_among y x m)
input_set is end ti (plus a b) rest x h m = sum_input_set is end ti a b rest x h m
input_set is end ti (named y (an_expr e es)) rest x h m = let bad : false ≡ true = m in cc
input_set is end ti (lit n) rest x h m = let bad : false ≡ true = m in cc
input_set is end ti nat32 rest x h m = let bad : false ≡ true = m in cc
input_set is end ti (bits es) rest x h m = let bad : false ≡ true = m in cc
input_set is end ti (below es) rest x h m = let bad : false ≡ true = m in cc
input_set is end ti (up_to es) rest x h m = let bad : false ≡ true = m in cc
input_set is end ti (star a b) rest x h m = let bad : false ≡ true = m in cc
input_set is end ti (out e) rest x h m = let bad : false ≡ true = m in cc
input_set is end ti (ref e) rest x h m = let bad : false ≡ true = m in cc
input_set is end ti (group js) rest x h m = let bad : false ≡ true = m in cc

each_input : (is : ItemList) (end : Names) → TypesImplicit is end → (es : ExprList) → HaveKinds is es → (x : Word)
    → is_among (inputs es) x ≡ true
    → InputSet end (known_by (inputs_of end es)) x
each_input is end ti no_exprs h x m = let bad : false ≡ true = m in cc
each_input is end ti (an_expr e es) h x m =
    cases (is_among (option_list (variable_of e)) x) refl
    (sym (list_any-append (bytes_eq x) (option_list (variable_of e)) (inputs es)) ∙ m)
    (λ n. each_input is end ti es h.1 x n)
  where
    cases : (b : Bool) → is_among (option_list (variable_of e)) x ≡ b → (b || is_among (inputs es) x) ≡ true
        → (is_among (inputs es) x ≡ true → InputSet end (known_by (inputs_of end es)) x)
        → InputSet end (known_by (input_of end e ++ inputs_of end es)) x
    cases true i m r = input_set is end ti e (inputs_of end es) x h.0 i
    cases false i m r =
        let g = known_more (input_of end e) (inputs_of end es) in
        let w = r m in
        record { numbers = λ v n. g.numbers v (w.numbers v n); types = λ v n. g.types v (w.types v n) }

inputs_set : (is : ItemList) (end : Names) → TypesImplicit is end → (es : ExprList) → HaveKinds is es
    → InputsSet (inputs es) end (known_by (inputs_of end es))
inputs_set is end ti es h = record {
  numbers = λ x v m n. (each_input is end ti es h x m).numbers v n;
  types = λ x v m n. (each_input is end ti es h x m).types v n;
}

-- ---- outputs

outputs_valued : (es : ExprList) (a : ItemContext) (names : Names) (k : Known) → Agrees a.scope names k
    → AreClean (output_nodes es a)
    → list_all (is_valued k) (outputs_of names es) ≡ true
outputs_valued no_exprs a names k g h = refl
outputs_valued (an_expr (out e) es) a names k g h =
    let p = clean_both (expr_nodes e a (Some (a_number greatest None))) _ h in
    both_true _ _ (number_set e a names k g greatest p.0) (outputs_valued es a names k g p.1)
outputs_valued (an_expr (lit n) es) a names k g h = outputs_valued es a names k g h
outputs_valued (an_expr (named x fs) es) a names k g h = outputs_valued es a names k g h
outputs_valued (an_expr nat32 es) a names k g h = outputs_valued es a names k g h
outputs_valued (an_expr (bits fs) es) a names k g h = outputs_valued es a names k g h
outputs_valued (an_expr (below fs) es) a names k g h = outputs_valued es a names k g h
outputs_valued (an_expr (up_to fs) es) a names k g h = outputs_valued es a names k g h
outputs_valued (an_expr (plus x y) es) a names k g h = outputs_valued es a names k g h
outputs_valued (an_expr (star x y) es) a names k g h = outputs_valued es a names k g h
outputs_valued (an_expr (ref e) es) a names k g h = outputs_valued es a names k g h
outputs_valued (an_expr (group is) es) a names k g h = outputs_valued es a names k g h

-- ---- constructors

pub constructor_determined : (types : SchemaView) (tag : List ℕ) (c : ConstructorView)
    → AreClean (constructor_nodes types c)
    → HaveKinds c.items c.params → is_determined (core_of types tag c) ≡ true
constructor_determined types tag c h kinds =
    let end = names_after c.items [] 0 in
    let k = known_by (inputs_of end c.params) in
    let p = clean_both (record_and_outputs types c) _ h in
    let q = clean_both (record_nodes c.items (first types c)) _ p.0 in
    let start : Agrees (first types c).scope [] k = record {
      same = tt;
      bound = λ x m. let bad : false ≡ true = m in cc;
      numbers = λ x v m n. let bad : false ≡ true = m in cc;
      types = λ x v m n. let bad : false ≡ true = m in cc;
    } in
    let s = items_set c.items (first types c) [] k 0 1 0 start (λ x v m. let bad : None ≡ Some v = m in cc)
    (inputs_set c.items end (λ x v m. type_kind c.items [] 0 x v refl m) c.params kinds) q.0 in
    both_true _ _ s.all (outputs_valued c.params (at_result types c) end
    (after_all (items_of types [] 0 1 0 c.items) k) s.end q.1)

pub constructor_parameters : (types : SchemaView) (tag : List ℕ) (c : ConstructorView)
    → AreClean (constructor_nodes types c)
    → HaveKinds c.items c.params
    → AreParameters (core_of types tag c).parameters (core_of types tag c).inputs (core_of types tag c).outputs
constructor_parameters types tag c h kinds =
    let p = clean_both (record_and_outputs types c) _ h in
    let q = clean_both (record_nodes c.items (first types c)) _ p.0 in
    are_parameters c.items (names_after c.items [] 0)
    (λ x k i. implicit_meaning c.items (first types c) [] 0 q.0
    (λ y v m. let bad : None ≡ Some v = m in cc) x refl k i) c.params kinds
