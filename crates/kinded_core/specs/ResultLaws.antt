-- Results of which no cause holds: each parameter has its input or its output, and outputs are numbers that are set.
use Rattle.std.proofs.Common.{◌≡◌, ℕ, List, [], ◌∷◌, ◌++◌, Option, Some, None, Bool, true, false, not, ◌||◌}
use Rattle.std.proofs.Common.{refl, sym, ap, ◌∙◌, subst, cond}
use Rattle.std.specs.Prelude.{bytes_eq}
use Rattle.std.proofs.lemmas.Slice.Eq.{bytes_eq-Decides}
use Rattle.nat_solver.specs.Number.{Expr}
use Rattle.tlb_syntax.specs.declared.tree.ParamKind.{ParamKind}
use Rattle.tlb_syntax.specs.declared.tree.ParamKind.TheVariants.{Nat, Ty}
use Rattle.tlb_syntax.specs.Tree.{ExprView, ExprList, ItemList, lit, named}
use Rattle.tlb_syntax.specs.Tree.{nat32, bits, below, up_to, plus, star, out, ref, group, no_exprs, an_expr, implicit}
use Rattle.tlb_syntax.specs.Tree.{check}
use Rattle.tlb_syntax.specs.Tree.{explicit, no_items, an_item}
use Rattle.kind_terms.specs.declared.kind.TermKind.{TermKind}
use Rattle.kind_terms.specs.declared.kind.TermKind.TheVariants.{NoKind}
use Rattle.kind_terms.specs.Words.{Word, is_among}
use Rattle.kind_terms.specs.Params.{bare_name, is_literal, implicit_kind, kind_alone, kind_in_sum, kind_of, kind_of_sum}
use Rattle.kind_terms.specs.Params.{kinds_of_exprs, has_kind}
use Rattle.kind_terms.specs.Scopes.{field_names}
use Rattle.kind_declarations.specs.declared.error.Cause.TheVariants.{KindMismatch}
use Rattle.kind_declarations.specs.Headings.{Heading}
use Rattle.kind_declarations.specs.Nodes.{RecordContext, ItemContext, Judged, record_nodes, item_nodes, param_nodes}
use Rattle.kind_declarations.specs.Nodes.{joined, name_at}
use Rattle.kind_declarations.specs.Nodes.{output_nodes, expr_nodes, expected_number, first, at_result, at}
use Rattle.kind_declarations.specs.Nodes as nodes
use Rattle.core_form.specs.Core.{Input, Parameter}
use Rattle.core_form.specs.Core as core
use Rattle.core_form.specs.Parameters.{AreParameters}
use Rattle.schema_core.specs.Names.{Names, Variable, declares, meaning, number_slot}
use Rattle.schema_core.specs.Names.{implicit_variable}
use Rattle.schema_core.specs.Slots.{next_slot}
use Rattle.schema_core.specs.Numbers.{named_number}
use Rattle.schema_core.specs.CoreOf.{names_after, parameter_of, parameters_of, variable_input, sum_input, literal_of}
use Rattle.schema_core.specs.CoreOf.{inputs_of, outputs_of}
use Rattle.kinded_core.specs.Clean.{AreClean}
use Rattle.kinded_core.specs.CleanLaws.{clean_both}
use Rattle.kinded_core.specs.ItemLaws.{AreFields, meaning_after, meaning_new}
use Rattle.kinded_core.specs.ItemLaws.{among_left, among_right, not_among_left, fields_more, new_name}

-- ---- parameters that have kinds

-- each parameter of the constructor is one
abbrev pub HaveKinds : ItemList → ExprList → Type 0
HaveKinds is no_exprs = Unit {0}
HaveKinds is (an_expr e es) = (has_kind (kind_of is e) ≡ true) × HaveKinds is es

not_false : (b : Bool) → not b ≡ false → b ≡ true
not_false true h = refl
not_false false h = cc

pub have_kinds : (h : Heading) (before es : ExprList) → AreClean (param_nodes h before es) → HaveKinds h.this.items es
have_kinds h before no_exprs c = tt
have_kinds h before (an_expr e es) c =
    (not_false (has_kind (kind_of h.this.items e)) (c.0 KindMismatch), have_kinds h (joined before e) es c.1)

-- ---- what the variables of parameters stand for at the end of the items

-- no implicit field has the name of a field that comes before
none_later : (is : ItemList) (h : RecordContext) → AreClean (record_nodes is h) → (x : Word)
    → is_among h.fields x ≡ true → implicit_kind is x ≡ None
none_later no_items h c x m = refl
none_later (an_item (implicit y k) is) h c x m =
    let p = clean_both (item_nodes (implicit y k) (at h (implicit y k)) (h.fields ++ h.inner)) _ c in
    let n = not_among_left h.fields h.inner y (new_name (h.fields ++ h.inner) (at h (implicit y k)).path y p.0) in
    cases (bytes_eq y x) refl n (none_later is (nodes.next h (implicit y k)) p.1 x (among_left h.fields (y ∷ []) x m))
  where
    cases : (b : Bool) → bytes_eq y x ≡ b → is_among h.fields y ≡ false → implicit_kind is x ≡ None → cond b (Some k)
        (implicit_kind is x) ≡ None
    cases true i n r =
        let same : y ≡ x = (bytes_eq-Decides y x).0 i in
        let b : true ≡ false = sym m ∙ ap (is_among h.fields) (sym same) ∙ n in cc
    cases false i n r = r
none_later (an_item (check a op b) is) h c x m =
    let p = clean_both (item_nodes (check a op b) (at h (check a op b)) (h.fields ++ h.inner)) _ c in
    none_later is (nodes.next h (check a op b)) p.1 x (among_left h.fields [] x m)
none_later (an_item (explicit y t) is) h c x m =
    let p = clean_both (item_nodes (explicit y t) (at h (explicit y t)) (h.fields ++ h.inner)) _ c in
    none_later is (nodes.next h (explicit y t)) p.1 x (among_left h.fields (field_names (explicit y t)) x m)

pub other_word : (x y : Word) (v : Variable) → bytes_eq x y ≡ false → meaning ((x, v) ∷ []) y ≡ None
other_word x y v h = ap (λ b. cond b (Some v) None) h

-- the variable of an implicit field stands for it at the end
pub implicit_meaning : (is : ItemList) (h : RecordContext) (names : Names) (next : ℕ) → AreClean (record_nodes is h)
    → AreFields names h.fields
    → (x : Word) → meaning names x ≡ None → (k : ParamKind) → implicit_kind is x ≡ Some k
    → (v : ℕ) × (meaning (names_after is names next) x ≡ Some (implicit_variable k v))
implicit_meaning no_items h names next c f x n k i = cc
implicit_meaning (an_item (implicit y l) is) h names next c f x n k i =
    let p = clean_both (item_nodes (implicit y l) (at h (implicit y l)) (h.fields ++ h.inner)) _ c in
    cases (bytes_eq y x) refl i (λ m j. implicit_meaning is (nodes.next h (implicit y l))
    (names ++ declares (implicit y l) next)
    (next_slot next (implicit y l)) p.1 (fields_more names h.fields (implicit y l) next f) x m k j)
  where
    cases : (b : Bool) → bytes_eq y x ≡ b → cond b (Some l) (implicit_kind is x) ≡ Some k
        → (meaning (names ++ declares (implicit y l) next) x ≡ None → implicit_kind is x ≡ Some k
        → (v : ℕ) × (meaning (names_after (an_item (implicit y l) is) names next) x ≡ Some (implicit_variable k v)))
        → (v : ℕ) × (meaning (names_after (an_item (implicit y l) is) names next) x ≡ Some (implicit_variable k v))
    cases true b i r =
        let same : l ≡ k = cc in
        let here : meaning (names ++ declares (implicit y l) next) x ≡ Some (implicit_variable l next) =
        meaning_new names (declares (implicit y l) next) x n
        ∙ ap (λ b. cond b (Some (implicit_variable l next)) None) b in (
          next,
          meaning_after is (names ++ declares (implicit y l) next)
              (next_slot next (implicit y l)) x (implicit_variable l next) here
              ∙ ap (λ z. Some (implicit_variable z next)) same,
        )
    cases false b i r = r (meaning_new names (declares (implicit y l) next) x n
        ∙ other_word y x (implicit_variable l next) b) i
implicit_meaning (an_item (check a op b) is) h names next c f x n k i =
    let p = clean_both (item_nodes (check a op b) (at h (check a op b)) (h.fields ++ h.inner)) _ c in
    implicit_meaning is (nodes.next h (check a op b)) (names ++ declares (check a op b) next)
    (next_slot next (check a op b)) p.1
    (fields_more names h.fields (check a op b) next f) x (meaning_new names [] x n) k i
implicit_meaning (an_item (explicit None t) is) h names next c f x n k i =
    let p = clean_both (item_nodes (explicit None t) (at h (explicit None t)) (h.fields ++ h.inner)) _ c in
    implicit_meaning is (nodes.next h (explicit None t)) (names ++ declares (explicit None t) next)
    (next_slot next (explicit None t)) p.1
    (fields_more names h.fields (explicit None t) next f) x (meaning_new names [] x n) k i
implicit_meaning (an_item (explicit (Some y) t) is) h names next c f x n k i =
    let p = clean_both (item_nodes (explicit (Some y) t) (at h (explicit (Some y) t)) (h.fields ++ h.inner)) _ c in
    cases (bytes_eq y x) refl
    (λ m. none_later is (nodes.next h (explicit (Some y) t)) p.1 x (among_right h.fields (y ∷ []) x m))
    (λ m. implicit_meaning is (nodes.next h (explicit (Some y) t)) (names ++ declares (explicit (Some y) t) next)
    (next_slot next (explicit (Some y) t)) p.1 (fields_more names h.fields (explicit (Some y) t) next f) x m k i)
  where
    cases : (b : Bool) → bytes_eq y x ≡ b → (is_among (y ∷ []) x ≡ true → implicit_kind is x ≡ None)
        → (meaning (names ++ declares (explicit (Some y) t) next) x ≡ None
        → (v : ℕ) × (meaning (names_after (an_item (explicit (Some y) t) is) names next) x ≡ Some
        (implicit_variable k v)))
        → (v : ℕ) × (meaning (names_after (an_item (explicit (Some y) t) is) names next) x ≡ Some
        (implicit_variable k v))
    cases true b none r =
        let same : y ≡ x = (bytes_eq-Decides y x).0 b in
        let one : is_among (y ∷ []) x ≡ true = ap (λ b. b || false) ((bytes_eq-Decides x y).1 (sym same)) in
        let bad : None ≡ Some k = sym (none one) ∙ i in cc
    cases false b none r = r (meaning_new names (declares (explicit (Some y) t) next) x n ∙ other_word y x _ b)

-- ---- inputs and outputs by their parameters

-- what is to be shown of the items of a constructor: what their variables stand for at the end
abbrev Implicits : ItemList → Names → Type 0
Implicits is end = (x : Word) (k : ParamKind) → implicit_kind is x ≡ Some k → (v : ℕ)
    × (meaning end x ≡ Some (implicit_variable k v))

alone_parameter : (o : Option ParamKind) → has_kind (kind_alone o) ≡ true → (k : ParamKind) × (o ≡ Some k)
alone_parameter None h = cc
alone_parameter (Some k) h = (k, refl)

-- an implicit variable alone
named_parameter : (is : ItemList) (end : Names) → Implicits is end → (x : Word) (ps : List Parameter)
    (ins : List Input) (outs : List Expr)
    → has_kind (kind_alone (implicit_kind is x)) ≡ true → AreParameters ps ins outs
    → AreParameters (parameter_of (kind_alone (implicit_kind is x)) ∷ ps) (variable_input (meaning end x) ++ ins) outs
named_parameter is end im x ps ins outs h r = cases (implicit_kind is x) refl h
  where
    cases : (o : Option ParamKind) → implicit_kind is x ≡ o → has_kind (kind_alone o) ≡ true
        → AreParameters (parameter_of (kind_alone (implicit_kind is x)) ∷ ps)
        (variable_input (meaning end x) ++ ins) outs
    cases None i h = cc
    cases (Some Nat) i h =
        let w = im x Nat i in
        let P : Option ParamKind → Type 0 = λ o. AreParameters (parameter_of (kind_alone o) ∷ ps)
        (variable_input (meaning end x) ++ ins) outs in
        let Q : Option Variable → Type 0 = λ o. AreParameters (core.number_in ∷ ps) (variable_input o ++ ins) outs in
        subst P (sym i) (subst Q (sym w.1) r)
    cases (Some Ty) i h =
        let w = im x Ty i in
        let P : Option ParamKind → Type 0 = λ o. AreParameters (parameter_of (kind_alone o) ∷ ps)
        (variable_input (meaning end x) ++ ins) outs in
        let Q : Option Variable → Type 0 = λ o. AreParameters (core.type_in ∷ ps) (variable_input o ++ ins) outs in
        subst P (sym i) (subst Q (sym w.1) r)

-- an implicit number with a literal
sum_parameter : (is : ItemList) (end : Names) → Implicits is end → (a b : ExprView) (ps : List Parameter)
    (ins : List Input) (outs : List Expr)
    → has_kind (kind_of is (plus a b)) ≡ true → AreParameters ps ins outs
    → AreParameters (parameter_of (kind_of is (plus a b)) ∷ ps)
    (sum_input (named_number end (bare_name a)) (literal_of b) ++ ins) outs
sum_parameter is end im a b ps ins outs h r = cases (is_literal b) (bare_name a) refl refl h
  where
    number : (x : Word) → bare_name a ≡ Some x → (o : Option ParamKind) → implicit_kind is x ≡ o
        → has_kind (kind_in_sum o) ≡ true
        → AreParameters (parameter_of (kind_in_sum o) ∷ ps)
        (sum_input (named_number end (bare_name a)) (literal_of b) ++ ins) outs
    number x j None i h = cc
    number x j (Some Ty) i h = cc
    number x j (Some Nat) i h =
        let w = im x Nat i in
        let slot : named_number end (bare_name a) ≡ Some w.0 = ap (named_number end) j ∙ ap number_slot w.1 in
        let Q : Option ℕ → Type 0 = λ o. AreParameters (core.number_in ∷ ps) (sum_input o (literal_of b) ++ ins) outs in
        subst Q (sym slot) r

    cases : (l : Bool) (o : Option Word) → is_literal b ≡ l → bare_name a ≡ o → has_kind (kind_of is (plus a b)) ≡ true
        → AreParameters (parameter_of (kind_of is (plus a b)) ∷ ps)
        (sum_input (named_number end (bare_name a)) (literal_of b) ++ ins) outs
    cases false o i j h =
        let e : kind_of is (plus a b) ≡ NoKind = ap (λ l. kind_of_sum is (cond l (bare_name a) None)) i in
        let bad : false ≡ true = sym (ap has_kind e) ∙ h in cc
    cases true None i j h =
        let e : kind_of is (plus a b) ≡ NoKind = ap (λ l. kind_of_sum is (cond l (bare_name a) None)) i
        ∙ ap (kind_of_sum is) j in
        let bad : false ≡ true = sym (ap has_kind e) ∙ h in cc
    cases true (Some x) i j h =
        let e : kind_of is (plus a b) ≡ kind_in_sum (implicit_kind is x) =
        ap (λ l. kind_of_sum is (cond l (bare_name a) None)) i ∙ ap (kind_of_sum is) j in
        let P : TermKind → Type 0 = λ k. AreParameters (parameter_of k ∷ ps)
        (sum_input (named_number end (bare_name a)) (literal_of b) ++ ins) outs in
        subst P (sym e) (number x j (implicit_kind is x) refl (sym (ap has_kind e) ∙ h))

pub are_parameters : (is : ItemList) (end : Names) → Implicits is end → (es : ExprList) → HaveKinds is es
    → AreParameters (parameters_of (kinds_of_exprs is es)) (inputs_of end es) (outputs_of end es)
are_parameters is end im no_exprs h = tt
are_parameters is end im (an_expr (out e) es) h = are_parameters is end im es h.1
are_parameters is end im (an_expr (lit n) es) h = are_parameters is end im es h.1
are_parameters is end im (an_expr (named x no_exprs) es) h =
    named_parameter is end im x _ _ _ h.0 (are_parameters is end im es h.1)
are_parameters is end im (an_expr (named x (an_expr f fs)) es) h = let b : false ≡ true = h.0 in cc
are_parameters is end im (an_expr (plus a b) es) h = sum_parameter is end im a b _ _ _ h.0
    (are_parameters is end im es h.1)
are_parameters is end im (an_expr nat32 es) h = let b : false ≡ true = h.0 in cc
are_parameters is end im (an_expr (bits fs) es) h = let b : false ≡ true = h.0 in cc
are_parameters is end im (an_expr (below fs) es) h = let b : false ≡ true = h.0 in cc
are_parameters is end im (an_expr (up_to fs) es) h = let b : false ≡ true = h.0 in cc
are_parameters is end im (an_expr (star a b) es) h = let b : false ≡ true = h.0 in cc
are_parameters is end im (an_expr (ref e) es) h = let b : false ≡ true = h.0 in cc
are_parameters is end im (an_expr (group js) es) h = let b : false ≡ true = h.0 in cc
