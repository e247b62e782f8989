-- The nodes of arguments in a row, and of the items of a record.
use Rattle.std.proofs.Common.{◌≡◌, ◌<◌, ◌≤◌, ◌+◌, ap, sym, ◌∙◌, refl, arith, ℕ, zero, suc, add-one, subst, Bool, true, false, List, [], ◌∷◌, ◌++◌, map, length, take, drop, get_or}
use Rattle.std.specs.Prelude.{Option, Some, None, Result, Ok, Err, OnOk, if◌then◌else◌}
use Rattle.std.specs.Borrow.{Bor}
use Rattle.std.proofs.Math.Seq.{drop-cons, take-append_seam, take-length, drop-length}
use Rattle.std.proofs.lemmas.List.{drop_all, drop-append-le, take-append-le, length-take, take-append-drop, map-append}
use Rattle.tlb_syntax.specs.declared.tree.Expr.{Expr}
use Rattle.tlb_syntax.specs.declared.tree.Item.{Item}
use Rattle.tlb_syntax.specs.declared.tree.Item.TheVariants.{Check, Explicit}
use Rattle.tlb_syntax.specs.declared.tree.FieldType.{FieldType}
use Rattle.nat_solver.specs.declared.compare.Op.{Op}
use Rattle.kind_terms.specs.Params.{greatest, option_list}
use Rattle.kind_terms.specs.Sought.{sought}
use Rattle.kind_rules.specs.ExpectedKinds.{a_number}
use Rattle.tlb_syntax.specs.Limits.{AreExprs, AreItems, IsExpr, IsItem, item_count}
use Rattle.tlb_syntax.specs.View.{constructor, expr, exprs, field_type, item, items}
use Rattle.tlb_syntax.specs.Tree.{an_expr, explicit, ItemList, ItemView, SchemaView}
use Rattle.field_path.specs.declared.part.Part.{Part}
use Rattle.kind_terms.specs.declared.kind.TermKind.{TermKind}
use Rattle.kind_terms.specs.declared.scope.Binding.{Binding as ProgramBinding}
use Rattle.kind_terms.specs.Words.{Word}
use Rattle.kind_terms.specs.Views.{binding_of}
use Rattle.kind_terms.specs.Scopes.{Binding, Scope, at_end, after, inside, declares, given_out, makes_known, field_names}
use Rattle.kind_declarations.specs.declared.error.Fault.{Fault}
use Rattle.kind_declarations.specs.declared.row.Row.{Row}
use Rattle.kind_declarations.specs.declared.scope.Scope.{Scope as State}
use Rattle.kind_declarations.specs.Nodes.{Judged, RecordContext, arg_nodes, at, expr_nodes, first_inside, item_nodes, expected_argument, name_at, next, record_nodes, type_nodes}
use Rattle.kind_terms.specs.Positions.{is_unnamed}
use Rattle.kind_declarations.specs.Faults.{Judges, verdict}
use Rattle.kind_declarations.specs.Views.{Follows, HasNamed, item_context, after_name, first_by, path_by, record_context, scope_by, scope_of, words}
use Rattle.kind_terms.specs.ViewLaws.{drop_at, drop_end, item_at, item_end, seen_check, seen_explicit}
use Rattle.kind_declarations.proofs.NumberNodes.{append_none, arg_none}
use Rattle.kind_declarations.proofs.Verdicts.{judged_from, passed_then, passed_verdict, refused_then, verdict_none}

-- ---- arguments, those before i seen so far

module _ (es : List Expr) (ks : List TermKind) (i : ℕ) (given : List Word) (d : TermKind) (s s0 : State) (kept : s ≡ s0)
    (gone : verdict (arg_nodes (exprs (drop i es)) (item_context s0) (drop i ks) given) ≡ verdict (arg_nodes (exprs es) (item_context s0) ks [])) where
  arg_step : (e : Expr) → i < length es → i < length ks → e ≡ get_or es i e
      → arg_nodes (exprs (drop i es)) (item_context s0) (drop i ks) given
      ≡ expr_nodes (expr e) (item_context s) (expected_argument (get_or ks i d) given)
      ++ arg_nodes (exprs (drop (i + 1) es)) (item_context s0) (drop (i + 1) ks) (given ++ given_out (get_or ks i d) (expr e))
  arg_step e h k is =
      let more = exprs (drop (i + 1) es) in
      ap (λ x. arg_nodes x (item_context s0) (drop i ks) given) (drop_at es i e h is)
      ∙ ap (λ x. arg_nodes (an_expr (expr e) more) (item_context s0) x given)
      (drop-cons ks i d k ∙ ap (λ n. get_or ks i d ∷ drop n ks) (sym (add-one i)))
      ∙ ap (λ u. expr_nodes (expr e) (item_context u) (expected_argument (get_or ks i d) given)
      ++ arg_nodes more (item_context s0) (drop (i + 1) ks) (given ++ given_out (get_or ks i d) (expr e))) (sym kept)

  pub args_refused : (e : Expr) (g : List Word) (p : List Part) (f : Fault) → i < length es → i < length ks → e ≡ get_or es i e → g ≡ given
      → Judges (expr_nodes (expr e) (item_context s) (expected_argument (get_or ks i d) g)) p (Err f)
      → Judges (arg_nodes (exprs es) (item_context s0) ks []) p (Err f)
  args_refused e g p f h k is same j =
      judged_from _ _ p (Err f) (sym (ap verdict (arg_step e h k is)) ∙ gone)
      (refused_then (expr_nodes (expr e) (item_context s) (expected_argument (get_or ks i d) given)) _ p f
      (judged_from _ _ p (Err f) (ap (λ z. verdict (expr_nodes (expr e) (item_context s) (expected_argument (get_or ks i d) z))) same) j))

  pub args_passed : (e : Expr) (g more : List Word) → i < length es → i < length ks → e ≡ get_or es i e → g ≡ given
      → verdict (expr_nodes (expr e) (item_context s) (expected_argument (get_or ks i d) g)) ≡ None
      → more ≡ given ++ given_out (get_or ks i d) (expr e)
      → verdict (arg_nodes (exprs (drop (i + 1) es)) (item_context s0) (drop (i + 1) ks) more) ≡ verdict (arg_nodes (exprs es) (item_context s0) ks [])
  args_passed e g more h k is same j out =
      ap (λ m. verdict (arg_nodes (exprs (drop (i + 1) es)) (item_context s0) (drop (i + 1) ks) m)) out
      ∙ sym (ap verdict (arg_step e h k is)
      ∙ passed_verdict (expr_nodes (expr e) (item_context s) (expected_argument (get_or ks i d) given)) (arg_nodes (exprs (drop (i + 1) es)) (item_context s0) (drop (i + 1) ks) (given ++ given_out (get_or ks i d) (expr e)))
      (sym (ap (λ z. verdict (expr_nodes (expr e) (item_context s) (expected_argument (get_or ks i d) z))) same) ∙ j))
      ∙ gone

pub args_end : (es : List Expr) (ks : List TermKind) (i : ℕ) (given : List Word) (s0 : State)
    → verdict (arg_nodes (exprs (drop i es)) (item_context s0) (drop i ks) given) ≡ verdict (arg_nodes (exprs es) (item_context s0) ks [])
    → length es ≤ i → verdict (arg_nodes (exprs es) (item_context s0) ks []) ≡ None
args_end es ks i given s0 gone h =
    sym gone ∙ ap (λ x. verdict (arg_nodes x (item_context s0) (drop i ks) given)) (drop_end es i h) ∙ verdict_none

pub args_end_kinds : (es : List Expr) (ks : List TermKind) (i : ℕ) (given : List Word) (s0 : State)
    → verdict (arg_nodes (exprs (drop i es)) (item_context s0) (drop i ks) given) ≡ verdict (arg_nodes (exprs es) (item_context s0) ks [])
    → length ks ≤ i → verdict (arg_nodes (exprs es) (item_context s0) ks []) ≡ None
args_end_kinds es ks i given s0 gone h =
    sym gone ∙ ap (λ x. verdict (arg_nodes (exprs (drop i es)) (item_context s0) x given)) (drop_all i ks h)
    ∙ ap verdict (arg_none (exprs (drop i es)) (item_context s0) given) ∙ verdict_none

-- ---- what the limits say of one of several

pub is_expr_at : (es : List Expr) (i : ℕ) (e : Expr) → i < length es → e ≡ get_or es i e → AreExprs (exprs es) → IsExpr (expr e)
is_expr_at [] i e h is all = absurd (omega arith)
is_expr_at (x ∷ xs) zero e h is all = subst (λ y. IsExpr (expr y)) (sym is) all.0
is_expr_at (x ∷ xs) (suc i) e h is all = is_expr_at xs i e (omega arith) is all.1

pub is_item_at : (is : List Item) (i : ℕ) (x : Item) → i < length is → x ≡ get_or is i x → AreItems (items is) → IsItem (item x)
is_item_at [] i x h at all = absurd (omega arith)
is_item_at (y ∷ ys) zero x h at all = subst (λ z. IsItem (item z)) (sym at) all.0
is_item_at (y ∷ ys) (suc i) x h at all = is_item_at ys i x (omega arith) at all.1

pub count_of_items : (is : List Item) → item_count (items is) ≡ length is
count_of_items [] = refl
count_of_items (x ∷ xs) = omega (arith, count_of_items xs)

-- ---- the items of a record, those before i seen so far

module _ (is : List Item) (i : ℕ) (s s0 : State) (r : Row) (x : Item) (lt : i < length is) (this : x ≡ get_or is i x) where
  record_step : record_nodes (items (drop i is)) (record_context s r)
      ≡ item_nodes (item x) (at (record_context s r) (item x)) (words s.fields ++ words r.inside)
      ++ record_nodes (items (drop (i + 1) is)) (next (record_context s r) (item x))
  record_step = ap (λ y. record_nodes y (record_context s r)) (item_at is i x lt this)

  pub items_refused : (p : List Part) (f : Fault)
      → verdict (record_nodes (items (drop i is)) (record_context s r)) ≡ verdict (record_nodes (items is) (first_by s0))
      → Judges (item_nodes (item x) (at (record_context s r) (item x)) (words s.fields ++ words r.inside)) p (Err f)
      → Judges (record_nodes (items is) (first_by s0)) p (Err f)
  items_refused p f gone j =
      judged_from _ _ p (Err f) (sym (ap verdict record_step) ∙ gone)
      (refused_then (item_nodes (item x) (at (record_context s r) (item x)) (words s.fields ++ words r.inside)) _ p f j)

  pub items_passed : (t : State) (q : Row)
      → verdict (record_nodes (items (drop i is)) (record_context s r)) ≡ verdict (record_nodes (items is) (first_by s0))
      → verdict (item_nodes (item x) (at (record_context s r) (item x)) (words s.fields ++ words r.inside)) ≡ None
      → record_context t q ≡ next (record_context s r) (item x)
      → verdict (record_nodes (items (drop (i + 1) is)) (record_context t q)) ≡ verdict (record_nodes (items is) (first_by s0))
  items_passed t q gone j after =
      ap (λ h. verdict (record_nodes (items (drop (i + 1) is)) h)) after
      ∙ sym (ap verdict record_step
      ∙ passed_verdict (item_nodes (item x) (at (record_context s r) (item x)) (words s.fields ++ words r.inside)) (record_nodes (items (drop (i + 1) is)) (next (record_context s r) (item x))) j)
      ∙ gone

  pub scope_passed : (t : State) (q : Row)
      → at_end (scope_by s) (items (drop i is)) ≡ at_end (scope_by s0) (items is)
      → record_context t q ≡ next (record_context s r) (item x)
      → at_end (scope_by t) (items (drop (i + 1) is)) ≡ at_end (scope_by s0) (items is)
  scope_passed t q gone after =
      ap (λ h. at_end h.scope (items (drop (i + 1) is))) after
      ∙ sym (ap (at_end (scope_by s)) (item_at is i x lt this))
      ∙ gone

pub items_end : (is : List Item) (i : ℕ) (s s0 : State) (r : Row)
    → verdict (record_nodes (items (drop i is)) (record_context s r)) ≡ verdict (record_nodes (items is) (first_by s0))
    → length is ≤ i → verdict (record_nodes (items is) (first_by s0)) ≡ None
items_end is i s s0 r gone h =
    sym gone ∙ ap (λ y. verdict (record_nodes y (record_context s r))) (item_end is i h) ∙ verdict_none

pub place_passed : (s t : State) (r q : Row) (i : ItemView) → record_context t q ≡ next (record_context s r) i → q.place ≡ r.place + 1
place_passed s t r q i after = ap (λ h. h.place.number) after

unnamed_bound : (b : Bool) (n : ℕ) → (if b then n + 1 else n) ≤ n + 1
unnamed_bound true n = omega arith
unnamed_bound false n = omega arith

pub unnamed_passed : (s t : State) (r q : Row) (i : ItemView) → record_context t q ≡ next (record_context s r) i → q.unnamed ≤ r.unnamed + 1
unnamed_passed s t r q i after = rw (ap (λ h. h.place.unnamed) after) (unnamed_bound (is_unnamed i) r.unnamed)

-- ---- later states

front_longer : {X : Type 0} (xs ys : List X) → take (length xs) ys ≡ xs → length xs ≤ length ys
front_longer xs ys h = omega (arith, length-take (length xs) ys, ap length h)

front_trans : {X : Type 0} (xs ys zs : List X) → take (length xs) ys ≡ xs → take (length ys) zs ≡ ys → take (length xs) zs ≡ xs
front_trans xs ys zs h k =
    let front : take (length xs) (take (length ys) zs ++ drop (length ys) zs) ≡ take (length xs) (take (length ys) zs) =
    take-append-le (length xs) (take (length ys) zs) (drop (length ys) zs) (omega (arith, front_longer xs ys h, ap length k)) in
    sym (ap (take (length xs)) (take-append-drop (length ys) zs)) ∙ front ∙ ap (take (length xs)) k ∙ h

pub follows_trans : (s t u : State) → Follows s t → Follows t u → Follows s u
follows_trans s t u f g = record {
  same = g.same ∙ ap (λ (v : State). record v { bindings = u.bindings; known = u.known; fields = u.fields }) f.same;
  bindings = front_trans s.bindings t.bindings u.bindings f.bindings g.bindings;
  known = front_trans s.known t.known u.known f.known g.known;
  fields = front_trans s.fields t.fields u.fields f.fields g.fields;
}

pub around_follows : (s t : State) → Follows s t → s.around ≤ length s.bindings → t.around ≤ length t.bindings
around_follows s t f h = omega (arith, ap (λ (v : State). v.around) f.same, front_longer s.bindings t.bindings f.bindings)

-- ---- the first item of a record inside

bindings_inside : (types : SchemaView) (es : List ProgramBinding) (a : ℕ) (inputs known : List Word)
    → scope_of types es (length es) [] known ≡ inside (scope_of types es a inputs known)
unfolding scope_of
bindings_inside types es a inputs known =
    let seen : List Binding → List Binding → Scope = λ xs ys.
    record { types = types; around = xs; own = ys; inputs = []; known = known } in
    ap (λ xs. seen (map binding_of xs) (map binding_of (drop (length es) es))) (take-length es)
    ∙ ap (λ xs. seen (map binding_of es) (map binding_of xs)) (drop-length es)
    ∙ ap (λ xs. seen xs [])
    (sym (ap (map binding_of) (take-append-drop a es)) ∙ map-append binding_of (take a es) (drop a es))

pub first_of_inner : (s : State) (n : ℕ) (none : Bor (List (Bor Word))) → n ≡ length s.bindings → none.now ≡ []
    → first_by (record s { around = n; inputs = none }) ≡ first_inside (item_context s)
first_of_inner s n none is empty =
    let first : Scope → RecordContext = λ c. record { place = (first_by s).place; scope = c; fields = words s.fields; inner = [] } in
    let types = map constructor s.types.now in
    ap (λ k. first (scope_of types s.bindings k (words none.now) (words s.known))) is
    ∙ ap (λ g. first (scope_of types s.bindings (length s.bindings) (words g) (words s.known))) empty
    ∙ ap first (bindings_inside types s.bindings s.around (words s.inputs.now) (words s.known))

-- ---- after an item

pub after_seen : (types : SchemaView) (es xs : List ProgramBinding) (a : ℕ) (inputs known more : List Word) (i : ItemView)
    → a ≤ length es → map binding_of xs ≡ declares i → more ≡ known ++ makes_known types inputs i
    → scope_of types (es ++ xs) a inputs more ≡ after (scope_of types es a inputs known) i
unfolding scope_of
after_seen types es xs a inputs known more i h own new =
    let seen : List Binding → List Binding → List Word → Scope = λ around here now.
    record { types = types; around = around; own = here; inputs = inputs; known = now } in
    ap (λ ys. seen (map binding_of ys) (map binding_of (drop a (es ++ xs))) more) (take-append-le a es xs h)
    ∙ ap (λ ys. seen (map binding_of (take a es)) ys more)
    (ap (map binding_of) (drop-append-le a es xs h) ∙ map-append binding_of (drop a es) xs ∙ ap (λ z. map binding_of (drop a es) ++ z) own)
    ∙ ap (seen (map binding_of (take a es)) (map binding_of (drop a es) ++ declares i)) new

-- ---- after the name of an item

pub named_one : (s t : State) (x : Bor Word) (i : ItemView) → x.now ∷ [] ≡ field_names i
    → t ≡ record s { fields = s.fields ++ x ∷ [] } → HasNamed s t i
named_one s t x i name is = record {
  same = is ∙ ap (λ xs. record s { fields = xs }) (sym (ap (λ (v : State). v.fields) is));
  names = ap (λ (v : State). words v.fields) is ∙ map-append (λ y. y.now) s.fields (x ∷ []) ∙ ap (λ z. words s.fields ++ z) name;
  fields = ap (λ (v : State). take (length s.fields) v.fields) is ∙ take-append_seam s.fields (x ∷ []);
}

pub named_none : (s t : State) (i : ItemView) → [] ≡ field_names i → t ≡ s → HasNamed s t i
named_none s t i name is = record {
  same = is ∙ ap (λ xs. record s { fields = xs }) (sym (ap (λ (v : State). v.fields) is));
  names = ap (λ (v : State). words v.fields) is ∙ sym (append_none (words s.fields)) ∙ ap (λ z. words s.fields ++ z) name;
  fields = ap (λ (v : State). take (length s.fields) v.fields) is ∙ take-length s.fields;
}

pub ok_named_one : {E : Type 0} (r : Result (Unit {0}) E) (s t : State) (x : Bor Word) (i : ItemView) → x.now ∷ [] ≡ field_names i
    → OnOk r (t ≡ record s { fields = s.fields ++ x ∷ [] }) → OnOk r (HasNamed s t i)
ok_named_one (Ok u) s t x i name is = named_one s t x i name is
ok_named_one (Err e) s t x i name is = is

pub ok_named_none : {E : Type 0} (r : Result (Unit {0}) E) (s t : State) (i : ItemView) → [] ≡ field_names i
    → OnOk r (t ≡ s) → OnOk r (HasNamed s t i)
ok_named_none (Ok u) s t i name is = named_none s t i name is
ok_named_none (Err e) s t i name is = is

pub ok_named_then : {E : Type 0} (r : Result (Unit {0}) E) (s m t : State) (x : Bor Word) (i : ItemView) → x.now ∷ [] ≡ field_names i
    → m ≡ record s { fields = s.fields ++ x ∷ [] } → OnOk r (t ≡ m) → OnOk r (HasNamed s t i)
ok_named_then (Ok u) s m t x i name is same = named_one s t x i name (same ∙ is)
ok_named_then (Err e) s m t x i name is same = same

pub on_ok_always : {E : Type 0} {P : Type 0} (r : Result (Unit {0}) E) → P → OnOk r P
on_ok_always (Ok u) h = h
on_ok_always (Err e) h = tt

pub inner_judged : (s : State) (n : ℕ) (none : Bor (List (Bor Word))) (is : ItemList) (p : List Part) (r : Result (Unit {0}) Fault)
    → n ≡ length s.bindings → none.now ≡ []
    → Judges (record_nodes is (first_by (record s { around = n; inputs = none }))) p r
    → Judges (record_nodes is (first_inside (item_context s))) p r
inner_judged s n none is p r len empty j =
    judged_from _ _ p r (ap (λ h. verdict (record_nodes is h)) (first_of_inner s n none len empty)) j

-- ---- one item

pub no_name : (i : Item) (x : Option Word) (t : FieldType) → i ≡ Explicit x t → x ≡ None → [] ≡ field_names (item i)
no_name i x t is none = sym (ap field_names (seen_explicit i x t is) ∙ ap option_list none)

pub one_name : (i : Item) (x : Option Word) (n : Word) (t : FieldType) → i ≡ Explicit x t → x ≡ Some n → n ∷ [] ≡ field_names (item i)
one_name i x n t is some = sym (ap field_names (seen_explicit i x t is) ∙ ap option_list some)

check_nodes : (s : State) (i : Item) (x : Expr) (op : Op) (y : Expr) (q : Option Word) (others : List Word)
    → i ≡ Check x op y → q ≡ sought (expr x) op (expr y)
    → expr_nodes (expr x) (item_context s) (Some (a_number greatest q)) ++ expr_nodes (expr y) (item_context s) (Some (a_number greatest q))
    ≡ item_nodes (item i) (after_name s (item i)) others
check_nodes s i x op y q others is unknown =
    let both : List Word → Option Word → List Judged = λ fs z.
    expr_nodes (expr x) (record { path = path_by s; scope = scope_by s; fields = fs }) (Some (a_number greatest z))
    ++ expr_nodes (expr y) (record { path = path_by s; scope = scope_by s; fields = fs }) (Some (a_number greatest z)) in
    ap (λ z. both (words s.fields) z) unknown
    ∙ ap (λ fs. both fs (sought (expr x) op (expr y))) (sym (append_none (words s.fields)))
    ∙ sym (ap (λ v. item_nodes v (after_name s v) others) (seen_check i x op y is))

pub check_refused : (s : State) (i : Item) (x : Expr) (op : Op) (y : Expr) (q : Option Word) (others : List Word) (p : List Part) (f : Fault)
    → i ≡ Check x op y → q ≡ sought (expr x) op (expr y)
    → Judges (expr_nodes (expr x) (item_context s) (Some (a_number greatest q))) p (Err f)
    → Judges (item_nodes (item i) (after_name s (item i)) others) p (Err f)
check_refused s i x op y q others p f is unknown j =
    judged_from _ _ p (Err f) (ap verdict (check_nodes s i x op y q others is unknown))
    (refused_then (expr_nodes (expr x) (item_context s) (Some (a_number greatest q))) (expr_nodes (expr y) (item_context s) (Some (a_number greatest q))) p f j)

pub check_passed : (s : State) (i : Item) (x : Expr) (op : Op) (y : Expr) (q : Option Word) (others : List Word) (p : List Part)
    (r : Result (Unit {0}) Fault) → i ≡ Check x op y → q ≡ sought (expr x) op (expr y)
    → verdict (expr_nodes (expr x) (item_context s) (Some (a_number greatest q))) ≡ None
    → Judges (expr_nodes (expr y) (item_context s) (Some (a_number greatest q))) p r
    → Judges (item_nodes (item i) (after_name s (item i)) others) p r
check_passed s i x op y q others p r is unknown h j =
    judged_from _ _ p r (ap verdict (check_nodes s i x op y q others is unknown))
    (passed_then (expr_nodes (expr x) (item_context s) (Some (a_number greatest q))) (expr_nodes (expr y) (item_context s) (Some (a_number greatest q))) p r h j)

explicit_seen : (s : State) (i : Item) (x : Option Word) (n : Word) (t : FieldType) (others : List Word) → i ≡ Explicit x t → x ≡ Some n
    → name_at (path_by s) others (Some n) ++ type_nodes (field_type t) (record { path = path_by s; scope = scope_by s; fields = words s.fields ++ n ∷ [] })
    ≡ item_nodes (item i) (after_name s (item i)) others
explicit_seen s i x n t others is some =
    sym (ap (λ v. item_nodes v (after_name s v) others) (seen_explicit i x t is ∙ ap (λ z. explicit z (field_type t)) some))

pub explicit_refused : (s : State) (i : Item) (x : Option Word) (n : Word) (t : FieldType) (others : List Word) (p : List Part) (f : Fault)
    → i ≡ Explicit x t → x ≡ Some n → Judges (name_at (path_by s) others (Some n)) p (Err f)
    → Judges (item_nodes (item i) (after_name s (item i)) others) p (Err f)
explicit_refused s i x n t others p f is some j =
    judged_from _ _ p (Err f) (ap verdict (explicit_seen s i x n t others is some)) (refused_then (name_at (path_by s) others (Some n)) _ p f j)

pub explicit_passed : (s m : State) (i : Item) (x : Option Word) (n : Bor Word) (t : FieldType) (others : List Word) (p : List Part)
    (r : Result (Unit {0}) Fault) → i ≡ Explicit x t → x ≡ Some n.now → m ≡ record s { fields = s.fields ++ n ∷ [] }
    → verdict (name_at (path_by s) others (Some n.now)) ≡ None → Judges (type_nodes (field_type t) (item_context m)) p r
    → Judges (item_nodes (item i) (after_name s (item i)) others) p r
explicit_passed s m i x n t others p r is some added h j =
    let seen : item_context m ≡ record { path = path_by s; scope = scope_by s; fields = words s.fields ++ n.now ∷ [] } =
    ap item_context added
    ∙ ap (λ fs. record { path = path_by s; scope = scope_by s; fields = fs }) (map-append (λ y. y.now) s.fields (n ∷ [])) in
    judged_from _ _ p r (ap verdict (explicit_seen s i x n.now t others is some))
    (passed_then (name_at (path_by s) others (Some n.now)) _ p r h
    (judged_from _ _ p r (ap (λ a. verdict (type_nodes (field_type t) a)) seen) j))

-- ---- after an item, in the state

abbrev pub IsAdded : List ProgramBinding → List ProgramBinding → ItemView → Type 0
IsAdded es more i = (xs : List ProgramBinding) × (more ≡ es ++ xs) × (map binding_of xs ≡ declares i)

pub added_scope : (types : SchemaView) (es more : List ProgramBinding) (a : ℕ) (inputs known new : List Word) (i : ItemView)
    → a ≤ length es → IsAdded es more i → new ≡ known ++ makes_known types inputs i
    → scope_of types more a inputs new ≡ after (scope_of types es a inputs known) i
added_scope types es more a inputs known new i h added is =
    ap (λ z. scope_of types z a inputs new) added.1 ∙ after_seen types es added.0 a inputs known new i h added.2 is

pub added_front : (es more : List ProgramBinding) (i : ItemView) → IsAdded es more i → take (length es) more ≡ es
added_front es more i added = ap (take (length es)) added.1 ∙ take-append_seam es added.0
