-- Implicit fields at the ends of their records, part by part.
use Rattle.std.proofs.Common.{◌≡◌, ◌∙◌, ap, sym, subst, refl, ℕ, zero, suc, ◌<◌, ◌≤◌, ◌+◌, length, get_or, drop, append_assoc, add-one, arith, rules, inl, inr, ◌⊎◌}
use Rattle.std.specs.Prelude.{List, [], ◌∷◌, ◌++◌, map, not, Bool, true, false, Option, Some, None, if◌then◌else◌, MatchOption}
use Rattle.std.proofs.lemmas.List.{append-nil, at_drop_all, at_drop_more, length_push, map-append, same_from_push}
use Rattle.tlb_syntax.specs.declared.tree.Expr.{Expr, the_lemmas}
use Rattle.tlb_syntax.specs.declared.tree.Expr.TheVariants.{Lit, Nat32, Sum}
use Rattle.tlb_syntax.specs.declared.tree.Item.{Item}
use Rattle.tlb_syntax.specs.Limits.{AreExprs, AreItems, IsExpr, IsItem, item_count}
use Rattle.tlb_syntax.specs.Tree.{ExprView, SchemaView, lit, nat32, plus, nested, exprs_of}
use Rattle.tlb_syntax.specs.View.{expr, exprs, item, items}
use Rattle.field_path.specs.declared.part.Part.{Part}
use Rattle.kind_terms.specs.Words.{Word, is_among}
use Rattle.kind_declarations.specs.declared.error.Cause.{Cause}
use Rattle.kind_declarations.specs.declared.error.Cause.TheVariants.{Undetermined}
use Rattle.kind_terms.specs.declared.shown.Shown.{Shown}
use Rattle.kind_declarations.specs.EndingViews.{endings_at}
use Rattle.kind_declarations.specs.Faults.{fault_at, first, verdict}
use Rattle.kind_rules.specs.Known.{Ending, is_never_known}
use Rattle.kind_terms.specs.ViewLaws.{seen_sum}
use Rattle.kind_terms.specs.Positions.{ItemPosition, next_position, path_at}
use Rattle.kind_declarations.specs.Nodes.{an_ending, arg_endings, expr_endings, ending_at, item_endings, judged, record_endings}
use Rattle.kind_terms.specs.Views.{part_by}
use Rattle.kind_declarations.proofs.JudgedParts.{node_passes, node_stops}
use Rattle.kind_declarations.proofs.Verdicts.{verdict_none}

-- ---- sums

endings_of_nested : (t : ExprView) (us : List ExprView) (types : SchemaView) (path : List Part)
    → expr_endings (nested t us) types path ≡ expr_endings t types path ++ arg_endings (exprs_of us) types path
endings_of_nested t [] types path = sym (append-nil (expr_endings t types path))
endings_of_nested t (u ∷ us) types path =
    endings_of_nested (plus t u) us types path
    ∙ append_assoc (expr_endings t types path) (expr_endings u types path) (arg_endings (exprs_of us) types path)

pub endings_of_sum : (e a b x y : Expr) (es us : List Expr) (types : SchemaView) (path : List Part)
    → e ≡ Sum a b es → x ≡ a → y ≡ b → us ≡ es
    → expr_endings (expr e) types path
    ≡ expr_endings (expr x) types path ++ (expr_endings (expr y) types path ++ arg_endings (exprs us) types path)
endings_of_sum e a b x y es us types path is left right rest =
    let same : e ≡ Sum x y us = is ∙ ap (λ z. Sum z b es) (sym left) ∙ ap (λ z. Sum x z es) (sym right) ∙ ap (Sum x y) (sym rest) in
    ap (λ v. expr_endings v types path) (seen_sum e x y us same)
    ∙ endings_of_nested (plus (expr x) (expr y)) (map expr us) types path
    ∙ append_assoc (expr_endings (expr x) types path) (expr_endings (expr y) types path) (arg_endings (exprs us) types path)

sized_nested : (t : ExprView) (us : List ExprView) → IsExpr (nested t us) → IsExpr t × AreExprs (exprs_of us)
sized_nested t [] h = (h, tt)
sized_nested t (u ∷ us) h = let both = sized_nested (plus t u) us h in (both.0.0, (both.0.1, both.1))

pub sized_sum : (e a b : Expr) (es : List Expr) → e ≡ Sum a b es → IsExpr (expr e)
    → (IsExpr (expr a) × IsExpr (expr b)) × AreExprs (exprs es)
sized_sum e a b es is h = sized_nested (plus (expr a) (expr b)) (map expr es) (subst IsExpr (seen_sum e a b es is) h)

-- ---- sizes

pub count_of_items : (is : List Item) → item_count (items is) ≡ length is
count_of_items [] = refl
count_of_items (i ∷ is) = ap (λ n. n + 1) (count_of_items is) ∙ add-one (length is)

pub item_is_sized : (is : List Item) (k : ℕ) (i : Item) → AreItems (items is) → k < length is → i ≡ get_or is k i → IsItem (item i)
item_is_sized [] k i h within at = absurd (omega arith)
item_is_sized (j ∷ is) zero i h within at = subst (λ (x : Item). IsItem (item x)) (sym at) h.0
item_is_sized (j ∷ is) (suc k) i h within at = item_is_sized is k i h.1 (omega arith) at

pub expr_is_sized : (es : List Expr) (k : ℕ) (e : Expr) → AreExprs (exprs es) → k < length es → e ≡ get_or es k e → IsExpr (expr e)
expr_is_sized [] k e h within at = absurd (omega arith)
expr_is_sized (d ∷ es) zero e h within at = subst (λ (x : Expr). IsExpr (expr x)) (sym at) h.0
expr_is_sized (d ∷ es) (suc k) e h within at = expr_is_sized es k e h.1 (omega arith) at

-- ---- expressions one by one

pub args_turn : (es : List Expr) (k : ℕ) (e : Expr) (types : SchemaView) (path : List Part) → k < length es → e ≡ get_or es k e
    → arg_endings (exprs (drop k es)) types path ≡ expr_endings (expr e) types path ++ arg_endings (exprs (drop (k + 1) es)) types path
args_turn es k e types path within at =
    at_drop_more (λ (x : List Expr). arg_endings (exprs x) types path) es k e within
    ∙ ap (λ x. expr_endings (expr x) types path ++ arg_endings (exprs (drop (k + 1) es)) types path) (sym at)

pub args_end : (es : List Expr) (k : ℕ) (types : SchemaView) (path : List Part) → length es ≤ k
    → verdict (arg_endings (exprs (drop k es)) types path) ≡ None
args_end es k types path h = at_drop_all (λ (x : List Expr). verdict (arg_endings (exprs x) types path)) es k h ∙ verdict_none

-- ---- items one by one

pub items_turn : (is : List Item) (k : ℕ) (i : Item) (types : SchemaView) (p : ItemPosition) (known : List Word) → k < length is → i ≡ get_or is k i
    → record_endings (items (drop k is)) types p known
    ≡ endings_at (item i) types p known ++ record_endings (items (drop (k + 1) is)) types (next_position p (item i)) known
items_turn is k i types p known within at =
    at_drop_more (λ (x : List Item). record_endings (items x) types p known) is k i within
    ∙ ap (λ x. record_endings (items (x ∷ drop (k + 1) is)) types p known) (sym at)
    ∙ sym (append_assoc (ending_at (path_at p (item i)) known (item i)) (item_endings (item i) types (path_at p (item i)))
    (record_endings (items (drop (k + 1) is)) types (next_position p (item i)) known))

pub items_end : (is : List Item) (k : ℕ) (types : SchemaView) (p : ItemPosition) (known : List Word) → length is ≤ k
    → verdict (record_endings (items (drop k is)) types p known) ≡ None
items_end is k types p known h = at_drop_all (λ (x : List Item). verdict (record_endings (items x) types p known)) is k h ∙ verdict_none

pub one_more_at_most : (b : Bool) (n m k : ℕ) → m ≡ (if b then n + 1 else n) → n ≤ k → m ≤ k + 1
one_more_at_most true n m k is h = omega arith
one_more_at_most false n m k is h = omega arith

-- ---- the path

pub pushed_path : (xs : List Shown) (x : Shown) → map part_by (xs ++ x ∷ []) ≡ map part_by xs ++ part_by x ∷ []
pushed_path xs x = map-append part_by xs (x ∷ [])

pub popped : (o : Option Shown) (old pushed new : List Shown) (x : Shown) → pushed ≡ old ++ x ∷ []
    → MatchOption o ((pushed ≡ []) × (new ≡ [])) (λ last. pushed ≡ new ++ last ∷ []) → new ≡ old
popped None old pushed new x is h = absurd (omega (arith, ap length (sym h.0 ∙ is), length_push old x))
popped (Some last) old pushed new x is h = (same_from_push new old last x (sym h ∙ is)).0

-- ---- implicit fields

abbrev ending_cause : Bool → Option Cause
ending_cause never = if never then Some Undetermined else None

first_of_one : (a : Bool) → first (if a then Undetermined ∷ [] else []) ≡ ending_cause a
first_of_one true = refl
first_of_one false = refl

pub known_at_last : (path : List Part) (x : Word) (known : List Word) → true ≡ is_among known x
    → verdict (judged path (an_ending (record { name = x; known = known })) ∷ []) ≡ None
known_at_last path x known h =
    let e : Ending = record { name = x; known = known } in
    node_passes path (an_ending e) [] (first_of_one (is_never_known e) ∙ ap (λ b. ending_cause (not b)) (sym h)) ∙ verdict_none

pub never_known : (path : List Part) (x : Word) (known : List Word) → false ≡ is_among known x
    → verdict (judged path (an_ending (record { name = x; known = known })) ∷ []) ≡ Some (fault_at path Undetermined)
never_known path x known h =
    let e : Ending = record { name = x; known = known } in
    node_stops path (an_ending e) [] Undetermined (first_of_one (is_never_known e) ∙ ap (λ b. ending_cause (not b)) (sym h))

-- ---- expressions without parts

pub no_parts : (e : Expr) (types : SchemaView) (path : List Part) → ((n : ℕ) × (e ≡ Lit n)) ⊎ (e ≡ Nat32)
    → verdict (expr_endings (expr e) types path) ≡ None
no_parts e types path (inl (n, is)) =
    let seen : expr e ≡ lit n = rw is (search (the_lemmas, rules)) in
    ap (λ x. verdict (expr_endings x types path)) seen ∙ verdict_none
no_parts e types path (inr is) =
    let seen : expr e ≡ nat32 = rw is (search (the_lemmas, rules)) in
    ap (λ x. verdict (expr_endings x types path)) seen ∙ verdict_none
