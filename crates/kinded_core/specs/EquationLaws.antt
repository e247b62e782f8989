-- Constraints of which no cause holds: an equation that seeks a variable has its slot as the one unknown of its
-- sides, and
-- the sides of any other constraint are numbers.
use Rattle.std.proofs.Common.{◌≡◌, ℕ, List, [], ◌∷◌, ◌++◌, map, Option, Some, None, Bool, true, false, not, ◌&&◌, ◌==◌}
use Rattle.std.proofs.Common.{refl, sym, ap, ◌∙◌, subst, inl, inr, ◌⊎◌, cond}
use Rattle.std.specs.Prelude.{filter, nat_eq}
use Rattle.std.specs.List.{list_any}
use Rattle.std.proofs.lemmas.Bool.{or_parts}
use Rattle.std.proofs.lemmas.List.Folds.{list_any-append}
use Rattle.nat_solver.specs.Number.{Expr, unknowns, cancelled, is_empty}
use Rattle.nat_solver.specs.Number as num
use Rattle.nat_solver.specs.declared.compare.Op.{Op}
use Rattle.nat_solver.specs.declared.compare.Op.TheVariants.{Eq, Lt, Le, Gt, Ge}
use Rattle.nat_solver.specs.SolutionLaws.{append_nil}
use Rattle.tlb_syntax.specs.Tree.{ExprView, lit, named, nat32, bits, below, up_to, plus, star, out, ref, group}
use Rattle.tlb_syntax.specs.Tree.{no_exprs, an_expr}
use Rattle.kind_terms.specs.Words.{Word}
use Rattle.kind_terms.specs.Closed.{closed, exact_product, is_zero}
use Rattle.kind_terms.specs.Forms.{parts, is_out}
use Rattle.kind_terms.specs.Params.{bare_name, greatest}
use Rattle.kind_terms.specs.Scopes.{meaning_of, is_number_meaning}
use Rattle.kind_terms.specs.Sought.{sides, only_out_name, unknown_of, holds_out, cancels, occurrences, can_be_sought}
use Rattle.kind_terms.specs.Sought.{sought_if}
use Rattle.kind_terms.specs.Sought.{sought}
use Rattle.kind_rules.specs.ExpectedKinds.{a_number}
use Rattle.kind_declarations.specs.Nodes.{ItemContext, expr_nodes}
use Rattle.core_form.specs.Determined.{Known, is_valued_side}
use Rattle.schema_core.specs.Names.{Names, a_number as numbered, meaning, number_called, number_slot}
use Rattle.schema_core.specs.Numbers.{number_of, side_of, variable_or_none, sought_or_none, product, named_number}
use Rattle.schema_core.specs.Numbers.{only_one}
use Rattle.schema_core.specs.Numbers.{unknown_by}
use Rattle.schema_core.specs.Numbers as core
use Rattle.schema_core.specs.PlainLaws.{plain_number}
use Rattle.kinded_core.specs.Clean.{AreClean, Agrees}
use Rattle.kinded_core.specs.CleanLaws.{CleanUse, clean_use, clean_both}
use Rattle.kinded_core.specs.NumberLaws.{use_of, out_sought, out_meaning, number_variable, number_args, name_set}
use Rattle.kinded_core.specs.NumberLaws.{factor_closed}
use Rattle.kinded_core.specs.NumberLaws.{both_true}

-- ---- the sides have values

product_side : (k : Known) (m n : Option ℕ) (a b : Expr) → is_valued_side k a ≡ true → is_valued_side k b ≡ true
    → (m ≡ None → n ≡ None → ⊥) → is_valued_side k (product m n a b) ≡ true
product_side k (Some m) n a b p q h = q
product_side k None (Some n) a b p q h = p
product_side k None None a b p q h = absurd (h refl refl)

-- the slot of the x of `~x`
out_slot : (e : ExprView) (a : ItemContext) (names : Names) (k : Known) → Agrees a.scope names k → (most : ℕ)
    (q : Option Word)
    → CleanUse (use_of a.scope (a_number most q) (out e)) → (v : ℕ) × (named_number names (bare_name e) ≡ Some v)
out_slot e a names k g most q c =
    let w = out_sought a.scope most q e c in
    let P : ExprView → Type 0 = λ f. CleanUse (use_of a.scope (a_number most q) (out f)) in
    let v = number_variable a.scope names k g w.name (out_meaning a.scope most q w.name (subst P w.is c)) in
    (v.0, ap (λ f. named_number names (bare_name f)) w.is ∙ ap number_slot v.1)

pub side_set : (e : ExprView) (a : ItemContext) (names : Names) (k : Known) → Agrees a.scope names k → (most : ℕ)
    (q : Option Word)
    → AreClean (expr_nodes e a (Some (a_number most q))) → is_valued_side k (side_of names e) ≡ true
side_set (lit n) a names k g most q h = refl
side_set (named x no_exprs) a names k g most q h =
    let w = name_set a.scope names k g most q x (clean_use _ h.0) in
    ap (λ o. is_valued_side k (variable_or_none o)) w.1 ∙ w.2
side_set (named x (an_expr e es)) a names k g most q h = absurd (number_args a.scope most q x e es (clean_use _ h.0))
side_set (plus e f) a names k g most q h =
    let p = clean_both (expr_nodes e a (Some (a_number greatest q))) _ h.1 in
    both_true _ _ (side_set e a names k g greatest q p.0) (side_set f a names k g greatest q p.1)
side_set (star e f) a names k g most q h =
    let p = clean_both (expr_nodes e a (Some (a_number greatest q))) _ h.1 in
    product_side k (closed e) (closed f) _ _ (side_set e a names k g greatest q p.0)
    (side_set f a names k g greatest q p.1)
    (factor_closed e f a most q h)
side_set (out e) a names k g most q h =
    let w = out_slot e a names k g most q (clean_use _ h.0) in ap (λ o. is_valued_side k (sought_or_none o)) w.1
side_set nat32 a names k g most q h = let b : true ≡ false = (clean_use _ h.0).type_for_number in cc
side_set (bits es) a names k g most q h = let b : true ≡ false = (clean_use _ h.0).type_for_number in cc
side_set (below es) a names k g most q h = let b : true ≡ false = (clean_use _ h.0).type_for_number in cc
side_set (up_to es) a names k g most q h = let b : true ≡ false = (clean_use _ h.0).type_for_number in cc
side_set (ref e) a names k g most q h = let b : true ≡ false = (clean_use _ h.0).type_for_number in cc
side_set (group is) a names k g most q h = let b : true ≡ false = (clean_use _ h.0).type_for_number in cc

-- ---- where nothing is sought, a side is a number

product_same : (m n : Option ℕ) (a b c d : Expr) → a ≡ c → b ≡ d → product m n a b ≡ product m n c d
product_same m n a b c d i j = λ t. product m n (i t) (j t)

pub side_is_number : (e : ExprView) (a : ItemContext) (names : Names) (most : ℕ)
    → AreClean (expr_nodes e a (Some (a_number most None))) → side_of names e ≡ number_of names e
side_is_number (lit n) a names most h = refl
side_is_number (named x no_exprs) a names most h = refl
side_is_number (named x (an_expr e es)) a names most h = refl
side_is_number (plus e f) a names most h =
    let p = clean_both (expr_nodes e a (Some (a_number greatest None))) _ h.1 in
    λ i. num.plus (side_is_number e a names greatest p.0 i) (side_is_number f a names greatest p.1 i)
side_is_number (star e f) a names most h =
    let p = clean_both (expr_nodes e a (Some (a_number greatest None))) _ h.1 in
    product_same (closed e) (closed f) _ _ _ _ (side_is_number e a names greatest p.0)
    (side_is_number f a names greatest p.1)
side_is_number (out e) a names most h =
    let w = out_sought a.scope most None e (clean_use _ h.0) in let b : None ≡ Some w.name = w.sought in cc
side_is_number nat32 a names most h = refl
side_is_number (bits es) a names most h = refl
side_is_number (below es) a names most h = refl
side_is_number (up_to es) a names most h = refl
side_is_number (ref e) a names most h = refl
side_is_number (group is) a names most h = refl

either_none : (b : Bool) → cond {A = Option ℕ} b None None ≡ None
either_none true = refl
either_none false = refl

none_sought : (l r : Expr) → unknowns l ≡ [] → unknowns r ≡ [] → core.unknown_of l r ≡ None
none_sought l r i j =
    ap (λ vs. cond (is_empty (cancelled l ++ cancelled r)) (only_one vs) None) (λ t. i t ++ j t)
    ∙ either_none (is_empty (cancelled l ++ cancelled r))

-- a constraint whose sides are judged as numbers is no equation
pub no_unknown : (x : ExprView) (op : Op) (y : ExprView) (a : ItemContext) (names : Names)
    → AreClean (expr_nodes x a (Some (a_number greatest None)))
    → AreClean (expr_nodes y a (Some (a_number greatest None)))
    → unknown_by op (side_of names x) (side_of names y) ≡ None
no_unknown x Eq y a names h i =
    none_sought (side_of names x) (side_of names y)
    (ap unknowns (side_is_number x a names greatest h) ∙ plain_number names x)
    (ap unknowns (side_is_number y a names greatest i) ∙ plain_number names y)
no_unknown x Lt y a names h i = refl
no_unknown x Le y a names h i = refl
no_unknown x Gt y a names h i = refl
no_unknown x Ge y a names h i = refl

-- ---- the unknowns of a side are its `~`

outs_in : ExprView → List ExprView
outs_in e = filter is_out (parts e)

filter_both : (xs ys : List ExprView) → filter is_out (xs ++ ys) ≡ filter is_out xs ++ filter is_out ys
filter_both [] ys = refl
filter_both (x ∷ xs) ys = cases (is_out x) (filter_both xs ys)
  where
    cases : (b : Bool) → filter is_out (xs ++ ys) ≡ filter is_out xs ++ filter is_out ys
        → cond b (x ∷ filter is_out (xs ++ ys)) (filter is_out (xs ++ ys)) ≡ cond b (x ∷ filter is_out xs)
        (filter is_out xs) ++ filter is_out ys
    cases true h = ap (λ zs. x ∷ zs) h
    cases false h = h

-- this slot, as often as `~` stands among the parts
abbrev each_out : ℕ → List ExprView → List ℕ
each_out v es = map (λ (p : ExprView). v) (filter is_out es)

map_both : (v : ℕ) (xs ys : List ExprView) → map (λ (p : ExprView). v)
    (xs ++ ys) ≡ map (λ (p : ExprView). v) xs ++ map (λ (p : ExprView). v) ys
map_both v [] ys = refl
map_both v (x ∷ xs) ys = ap (λ zs. v ∷ zs) (map_both v xs ys)

each_both : (v : ℕ) (xs ys : List ExprView) → each_out v (xs ++ ys) ≡ each_out v xs ++ each_out v ys
each_both v xs ys = ap (map (λ (p : ExprView). v)) (filter_both xs ys) ∙ map_both v (filter is_out xs)
    (filter is_out ys)

closed_has_no_out : (e : ExprView) (n : ℕ) → closed e ≡ Some n → (v : ℕ) → each_out v (parts e) ≡ []
closed_has_no_out (lit m) n h v = refl
closed_has_no_out (named x es) n h v = cc
closed_has_no_out nat32 n h v = cc
closed_has_no_out (bits es) n h v = cc
closed_has_no_out (below es) n h v = cc
closed_has_no_out (up_to es) n h v = cc
closed_has_no_out (out e) n h v = cc
closed_has_no_out (ref e) n h v = cc
closed_has_no_out (group is) n h v = cc
closed_has_no_out (plus a b) n h v =
    each_both v (parts a) (parts b)
    ∙ cases (closed a) (closed b) h (λ m i. closed_has_no_out a m i v) (λ m i. closed_has_no_out b m i v) refl refl
  where
    cases : (x y : Option ℕ) → num.exact_sum x y ≡ Some n → ((m : ℕ) → closed a ≡ Some m → each_out v (parts a) ≡ [])
        → ((m : ℕ) → closed b ≡ Some m → each_out v (parts b) ≡ []) → closed a ≡ x → closed b ≡ y
        → each_out v (parts a) ++ each_out v (parts b) ≡ []
    cases (Some l) (Some r) h f g i j = λ t. f l i t ++ g r j t
    cases (Some l) None h f g i j = cc
    cases None y h f g i j = cc
closed_has_no_out (star a b) n h v =
    each_both v (parts a) (parts b)
    ∙ cases (closed a) (closed b) h (λ m i. closed_has_no_out a m i v) (λ m i. closed_has_no_out b m i v) refl refl
  where
    cases : (x y : Option ℕ) → exact_product x y ≡ Some n → ((m : ℕ) → closed a ≡ Some m → each_out v (parts a) ≡ [])
        → ((m : ℕ) → closed b ≡ Some m → each_out v (parts b) ≡ []) → closed a ≡ x → closed b ≡ y
        → each_out v (parts a) ++ each_out v (parts b) ≡ []
    cases (Some l) (Some r) h f g i j = λ t. f l i t ++ g r j t
    cases (Some l) None h f g i j = cc
    cases None y h f g i j = cc

variable_has_none : (o : Option ℕ) → unknowns (variable_or_none o) ≡ []
variable_has_none None = refl
variable_has_none (Some v) = refl

-- of a side that seeks x, whose slot is v
pub unknowns_are_outs : (e : ExprView) (a : ItemContext) (names : Names) (most : ℕ) (x : Word) (v : ℕ)
    → number_called names x ≡ Some v
    → AreClean (expr_nodes e a (Some (a_number most (Some x)))) → unknowns (side_of names e) ≡ each_out v (parts e)
unknowns_are_outs (lit n) a names most x v c h = refl
unknowns_are_outs (named y no_exprs) a names most x v c h = variable_has_none (number_called names y)
unknowns_are_outs (named y (an_expr e es)) a names most x v c h = absurd
    (number_args a.scope most (Some x) y e es (clean_use _ h.0))
unknowns_are_outs (plus e f) a names most x v c h =
    let p = clean_both (expr_nodes e a (Some (a_number greatest (Some x)))) _ h.1 in
    (λ i. unknowns_are_outs e a names greatest x v c p.0 i ++ unknowns_are_outs f a names greatest x v c p.1 i)
    ∙ sym (each_both v (parts e) (parts f))
unknowns_are_outs (star e f) a names most x v c h =
    let p = clean_both (expr_nodes e a (Some (a_number greatest (Some x)))) _ h.1 in
    cases (closed e) (closed f) refl refl (unknowns_are_outs e a names greatest x v c p.0)
    (unknowns_are_outs f a names greatest x v c p.1)
    (factor_closed e f a most (Some x) h)
    ∙ sym (each_both v (parts e) (parts f))
  where
    cases : (m n : Option ℕ) → closed e ≡ m → closed f ≡ n → unknowns (side_of names e) ≡ each_out v (parts e)
        → unknowns (side_of names f) ≡ each_out v (parts f) → (closed e ≡ None → closed f ≡ None → ⊥)
        → unknowns (product m n (side_of names e) (side_of names f)) ≡ each_out v (parts e) ++ each_out v (parts f)
    cases (Some m) n i j p q one = q ∙ ap (λ us. us ++ each_out v (parts f)) (sym (closed_has_no_out e m i v))
    cases None (Some n) i j p q one =
        p ∙ sym (append_nil (each_out v (parts e))) ∙ ap (λ us. each_out v (parts e) ++ us)
        (sym (closed_has_no_out f n j v))
    cases None None i j p q one = absurd (one i j)
unknowns_are_outs (out e) a names most x v c h =
    let w = out_sought a.scope most (Some x) e (clean_use _ h.0) in
    let same : x ≡ w.name = some_same w.sought in
    let slot : named_number names (bare_name e) ≡ Some v = ap (λ f. named_number names (bare_name f)) w.is
    ∙ ap (number_called names) (sym same) ∙ c in
    ap (λ o. unknowns (sought_or_none o)) slot ∙ sym (ap (λ f. each_out v (parts (out f))) w.is)
  where
    some_same : {z : Word} → ◌≡◌ {A = Option Word} (Some x) (Some z) → x ≡ z
    some_same i = cc
unknowns_are_outs nat32 a names most x v c h = let b : true ≡ false = (clean_use _ h.0).type_for_number in cc
unknowns_are_outs (bits es) a names most x v c h = let b : true ≡ false = (clean_use _ h.0).type_for_number in cc
unknowns_are_outs (below es) a names most x v c h = let b : true ≡ false = (clean_use _ h.0).type_for_number in cc
unknowns_are_outs (up_to es) a names most x v c h = let b : true ≡ false = (clean_use _ h.0).type_for_number in cc
unknowns_are_outs (ref e) a names most x v c h = let b : true ≡ false = (clean_use _ h.0).type_for_number in cc
unknowns_are_outs (group is) a names most x v c h = let b : true ≡ false = (clean_use _ h.0).type_for_number in cc

-- ---- no unknown stands under a factor 0

none_passes : (es : List ExprView) → list_any is_out es ≡ false → (v : ℕ) → each_out v es ≡ []
none_passes [] h v = refl
none_passes (e ∷ es) h v =
    let p = or_parts (is_out e) (list_any is_out es) h in
    ap (λ b. map (λ (p : ExprView). v) (cond b (e ∷ filter is_out es) (filter is_out es))) p.0 ∙ none_passes es p.1 v

times_kept : (k : ℕ) (s : Expr) → ((k == 0) ≡ true → unknowns s ≡ []) → cancelled s ≡ []
    → cancelled (num.times k s) ≡ []
times_kept k s zero kept = cases (nat_eq k 0) refl
  where
    cases : (b : Bool) → nat_eq k 0 ≡ b → cond b (unknowns s) (cancelled s) ≡ []
    cases true is = zero is
    cases false is = kept

-- where a factor is 0, no `~` stands in the other
other_has_none : (z o : Bool) → (z && o) ≡ false → z ≡ true → o ≡ false
other_has_none true o h i = h
other_has_none false o h i = cc

pub none_cancelled : (e : ExprView) (a : ItemContext) (names : Names) (most : ℕ) (x : Word) (v : ℕ)
    → number_called names x ≡ Some v
    → AreClean (expr_nodes e a (Some (a_number most (Some x)))) → list_any cancels (parts e) ≡ false
    → cancelled (side_of names e) ≡ []
none_cancelled (lit n) a names most x v c h i = refl
none_cancelled (named y no_exprs) a names most x v c h i = kept (number_called names y)
  where
    kept : (o : Option ℕ) → cancelled (variable_or_none o) ≡ []
    kept None = refl
    kept (Some w) = refl
none_cancelled (named y (an_expr e es)) a names most x v c h i = refl
none_cancelled (plus e f) a names most x v c h i =
    let p = clean_both (expr_nodes e a (Some (a_number greatest (Some x)))) _ h.1 in
    let j = or_parts (list_any cancels (parts e)) (list_any cancels (parts f))
    (sym (list_any-append cancels (parts e) (parts f)) ∙ i) in
    λ t. none_cancelled e a names greatest x v c p.0 j.0 t ++ none_cancelled f a names greatest x v c p.1 j.1 t
none_cancelled (star e f) a names most x v c h i =
    let p = clean_both (expr_nodes e a (Some (a_number greatest (Some x)))) _ h.1 in
    let o = or_parts (cancels (star e f)) (list_any cancels (parts e ++ parts f)) i in
    let j = or_parts (list_any cancels (parts e)) (list_any cancels (parts f))
    (sym (list_any-append cancels (parts e) (parts f)) ∙ o.1) in
    let z = or_parts (is_zero (closed e) && holds_out f) (is_zero (closed f) && holds_out e) o.0 in
    cases (closed e) (closed f) refl refl (unknowns_are_outs e a names greatest x v c p.0)
    (unknowns_are_outs f a names greatest x v c p.1)
    (none_cancelled e a names greatest x v c p.0 j.0) (none_cancelled f a names greatest x v c p.1 j.1) z.0 z.1
  where
    cases : (m n : Option ℕ) → closed e ≡ m → closed f ≡ n → unknowns (side_of names e) ≡ each_out v (parts e)
        → unknowns (side_of names f) ≡ each_out v (parts f) → cancelled (side_of names e) ≡ []
        → cancelled (side_of names f) ≡ []
        → (is_zero (closed e) && holds_out f) ≡ false → (is_zero (closed f) && holds_out e) ≡ false
        → cancelled (product m n (side_of names e) (side_of names f)) ≡ []
    cases (Some m) n i j p q r s y z =
        times_kept m (side_of names f)
        (λ t. q ∙ none_passes (parts f) (other_has_none (is_zero (closed e)) (holds_out f) y (ap is_zero i ∙ t)) v) s
    cases None (Some n) i j p q r s y z =
        times_kept n (side_of names e)
        (λ t. p ∙ none_passes (parts e) (other_has_none (is_zero (closed f)) (holds_out e) z (ap is_zero j ∙ t)) v) r
    cases None None i j p q r s y z = refl
none_cancelled (out e) a names most x v c h i = kept (named_number names (bare_name e))
  where
    kept : (o : Option ℕ) → cancelled (sought_or_none o) ≡ []
    kept None = refl
    kept (Some w) = refl
none_cancelled nat32 a names most x v c h i = refl
none_cancelled (bits es) a names most x v c h i = refl
none_cancelled (below es) a names most x v c h i = refl
none_cancelled (up_to es) a names most x v c h i = refl
none_cancelled (ref e) a names most x v c h i = refl
none_cancelled (group is) a names most x v c h i = refl

-- ---- an equation that seeks a variable

-- no `~` stands in a side, or the variable that it seeks is one of numbers
out_or_none : (e : ExprView) (a : ItemContext) (most : ℕ) (x : Word)
    → AreClean (expr_nodes e a (Some (a_number most (Some x))))
    → (filter is_out (parts e) ≡ []) ⊎ (is_number_meaning (meaning_of a.scope x) ≡ true)
out_or_none (lit n) a most x h = inl refl
out_or_none (named y no_exprs) a most x h = inl refl
out_or_none (named y (an_expr e es)) a most x h = absurd (number_args a.scope most (Some x) y e es (clean_use _ h.0))
out_or_none (plus e f) a most x h =
    let p = clean_both (expr_nodes e a (Some (a_number greatest (Some x)))) _ h.1 in
    either (out_or_none e a greatest x p.0) (out_or_none f a greatest x p.1)
  where
    either : (filter is_out (parts e) ≡ []) ⊎ (is_number_meaning (meaning_of a.scope x) ≡ true)
        → (filter is_out (parts f) ≡ []) ⊎ (is_number_meaning (meaning_of a.scope x) ≡ true)
        → (filter is_out (parts e ++ parts f) ≡ []) ⊎ (is_number_meaning (meaning_of a.scope x) ≡ true)
    either (inl i) (inl j) = inl (filter_both (parts e) (parts f) ∙ (λ t. i t ++ j t))
    either (inl i) (inr n) = inr n
    either (inr n) j = inr n
out_or_none (star e f) a most x h =
    let p = clean_both (expr_nodes e a (Some (a_number greatest (Some x)))) _ h.1 in
    either (out_or_none e a greatest x p.0) (out_or_none f a greatest x p.1)
  where
    either : (filter is_out (parts e) ≡ []) ⊎ (is_number_meaning (meaning_of a.scope x) ≡ true)
        → (filter is_out (parts f) ≡ []) ⊎ (is_number_meaning (meaning_of a.scope x) ≡ true)
        → (filter is_out (parts e ++ parts f) ≡ []) ⊎ (is_number_meaning (meaning_of a.scope x) ≡ true)
    either (inl i) (inl j) = inl (filter_both (parts e) (parts f) ∙ (λ t. i t ++ j t))
    either (inl i) (inr n) = inr n
    either (inr n) j = inr n
out_or_none (out e) a most x h =
    let w = out_sought a.scope most (Some x) e (clean_use _ h.0) in
    let P : ExprView → Type 0 = λ f. CleanUse (use_of a.scope (a_number most (Some x)) (out f)) in
    let n = out_meaning a.scope most (Some x) w.name (subst P w.is (clean_use _ h.0)) in
    inr (ap (λ z. is_number_meaning (meaning_of a.scope z)) (some_same w.sought) ∙ n)
  where
    some_same : {z : Word} → ◌≡◌ {A = Option Word} (Some x) (Some z) → x ≡ z
    some_same i = cc
out_or_none nat32 a most x h = inl refl
out_or_none (bits es) a most x h = let b : true ≡ false = (clean_use _ h.0).type_for_number in cc
out_or_none (below es) a most x h = let b : true ≡ false = (clean_use _ h.0).type_for_number in cc
out_or_none (up_to es) a most x h = let b : true ≡ false = (clean_use _ h.0).type_for_number in cc
out_or_none (ref e) a most x h = let b : true ≡ false = (clean_use _ h.0).type_for_number in cc
out_or_none (group is) a most x h = inl refl

-- what an equation that seeks x says of its sides
record SoughtIn (x : Word) (a b : ExprView) : Type 0 where
  outs : (e : ExprView) × (filter is_out (parts a ++ parts b) ≡ e ∷ [])
  kept : list_any cancels (parts a ++ parts b) ≡ false

only_out_is : (es : List ExprView) (x : Word) → only_out_name es ≡ Some x → (e : ExprView) × (es ≡ e ∷ [])
only_out_is [] x h = cc
only_out_is (e ∷ []) x h = (e, refl)
only_out_is (e ∷ f ∷ es) x h = cc

sought_sides : (x : Word) (a b : ExprView) → sought_if (sides a b) (unknown_of (sides a b)) ≡ Some x → SoughtIn x a b
sought_sides x a b h = cases (unknown_of (sides a b)) refl h
  where
    second : (m n : Bool) → (m && not n) ≡ true → n ≡ false
    second true false i = refl
    second true true i = cc
    second false n i = cc

    tested : (y : Word) → unknown_of (sides a b) ≡ Some y → (t : Bool) → can_be_sought (sides a b) y ≡ t
        → cond t (Some y) None ≡ Some x → SoughtIn x a b
    tested y i false j h = cc
    tested y i true j h = record {
      outs = only_out_is (filter is_out (parts a ++ parts b)) y i;
      kept = second (occurrences (sides a b) y == 1) (list_any cancels (parts a ++ parts b)) j;
    }

    cases : (o : Option Word) → unknown_of (sides a b) ≡ o → sought_if (sides a b) o ≡ Some x → SoughtIn x a b
    cases None i h = cc
    cases (Some y) i h = tested y i (can_be_sought (sides a b) y) refl h

equation_sought : (x : Word) (a : ExprView) (op : Op) (b : ExprView) → sought a op b ≡ Some x → (op ≡ Eq)
    × SoughtIn x a b
equation_sought x a Eq b h = (refl, sought_sides x a b h)
equation_sought x a Lt b h = cc
equation_sought x a Le b h = cc
equation_sought x a Gt b h = cc
equation_sought x a Ge b h = cc

found : (l r : Expr) (v : ℕ) → unknowns l ++ unknowns r ≡ v ∷ [] → cancelled l ≡ [] → cancelled r ≡ []
    → core.unknown_of l r ≡ Some v
found l r v i j k =
    (λ t. cond (is_empty (j t ++ k t)) (only_one (unknowns l ++ unknowns r)) None) ∙ ap only_one i

-- An equation that seeks x has the slot of x as the one unknown of its sides.
pub unknown_found : (x : Word) (l : ExprView) (op : Op) (r : ExprView) (a : ItemContext) (names : Names) (k : Known)
    → Agrees a.scope names k
    → sought l op r ≡ Some x → AreClean (expr_nodes l a (Some (a_number greatest (Some x))))
    → AreClean (expr_nodes r a (Some (a_number greatest (Some x))))
    → (v : ℕ) × (meaning names x ≡ Some (numbered v)) × (unknown_by op (side_of names l) (side_of names r) ≡ Some v)
unknown_found x l op r a names k g s h i =
    let e = equation_sought x l op r s in
    let w = number_variable a.scope names k g x (number (out_or_none l a greatest x h)
    (out_or_none r a greatest x i) e.1) in
    let c : number_called names x ≡ Some w.0 = ap number_slot w.1 in
    let kept = or_parts (list_any cancels (parts l)) (list_any cancels (parts r))
    (sym (list_any-append cancels (parts l) (parts r)) ∙ e.1.kept) in
    let all : unknowns (side_of names l) ++ unknowns (side_of names r) ≡ w.0 ∷ [] =
    (λ t. unknowns_are_outs l a names greatest x w.0 c h t ++ unknowns_are_outs r a names greatest x w.0 c i t)
    ∙ sym (each_both w.0 (parts l) (parts r)) ∙ ap (map (λ (p : ExprView). w.0)) e.1.outs.1 in (
      w.0,
      w.1,
      ap (λ o. unknown_by o (side_of names l) (side_of names r)) e.0
          ∙ found (side_of names l) (side_of names r) w.0 all (none_cancelled l a names greatest x w.0 c h kept.0)
          (none_cancelled r a names greatest x w.0 c i kept.1),
    )
  where
    number : (filter is_out (parts l) ≡ []) ⊎ (is_number_meaning (meaning_of a.scope x) ≡ true)
        → (filter is_out (parts r) ≡ []) ⊎ (is_number_meaning (meaning_of a.scope x) ≡ true) → SoughtIn x l r
        → is_number_meaning (meaning_of a.scope x) ≡ true
    number (inl i) (inl j) s =
        let none : filter is_out (parts l ++ parts r) ≡ [] = filter_both (parts l) (parts r) ∙ (λ t. i t ++ j t) in
        let b : s.outs.0 ∷ [] ≡ [] = sym s.outs.1 ∙ none in cc
    number (inl i) (inr n) s = n
    number (inr n) j s = n
