-- A number without a fault has its form, and each variable of it is known.
use Rattle.std.proofs.Common.{◌≡◌, ◌⊎◌, inl, inr, ap, sym, ◌∙◌, refl, ℕ, ◌+◌, ◌*◌, List, [], ◌∷◌, ◌++◌, Bool, true, false, not, subst}
use Rattle.std.proofs.Common.{◌&&◌, ◌||◌, cond}
use Rattle.std.specs.Prelude.{Option, Some, None, is_some, bytes_eq}
use Rattle.std.specs.List.{list_any}
use Rattle.std.proofs.lemmas.Bool.{or_parts, and_cases, false≢true}
use Rattle.std.proofs.lemmas.List.{append-nil}
use Rattle.std.proofs.lemmas.List.Folds.{list_any-append}
use Rattle.std.proofs.lemmas.Slice.Eq.{bytes_eq-Decides}
use Rattle.tlb_syntax.specs.Tree.{ExprView, ExprList, lit, named, nat32, bits, below, up_to, plus, star, out, ref, group}
use Rattle.tlb_syntax.specs.Tree.{no_exprs, an_expr}
use Rattle.kind_terms.specs.Words.{Word, is_among}
use Rattle.kind_terms.specs.Params.{bare_name, greatest}
use Rattle.nat_solver.specs.Number.{exact_sum}
use Rattle.kind_terms.specs.Closed.{closed, exact_product}
use Rattle.kind_terms.specs.Forms.{parts, out_name}
use Rattle.kind_terms.specs.Scopes.{Scope, is_known, is_own_unknown, is_number_variable, is_implicit_number}
use Rattle.kind_terms.specs.declared.kind.TermKind.TheVariants.{NumberIn}
use Rattle.kind_terms.specs.Types.{has_exprs, parameters, type_named}
use Rattle.kind_declarations.specs.Faults.{faults}
use Rattle.kind_declarations.specs.Nodes.{ItemContext, Judged, a_use, arg_nodes, expr_nodes, first_inside, judged, use_at}
use Rattle.kind_declarations.specs.Nodes.{expected_at_left, expected_at_right, expected_in_sum, expected_under_ref}
use Rattle.kind_declarations.specs.Nodes.{only_types, record_nodes}
use Rattle.kind_rules.specs.ExpectedKinds.{Use, Expected, a_number, an_output, is_type_expected, used_at}
use Rattle.kind_rules.specs.Known.{seeks, given_before, is_no_unknown}
use Rattle.kind_rules.specs.Numbers.{holds_variable, is_type_shaped, is_variable_in}
use Rattle.kinded_schema.specs.Kinded.{IsConstant, IsNumber, IsSought, IsUnknownNumber}
use Rattle.kinded_schema.specs.CleanLaws.{IsClean, IsCleanUse, and_left_false, and_right_false, clean_first, clean_parts}
use Rattle.kinded_schema.specs.CleanLaws.{clean_use, name_is_alone, name_is_number, no_type_shape, not_false}

abbrev pub use_of : ItemContext → Expected → ExprView → Use
use_of a d e = record { scope = a.scope; expected = d; at = e }

-- the nodes after that of the expression itself
abbrev pub rest_nodes : ExprView → ItemContext → Option Expected → List Judged
rest_nodes (lit n) a d = []
rest_nodes (named x es) a d = arg_nodes es a (only_types d (parameters (type_named a.scope.types x (has_exprs es)))) []
rest_nodes nat32 a d = []
rest_nodes (bits es) a d = arg_nodes es a (only_types d (NumberIn 32 ∷ [])) []
rest_nodes (below es) a d = arg_nodes es a (only_types d (NumberIn greatest ∷ [])) []
rest_nodes (up_to es) a d = arg_nodes es a (only_types d (NumberIn greatest ∷ [])) []
rest_nodes (plus x y) a d = expr_nodes x a (expected_in_sum d) ++ expr_nodes y a (expected_in_sum d)
rest_nodes (star x y) a d = expr_nodes x a (expected_at_left d) ++ expr_nodes y a (expected_at_right d)
rest_nodes (out e) a d = []
rest_nodes (ref e) a d = expr_nodes e a (expected_under_ref d)
rest_nodes (group is) a d = only_types d (record_nodes is (first_inside a))

nodes_split : (e : ExprView) (a : ItemContext) (d : Option Expected) → expr_nodes e a d ≡ use_at a d e ++ rest_nodes e a d
nodes_split (lit n) a d = sym (append-nil (use_at a d (lit n)))
nodes_split (named x es) a d = refl
nodes_split nat32 a d = sym (append-nil (use_at a d nat32))
nodes_split (bits es) a d = refl
nodes_split (below es) a d = refl
nodes_split (up_to es) a d = refl
nodes_split (plus x y) a d = refl
nodes_split (star x y) a d = refl
nodes_split (out e) a d = sym (append-nil (use_at a d (out e)))
nodes_split (ref e) a d = refl
nodes_split (group is) a d = refl

-- the expression itself, and what is after it
both_clean : (e : ExprView) (a : ItemContext) (d : Expected) → IsClean (expr_nodes e a (Some d))
    → IsCleanUse (use_of a d e) × IsClean (rest_nodes e a (Some d))
both_clean e a d h =
    let both = clean_first (judged a.path (a_use (use_of a d e))) (rest_nodes e a (Some d))
    (sym (ap faults (nodes_split e a (Some d))) ∙ h) in
    (clean_use (use_of a d e) both.0, both.1)

pub clean_at : (e : ExprView) (a : ItemContext) (d : Expected) → IsClean (expr_nodes e a (Some d)) → IsCleanUse (use_of a d e)
clean_at e a d h = (both_clean e a d h).0

pub clean_after : (e : ExprView) (a : ItemContext) (d : Expected) → IsClean (expr_nodes e a (Some d))
    → IsClean (rest_nodes e a (Some d))
clean_after e a d h = (both_clean e a d h).1

abbrev named_or : Word → Option Word → ExprView
named_or y None = named y no_exprs
named_or y (Some z) = named z no_exprs

pub bare_name_is : (e : ExprView) (x : Word) → bare_name e ≡ Some x → e ≡ named x no_exprs
bare_name_is (named y no_exprs) x is = ap (named_or y) is
bare_name_is (named y (an_expr e es)) x is = cc
bare_name_is (lit n) x is = cc
bare_name_is nat32 x is = cc
bare_name_is (bits es) x is = cc
bare_name_is (below es) x is = cc
bare_name_is (up_to es) x is = cc
bare_name_is (plus a b) x is = cc
bare_name_is (star a b) x is = cc
bare_name_is (out e) x is = cc
bare_name_is (ref e) x is = cc
bare_name_is (group is) x same = cc

-- ---- the x of `~x`

-- where no type is expected, and the rule on what is known twice is met
pub out_is_unknown : (a : ItemContext) (d : Expected) (e : ExprView) (x : Word) → IsCleanUse (use_of a d (out e))
    → is_type_expected d ≡ false → used_at (use_of a d (out e)) ≡ named x no_exprs → bare_name e ≡ Some x
    → IsUnknownNumber a.scope x × (is_among (given_before d) x ≡ false)
out_is_unknown a d e x clean other used is =
    let s = a.scope in
    let variable = name_is_number (use_of a d (out e)) clean other x used in
    let twice : is_no_unknown d s (bare_name e) ≡ false =
    and_right_false (not (is_type_expected d)) (is_no_unknown d s (bare_name e)) clean.known_twice (ap not other) in
    let rest = and_right_false (is_number_variable s x) (not (is_own_unknown s x) || is_among (given_before d) x)
    (sym (ap (is_no_unknown d s) is) ∙ twice) variable in
    let both = or_parts (not (is_own_unknown s x)) (is_among (given_before d) x) rest in
    (record { variable = variable; unknown = not_false (is_own_unknown s x) both.0 }, both.1)

sought_from : (s : Scope) (q found : Option Word) → seeks q found ≡ true
    → ((x : Word) → found ≡ Some x → IsUnknownNumber s x) → IsSought s q found
sought_from s None found h f = cc
sought_from s (Some x) None h f = cc
sought_from s (Some x) (Some y) h f = ((bytes_eq-Decides x y).0 h, f y refl)

used_out : (e : ExprView) (x : Word) → bare_name e ≡ Some x → cond (is_some (bare_name e)) e (out e) ≡ named x no_exprs
used_out e x is = ap (λ o. cond (is_some o) e (out e)) is ∙ bare_name_is e x is

out_clean : (a : ItemContext) (n : ℕ) (q : Option Word) (e : ExprView)
    → IsCleanUse (use_of a (a_number n q) (out e)) → IsSought a.scope q (bare_name e)
out_clean a n q e clean =
    sought_from a.scope q (bare_name e) (not_false (seeks q (bare_name e)) clean.other_out)
    (λ x is. (out_is_unknown a (a_number n q) e x clean refl (used_out e x is) is).0)

-- ---- factors without variables

variable_there : (s : Scope) (x : Word) → is_number_variable s x ≡ true → holds_variable s (named x no_exprs) ≡ false → ⊥
variable_there s x is none =
    let gone = (or_parts (is_number_variable s x) false none).0 in
    false≢true (sym gone ∙ is)

split_any : (s : Scope) (a b : ExprView) → list_any (is_variable_in s) (parts a ++ parts b) ≡ false
    → (holds_variable s a ≡ false) × (holds_variable s b ≡ false)
split_any s a b h =
    or_parts (holds_variable s a) (holds_variable s b) (sym (list_any-append (is_variable_in s) (parts a) (parts b)) ∙ h)

sum_constant : (a b : ExprView) → IsConstant a → IsConstant b → IsConstant (plus a b)
sum_constant a b x y = (x.0 + y.0, ap (λ o. exact_sum o (closed b)) x.1 ∙ ap (exact_sum (Some x.0)) y.1)

product_constant : (a b : ExprView) → IsConstant a → IsConstant b → IsConstant (star a b)
product_constant a b x y = (x.0 * y.0, ap (λ o. exact_product o (closed b)) x.1 ∙ ap (exact_product (Some x.0)) y.1)

sought_there : (s : Scope) (q found : Option Word) (e : ExprView) → bare_name e ≡ found → IsSought s q found
    → holds_variable s e ≡ false → ⊥
sought_there s None found e is h none = h
sought_there s (Some x) None e is h none = h
sought_there s (Some x) (Some y) e is h none =
    variable_there s y h.1.variable (sym (ap (holds_variable s) (bare_name_is e y is)) ∙ none)

pub constant : (e : ExprView) (s : Scope) (q : Option Word) → IsNumber e s q → holds_variable s e ≡ false → IsConstant e
constant (lit n) s q h none = (n, refl)
constant (named x no_exprs) s q h none = absurd (variable_there s x h.variable none)
constant (named x (an_expr e es)) s q h none = absurd h
constant (plus a b) s q h none =
    let both = split_any s a b none in
    sum_constant a b (constant a s q h.0 both.0) (constant b s q h.1 both.1)
constant (star a b) s q h none =
    let both = split_any s a b none in
    product_constant a b (constant a s q h.0.0 both.0) (constant b s q h.0.1 both.1)
constant (out e) s q h none = absurd (sought_there s q (bare_name e) e refl h none)
constant nat32 s q h none = absurd h
constant (bits es) s q h none = absurd h
constant (below es) s q h none = absurd h
constant (up_to es) s q h none = absurd h
constant (ref e) s q h none = absurd h
constant (group is) s q h none = absurd h

one_constant : (a b : ExprView) (s : Scope) (q : Option Word) → IsNumber a s q → IsNumber b s q
    → (holds_variable s a && holds_variable s b) ≡ false → IsConstant a ⊎ IsConstant b
one_constant a b s q h k none =
    elim (and_cases (holds_variable s a) (holds_variable s b) none) [
      | inl left ↦ inl (constant a s q h left)
      | inr right ↦ inr (constant b s q k right)
    ]

-- ---- numbers

shaped : (a : ItemContext) (n : ℕ) (q : Option Word) (e : ExprView) → IsCleanUse (use_of a (a_number n q) e)
    → is_type_shaped e ≡ true → ⊥
shaped a n q e clean is = false≢true (sym (no_type_shape (use_of a (a_number n q) e) clean refl) ∙ is)

pub number_clean : (e : ExprView) (a : ItemContext) (n : ℕ) (q : Option Word)
    → IsClean (expr_nodes e a (Some (a_number n q))) → IsNumber e a.scope q
number_clean (lit m) a n q h = tt
number_clean (named x no_exprs) a n q h =
    let clean = clean_at (named x no_exprs) a (a_number n q) h in
    let variable = name_is_number (use_of a (a_number n q) (named x no_exprs)) clean refl x refl in
    record {
      variable = variable;
      known = not_false (is_known a.scope x)
          (and_right_false (is_number_variable a.scope x) (not (is_known a.scope x)) clean.used_unknown variable);
    }
number_clean (named x (an_expr e es)) a n q h =
    let v = named x (an_expr e es) in
    absurd (name_is_alone (use_of a (a_number n q) v) (clean_at v a (a_number n q) h) refl x e es refl)
number_clean (plus x y) a n q h =
    let both = clean_parts (expr_nodes x a (Some (a_number greatest q))) (expr_nodes y a (Some (a_number greatest q)))
    (clean_after (plus x y) a (a_number n q) h) in
    (number_clean x a greatest q both.0, number_clean y a greatest q both.1)
number_clean (star x y) a n q h =
    let both = clean_parts (expr_nodes x a (Some (a_number greatest q))) (expr_nodes y a (Some (a_number greatest q)))
    (clean_after (star x y) a (a_number n q) h) in
    let left = number_clean x a greatest q both.0 in
    let right = number_clean y a greatest q both.1 in
    ((left, right), one_constant x y a.scope q left right (clean_at (star x y) a (a_number n q) h).product)
number_clean (out e) a n q h = out_clean a n q e (clean_at (out e) a (a_number n q) h)
number_clean nat32 a n q h = absurd (shaped a n q nat32 (clean_at nat32 a (a_number n q) h) refl)
number_clean (bits es) a n q h = absurd (shaped a n q (bits es) (clean_at (bits es) a (a_number n q) h) refl)
number_clean (below es) a n q h = absurd (shaped a n q (below es) (clean_at (below es) a (a_number n q) h) refl)
number_clean (up_to es) a n q h = absurd (shaped a n q (up_to es) (clean_at (up_to es) a (a_number n q) h) refl)
number_clean (ref e) a n q h = absurd (shaped a n q (ref e) (clean_at (ref e) a (a_number n q) h) refl)
number_clean (group is) a n q h = absurd (shaped a n q (group is) (clean_at (group is) a (a_number n q) h) refl)
