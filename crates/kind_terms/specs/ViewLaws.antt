-- The views of the program's expressions, form by form.
use Rattle.std.proofs.Common.{◌≡◌, ap, sym, ◌∙◌, List, [], ◌∷◌, map, ℕ, suc, length, Bool, true, false, not, refl}
use Rattle.std.proofs.Common.{rules, ◌↔◌}
use Rattle.std.proofs.Common.{drop, get_or, add-one, ◌+◌, ◌<◌, ◌≤◌}
use Rattle.std.proofs.Math.Seq.{drop-cons}
use Rattle.std.proofs.lemmas.List.{drop_all}
use Rattle.std.specs.Prelude.{IsTrue, Option}
use Rattle.kind_terms.specs.Types.{count, has_exprs}
use Rattle.tlb_syntax.specs.declared.tree.Expr.{Expr, fold-roll-Expr, the_lemmas}
use Rattle.tlb_syntax.specs.declared.tree.Item.{Item}
use Rattle.tlb_syntax.specs.declared.tree.Item.TheVariants.{Implicit, Check, Explicit}
use Rattle.tlb_syntax.specs.declared.tree.FieldType.{FieldType}
use Rattle.tlb_syntax.specs.declared.tree.ParamKind.{ParamKind}
use Rattle.nat_solver.specs.declared.compare.Op.{Op}
use Rattle.tlb_syntax.specs.declared.tree.Expr.TheVariants.{Lit, Named, Nat32, Bits, Below, UpTo, Sum, Star, Out, Ref}
use Rattle.tlb_syntax.specs.declared.tree.Expr.TheVariants.{Group, rolls-Lit, rolls-Named, rolls-Nat32, rolls-Bits}
use Rattle.tlb_syntax.specs.declared.tree.Expr.TheVariants.{rolls-Below, rolls-UpTo, rolls-Sum, rolls-Star, rolls-Out}
use Rattle.tlb_syntax.specs.declared.tree.Expr.TheVariants.{rolls-Ref, rolls-Group}
use Rattle.tlb_syntax.specs.declared.tree.Expr.TheOpen as open_forms
use Rattle.tlb_syntax.specs.View.{expr, exprs, field_type, item, items, expr_step, type_step, item_step}
use Rattle.tlb_syntax.specs.Tree.{ExprView, TypeView, ItemView, lit, named, nat32, bits, below, up_to, star, out, ref}
use Rattle.tlb_syntax.specs.Tree.{group, sum_of, no_exprs, an_expr, no_items, an_item, implicit, check, explicit}

pub seen_lit : (e : Expr) (n : ℕ) → e ≡ Lit n → expr e ≡ lit n
seen_lit e n is =
    ap expr (is ∙ sym (rolls-Lit n))
    ∙ fold-roll-Expr ExprView TypeView ItemView expr_step type_step item_step (open_forms.Lit n)

pub seen_named : (e : Expr) (x : List ℕ) (es : List Expr) → e ≡ Named x es → expr e ≡ named x (exprs es)
seen_named e x es is =
    ap expr (is ∙ sym (rolls-Named x es))
    ∙ fold-roll-Expr ExprView TypeView ItemView expr_step type_step item_step (open_forms.Named x es)

pub seen_nat32 : (e : Expr) → e ≡ Nat32 → expr e ≡ nat32
seen_nat32 e is =
    ap expr (is ∙ sym rolls-Nat32)
    ∙ fold-roll-Expr ExprView TypeView ItemView expr_step type_step item_step open_forms.Nat32

pub seen_bits : (e : Expr) (es : List Expr) → e ≡ Bits es → expr e ≡ bits (exprs es)
seen_bits e es is =
    ap expr (is ∙ sym (rolls-Bits es))
    ∙ fold-roll-Expr ExprView TypeView ItemView expr_step type_step item_step (open_forms.Bits es)

pub seen_below : (e : Expr) (es : List Expr) → e ≡ Below es → expr e ≡ below (exprs es)
seen_below e es is =
    ap expr (is ∙ sym (rolls-Below es))
    ∙ fold-roll-Expr ExprView TypeView ItemView expr_step type_step item_step (open_forms.Below es)

pub seen_up_to : (e : Expr) (es : List Expr) → e ≡ UpTo es → expr e ≡ up_to (exprs es)
seen_up_to e es is =
    ap expr (is ∙ sym (rolls-UpTo es))
    ∙ fold-roll-Expr ExprView TypeView ItemView expr_step type_step item_step (open_forms.UpTo es)

pub seen_sum : (e a b : Expr) (es : List Expr) → e ≡ Sum a b es → expr e ≡ sum_of (expr a) (expr b) (map expr es)
seen_sum e a b es is =
    ap expr (is ∙ sym (rolls-Sum a b es))
    ∙ fold-roll-Expr ExprView TypeView ItemView expr_step type_step item_step (open_forms.Sum a b es)

pub seen_star : (e : Expr) (a b : Expr) → e ≡ Star a b → expr e ≡ star (expr a) (expr b)
seen_star e a b is =
    ap expr (is ∙ sym (rolls-Star a b))
    ∙ fold-roll-Expr ExprView TypeView ItemView expr_step type_step item_step (open_forms.Star a b)

pub seen_out : (e : Expr) (a : Expr) → e ≡ Out a → expr e ≡ out (expr a)
seen_out e a is =
    ap expr (is ∙ sym (rolls-Out a))
    ∙ fold-roll-Expr ExprView TypeView ItemView expr_step type_step item_step (open_forms.Out a)

pub seen_ref : (e : Expr) (a : Expr) → e ≡ Ref a → expr e ≡ ref (expr a)
seen_ref e a is =
    ap expr (is ∙ sym (rolls-Ref a))
    ∙ fold-roll-Expr ExprView TypeView ItemView expr_step type_step item_step (open_forms.Ref a)

pub seen_group : (e : Expr) (list : List Item) → e ≡ Group list → expr e ≡ group (items list)
seen_group e list is =
    ap expr (is ∙ sym (rolls-Group list))
    ∙ fold-roll-Expr ExprView TypeView ItemView expr_step type_step item_step (open_forms.Group list)

pub has_exprs_seen : (es : List Expr) (b : Bool) → IsTrue b ↔ (es ≡ []) → not b ≡ has_exprs (exprs es)
has_exprs_seen [] true h = refl
has_exprs_seen [] false h = cc (h.1 refl)
has_exprs_seen (e ∷ es) true h = absurd (cc (h.0 refl))
has_exprs_seen (e ∷ es) false h = refl

pub count_seen : (es : List Expr) → length es ≡ count (exprs es)
count_seen [] = refl
count_seen (e ∷ es) = ap suc (count_seen es)

-- the items from a place on
pub drop_at : (es : List Expr) (i : ℕ) (e : Expr) → i < length es → e ≡ get_or es i e
    → exprs (drop i es) ≡ an_expr (expr e) (exprs (drop (i + 1) es))
drop_at es i e h is =
    ap exprs (drop-cons es i e h ∙ ap (λ x. x ∷ drop (suc i) es) (sym is))
    ∙ ap (λ k. an_expr (expr e) (exprs (drop k es))) (sym (add-one i))

pub drop_end : (es : List Expr) (i : ℕ) → length es ≤ i → exprs (drop i es) ≡ no_exprs
drop_end es i h = ap exprs (drop_all i es h)

pub item_at : (is : List Item) (i : ℕ) (x : Item) → i < length is → x ≡ get_or is i x
    → items (drop i is) ≡ an_item (item x) (items (drop (i + 1) is))
item_at is i x h at =
    ap items (drop-cons is i x h ∙ ap (λ y. y ∷ drop (suc i) is) (sym at))
    ∙ ap (λ k. an_item (item x) (items (drop k is))) (sym (add-one i))

pub item_end : (is : List Item) (i : ℕ) → length is ≤ i → items (drop i is) ≡ no_items
item_end is i h = ap items (drop_all i is h)

-- ---- items

pub seen_implicit : (i : Item) (x : List ℕ) (k : ParamKind) → i ≡ Implicit x k → item i ≡ implicit x k
seen_implicit i x k is = rw is (search (the_lemmas, rules))

pub seen_check : (i : Item) (a : Expr) (op : Op) (b : Expr) → i ≡ Check a op b → item i ≡ check (expr a) op (expr b)
seen_check i a op b is = rw is (search (the_lemmas, rules))

pub seen_explicit : (i : Item) (x : Option (List ℕ)) (t : FieldType) → i ≡ Explicit x t
    → item i ≡ explicit x (field_type t)
seen_explicit i x t is = rw is (search (the_lemmas, rules))
