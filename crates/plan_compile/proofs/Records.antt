-- Turns of the loop over a record's items.
use Rattle.std.proofs.Common.{◌≡◌, ℕ, ◌+◌, ◌<◌, ◌≤◌, List, ◌∷◌, ◌++◌, Option, Some, None, refl, ap, sym, ◌∙◌, drop}
use Rattle.std.proofs.Common.{length}
use Rattle.std.proofs.Common.{get_or, map, arith}
use Rattle.std.proofs.lemmas.List.{at_drop_more, at_drop_all}
use Rattle.core_form.specs.Core.{Item, Items, no_items, an_item}
use Rattle.tlb_syntax.specs.declared.tree.Item.{Item as Term}
use Rattle.tlb_syntax.specs.declared.tree.Expr.{Expr}
use Rattle.tlb_syntax.specs.declared.tree.Expr.TheVariants.{Sum}
use Rattle.tlb_syntax.specs.Tree.{SchemaView}
use Rattle.tlb_syntax.specs.View.{item as item_view, items as items_view, expr as expr_view}
use Rattle.kind_terms.specs.Positions.{is_unnamed}
use Rattle.kind_terms.specs.SumLaws.{at_sum, expr_of_sum}
use Rattle.schema_core.specs.Names.{Names, declares}
use Rattle.schema_core.specs.Slots.{next_slot, slots_in, slots_at, slots_under, own_slots, inner_slots}
use Rattle.schema_core.specs.CoreOf.{body_of, item_of, items_of, names_after, no_meaning, onto, type_of, under_ref}
use Rattle.schema_core.specs.CoreOf.{unnamed_by}
use Rattle.flat_form.specs.Parts.{append_items, with_item}
use Rattle.plan_compile.specs.Views.{with_some}

append_last : (is : Items) (i : Item) (js : Items) → append_items (with_item is i) js ≡ append_items is (an_item i js)
append_last no_items i js = refl
append_last (an_item k is) i js = ap (an_item k) (append_last is i js)

append_some : (is : Items) (i : Option Item) (js : Items)
    → append_items (with_some is i) js ≡ append_items is (onto i js)
append_some is None js = refl
append_some is (Some i) js = append_last is i js

append_none : (is : Items) → append_items is no_items ≡ is
append_none no_items = refl
append_none (an_item i is) = ap (an_item i) (append_none is)

pub item_turn : (types : SchemaView) (all : List Term) (i : ℕ) (here : Term) (names more : Names)
    (next onward place beyond_place unnamed beyond : ℕ) (before new total : Items)
    → i < length all → here ≡ get_or all i here → more ≡ names ++ declares (item_view here) next
    → onward ≡ next_slot next (item_view here) → beyond_place ≡ place + 1
    → beyond ≡ unnamed_by (is_unnamed (item_view here)) unnamed
    → new ≡ with_some before (item_of types names next place unnamed (item_view here))
    → append_items before (items_of types names next place unnamed (items_view (drop i all))) ≡ total
    → append_items new (items_of types more onward beyond_place beyond (items_view (drop (i + 1) all))) ≡ total
item_turn types all i here names more next onward place beyond_place unnamed beyond before new total lt is named slots places blank_is made so_far =
    let rest : items_of types more onward beyond_place beyond (items_view (drop (i + 1) all)) ≡ items_of types (names ++ declares (item_view here) next) (next_slot next (item_view here)) (place + 1) (unnamed_by (is_unnamed (item_view here)) unnamed) (items_view (drop (i + 1) all)) = cc in
    ap (λ z. append_items z (items_of types more onward beyond_place beyond (items_view (drop (i + 1) all)))) made
    ∙ ap (append_items (with_some before (item_of types names next place unnamed (item_view here)))) rest
    ∙ append_some before (item_of types names next place unnamed (item_view here)) _
    ∙ ap (λ z. append_items before (items_of types names next place unnamed (items_view (z ∷ drop (i + 1) all)))) is
    ∙ sym (at_drop_more (λ z. append_items before (items_of types names next place unnamed (items_view z))) all i here lt)
    ∙ so_far

pub slots_turn : (all : List Term) (i : ℕ) (here : Term) (next onward total : ℕ) → i < length all
    → here ≡ get_or all i here → onward ≡ next_slot next (item_view here)
    → next + slots_in (items_view (drop i all)) ≡ total → onward + slots_in (items_view (drop (i + 1) all)) ≡ total
slots_turn all i here next onward total lt is slots so_far =
    let one : next + slots_in (items_view (drop i all)) ≡ next + slots_in (items_view (get_or all i here ∷ drop (i + 1) all)) = at_drop_more (λ z. next + slots_in (items_view z)) all i here lt in
    let same : next + slots_in (items_view (here ∷ drop (i + 1) all)) ≡ next + slots_in (items_view (get_or all i here ∷ drop (i + 1) all)) = ap (λ z. next + slots_in (items_view (z ∷ drop (i + 1) all))) is in
    let own : next + ((own_slots (item_view here) + inner_slots (item_view here)) + slots_in (items_view (drop (i + 1) all))) ≡ total = same ∙ sym one ∙ so_far in
    omega arith

pub items_done : (types : SchemaView) (all : List Term) (i : ℕ) (names : Names) (next place unnamed : ℕ)
    (before total : Items) → length all ≤ i
    → append_items before (items_of types names next place unnamed (items_view (drop i all))) ≡ total → before ≡ total
items_done types all i names next place unnamed before total over so_far =
    sym (append_none before) ∙ sym (at_drop_all (λ z. append_items before (items_of types names next place unnamed (items_view z))) all i over) ∙ so_far

pub slots_done : (all : List Term) (i next total : ℕ) → length all ≤ i
    → next + slots_in (items_view (drop i all)) ≡ total → next ≡ total
slots_done all i next total over so_far =
    let e : next + slots_in (items_view (drop i all)) ≡ next + 0 = at_drop_all (λ z. next + slots_in (items_view z)) all i over in omega arith

pub names_turn : (all : List Term) (i : ℕ) (here : Term) (names more last : Names) (next onward : ℕ) → i < length all
    → here ≡ get_or all i here → more ≡ names ++ declares (item_view here) next
    → onward ≡ next_slot next (item_view here)
    → names_after (items_view (drop i all)) names next ≡ last
    → names_after (items_view (drop (i + 1) all)) more onward ≡ last
names_turn all i here names more last next onward lt is named slots so_far =
    ap (λ z. names_after (items_view (drop (i + 1) all)) z onward) named
    ∙ ap (names_after (items_view (drop (i + 1) all)) (names ++ declares (item_view here) next)) slots
    ∙ ap (λ z. names_after (items_view (z ∷ drop (i + 1) all)) names next) is
    ∙ sym (at_drop_more (λ z. names_after (items_view z) names next) all i here lt)
    ∙ so_far

pub names_done : (all : List Term) (i next : ℕ) (names last : Names) → length all ≤ i
    → names_after (items_view (drop i all)) names next ≡ last → names ≡ last
names_done all i next names last over so_far =
    sym (at_drop_all (λ z. names_after (items_view z) names next) all i over) ∙ so_far

-- ---- sums, which have no records in them

pub body_of_sum : (types : SchemaView) (names : Names) (next : ℕ) (e a b : Expr) (es : List Expr) → e ≡ Sum a b es
    → type_of types names (expr_view e) ≡ body_of types names next (expr_view e)
body_of_sum types names next e a b es is =
    let whole = ap expr_view is ∙ expr_of_sum a b es in
    ap (type_of types names) whole
    ∙ at_sum (type_of types names) no_meaning (λ x y. refl) (expr_view a) (expr_view b) (map expr_view es)
    ∙ sym (at_sum (body_of types names next) no_meaning (λ x y. refl) (expr_view a) (expr_view b) (map expr_view es))
    ∙ sym (ap (body_of types names next) whole)

pub under_ref_of_sum : (types : SchemaView) (names : Names) (next : ℕ) (e a b : Expr) (es : List Expr) → e ≡ Sum a b es
    → type_of types names (expr_view e) ≡ under_ref types names next (expr_view e)
under_ref_of_sum types names next e a b es is =
    let whole = ap expr_view is ∙ expr_of_sum a b es in
    ap (type_of types names) whole
    ∙ at_sum (type_of types names) no_meaning (λ x y. refl) (expr_view a) (expr_view b) (map expr_view es)
    ∙ sym (at_sum (under_ref types names next) no_meaning (λ x y. refl) (expr_view a) (expr_view b) (map expr_view es))
    ∙ sym (ap (under_ref types names next) whole)

pub slots_of_sum : (e a b : Expr) (es : List Expr) → e ≡ Sum a b es → slots_at (expr_view e) ≡ 0
slots_of_sum e a b es is = ap slots_at (ap expr_view is ∙ expr_of_sum a b es) ∙ at_sum slots_at 0 (λ x y. refl) (expr_view a) (expr_view b) (map expr_view es)

pub slots_under_sum : (e a b : Expr) (es : List Expr) → e ≡ Sum a b es → slots_under (expr_view e) ≡ 0
slots_under_sum e a b es is = ap slots_under (ap expr_view is ∙ expr_of_sum a b es) ∙ at_sum slots_under 0 (λ x y. refl) (expr_view a) (expr_view b) (map expr_view es)
