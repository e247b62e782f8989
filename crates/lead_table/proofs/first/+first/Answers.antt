use Rattle.std.proofs.Common.{◌≡◌, ℕ, ◌+◌, List, ◌∷◌, ◌++◌, [], Bor, Bool, true, false, sym, ap, subst, ◌∙◌, map, drop, refl, arith}
use Rattle.std.specs.Prelude.{IsTrue, not, Option, Some, None}
use Rattle.std.proofs.lemmas.Bool.{true≢false}
use Rattle.std.proofs.lemmas.Result.{IfOk-weaker}
use Rattle.std.proofs.lemmas.List.{map-append}
use Rattle.bit_slice.specs.declared.name.Name.{Name}
use Rattle.tlb_syntax.specs.Tree.{ExprView, ItemView, ItemList, TypeView, named, no_exprs, group, implicit, check, explicit, an_item}
use Rattle.tlb_syntax.specs.View.{expr, exprs, items, item, field_type}
use Rattle.kind_terms.specs.ViewLaws.{seen_named, seen_group, seen_implicit, seen_check, seen_explicit, has_exprs_seen, item_at, item_end}
use Rattle.kind_terms.specs.SumLaws.{of_sum}
use Rattle.kind_terms.specs.Words.{is_among}
use Rattle.kind_terms.specs.Types.{has_exprs}
use Rattle.tlb_guard.specs.Numbering.{views}
use Rattle.schema_core.specs.Names.{Names}
use Rattle.schema_core.specs.CoreOf.{body_of, items_of}
use Rattle.schema_leads.specs.Leads.{First, anything, first_of, first_of_type}
use Rattle.lead_table.specs.declared.first.First.TheVariants.{Anything}
use Rattle.lead_table.specs.Heads.{IsFirst, first_by}
use Rattle.lead_table.specs.Scoping.{names_of, IsFirstOfField, first_of_body}
use Rattle.lead_table.proofs.Firsts.{hidden, by_word, IsRest, whole_rest, rest_implicit, rest_check, rest_explicit, rest_end, field_plain, seen_plain}
use Rattle.lead_table.proofs.first.+first.Goals as goal
use Rattle.lead_table.proofs.first.+first.Goals.{first_in-in-Implicit+in_ok-push-in-Implicit, first_in-in-Check, first_of_type-else-is_empty-via-then-is_empty+else-is_among, first_of_type-else-is_empty-via-else-is_empty}

pub first_in-loop-item-init : goal.first_in-loop-item-init
first_in-loop-item-init t c = λ names next place unnamed same.
    whole_rest (views c.args.types.now) names next place unnamed (items c.args.items.now) (map (λ n. n.now) c.args.scope.now) same

pub first_in-returns-in-Explicit : goal.first_in-returns-in-Explicit
first_in-returns-in-Explicit t c =
    IfOk-weaker c.first_of_field.result _ _
    (λ f h. λ names next place unnamed same.
    let s = views c.args.types.now in
    let i = c.loop-item.item-index in
    let rest = items (drop (i + 1) c.args.items.now) in
    let before = c.loop-item.invariant names next place unnamed same in
    let seen = item_at c.args.items.now i c.item-item.result c.loop-item-test.true c.item-item.is
    ∙ ap (λ x. an_item x rest) (seen_explicit c.item-item.result c.in-Explicit.field-0 c.in-Explicit.t c.in-Explicit.is) in
    let R : ItemList → Type 0 = λ z. IsRest s names next place unnamed (items c.args.items.now) (map (λ n. n.now) c.loop-item.scope) z in
    rest_explicit s names next place unnamed (items c.args.items.now) (map (λ n. n.now) c.loop-item.scope) c.in-Explicit.field-0 (field_type c.in-Explicit.t) rest f
    (subst R seen before) h)
    c.first_of_field.ensures

pub first_in-loop-item-preserved : goal.first_in-loop-item-preserved
first_in-loop-item-preserved t c = λ names next place unnamed same.
    let s = views c.args.types.now in
    let i = c.loop-item.item-index in
    let rest = items (drop (i + 1) c.args.items.now) in
    let before = c.loop-item.invariant names next place unnamed same in
    let at = item_at c.args.items.now i c.item-item.result c.loop-item-test.true c.item-item.is in
    let R : ItemList → Type 0 = λ z. IsRest s names next place unnamed (items c.args.items.now) (map (λ n. n.now) c.loop-item.scope) z in
    let now = subst R at before in
    elim c.match-item.branch [
      | first_in-in-Implicit+in_ok-push-in-Implicit w ↦
          let grown = ap (λ (ns : List (Bor Name)). map (λ (n : Bor Name). n.now) ns) (w.scope-is ∙ w.in_ok-push-in-Implicit.ensures.ok)
          ∙ map-append (λ (n : Bor Name). n.now) c.loop-item.scope _ in
          let V : ItemView → Type 0 = λ v. IsRest s names next place unnamed (items c.args.items.now) (map (λ n. n.now) c.loop-item.scope) (an_item v rest) in
          let Q : List (List ℕ) → Type 0 = λ ws. IsRest s names next place unnamed (items c.args.items.now) ws rest in
          subst Q (sym grown)
          (rest_implicit s names next place unnamed (items c.args.items.now) (map (λ n. n.now) c.loop-item.scope) w.in-Implicit.name w.in-Implicit.field-1 rest
          (subst V (seen_implicit c.item-item.result w.in-Implicit.name w.in-Implicit.field-1 w.in-Implicit.is) now))
      | first_in-in-Check w ↦
          let V : ItemView → Type 0 = λ v. IsRest s names next place unnamed (items c.args.items.now) (map (λ n. n.now) c.loop-item.scope) (an_item v rest) in
          let kept = ap (λ (ns : List (Bor Name)). map (λ (n : Bor Name). n.now) ns) w.scope-is in
          let Q : List (List ℕ) → Type 0 = λ ws. IsRest s names next place unnamed (items c.args.items.now) ws rest in
          subst Q (sym kept)
          (rest_check s names next place unnamed (items c.args.items.now) (map (λ n. n.now) c.loop-item.scope) (expr w.in-Check.field-0) w.in-Check.field-1 (expr w.in-Check.field-2) rest
          (subst V (seen_check c.item-item.result w.in-Check.field-0 w.in-Check.field-1 w.in-Check.field-2 w.in-Check.is) now))
    ]

pub first_in-returns : goal.first_in-returns
first_in-returns t c = λ names next place unnamed same.
    let s = views c.args.types.now in
    let end = item_end c.args.items.now c.loop-item.item-index (omega arith) in
    let R : ItemList → Type 0 = λ z. IsRest s names next place unnamed (items c.args.items.now) (map (λ n. n.now) c.loop-item.scope) z in
    rest_end s names next place unnamed (items c.args.items.now) (map (λ n. n.now) c.loop-item.scope)
    (subst R end (c.loop-item.invariant names next place unnamed same))

pub first_of_field-returns-in-Plain : goal.first_of_field-returns-in-Plain
first_of_field-returns-in-Plain t c =
    IfOk-weaker c.first_of_type.result _ _
    (λ f h. λ names same.
    field_plain (views c.args.types.now) names f (field_type c.args.t.now) (expr c.in-Plain.e) (seen_plain c.args.t.now c.in-Plain.e c.in-Plain.is)
    (λ next. h names next same))
    c.first_of_type.ensures

pub first_of_type-returns-then-is_among : goal.first_of_type-returns-then-is_among
first_of_type-returns-then-is_among t c = λ names next same.
    let s = views c.args.types.now in
    let empty : c.in-Named.args ≡ [] = c.is_empty.ensures.0 c.if-is_empty.true in
    let view : expr c.args.e.now ≡ named c.in-Named.name no_exprs =
    seen_named c.args.e.now c.in-Named.name c.in-Named.args c.in-Named.is ∙ ap (λ es. named c.in-Named.name (exprs es)) empty in
    let scope = ap (λ (ns : List (Bor Name)). is_among (map (λ (n : Bor Name). n.now) ns) c.in-Named.name) c.as_slice.ensures in
    let among : is_among (names_of names) c.in-Named.name ≡ true =
    ap (λ ws. is_among ws c.in-Named.name) (sym same) ∙ sym scope ∙ sym c.is_among.ensures ∙ c.if-is_among.true in
    let P : ExprView → Type 0 = λ v. IsFirst s Anything (first_of_type (body_of s names next v)) in
    subst P (sym view) (hidden s names next c.in-Named.name among)

pub first_of_type-returns-else-is_empty : goal.first_of_type-returns-else-is_empty
first_of_type-returns-else-is_empty t c = λ names next same.
    let s = views c.args.types.now in
    let name = c.in-Named.name in
    let view : expr c.args.e.now ≡ named name (exprs c.in-Named.args) = seen_named c.args.e.now name c.in-Named.args c.in-Named.is in
    let P : ExprView → Type 0 = λ v. IsFirst s c.first_of_word.result (first_of_type (body_of s names next v)) in
    elim c.else-is_empty.branch [
      | first_of_type-else-is_empty-via-then-is_empty+else-is_among w ↦
          let scope = ap (λ (ns : List (Bor Name)). is_among (map (λ (n : Bor Name). n.now) ns) name) w.as_slice.ensures in
          let among : is_among (names_of names) name ≡ false =
          ap (λ ws. is_among ws name) (sym same) ∙ sym scope ∙ sym w.is_among.ensures ∙ w.if-is_among.false in
          subst P (sym view) (by_word s names next name (exprs c.in-Named.args) c.first_of_word.result c.first_of_word.ensures (λ e. among))
      | first_of_type-else-is_empty-via-else-is_empty w ↦
          let many : has_exprs (exprs c.in-Named.args) ≡ true =
          sym (has_exprs_seen c.in-Named.args c.is_empty.result c.is_empty.ensures) ∙ ap not w.if-is_empty.false in
          subst P (sym view) (by_word s names next name (exprs c.in-Named.args) c.first_of_word.result c.first_of_word.ensures
          (λ e. absurd (true≢false (sym many ∙ e))))
    ]

pub first_of_type-returns-in-Group : goal.first_of_type-returns-in-Group
first_of_type-returns-in-Group t c =
    IfOk-weaker c.first_in.result _ _
    (λ f h. λ names next same.
    let s = views c.args.types.now in
    let P : ExprView → Type 0 = λ v. IsFirst s f (first_of_type (body_of s names next v)) in
    let given = ap items c.as_slice-in-Group.ensures in
    subst P (sym (seen_group c.args.e.now c.in-Group.items c.in-Group.is ∙ ap group (sym given))) (h names next 1 0 same))
    c.first_in.ensures

pub first_of_type-returns-in-Sum : goal.first_of_type-returns-in-Sum
first_of_type-returns-in-Sum t c = λ names next same.
    let s = views c.args.types.now in
    record {
      is = of_sum (λ v. first_of_type (body_of s names next v)) anything (λ a b. refl) c.args.e.now _ _ _ c.in-Sum.is;
      numbered = tt;
    }
