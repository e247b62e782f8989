use Rattle.std.proofs.Common.{◌≡◌, ◌≤◌, ◌∙◌, ap, sym, subst, map, length, arith, [], ◌++◌, List}
use Rattle.std.proofs.lemmas.List.{length-map}
use Rattle.std.proofs.lemmas.Result.{err_from_is_err_and}
use Rattle.tlb_syntax.specs.declared.tree.Constructor.{Constructor}
use Rattle.tlb_syntax.specs.Limits.{AreConstructors}
use Rattle.tlb_syntax.specs.Tree.{SchemaView}
use Rattle.tlb_syntax.specs.View.{constructor, schema}
use Rattle.kind_terms.specs.Dictionaries.{without_dictionaries}
use Rattle.tlb_kinds.specs.Answers.{IsFirst}
use Rattle.tlb_kinds.specs.Refusals.{kept_of, of_headings, ordinary, refusals, refusals_within}
use Rattle.tlb_kinds.proofs.Firsts.{is_first_more, is_first_later}
use Rattle.tlb_kinds.proofs.Loops.{kept_within, kept_few, ordinary_few}
use Rattle.tlb_kinds.proofs.check.judge.Goals as goal

pub judge_headings-requires : goal.judge_headings-requires
judge_headings-requires c =
    let s = schema c.args.schema in
    let seen : map constructor c.as_slice.result.now ≡ ordinary s = ap (map constructor) c.as_slice.ensures ∙ c.without_exotic-ordinary.ensures in
    let size = length-map c.as_slice.result.now constructor in
    let same = ap length seen in
    let few = ordinary_few s in
    let all = c.requires.counts.all in
    omega (arith, size, same, few, all)

pub returns-in_err-judge_headings : goal.returns-in_err-judge_headings
unfolding refusals
returns-in_err-judge_headings c =
    let s = schema c.args.schema in
    let seen : map constructor c.as_slice.result.now ≡ ordinary s = ap (map constructor) c.as_slice.ensures ∙ c.without_exotic-ordinary.ensures in
    let p = err_from_is_err_and c.from_residual.result c.from_residual.ensures.1 in
    let P : SchemaView → Type 0 = λ z. IsFirst (of_headings [] z) c.in_err-judge_headings.field-0.0 in
    rw (p.1, p.2)
    (is_first_more (of_headings [] (ordinary s)) (refusals_within (kept_of s)) c.in_err-judge_headings.field-0.0
    (subst P seen c.in_err-judge_headings.ensures))

pub judge_kept-requires-clause-bounded : goal.judge_kept-requires-clause-bounded
judge_kept-requires-clause-bounded c =
    let s = schema c.args.schema in
    let seen : map constructor c.as_slice-2.result.now ≡ kept_of s =
    ap (map constructor) c.as_slice-2.ensures ∙ c.without_dictionaries-kept.ensures ∙ ap without_dictionaries c.without_exotic-ordinary.ensures in
    let size = length-map c.as_slice-2.result.now constructor in
    let same = ap length seen in
    let few = kept_few s in
    let all = c.requires.counts.all in
    omega (arith, size, same, few, all)

pub judge_kept-requires-clause-within : goal.judge_kept-requires-clause-within
judge_kept-requires-clause-within c =
    let s = schema c.args.schema in
    let seen : map constructor c.as_slice-2.result.now ≡ kept_of s =
    ap (map constructor) c.as_slice-2.ensures ∙ c.without_dictionaries-kept.ensures ∙ ap without_dictionaries c.without_exotic-ordinary.ensures in
    subst AreConstructors (sym seen) (kept_within s c.requires.constructors)

pub returns-in_err-judge_kept : goal.returns-in_err-judge_kept
unfolding refusals
returns-in_err-judge_kept c =
    let s = schema c.args.schema in
    let before : map constructor c.as_slice.result.now ≡ ordinary s = ap (map constructor) c.as_slice.ensures ∙ c.without_exotic-ordinary.ensures in
    let seen : map constructor c.as_slice-2.result.now ≡ kept_of s =
    ap (map constructor) c.as_slice-2.ensures ∙ c.without_dictionaries-kept.ensures ∙ ap without_dictionaries c.without_exotic-ordinary.ensures in
    let none : of_headings [] (ordinary s) ≡ [] = ap (of_headings []) (sym before) ∙ c.in_ok-judge_headings.ensures in
    let p = err_from_is_err_and c.from_residual-in_err-judge_kept.result c.from_residual-in_err-judge_kept.ensures.1 in
    let P : SchemaView → Type 0 = λ z. IsFirst (refusals_within z) c.in_err-judge_kept.field-0.0 in
    rw (p.1, p.2)
    (is_first_later (of_headings [] (ordinary s)) (refusals_within (kept_of s)) c.in_err-judge_kept.field-0.0 none (subst P seen c.in_err-judge_kept.ensures))

pub returns : goal.returns
unfolding refusals
returns c =
    let s = schema c.args.schema in
    let before : map constructor c.as_slice.result.now ≡ ordinary s = ap (map constructor) c.as_slice.ensures ∙ c.without_exotic-ordinary.ensures in
    let kept = c.without_dictionaries-kept.ensures ∙ ap without_dictionaries c.without_exotic-ordinary.ensures in
    let seen : map constructor c.as_slice-2.result.now ≡ kept_of s = ap (map constructor) c.as_slice-2.ensures ∙ kept in
    let none : of_headings [] (ordinary s) ≡ [] = ap (of_headings []) (sym before) ∙ c.in_ok-judge_headings.ensures in (
      ap (λ z. z ++ refusals_within (kept_of s)) none ∙ ap refusals_within (sym seen) ∙ c.in_ok-judge_kept.ensures,
      kept,
    )
