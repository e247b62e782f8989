use Rattle.std.proofs.Common.{◌≡◌, ◌<◌, ◌∙◌, ap, sym, true, take, map, length, get_or, arith}
use Rattle.tlb_syntax.specs.declared.tree.Constructor.{Constructor}
use Rattle.tlb_syntax.specs.View.{constructor}
use Rattle.kind_terms.specs.Classes.{is_dictionary}
use Rattle.kind_terms.specs.Dictionaries.{without_dictionaries}
use Rattle.tlb_kinds.proofs.Loops.{removed, prefix_kept, length-removed}
use Rattle.tlb_kinds.proofs.check.without_dictionaries.Goals as goal

pub loop-at-smaller-then-is_passed_over : goal.loop-at-smaller-then-is_passed_over
loop-at-smaller-then-is_passed_over c =
    let less = length-removed c.loop-at.constructors c.loop-at.at (omega (arith, c.len.ensures, c.loop-at-test.true)) in
    let is = ap length c.remove.ensures.rest in
    omega (arith, less, is, c.len.ensures, c.loop-at-test.true)

pub loop-at-preserved-then-is_passed_over : goal.loop-at-preserved-then-is_passed_over
loop-at-preserved-then-is_passed_over c =
    let xs = c.loop-at.constructors in
    let i = c.loop-at.at in
    let lt : i < length xs = omega (arith, c.len.ensures, c.loop-at-test.true) in
    let rest = c.remove.ensures.rest in
    let less = length-removed xs i lt in
    let is = ap length rest in
    let prefix = ap (take i) rest ∙ prefix_kept xs i (omega (arith, lt)) in
    let this = c.index-as_slice-at.result in
    let there : this ≡ get_or xs i this = c.index-as_slice-at.is ∙ ap (λ z. get_or z i this) c.as_slice.ensures in
    let named : c.text.result.now ≡ this.result = c.text.ensures.value ∙ ap (λ (z : Constructor). z.result) (sym c.index-as_slice-at.is) in
    let dictionary : is_dictionary this.result ≡ true = ap is_dictionary (sym named) ∙ sym c.is_dictionary-is_passed_over.ensures ∙ c.if-is_passed_over.true in
    record {
      within = omega (arith, less, is, lt);
      prefix = ap (λ z. without_dictionaries (map constructor z)) prefix ∙ c.loop-at.invariant.prefix ∙ ap (map constructor) (sym prefix);
      same = ap (λ z. without_dictionaries (map constructor z)) rest ∙ removed xs i this lt there dictionary ∙ c.loop-at.invariant.same;
    }
