use Rattle.std.proofs.Common.{◌≡◌, ◌++◌, drop, map}
use Rattle.tlb_syntax.specs.Text.{addends_text, spaced, spaced_items}
use Rattle.tlb_syntax.specs.View.{expr, exprs, items}
use Rattle.tlb_syntax.proofs.text.+print.Given as goal

abbrev pub invariant-put_exprs-list : goal.invariant-put_exprs-list
invariant-put_exprs-list l = l.text.items ++ spaced (exprs (drop l.e-index l.list)) ≡ l.fn.text.items ++ spaced (exprs l.list)

abbrev pub invariant-put_items-list : goal.invariant-put_items-list
invariant-put_items-list l = l.text.items ++ spaced_items (items (drop l.i-index l.list)) ≡ l.fn.text.items ++ spaced_items (items l.list)

abbrev pub invariant-put_addends-terms : goal.invariant-put_addends-terms
invariant-put_addends-terms l = l.text.items ++ addends_text (map expr (drop l.term-index l.terms)) ≡ l.fn.text.items ++ addends_text (map expr l.terms)
