use Rattle.std.proofs.Common.{◌≡◌, ◌∙◌, ap, sym, rules, refl, ◌++◌, map, length}
use Rattle.std.specs.Prelude.{codes, replicate}
use Rattle.std.proofs.lemmas.Bool.{false≢true}
use Rattle.tlb_syntax.specs.declared.tree.Expr.{the_lemmas}
use Rattle.tlb_syntax.specs.Tree.{sum_of, named, star, out, ref, group}
use Rattle.tlb_syntax.specs.View.{expr, exprs, items}
use Rattle.tlb_syntax.specs.Text.{expr_text, addend_text, addends_text, spaced, spaced_items}
use Rattle.tlb_syntax.proofs.Texts.{along, joined, two, four, same-on_ok, named-text, written, sum-written}
use Rattle.tlb_syntax.proofs.text.+print.Goals as goal

pub put_expr-returns-else-is_empty : goal.put_expr-returns-else-is_empty
put_expr-returns-else-is_empty t c =
    let seen : expr c.args.e.now ≡ named c.in-Named.name (exprs c.in-Named.args) = rw c.in-Named.is (search (the_lemmas, rules)) in
    rw seen
    (same-on_ok c.put_applied.result _ _ _ _
    (ap (λ x. codes "(" ++ x ++ spaced (exprs c.as_slice.result.now) ++ codes ")") c.text-in-Named.ensures.value
    ∙ ap (λ x. codes "(" ++ c.in-Named.name ++ spaced (exprs x) ++ codes ")") c.as_slice.ensures
    ∙ named-text c.in-Named.name c.in-Named.args (λ e. false≢true (sym c.if-is_empty.false ∙ c.is_empty.ensures.1 e)))
    c.put_applied.ensures)

pub put_expr-returns-in_ok-put_addend-in-Sum : goal.put_expr-returns-in_ok-put_addend-in-Sum
put_expr-returns-in_ok-put_addend-in-Sum t c =
    let first = c.in-Sum.first in
    let second = c.in-Sum.second in
    let more = c.in-Sum.more in
    let seen : expr c.args.e.now ≡ sum_of (expr first) (expr second) (map expr more) = rw c.in-Sum.is (search (the_lemmas, rules)) in
    let list : c.as_slice-more.result.now ≡ more = c.as_slice-more.ensures in
    rw seen
    (sum-written c.put_addends.result c.args.text.now.items c.open.new.text.items c.extend_from_slice-in-Sum.new.self.items
    c.put_expr.new.text.items c.put_addend.new.text.items c.put_addends.new.text.items first second more
    (along c.in_ok-open-in-Sum.ensures (ap (λ x. c.args.text.now.items ++ replicate (length x) 40) list))
    c.in_ok-extend_from_slice-in-Sum.ensures.items
    (along c.in_ok-put_expr-in-Sum.ensures (ap (λ x. c.extend_from_slice-in-Sum.new.self.items ++ expr_text (expr x)) c.get.ensures))
    (along c.in_ok-put_addend-in-Sum.ensures (ap (λ x. c.put_expr.new.text.items ++ addend_text (expr x)) c.get-in-Sum.ensures))
    (same-on_ok c.put_addends.result c.put_addends.new.text.items c.put_addend.new.text.items (addends_text (map expr c.as_slice-more.result.now)) (addends_text (map expr more))
    (ap (λ x. addends_text (map expr x)) list) c.put_addends.ensures))

pub put_expr-returns-in_ok-put_expr-in-Star-2 : goal.put_expr-returns-in_ok-put_expr-in-Star-2
put_expr-returns-in_ok-put_expr-in-Star-2 t c =
    let seen : expr c.args.e.now ≡ star (expr c.in-Star.left) (expr c.in-Star.right) = rw c.in-Star.is (search (the_lemmas, rules)) in
    rw seen
    (joined c.extend_from_slice-in-Star-3.result c.args.text.now.items c.put_expr-in-Star-2.new.text.items c.extend_from_slice-in-Star-3.new.self.items
    (codes "(" ++ expr_text (expr c.in-Star.left) ++ codes " * " ++ expr_text (expr c.in-Star.right)) (codes ")") (codes ")")
    (four c.args.text.now.items c.extend_from_slice-in-Star.new.self.items c.put_expr-in-Star.new.text.items c.extend_from_slice-in-Star-2.new.self.items c.put_expr-in-Star-2.new.text.items
    (codes "(") (expr_text (expr c.in-Star.left)) (codes " * ") (expr_text (expr c.in-Star.right))
    c.in_ok-extend_from_slice-in-Star.ensures.items
    (along c.in_ok-put_expr-in-Star.ensures (ap (λ x. c.extend_from_slice-in-Star.new.self.items ++ expr_text (expr x)) c.get-in-Star.ensures))
    c.in_ok-extend_from_slice-in-Star-2.ensures.items
    (along c.in_ok-put_expr-in-Star-2.ensures (ap (λ x. c.extend_from_slice-in-Star-2.new.self.items ++ expr_text (expr x)) c.get-in-Star-2.ensures)))
    refl
    (written c.extend_from_slice-in-Star-3.result c.extend_from_slice-in-Star-3.new.self.items c.put_expr-in-Star-2.new.text.items (codes ")") c.extend_from_slice-in-Star-3.ensures.items))

pub put_expr-returns-in_ok-extend_from_slice-in-Out : goal.put_expr-returns-in_ok-extend_from_slice-in-Out
put_expr-returns-in_ok-extend_from_slice-in-Out t c =
    let seen : expr c.args.e.now ≡ out (expr c.in-Out.inner) = rw c.in-Out.is (search (the_lemmas, rules)) in
    rw seen
    (joined c.put_expr-in-Out.result c.args.text.now.items c.extend_from_slice-in-Out.new.self.items c.put_expr-in-Out.new.text.items (codes "~") (expr_text (expr c.get-in-Out.result.now)) (expr_text (expr c.in-Out.inner))
    c.in_ok-extend_from_slice-in-Out.ensures.items (ap (λ x. expr_text (expr x)) c.get-in-Out.ensures) c.put_expr-in-Out.ensures)

pub put_expr-returns-in_ok-extend_from_slice-in-Ref : goal.put_expr-returns-in_ok-extend_from_slice-in-Ref
put_expr-returns-in_ok-extend_from_slice-in-Ref t c =
    let seen : expr c.args.e.now ≡ ref (expr c.in-Ref.inner) = rw c.in-Ref.is (search (the_lemmas, rules)) in
    rw seen
    (joined c.put_expr-in-Ref.result c.args.text.now.items c.extend_from_slice-in-Ref.new.self.items c.put_expr-in-Ref.new.text.items (codes "^") (expr_text (expr c.get-in-Ref.result.now)) (expr_text (expr c.in-Ref.inner))
    c.in_ok-extend_from_slice-in-Ref.ensures.items (ap (λ x. expr_text (expr x)) c.get-in-Ref.ensures) c.put_expr-in-Ref.ensures)

pub put_expr-returns-in_ok-put_items-in-Group : goal.put_expr-returns-in_ok-put_items-in-Group
put_expr-returns-in_ok-put_items-in-Group t c =
    let seen : expr c.args.e.now ≡ group (items c.in-Group.inner) = rw c.in-Group.is (search (the_lemmas, rules)) in
    rw seen
    (joined c.extend_from_slice-in-Group-2.result c.args.text.now.items c.put_items.new.text.items c.extend_from_slice-in-Group-2.new.self.items
    (codes "[" ++ spaced_items (items c.in-Group.inner)) (codes " ]") (codes " ]")
    (two c.args.text.now.items c.extend_from_slice-in-Group.new.self.items c.put_items.new.text.items (codes "[") (spaced_items (items c.in-Group.inner))
    c.in_ok-extend_from_slice-in-Group.ensures.items
    (along c.in_ok-put_items-in-Group.ensures (ap (λ x. c.extend_from_slice-in-Group.new.self.items ++ spaced_items (items x)) c.as_slice-in-Group.ensures)))
    refl
    (written c.extend_from_slice-in-Group-2.result c.extend_from_slice-in-Group-2.new.self.items c.put_items.new.text.items (codes " ]") c.extend_from_slice-in-Group-2.ensures.items))
