use Rattle.std.proofs.Common.{◌∙◌, ◌++◌, ◌∷◌, [], sym, ap, ◌-◌, ◌/◌, ◌%◌, ℕ, List, append_assoc, arith}
use Rattle.std.proofs.lemmas.List.{append-nil}
use Rattle.std.proofs.lemmas.Result.{IfOk-equal}
use Rattle.bag_cells.specs.Written.{number_bytes}
use Rattle.bag_cells.proofs.Widths.{number_bytes-none, number_bytes-more}
use Rattle.bag_cells.proofs.write.+push_number.Goals as goal

pub returns-then-width-eq0 : goal.returns-then-width-eq0
returns-then-width-eq0 t c = rw (c.if-width-eq0.true, number_bytes-none) (sym (append-nil _))

pub returns : goal.returns
returns t c =
    let before = c.args.bytes.now.items in
    let high = number_bytes (c.args.width - 1) (c.args.number / 256) in
    IfOk-equal c.push_byte.result _ _ _ c.push_byte.ensures
    (ap (λ (l : List ℕ). l ++ c.args.number % 256 ∷ []) c.in_ok-push_number.ensures
    ∙ append_assoc before high (c.args.number % 256 ∷ [])
    ∙ ap (λ (l : List ℕ). before ++ l) (sym (number_bytes-more c.args.width c.args.number (omega arith))))
