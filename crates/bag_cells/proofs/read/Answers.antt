use Rattle.std.proofs.Common.{◌≡◌, ◌∙◌, List, ℕ, ap, sym}
use Rattle.std.specs.Prelude.{Ok}
use Rattle.bag_cells.specs.Form.{raw_of, raw_of_hex, raw_of_base64, trimmed}
use Rattle.bag_cells.proofs.Answered.{answered_of, raw_form, lower_form, upper_form, base64_form}
use Rattle.bag_cells.proofs.read.Goals as goal
use Rattle.bag_cells.proofs.read.Goals.{then-first-eq98-via-then-first-eq98, then-first-eq98-via-else-first-eq98+then-first-eq66}

pub returns-then-first : goal.returns-then-first
returns-then-first c =
    answered_of c.args.file.now c.args.file.now c.read_raw.result (raw_form c.args.file.now c.first_byte-first.result c.first_byte-first.ensures c.if-first.true) c.read_raw.ensures

pub returns-then-first-eq98 : goal.returns-then-first-eq98
returns-then-first-eq98 c =
    let file = c.args.file.now in
    let first = c.first_byte-first.result in
    let spelled : raw_of file ≡ raw_of_hex (trimmed file) = elim c.then-first-eq98.branch [
      | then-first-eq98-via-then-first-eq98 w ↦ lower_form file first c.first_byte-first.ensures w.if-first-eq98.true
      | then-first-eq98-via-else-first-eq98+then-first-eq66 w ↦ upper_form file first c.first_byte-first.ensures w.if-first-eq66.true
    ] in
    let given : raw_of_hex (trimmed file) ≡ Ok c.in_ok-raw.raw.items = rw (← c.trimmed.ensures) c.in_ok-raw.ensures in
    answered_of file c.as_slice.result.now c.read_raw-then-first-eq98.result
    (spelled ∙ given ∙ ap (λ (bytes : List ℕ). Ok bytes) (sym c.as_slice.ensures.value)) c.read_raw-then-first-eq98.ensures

pub returns-then-first-eq116 : goal.returns-then-first-eq116
returns-then-first-eq116 c =
    let file = c.args.file.now in
    let spelled = base64_form file c.first_byte-first.result c.first_byte-first.ensures c.if-first-eq116.true in
    let given : raw_of_base64 (trimmed file) ≡ Ok c.in_ok-raw-2.raw.items = rw (← c.trimmed-then-first-eq116.ensures) c.in_ok-raw-2.ensures in
    answered_of file c.as_slice-then-first-eq116.result.now c.read_raw-then-first-eq116.result
    (spelled ∙ given ∙ ap (λ (bytes : List ℕ). Ok bytes) (sym c.as_slice-then-first-eq116.ensures.value)) c.read_raw-then-first-eq116.ensures
