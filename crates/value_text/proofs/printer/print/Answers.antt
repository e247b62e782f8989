use Rattle.std.proofs.Common.{◌≡◌, rules}
use Rattle.typed_value.specs.View.{value}
use Rattle.value_text.specs.Text.{text_of}
use Rattle.value_text.specs.WritesLaws.{writes-text}
use Rattle.value_text.proofs.printer.print.Goals as goal

pub returns-clause-writes : goal.returns-clause-writes
returns-clause-writes c =
    let e : c.put_value.new.text.items ≡ text_of (value c.args.shown.now) = search rules in
    λ w. writes-text (value c.args.shown.now) c.put_value.new.text.items e w
