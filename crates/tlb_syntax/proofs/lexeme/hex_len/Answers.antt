use Rattle.std.proofs.Common.{◌∙◌, sym, ap, length}
use Rattle.std.specs.Prelude.{◌==◌}
use Rattle.std.proofs.lemmas.Bool.{false≢true}
use Rattle.tlb_syntax.proofs.TagBits.{too-many-digits, HasBits-whole, HasBits-none, digits-prefix, HasBits-counted, no-elements}
use Rattle.tlb_syntax.proofs.lexeme.hex_len.Goals as goal

pub returns-then-digits : goal.returns-then-digits
returns-then-digits c = HasBits-whole c.args.digits.now c.requires c.in_default.ensures c.if-digits.true

pub returns-else-digits : goal.returns-else-digits
returns-else-digits c = too-many-digits c.args.digits.now c.in_default.ensures c.if-digits.false

pub completed_len-requires : goal.completed_len-requires
completed_len-requires c = digits-prefix c.args.digits.now c.in-Some.prefix.now c.in-Some.ensures c.requires

pub returns-else-is_empty : goal.returns-else-is_empty
returns-else-is_empty c =
    HasBits-counted c.args.digits.now c.in-Some.prefix.now c.completed_len.result c.in-Some.ensures
    (λ e. false≢true (c.if-is_empty.ensures ∙ ap (λ x. length x == 0) e)) c.requires c.completed_len.ensures

pub returns-then-is_empty : goal.returns-then-is_empty
returns-then-is_empty c =
    HasBits-none c.args.digits.now c.in-Some.prefix.now c.in-Some.ensures (no-elements c.in-Some.prefix.now (sym c.if-is_empty.ensures))
