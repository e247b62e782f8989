use Rattle.std.proofs.Common.{sym, get_or}
use Rattle.tlb_lexer.proofs.OneTokenization.{advances}
use Rattle.tlb_lexer.proofs.StretchOf.{stretch_of_bytes}
use Rattle.tlb_lexer.proofs.scan.first_stretch.Goals as goal

pub returns-clause-first : goal.returns-clause-first
returns-clause-first c =
    let text = c.args.text.now in
    stretch_of_bytes text c.stretch_by.result c.requires.not_ended (c.stretch_by.ensures (get_or text 0 0) (sym c.class_of.ensures))

pub returns-clause-advances : goal.returns-clause-advances
returns-clause-advances c =
    let text = c.args.text.now in
    advances text c.stretch_by.result (stretch_of_bytes text c.stretch_by.result c.requires.not_ended (c.stretch_by.ensures (get_or text 0 0) (sym c.class_of.ensures)))
