use Rattle.std.proofs.Common.{◌∙◌, ap, sym}
use Rattle.tlb_syntax.specs.View.{expr}
use Rattle.type_word.specs.Signs.{refused_signs}
use Rattle.type_word.specs.Scanning.{place_in}
use Rattle.type_word.specs.Views.{scan_by}
use Rattle.type_word.proofs.Scans.{found}
use Rattle.type_word.proofs.signs.refused_sign.Goals as goal

pub returns-in-Refused : goal.returns-in-Refused
returns-in-Refused c = sym (ap (λ r. place_in (scan_by r)) c.in-Refused.is) ∙ found (scan_by c.read_signs.result) (refused_signs (expr c.args.e.now)) c.args.places.now c.read_signs.ensures

pub returns-in-Passed : goal.returns-in-Passed
returns-in-Passed c = sym (ap (λ r. place_in (scan_by r)) c.in-Passed.is) ∙ found (scan_by c.read_signs.result) (refused_signs (expr c.args.e.now)) c.args.places.now c.read_signs.ensures
