use Rattle.std.proofs.Common.{refl}
use Rattle.cli_refusals.proofs.Shown.{shown_by}
use Rattle.cli_refusals.proofs.place_lines.shown.Goals as goal

pub returns-in-Some : goal.returns-in-Some
returns-in-Some c = rw (shown_by _ _ _ _ c.in-Some.ensures) c.text.ensures.value

pub returns-in-None : goal.returns-in-None
returns-in-None c = rw (shown_by _ _ _ _ c.in-None.ensures) refl
