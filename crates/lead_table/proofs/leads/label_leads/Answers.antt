use Rattle.std.proofs.Common.{rules, ◌≡◌, ◌∷◌, [], ◌∙◌, ap, sym, refl}
use Rattle.bit_slice.specs.Bits.{bits_from}
use Rattle.lead_table.proofs.leads.label_leads.Goals as goal

pub returns : goal.returns
unfolding bits_from
returns c = search rules
