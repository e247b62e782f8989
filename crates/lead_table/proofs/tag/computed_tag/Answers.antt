use Rattle.std.proofs.Common.{rules, ◌≡◌, ◌∙◌, ap, sym, refl}
use Rattle.schema_leads.specs.Tags.{computed_tag}
use Rattle.lead_table.proofs.tag.computed_tag.Goals as goal

pub returns-in-Ok : goal.returns-in-Ok
unfolding computed_tag
returns-in-Ok c = search rules
