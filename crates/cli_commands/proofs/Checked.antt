-- What `check` puts for an accepted schema.
use Rattle.std.proofs.Common.{◌≡◌, ap, ℕ, List, Result, Ok, Err}
use Rattle.cli_refusals.specs.Refusal.{Refusal}
use Rattle.cli_stages.specs.Schema.{GivesAccepted, WritesAccepted}
use Rattle.cli_stages.specs.Stage.{goes_on, stops}
use Rattle.tlb_syntax.specs.Tree.{SchemaView}
use Rattle.cli_commands.specs.Check.{Checks, ChecksAccepted, count_line}

never : (r : Refusal) (text : List ℕ) → Ok text ≡ Err r → ⊥
never r text is = cc

same-text : (a b : List ℕ) → (◌≡◌ {A = Result (List ℕ) Refusal} (Ok a) (Ok b)) → a ≡ b
same-text a b is = cc

counted : GivesAccepted → (schema text : List ℕ) → Checks schema (Ok text)
    → (s : SchemaView) × WritesAccepted schema s × (text ≡ count_line s)
counted gives schema text (stops r first is) = absurd (never r text is)
counted gives schema text (goes_on s given is) = (s, (gives schema s).0 given, same-text text (count_line s) is)

checked : GivesAccepted → (schema text : List ℕ) → (s : SchemaView) × WritesAccepted schema s × (text ≡ count_line s)
    → Checks schema (Ok text)
checked gives schema text found = goes_on found.0 ((gives schema found.0).1 found.1) (ap Ok found.2)

pub checks-accepted : GivesAccepted → ChecksAccepted
checks-accepted gives schema text = (counted gives schema text, checked gives schema text)
