-- Values of this crate, seen without where they lie in memory.
use Rattle.closed_type.specs.View.{closed_type}
use Rattle.proof_view.specs.declared.viewing.Viewed.{Viewed}
use Rattle.typed_value.specs.View.{value}
use Rattle.cli_stages.specs.Proof.{ProofShows}
use Rattle.cli_stages.specs.TypeWord.{ShownType}
use Rattle.cli_stages.specs.declared.named_type.ShownType.{ShownType as Held}

abbrev pub type_by : Held → ShownType
type_by type = record { closed = closed_type type.closed; text = type.text.items }

abbrev pub shown_by : Viewed → ProofShows
shown_by viewed = record { value = value viewed.value; hash = viewed.hash }
