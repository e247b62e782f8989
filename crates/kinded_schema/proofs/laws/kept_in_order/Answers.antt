use Rattle.kinded_schema.specs.SchemaLaws.{kept_in_order}
use Rattle.kinded_schema.proofs.laws.kept_in_order.Goals as goal

pub returns : goal.returns
returns c = kept_in_order
