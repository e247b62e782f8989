use Rattle.value_text.proofs.PathUnique.{not_both, one_path, one_place}
use Rattle.value_text.proofs.laws.at_most_one_path.Goals as goal

pub returns : goal.returns
returns c = record { path = one_path; place = one_place; not_both = not_both }
