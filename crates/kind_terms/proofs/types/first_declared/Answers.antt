use Rattle.std.proofs.lemmas.Map.Text.{hash_map_updates_str}
use Rattle.kind_terms.proofs.TypeIndexes.{first_found}
use Rattle.kind_terms.proofs.types.first_declared.Goals as goal

pub returns : goal.returns
returns c = λ s none old.
    first_found c.args.by_name.now c.insert.new.self s c.args.added c.in_ok-kinds.kinds c.push.new.self c.in_ok-kinds.ensures
    (rw c.new-constructors.ensures at c.in_ok-push.ensures.ok)
    (λ x. hash_map_updates_str c.args.added.now.result c.args.by_name.now c.insert.new.self _ (rw c.text.ensures.value at c.in_ok-insert.ensures.updates) x) none old
