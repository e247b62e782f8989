use Rattle.strict_laws.proofs.Less.{less_self}
use Rattle.strict_laws.proofs.laws.strict_stays.Goals as goal

pub returns : goal.returns
returns c = λ schema t v a d e.
    let tree = e.strict.tree in (
      record { good = tree.good; reading = c.whole_is_lax.ensures schema t v d tree.reading; small = tree.small },
      record { strict = record { tree = tree; shape = (less_self d tree.good).shape }; only = e.only },
    )
