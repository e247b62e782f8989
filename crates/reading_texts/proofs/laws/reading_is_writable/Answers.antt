use Rattle.reading_texts.proofs.Items.{schema-named}
use Rattle.reading_texts.proofs.Values.{reading-writable}
use Rattle.reading_texts.proofs.laws.reading_is_writable.Goals as goal

pub returns : goal.returns
returns c = λ s ok t closed v tree is.
    reading-writable _ (schema-named c.kept_stays_within.ensures s ok) t closed v tree is
