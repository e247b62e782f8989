-- What is written of a label.
use Rattle.std.specs.Prelude.{◌≡◌, ℕ, List, [], ◌++◌}
use Rattle.cell_nodes.specs.Held.{Held}
use Rattle.hashmap_labels.specs.Labels.{IsLabel}
use Rattle.hashmap_labels.specs.declared.forms.Forms.TheVariants.{Required}

-- the builder holds the label of these bits in its required form besides what it held
abbrev pub WritesLabel : ℕ → List ℕ → Held → Held → Type 0
WritesLabel n bits old new =
    (label : List ℕ) × IsLabel Required n bits label [] × (new.bits ≡ old.bits ++ label) × (new.refs ≡ old.refs)
