-- What values of some forms stand for.
use Rattle.std.proofs.Common.{◌≡◌, rules}
use Rattle.cell_nodes.specs.declared.tree.Tree.{Tree}
use Rattle.typed_value.specs.Values.{absent, raw, ref_to}
use Rattle.typed_value.specs.View.{value}
use Rattle.typed_value.specs.declared.value.Value.{Value}
use Rattle.typed_value.specs.declared.value.Value.TheFolds.{the_lemmas}
use Rattle.typed_value.specs.declared.value.Value.TheVariants.{Absent, Raw, Ref}

pub raw_seen : (c : Tree) → value (Raw c) ≡ raw c
raw_seen c = search (rules, the_lemmas)

pub absent_seen : value Absent ≡ absent
absent_seen = search (rules, the_lemmas)

pub ref_seen : (v : Value) → value (Ref v) ≡ ref_to tt (value v)
ref_seen v = search (rules, the_lemmas)
