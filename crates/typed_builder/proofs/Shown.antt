-- What a value is, and what it gives at a shape.
use Rattle.std.proofs.Common.{◌≡◌, ℕ, true, List, Option, Some, None, Result, Ok, Err, is_some, ap, sym, ◌∙◌}
use Rattle.cell_nodes.specs.declared.tree.Hidden.{Hidden}
use Rattle.cell_nodes.specs.declared.tree.Mode.{Mode}
use Rattle.cell_nodes.specs.declared.tree.Tree.{Tree}
use Rattle.core_form.specs.Closed.{Closed}
use Rattle.core_form.specs.Core.{CoreSchema, Word}
use Rattle.hashmap_tree.specs.Dict.{unseen}
use Rattle.spelling.specs.Goals.{at_cell, typed}
use Rattle.spelling.specs.Places.{Place, Spot, stuck}
use Rattle.spelling.specs.PlainReader.{◌>>=◌}
use Rattle.spelling.specs.declared.Cause.TheVariants.{Shape}
use Rattle.typed_value.specs.Values.{Plain, Plains, raw, record_of}
use Rattle.building.specs.Growing.{Grown, empty}
use Rattle.building.specs.PlainBuilder.{Made, Maker, finished, make_cell, make_shape, record_at}
use Rattle.typed_builder.specs.View.{cell_of_shape}

-- a cell that would be read as hidden
pub seen_stuck : (mode : Mode) (schema : CoreSchema) (R : Maker) (h : Spot) (q : ℕ) (v : Plain) (c : Tree)
    (o : Option Hidden) → v ≡ raw c → o ≡ unseen mode c → is_some o ≡ true
    → cell_of_shape mode schema R h q v ≡ Err (stuck h Shape)
seen_stuck mode schema R h q v c None is seen some = cc
seen_stuck mode schema R h q v c (Some x) is seen some =
    ap (cell_of_shape mode schema R h q) is
    ∙ ap (λ o. make_cell h o c empty >>= (λ (y : Made). Ok (finished at_cell y.1.held))) (sym seen)

-- a record at a closed type
pub as_record : (mode : Mode) (schema : CoreSchema) (R : Maker) (h : Spot) (t : Closed) (q : ℕ) (v : Plain) (b : Grown)
    (name : Option Word) (names : List Word) (vs : Plains) → v ≡ record_of name names vs
    → make_shape mode schema R h (typed t) q v b ≡ record_at schema R h (typed t) q name names vs b
as_record mode schema R h t q v b name names vs is = ap (λ z. make_shape mode schema R h (typed t) q z b) is
