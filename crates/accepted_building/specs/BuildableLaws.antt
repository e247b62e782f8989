-- An accepted schema has all that the laws of building need, so what is built of a value in range is its one tree.
use Rattle.std.proofs.Common.{◌≡◌, Ok, Err}
use Rattle.cell_nodes.specs.declared.tree.Mode.{Mode}
use Rattle.cell_nodes.specs.declared.tree.Tree.{Tree}
use Rattle.hashmap_labels.specs.declared.forms.Forms.TheVariants.{Required}
use Rattle.hashmap_tree.specs.Dict.{forms_of}
use Rattle.tlb_syntax.specs.Tree.{SchemaView}
use Rattle.tlb_kinds.specs.Laws.{KeptStaysWithin}
use Rattle.typed_value.specs.Values.{Plain}
use Rattle.core_form.specs.Core.{CoreSchema}
use Rattle.core_form.specs.Closed.{Closed}
use Rattle.spelling.specs.Places.{Place}
use Rattle.building.specs.Buildable.{IsBuildable, InRange}
use Rattle.building.specs.PlainBuilder.{build}
use Rattle.building_laws.specs.Laws as laws
use Rattle.accepted_schema.specs.Accepted.{IsAccepted, kept_cores}
use Rattle.accepted_spelling.specs.Laws.{AcceptedIsAcceptable}
use Rattle.accepted_building.specs.Laws.{IsOneTreeOf, IsOnePlaceOf}
use Rattle.accepted_building.specs.NamesLaws.{accepted_shown_apart}
use Rattle.accepted_building.specs.TagLaws.{accepted_tags}

pub accepted_is_buildable : AcceptedIsAcceptable → KeptStaysWithin → (s : SchemaView) → IsAccepted s
    → IsBuildable (kept_cores s)
accepted_is_buildable acceptable within s ok = record {
  acceptable = acceptable s ok;
  names = accepted_shown_apart within s ok;
  tags = accepted_tags within s ok;
}

pub built_is_one : laws.BuiltIsTree → laws.OneTree → (mode : Mode) → forms_of mode ≡ Required → (schema : CoreSchema)
    → IsBuildable schema → (t : Closed) (v : Plain) → InRange v → (c : Tree) → build mode schema t v ≡ Ok c
    → IsOneTreeOf mode schema t v c
built_is_one sound one mode req schema ok t v range c e =
    let is = sound mode req schema ok t v range c e in
    record {
      tree = is;
      only = λ d fine reading. one mode req schema ok t v range d c fine is.good reading is.reading;
    }

pub stops_at_one : laws.StopsWhereUnfit → laws.OnePlace → laws.NoTreeWhereUnfit → (mode : Mode)
    → forms_of mode ≡ Required → (schema : CoreSchema) → IsBuildable schema → (t : Closed) (v : Plain) → InRange v
    → (p : Place) → build mode schema t v ≡ Err p → IsOnePlaceOf mode schema t v p
stops_at_one stops one none mode req schema ok t v range p e =
    let is = stops mode req schema ok t v range p e in
    record {
      unfit = is;
      only = λ q other. one mode req schema ok t v range q p other is;
      no_tree = λ d tree. none mode req schema ok t v range d p tree is;
    }
