-- What a place in a plan's schema stands for.
use Rattle.spelling.specs.Places as places
use Rattle.field_plan.specs.declared.place.Place.{Place}
use Rattle.field_plan.specs.declared.place.Holder.{Holder}
use Rattle.field_plan.specs.declared.place.Holder.TheVariants.{Root, Constructor}

abbrev pub holder_view : Holder → places.Holder
holder_view Root = places.root
holder_view (Constructor x n) = places.constructor_of x n

abbrev pub place_view : Place → places.Place
place_view p = record {
  spot = record { holder = holder_view p.holder; path = p.field.parts };
  cause = p.cause;
}
