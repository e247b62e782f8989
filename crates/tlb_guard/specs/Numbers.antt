-- What is true of the fields of the types of a schema.
use Rattle.std.specs.Prelude.{ℕ, ◌≡◌, List, bytes_eq}
use Rattle.std.specs.HashMap.{get_by}
use Rattle.tlb_guard.specs.declared.types.Types.TheInside.{Inside}
use Rattle.tlb_guard.specs.Numbering.{place_of, views, width}

pub record AreNumbers (t : Inside) : Type 0 where
  pub first : (x : List ℕ) → get_by (λ k. bytes_eq x k.now) t.first ≡ place_of (views t.constructors.now) x
  pub width : t.width ≡ width (views t.constructors.now)
