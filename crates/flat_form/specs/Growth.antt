-- Lists that only grow at their ends.
use Rattle.std.specs.Prelude.{◌≡◌, ◌++◌, List}
use Rattle.flat_form.specs.Sound.{IsFlat}
use Rattle.flat_form.specs.declared.lists.Flat.{Flat}

-- the second list is the first with more at its end
pub record Begins {A : Type 0} (xs ys : List A) : Type 0 where
  pub more : List A
  pub is : ys ≡ xs ++ more

pub record Grows (f g : Flat) : Type 0 where
  pub ops : Begins f.ops g.ops
  pub types : Begins f.types g.types
  pub args : Begins f.args g.args
  pub exprs : Begins f.exprs g.exprs
  pub names : Begins f.names g.names

-- the lists have grown, and each node is sound
pub record Adds (f g : Flat) : Type 0 where
  pub flat : IsFlat g
  pub grows : Grows f g
