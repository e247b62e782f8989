-- What a plan has of a constructor.
use Rattle.std.specs.Prelude.{◌≡◌, All, map, length}
use Rattle.core_form.specs.Core.{Constructor}
use Rattle.flat_form.specs.declared.lists.ConstructorPlan.{ConstructorPlan}
use Rattle.flat_form.specs.declared.lists.Flat.{Flat}
use Rattle.flat_form.specs.Stands.{expr_at, input_of, range, record_at}
use Rattle.flat_form.specs.Sound.{ConditionsGovern, IsPlainNumber, IsRange, OpsAreSound}

-- its operations, inputs and outputs stand for those of this core form
pub record StandsFor (f : Flat) (p : ConstructorPlan) (c : Constructor) : Type 0 where
  pub there : IsRange f.ops p.entry.first p.entry.count
  pub sound : OpsAreSound f (length f.types) (range f.ops p.entry.first p.entry.count)
  pub items : record_at f p.entry.first p.entry.count ≡ c.items
  pub slots : p.entry.slots ≡ c.slots
  pub inputs : map input_of p.inputs ≡ c.inputs
  pub plain : All (IsPlainNumber f) p.outputs
  pub outputs : map (expr_at f) p.outputs ≡ c.outputs
  pub conditions : ConditionsGovern (range f.ops p.entry.first p.entry.count)
