-- Constructors in whose core forms nothing is left open.
use Rattle.std.specs.Prelude.{◌≡◌, true}
use Rattle.core_form.specs.Core.{Constructor}
use Rattle.core_form.specs.Plain.{IsPlain}
use Rattle.core_form.specs.Bounds.{IsWithin}
use Rattle.core_form.specs.Parameters.{AreParameters}
use Rattle.core_form.specs.Determined.{is_determined}

pub record IsResolved (c : Constructor) : Type 0 where
  -- no number has an unknown, but an equation has one
  pub plain : IsPlain c
  -- each slot is one of the constructor's
  pub within : IsWithin c
  -- each variable is set before it is used, so each name has a meaning
  pub determined : is_determined c ≡ true
  -- each parameter has its input or its output
  pub parameters : AreParameters c.parameters c.inputs c.outputs
