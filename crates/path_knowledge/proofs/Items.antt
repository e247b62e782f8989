-- An item of a list by its place.
use Rattle.std.proofs.Common.{◌≡◌, ℕ, zero, suc, List, [], ◌∷◌, Option, Some, None, map, refl, ◌∙◌, ap}
use Rattle.std.specs.Prelude.{option_map, slice_get}
use Rattle.std.specs.Option.{option_copied}
use Rattle.std.specs.Borrow.{Bor}
use Rattle.typed_value.specs.declared.value.Value.{Value}
use Rattle.typed_value.specs.Paths.{item_at}
use Rattle.typed_value.specs.View.{vals_of, value}

viewed-copied : (r : Option (Bor Value)) → option_map (λ v. value v.now) r ≡ option_map value (option_copied r)
viewed-copied None = refl
viewed-copied (Some v) = refl

item-at : (vs : List Value) (i : ℕ) → option_map value (slice_get vs i) ≡ item_at (vals_of (map value vs)) i
item-at [] i = refl
item-at (v ∷ vs) zero = refl
item-at (v ∷ vs) (suc i) = item-at vs i

pub item-found : (r : Option (Bor Value)) (vs : List Value) (i : ℕ) → option_copied r ≡ slice_get vs i
    → option_map (λ v. value v.now) r ≡ item_at (vals_of (map value vs)) i
item-found r vs i e = viewed-copied r ∙ ap (option_map value) e ∙ item-at vs i
