-- The signs of an expression beside their places, one by one.
use Rattle.std.specs.Prelude.{ℕ, ◌≡◌, Bool, true, false, List, [], ◌∷◌, Option, Some, None}
use Rattle.std.proofs.Common.{refl}
use Rattle.type_word.specs.Signs.{first_refused}

-- a sign at this place is refused, or none is and these are the places of the signs after it
pub data Scanned : Type 0 where
  refused : ℕ → Scanned
  passed : List ℕ → Scanned

abbrev pub scanned : List Bool → List ℕ → Scanned
scanned [] places = passed places
scanned (b ∷ bs) [] = passed []
scanned (true ∷ bs) (place ∷ places) = refused place
scanned (false ∷ bs) (place ∷ places) = scanned bs places

abbrev pub and_then : Scanned → List Bool → Scanned
and_then (refused place) bs = refused place
and_then (passed places) bs = scanned bs places

abbrev pub place_in : Scanned → Option ℕ
place_in (refused place) = Some place
place_in (passed places) = None

pub scanned_first : (bs : List Bool) (places : List ℕ) → place_in (scanned bs places) ≡ first_refused bs places
scanned_first [] places = refl
scanned_first (b ∷ bs) [] = refl
scanned_first (true ∷ bs) (place ∷ places) = refl
scanned_first (false ∷ bs) (place ∷ places) = scanned_first bs places
