use Rattle.std.proofs.Common.{◌≡◌, take}
use Rattle.type_word.specs.Signs.{sign_places}
use Rattle.type_word.proofs.signs.places_in.Given as goal

abbrev pub invariant-loop-token : goal.invariant-loop-token
invariant-loop-token l = l.places.items ≡ sign_places l.text (take l.token-index l.tokens)
