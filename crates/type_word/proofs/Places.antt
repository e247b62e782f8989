-- One more token among those whose signs stand at places.
use Rattle.std.proofs.Common.{◌≡◌, ◌<◌, ◌+◌, ℕ, ap, sym, ◌∙◌, List, [], ◌++◌, length, take, get_or}
use Rattle.std.specs.List.{flat_map}
use Rattle.std.proofs.lemmas.List.{flat_map_more, take_more}
use Rattle.tlb_lexer.specs.declared.Token.{Token}
use Rattle.type_word.specs.Signs.{sign_place, sign_places}

pub places_more : (text : List ℕ) (ts : List Token) (i : ℕ) (d : Token) (now next : List ℕ) → i < length ts
    → now ≡ sign_places text (take i ts) → next ≡ now ++ sign_place text (get_or ts i d)
    → next ≡ sign_places text (take (i + 1) ts)
places_more text ts i d now next lt so_far more =
    more
    ∙ ap (λ l. l ++ sign_place text (get_or ts i d)) so_far
    ∙ flat_map_more (sign_place text) [] (take i ts) (get_or ts i d)
    ∙ ap (flat_map (sign_place text)) (sym (take_more ts i d lt))
