-- One more number is drawn.
use Rattle.std.proofs.Common.{◌≡◌, ◌∙◌, ap, sym, append_assoc, ℕ, suc, List, [], ◌∷◌, ◌++◌}
use Rattle.sample_message.specs.Keys.{drawn_after, drawn_next}

pub one-more : (key before after : ℕ) (keys : List ℕ) → before ≡ suc after
    → (keys ++ drawn_next key ∷ []) ++ drawn_after (drawn_next key) after ≡ keys ++ drawn_after key before
one-more key before after keys is =
    append_assoc keys (drawn_next key ∷ []) (drawn_after (drawn_next key) after)
    ∙ ap (λ n. keys ++ drawn_after key n) (sym is)
