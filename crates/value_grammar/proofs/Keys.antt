-- The keys of a map that grows by its last entry.
use Rattle.std.proofs.Common.{◌≡◌, ℕ, ◌≤◌, List, [], ◌∷◌, ◌++◌, map, take, drop, length, sym, ap, ◌∙◌, arith, append_assoc}
use Rattle.std.proofs.lemmas.List.{map-append, take-append-le, drop-append-le, take_all, drop_all}
use Rattle.cell_nodes.specs.declared.tree.Hidden.{Hidden}
use Rattle.typed_value.specs.Values.{Plain}
use Rattle.typed_value.specs.View.{pairs_of}
use Rattle.value_text.specs.Text.{count_before}
use Rattle.value_text.specs.Writes.{keys_of}
use Rattle.value_grammar.proofs.Texts.{AllBefore, NoneAfter, all_before-drop, count-all, count-le, count-push}

abbrev pub prefixes : List (List ℕ × Hidden) → List (List ℕ)
prefixes us = map (λ u. u.0) us

pub keys-pair : (ps : List (List ℕ × Plain)) (us : List (List ℕ × Hidden)) (k : List ℕ) (v : Plain) → AllBefore us k
    → keys_of (pairs_of (ps ++ (k, v) ∷ [])) us ≡ keys_of (pairs_of ps) us ++ k ∷ []
keys-pair [] us k v h =
    let n : count_before k us ≡ length us = count-all us k h in
    let first : take (count_before k us) us ≡ us = take_all (count_before k us) us (omega arith) in
    let after : drop (count_before k us) us ≡ [] = drop_all (count_before k us) us (omega arith) in
    (λ i. prefixes (first i) ++ k ∷ prefixes (after i))
keys-pair (p ∷ ps) us k v h =
    let c : ℕ = count_before p.0 us in
    ap (λ (l : List (List ℕ)). prefixes (take c us) ++ p.0 ∷ l) (keys-pair ps (drop c us) k v (all_before-drop c us k h))
    ∙ sym (append_assoc (prefixes (take c us)) (p.0 ∷ keys_of (pairs_of ps) (drop c us)) (k ∷ []))

pub keys-hidden : (ps : List (List ℕ × Plain)) (us : List (List ℕ × Hidden)) (k : List ℕ) (h : Hidden) → NoneAfter ps k
    → keys_of (pairs_of ps) (us ++ (k, h) ∷ []) ≡ keys_of (pairs_of ps) us ++ k ∷ []
keys-hidden [] us k h n = map-append (λ (u : List ℕ × Hidden). u.0) us ((k, h) ∷ [])
keys-hidden (p ∷ ps) us k h n =
    let c : ℕ = count_before p.0 us in
    let same : count_before p.0 (us ++ (k, h) ∷ []) ≡ c = count-push us (k, h) p.0 n.0 in
    let few : c ≤ length us = count-le us p.0 in
    let first : take (count_before p.0 (us ++ (k, h) ∷ [])) (us ++ (k, h) ∷ []) ≡ take c us =
    ap (λ (m : ℕ). take m (us ++ (k, h) ∷ [])) same ∙ take-append-le c us ((k, h) ∷ []) few in
    let after : drop (count_before p.0 (us ++ (k, h) ∷ [])) (us ++ (k, h) ∷ []) ≡ drop c us ++ (k, h) ∷ [] =
    ap (λ (m : ℕ). drop m (us ++ (k, h) ∷ [])) same ∙ drop-append-le c us ((k, h) ∷ []) few in
    (λ i. prefixes (first i) ++ p.0 ∷ keys_of (pairs_of ps) (after i))
    ∙ ap (λ (l : List (List ℕ)). prefixes (take c us) ++ p.0 ∷ l) (keys-hidden ps (drop c us) k h n.1)
    ∙ sym (append_assoc (prefixes (take c us)) (p.0 ∷ keys_of (pairs_of ps) (drop c us)) (k ∷ []))
