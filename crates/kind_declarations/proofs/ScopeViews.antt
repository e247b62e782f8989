-- What the parts of the state are seen as.
use Rattle.std.proofs.Common.{◌≡◌, ap, ◌∙◌, List, [], ◌∷◌, ◌++◌, map, refl, take, drop}
use Rattle.std.proofs.lemmas.List.{take-append-drop}
use Rattle.tlb_syntax.specs.View.{constructor}
use Rattle.kind_terms.specs.Words.{Word, is_among}
use Rattle.kind_terms.specs.Views.{binding_of}
use Rattle.kind_terms.specs.Scopes.{meaning_in, meaning_of, is_known}
use Rattle.kind_declarations.specs.declared.scope.Scope.{Scope as State}
use Rattle.kind_declarations.specs.Views.{scope_by, scope_of}

pub map_append : {X Y : Type 0} (f : X → Y) (xs ys : List X) → map f xs ++ map f ys ≡ map f (xs ++ ys)
map_append f [] ys = refl
map_append f (x ∷ xs) ys = ap (λ zs. f x ∷ zs) (map_append f xs ys)

pub meaning_of_seen : (s : State) (x : Word) → meaning_of (scope_by s) x ≡ meaning_in (map binding_of s.bindings) x
unfolding scope_of
meaning_of_seen s x =
    ap (λ es. meaning_in es x)
    (map_append binding_of (take s.around s.bindings) (drop s.around s.bindings)
    ∙ ap (map binding_of) (take-append-drop s.around s.bindings))

pub is_known_seen : (s : State) (x : Word) → is_known (scope_by s) x ≡ is_among (map (λ y. y.now) s.known) x
unfolding scope_of
is_known_seen s x = refl

pub own_seen : (s : State) → (scope_by s).own ≡ map binding_of (drop s.around s.bindings)
unfolding scope_of
own_seen s = refl

pub types_seen : (s : State) → (scope_by s).types ≡ map constructor s.types.now
unfolding scope_of
types_seen s = refl
