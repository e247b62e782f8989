-- The contents and the hidden parts of entries below bits, and of entries before others.
use Rattle.std.proofs.Common.{◌≡◌, ℕ, List, [], ◌∷◌, ◌++◌, refl, ap}
use Rattle.cell_nodes.specs.declared.tree.Mode.{Mode}
use Rattle.hashmap_tree.specs.Entries.{leaf, hidden, Entries, under, pairs_in, hidden_in}
use Rattle.typed_value.specs.Values.{PlainPairs, no_pairs, a_pair}
use Rattle.core_form.specs.Core.{CoreSchema}
use Rattle.core_form.specs.Closed.{Closed}
use Rattle.spelling.specs.Spells.{EachPair, Contents}
use Rattle.pruning.specs.Laid.{join, below}
use Rattle.pruning.specs.Blanked.{KeyPart}
use Rattle.pruning_laws.specs.Cuts.{below_parts}

pub contents_below : (mode : Mode) (schema : CoreSchema) (p : List ℕ) (zs : Entries) (ps : PlainPairs) (t : Closed)
    → Contents (EachPair mode schema ps) t (pairs_in zs)
    → Contents (EachPair mode schema (below p ps)) t (pairs_in (under p zs))
contents_below mode schema p [] no_pairs t h = refl
contents_below mode schema p [] (a_pair l v ps) t h = absurd h
contents_below mode schema p ((k, leaf c) ∷ zs) no_pairs t h = absurd (cc)
contents_below mode schema p ((k, leaf c) ∷ zs) (a_pair l v ps) t h =
    (h.0, ap (λ (x : List ℕ). p ++ x) h.1, h.2, contents_below mode schema p zs ps t h.3)
contents_below mode schema p ((k, hidden u) ∷ zs) ps t h = contents_below mode schema p zs ps t h

pub contents_join : (mode : Mode) (schema : CoreSchema) (zs os : Entries) (ps qs : PlainPairs) (t : Closed)
    → Contents (EachPair mode schema ps) t (pairs_in zs) → Contents (EachPair mode schema qs) t (pairs_in os)
    → Contents (EachPair mode schema (join ps qs)) t (pairs_in (zs ++ os))
contents_join mode schema [] os no_pairs qs t h k = k
contents_join mode schema [] os (a_pair l v ps) qs t h k = absurd h
contents_join mode schema ((y, leaf c) ∷ zs) os no_pairs qs t h k = absurd (cc)
contents_join mode schema ((y, leaf c) ∷ zs) os (a_pair l v ps) qs t h k =
    (h.0, h.1, h.2, contents_join mode schema zs os ps qs t h.3 k)
contents_join mode schema ((y, hidden u) ∷ zs) os ps qs t h k = contents_join mode schema zs os ps qs t h k

pub hidden-under : (p : List ℕ) (zs : Entries) → hidden_in (under p zs) ≡ below_parts p (hidden_in zs)
hidden-under p [] = refl
hidden-under p ((k, leaf c) ∷ zs) = hidden-under p zs
hidden-under p ((k, hidden u) ∷ zs) = ap (λ (l : List KeyPart). (p ++ k, u) ∷ l) (hidden-under p zs)

pub hidden-append : (zs os : Entries) → hidden_in (zs ++ os) ≡ hidden_in zs ++ hidden_in os
hidden-append [] os = refl
hidden-append ((k, leaf c) ∷ zs) os = hidden-append zs os
hidden-append ((k, hidden u) ∷ zs) os = ap (λ (l : List KeyPart). (k, u) ∷ l) (hidden-append zs os)
