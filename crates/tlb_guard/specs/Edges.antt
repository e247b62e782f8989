-- Edges between types, by the types' numbers.
use Rattle.std.specs.Prelude.{ℕ, suc, ◌≡◌, ◌+◌, ◌<◌, ◌++◌, Bool, true, false, Option, Some, None, List, [], ◌∷◌, length, map, slice_get, All}
use Rattle.tlb_guard.specs.declared.rules.Rule.{Rule}
use Rattle.tlb_guard.specs.declared.edges.Edge.{Edge}
use Rattle.tlb_guard.specs.declared.edges.Unguarded.{Unguarded}
use Rattle.tlb_syntax.specs.Tree.{SchemaView}
use Rattle.kind_terms.specs.Words.{Word}
use Rattle.tlb_guard.specs.Rounds.{Test, round}
use Rattle.tlb_guard.specs.Facts.{holds, gives}
use Rattle.tlb_guard.specs.Numbering.{place_of, word_at}
use Rattle.tlb_guard.specs.Exposed.{ExposedTerm, a_type, a_variable, Known, Exposed, exposed_by}
use Rattle.tlb_guard.specs.Cycles.{ItemIndex, item_index}
use Rattle.tlb_guard.specs.Users.{HasUser}

-- What reaches the edge's second type, its first reaches too.
abbrev pub back_rule : Edge → Rule
back_rule e = record { head = e.from; body = e.to ∷ [] }

-- the types from which that one is reached
unfoldable pub reaching : List Edge → ℕ → Test ℕ
reaching edges end = round (gives (map back_rule edges) (end ∷ [])) (suc (length edges))

-- the edge's first type is reached from its second
abbrev pub is_round_trip : List Edge → Edge → Bool
is_round_trip edges e = reaching edges e.from e.to

-- ---- edges between the words of types

-- an edge through an item
pub record TypeEdge : Type 0 where
  pub from : Word
  pub to : Word
  pub at : ItemIndex

-- what a type exposes through an item leads to a type, unless it is a variable
abbrev pub edge_to : Word → ℕ → ℕ → ExposedTerm → List TypeEdge
edge_to x n item (a_type y) = record { from = x; to = y; at = item_index n item } ∷ []
edge_to x n item (a_variable y) = []

-- by what the constructor at that place exposes
abbrev pub edges_by : Word → ℕ → List Exposed → List TypeEdge
edges_by x n [] = []
edges_by x n (e ∷ es) = edge_to x n e.item e.term ++ edges_by x n es

-- of these declarations, from this place on, by what each exposes
abbrev pub edges_at : ℕ → SchemaView → List (List Exposed) → List TypeEdge
edges_at n [] ess = []
edges_at n (c ∷ cs) [] = []
edges_at n (c ∷ cs) (es ∷ ess) = edges_by c.result n es ++ edges_at (n + 1) cs ess

abbrev pub edges_from : Known → ℕ → SchemaView → List TypeEdge
edges_from k n s = edges_at n s (map (exposed_by k) s)

-- an item of a constructor, by the places of both from 0
abbrev pub index_by : Unguarded → ItemIndex
index_by u = record { constructor = u.constructor; item = u.item }

abbrev pub type_edge : SchemaView → Edge → TypeEdge
type_edge s e = record { from = word_at s e.from; to = word_at s e.to; at = index_by e.at }

abbrev pub edges_in : SchemaView → Option Edge → List TypeEdge
edges_in s None = []
edges_in s (Some e) = type_edge s e ∷ []

-- both numbers are those of their types
abbrev pub IsNumbered : SchemaView → Edge → Type 0
IsNumbered s e = (place_of s (word_at s e.from) ≡ Some e.from) × (place_of s (word_at s e.to) ≡ Some e.to)

-- ---- what a search keeps

abbrev pub IsEdgeBelow : ℕ → Edge → Type 0
IsEdgeBelow count e = (e.from < count) × (e.to < count)

-- the target of each edge is among those of its source
abbrev pub AreTargets : List (List ℕ) → List Edge → Type 0
AreTargets targets edges = All (λ (e : Edge). HasUser targets e.from e.to) edges

-- no edge that is on a cycle leads to one of these types
abbrev pub AreOffCycles : List Edge → List Bool → Type 0
AreOffCycles edges found = All (λ (e : Edge). is_round_trip edges e ≡ true → holds found e.to ≡ false) edges

-- what was searched for each end
abbrev pub AreSearches : List Edge → List (Option (List Bool)) → Type 0
AreSearches edges searches =
    (end : ℕ) (found : List Bool) → slice_get searches end ≡ Some (Some found) → (n : ℕ) → holds found n ≡ reaching edges end n
