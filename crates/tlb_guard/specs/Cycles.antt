-- Types that lead back to themselves before anything is taken.
use Rattle.std.specs.Prelude.{ℕ, suc, ◌+◌, ◌&&◌, ◌||◌, [], ◌∷◌, Bool, false, Option, Some, None, bytes_eq, find, option_map}
use Rattle.std.specs.List.{list_any}
use Rattle.tlb_syntax.specs.Tree.{ConstructorView, SchemaView}
use Rattle.kind_terms.specs.Words.{Word}
use Rattle.kind_terms.specs.Dictionaries.{of_type}
use Rattle.tlb_guard.specs.Rounds.{Test, round}
use Rattle.tlb_guard.specs.DeclaredTypes.{declared_types, type_count}
use Rattle.tlb_guard.specs.Exposed.{ExposedTerm, a_type, a_variable, is_type, Known, Exposed, exposed_by, known}

-- an edge from a type to one that a constructor of it exposes
abbrev pub is_edge : Known → Word → Word → Bool
is_edge k x y = list_any (λ (c : ConstructorView). list_any (λ (e : Exposed). is_type y e.term) (exposed_by k c)) (of_type k.types x)

-- The types from which one is reached: itself, and those with an edge to such a type. Round n + 1 is reached by at most
-- n edges.
abbrev pub back_rules : Known → Word → Test Word → Test Word
back_rules k end reaching x =
    bytes_eq x end || list_any (λ y. is_edge k x y && reaching y) (declared_types k.types)

-- whether the second type is reached from the first by at most so many edges
abbrev pub is_reached : Known → ℕ → Word → Word → Bool
is_reached k n from end = round (back_rules k end) (suc n) from

-- An edge is on a cycle where its first type is reached from its second by at most as many edges as there are types.
abbrev pub is_on_cycle : Known → Word → Word → Bool
is_on_cycle k x y = is_reached k (type_count k.types) y x

abbrev pub leads_back : Known → Word → ExposedTerm → Bool
leads_back k x (a_type y) = is_on_cycle k x y
leads_back k x (a_variable y) = false

-- the first item through which a constructor exposes a type by an edge on a cycle
abbrev pub first_unguarded_item : Known → ConstructorView → Option ℕ
first_unguarded_item k c =
    option_map (λ (e : Exposed). e.item) (find (λ (e : Exposed). leads_back k c.result e.term) (exposed_by k c))

-- ---- the first field in the text

-- an item of a constructor, by the places of both from 0
pub record ItemIndex : Type 0 where
  pub constructor : ℕ
  pub item : ℕ

abbrev pub item_index : ℕ → ℕ → ItemIndex
item_index n i = record { constructor = n; item = i }

abbrev pub or_else : Option ItemIndex → Option ItemIndex → Option ItemIndex
or_else None later = later
or_else (Some p) later = Some p

-- of these declarations, from this place on
abbrev pub first_from : Known → ℕ → SchemaView → Option ItemIndex
first_from k n [] = None
first_from k n (c ∷ cs) = or_else (option_map (item_index n) (first_unguarded_item k c)) (first_from k (n + 1) cs)

unfoldable pub first_unguarded : SchemaView → Option ItemIndex
first_unguarded s = first_from (known s) 0 s
