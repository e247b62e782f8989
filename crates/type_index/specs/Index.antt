-- The declarations of a schema by the names of their types.
use Rattle.std.specs.Prelude.{ℕ, ◌≡◌, ◌+◌, List, [], ◌∷◌, Option, Some, None, bytes_eq, if◌then◌else◌}
use Rattle.std.specs.Borrow.{Bor}
use Rattle.std.specs.BTreeMap.{BTreeMap, get_by}
use Rattle.std.specs.Cmp.Lexicographic.{slice_cmp}
use Rattle.std.specs.Ordering.{nat_cmp}
use Rattle.std.specs.Global.{Vec}
use Rattle.tlb_syntax.specs.Tree.{SchemaView}
use Rattle.kind_terms.specs.Words.{Word}
use Rattle.kind_terms.specs.Dictionaries.{of_type}
use Rattle.kind_terms.specs.Types.{first_kinds}
use Rattle.kind_terms.specs.declared.kind.TermKind.{TermKind}
use Rattle.type_index.specs.declared.index.TypeEntry.{TypeEntry}
use Rattle.type_index.specs.declared.index.TypeIndex.{TypeIndex}

-- the numbers of the declarations of the type, where that of the first is n
abbrev pub places_after : ℕ → SchemaView → Word → List ℕ
places_after n [] x = []
places_after n (c ∷ cs) x =
    if bytes_eq c.result x then n ∷ places_after (n + 1) cs x else places_after (n + 1) cs x

-- the numbers of the declarations of the type, from 0
abbrev pub places_of : SchemaView → Word → List ℕ
places_of s x = places_after 0 s x

abbrev pub kinds_in : Option TypeEntry → Option (List TermKind)
kinds_in None = None
kinds_in (Some e) = Some e.kinds

abbrev pub constructors_in : Option TypeEntry → List ℕ
constructors_in None = []
constructors_in (Some e) = e.constructors

abbrev pub find_word : BTreeMap (Vec ℕ) TypeEntry → Word → Option TypeEntry
find_word m x = get_by (λ k. slice_cmp nat_cmp x k.items) m

-- at each word stand the kinds of the type of that name, and the numbers of its declarations
pub record AreEntries (m : BTreeMap (Vec ℕ) TypeEntry) (s : SchemaView) : Type 0 where
  pub kinds : (x : Word) → kinds_in (find_word m x) ≡ first_kinds (of_type s x)
  pub constructors : (x : Word) → constructors_in (find_word m x) ≡ places_of s x

abbrev pub IsTypeIndex : TypeIndex → SchemaView → Type 0
IsTypeIndex index s = AreEntries index.by_name s

-- ---- what a look-up lends

abbrev pub kinds_by : Option (Bor TypeEntry) → Option (List TermKind)
kinds_by None = None
kinds_by (Some e) = Some e.now.kinds

abbrev pub constructors_by : Option (Bor TypeEntry) → List ℕ
constructors_by None = []
constructors_by (Some e) = e.now.constructors

-- the kinds of the parameters that the index has of the type of that name, and the numbers of its constructors
abbrev pub kinds_at : TypeIndex → Word → Option (List TermKind)
kinds_at index x = kinds_in (find_word index.by_name x)

abbrev pub constructors_at : TypeIndex → Word → List ℕ
constructors_at index x = constructors_in (find_word index.by_name x)
