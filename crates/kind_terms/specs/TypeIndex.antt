-- The declarations of a schema by their types.
use Rattle.std.specs.Prelude.{ℕ, ◌≡◌, List, [], map, Option, Some, None, bytes_eq}
use Rattle.std.specs.Borrow.{Bor}
use Rattle.std.specs.HashMap.{HashMap, get_by}
use Rattle.tlb_syntax.specs.Tree.{SchemaView}
use Rattle.tlb_syntax.specs.View.{constructor}
use Rattle.kind_terms.specs.declared.kind.TermKind.{TermKind}
use Rattle.kind_terms.specs.declared.types.Declared.{Declared}
use Rattle.kind_terms.specs.Words.{Word}
use Rattle.kind_terms.specs.Dictionaries.{of_type}
use Rattle.kind_terms.specs.Types.{first_kinds}

abbrev pub constructors_in : Option Declared → SchemaView
constructors_in None = []
constructors_in (Some d) = map (λ c. constructor c.now) d.constructors

abbrev pub kinds_in : Option Declared → Option (List TermKind)
kinds_in None = None
kinds_in (Some d) = Some d.kinds

abbrev pub find_word : {S : Type 0} → HashMap (Bor (List ℕ)) Declared S → Word → Option Declared
find_word m x = get_by (λ k. bytes_eq x k.now) m

-- at each word stand the declarations of the type of that name, and the kinds of its parameters
pub record IsTypeIndex {S : Type 0} (m : HashMap (Bor (List ℕ)) Declared S) (s : SchemaView) : Type 0 where
  pub constructors : (x : Word) → constructors_in (find_word m x) ≡ of_type s x
  pub kinds : (x : Word) → kinds_in (find_word m x) ≡ first_kinds (of_type s x)
