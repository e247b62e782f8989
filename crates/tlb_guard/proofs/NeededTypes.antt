-- What is gathered of what may take nothing.
use Rattle.std.proofs.Common.{◌≡◌, ℕ, Bool, true, false, refl}
use Rattle.std.specs.Prelude.{◌&&◌}
use Rattle.std.specs.List.{list_all}
use Rattle.tlb_syntax.specs.Tree.{ItemList}
use Rattle.tlb_guard.specs.declared.empty.Needs.{Needs}
use Rattle.tlb_guard.specs.Rounds.{Test}
use Rattle.tlb_guard.specs.Numbering.{types_in, views}
use Rattle.tlb_guard.specs.Empty.{may_be_empty_items}
use Rattle.tlb_guard.specs.Scoping.{names}

pub swapped : (a b : Bool) → (a && b) ≡ (b && a)
swapped true true = refl
swapped true false = refl
swapped false true = refl
swapped false false = refl

-- what is left of the items may take nothing where all of them may
abbrev pub IsRest : Needs → Needs → ItemList → ItemList → Type 0
IsRest first now all rest =
    (t : Test ℕ)
    → (list_all t first.needed && may_be_empty_items (types_in (views first.types.now) t) (names first.scope) all)
    ≡ (list_all t now.needed && may_be_empty_items (types_in (views first.types.now) t) (names now.scope) rest)
