-- A content has one outcome: the entries of its tree, or its first fault.
use Rattle.std.proofs.Common.{◌≡◌, ◌⊎◌, inl, inr, ℕ, suc, Bool, Result, Ok, Err, refl, sym, ◌∙◌, arith}
use Rattle.cell_nodes.specs.declared.tree.Mode.{Mode}
use Rattle.hashmap_tree.specs.CompleteLaws.{walk_complete}
use Rattle.hashmap_tree.specs.Dict.{DictTree}
use Rattle.hashmap_tree.specs.Entries.{Slice, Entries}
use Rattle.hashmap_tree.specs.First.{Edge}
use Rattle.hashmap_tree.specs.Halts.{Halts}
use Rattle.hashmap_tree.specs.RefusedLaws.{walk_refused}
use Rattle.hashmap_tree.specs.SoundLaws.{walk_sound}
use Rattle.hashmap_tree.specs.StandsLaws.{walk_stands}
use Rattle.hashmap_tree.specs.StepLaws.{ok_one}
use Rattle.hashmap_tree.specs.Top.{IsTop, HaltsTop}
use Rattle.hashmap_tree.specs.TopLaws.{top_complete, top_stands}
use Rattle.hashmap_tree.specs.Walk.{Fault, walk}

same_fault : {A : Type 0} (f g : Fault) → (◌≡◌ {A = Result A Fault} (Err f) (Err g)) → f ≡ g
same_fault f g e = cc

apart : {A : Type 0} (x : A) (f : Fault) → (◌≡◌ {A = Result A Fault} (Ok x) (Err f)) → ⊥
apart x f e = cc

pub tree_or_fault : (mode : Mode) (n : ℕ) (s : Slice)
    → ((es : Entries) × DictTree mode n es s) ⊎ ((f : Fault) × Halts mode n s f)
tree_or_fault mode n s = go (walk (suc n) mode n s) refl
  where
    go : (r : Result Entries Fault) → walk (suc n) mode n s ≡ r
        → ((es : Entries) × DictTree mode n es s) ⊎ ((f : Fault) × Halts mode n s f)
    go (Ok es) e = inl (es, walk_sound (suc n) mode n s es (omega arith) e)
    go (Err f) e = inr (f, walk_refused (suc n) mode n s f (omega arith) e)

pub one_fault : (mode : Mode) (n : ℕ) (s : Slice) (f g : Fault) → Halts mode n s f → Halts mode n s g → f ≡ g
one_fault mode n s f g a b =
    same_fault {A = Entries} f g (sym (walk_stands (suc n) mode n s f (omega arith) a) ∙ walk_stands (suc n) mode n s g (omega arith) b)

pub no_fault_in_tree : (mode : Mode) (n : ℕ) (es : Entries) (s : Slice) (f : Fault) → DictTree mode n es s
    → Halts mode n s f → ⊥
no_fault_in_tree mode n es s f a b =
    apart es f (sym (walk_complete (suc n) mode n es s (omega arith) a) ∙ walk_stands (suc n) mode n s f (omega arith) b)

pub one_edge : (closed : Bool) (mode : Mode) (n : ℕ) (s : Slice) (e d : Edge) → IsTop closed mode n s e
    → IsTop closed mode n s d → e ≡ d
one_edge closed mode n s e d a b =
    ok_one e d (Ok e) (sym (top_complete closed mode n s e a) ∙ top_complete closed mode n s d b)

pub one_halt : (closed : Bool) (mode : Mode) (n : ℕ) (s : Slice) (f g : Fault) → HaltsTop closed mode n s f
    → HaltsTop closed mode n s g → f ≡ g
one_halt closed mode n s f g a b =
    same_fault {A = Edge} f g (sym (top_stands closed mode n s f a) ∙ top_stands closed mode n s g b)

pub no_halt_at_edge : (closed : Bool) (mode : Mode) (n : ℕ) (s : Slice) (e : Edge) (f : Fault)
    → IsTop closed mode n s e → HaltsTop closed mode n s f → ⊥
no_halt_at_edge closed mode n s e f a b =
    apart e f (sym (top_complete closed mode n s e a) ∙ top_stands closed mode n s f b)
