-- The entries of a content as a function, or its first fault. The laws tie it to `DictTree` and `Halts`.
use Rattle.std.specs.Prelude.{ℕ, zero, suc, ◌-◌, if◌then◌else◌, nat_eq, List, [], ◌∷◌, ◌++◌, length, Option, Some, None, Result, Ok, Err}
use Rattle.cell_nodes.specs.declared.tree.Hidden.{Hidden}
use Rattle.cell_nodes.specs.declared.tree.Kind.{Kind}
use Rattle.cell_nodes.specs.declared.tree.Kind.TheVariants.{Ordinary}
use Rattle.cell_nodes.specs.declared.tree.Mode.{Mode}
use Rattle.cell_nodes.specs.declared.tree.Tree.{Tree, out-Tree}
use Rattle.hashmap_labels.specs.Reading.{read_label}
use Rattle.hashmap_labels.specs.declared.labels.LabelError.{LabelError}
use Rattle.hashmap_labels.specs.declared.labels.LabelError.TheVariants as why
use Rattle.hashmap_tree.specs.Dict.{forms_of, unseen}
use Rattle.hashmap_tree.specs.Entries.{Slice, content, leaf, hidden, Entries, under}
use Rattle.hashmap_tree.specs.declared.found.WalkCause.{WalkCause}
use Rattle.hashmap_tree.specs.declared.found.WalkCause.TheVariants as cause

-- the key bits before the label of the edge at fault, and why it is one
pub record Fault : Type 0 where
  pub prefix : List ℕ
  pub cause : WalkCause

abbrev pub here : WalkCause → Fault
here c = record { prefix = []; cause = c }

-- a fault of a part below these bits
abbrev pub below : List ℕ → Fault → Fault
below p f = record { prefix = p ++ f.prefix; cause = f.cause }

infixl 10 ◌>>=◌
abbrev pub ◌>>=◌ : {A B : Type 0} → Result A Fault → (A → Result B Fault) → Result B Fault
(Ok x) >>= f = f x
(Err e) >>= f = Err e

abbrev pub cause_of : LabelError → WalkCause
cause_of why.LabelShort = cause.ShortBits
cause_of why.LabelLong = cause.Label
cause_of why.LabelForm = cause.Label

abbrev pub as_fault : {A : Type 0} → Result A LabelError → Result A Fault
as_fault (Ok x) = Ok x
as_fault (Err e) = Err (here (cause_of e))

-- entries and faults of a part below these bits
abbrev pub inside : List ℕ → Result Entries Fault → Result Entries Fault
inside p (Ok es) = Ok (under p es)
inside p (Err f) = Err (below p f)

abbrev pub Walker : Type 0
Walker = ℕ → Slice → Result Entries Fault

abbrev pub open_branch : Walker → ℕ → Kind → Slice → Result Entries Fault
open_branch W m Ordinary s = W m s
open_branch W m _ s = Err (here cause.Exotic)

abbrev pub branch_of : Walker → ℕ → Option Hidden → Kind → Slice → Result Entries Fault
branch_of W m (Some h) k s = Ok (([], hidden h) ∷ [])
branch_of W m None k s = open_branch W m k s

abbrev pub branch : Walker → Mode → ℕ → Tree → Result Entries Fault
branch W mode m c = branch_of W m (unseen mode c) (out-Tree c).kind (content c)

abbrev pub branches : Walker → Mode → ℕ → List ℕ → Tree → Tree → Result Entries Fault
branches W mode m p z o = do
  zs ← inside (p ++ 0 ∷ []) (branch W mode m z)
  os ← inside (p ++ 1 ∷ []) (branch W mode m o)
  Ok (zs ++ os)

-- the references of a fork, and the end of its cell, are judged before the edges below it
abbrev pub forks : Walker → Mode → ℕ → List ℕ → List ℕ → List Tree → Result Entries Fault
forks W mode m p bits [] = Err (here cause.ShortRefs)
forks W mode m p bits (z ∷ []) = Err (here cause.ShortRefs)
forks W mode m p [] (z ∷ o ∷ []) = branches W mode m p z o
forks W mode m p (b ∷ bits) (z ∷ o ∷ []) = Err (here cause.Leftover)
forks W mode m p bits (z ∷ o ∷ t ∷ ts) = Err (here cause.Leftover)

abbrev pub at_label : Walker → Mode → ℕ → List ℕ → List ℕ → List Tree → Result Entries Fault
at_label W mode n p bits refs =
    if nat_eq n (length p) then Ok ((p, leaf (record { bits = bits; refs = refs })) ∷ [])
    else forks W mode (n - length p - 1) p bits refs

-- the content of a cell as an edge; each level takes a bit of the key at least
unfoldable pub walk : ℕ → Mode → Walker
walk zero mode n s = Ok []
walk (suc f) mode n s = do
  x ← as_fault (read_label (forms_of mode) n s.bits)
  at_label (walk f mode) mode n x.0 x.1 s.refs
