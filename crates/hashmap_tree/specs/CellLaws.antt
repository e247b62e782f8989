-- Ordinary cells and their contents, and labels by the mode.
use Rattle.std.proofs.Common.{◌≡◌, ℕ, List, None, Ok, Err, refl, sym, ap, ◌∙◌}
use Rattle.cell_nodes.specs.Equations.{out-tree_of, tree_of-out}
use Rattle.cell_nodes.specs.HiddenParts.{hidden_by}
use Rattle.cell_nodes.specs.Tree.{tree_of, mask}
use Rattle.cell_nodes.specs.declared.tree.Kind.{Kind}
use Rattle.cell_nodes.specs.declared.tree.Kind.TheVariants.{Ordinary}
use Rattle.cell_nodes.specs.declared.tree.Mode.{Mode}
use Rattle.cell_nodes.specs.declared.tree.Mode.TheVariants.{Whole, Partial, Lax}
use Rattle.cell_nodes.specs.declared.tree.Tree.{Tree, out-Tree}
use Rattle.hashmap_labels.specs.Labels.{IsLabel}
use Rattle.hashmap_labels.specs.Reading.{read_label}
use Rattle.hashmap_labels.specs.ReadingLaws.{label-exactly, short-exactly, long-exactly, form-exactly, form-never}
use Rattle.hashmap_labels.specs.declared.forms.Forms.{Forms}
use Rattle.hashmap_labels.specs.declared.forms.Forms.TheVariants.{Required, Every}
use Rattle.hashmap_labels.specs.declared.labels.LabelError.{LabelError}
use Rattle.hashmap_labels.specs.declared.labels.LabelError.TheVariants as why
use Rattle.hashmap_tree.specs.Dict.{forms_of, unseen}
use Rattle.hashmap_tree.specs.Entries.{Slice, content, cell_of}
use Rattle.hashmap_tree.specs.Halts.{NoLabel, ends, too_long, other_form}
use Rattle.hashmap_tree.specs.Walk.{cause_of}
use Rattle.hashmap_tree.specs.declared.found.WalkCause.{WalkCause}

-- an ordinary cell is the cell of its content
pub ordinary_cell : (c : Tree) → (out-Tree c).kind ≡ Ordinary → c ≡ cell_of (content c)
ordinary_cell c k = sym (tree_of-out c) ∙ ap (λ (x : Kind). tree_of x (out-Tree c).bits (out-Tree c).children) k

pub kind-cell_of : (s : Slice) → (out-Tree (cell_of s)).kind ≡ Ordinary
kind-cell_of s = λ i. (out-tree_of Ordinary s.bits s.refs i).kind

pub content-cell_of : (s : Slice) → content (cell_of s) ≡ s
content-cell_of s = λ i. record { bits = (out-tree_of Ordinary s.bits s.refs i).bits; refs = (out-tree_of Ordinary s.bits s.refs i).children }

-- an ordinary cell hides nothing
pub seen-ordinary : (mode : Mode) (c : Tree) → (out-Tree c).kind ≡ Ordinary → unseen mode c ≡ None
seen-ordinary Whole c k = refl
seen-ordinary Partial c k = ap (λ (x : Kind). hidden_by x (out-Tree c).bits (mask c)) k
seen-ordinary Lax c k = refl

pub label_sound : (mode : Mode) (n : ℕ) (s l rest : List ℕ) → read_label (forms_of mode) n s ≡ Ok (l, rest)
    → IsLabel (forms_of mode) n l s rest
label_sound mode n s l rest = (label-exactly (forms_of mode) n s l rest).0

pub label_complete : (mode : Mode) (n : ℕ) (s l rest : List ℕ) → IsLabel (forms_of mode) n l s rest
    → read_label (forms_of mode) n s ≡ Ok (l, rest)
label_complete mode n s l rest = (label-exactly (forms_of mode) n s l rest).1

pub label_refused : (mode : Mode) (n : ℕ) (s : List ℕ) (e : LabelError) → read_label (forms_of mode) n s ≡ Err e
    → NoLabel mode n s (cause_of e)
label_refused mode n s why.LabelShort r = ends ((short-exactly (forms_of mode) n s).0 r)
label_refused mode n s why.LabelLong r = too_long ((long-exactly (forms_of mode) n s).0 r)
label_refused mode n s why.LabelForm r = go (forms_of mode) refl r
  where
    go : (f : Forms) → forms_of mode ≡ f → read_label f n s ≡ Err why.LabelForm
        → NoLabel mode n s (cause_of why.LabelForm)
    go Required g r = other_form g ((form-exactly n s).0 r)
    go Every g r = absurd (form-never n s r)

pub refused_label : (mode : Mode) (n : ℕ) (s : List ℕ) (w : WalkCause) → NoLabel mode n s w
    → (e : LabelError) × (read_label (forms_of mode) n s ≡ Err e) × (w ≡ cause_of e)
refused_label mode n s w (ends h) = (why.LabelShort, (short-exactly (forms_of mode) n s).1 h, refl)
refused_label mode n s w (too_long h) = (why.LabelLong, (long-exactly (forms_of mode) n s).1 h, refl)
refused_label mode n s w (other_form g h) =
    (why.LabelForm, ap (λ (f : Forms). read_label f n s) g ∙ (form-exactly n s).1 h, refl)
