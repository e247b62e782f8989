-- A first edge in place is a tree and what follows it. So what begins with a label begins with it before each other rest.
use Rattle.std.specs.Prelude.{◌≡◌, ℕ, List, [], ◌∷◌, ◌++◌, length, replicate, refl}
use Rattle.std.proofs.Common.{ap, sym, ◌∙◌, subst, append_assoc}
use Rattle.bit_slice.specs.Bits.{bit_length, bit_number, spelled}
use Rattle.hashmap_labels.specs.Labels.{IsForm, IsLabel}
use Rattle.hashmap_labels.specs.declared.forms.LabelForm.{LabelForm}
use Rattle.hashmap_labels.specs.declared.forms.LabelForm.TheVariants.{Short, Long, Same}
use Rattle.hashmap_labels.specs.declared.forms.Forms.{Forms}
use Rattle.hashmap_tree.specs.Entries.{Slice, Entries, Then, leaf}
use Rattle.hashmap_tree.specs.Dict.{forms_of, DictTree, one, two}
use Rattle.hashmap_tree.specs.First.{LeafEdge, Fork, forked}
use Rattle.cell_nodes.specs.declared.tree.Mode.{Mode}

form_then : (f : LabelForm) (k : ℕ) (l s c x : List ℕ) → IsForm f k l s (c ++ x)
    → (u : List ℕ) × IsForm f k l u c × (s ≡ u ++ x)
form_then Short k l s c x e =
    let m = replicate (length l) 1 in (
      0 ∷ (m ++ (0 ∷ (l ++ c))),
      refl,
      e ∙ ap (λ (z : List ℕ). 0 ∷ z) (ap (λ (z : List ℕ). m ++ (0 ∷ z)) (sym (append_assoc l c x)) ∙ sym (append_assoc m (0 ∷ (l ++ c)) x)),
    )
form_then Long k l s c x e =
    let m = spelled k (length l) in (
      1 ∷ (0 ∷ (m ++ (l ++ c))),
      refl,
      e ∙ ap (λ (z : List ℕ). 1 ∷ (0 ∷ z)) (ap (λ (z : List ℕ). m ++ z) (sym (append_assoc l c x)) ∙ sym (append_assoc m (l ++ c) x)),
    )
form_then Same k l s c x e =
    let m = spelled k (length l) in
    (1 ∷ (1 ∷ (bit_number e.0 ∷ (m ++ c))), (e.0, e.1, refl), e.2 ∙ ap (λ (z : List ℕ). 1 ∷ (1 ∷ (bit_number e.0 ∷ z))) (sym (append_assoc m c x)))

label_then : (forms : Forms) (n : ℕ) (l s c x : List ℕ) → IsLabel forms n l s (c ++ x)
    → (u : List ℕ) × IsLabel forms n l u c × (s ≡ u ++ x)
label_then forms n l s c x h = let f = form_then h.0 (bit_length n) l s c x h.3 in (f.0, (h.0, h.1, h.2, f.1), f.2)

pub fork_is_tree : (mode : Mode) (n : ℕ) (es : Entries) (s after : Slice) → Fork mode n es s after
    → (u : Slice) × DictTree mode n es u × Then s u after
fork_is_tree mode n es s after (forked p m zs os z o same len label refs dz do_) =
    let f = label_then (forms_of mode) n p s.bits [] after.bits label in
    let u : Slice = record { bits = f.0; refs = z ∷ (o ∷ []) } in
    (u, two mode n es u p m zs os z o same len f.1 refl dz do_, record { bits = f.2; refs = refs })

pub leaf_is_tree : (mode : Mode) (n : ℕ) (k : List ℕ) (s middle c after : Slice) → LeafEdge mode n k s middle
    → Then middle c after → (u : Slice) × DictTree mode n ((k, leaf c) ∷ []) u × Then s u after
leaf_is_tree mode n k s middle c after d g =
    let P : List ℕ → Type 0 = λ z. IsLabel (forms_of mode) n k s.bits z in
    let f = label_then (forms_of mode) n k s.bits c.bits after.bits (subst P g.bits d.label) in
    let u : Slice = record { bits = f.0; refs = c.refs } in
    (u, one mode n ((k, leaf c) ∷ []) u k c refl d.long f.1 refl, record { bits = f.2; refs = d.refs ∙ g.refs })
