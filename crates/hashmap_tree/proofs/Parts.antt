-- The parts of an edge: a label, and then a leaf's content or the references of a fork.
use Rattle.std.proofs.Common.{◌≡◌, ◌↔◌, ℕ, ◌+◌, ◌<◌, ◌≤◌, List, [], ◌∷◌, ◌++◌, length, replicate, Result, Ok, Err, refl, sym, ap, ◌∙◌, subst, arith, append_assoc}
use Rattle.std.proofs.lemmas.List.{append-nil}
use Rattle.std.specs.Prelude.{IsErrOf}
use Rattle.bit_slice.specs.Bits.{bit_length, bit_number, spelled}
use Rattle.cell_nodes.specs.Held.{Held}
use Rattle.cell_nodes.specs.declared.builder.PushError.{PushError}
use Rattle.cell_nodes.specs.declared.builder.PushError.TheVariants as push
use Rattle.cell_nodes.specs.declared.tree.Tree.{Tree}
use Rattle.hashmap_labels.specs.Labels.{IsForm, IsLabel}
use Rattle.hashmap_labels.specs.declared.forms.LabelForm.{LabelForm}
use Rattle.hashmap_labels.specs.declared.forms.LabelForm.TheVariants.{Short, Long, Same}
use Rattle.hashmap_labels.specs.declared.forms.Forms.TheVariants.{Required}
use Rattle.hashmap_tree.specs.Exceeds.{label_size}
use Rattle.hashmap_tree.specs.ExceedsLaws.{label-long}
use Rattle.hashmap_tree.specs.Plants.{BuildsLeaf, IsFullAt}
use Rattle.hashmap_tree.specs.declared.planting.PlantError.{PlantError}
use Rattle.hashmap_tree.specs.declared.planting.PlantError.TheVariants as errors

form-before : (f : LabelForm) (k : ℕ) (l s rest : List ℕ) → IsForm f k l s [] → IsForm f k l (s ++ rest) rest
form-before Short k l s rest e =
    ap (λ (t : List ℕ). t ++ rest) e
    ∙ ap (λ (t : List ℕ). 0 ∷ t) (append_assoc (replicate (length l) 1) (0 ∷ (l ++ [])) rest ∙ ap (λ (t : List ℕ). replicate (length l) 1 ++ (0 ∷ (t ++ rest))) (append-nil l))
form-before Long k l s rest e =
    ap (λ (t : List ℕ). t ++ rest) e
    ∙ ap (λ (t : List ℕ). 1 ∷ (0 ∷ t)) (append_assoc (spelled k (length l)) (l ++ []) rest ∙ ap (λ (t : List ℕ). spelled k (length l) ++ (t ++ rest)) (append-nil l))
form-before Same k l s rest e = (
  e.0,
  e.1,
  ap (λ (t : List ℕ). t ++ rest) e.2
      ∙ ap (λ (t : List ℕ). 1 ∷ (1 ∷ (bit_number e.0 ∷ (t ++ rest)))) (append-nil (spelled k (length l))),
)

-- a label before whatever follows it
pub label-before : (n : ℕ) (l s rest : List ℕ) → IsLabel Required n l s [] → IsLabel Required n l (s ++ rest) rest
label-before n l s rest h = (h.0, h.1, h.2, form-before h.0 (bit_length n) l s rest h.3)

pub leaf-built : (n : ℕ) (l : List ℕ) (c b : Held) (label pushed : List ℕ) (refs : List Tree) → IsLabel Required n l label []
    → refs ≡ [] → pushed ≡ label ++ c.bits → b.bits ≡ pushed → b.refs ≡ refs ++ c.refs
    → IsLabel Required n l b.bits c.bits × (b.refs ≡ c.refs)
leaf-built n l c b label pushed refs h none e f g =
    let P : List ℕ → Type 0 = λ t. IsLabel Required n l t c.bits in
    (subst P (sym (f ∙ e)) (label-before n l label c.bits h), g ∙ ap (λ t. t ++ c.refs) none)

-- a push that is refused for want of room
refused-full : (e : PushError) (P : Type 0) → IsErrOf {T = Unit {0}} (Err e) push.Full ↔ P
    → (IsErrOf {T = Unit {0}} (Err e) push.TooDeep → ⊥) → P
refused-full push.Full P f d = f.0 refl
refused-full push.TooDeep P f d = absurd (d refl)

full-leaf : (n : ℕ) (l key : List ℕ) (c : Held) (e : PlantError) → IsFullAt key e
    → 1023 < label_size n l + length c.bits → BuildsLeaf n l key c (Err e)
full-leaf n l key c (errors.Full q) h l' = (h, l')
full-leaf n l key c errors.NoMemory h l' = tt
full-leaf n l key c (errors.Form q) h l' = absurd h
full-leaf n l key c errors.TooDeep h l' = absurd h

pub leaf-full : (n : ℕ) (l key label : List ℕ) (c : Held) (p : PushError) (e : PlantError) → IsLabel Required n l label []
    → IsErrOf {T = Unit {0}} (Err p) push.Full ↔ (1023 < length label + length c.bits)
    → (IsErrOf {T = Unit {0}} (Err p) push.TooDeep → ⊥) → IsFullAt key e → BuildsLeaf n l key c (Err e)
leaf-full n l key label c p e h f d a =
    let wide = refused-full p (1023 < length label + length c.bits) f d in
    let size = label-long n l label [] h in
    full-leaf n l key c e a (omega (arith, wide, size))
