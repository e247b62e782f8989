-- What is answered for a file.
use Rattle.std.proofs.Common.{◌≡◌, ℕ, List, refl, sym, ◌∙◌}
use Rattle.std.specs.Prelude.{Result, Ok, Err, Some, slice_index}
use Rattle.cell_nodes.specs.declared.tree.Tree.{Tree}
use Rattle.bag_cells.specs.Form.{raw_of, raw_of_hex, raw_of_base64, trimmed}
use Rattle.bag_cells.specs.Bag.{refusal, BagHolds, BagRefused, content, IfAnswered}
use Rattle.bag_cells.specs.BagLaws.{holds_once, refused_once, not_both}
use Rattle.bag_cells.proofs.Unfolding.{root_unfolds}
use Rattle.bag_cells.specs.Known.{IsAccepted}
use Rattle.bag_cells.specs.declared.error.BagError.{BagError}

pub answered_so : {X : Type 0} (r : Result X BagError) (P P' : X → Type 0) (Q Q' : BagError → Type 0) → IfAnswered r P Q
    → ((x : X) → P x → P' x) → ((e : BagError) → Q e → Q' e) → IfAnswered r P' Q'
answered_so (Ok x) P P' Q Q' h f g = f x h
answered_so (Err e) P P' Q Q' h f g = λ ne. g e (h ne)

pub answered_of : (file raw : List ℕ) (r : Result Tree BagError) → raw_of file ≡ Ok raw
    → IfAnswered r (λ t. IsAccepted raw t) (λ e. refusal raw ≡ Some e) → IfAnswered r (λ t. BagHolds file t) (λ e. BagRefused file e)
answered_of file raw r f h =
    answered_so r (λ t. IsAccepted raw t) (λ t. BagHolds file t) (λ e. refusal raw ≡ Some e) (λ e. BagRefused file e) h
    (λ t a. record { raw = raw; form = f; accepted = a.accepted; unfolded = root_unfolds raw t a.accepted a.root_is })
    (λ e a. content raw f a)

pub raw_form : (file : List ℕ) (first : ℕ) → first ≡ slice_index file 0 → first ≡ 181 → raw_of file ≡ Ok file
raw_form file first e h = let k : slice_index file 0 ≡ 181 = sym e ∙ h in rw k refl

pub lower_form : (file : List ℕ) (first : ℕ) → first ≡ slice_index file 0 → first ≡ 98 → raw_of file ≡ raw_of_hex (trimmed file)
lower_form file first e h = let k : slice_index file 0 ≡ 98 = sym e ∙ h in rw k refl

pub upper_form : (file : List ℕ) (first : ℕ) → first ≡ slice_index file 0 → first ≡ 66 → raw_of file ≡ raw_of_hex (trimmed file)
upper_form file first e h = let k : slice_index file 0 ≡ 66 = sym e ∙ h in rw k refl

pub base64_form : (file : List ℕ) (first : ℕ) → first ≡ slice_index file 0 → first ≡ 116 → raw_of file ≡ raw_of_base64 (trimmed file)
base64_form file first e h = let k : slice_index file 0 ≡ 116 = sym e ∙ h in rw k refl

pub answers_tree : (file : List ℕ) (r : Result Tree BagError) → IfAnswered r (λ t. BagHolds file t) (λ e. BagRefused file e)
    → (t : Tree) → BagHolds file t → IfAnswered r (λ c. c ≡ t) (λ _. ⊥)
answers_tree file r h t held =
    answered_so r (λ c. BagHolds file c) (λ c. c ≡ t) (λ e. BagRefused file e) (λ _. ⊥) h
    (λ c k. holds_once file c t k held)
    (λ e k. not_both file t e held k)

pub answers_refusal : (file : List ℕ) (r : Result Tree BagError) → IfAnswered r (λ t. BagHolds file t) (λ e. BagRefused file e)
    → (e : BagError) → BagRefused file e → IfAnswered r (λ _. ⊥) (λ found. found ≡ e)
answers_refusal file r h e refused =
    answered_so r (λ c. BagHolds file c) (λ _. ⊥) (λ d. BagRefused file d) (λ found. found ≡ e) h
    (λ c k. not_both file c e k refused)
    (λ d k. refused_once file d e k refused)
