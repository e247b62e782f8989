-- What the reading function gives is what a call answers.
use Rattle.std.proofs.Common.{◌≡◌, ◌↔◌, ℕ, ◌-◌, true, List, length, drop, Result, Ok, Err, sym, ap, ◌∙◌}
use Rattle.hashmap_labels.specs.Labels.{IsLabel}
use Rattle.hashmap_labels.specs.Reading.{Found, may_have, judged, read_any, read_label}
use Rattle.hashmap_labels.specs.ReadingLaws.{label-exactly, read_any-after}
use Rattle.hashmap_labels.specs.Steps.{when_true, same_ok}
use Rattle.hashmap_labels.specs.Views.{Gives, Reads, bits_of}
use Rattle.hashmap_labels.specs.declared.forms.Forms.{Forms}
use Rattle.hashmap_labels.specs.declared.labels.Label.{Label}
use Rattle.hashmap_labels.specs.declared.labels.LabelError.{LabelError}

-- the label that was found, by how many bits it takes
pub label_found : (forms : Forms) (n : ℕ) (s : List ℕ) (x : Found) (count : ℕ) → read_any n s ≡ Ok x → may_have forms n x.1 x.0 ≡ true → count ≡ length s - length x.2
    → read_label forms n s ≡ Ok (x.1, drop count s)
label_found forms n s x count e h c =
    ap (judged forms n) e ∙ when_true (may_have forms n x.1 x.0) _ _ h
    ∙ (λ i. Ok (x.1, (sym (ap (λ (m : ℕ). drop m s) c ∙ read_any-after n s x e)) i))

pub gives_exactly : (forms : Forms) (n : ℕ) (s : List ℕ) (r : Result Label LabelError) → Reads r s (read_label forms n s) → (bits rest : List ℕ) → Gives r s bits rest ↔ IsLabel forms n bits s rest
gives_exactly forms n s (Ok label) e bits rest = (
  λ g. (label-exactly forms n s bits rest).0 (e ∙ (λ i. Ok (g.0 i, g.1 i))),
  λ h. let p = same_ok (bits_of label.bits, drop label.taken s) (bits, rest) (sym e ∙ (label-exactly forms n s bits rest).1 h) in ((λ i. (p i).0), (λ i. (p i).1)),
)
gives_exactly forms n s (Err w) e bits rest =
    (λ g. absurd g, λ h. let f = (label-exactly forms n s bits rest).1 h in cc)

pub refuses_exactly : (forms : Forms) (n : ℕ) (s : List ℕ) (r : Result Label LabelError) → Reads r s (read_label forms n s) → (w : LabelError) (P : Type 0) → (read_label forms n s ≡ Err w) ↔ P → (r ≡ Err w) ↔ P
refuses_exactly forms n s (Ok label) e w P law = (λ f. cc, λ p. let f = law.1 p in cc)
refuses_exactly forms n s (Err v) e w P law = (
  λ f. let g : v ≡ w = cc in law.0 (e ∙ ap (λ (u : LabelError). Err u) g),
  λ p. let f = law.1 p in let g : v ≡ w = cc in ap (λ (u : LabelError). Err u) g,
)
