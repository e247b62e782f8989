-- A label that was read by its contract is the one that the reading function gives.
use Rattle.std.proofs.Common.{◌≡◌, ◌≢◌, ◌↔◌, ℕ, List, drop, Result, Ok, Err, refl, sym, subst}
use Rattle.hashmap_labels.specs.Labels.{IsLabel, EndsEarly, IsTooLong, HasOtherForm}
use Rattle.hashmap_labels.specs.Reading.{read_label}
use Rattle.hashmap_labels.specs.ReadingLaws.{label-exactly, short-exactly, long-exactly, form-exactly}
use Rattle.hashmap_labels.specs.Views.{Gives, Reads, bits_of}
use Rattle.hashmap_labels.specs.declared.forms.Forms.{Forms}
use Rattle.hashmap_labels.specs.declared.forms.Forms.TheVariants.{Required, Every}
use Rattle.hashmap_labels.specs.declared.labels.Label.{Label}
use Rattle.hashmap_labels.specs.declared.labels.LabelError.{LabelError}
use Rattle.hashmap_labels.specs.declared.labels.LabelError.TheVariants as why

reads_in : (forms : Forms) (n : ℕ) (s : List ℕ) (r : Result Label LabelError)
    → ((bits rest : List ℕ) → Gives r s bits rest ↔ IsLabel forms n bits s rest)
    → ((r ≡ Err why.LabelShort) ↔ EndsEarly n s) → ((r ≡ Err why.LabelLong) ↔ IsTooLong n s)
    → (r ≡ Err why.LabelForm → read_label forms n s ≡ Err why.LabelForm) → Reads r s (read_label forms n s)
reads_in forms n s (Ok label) g a b c =
    (label-exactly forms n s (bits_of label.bits) (drop label.taken s)).1 ((g (bits_of label.bits) (drop label.taken s)).0 (refl, refl))
reads_in forms n s (Err why.LabelShort) g a b c = (short-exactly forms n s).1 (a.0 refl)
reads_in forms n s (Err why.LabelLong) g a b c = (long-exactly forms n s).1 (b.0 refl)
reads_in forms n s (Err why.LabelForm) g a b c = c refl

pub reads_required : (forms : Forms) (n : ℕ) (s t : List ℕ) (r : Result Label LabelError) → forms ≡ Required → t ≡ s
    → ((bits rest : List ℕ) → Gives r t bits rest ↔ IsLabel Required n bits t rest)
    → ((r ≡ Err why.LabelShort) ↔ EndsEarly n t) → ((r ≡ Err why.LabelLong) ↔ IsTooLong n t)
    → ((r ≡ Err why.LabelForm) ↔ HasOtherForm n t) → Reads r s (read_label forms n s)
reads_required forms n s t r w e g a b c =
    let P : List ℕ → Type 0 = λ u. Reads r u (read_label Required n u) in
    let Q : Forms → Type 0 = λ f. Reads r s (read_label f n s) in
    subst Q (sym w) (subst P e (reads_in Required n t r g a b (λ f. (form-exactly n t).1 (c.0 f))))

pub reads_every : (forms : Forms) (n : ℕ) (s t : List ℕ) (r : Result Label LabelError) → forms ≡ Every → t ≡ s
    → ((bits rest : List ℕ) → Gives r t bits rest ↔ IsLabel Every n bits t rest)
    → ((r ≡ Err why.LabelShort) ↔ EndsEarly n t) → ((r ≡ Err why.LabelLong) ↔ IsTooLong n t)
    → r ≢ Err why.LabelForm → Reads r s (read_label forms n s)
reads_every forms n s t r w e g a b c =
    let P : List ℕ → Type 0 = λ u. Reads r u (read_label Every n u) in
    let Q : Forms → Type 0 = λ f. Reads r s (read_label f n s) in
    subst Q (sym w) (subst P e (reads_in Every n t r g a b (λ f. absurd (c f))))
