-- The refusals of tags, one by one.
use Rattle.std.proofs.Common.{◌≡◌, ◌∙◌, ◌<◌, ◌≤◌, ◌+◌, ℕ, suc, Bool, true, false, [], ◌∷◌, ◌++◌, length, drop, refl, sym, ap, arith}
use Rattle.std.specs.Prelude.{Some, cond, nat_lt}
use Rattle.std.proofs.lemmas.Bool.Decides.{Decides-ltb}
use Rattle.tlb_syntax.specs.Tree.{SchemaView}
use Rattle.schema_leads.specs.Tags.{cores}
use Rattle.accepted_schema.specs.Refusals.{of_tags, first_of, tag_too_long}
use Rattle.lead_table.specs.declared.heads.Head.{Head}
use Rattle.tag_ambiguity.proofs.Listing.{left_at}
use Rattle.tag_ambiguity.proofs.Pairs.{IsAt}

is_long : (n : ℕ) → 63 < n → nat_lt 63 n ≡ true
is_long n long = (Decides-ltb 63 n).1 long

is_short : (n : ℕ) → n ≤ 63 → nat_lt 63 n ≡ false
is_short n short = off (nat_lt 63 n) (Decides-ltb 63 n).0
  where
    off : (b : Bool) → (b ≡ true → 63 < n) → b ≡ false
    off true is = absurd (omega (arith, is refl, short))
    off false is = refl

here : (s : SchemaView) (k : ℕ) (h : Head) (at : IsAt s k h) (b : Bool) → nat_lt 63 (length h.tag) ≡ b
    → of_tags (drop k (cores s))
    ≡ cond b (tag_too_long at.declaration.of_type at.declaration.shown ∷ []) [] ++ of_tags (drop (k + 1) (cores s))
here s k h at b is =
    let d = at.declaration in
    let e : k + 1 ≡ suc k = omega arith in
    let test : nat_lt 63 (length d.core.tag) ≡ b = ap (λ t. nat_lt 63 (length t)) (sym at.tag) ∙ is in
    ap of_tags (left_at (cores s) k d at.there)
    ∙ ap (λ c. cond c (tag_too_long d.of_type d.shown ∷ []) [] ++ of_tags (drop (suc k) (cores s))) test
    ∙ ap (λ n. cond b (tag_too_long d.of_type d.shown ∷ []) [] ++ of_tags (drop n (cores s))) (sym e)

pub tag_passes : (s : SchemaView) (k : ℕ) (h : Head) (at : IsAt s k h) → length h.tag ≤ 63 → of_tags (cores s) ≡ of_tags (drop k (cores s))
    → of_tags (cores s) ≡ of_tags (drop (k + 1) (cores s))
tag_passes s k h at short so_far = so_far ∙ here s k h at false (is_short (length h.tag) short)

pub tag_fails : (s : SchemaView) (k : ℕ) (h : Head) (at : IsAt s k h) → 63 < length h.tag → of_tags (cores s) ≡ of_tags (drop k (cores s))
    → first_of (of_tags (cores s)) ≡ Some (tag_too_long at.declaration.of_type at.declaration.shown)
tag_fails s k h at long so_far = ap first_of (so_far ∙ here s k h at true (is_long (length h.tag) long))
