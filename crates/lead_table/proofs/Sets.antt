-- Sets of leads.
use Rattle.std.proofs.Common.{◌≡◌, ℕ, zero, suc, ◌+◌, ◌<◌, ◌≤◌, Bool, true, false, List, [], ◌∷◌, ◌++◌, length, take, drop, refl, sym, ap, ◌∙◌, subst, arith, get_or, length-append}
use Rattle.std.specs.Prelude.{cond, bytes_eq, nat_lt, Option, Some, None, slice_get, slice_index_or}
use Rattle.std.specs.List.{list_any, flat_map}
use Rattle.std.proofs.lemmas.Bool.{lt-ltb, le-ltb, ltb-true}
use Rattle.std.proofs.lemmas.Option.{slice_get-get_or}
use Rattle.std.proofs.lemmas.List.{flat_map_more, take-append-drop}
use Rattle.std.proofs.lemmas.Grind.{flat_map-append}
use Rattle.std.proofs.Math.Seq.{drop-cons, take-suc}
use Rattle.schema_leads.specs.Leads.{Leads, any_bits, with_lead, with_leads, at_most_64, by_tag}
use Rattle.lead_table.specs.declared.heads.Head.{Head}
use Rattle.lead_table.specs.Heads.{leads_by, leads_at, leads_of_members}

pub leads_after : (ls ks js : Leads) → with_leads ls (ks ++ js) ≡ with_leads (with_leads ls ks) js
leads_after ls [] js = refl
leads_after ls (k ∷ ks) js = leads_after (with_lead ls k) ks js

-- one more lead of a list
pub leads_from : (ls more : Leads) (i : ℕ) (l : List ℕ) → i < length more → with_leads (with_lead ls (get_or more i l)) (drop (suc i) more) ≡ with_leads ls (drop i more)
leads_from ls more i l lt = sym (ap (with_leads ls) (drop-cons more i l lt))

grown_at : (ls : Leads) (l : List ℕ) (b : Bool) → length ls ≤ length (cond b ls (ls ++ l ∷ []))
grown_at ls l true = omega arith
grown_at ls l false = omega (arith, length-append ls (l ∷ []))

-- a set only grows
pub grown : (ls ks : Leads) → length ls ≤ length (with_leads ls ks)
grown ls [] = omega arith
grown ls (k ∷ ks) = omega (arith, grown_at ls k (list_any (bytes_eq k) ls), grown (with_lead ls k) ks)

-- ---- members

pub members_more : (M : ℕ → Leads) (hs : List Head) (members : List ℕ) (k : ℕ) (h : Head) → k < length members
    → get_or members k 0 < length hs
    → leads_of_members M hs (take (suc k) members)
    ≡ leads_of_members M hs (take k members) ++ leads_by M (get_or hs (get_or members k 0) h)
members_more M hs members k h lt below =
    let f = λ (i : ℕ). leads_at M (slice_get hs i) in
    let i = get_or members k 0 in
    ap (flat_map f) (take-suc members k 0 lt) ∙ sym (flat_map_more f [] (take k members) i)
    ∙ ap (λ ls. leads_of_members M hs (take k members) ++ ls) (ap (leads_at M) (slice_get-get_or hs i h below))

-- with more than 64 leads so far the set is the empty lead alone
pub too_many : (M : ℕ → Leads) (hs : List Head) (members : List ℕ) (k : ℕ) → 64 < length (with_leads [] (leads_of_members M hs (take k members)))
    → at_most_64 (with_leads [] (leads_of_members M hs members)) ≡ any_bits
too_many M hs members k many =
    let f = λ (i : ℕ). leads_at M (slice_get hs i) in
    let whole = ap (flat_map f) (sym (take-append-drop k members)) ∙ flat_map-append f (take k members) (drop k members) in
    let split = ap (with_leads []) whole ∙ leads_after [] (leads_of_members M hs (take k members)) (leads_of_members M hs (drop k members)) in
    let most = grown (with_leads [] (leads_of_members M hs (take k members))) (leads_of_members M hs (drop k members)) in
    ap at_most_64 split ∙ ap (λ b. cond b any_bits (with_leads (with_leads [] (leads_of_members M hs (take k members))) (leads_of_members M hs (drop k members))))
    (lt-ltb 64 _ (omega (arith, most, many)))

pub few : (ls : Leads) → length ls ≤ 64 → at_most_64 ls ≡ ls
few ls le = ap (λ b. cond b any_bits ls) (le-ltb 64 (length ls) le)

-- ---- tags

pub tag_alone : (tag : List ℕ) (ls : Leads) → (length tag ≡ 0 → ⊥) → by_tag tag ls ≡ tag ∷ []
tag_alone [] ls many = absurd (many refl)
tag_alone (b ∷ tag) ls many = refl

pub no_tag : (tag : List ℕ) (ls : Leads) → length tag ≡ 0 → by_tag tag ls ≡ ls
no_tag [] ls none = refl
no_tag (b ∷ tag) ls none = cc

-- two truths that follow from each other are one
pub same_truth : (a b : Bool) → (a ≡ true → b ≡ true) → (b ≡ true → a ≡ true) → a ≡ b
same_truth true b f g = sym (f refl)
same_truth false true f g = g refl
same_truth false false f g = refl

-- the leads of one more member are added
pub members_step : (M : ℕ → Leads) (hs : List Head) (members : List ℕ) (k : ℕ) (h : Head) (old new more : Leads) → k < length members
    → get_or members k 0 < length hs → h ≡ get_or hs (get_or members k 0) h
    → old ≡ with_leads [] (leads_of_members M hs (take k members)) → more ≡ leads_by M h → new ≡ with_leads old more
    → new ≡ with_leads [] (leads_of_members M hs (take (k + 1) members))
members_step M hs members k h old new more lt below is so_far leads added =
    let one = members_more M hs members k h lt below in
    let e : k + 1 ≡ suc k = omega arith in
    added ∙ ap (with_leads old) (leads ∙ ap (leads_by M) is)
    ∙ ap (λ ls. with_leads ls (leads_by M (get_or hs (get_or members k 0) h))) so_far
    ∙ sym (leads_after [] (leads_of_members M hs (take k members)) (leads_by M (get_or hs (get_or members k 0) h)))
    ∙ ap (with_leads []) (sym one)
    ∙ ap (λ n. with_leads [] (leads_of_members M hs (take n members))) (sym e)
