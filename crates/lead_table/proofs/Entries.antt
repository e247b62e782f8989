-- Tables of entries.
use Rattle.std.proofs.Common.{◌≡◌, ℕ, zero, suc, ◌+◌, ◌*◌, ◌<◌, ◌≤◌, ◌⊎◌, inl, inr, Bool, true, false, List, [], ◌∷◌, ◌++◌, length, refl, sym, ap, ◌∙◌, subst, arith, set, get_or}
use Rattle.std.specs.Prelude.{cond, nat_eq, Option, Some, None, slice_get, count_by}
use Rattle.std.proofs.lemmas.List.Sums.{sum_by-set}
use Rattle.std.proofs.lemmas.Option.{slice_get-get_or}
use Rattle.std.proofs.lemmas.Bool.{false≢true, eqb-true, eqb-false}
use Rattle.tlb_syntax.specs.Tree.{SchemaView}
use Rattle.lead_table.specs.declared.leads.Entry.{Entry}
use Rattle.lead_table.specs.declared.leads.Entry.TheVariants.{Unseen, Open, Done}
use Rattle.schema_leads.specs.Leads.{Leads}
use Rattle.lead_table.proofs.Places.{set_same, set_other}
use Rattle.lead_table.specs.Chains.{is_unseen, is_unseen_entry, IsSeen, to_do, AreUnseen, IsSettled}

pub unseen_more : (es : List Entry) → AreUnseen es → AreUnseen (es ++ Unseen ∷ [])
unseen_more [] are = (refl, tt)
unseen_more (e ∷ es) are = (are.0, unseen_more es are.1)

unseen_at_place : (es : List Entry) → AreUnseen es → (n : ℕ) (e : Entry) → slice_get es n ≡ Some e → e ≡ Unseen
unseen_at_place [] are n e is = cc
unseen_at_place (x ∷ es) are zero e is = let same : x ≡ e = cc in sym same ∙ are.0
unseen_at_place (x ∷ es) are (suc n) e is = unseen_at_place es are.1 n e is

-- a table in which nothing is seen has nothing that could be wrong
pub unseen_settled : (s : SchemaView) (es : List Entry) → AreUnseen es → IsSettled s es
unseen_settled s es are = record {
  none_open = λ n is. (let e : Open ≡ Unseen = unseen_at_place es are n Open is in cc);
  done = λ n ls is. (let e : Done ls ≡ Unseen = unseen_at_place es are n (Done ls) is in cc);
}

-- ---- one entry set

-- the entry of a table with one set
pub at_set : (es : List Entry) (n m : ℕ) (e f : Entry) → n < length es → slice_get (set es n e) m ≡ Some f
    → ((n ≡ m) × (f ≡ e)) ⊎ (slice_get es m ≡ Some f)
at_set es n m e f lt is = go (nat_eq n m) refl
  where
    go : (b : Bool) → nat_eq n m ≡ b → ((n ≡ m) × (f ≡ e)) ⊎ (slice_get es m ≡ Some f)
    go true same =
        let k : n ≡ m = eqb-true n m same in
        let there = sym (set_same es n e lt) ∙ ap (slice_get (set es n e)) k ∙ is in
        let j : e ≡ f = cc in
        inl (k, sym j)
    go false other =
        let ne : n ≡ m → ⊥ = (λ k. eqb-false n m other k) in
        inr (sym (set_other es n m e ne) ∙ is)

-- what was seen stays so
pub seen_stays : (es : List Entry) (n m : ℕ) (e : Entry) → is_unseen (Some e) ≡ false → IsSeen es m → IsSeen (set es n e) m
seen_stays [] n m e seen before = before
seen_stays (x ∷ es) zero zero e seen before = seen
seen_stays (x ∷ es) zero (suc m) e seen before = before
seen_stays (x ∷ es) (suc n) zero e seen before = before
seen_stays (x ∷ es) (suc n) (suc m) e seen before = seen_stays es n m e seen before

pub seen_set : (es : List Entry) (n : ℕ) (e : Entry) → is_unseen (Some e) ≡ false → n < length es → IsSeen (set es n e) n
seen_set es n e seen lt = ap is_unseen (set_same es n e lt) ∙ seen

-- ---- what is left to do

-- an entry counts where it is not seen
abbrev counted : Entry → ℕ
counted e = cond (is_unseen_entry e) 1 0

pub fewer_unseen : (es : List Entry) (n : ℕ) (e : Entry) → n < length es → is_unseen_entry e ≡ false
    → count_by is_unseen_entry (set es n e) ≤ count_by is_unseen_entry es
fewer_unseen es n e lt seen =
    let sums = sum_by-set counted es n e e lt in
    let none : counted e ≡ 0 = ap (λ b. cond b 1 0) seen in
    omega (arith, sums, none)

pub one_unseen_fewer : (es : List Entry) (n : ℕ) (e : Entry) → n < length es → is_unseen_entry e ≡ false → is_unseen (slice_get es n) ≡ true
    → count_by is_unseen_entry (set es n e) + 1 ≡ count_by is_unseen_entry es
one_unseen_fewer es n e lt seen unseen =
    let sums = sum_by-set counted es n e e lt in
    let none : counted e ≡ 0 = ap (λ b. cond b 1 0) seen in
    let one : counted (get_or es n e) ≡ 1 = ap (λ b. cond b 1 0) (sym (ap is_unseen (slice_get-get_or es n e lt)) ∙ unseen) in
    omega (arith, sums, none, one)

-- an unseen entry is one of the table
pub unseen_below : (es : List Entry) (n : ℕ) → is_unseen (slice_get es n) ≡ true → n < length es
unseen_below [] n unseen = absurd (false≢true unseen)
unseen_below (x ∷ es) zero unseen = omega arith
unseen_below (x ∷ es) (suc n) unseen = omega (arith, unseen_below es n unseen)
