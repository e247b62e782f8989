-- No later round of the leads differs, and one table of leads agrees with its own next round.
use Rattle.std.proofs.Common.{◌≡◌, ℕ, zero, suc, ◌+◌, ◌-◌, Bool, true, false, List, [], ◌∷◌, refl, sym, ap, ◌∙◌, subst, map, arith}
use Rattle.std.specs.Prelude.{◌||◌, cond, bytes_eq, Some, slice_get}
use Rattle.std.specs.List.{flat_map}
use Rattle.std.proofs.lemmas.Bool.{false≢true}
use Rattle.tlb_syntax.specs.Tree.{SchemaView}
use Rattle.kind_terms.specs.Words.{Word, is_among}
use Rattle.core_form.specs.Core.{Declaration, CoreSchema}
use Rattle.schema_leads.specs.Tags.{cores}
use Rattle.schema_leads.specs.Leads.{Leads, First, anything, fixed, declared, first_of, at_most_64, by_first, by_tag, of_declaration, of_type_named, with_leads, together, type_count, rounds, type_leads, leads}
use Rattle.schema_leads.specs.FirstFields.{BeginsWithType, Chain, IsGuarded}
use Rattle.schema_leads.specs.Laws.{NoLongChain, RoundsEnd, IsSettled, OneTable}
use Rattle.schema_leads.proofs.Words.{same_word, self_word}

-- ---- two tables of leads

-- tables that agree on each declaration of a type give its leads alike
same_flat : (L M : Word → Leads) (x : Word) (s : CoreSchema)
    → ((i : ℕ) (d : Declaration) → slice_get s i ≡ Some d → d.of_type ≡ x → of_declaration L d ≡ of_declaration M d)
    → flat_map (of_declaration L) (of_type_named s x) ≡ flat_map (of_declaration M) (of_type_named s x)
same_flat L M x [] same = refl
same_flat L M x (d ∷ ds) same = at (bytes_eq d.of_type x) refl (same_flat L M x ds (λ i e. same (suc i) e))
  where
    at : (b : Bool) → bytes_eq d.of_type x ≡ b → flat_map (of_declaration L) (of_type_named ds x) ≡ flat_map (of_declaration M) (of_type_named ds x)
        → flat_map (of_declaration L) (cond b (d ∷ of_type_named ds x) (of_type_named ds x)) ≡ flat_map (of_declaration M) (cond b (d ∷ of_type_named ds x) (of_type_named ds x))
    at true is rest =
        let first : of_declaration L d ≡ of_declaration M d = same 0 d refl (same_word d.of_type x is) in
        rw (first, rest) refl
    at false is rest = rest

pub same_together : (L M : Word → Leads) (x : Word) (s : CoreSchema)
    → ((i : ℕ) (d : Declaration) → slice_get s i ≡ Some d → d.of_type ≡ x → of_declaration L d ≡ of_declaration M d)
    → together L s x ≡ together M s x
unfolding together
same_together L M x s same = ap (with_leads []) (same_flat L M x s same)

-- ---- a type that is not declared

not_among : (s : CoreSchema) (x : Word) → is_among (map (λ (d : Declaration). d.of_type) s) x ≡ false → of_type_named s x ≡ []
not_among [] x e = refl
not_among (d ∷ ds) x e = at (bytes_eq d.of_type x) refl (none_of (bytes_eq x d.of_type) (is_among (map (λ (d : Declaration). d.of_type) ds) x) e) (not_among ds x)
  where
    none_of : (a b : Bool) → (a || b) ≡ false → (a ≡ false) × (b ≡ false)
    none_of true b e = cc
    none_of false b e = (refl, e)

    at : (b : Bool) → bytes_eq d.of_type x ≡ b → (bytes_eq x d.of_type ≡ false) × (is_among (map (λ (d : Declaration). d.of_type) ds) x ≡ false)
        → (is_among (map (λ (d : Declaration). d.of_type) ds) x ≡ false → of_type_named ds x ≡ [])
        → cond b (d ∷ of_type_named ds x) (of_type_named ds x) ≡ []
    at true is none rest =
        let same : d.of_type ≡ x = same_word d.of_type x is in
        let other : bytes_eq x d.of_type ≡ true = ap (bytes_eq x) same ∙ self_word x in
        absurd (false≢true (sym none.0 ∙ other))
    at false is none rest = rest none.1

pub nothing_together : (L : Word → Leads) (s : CoreSchema) (x : Word) → is_among (map (λ (d : Declaration). d.of_type) s) x ≡ false → together L s x ≡ []
unfolding together
nothing_together L s x e = ap (λ ds. with_leads [] (flat_map (of_declaration L) ds)) (not_among s x e)

-- ---- tables of rounds

-- each table is the round after the one before, and types that are not declared have no leads
pub record AreRounds (s : CoreSchema) (tables : ℕ → Word → Leads) : Type 0 where
  pub step : (n : ℕ) (x : Word) → tables (suc n) x ≡ together (tables n) s x
  pub undeclared : (n : ℕ) (x : Word) → is_among (map (λ (d : Declaration). d.of_type) s) x ≡ false → tables n x ≡ []

same_declaration : (s : CoreSchema) (L M : Word → Leads) (i : ℕ) (d : Declaration) → slice_get s i ≡ Some d
    → ((y : Word) → BeginsWithType s d.of_type y → L y ≡ M y) → ((y : Word) → is_among (map (λ (d : Declaration). d.of_type) s) y ≡ false → L y ≡ M y)
    → of_declaration L d ≡ of_declaration M d
same_declaration s L M i d there first other = at_tag d.core.tag refl
  where
    at_type : d.core.tag ≡ [] → (f : First) → first_of d.core.items ≡ f → by_first L f ≡ by_first M f
    at_type none anything is = refl
    at_type none (fixed ls) is = refl
    at_type none (declared y) is = go (is_among (map (λ (d : Declaration). d.of_type) s) y) refl
      where
        go : (b : Bool) → is_among (map (λ (d : Declaration). d.of_type) s) y ≡ b → at_most_64 (L y) ≡ at_most_64 (M y)
        go true e = ap at_most_64 (first y (record { place = i; constructor = d; there = there; of_type = refl; empty_tag = none; first = is; is_declared = e }))
        go false e = ap at_most_64 (other y e)

    at_tag : (t : List ℕ) → d.core.tag ≡ t → by_tag t (by_first L (first_of d.core.items)) ≡ by_tag t (by_first M (first_of d.core.items))
    at_tag [] is = at_type is (first_of d.core.items) refl
    at_tag (b ∷ t) is = refl

-- rounds from which no chain goes on agree
pub agree : (s : CoreSchema) (A B : ℕ → Word → Leads) → AreRounds s A → AreRounds s B → (n : ℕ) (x : Word) → (Chain s n x → ⊥) → A n x ≡ B n x
agree s A B a b zero x none = absurd (none tt)
agree s A B a b (suc n) x none =
    let same = same_together (A n) (B n) x s
    (λ i d there of_type.
    let P : Word → Type 0 = λ w. (Chain s (suc n) w → ⊥) in
    let none_of = subst P (sym of_type) none in
    same_declaration s (A n) (B n) i d there
    (λ y first. agree s A B a b n y (λ rest. none_of (y, first, rest)))
    (λ y e. a.undeclared n y e ∙ sym (b.undeclared n y e))) in
    a.step n x ∙ same ∙ sym (b.step n x)

-- ---- the rounds of the leads

rounds_undeclared : (s : CoreSchema) (n : ℕ) (x : Word) → is_among (map (λ (d : Declaration). d.of_type) s) x ≡ false → rounds n s x ≡ []
unfolding rounds
rounds_undeclared s zero x e = refl
rounds_undeclared s (suc n) x e = nothing_together (rounds n s) s x e

rounds_step : (s : CoreSchema) (n : ℕ) (x : Word) → rounds (suc n) s x ≡ together (rounds n s) s x
unfolding rounds
rounds_step s n x = refl

pub are_rounds : (s : CoreSchema) → AreRounds s (λ n. rounds n s)
are_rounds s = record { step = rounds_step s; undeclared = rounds_undeclared s }

-- the rounds after so many
are_later : (s : CoreSchema) (k : ℕ) → AreRounds s (λ n. rounds (k + n) s)
are_later s k = record {
  step = λ n x. (let e : k + suc n ≡ suc (k + n) = omega arith in ap (λ m. rounds m s x) e ∙ rounds_step s (k + n) x);
  undeclared = λ n x e. rounds_undeclared s (k + n) x e;
}

-- where no chain is as long as that, for declared types
pub same_rounds : NoLongChain → (s : SchemaView) → IsGuarded s → (A B : ℕ → Word → Leads) → AreRounds (cores s) A → AreRounds (cores s) B → (x : Word)
    → A (type_count (cores s)) x ≡ B (type_count (cores s)) x
same_rounds no_chain s ok A B a b x = go (is_among (map (λ (d : Declaration). d.of_type) (cores s)) x) refl
  where
    n : ℕ
    n = type_count (cores s)

    go : (t : Bool) → is_among (map (λ (d : Declaration). d.of_type) (cores s)) x ≡ t → A (type_count (cores s)) x ≡ B (type_count (cores s)) x
    go true e = agree (cores s) A B a b (type_count (cores s)) x (no_chain s x ok e)
    go false e = a.undeclared (type_count (cores s)) x e ∙ sym (b.undeclared (type_count (cores s)) x e)

pub rounds_end : NoLongChain → RoundsEnd
rounds_end no_chain s n x ok le =
    let count = type_count (cores s) in
    let k = n - count in
    let e : n ≡ k + count = omega (arith, le) in
    ap (λ m. rounds m (cores s) x) e ∙ sym (same_rounds no_chain s ok (λ n. rounds n (cores s)) (λ n. rounds (k + n) (cores s)) (are_rounds (cores s)) (are_later (cores s) k) x)

-- ---- one table

settled_rounds : (s : CoreSchema) (table : Word → Leads) → IsSettled s table → AreRounds s (λ n. table)
settled_rounds s table settled = record {
  step = λ n x. settled x;
  undeclared = λ n x e. settled x ∙ nothing_together table s x e;
}

same_leads : (L M : Word → Leads) → ((y : Word) → L y ≡ M y) → (d : Declaration) → of_declaration L d ≡ of_declaration M d
same_leads L M same d = ap (by_tag d.core.tag) (at (first_of d.core.items))
  where
    at : (f : First) → by_first L f ≡ by_first M f
    at anything = refl
    at (fixed ls) = refl
    at (declared y) = ap at_most_64 (same y)

pub one_table : NoLongChain → OneTable
unfolding leads
one_table no_chain s table ok settled d =
    same_leads table (type_leads (cores s))
    (same_rounds no_chain s ok (λ n. table) (λ n. rounds n (cores s)) (settled_rounds (cores s) table settled) (are_rounds (cores s))) d
