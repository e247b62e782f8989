-- Making a proof has one answer, and no other.
use Rattle.std.proofs.Common.{◌≡◌, inl, inr, ◌⊎◌, ℕ, zero, suc, ◌+◌, ◌<◌, ◌≤◌, Bool, true, false, cond, nat_eq, nat_lt}
use Rattle.std.proofs.Common.{List, [], ◌∷◌, Option, Some, None, refl, sym, ap, ◌∙◌, subst, arith}
use Rattle.std.specs.Prelude.{slice_get}
use Rattle.std.proofs.lemmas.Bool.{cases_lt, eqb-true, eqb-false, eq-eqb, ltb-true, ltb-false, lt-ltb, le-ltb}
use Rattle.cell_nodes.specs.Tree.{mask, deepest, IsShallow, unfolded}
use Rattle.cell_nodes.specs.declared.tree.Mode.TheVariants.{Whole}
use Rattle.cell_nodes.specs.declared.tree.Tree.{Tree}
use Rattle.core_form.specs.Core.{CoreSchema}
use Rattle.core_form.specs.Closed.{Closed}
use Rattle.hashmap_tree.specs.CompleteLaws.{not_equal}
use Rattle.spelling.specs.Acceptable.{IsAcceptable}
use Rattle.spelling.specs.Places.{Place}
use Rattle.spelling.specs.Spells.{Reading}
use Rattle.spelling.specs.Stuck.{Stuck}
use Rattle.spelling_laws.specs.OutcomeLaws.{read_or_stuck}
use Rattle.typed_value.specs.Paths.{Stride, at_path}
use Rattle.typed_value.specs.Values.{Plain}
use Rattle.pruning.specs.Knowing.{names_absence, NamesSomething}
use Rattle.pruning.specs.SpellsLaid.{LaidRoot, plain_root, LaidReading}
use Rattle.proof_laws.specs.LaidReadsLaws.{laid_of, laid_reads}
use Rattle.proof_laws.specs.Laws.{OneProveAnswer}
use Rattle.proof_laws.specs.OneLaidLaws.{one_laid}
use Rattle.proof_laws.specs.Proving.{shown_for, proof_for, most_cells, AllName, IsFirstNameless}
use Rattle.proof_laws.specs.Proving.{ProveAnswer, proved, stuck_at, no_such_path, not_whole, proof_too_deep}
use Rattle.proof_laws.specs.Proving.{proof_too_large, CanProve, AnswersFor, ProveAnswers}

-- ---- the first path that names nothing

abbrev names_something : Option Plain → Bool → Bool
names_something (Some u) absence = true
names_something None absence = absence

names_true : (v : Plain) (path : List Stride) (o : Option Plain) (b : Bool) → at_path v path ≡ o
    → names_absence v path ≡ b → names_something o b ≡ true → NamesSomething v path
names_true v path (Some u) b e f h = inl (u, e)
names_true v path None b e f h = inr (f ∙ h)

names_false : (v : Plain) (path : List Stride) → names_something (at_path v path) (names_absence v path) ≡ false
    → NamesSomething v path → ⊥
names_false v path h (inl x) = absurd (let e = x.1 in clash (at_path v path) (names_absence v path) x.0 e h)
  where
    clash : (o : Option Plain) (b : Bool) (u : Plain) → o ≡ Some u → names_something o b ≡ false → ⊥
    clash (Some w) b u e h = absurd (cc)
    clash None b u e h = absurd (cc)
names_false v path h (inr e) = other (at_path v path) (names_absence v path) e h
  where
    other : (o : Option Plain) (b : Bool) → b ≡ true → names_something o b ≡ false → ⊥
    other (Some w) b e h = absurd (cc)
    other None b e h = absurd (cc)

abbrev first_nameless : ℕ → Plain → List (List Stride) → Option ℕ
first_nameless n v [] = None
first_nameless n v (path ∷ paths) =
    cond (names_something (at_path v path) (names_absence v path)) (first_nameless (n + 1) v paths) (Some n)

-- what stands at a place from the first on, by its number from n on
pub record NamelessFrom (n : ℕ) (v : Plain) (paths : List (List Stride)) (number : ℕ) : Type 0 where
  pub index : ℕ
  pub counted : number ≡ index + n
  pub path : List Stride
  pub there : slice_get paths index ≡ Some path
  pub nameless : NamesSomething v path → ⊥
  pub before : (j : ℕ) (other : List Stride) → j < index → slice_get paths j ≡ Some other → NamesSomething v other

abbrev Judged : ℕ → Plain → List (List Stride) → Option ℕ → Type 0
Judged n v paths None = AllName v paths
Judged n v paths (Some number) = NamelessFrom n v paths number

some_path : (p q : List Stride) → (◌≡◌ {A = Option (List Stride)} (Some p) (Some q)) → p ≡ q
some_path p q e = cc

judge : (n : ℕ) (v : Plain) (paths : List (List Stride)) → Judged n v paths (first_nameless n v paths)
judge n v [] = λ i path e. absurd (no_path i path e)
  where
    no_path : (i : ℕ) (path : List Stride) → slice_get [] i ≡ Some path → ⊥
    no_path zero path e = absurd (cc)
    no_path (suc i) path e = absurd (cc)
judge n v (path ∷ paths) =
    go (names_something (at_path v path) (names_absence v path)) refl (first_nameless (n + 1) v paths)
    (judge (n + 1) v paths)
  where
    more : NamesSomething v path → AllName v paths → AllName v (path ∷ paths)
    more first all zero other e =
        let P : List Stride → Type 0 = NamesSomething v in subst P (some_path path other e) first
    more first all (suc i) other e = all i other e

    earlier : NamesSomething v path → (index : ℕ) → ((j : ℕ) (other : List Stride) → j < index
        → slice_get paths j ≡ Some other → NamesSomething v other) → (j : ℕ) (other : List Stride) → j < suc index
        → slice_get (path ∷ paths) j ≡ Some other → NamesSomething v other
    earlier first index all zero other l e =
        let P : List Stride → Type 0 = NamesSomething v in subst P (some_path path other e) first
    earlier first index all (suc j) other l e = all j other (omega arith) e

    go : (b : Bool) → names_something (at_path v path) (names_absence v path) ≡ b → (o : Option ℕ)
        → Judged (n + 1) v paths o → Judged n v (path ∷ paths) (cond b o (Some n))
    go true h None all = more (names_true v path (at_path v path) (names_absence v path) refl refl h) all
    go true h (Some number) x = record {
      index = suc x.index;
      counted = let c = x.counted in omega (arith, c);
      path = x.path;
      there = x.there;
      nameless = x.nameless;
      before = earlier (names_true v path (at_path v path) (names_absence v path) refl refl h) x.index x.before;
    }
    go false h o x = record {
      index = 0;
      counted = omega arith;
      path = path;
      there = refl;
      nameless = names_false v path h;
      before = λ j other l e. absurd (omega arith);
    }

one_first : (v : Plain) (paths : List (List Stride)) (m n : ℕ) → IsFirstNameless v paths m → IsFirstNameless v paths n
    → m ≡ n
one_first v paths m n x y = order (cases_lt x.index y.index) (cases_lt y.index x.index)
  where
    order : (x.index < y.index) ⊎ (y.index ≤ x.index) → (y.index < x.index) ⊎ (x.index ≤ y.index) → m ≡ n
    order (inl l) k = absurd (x.nameless (y.before x.index x.path l x.there))
    order (inr l) (inl k) = absurd (y.nameless (x.before y.index y.path k y.there))
    order (inr l) (inr k) = let a = x.counted in let b = y.counted in omega (arith, l, k, a, b)

-- ---- the answer for a laid reading

abbrev by_size : Bool → Tree → Plain → ProveAnswer
by_size true proof shown = proof_too_large
by_size false proof shown = proved proof shown

abbrev by_depth : Bool → ProveAnswer → ProveAnswer
by_depth true next = proof_too_deep
by_depth false next = next

abbrev by_mask : Bool → ProveAnswer → ProveAnswer
by_mask true next = next
by_mask false next = not_whole

abbrev by_paths : Option ℕ → ProveAnswer → ProveAnswer
by_paths (Some n) next = no_such_path n
by_paths None next = next

answer_for : Tree → LaidRoot → List (List Stride) → ProveAnswer
answer_for c r paths =
    by_paths (first_nameless 1 (plain_root r) paths) (by_mask (nat_eq (mask c) 0)
    (by_depth (nat_lt 1024 (deepest (proof_for paths r c)))
    (by_size (nat_lt most_cells (unfolded (proof_for paths r c))) (proof_for paths r c) (shown_for paths r))))

answered : (c : Tree) (r : LaidRoot) (paths : List (List Stride)) → AnswersFor c r paths (answer_for c r paths)
unfolding answer_for
answered c r paths = on_paths (first_nameless 1 (plain_root r) paths) (judge 1 (plain_root r) paths)
  where
    on_size : CanProve c r paths → IsShallow (proof_for paths r c) → (b : Bool)
        → nat_lt most_cells (unfolded (proof_for paths r c)) ≡ b
        → AnswersFor c r paths (by_size b (proof_for paths r c) (shown_for paths r))
    on_size can low true e = (can, low, ltb-true most_cells (unfolded (proof_for paths r c)) e)
    on_size can low false e = (can, low, ltb-false most_cells (unfolded (proof_for paths r c)) e, refl, refl)

    on_depth : CanProve c r paths → (b : Bool) → nat_lt 1024 (deepest (proof_for paths r c)) ≡ b
        → AnswersFor c r paths (by_depth b (by_size (nat_lt most_cells (unfolded (proof_for paths r c)))
        (proof_for paths r c) (shown_for paths r)))
    on_depth can true e = (can, ltb-true 1024 (deepest (proof_for paths r c)) e)
    on_depth can false e =
        on_size can (ltb-false 1024 (deepest (proof_for paths r c)) e)
        (nat_lt most_cells (unfolded (proof_for paths r c))) refl

    on_mask : AllName (plain_root r) paths → (b : Bool) → nat_eq (mask c) 0 ≡ b
        → AnswersFor c r paths (by_mask b (by_depth (nat_lt 1024 (deepest (proof_for paths r c)))
        (by_size (nat_lt most_cells (unfolded (proof_for paths r c))) (proof_for paths r c) (shown_for paths r))))
    on_mask named true e =
        on_depth (record { named = named; whole = eqb-true (mask c) 0 e })
        (nat_lt 1024 (deepest (proof_for paths r c))) refl
    on_mask named false e = (named, eqb-false (mask c) 0 e)

    on_paths : (o : Option ℕ) → Judged 1 (plain_root r) paths o
        → AnswersFor c r paths (by_paths o (by_mask (nat_eq (mask c) 0)
        (by_depth (nat_lt 1024 (deepest (proof_for paths r c)))
        (by_size (nat_lt most_cells (unfolded (proof_for paths r c))) (proof_for paths r c) (shown_for paths r)))))
    on_paths None named = on_mask named (nat_eq (mask c) 0) refl
    on_paths (Some n) x = record {
      index = x.index;
      counted = x.counted;
      path = x.path;
      there = x.there;
      nameless = x.nameless;
      before = x.before;
    }

first_is : (v : Plain) (paths : List (List Stride)) (n : ℕ) → IsFirstNameless v paths n → (o : Option ℕ)
    → Judged 1 v paths o → o ≡ Some n
first_is v paths n x None all = absurd (x.nameless (all x.index x.path x.there))
first_is v paths n x (Some m) y =
    ap Some (one_first v paths m n (record {
      index = y.index;
      counted = y.counted;
      path = y.path;
      there = y.there;
      nameless = y.nameless;
      before = y.before;
    }) x)

none_is : (v : Plain) (paths : List (List Stride)) → AllName v paths → (o : Option ℕ) → Judged 1 v paths o → o ≡ None
none_is v paths all None h = refl
none_is v paths all (Some m) y = absurd (y.nameless (all y.index y.path y.there))

no_nameless : (v : Plain) (paths : List (List Stride)) → AllName v paths → first_nameless 1 v paths ≡ None
no_nameless v paths all = none_is v paths all (first_nameless 1 v paths) (judge 1 v paths)

answer_is : (c : Tree) (r : LaidRoot) (paths : List (List Stride)) (a : ProveAnswer) → AnswersFor c r paths a
    → answer_for c r paths ≡ a
unfolding answer_for
answer_is c r paths (proved proof shown) h =
    let none = no_nameless (plain_root r) paths h.0.named in
    let whole = eq-eqb (mask c) 0 h.0.whole in
    let deep = le-ltb 1024 (deepest (proof_for paths r c)) h.1 in
    let large = le-ltb most_cells (unfolded (proof_for paths r c)) h.2 in
    λ i. by_paths (none i) (by_mask (whole i) (by_depth (deep i) (by_size (large i) ((sym h.3) i) ((sym h.4) i))))
answer_is c r paths (stuck_at place) h = absurd h
answer_is c r paths (no_such_path n) h =
    let some = first_is (plain_root r) paths n h (first_nameless 1 (plain_root r) paths)
    (judge 1 (plain_root r) paths) in
    ap (λ (o : Option ℕ). by_paths o (by_mask (nat_eq (mask c) 0)
    (by_depth (nat_lt 1024 (deepest (proof_for paths r c)))
    (by_size (nat_lt most_cells (unfolded (proof_for paths r c))) (proof_for paths r c) (shown_for paths r))))) some
answer_is c r paths not_whole h =
    let none = no_nameless (plain_root r) paths h.0 in
    let parts = not_equal (mask c) 0 h.1 in
    λ i. by_paths (none i) (by_mask (parts i) (by_depth (nat_lt 1024 (deepest (proof_for paths r c)))
    (by_size (nat_lt most_cells (unfolded (proof_for paths r c))) (proof_for paths r c) (shown_for paths r))))
answer_is c r paths proof_too_deep h =
    let none = no_nameless (plain_root r) paths h.0.named in
    let whole = eq-eqb (mask c) 0 h.0.whole in
    let deep = lt-ltb 1024 (deepest (proof_for paths r c)) h.1 in
    λ i. by_paths (none i) (by_mask (whole i) (by_depth (deep i)
    (by_size (nat_lt most_cells (unfolded (proof_for paths r c))) (proof_for paths r c) (shown_for paths r))))
answer_is c r paths proof_too_large h =
    let none = no_nameless (plain_root r) paths h.0.named in
    let whole = eq-eqb (mask c) 0 h.0.whole in
    let deep = le-ltb 1024 (deepest (proof_for paths r c)) h.1 in
    let large = lt-ltb most_cells (unfolded (proof_for paths r c)) h.2 in
    λ i. by_paths (none i) (by_mask (whole i) (by_depth (deep i)
    (by_size (large i) (proof_for paths r c) (shown_for paths r))))

-- ---- one answer

-- an answer for a laid reading, or the place where there is none
pub data Sorted (schema : CoreSchema) (t : Closed) (c : Tree) (paths : List (List Stride)) (a : ProveAnswer) : Type 0
  where
    read_so : (r : LaidRoot) → LaidReading schema t c r → AnswersFor c r paths a → Sorted schema t c paths a
    stuck_so : (place : Place) → a ≡ stuck_at place → Stuck Whole schema t c place → Sorted schema t c paths a

sort : (schema : CoreSchema) (t : Closed) (c : Tree) (paths : List (List Stride)) (a : ProveAnswer)
    → ProveAnswers schema t c paths a → Sorted schema t c paths a
sort schema t c paths (stuck_at place) h = stuck_so place refl h
sort schema t c paths (proved proof shown) h = read_so h.0 h.1 h.2
sort schema t c paths (no_such_path n) h = read_so h.0 h.1 h.2
sort schema t c paths not_whole h = read_so h.0 h.1 h.2
sort schema t c paths proof_too_deep h = read_so h.0 h.1 h.2
sort schema t c paths proof_too_large h = read_so h.0 h.1 h.2

unsort : (schema : CoreSchema) (t : Closed) (c : Tree) (paths : List (List Stride)) (r : LaidRoot) (a : ProveAnswer)
    → LaidReading schema t c r → AnswersFor c r paths a → ProveAnswers schema t c paths a
unsort schema t c paths r (stuck_at place) l h = absurd h
unsort schema t c paths r (proved proof shown) l h = (r, l, h)
unsort schema t c paths r (no_such_path n) l h = (r, l, h)
unsort schema t c paths r not_whole l h = (r, l, h)
unsort schema t c paths r proof_too_deep l h = (r, l, h)
unsort schema t c paths r proof_too_large l h = (r, l, h)

some_answer : (schema : CoreSchema) → IsAcceptable schema → (t : Closed) (c : Tree) (paths : List (List Stride))
    → (a : ProveAnswer) × ProveAnswers schema t c paths a
some_answer schema ok t c paths = go (read_or_stuck Whole schema ok t c).some
  where
    go : ((v : Plain) × Reading Whole schema t c v) ⊎ ((p : Place) × Stuck Whole schema t c p)
        → (a : ProveAnswer) × ProveAnswers schema t c paths a
    go (inl x) =
        let l = laid_of schema t c x.0 x.1 in
        (answer_for c l.0 paths, unsort schema t c paths l.0 (answer_for c l.0 paths) l.2 (answered c l.0 paths))
    go (inr x) = (stuck_at x.0, x.1)

one_answer : (schema : CoreSchema) → IsAcceptable schema → (t : Closed) (c : Tree) (paths : List (List Stride))
    (a b : ProveAnswer) → ProveAnswers schema t c paths a → ProveAnswers schema t c paths b → a ≡ b
one_answer schema ok t c paths a b x y = go (sort schema t c paths a x) (sort schema t c paths b y)
  where
    go : Sorted schema t c paths a → Sorted schema t c paths b → a ≡ b
    go (read_so r l h) (read_so q m k) =
        let same = one_laid schema ok t c r q l.lies m.lies in
        sym (answer_is c r paths a h) ∙ ap (λ (z : LaidRoot). answer_for c z paths) same ∙ answer_is c q paths b k
    go (read_so r l h) (stuck_so place e k) =
        absurd ((read_or_stuck Whole schema ok t c).not_both (plain_root r) place (laid_reads schema t c r l) k)
    go (stuck_so place e k) (read_so r l h) =
        absurd ((read_or_stuck Whole schema ok t c).not_both (plain_root r) place (laid_reads schema t c r l) k)
    go (stuck_so p e h) (stuck_so q f k) =
        e ∙ ap stuck_at ((read_or_stuck Whole schema ok t c).one_place p q h k) ∙ sym f

pub one_prove_answer : OneProveAnswer
one_prove_answer schema ok t c paths = record {
  some = some_answer schema ok t c paths;
  one = one_answer schema ok t c paths;
}
