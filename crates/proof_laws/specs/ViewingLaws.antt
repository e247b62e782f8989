-- Reading a proof has one answer, and no other.
use Rattle.std.proofs.Common.{◌≡◌, inl, inr, ◌⊎◌, ℕ, Bool, true, false, nat_eq, IsTrue, List, [], ◌∷◌, length}
use Rattle.std.proofs.Common.{Option, Some, None, refl, sym, ap, ◌∙◌, subst, arith}
use Rattle.std.specs.Prelude.{◌≢◌, bytes_eq}
use Rattle.std.proofs.lemmas.Bool.{eqb-true, eqb-false, eq-eqb}
use Rattle.std.proofs.lemmas.Bool.Decides.{nat_tests}
use Rattle.std.proofs.lemmas.Slice.Eq.{bytes_eq-Decides}
use Rattle.cell_nodes.specs.Good.{IsGood}
use Rattle.cell_nodes.specs.GoodParts.{good-sound}
use Rattle.cell_nodes.specs.Layout.{has_layout}
use Rattle.cell_nodes.specs.Tree.{mask, hash, depth}
use Rattle.cell_nodes.specs.declared.tree.Kind.{Kind}
use Rattle.cell_nodes.specs.declared.tree.Kind.TheVariants.{Ordinary, Pruned, Library, Proof, Update}
use Rattle.cell_nodes.specs.declared.tree.Mode.TheVariants.{Partial}
use Rattle.cell_nodes.specs.declared.tree.Tree.{Tree, out-Tree}
use Rattle.core_form.specs.Core.{CoreSchema}
use Rattle.core_form.specs.Closed.{Closed}
use Rattle.hashmap_tree.specs.CompleteLaws.{not_equal}
use Rattle.spelling.specs.Acceptable.{IsAcceptable}
use Rattle.spelling.specs.Places.{Place}
use Rattle.spelling.specs.Spells.{Reading}
use Rattle.spelling.specs.Stuck.{Stuck}
use Rattle.spelling_laws.specs.OutcomeLaws.{read_or_stuck}
use Rattle.typed_value.specs.Values.{Plain}
use Rattle.proof_laws.specs.Laws.{OneViewAnswer}
use Rattle.proof_laws.specs.Viewing.{kept_hash, kept_depth, IsRoot, ViewAnswer, viewed, not_proof, not_whole}
use Rattle.proof_laws.specs.Viewing.{hash_differs, depth_differs, wrong_root, stuck_at, IsSealed, AnswersOver}
use Rattle.proof_laws.specs.Viewing.{ViewAnswers}

-- ---- tests

same_bytes : (a b : List ℕ) → bytes_eq a b ≡ true → a ≡ b
same_bytes a b e = (bytes_eq-Decides a b).0 e

bytes_same : (a b : List ℕ) → a ≡ b → bytes_eq a b ≡ true
bytes_same a b e = (bytes_eq-Decides a b).1 e

false_clash : (b : Bool) → b ≡ true → b ≡ false → ⊥
false_clash b e f = cc

other_bytes : (a b : List ℕ) → bytes_eq a b ≡ false → a ≢ b
other_bytes a b e same = false_clash (bytes_eq a b) (bytes_same a b same) e

bytes_other : (a b : List ℕ) → a ≢ b → bytes_eq a b ≡ false
bytes_other a b other = go (bytes_eq a b) refl
  where
    go : (x : Bool) → bytes_eq a b ≡ x → x ≡ false
    go true e = absurd (other (same_bytes a b e))
    go false e = refl

abbrev is_root : Option (List ℕ) → List ℕ → Bool
is_root None found = true
is_root (Some root) found = bytes_eq root found

root_true : (root : Option (List ℕ)) (found : List ℕ) → is_root root found ≡ true → IsRoot root found
root_true None found e = tt
root_true (Some x) found e = same_bytes x found e

true_root : (root : Option (List ℕ)) (found : List ℕ) → IsRoot root found → is_root root found ≡ true
true_root None found e = refl
true_root (Some x) found e = bytes_same x found e

root_false : (root : Option (List ℕ)) (found : List ℕ) → is_root root found ≡ false → IsRoot root found → ⊥
root_false root found e h = false_clash (is_root root found) (true_root root found h) e

false_root : (root : Option (List ℕ)) (found : List ℕ) → (IsRoot root found → ⊥) → is_root root found ≡ false
false_root root found h = go (is_root root found) refl
  where
    go : (x : Bool) → is_root root found ≡ x → x ≡ false
    go true e = absurd (h (root_true root found e))
    go false e = refl

-- ---- the answer for a child

-- what is read, or where it stops
pub data Outcome : Type 0 where
  gives : Plain → Outcome
  stops : Place → Outcome

abbrev as_answer : Outcome → List ℕ → ViewAnswer
as_answer (gives v) found = viewed v found
as_answer (stops place) found = stuck_at place

abbrev by_root : Bool → List ℕ → ViewAnswer → ViewAnswer
by_root true found next = next
by_root false found next = wrong_root found

abbrev by_depth : Bool → ℕ → ℕ → ViewAnswer → ViewAnswer
by_depth true kept found next = next
by_depth false kept found next = depth_differs kept found

abbrev by_hash : Bool → List ℕ → List ℕ → ViewAnswer → ViewAnswer
by_hash true kept found next = next
by_hash false kept found next = hash_differs kept found

abbrev by_mask : Bool → ViewAnswer → ViewAnswer
by_mask true next = next
by_mask false next = not_whole

abbrev IsOutcome : CoreSchema → Closed → Tree → Outcome → Type 0
IsOutcome schema t p (gives v) = Reading Partial schema t p v
IsOutcome schema t p (stops place) = Stuck Partial schema t p place

outcome : (schema : CoreSchema) → IsAcceptable schema → (t : Closed) (p : Tree)
    → (x : Outcome) × IsOutcome schema t p x
outcome schema ok t p = go (read_or_stuck Partial schema ok t p).some
  where
    go : ((v : Plain) × Reading Partial schema t p v) ⊎ ((s : Place) × Stuck Partial schema t p s)
        → (x : Outcome) × IsOutcome schema t p x
    go (inl x) = (gives x.0, x.1)
    go (inr x) = (stops x.0, x.1)

one_outcome : (schema : CoreSchema) → IsAcceptable schema → (t : Closed) (p : Tree) (x y : Outcome)
    → IsOutcome schema t p x → IsOutcome schema t p y → x ≡ y
one_outcome schema ok t p (gives v) (gives w) h k = ap gives ((read_or_stuck Partial schema ok t p).one_reading v w h k)
one_outcome schema ok t p (gives v) (stops s) h k = absurd ((read_or_stuck Partial schema ok t p).not_both v s h k)
one_outcome schema ok t p (stops s) (gives v) h k = absurd ((read_or_stuck Partial schema ok t p).not_both v s k h)
one_outcome schema ok t p (stops s) (stops q) h k = ap stops ((read_or_stuck Partial schema ok t p).one_place s q h k)

answer_over : Tree → Tree → Option (List ℕ) → Outcome → ViewAnswer
answer_over c p root x =
    by_mask (nat_eq (mask c) 0) (by_hash (bytes_eq (kept_hash c) (hash p 0)) (kept_hash c) (hash p 0)
    (by_depth (nat_eq (kept_depth c) (depth p 0)) (kept_depth c) (depth p 0)
    (by_root (is_root root (hash p 0)) (hash p 0) (as_answer x (hash p 0)))))

answered : (schema : CoreSchema) (t : Closed) (c p : Tree) (root : Option (List ℕ)) (x : Outcome)
    → IsOutcome schema t p x → AnswersOver schema t c p root (answer_over c p root x)
unfolding answer_over
answered schema t c p root x is = on_mask (nat_eq (mask c) 0) refl
  where
    on_outcome : IsSealed c p → IsRoot root (hash p 0) → (x : Outcome) → IsOutcome schema t p x
        → AnswersOver schema t c p root (as_answer x (hash p 0))
    on_outcome seal same (gives v) h = (seal, same, h, refl)
    on_outcome seal same (stops place) h = (seal, same, h)

    on_root : IsSealed c p → (b : Bool) → is_root root (hash p 0) ≡ b
        → AnswersOver schema t c p root (by_root b (hash p 0) (as_answer x (hash p 0)))
    on_root seal true e = on_outcome seal (root_true root (hash p 0) e) x is
    on_root seal false e = (seal, refl, root_false root (hash p 0) e)

    on_depth : mask c ≡ 0 → kept_hash c ≡ hash p 0 → (b : Bool) → nat_eq (kept_depth c) (depth p 0) ≡ b
        → AnswersOver schema t c p root (by_depth b (kept_depth c) (depth p 0)
        (by_root (is_root root (hash p 0)) (hash p 0) (as_answer x (hash p 0))))
    on_depth whole same true e =
        on_root (record { whole = whole; same_hash = same; same_depth = eqb-true (kept_depth c) (depth p 0) e })
        (is_root root (hash p 0)) refl
    on_depth whole same false e = (whole, same, refl, refl, eqb-false (kept_depth c) (depth p 0) e)

    on_hash : mask c ≡ 0 → (b : Bool) → bytes_eq (kept_hash c) (hash p 0) ≡ b
        → AnswersOver schema t c p root (by_hash b (kept_hash c) (hash p 0)
        (by_depth (nat_eq (kept_depth c) (depth p 0)) (kept_depth c) (depth p 0)
        (by_root (is_root root (hash p 0)) (hash p 0) (as_answer x (hash p 0)))))
    on_hash whole true e =
        on_depth whole (same_bytes (kept_hash c) (hash p 0) e) (nat_eq (kept_depth c) (depth p 0)) refl
    on_hash whole false e = (whole, refl, refl, other_bytes (kept_hash c) (hash p 0) e)

    on_mask : (b : Bool) → nat_eq (mask c) 0 ≡ b
        → AnswersOver schema t c p root (by_mask b (by_hash (bytes_eq (kept_hash c) (hash p 0)) (kept_hash c) (hash p 0)
        (by_depth (nat_eq (kept_depth c) (depth p 0)) (kept_depth c) (depth p 0)
        (by_root (is_root root (hash p 0)) (hash p 0) (as_answer x (hash p 0))))))
    on_mask true e = on_hash (eqb-true (mask c) 0 e) (bytes_eq (kept_hash c) (hash p 0)) refl
    on_mask false e = eqb-false (mask c) 0 e

-- each answer is this one
answer_is : (schema : CoreSchema) → IsAcceptable schema → (t : Closed) (c p : Tree) (root : Option (List ℕ))
    (x : Outcome) → IsOutcome schema t p x → (a : ViewAnswer) → AnswersOver schema t c p root a
    → answer_over c p root x ≡ a
unfolding answer_over
answer_is schema ok t c p root x is (viewed v found) h =
    let whole = eq-eqb (mask c) 0 h.0.whole in
    let hashes = bytes_same (kept_hash c) (hash p 0) h.0.same_hash in
    let depths = eq-eqb (kept_depth c) (depth p 0) h.0.same_depth in
    let given = true_root root (hash p 0) h.1 in
    let same = one_outcome schema ok t p x (gives v) is h.2 in
    (λ i. by_mask (whole i) (by_hash (hashes i) (kept_hash c) (hash p 0)
    (by_depth (depths i) (kept_depth c) (depth p 0)
    (by_root (given i) (hash p 0) (as_answer (same i) (hash p 0))))))
    ∙ ap (viewed v) (sym h.3)
answer_is schema ok t c p root x is not_proof h = absurd h
answer_is schema ok t c p root x is not_whole h =
    ap (λ (b : Bool). by_mask b (by_hash (bytes_eq (kept_hash c) (hash p 0)) (kept_hash c) (hash p 0)
    (by_depth (nat_eq (kept_depth c) (depth p 0)) (kept_depth c) (depth p 0)
    (by_root (is_root root (hash p 0)) (hash p 0) (as_answer x (hash p 0)))))) (not_equal (mask c) 0 h)
answer_is schema ok t c p root x is (hash_differs kept found) h =
    let whole = eq-eqb (mask c) 0 h.0 in
    let apart : kept_hash c ≢ hash p 0 = λ e. h.3 (h.1 ∙ e ∙ sym h.2) in
    let hashes = bytes_other (kept_hash c) (hash p 0) apart in
    (λ i. by_mask (whole i) (by_hash (hashes i) (kept_hash c) (hash p 0)
    (by_depth (nat_eq (kept_depth c) (depth p 0)) (kept_depth c) (depth p 0)
    (by_root (is_root root (hash p 0)) (hash p 0) (as_answer x (hash p 0))))))
    ∙ (λ i. hash_differs ((sym h.1) i) ((sym h.2) i))
answer_is schema ok t c p root x is (depth_differs kept found) h =
    let whole = eq-eqb (mask c) 0 h.0 in
    let hashes = bytes_same (kept_hash c) (hash p 0) h.1 in
    let apart : kept_depth c ≢ depth p 0 = λ e. h.4 (h.2 ∙ e ∙ sym h.3) in
    let depths = not_equal (kept_depth c) (depth p 0) apart in
    (λ i. by_mask (whole i) (by_hash (hashes i) (kept_hash c) (hash p 0)
    (by_depth (depths i) (kept_depth c) (depth p 0)
    (by_root (is_root root (hash p 0)) (hash p 0) (as_answer x (hash p 0))))))
    ∙ (λ i. depth_differs ((sym h.2) i) ((sym h.3) i))
answer_is schema ok t c p root x is (wrong_root found) h =
    let whole = eq-eqb (mask c) 0 h.0.whole in
    let hashes = bytes_same (kept_hash c) (hash p 0) h.0.same_hash in
    let depths = eq-eqb (kept_depth c) (depth p 0) h.0.same_depth in
    let P : List ℕ → Type 0 = λ z. IsRoot root z → ⊥ in
    let given = false_root root (hash p 0) (subst P h.1 h.2) in
    (λ i. by_mask (whole i) (by_hash (hashes i) (kept_hash c) (hash p 0)
    (by_depth (depths i) (kept_depth c) (depth p 0)
    (by_root (given i) (hash p 0) (as_answer x (hash p 0))))))
    ∙ ap wrong_root (sym h.1)
answer_is schema ok t c p root x is (stuck_at place) h =
    let whole = eq-eqb (mask c) 0 h.0.whole in
    let hashes = bytes_same (kept_hash c) (hash p 0) h.0.same_hash in
    let depths = eq-eqb (kept_depth c) (depth p 0) h.0.same_depth in
    let given = true_root root (hash p 0) h.1 in
    let same = one_outcome schema ok t p x (stops place) is h.2 in
    λ i. by_mask (whole i) (by_hash (hashes i) (kept_hash c) (hash p 0)
    (by_depth (depths i) (kept_depth c) (depth p 0)
    (by_root (given i) (hash p 0) (as_answer (same i) (hash p 0)))))

-- ---- one answer

-- a proof has one child
one_child : (bits : List ℕ) (cs : List Tree) → IsTrue (has_layout Proof bits (length cs)) → (p : Tree) × (cs ≡ p ∷ [])
one_child bits [] h = absurd (grind (arith, nat_tests))
one_child bits (p ∷ []) h = (p, refl)
one_child bits (p ∷ q ∷ cs) h = absurd (grind (arith, nat_tests))

abbrev IsProofKind : Kind → Type 0
IsProofKind Ordinary = ⊥
IsProofKind Pruned = ⊥
IsProofKind Library = ⊥
IsProofKind Proof = Unit {0}
IsProofKind Update = ⊥

-- an answer for the child of a proof, or that the cell is none
pub data Sorted (schema : CoreSchema) (t : Closed) (c : Tree) (root : Option (List ℕ)) (a : ViewAnswer) : Type 0 where
  proof_so : (p : Tree) → (out-Tree c).kind ≡ Proof → (out-Tree c).children ≡ p ∷ []
      → AnswersOver schema t c p root a → Sorted schema t c root a
  other_so : a ≡ not_proof → (out-Tree c).kind ≢ Proof → Sorted schema t c root a

sort : (schema : CoreSchema) (t : Closed) (c : Tree) (root : Option (List ℕ)) (a : ViewAnswer)
    → ViewAnswers schema t c root a → Sorted schema t c root a
sort schema t c root not_proof h = other_so refl h
sort schema t c root (viewed v found) h = proof_so h.1 h.0 h.2 h.3
sort schema t c root not_whole h = proof_so h.1 h.0 h.2 h.3
sort schema t c root (hash_differs kept found) h = proof_so h.1 h.0 h.2 h.3
sort schema t c root (depth_differs kept found) h = proof_so h.1 h.0 h.2 h.3
sort schema t c root (wrong_root found) h = proof_so h.1 h.0 h.2 h.3
sort schema t c root (stuck_at place) h = proof_so h.1 h.0 h.2 h.3

pub unsort : (schema : CoreSchema) (t : Closed) (c p : Tree) (root : Option (List ℕ)) (a : ViewAnswer)
    → (out-Tree c).kind ≡ Proof → (out-Tree c).children ≡ p ∷ [] → AnswersOver schema t c p root a
    → ViewAnswers schema t c root a
unsort schema t c p root not_proof k e h = absurd h
unsort schema t c p root (viewed v found) k e h = (k, p, e, h)
unsort schema t c p root not_whole k e h = (k, p, e, h)
unsort schema t c p root (hash_differs kept found) k e h = (k, p, e, h)
unsort schema t c p root (depth_differs kept found) k e h = (k, p, e, h)
unsort schema t c p root (wrong_root found) k e h = (k, p, e, h)
unsort schema t c p root (stuck_at place) k e h = (k, p, e, h)

some_answer : (schema : CoreSchema) → IsAcceptable schema → (t : Closed) (c : Tree) → IsGood c
    → (root : Option (List ℕ)) → (a : ViewAnswer) × ViewAnswers schema t c root a
some_answer schema ok t c sound root = go (out-Tree c).kind refl
  where
    other : (k : Kind) → (IsProofKind k → ⊥) → (out-Tree c).kind ≡ k → (out-Tree c).kind ≢ Proof
    other k never e f = never (let P : Kind → Type 0 = IsProofKind in subst P (sym f ∙ e) tt)

    go : (k : Kind) → (out-Tree c).kind ≡ k → (a : ViewAnswer) × ViewAnswers schema t c root a
    go Ordinary e = (not_proof, other Ordinary (λ h. h) e)
    go Pruned e = (not_proof, other Pruned (λ h. h) e)
    go Library e = (not_proof, other Library (λ h. h) e)
    go Update e = (not_proof, other Update (λ h. h) e)
    go Proof e =
        let P : Kind → Type 0 = λ k. IsTrue (has_layout k (out-Tree c).bits (length (out-Tree c).children)) in
        let p = one_child (out-Tree c).bits (out-Tree c).children (subst P e (good-sound c sound).layout) in
        let x = outcome schema ok t p.0 in
        let a = answer_over c p.0 root x.0 in
        (a, unsort schema t c p.0 root a e p.1 (answered schema t c p.0 root x.0 x.1))

child_same : (p q : Tree) → (◌≡◌ {A = List Tree} (p ∷ []) (q ∷ [])) → q ≡ p
child_same p q e = cc

one_answer : (schema : CoreSchema) → IsAcceptable schema → (t : Closed) (c : Tree) (root : Option (List ℕ))
    (a b : ViewAnswer) → ViewAnswers schema t c root a → ViewAnswers schema t c root b → a ≡ b
one_answer schema ok t c root a b x y = go (sort schema t c root a x) (sort schema t c root b y)
  where
    go : Sorted schema t c root a → Sorted schema t c root b → a ≡ b
    go (proof_so p k e h) (proof_so q l f m) =
        let z = outcome schema ok t p in
        let P : Tree → Type 0 = λ u. AnswersOver schema t c u root b in
        let n = subst P (child_same p q (sym e ∙ f)) m in
        sym (answer_is schema ok t c p root z.0 z.1 a h) ∙ answer_is schema ok t c p root z.0 z.1 b n
    go (proof_so p k e h) (other_so f l) = absurd (l k)
    go (other_so e k) (proof_so p l f h) = absurd (k l)
    go (other_so e k) (other_so f l) = e ∙ sym f

pub one_view_answer : OneViewAnswer
one_view_answer schema ok t c sound root = record {
  some = some_answer schema ok t c sound root;
  one = one_answer schema ok t c root;
}
