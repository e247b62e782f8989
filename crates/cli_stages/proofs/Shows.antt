-- What the answer of `view` is for the stage of a proof.
use Rattle.std.proofs.Common.{◌≡◌, ◌∙◌, ap, sym, subst, refl, ℕ, Bool, true, false, nat_eq, List, [], ◌∷◌, Option, Some, None}
use Rattle.std.proofs.Common.{Result, Ok, Err}
use Rattle.std.specs.Prelude.{◌≢◌, bytes_eq, not, ◌==◌, if◌then◌else◌}
use Rattle.std.proofs.lemmas.Bool.{eq-eqb, eqb-true}
use Rattle.std.proofs.lemmas.Slice.Eq.{bytes_eq-Decides}
use Rattle.cell_nodes.specs.Tree.{mask, hash, depth}
use Rattle.cell_nodes.specs.declared.tree.Kind.{Kind}
use Rattle.cell_nodes.specs.declared.tree.Kind.TheVariants.{Ordinary, Pruned, Library, Proof as ProofKind, Update}
use Rattle.cell_nodes.specs.declared.tree.Mode.TheVariants.{Partial}
use Rattle.cell_nodes.specs.declared.tree.Tree.{Tree, out-Tree}
use Rattle.core_form.specs.Closed.{Closed}
use Rattle.core_form.specs.Core.{CoreSchema}
use Rattle.accepted_schema.specs.Accepted.{kept_cores}
use Rattle.tlb_kinds.specs.Refusals.{kept_of}
use Rattle.tlb_syntax.specs.Tree.{SchemaView}
use Rattle.schema_leads.specs.Tags.{cores}
use Rattle.spelling.specs.Places.{Place}
use Rattle.typed_value.specs.Values.{Plain}
use Rattle.proof_laws.specs.Viewing.{kept_hash, kept_depth, IsRoot, IsSealed, ViewAnswer, ViewAnswers, viewed, not_proof}
use Rattle.proof_laws.specs.Viewing.{not_whole, hash_differs, depth_differs, wrong_root, stuck_at}
use Rattle.proof_view.specs.Viewed.{IsTheAnswer}
use Rattle.proof_view.specs.declared.viewing.Viewed.{Viewed}
use Rattle.cli_refusals.specs.Lines.{spot_text}
use Rattle.cli_refusals.specs.Refusal.{Refusal, cell, proof}
use Rattle.cli_refusals.specs.declared.proof_lines.ProofCause.{ProofCause}
use Rattle.cli_refusals.specs.declared.proof_lines.ProofCause.TheVariants as causes
use Rattle.cli_refusals.specs.View.{refusal_by}
use Rattle.cli_stages.specs.Proof.{Proof, ProofShows, is_root, sealed, sealed_by, sealed_child}
use Rattle.cli_stages.specs.Stage.{Answers, IfRefused, goes_on, stops}
use Rattle.cli_stages.specs.TypeWord.{ShownType}
use Rattle.cli_stages.specs.View.{shown_by}
use Rattle.cli_stages.specs.declared.stop.Stop.{Stop}
use Rattle.cli_stages.specs.declared.stop.Stop.TheVariants.{Refused, NoMemory}

-- ---- tests

false-if : (b : Bool) → (b ≡ true → ⊥) → b ≡ false
false-if true never = absurd (never refl)
false-if false never = refl

same-bytes : (a b : List ℕ) → a ≡ b → bytes_eq a b ≡ true
same-bytes a b e = (bytes_eq-Decides a b).1 e

other-bytes : (a b : List ℕ) → a ≢ b → bytes_eq a b ≡ false
other-bytes a b other = false-if (bytes_eq a b) (λ e. other ((bytes_eq-Decides a b).0 e))

other-number : (a b : ℕ) → a ≢ b → nat_eq a b ≡ false
other-number a b other = false-if (nat_eq a b) (λ e. other (eqb-true a b e))

root-true : (root : Option (List ℕ)) (found : List ℕ) → IsRoot root found → is_root root found ≡ true
root-true None found is = refl
root-true (Some given) found is = same-bytes given found is

true-root : (root : Option (List ℕ)) (found : List ℕ) → is_root root found ≡ true → IsRoot root found
true-root None found e = tt
true-root (Some given) found e = (bytes_eq-Decides given found).0 e

root-false : (root : Option (List ℕ)) (found : List ℕ) → (IsRoot root found → ⊥) → is_root root found ≡ false
root-false root found other = false-if (is_root root found) (λ e. other (true-root root found e))

-- ---- what is sealed

-- by what the tests give
abbrev tested : Bool → Bool → Bool → Bool → Tree → Tree → Result Tree Refusal
tested whole hashes depths root c p =
    if not whole then Err (proof causes.NotWhole)
    else if not hashes then Err (proof (causes.HashDiffers (kept_hash c) (hash p 0)))
    else if not depths then Err (proof (causes.DepthDiffers (kept_depth c) (depth p 0)))
    else if not root then Err (proof (causes.WrongRoot (hash p 0)))
    else Ok p

-- of a proof with this child
over : (root : Option (List ℕ)) (c p : Tree) → (out-Tree c).kind ≡ ProofKind → (out-Tree c).children ≡ p ∷ []
    → sealed root c ≡ sealed_child root c p
over root c p kind children = λ i. sealed_by root c (kind i) (children i)

-- of no proof
other-kind : (root : Option (List ℕ)) (c : Tree) (kind : Kind) (children : List Tree) → kind ≢ ProofKind
    → sealed_by root c kind children ≡ Err (proof causes.NotProof)
other-kind root c Ordinary children other = refl
other-kind root c Pruned children other = refl
other-kind root c Library children other = refl
other-kind root c Update children other = refl
other-kind root c ProofKind children other = absurd (other refl)

-- the proof is whole, and stores what its child has
sealed-root : (root : Option (List ℕ)) (c p : Tree) (given : Bool) → IsSealed c p → is_root root (hash p 0) ≡ given
    → sealed_child root c p ≡ tested true true true given c p
sealed-root root c p given seal is =
    let whole = eq-eqb (mask c) 0 seal.whole in
    let hashes = same-bytes (kept_hash c) (hash p 0) seal.same_hash in
    let depths = eq-eqb (kept_depth c) (depth p 0) seal.same_depth in
    λ i. tested (whole i) (hashes i) (depths i) (is i) c p

-- the stage of what is sealed refuses so
abbrev Refuses : Option (List ℕ) → Tree → ProofCause → Type 0
Refuses root c cause = Err (proof cause) ≡ sealed root c

no-proof : (root : Option (List ℕ)) (c : Tree) → (out-Tree c).kind ≢ ProofKind → Refuses root c causes.NotProof
no-proof root c other = sym (other-kind root c (out-Tree c).kind (out-Tree c).children other)

not-whole : (root : Option (List ℕ)) (c p : Tree) → sealed root c ≡ sealed_child root c p → mask c ≢ 0
    → Refuses root c causes.NotWhole
not-whole root c p is other =
    let whole = other-number (mask c) 0 other in
    sym (is ∙ (λ i. tested (whole i) (bytes_eq (kept_hash c) (hash p 0)) (kept_depth c == depth p 0)
    (is_root root (hash p 0)) c p))

hash-differs : (root : Option (List ℕ)) (c p : Tree) → sealed root c ≡ sealed_child root c p → mask c ≡ 0
    → (kept found : List ℕ) → kept ≡ kept_hash c → found ≡ hash p 0 → kept ≢ found
    → Refuses root c (causes.HashDiffers kept found)
hash-differs root c p is low kept found stored has other =
    let whole = eq-eqb (mask c) 0 low in
    let hashes = other-bytes (kept_hash c) (hash p 0) (λ e. other (stored ∙ e ∙ sym has)) in
    (λ i. Err (proof (causes.HashDiffers (stored i) (has i))))
    ∙ sym (is ∙ (λ i. tested (whole i) (hashes i) (kept_depth c == depth p 0) (is_root root (hash p 0)) c p))

depth-differs : (root : Option (List ℕ)) (c p : Tree) → sealed root c ≡ sealed_child root c p → mask c ≡ 0
    → kept_hash c ≡ hash p 0 → (kept found : ℕ) → kept ≡ kept_depth c → found ≡ depth p 0 → kept ≢ found
    → Refuses root c (causes.DepthDiffers kept found)
depth-differs root c p is low same kept found stored has other =
    let whole = eq-eqb (mask c) 0 low in
    let hashes = same-bytes (kept_hash c) (hash p 0) same in
    let depths = other-number (kept_depth c) (depth p 0) (λ e. other (stored ∙ e ∙ sym has)) in
    (λ i. Err (proof (causes.DepthDiffers (stored i) (has i))))
    ∙ sym (is ∙ (λ i. tested (whole i) (hashes i) (depths i) (is_root root (hash p 0)) c p))

wrong-root : (root : Option (List ℕ)) (c p : Tree) → sealed root c ≡ sealed_child root c p → IsSealed c p
    → (found : List ℕ) → found ≡ hash p 0 → (IsRoot root found → ⊥) → Refuses root c (causes.WrongRoot found)
wrong-root root c p is seal found has other =
    let P : List ℕ → Type 0 = λ x. IsRoot root x → ⊥ in
    let given = root-false root (hash p 0) (subst P has other) in
    (λ i. Err (proof (causes.WrongRoot (has i)))) ∙ sym (is ∙ sealed-root root c p false seal given)

sealed-so : (root : Option (List ℕ)) (c p : Tree) → sealed root c ≡ sealed_child root c p → IsSealed c p
    → IsRoot root (hash p 0) → Ok p ≡ sealed root c
sealed-so root c p is seal given = sym (is ∙ sealed-root root c p true seal (root-true root (hash p 0) given))

-- ---- the stage

-- what `view` answers for the schema without what is passed over
abbrev Holds : SchemaView → ShownType → Tree → Option (List ℕ) → ViewAnswer → Type 0
Holds s type c root a = IsTheAnswer (kept_cores s) type.closed c root a

in-schema : (s : SchemaView) (type : ShownType) (c : Tree) (root : Option (List ℕ)) (a : ViewAnswer) → kept_of s ≡ s
    → Holds s type c root a → ViewAnswers (cores s) type.closed c root a
in-schema s type c root a kept is =
    let P : SchemaView → Type 0 = λ x. ViewAnswers (cores x) type.closed c root a in subst P kept is.holds

shows-of : (v : Viewed) (p : Tree) → v.hash ≡ hash p 0
    → (◌≡◌ {A = ProofShows} (shown_by v) (record { value = (shown_by v).value; hash = hash p 0 }))
shows-of v p has = λ i. record { value = (shown_by v).value; hash = has i }

pub shows : (root : Option (List ℕ)) (s : SchemaView) (type : ShownType) (c : Tree) (v : Viewed) → kept_of s ≡ s
    → Holds s type c root (viewed (shown_by v).value v.hash) → Answers (Proof root s type c) shown_by (Ok v)
shows root s type c v kept is =
    let a = in-schema s type c root (viewed (shown_by v).value v.hash) kept is in
    let p = a.1 in
    let b = a.3 in
    record {
      answer = goes_on p (sealed-so root c p (over root c p a.0 a.2) b.0 b.1)
          (goes_on (shown_by v).value b.2 (ap Ok (shows-of v p b.3)));
    }

pub stuck : (root : Option (List ℕ)) (s : SchemaView) (type : ShownType) (c : Tree) (place : Place) (stop : Stop)
    → kept_of s ≡ s → Holds s type c root (stuck_at place)
    → IfRefused (λ r. r ≡ cell (spot_text (cores s) type.text place.spot) place.cause) stop
    → Answers {T = Viewed} (Proof root s type c) shown_by (Err stop)
stuck root s type c place (Refused r) kept is refused =
    let a = in-schema s type c root (stuck_at place) kept is in
    let p = a.1 in
    let b = a.3 in
    record {
      answer = goes_on p (sealed-so root c p (over root c p a.0 a.2) b.0 b.1)
          (stops (refusal_by r) (record { place = place; stuck = b.2; is = refused }) refl);
    }
stuck root s type c place NoMemory kept is refused = record { answer = tt }

-- the cause is that of what is sealed
refused-for : (root : Option (List ℕ)) (s : SchemaView) (type : ShownType) (c : Tree) (cause : ProofCause) (stop : Stop)
    → Refuses root c cause → IfRefused (λ r. r ≡ proof cause) stop
    → Answers {T = Viewed} (Proof root s type c) shown_by (Err stop)
refused-for root s type c cause (Refused r) so is = record { answer = stops (refusal_by r) (ap Err is ∙ so) refl }
refused-for root s type c cause NoMemory so is = record { answer = tt }

-- the answer of `view` that is reported by a cause
abbrev Reports : ProofCause → ViewAnswer → Type 0
Reports causes.NotProof a = a ≡ not_proof
Reports causes.NotWhole a = a ≡ not_whole
Reports (causes.HashDiffers kept found) a = a ≡ hash_differs kept found
Reports (causes.DepthDiffers kept found) a = a ≡ depth_differs kept found
Reports (causes.WrongRoot found) a = a ≡ wrong_root found
Reports causes.ProofTooDeep a = ⊥
Reports causes.ProofTooLarge a = ⊥

refuses : (root : Option (List ℕ)) (s : CoreSchema) (t : Closed) (c : Tree) (cause : ProofCause) (a : ViewAnswer)
    → Reports cause a → ViewAnswers s t c root a → Refuses root c cause
refuses root s t c causes.NotProof a e h = no-proof root c (subst (ViewAnswers s t c root) e h)
refuses root s t c causes.NotWhole a e h =
    let x = subst (ViewAnswers s t c root) e h in not-whole root c x.1 (over root c x.1 x.0 x.2) x.3
refuses root s t c (causes.HashDiffers kept found) a e h =
    let x = subst (ViewAnswers s t c root) e h in
    let b = x.3 in
    hash-differs root c x.1 (over root c x.1 x.0 x.2) b.0 kept found b.1 b.2 b.3
refuses root s t c (causes.DepthDiffers kept found) a e h =
    let x = subst (ViewAnswers s t c root) e h in
    let b = x.3 in
    depth-differs root c x.1 (over root c x.1 x.0 x.2) b.0 b.1 kept found b.2 b.3 b.4
refuses root s t c (causes.WrongRoot found) a e h =
    let x = subst (ViewAnswers s t c root) e h in
    let b = x.3 in
    wrong-root root c x.1 (over root c x.1 x.0 x.2) b.0 found b.1 b.2
refuses root s t c causes.ProofTooDeep a e h = absurd e
refuses root s t c causes.ProofTooLarge a e h = absurd e

pub refused : (root : Option (List ℕ)) (s : SchemaView) (type : ShownType) (c : Tree) (cause : ProofCause) (stop : Stop)
    (a : ViewAnswer) → Reports cause a → Holds s type c root a → IfRefused (λ r. r ≡ proof cause) stop
    → Answers {T = Viewed} (Proof root s type c) shown_by (Err stop)
refused root s type c cause stop a reports is reported =
    refused-for root s type c cause stop (refuses root (kept_cores s) type.closed c cause a reports is.holds) reported
