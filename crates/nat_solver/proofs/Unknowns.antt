-- How often unknowns occur, and whether under a factor 0.
use Rattle.std.proofs.Common.{◌≡◌, ◌↔◌, ℕ, ◌≤◌, List, [], ◌∷◌, ◌++◌, ◌⊎◌, inl, inr, Some, Bool, true, false, not, refl, ap, ◌∙◌, sym, subst, arith, nat_eq, cond, length, length-append}
use Rattle.nat_solver.specs.Number.{Expr, lit, var, sought, plus, times, unknowns, cancelled, is_empty, OneUnknown}
use Rattle.nat_solver.specs.Plain.{joined, under, occurrence, occurs, unknown_of}
use Rattle.nat_solver.specs.declared.unknown.Occurrence.{Occurrence}
use Rattle.nat_solver.specs.declared.unknown.Occurrence.TheVariants.{Never, Once, Unfit}

abbrev pub Shows : Occurrence → List ℕ → List ℕ → Type 0
Shows Never us cs = (us ≡ []) × (cs ≡ [])
Shows (Once v) us cs = (us ≡ v ∷ []) × (cs ≡ [])
Shows Unfit us cs = (2 ≤ length us) ⊎ (1 ≤ length cs)

shows_join : (o p : Occurrence) (us cs us' cs' : List ℕ) → Shows o us cs → Shows p us' cs' → Shows (joined o p) (us ++ us') (cs ++ cs')
shows_join Never p us cs us' cs' s t =
    let P : List ℕ → Type 0 = λ xs. Shows p (xs ++ us') (cs ++ cs') in
    let Q : List ℕ → Type 0 = λ xs. Shows p us' (xs ++ cs') in
    subst P (sym s.0) (subst Q (sym s.1) t)
shows_join (Once v) Never us cs us' cs' s t = (λ i. s.0 i ++ t.0 i, λ i. s.1 i ++ t.1 i)
shows_join (Once v) (Once w) us cs us' cs' s t =
    let a : length us ≡ 1 = ap length s.0 in
    let b : length us' ≡ 1 = ap length t.0 in
    inl (omega (arith, length-append us us'))
shows_join (Once v) Unfit us cs us' cs' s t =
    elim t [ inl h ↦ inl (omega (arith, length-append us us')) | inr h ↦ inr (omega (arith, length-append cs cs')) ]
shows_join Unfit p us cs us' cs' s t =
    elim s [ inl h ↦ inl (omega (arith, length-append us us')) | inr h ↦ inr (omega (arith, length-append cs cs')) ]

cancelled_among : (e : Expr) → length (cancelled e) ≤ length (unknowns e)
cancelled_among (lit n) = omega arith
cancelled_among (var v) = omega arith
cancelled_among (sought v) = omega arith
cancelled_among (plus a b) =
    omega (arith, cancelled_among a, cancelled_among b, length-append (cancelled a) (cancelled b), length-append (unknowns a) (unknowns b))
cancelled_among (times k a) = either (nat_eq k 0) (cancelled_among a)
  where
    either : (b : Bool) → length (cancelled a) ≤ length (unknowns a) → length (cond b (unknowns a) (cancelled a)) ≤ length (unknowns a)
    either true h = omega arith
    either false h = h

shows_under : (b : Bool) (k : ℕ) (o : Occurrence) (us cs : List ℕ) → nat_eq k 0 ≡ b → length cs ≤ length us → Shows o us cs → Shows (under k o) us (cond b us cs)
shows_under true k Never us cs e h s = (s.0, s.0)
shows_under false k Never us cs e h s = s
shows_under true k (Once v) us cs e h s =
    let a : length us ≡ 1 = ap length s.0 in
    let P : Bool → Type 0 = λ c. Shows (cond c Unfit (Once v)) us us in
    subst P (sym e) (inr (omega arith))
shows_under false k (Once v) us cs e h s =
    let P : Bool → Type 0 = λ c. Shows (cond c Unfit (Once v)) us cs in
    subst P (sym e) s
shows_under true k Unfit us cs e h s = elim s [ inl a ↦ inl a | inr a ↦ inr (omega arith) ]
shows_under false k Unfit us cs e h s = s

pub shows : (e : Expr) → Shows (occurrence e) (unknowns e) (cancelled e)
shows (lit n) = (refl, refl)
shows (var v) = (refl, refl)
shows (sought v) = (refl, refl)
shows (plus a b) = shows_join (occurrence a) (occurrence b) _ _ _ _ (shows a) (shows b)
shows (times k a) = shows_under (nat_eq k 0) k (occurrence a) (unknowns a) (cancelled a) refl (cancelled_among a) (shows a)

one_shown : (o : Occurrence) (us cs : List ℕ) (v : ℕ) → Shows o us cs → (unknown_of o ≡ Some v → (us ≡ v ∷ []) × (cs ≡ [])) × ((us ≡ v ∷ []) → (cs ≡ []) → unknown_of o ≡ Some v)
one_shown Never us cs v s = (λ e. cc, λ a b. let c : us ≡ [] = s.0 in cc)
one_shown (Once w) us cs v s =
    (λ e. let same : w ≡ v = cc in (s.0 ∙ ap (λ x. x ∷ []) same, s.1), λ a b. let c : us ≡ w ∷ [] = s.0 in let same : w ≡ v = cc in ap Some same)
one_shown Unfit us cs v s = (
  λ e. cc,
  λ a b.
      let c : length us ≡ 1 = ap length a in
      let d : length cs ≡ 0 = ap length b in
      absurd (elim s [ inl h ↦ omega arith | inr h ↦ omega arith ]),
)

pub one_unknown : (o : Occurrence) (left right : Expr) → o ≡ joined (occurrence left) (occurrence right) → (v : ℕ) → (unknown_of o ≡ Some v) ↔ OneUnknown left right v
one_unknown o left right is v =
    let P : Occurrence → Type 0 = λ p. Shows p (unknowns left ++ unknowns right) (cancelled left ++ cancelled right) in
    let s = subst P (sym is) (shows_join (occurrence left) (occurrence right) _ _ _ _ (shows left) (shows right)) in
    let both = one_shown o (unknowns left ++ unknowns right) (cancelled left ++ cancelled right) v s in
    (λ e. record { only = (both.0 e).0; counts = (both.0 e).1 }, λ h. both.1 h.only h.counts)

-- an unknown occurs exactly where the list of unknowns is not empty
occurs_shown : (o : Occurrence) (us cs : List ℕ) → length cs ≤ length us → Shows o us cs → occurs o ≡ not (is_empty us)
occurs_shown Never us cs h s = sym (ap (λ xs. not (is_empty xs)) s.0)
occurs_shown (Once v) us cs h s = sym (ap (λ xs. not (is_empty xs)) s.0)
occurs_shown Unfit [] cs h s = absurd (elim s [ inl a ↦ omega arith | inr a ↦ omega arith ])
occurs_shown Unfit (u ∷ us) cs h s = refl

pub occurs_where : (e : Expr) → occurs (occurrence e) ≡ not (is_empty (unknowns e))
occurs_where e = occurs_shown (occurrence e) (unknowns e) (cancelled e) (cancelled_among e) (shows e)
