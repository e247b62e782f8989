-- The stage of the words of paths comes to exactly one answer.
use Rattle.std.proofs.Common.{◌≡◌, ◌⊎◌, inl, inr, ◌∙◌, ◌+◌, ap, sym, subst, refl, arith, ℕ, Bool, true, false, List, [], ◌∷◌}
use Rattle.std.proofs.Common.{Option, None, Some, Result, Ok, Err}
use Rattle.pruning.specs.Knowing.{NamesSomething, names_absence}
use Rattle.tlb_edge.specs.Files.{Name}
use Rattle.typed_value.specs.Paths.{Stride, at_path}
use Rattle.typed_value.specs.Values.{Plain}
use Rattle.value_text.specs.PathLaws.{OnePath, PathOrPlace, SomePathOrPlace}
use Rattle.value_text.specs.PathText.{PathWrites, IsBadPath}
use Rattle.cli_refusals.specs.Refusal.{path}
use Rattle.cli_stages.specs.Paths.{AllChoose, Chooses, IsFirstBad, Paths, RefusesPath}
use Rattle.cli_stages.specs.Stage.{IsAnswered, IsStage}
use Rattle.cli_stages.proofs.StageFacts.{judged-as, stage-once}

pub record PathLaws : Type 0 where
  pub one : OnePath
  pub not_both : PathOrPlace
  pub some : SomePathOrPlace

-- ---- each word chooses or doesn't

abbrev Choice : Plain → Name → Type 0
Choice v word = ((steps : List Stride) × Chooses v word steps) ⊎ ((steps : List Stride) → Chooses v word steps → ⊥)

no-value : (o : Option Plain) (u : Plain) → o ≡ None → o ≡ Some u → ⊥
no-value o u a b = let same : None ≡ Some u = sym a ∙ b in grind arith

names-by : (v : Plain) (steps : List Stride) (o : Option Plain) (b : Bool) → at_path v steps ≡ o → names_absence v steps ≡ b
    → NamesSomething v steps ⊎ (NamesSomething v steps → ⊥)
names-by v steps (Some u) b e f = inl (inl (u, e))
names-by v steps None true e f = inl (inr f)
names-by v steps None false e f = inr not_named
  where
    not_named : NamesSomething v steps → ⊥
    not_named (inl x) = no-value (at_path v steps) x.0 e x.1
    not_named (inr is) = let same : true ≡ false = sym is ∙ f in cc

chooses-by : PathLaws → (v : Plain) (word : Name) (steps : List Stride) → PathWrites word steps
    → NamesSomething v steps ⊎ (NamesSomething v steps → ⊥) → Choice v word
chooses-by laws v word steps writes (inl names) = inl (steps, record { writes = writes; names = names })
chooses-by laws v word steps writes (inr not_named) =
    inr (λ others c. not_named (subst (NamesSomething v) (laws.one word others steps c.writes writes) c.names))

chooses-or-not : PathLaws → (v : Plain) (word : Name)
    → ((steps : List Stride) × PathWrites word steps) ⊎ ((place : ℕ) × IsBadPath word place) → Choice v word
chooses-or-not laws v word (inl x) =
    chooses-by laws v word x.0 x.1 (names-by v x.0 (at_path v x.0) (names_absence v x.0) refl refl)
chooses-or-not laws v word (inr x) = inr (λ steps c. laws.not_both word steps x.0 c.writes x.1)

-- ---- all of them do, or there is a first that doesn't

abbrev Judged : ℕ → Plain → List Name → Type 0
Judged first v words = ((paths : List (List Stride)) × AllChoose v words paths) ⊎ ((number : ℕ) × IsFirstBad first v words number)

judged-more : (first : ℕ) (v : Plain) (word : Name) (words : List Name) → Choice v word → Judged (first + 1) v words
    → Judged first v (word ∷ words)
judged-more first v word words (inl x) (inl y) = inl (x.0 ∷ y.0, (x.1, y.1))
judged-more first v word words (inl x) (inr y) = inr (y.0, inr (x, y.1))
judged-more first v word words (inr never) later = inr (first, inl (refl, never))

judged : PathLaws → (first : ℕ) (v : Plain) (words : List Name) → Judged first v words
judged laws first v [] = inl ([], tt)
judged laws first v (word ∷ words) =
    judged-more first v word words (chooses-or-not laws v word (laws.some word)) (judged laws (first + 1) v words)

-- ---- one answer

paths-same : OnePath → (v : Plain) (words : List Name) (p q : List (List Stride)) → AllChoose v words p → AllChoose v words q
    → p ≡ q
paths-same one v [] [] [] a b = refl
paths-same one v [] [] (s ∷ q) a b = absurd b
paths-same one v [] (r ∷ p) q a b = absurd a
paths-same one v (word ∷ words) [] q a b = absurd a
paths-same one v (word ∷ words) (r ∷ p) [] a b = absurd b
paths-same one v (word ∷ words) (r ∷ p) (s ∷ q) a b =
    let same : r ≡ s = one word r s a.0.writes b.0.writes in
    let others : p ≡ q = paths-same one v words p q a.1 b.1 in
    cc

numbers-same : (first : ℕ) (v : Plain) (words : List Name) (m n : ℕ) → IsFirstBad first v words m → IsFirstBad first v words n
    → m ≡ n
numbers-same first v [] m n a b = absurd a
numbers-same first v (word ∷ words) m n (inl a) (inl b) = a.0 ∙ sym b.0
numbers-same first v (word ∷ words) m n (inl a) (inr b) = absurd (a.1 b.0.0 b.0.1)
numbers-same first v (word ∷ words) m n (inr a) (inl b) = absurd (b.1 a.0.0 a.0.1)
numbers-same first v (word ∷ words) m n (inr a) (inr b) = numbers-same (first + 1) v words m n a.1 b.1

never-both : (first : ℕ) (v : Plain) (words : List Name) (n : ℕ) (p : List (List Stride)) → IsFirstBad first v words n
    → AllChoose v words p → ⊥
never-both first v [] n p a b = a
never-both first v (word ∷ words) n [] a b = b
never-both first v (word ∷ words) n (s ∷ p) (inl a) b = a.1 s b.0
never-both first v (word ∷ words) n (s ∷ p) (inr a) b = never-both (first + 1) v words n p a.1 b.1

paths-some : (v : Plain) (words : List Name) → Judged 1 v words → IsAnswered (Paths v words)
paths-some v words (inl x) = (Ok x.0, x.1)
paths-some v words (inr x) = (Err (path x.0), (x.0, x.1, refl))

pub paths-stage : PathLaws → (v : Plain) (words : List Name) → IsStage (Paths v words)
paths-stage laws v words = record {
  once = stage-once (RefusesPath v words) (AllChoose v words)
      (λ r s a b. a.2 ∙ ap path (numbers-same 1 v words a.0 b.0 a.1 b.1) ∙ sym b.2)
      (λ p q a b. paths-same laws.one v words p q a b)
      (λ r p a b. never-both 1 v words a.0 p a.1 b);
  answered = paths-some v words (judged laws 1 v words);
  refuses = λ r given. judged-as r _ given.2 tt;
}
