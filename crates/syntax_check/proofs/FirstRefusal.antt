-- The refusals that are given by the grammar alone: where a step fails stands the first of them.
use Rattle.std.proofs.Common.{◌≡◌, ◌⊎◌, inl, inr, ℕ, ◌<◌, ◌≤◌, true, false, List, [], ◌∷◌, ◌++◌, length, Some, None, Ok, Err, refl, sym, ap, ◌∙◌, subst, arith, append-nil, length-append}
use Rattle.tlb_syntax.specs.Lexeme.{Lexeme}
use Rattle.tlb_syntax.specs.Written.{form_of, Grammar, IsAny, Splits, IsSyntax, Exceeds, MeetsLevels, MeetsItems, ComesFirst, rank, bounds, unbounded, standard, syntax, deep_type, too_many_constructors, too_many_fields, too_many_params, Cause as Reason}
use Rattle.syntax_check.specs.declared.machine.Cause.{Cause}
use Rattle.syntax_check.specs.declared.machine.Cause.TheVariants.{Syntax, DeepType, TooManyConstructors, TooManyFields, TooManyParams}
use Rattle.syntax_check.specs.Machine.{State, step, run}
use Rattle.syntax_check.specs.Verdict.{cause_of}
use Rattle.syntax_check.proofs.WithoutCounts.{Switches, every, without, IsOpen}
use Rattle.syntax_check.proofs.Phase.{Phase, broken, phase_of}
use Rattle.syntax_check.proofs.Steps.{IsOk, Lifts, IsLimit, step_by, ManyAt}
use Rattle.syntax_check.proofs.Stepwise.{ok_one, clash, step_limit, no_constructors, sound, Sound}
use Rattle.syntax_check.proofs.Prefixes.{Language, but_levels, but_items, but_params, runs_without, syntax_later, excess_later, no_excess_at_place, no_excess_past, excess_is, stop_is}

-- the refusals but those of too many constructors
abbrev pub Plain : {X : Type 0} → Grammar X → List Lexeme → Reason → ℕ → Type 0
Plain G ls syntax place = IsSyntax G ls place
Plain G ls deep_type place = MeetsLevels G ls place
Plain G ls too_many_constructors place = ⊥
Plain G ls too_many_fields place = MeetsItems G ls place
Plain G ls too_many_params place = Exceeds G (bounds None None (Some 8)) IsAny ls place

pub below_or : (a b : ℕ) → (a < b) ⊎ (b ≤ a)
below_or a b = grind arith

pub below_or_same : (a b : ℕ) → a ≤ b → (a < b) ⊎ (a ≡ b)
below_or_same a b h = grind arith

module _ {X : Type 0} {G : Grammar X} (l : Language G) where
  -- none stands before the machine's place
  pub plain_later : (ls prefix rest : List Lexeme) (st : State) (c : Reason) (place : ℕ)
      → run standard (l.start standard) prefix ≡ Ok st → ls ≡ prefix ++ rest → Plain G ls c place
      → length prefix ≤ place
  plain_later ls prefix rest st syntax place e whole h = syntax_later l standard ls prefix rest st place e whole h
  plain_later ls prefix rest st deep_type place e whole h = excess_later l but_levels standard ls prefix rest st place e
      whole h
  plain_later ls prefix rest st too_many_constructors place e whole h = absurd h
  plain_later ls prefix rest st too_many_fields place e whole h = excess_later l but_items standard ls prefix rest st
      place e whole h
  plain_later ls prefix rest st too_many_params place e whole h = excess_later l but_params standard ls prefix rest st
      place e whole h

  -- a step that fails is refused
  pub plain_at_place : (ls prefix later : List Lexeme) (t : Lexeme) (st : State) (why : Cause) (place : ℕ)
      → run standard (l.start standard) prefix ≡ Ok st → ls ≡ prefix ++ t ∷ later → length prefix ≡ place
      → step standard st t ≡ Err why → Plain G ls (cause_of why) place
  plain_at_place ls prefix later t st Syntax place e whole size h = inl (stop_is l standard ls prefix later t st place e
      whole size h)
  plain_at_place ls prefix later t st DeepType place e whole size h = excess_is l but_levels standard ls prefix later t st
      DeepType place e whole size tt refl h
  plain_at_place ls prefix later t st TooManyConstructors place e whole size h = absurd (no_constructors standard st t h)
  plain_at_place ls prefix later t st TooManyFields place e whole size h = excess_is l but_items standard ls prefix later t
      st TooManyFields place e whole size tt refl h
  plain_at_place ls prefix later t st TooManyParams place e whole size h = excess_is l but_params standard ls prefix later t
      st TooManyParams place e whole size tt refl h

  -- at a parameter too many the levels are not exceeded
  levels_past : (t : Lexeme) (st : State) → Sound standard st → ManyAt standard st t
      → IsOk (step_by standard st (form_of t) but_levels)
  levels_past t st w (inl e) = absurd (differ (phase_of st) e w.phase)
    where
      differ : (ph : Phase) → ph ≡ broken → sound ph ≡ true → ⊥
      differ ph e h = let k : sound ph ≡ false = ap sound e in cc
  levels_past t st w (inr e) = e.1 (subst IsOpen (sym w.levels) tt) but_levels refl

  -- there no other refusal comes before it
  before_it : (ls prefix later : List Lexeme) (t : Lexeme) (st : State) (why : Cause) (place : ℕ) (c : Reason)
      → run standard (l.start standard) prefix ≡ Ok st → Sound standard st → ls ≡ prefix ++ t ∷ later
      → length prefix ≡ place → step standard st t ≡ Err why →
      (rank (cause_of why) ≤ rank c) ⊎ (Plain G ls c place → ⊥)
  before_it ls prefix later t st Syntax place syntax e w whole size h = inl (omega arith)
  before_it ls prefix later t st Syntax place deep_type e w whole size h = inr (no_excess_at_place l but_levels standard ls
      prefix later t st place e whole size h)
  before_it ls prefix later t st Syntax place too_many_constructors e w whole size h = inr (λ z. z)
  before_it ls prefix later t st Syntax place too_many_fields e w whole size h =
      inr (no_excess_at_place l but_items standard ls prefix later t st place e whole size h)
  before_it ls prefix later t st Syntax place too_many_params e w whole size h =
      inr (no_excess_at_place l but_params standard ls prefix later t st place e whole size h)
  before_it ls prefix later t st DeepType place c e w whole size h = inl (omega arith)
  before_it ls prefix later t st TooManyConstructors place c e w whole size h = absurd (no_constructors standard st t h)
  before_it ls prefix later t st TooManyFields place deep_type e w whole size h =
      inr (no_excess_past l but_levels standard ls prefix later t st place e whole size
      ((step_limit standard st t TooManyFields tt h).1 but_levels refl))
  before_it ls prefix later t st TooManyFields place too_many_constructors e w whole size h = inr (λ z. z)
  before_it ls prefix later t st TooManyFields place too_many_fields e w whole size h = inl (omega arith)
  before_it ls prefix later t st TooManyFields place too_many_params e w whole size h = inl (omega arith)
  before_it ls prefix later t st TooManyFields place syntax e w whole size h = inl (omega arith)
  before_it ls prefix later t st TooManyParams place deep_type e w whole size h =
      inr (no_excess_past l but_levels standard ls prefix later t st place e whole size
      (levels_past t st w ((step_limit standard st t TooManyParams tt h).2 refl)))
  before_it ls prefix later t st TooManyParams place too_many_constructors e w whole size h = inr (λ z. z)
  before_it ls prefix later t st TooManyParams place too_many_fields e w whole size h =
      inr (no_excess_past l but_items standard ls prefix later t st place e whole size
      ((step_limit standard st t TooManyParams tt h).1 but_items (refl, refl)))
  before_it ls prefix later t st TooManyParams place too_many_params e w whole size h = inl (omega arith)
  before_it ls prefix later t st TooManyParams place syntax e w whole size h = inl (omega arith)

  pub plain_first : (ls prefix later : List Lexeme) (t : Lexeme) (st : State) (why : Cause) (place : ℕ)
      → run standard (l.start standard) prefix ≡ Ok st → Sound standard st → ls ≡ prefix ++ t ∷ later
      → length prefix ≡ place → step standard st t ≡ Err why →
      (c : Reason) (q : ℕ) → Plain G ls c q → ComesFirst place (cause_of why) q c
  plain_first ls prefix later t st why place e w whole size h c q p =
      go (below_or_same place q (let k = plain_later ls prefix (t ∷ later) st c q e whole p in omega arith))
      (before_it ls prefix later t st why place c e w whole size h)
    where
      go : (place < q) ⊎ (place ≡ q) → (rank (cause_of why) ≤ rank c) ⊎ (Plain G ls c place → ⊥) → ComesFirst place
          (cause_of why) q c
      go (inl a) b = inl a
      go (inr a) (inl b) = inr (a, b)
      go (inr a) (inr b) = absurd (b (let P : ℕ → Type 0 = Plain G ls c in subst P (sym a) p))

  -- at the end of a list no lexeme is refused
  no_split : (ls : List Lexeme) (place : ℕ) → length ls ≡ place → Splits ls place → ⊥
  no_split ls place size sp = absurd (omega (
    arith,
    ap length sp.whole,
    length-append sp.prefix (sp.next ∷ sp.later),
    sp.size,
  ))

  pub end_first : (ls : List Lexeme) (st : State) (place : ℕ) → run standard (l.start standard) ls ≡ Ok st
      → length ls ≡ place → (c : Reason) (q : ℕ) → Plain G ls c q → ComesFirst place syntax q c
  end_first ls st place e size c q p =
      go c p (below_or_same place q (let k = plain_later ls ls [] st c q e (sym (append-nil ls)) p in omega arith))
    where
      go : (c : Reason) → Plain G ls c q → (place < q) ⊎ (place ≡ q) → ComesFirst place syntax q c
      go c p (inl a) = inl a
      go syntax p (inr a) = inr (a, omega arith)
      go deep_type p (inr a) = absurd (no_split ls q (size ∙ a) p.split)
      go too_many_constructors p (inr a) = absurd p
      go too_many_fields p (inr a) = absurd (no_split ls q (size ∙ a) p.split)
      go too_many_params p (inr a) = absurd (no_split ls q (size ∙ a) p.split)

  -- no limit is met without bounds
  pub no_limit : (prefix : List Lexeme) (st : State) (t : Lexeme) (why : Cause) → run unbounded (l.start unbounded)
      prefix ≡ Ok st → IsLimit why → step unbounded st t ≡ Err why → ⊥
  no_limit prefix st t why e limit h = go why limit h
    where
      same : (f : Switches) → run unbounded (l.start unbounded) prefix ≡ Ok (without f st)
          → step unbounded (without f st) (form_of t) ≡ step unbounded st (form_of t)
      same f k = let s : without f st ≡ st = ok_one (without f st) st (sym k ∙ e) in
          ap (λ z. step unbounded z (form_of t)) s

      some : (why : Cause) → IsLimit why → Lifts every why → step unbounded st t ≡ Err why
          → IsOk (step unbounded st (form_of t))
      some why limit lifts h = let k = (step_limit unbounded st t why limit h).1 every lifts in
          (k.0, sym (same every (runs_without l every unbounded prefix st e)) ∙ k.1)

      go : (why : Cause) → IsLimit why → step unbounded st t ≡ Err why → ⊥
      go Syntax limit h = absurd limit
      go TooManyConstructors limit h = absurd limit
      go DeepType limit h =
          let k = some DeepType tt (refl, refl) h in
          clash (step unbounded st (form_of t)) k.0 DeepType k.1
          (sym (same but_levels (runs_without l but_levels unbounded prefix st e))
          ∙ (step_limit unbounded st t DeepType tt h).0 but_levels refl)
      go TooManyFields limit h =
          let k = some TooManyFields tt refl h in
          clash (step unbounded st (form_of t)) k.0 TooManyFields k.1
          (sym (same but_items (runs_without l but_items unbounded prefix st e))
          ∙ (step_limit unbounded st t TooManyFields tt h).0 but_items refl)
      go TooManyParams limit h =
          let k = some TooManyParams tt (refl, refl) h in
          clash (step unbounded st (form_of t)) k.0 TooManyParams k.1
          (sym (same but_params (runs_without l but_params unbounded prefix st e))
          ∙ (step_limit unbounded st t TooManyParams tt h).0 but_params refl)
