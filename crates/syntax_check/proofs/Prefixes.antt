-- The prefixes that can go on are those that the machine takes; what refuses at a place, and what stands earlier.
use Rattle.std.proofs.Common.{◌≡◌, ◌⊎◌, inl, inr, ℕ, ◌<◌, ◌≤◌, Bool, true, false, List, [], ◌∷◌, ◌++◌, length, Ok, Err, refl, sym, ap, ◌∙◌, subst, arith, append_assoc, length-append}
use Rattle.tlb_syntax.specs.Lexeme.{Lexeme}
use Rattle.tlb_syntax.specs.Grammar.{Bounds}
use Rattle.tlb_syntax.specs.Written.{form_of, Grammar, CanGoOn, IsAny, Splits, ended, StopsAt, EndsEarly, IsSyntax, Exceeds, unbounded}
use Rattle.syntax_check.specs.declared.machine.Cause.{Cause}
use Rattle.syntax_check.specs.declared.machine.Cause.TheVariants.{Syntax, DeepType, TooManyConstructors, TooManyFields, TooManyParams}
use Rattle.syntax_check.specs.Machine.{State, step, run}
use Rattle.syntax_check.proofs.WithoutCounts.{Switches, switches, every, without, bounds_without}
use Rattle.syntax_check.proofs.Steps.{IsOk, Keeps, Lifts, IsLimit, step_by}
use Rattle.syntax_check.proofs.Stepwise.{ok_one, clash, shorter, same_split, run_prefix, run_join, one_run, run_more, last_step, step_ok, step_syntax, step_limit, run_without}

-- a grammar that the machine keeps to, from a start on
pub record Language {X : Type 0} (G : Grammar X) : Type 0 where
  pub start : Bounds → State
  pub is_end : State → Bool
  pub runs : (m : Bounds) (ls : List Lexeme) (s : X) → G m ls s → (st : State) × (run m (start m) ls ≡ Ok st)
      × (is_end st ≡ true)
  pub soundness : (m : Bounds) (ls : List Lexeme) (st : State) → run m (start m) ls ≡ Ok st → is_end st ≡ true → (s : X)
      × G m ls s
  pub ending : (m : Bounds) (prefix : List Lexeme) (st : State) → run m (start m) prefix ≡ Ok st → (more : List Lexeme)
      × (last : State) × (run m st more ≡ Ok last) × (is_end last ≡ true)
  pub start_without : (f : Switches) (m : Bounds) → start (bounds_without f m) ≡ without f (start m)
  pub end_without : (f : Switches) (st : State) → is_end (without f st) ≡ is_end st

-- the switches that keep one limit
abbrev pub but_levels : Switches
but_levels = switches false true true

abbrev pub but_items : Switches
but_items = switches true false true

abbrev pub but_params : Switches
but_params = switches true true false

module _ {X : Type 0} {G : Grammar X} (l : Language G) where
  pub runs_without : (f : Switches) (m : Bounds) (ls : List Lexeme) (st : State) → run m (l.start m) ls ≡ Ok st
      → run (bounds_without f m) (l.start (bounds_without f m)) ls ≡ Ok (without f st)
  runs_without f m ls st e =
      let P : State → Type 0 = λ z. run (bounds_without f m) z ls ≡ Ok (without f st) in
      subst P (sym (l.start_without f m)) (run_without f m ls (l.start m) st e)

  -- after a prefix that the machine took, some text goes on
  pub goes_on : (m : Bounds) (prefix : List Lexeme) (st : State) → run m (l.start m) prefix ≡ Ok st → CanGoOn G m IsAny
      prefix
  goes_on m prefix st e =
      let k = l.ending m prefix st e in
      let w = l.soundness m (prefix ++ k.0) k.1 (run_join m (l.start m) st k.1 prefix k.0 e k.2) k.3 in
      record { more = k.0; tree = w.0; kept = tt; written = w.1 }

  pub came : (m : Bounds) (P : X → Type 0) (prefix : List Lexeme) → CanGoOn G m P prefix → (st : State)
      × (run m (l.start m) prefix ≡ Ok st)
  came m P prefix c =
      let k = l.runs m (prefix ++ c.more) c.tree c.written in
      let w = run_prefix m (l.start m) prefix c.more k.0 k.1 in
      (w.0, w.1)

  -- past a step that fails no text goes on
  pub no_way : (m : Bounds) (P : X → Type 0) (prefix : List Lexeme) (st : State) (t : Lexeme) (why : Cause)
      → run m (l.start m) prefix ≡ Ok st → step m st t ≡ Err why → CanGoOn G m P (ended prefix t) → ⊥
  no_way m P prefix st t why e h c =
      let k = came m P (ended prefix t) c in
      clash (step m st t) k.0 why (last_step m (l.start m) st k.0 prefix t e k.1) h

  -- a step after a prefix, without some counts and on a lexeme of the same form
  pub formed_way : (f : Switches) (m : Bounds) (prefix : List Lexeme) (st next : State) (t : Lexeme) → run m (l.start m)
      prefix ≡ Ok st → step_by m st t f ≡ Ok next → CanGoOn G (bounds_without f m) IsAny (ended prefix t)
  formed_way f m prefix st next t e h =
      goes_on (bounds_without f m) (ended prefix t) next (run_more (bounds_without f m) (l.start (bounds_without f m))
      (without f st) next prefix t (runs_without f m prefix st e) h)

  pub no_formed_way : (f : Switches) (m : Bounds) (P : X → Type 0) (prefix : List Lexeme) (st : State) (t : Lexeme)
      (why : Cause) → run m (l.start m) prefix ≡ Ok st → step_by m st t f ≡ Err why → CanGoOn G (bounds_without f m) P
      (ended prefix t) → ⊥
  no_formed_way f m P prefix st t why e h c = no_way (bounds_without f m) P prefix (without f st) t why
      (runs_without f m prefix st e) h c

  -- ---- no refusal stands where the machine goes on

  -- the lexeme at an earlier place goes on, with what is of its form
  earlier : (m : Bounds) (ls prefix rest : List Lexeme) (st : State) (place : ℕ) → run m (l.start m) prefix ≡ Ok st
      → ls ≡ prefix ++ rest → (sp : Splits ls place) → place < length prefix →
      (mid next : State) × (run m (l.start m) sp.prefix ≡ Ok mid) × (step m mid sp.next ≡ Ok next)
  earlier m ls prefix rest st place e whole sp h =
      let k = shorter sp.prefix prefix sp.later rest sp.next (sym sp.whole ∙ whole) (omega (arith, sp.size)) in
      let whole_prefix : prefix ≡ (sp.prefix ++ sp.next ∷ []) ++ k.0 = k.1 ∙ sym (append_assoc sp.prefix (sp.next ∷ []) k.0) in
      let P : List Lexeme → Type 0 = λ z. run m (l.start m) z ≡ Ok st in
      let a = run_prefix m (l.start m) (sp.prefix ++ sp.next ∷ []) k.0 st (subst P whole_prefix e) in
      let b = run_prefix m (l.start m) sp.prefix (sp.next ∷ []) a.0 a.1 in
      (b.0, a.0, b.1, one_run m b.0 a.0 sp.next b.2)

  pub no_stop : (m : Bounds) (ls prefix rest : List Lexeme) (st : State) (place : ℕ) → run m (l.start m) prefix ≡ Ok st
      → ls ≡ prefix ++ rest → StopsAt G ls place → place < length prefix → ⊥
  no_stop m ls prefix rest st place e whole s h =
      let k = earlier m ls prefix rest st place e whole s.split h in
      s.no_further (formed_way every m s.split.prefix k.0 (without every k.1) s.split.next k.2
      ((step_ok m k.0 k.1 s.split.next k.3).0 every))

  pub no_excess : (f : Switches) (m : Bounds) (ls prefix rest : List Lexeme) (st : State) (place : ℕ)
      → run m (l.start m) prefix ≡ Ok st → ls ≡ prefix ++ rest → Exceeds G (bounds_without f m) IsAny ls place
      → place < length prefix → ⊥
  no_excess f m ls prefix rest st place e whole s h =
      let k = earlier m ls prefix rest st place e whole s.split h in
      s.too_much (formed_way f m s.split.prefix k.0 (without f k.1) (form_of s.split.next) k.2
      ((step_ok m k.0 k.1 s.split.next k.3).1 f))

  pub syntax_later : (m : Bounds) (ls prefix rest : List Lexeme) (st : State) (place : ℕ)
      → run m (l.start m) prefix ≡ Ok
      st → ls ≡ prefix ++ rest → IsSyntax G ls place → length prefix ≤ place
  syntax_later m ls prefix rest st place e whole (inl s) = go (cases place (length prefix))
    where
      cases : (a b : ℕ) → (a < b) ⊎ (b ≤ a)
      cases a b = grind arith

      go : (place < length prefix) ⊎ (length prefix ≤ place) → length prefix ≤ place
      go (inl h) = absurd (no_stop m ls prefix rest st place e whole s h)
      go (inr h) = h
  syntax_later m ls prefix rest st place e whole (inr s) = omega (
    arith,
    s.size,
    ap length whole,
    length-append prefix
        rest,
  )

  pub excess_later : (f : Switches) (m : Bounds) (ls prefix rest : List Lexeme) (st : State) (place : ℕ)
      → run m (l.start m) prefix ≡ Ok st → ls ≡ prefix ++ rest → Exceeds G (bounds_without f m) IsAny ls place
      → length prefix ≤ place
  excess_later f m ls prefix rest st place e whole s = go (cases place (length prefix))
    where
      cases : (a b : ℕ) → (a < b) ⊎ (b ≤ a)
      cases a b = grind arith

      go : (place < length prefix) ⊎ (length prefix ≤ place) → length prefix ≤ place
      go (inl h) = absurd (no_excess f m ls prefix rest st place e whole s h)
      go (inr h) = h

  -- ---- the lexeme at which a step fails

  -- the split at the place where the machine stands
  at_place : (ls prefix later : List Lexeme) (t : Lexeme) (place : ℕ) → ls ≡ prefix ++ t ∷ later → length prefix ≡ place
      → (sp : Splits ls place) → (prefix ≡ sp.prefix) × (t ≡ sp.next)
  at_place ls prefix later t place whole size sp =
      let k = same_split prefix sp.prefix later sp.later t sp.next (sym whole ∙ sp.whole) (size ∙ sym sp.size) in
      (k.0, k.1)

  -- an excess at that place, reported of the machine's prefix
  excess_at_place : (m : Bounds) (P : X → Type 0) (ls prefix later : List Lexeme) (t : Lexeme) (place : ℕ)
      → ls ≡ prefix ++ t ∷ later → length prefix ≡ place → Exceeds G m P ls place →
      CanGoOn G unbounded IsAny (ended prefix (form_of t)) × (CanGoOn G m P (ended prefix (form_of t)) → ⊥)
  excess_at_place m P ls prefix later t place whole size s =
      let k = at_place ls prefix later t place whole size s.split in
      let A : List Lexeme → Lexeme → Type 0 = λ a b. CanGoOn G unbounded IsAny (ended a (form_of b))
      × (CanGoOn G m P (ended a (form_of b)) → ⊥) in
      let B : Lexeme → Type 0 = λ b. A s.split.prefix b in
      let C : List Lexeme → Type 0 = λ a. A a t in
      subst C (sym k.0) (subst B (sym k.1) (s.with_it, s.too_much))

  -- where nothing goes on no limit is met
  pub no_excess_at_place : (f : Switches) (m : Bounds) (ls prefix later : List Lexeme) (t : Lexeme) (st : State)
      (place : ℕ)
      → run m (l.start m) prefix ≡ Ok st → ls ≡ prefix ++ t ∷ later → length prefix ≡ place → step m st t ≡ Err Syntax →
      Exceeds G (bounds_without f m) IsAny ls place → ⊥
  no_excess_at_place f m ls prefix later t st place e whole size h s = go (step_syntax m st t h).1
    where
      k : CanGoOn G unbounded IsAny (ended prefix (form_of t))
          × (CanGoOn G (bounds_without f m) IsAny (ended prefix (form_of t)) → ⊥)
      k = excess_at_place (bounds_without f m) IsAny ls prefix later t place whole size s

      go : ((g : Switches) → step_by m st (form_of t) g ≡ Err Syntax)
          ⊎ ((g : Switches) → IsOk (step_by m st (form_of t) g)) → ⊥
      go (inl none) = no_formed_way every m IsAny prefix st (form_of t) Syntax e (none every) k.0
      go (inr some) = k.1 (formed_way f m prefix st (some f).0 (form_of t) e (some f).1)

  -- nor where the step goes on without it
  pub no_excess_past : (f : Switches) (m : Bounds) (ls prefix later : List Lexeme) (t : Lexeme) (st : State) (place : ℕ)
      → run m (l.start m) prefix ≡ Ok st → ls ≡ prefix ++ t ∷ later → length prefix ≡ place
      → IsOk (step_by m st (form_of t) f) →
      Exceeds G (bounds_without f m) IsAny ls place → ⊥
  no_excess_past f m ls prefix later t st place e whole size h s =
      (excess_at_place (bounds_without f m) IsAny ls prefix later t place whole size s).1
      (formed_way f m prefix st h.0 (form_of t) e h.1)

  lifts_every : (why : Cause) → IsLimit why → Lifts every why
  lifts_every Syntax w = absurd w
  lifts_every DeepType w = (refl, refl)
  lifts_every TooManyConstructors w = absurd w
  lifts_every TooManyFields w = refl
  lifts_every TooManyParams w = (refl, refl)

  pub excess_is : (f : Switches) (m : Bounds) (ls prefix later : List Lexeme) (t : Lexeme) (st : State) (why : Cause)
      (place : ℕ) → run m (l.start m) prefix ≡ Ok st → ls ≡ prefix ++ t ∷ later → length prefix ≡ place → IsLimit why
      → Keeps f why → step m st t ≡ Err why →
      Exceeds G (bounds_without f m) IsAny ls place
  excess_is f m ls prefix later t st why place e whole size limit keeps h =
      let k = step_limit m st t why limit h in
      let some = k.1 every (lifts_every why limit) in
      record {
        split = record { prefix = prefix; next = t; later = later; whole = whole; size = size };
        so_far = goes_on (bounds_without f m) prefix (without f st) (runs_without f m prefix st e);
        with_it = formed_way every m prefix st some.0 (form_of t) e some.1;
        too_much = λ c. no_formed_way f m IsAny prefix st (form_of t) why e (k.0 f keeps) c;
      }

  pub stop_is : (m : Bounds) (ls prefix later : List Lexeme) (t : Lexeme) (st : State) (place : ℕ) → run m (l.start m)
      prefix ≡ Ok st → ls ≡ prefix ++ t ∷ later → length prefix ≡ place → step m st t ≡ Err Syntax → StopsAt G ls place
  stop_is m ls prefix later t st place e whole size h = record {
    split = record { prefix = prefix; next = t; later = later; whole = whole; size = size };
    so_far = goes_on unbounded prefix (without every st) (runs_without every m prefix st e);
    no_further = λ c. no_formed_way every m IsAny prefix st t Syntax e ((step_syntax m st t h).0 every) c;
  }

  pub end_is : (m : Bounds) (ls : List Lexeme) (st : State) (place : ℕ) → run m (l.start m) ls ≡ Ok st
      → length ls ≡ place → l.is_end st ≡ false → EndsEarly G ls place
  end_is m ls st place e size h = record {
    size = size;
    so_far = goes_on unbounded ls (without every st) (runs_without every m ls st e);
    not_yet = λ tree w.
        let k = l.runs unbounded ls tree w in
        let same = ok_one (without every st) k.0 (sym (runs_without every m ls st e) ∙ k.1) in
        differ (l.is_end st) (sym (l.end_without every st) ∙ ap l.is_end same ∙ k.2) h;
  }
    where
      differ : (b : Bool) → b ≡ true → b ≡ false → ⊥
      differ b x y = cc
