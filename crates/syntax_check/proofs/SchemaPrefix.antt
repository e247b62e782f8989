-- Where a schema's prefix stands: in which declaration, and that no declaration so far was one too many.
use Rattle.std.proofs.Common.{◌≡◌, ◌⊎◌, inl, inr, ℕ, ◌+◌, ◌<◌, ◌≤◌, Bool, true, false, if◌then◌else◌, List, [], ◌∷◌, ◌++◌, length, take, drop, Option, Some, Ok, Err, refl, sym, ap, ◌∙◌, subst, arith, length-append, append_assoc}
use Rattle.std.proofs.Math.Seq.{take-append_seam, drop-append_seam}
use Rattle.tlb_syntax.specs.Lexeme.{Lexeme, word, blank, number, tag, sign, other}
use Rattle.tlb_syntax.specs.declared.sign.Sign.TheVariants.{Bang}
use Rattle.tlb_syntax.specs.Grammar.{Heads, Declarations}
use Rattle.tlb_syntax.specs.Tree.{SchemaView}
use Rattle.tlb_syntax.specs.Written.{form_of, CanGoOn, IsAny, ended, Exceeds, NameOffset, at_once, after_mark, Begins, Declares, WithinCounts, unbounded}
use Rattle.syntax_check.specs.declared.machine.Cause.{Cause}
use Rattle.syntax_check.specs.declared.machine.Cause.TheVariants.{Syntax}
use Rattle.syntax_check.specs.Machine.{State, Outcome, step, run, schema_start, is_schema_end}
use Rattle.syntax_check.specs.Judge.{awaits_name, is_result, heads, count_of}
use Rattle.syntax_check.proofs.WithoutCounts.{every, without}
use Rattle.syntax_check.proofs.Phase.{Phase, between, marked, before, after_result, unnamed, phase_of, is_start, is_marked, Turn}
use Rattle.syntax_check.proofs.Steps.{IsOk}
use Rattle.syntax_check.proofs.RunResults.{results}
use Rattle.syntax_check.proofs.Completeness.{schema_runs}
use Rattle.syntax_check.proofs.Soundness.{schema_soundness}
use Rattle.syntax_check.proofs.Stepwise.{ok_one, clash, shorter, same_split, run_prefix, run_more, last_step, step_ok}
use Rattle.syntax_check.proofs.NameCounts.{count_append, count_itself, NamesWithinCounts}
use Rattle.syntax_check.proofs.ResultNames.{spelled, named, results_more, start_is_end, named_form, in_schema, schema_turn, opening_turn, marking_turn, after_result_turn, between_start, start_between, marked_between, not_at_result, begins, begins_with, heads_name, start_goes, start_stops, marked_stops, mark_leads, name_leads, result_goes}
use Rattle.syntax_check.proofs.JudgePositions.{awaits_not, awaits_start, awaits_marked}
use Rattle.syntax_check.proofs.Prefixes.{runs_without, goes_on, came, no_way}
use Rattle.syntax_check.proofs.FirstRefusal.{below_or, below_or_same}
use Rattle.syntax_check.proofs.ConstructorCounts.{schemas, CountsSoFar, Room, counts_turn, counts_goes, counts_of}

-- a place in a declaration: where that begins, and where its name stands, once that is there
pub record Inside (ls prefix : List Lexeme) (place begun : ℕ) (is_mark : Bool) : Type 0 where
  pub start : ℕ
  pub before : start < place
  pub earlier : SchemaView
  pub whole : Declarations unbounded (take start ls) earlier
  pub last : (later : ℕ) (s : SchemaView) → start < later → later ≤ place → Declarations unbounded (take later ls) s → ⊥
  pub mark : is_mark ≡ true → (place ≡ start + 1) × ((others : List Lexeme) × (prefix ≡ others ++ sign Bang ∷ []))
  pub name : is_mark ≡ false → (begun < place) × ((offset : ℕ) × NameOffset (drop start ls) offset
      × (begun ≡ start + offset))

-- the machine without bounds stands after the prefix
pub record PrefixFacts (ls prefix rest : List Lexeme) (st : State) (place begun : ℕ)
    (names : List (List ℕ)) : Type 0 where
  pub whole : ls ≡ prefix ++ rest
  pub size : length prefix ≡ place
  pub taken : run unbounded (schema_start unbounded) prefix ≡ Ok st
  pub phase : in_schema (phase_of st) ≡ true
  pub all_names : names ≡ results unbounded (schema_start unbounded) prefix
  pub counts : CountsSoFar (phase_of st) names
  pub inside : is_start st ≡ false → Inside ls prefix place begun (is_marked st)
  pub none_yet : (later : ℕ) → later < place → Exceeds Declarations unbounded WithinCounts ls later → ⊥

pub take_prefix : (ls prefix rest : List Lexeme) (place : ℕ) → ls ≡ prefix ++ rest → length prefix ≡ place
    → take place ls ≡ prefix
take_prefix ls prefix rest place whole size = ap (λ n. take n ls) (sym size) ∙ ap (take (length prefix)) whole
    ∙ take-append_seam prefix rest

pub drop_prefix : (ls prefix rest : List Lexeme) (place : ℕ) → ls ≡ prefix ++ rest → length prefix ≡ place
    → drop place ls ≡ rest
drop_prefix ls prefix rest place whole size = ap (λ n. drop n ls) (sym size) ∙ ap (drop (length prefix)) whole
    ∙ drop-append_seam prefix rest

pub one_longer : (prefix : List Lexeme) (t : Lexeme) (place : ℕ) → length prefix ≡ place
    → length (prefix ++ t ∷ []) ≡ place + 1
one_longer prefix t place size = omega (arith, size, length-append prefix (t ∷ []))

pub one_further : (ls prefix ts : List Lexeme) (t : Lexeme) → ls ≡ prefix ++ t ∷ ts → ls ≡ (prefix ++ t ∷ []) ++ ts
one_further ls prefix ts t whole = whole ∙ sym (append_assoc prefix (t ∷ []) ts)

-- without bounds no state holds a count
pub countless : (prefix : List Lexeme) (st : State) → run unbounded (schema_start unbounded) prefix ≡ Ok st
    → without every st ≡ st
countless prefix st e = ok_one (without every st) st (sym (runs_without schemas every unbounded prefix st e) ∙ e)

-- a step on a lexeme of the same form
pub form_step : (prefix : List Lexeme) (st next : State) (t : Lexeme) → run unbounded (schema_start unbounded)
    prefix ≡ Ok st → step unbounded st t ≡ Ok next → step unbounded st (form_of t) ≡ Ok next
form_step prefix st next t e h =
    ap (λ z. step unbounded z (form_of t)) (sym (countless prefix st e)) ∙ (step_ok unbounded st next t h).1 every
    ∙ ap (λ z. Ok z) (countless (prefix ++ t ∷ []) next (run_more unbounded (schema_start unbounded) st next prefix t
    e h))

-- ---- one lexeme more

module _ {ls prefix rest : List Lexeme} {st : State} {place begun : ℕ} {names : List (List ℕ)} (t : Lexeme)
    (g : PrefixFacts ls prefix rest st place begun names) where
  pub next_taken : (next : State) → step unbounded st t ≡ Ok next → run unbounded (schema_start unbounded)
      (prefix ++ t ∷ []) ≡ Ok next
  next_taken next h = run_more unbounded (schema_start unbounded) st next prefix t g.taken h

  pub next_turn : (next : State) → step unbounded st t ≡ Ok next → Turn (phase_of st) (is_result st) (phase_of next)
  next_turn next h = (step_ok unbounded st next t h).2.turn

  pub next_phase : (next : State) → step unbounded st t ≡ Ok next → in_schema (phase_of next) ≡ true
  next_phase next h = schema_turn (phase_of st) (phase_of next) (is_result st) (next_turn next h) g.phase

  pub next_counts : (next : State) → step unbounded st t ≡ Ok next → Room (phase_of st) (is_result st) t names
      → CountsSoFar (phase_of next) (names ++ named st t)
  next_counts next h room = counts_turn (phase_of st) (phase_of next) (is_result st) t names (next_turn next h) g.phase g.counts
      room

  pub next_names : (next : State) → step unbounded st t ≡ Ok next → names ++ named st t ≡ results unbounded
      (schema_start unbounded) (prefix ++ t ∷ [])
  next_names next h = ap (λ z. z ++ named st t) g.all_names
      ∙ sym (results_more unbounded prefix t (schema_start unbounded) st next g.taken h)

  pub next_goes : (next : State) → step unbounded st t ≡ Ok next → Room (phase_of st) (is_result st) t names
      → CanGoOn Declarations unbounded WithinCounts (prefix ++ t ∷ [])
  next_goes next h room = counts_goes (prefix ++ t ∷ []) next (names ++ named st t) (next_taken next h) (next_phase next h)
      (next_names next h) (next_counts next h room)

-- a number begins no declaration, and is no result
differ_words : (n : Option ℕ) (x : List ℕ) → number n ≡ word x → ⊥
differ_words n x e = cc

room_number : (st next : State) (names : List (List ℕ)) (n : Option ℕ) → step unbounded st (number n) ≡ Ok next
    → Room (phase_of st) (is_result st) (number n) names
room_number st next names n h = (
  λ ph full. clash (step unbounded st (number n)) next Syntax h (start_stops unbounded st (number n)
      (between_start st ph) refl),
  λ flag x e. absurd (differ_words n x e),
)

-- only a number has another form
same_form : (t : Lexeme) → (form_of t ≡ t) ⊎ ((n : Option ℕ) × (t ≡ number n))
same_form (word x) = inl refl
same_form blank = inl refl
same_form (number n) = inr (n, refl)
same_form (tag b) = inl refl
same_form (sign s) = inl refl
same_form other = inl refl

module _ {ls prefix ts : List Lexeme} {st : State} {place begun : ℕ} {names : List (List ℕ)} (t : Lexeme)
    (g : PrefixFacts ls prefix (t ∷ ts) st place begun names) where
  pub begins_at_place : is_start st ≡ true → Begins ls place place
  begins_at_place e =
      let w = schema_soundness unbounded prefix st g.taken (sym (start_is_end st) ∙ e) in
      let P : List Lexeme → Type 0 = λ z. Declarations unbounded z w.0 in
      record {
        before = omega arith;
        earlier = w.0;
        whole = subst P (sym (take_prefix ls prefix (t ∷ ts) place g.whole g.size)) w.1;
        last = λ later s a b d. absurd
            (omega arith);
      }

  -- a name stands at the prefix's end
  pub name_at_place : heads t ≡ true → NameOffset (drop place ls) 0
  name_at_place h =
      let P : List Lexeme → Type 0 = λ z. NameOffset z 0 in
      subst P (sym (drop_prefix ls prefix (t ∷ ts) place g.whole g.size)) (at_once (heads_name t h).1)

  -- the declaration that the lexeme belongs to, by its name
  pub declares_at_place : is_start st ≡ true → heads t ≡ true → Declares ls place place
  declares_at_place e h = record {
    start = place;
    begins = begins_at_place e;
    offset = 0;
    name = name_at_place h;
    is_place = omega arith;
  }

  pub declares : is_start st ≡ false → is_marked st ≡ false → Declares ls begun place
  declares e f =
      let i = g.inside e in
      let n = i.name f in
      record {
        start = i.start;
        begins = record { before = omega (arith, i.before); earlier = i.earlier; whole = i.whole; last = i.last };
        offset = n.1.0;
        name = n.1.1;
        is_place = n.1.2;
      }

  not_both : (c : Bool) → c ≡ true → c ≡ false → ⊥
  not_both c x y = cc

  begun_at_place : awaits_name st ≡ true → (if awaits_name st then place else begun) ≡ place
  begun_at_place e = ap (λ b. if b then place else begun) e

  begun_before : awaits_name st ≡ false → (if awaits_name st then place else begun) ≡ begun
  begun_before e = ap (λ b. if b then place else begun) e

  -- no declaration ends with the lexeme
  not_ended : (next : State) → step unbounded st t ≡ Ok next → is_start next ≡ false → (later : ℕ) (s : SchemaView)
      → later ≡ place + 1 → Declarations unbounded (take later ls) s → ⊥
  not_ended next h ahead later s same w =
      let P : ℕ → Type 0 = λ n. Declarations unbounded (take n ls) s in
      let Q : List Lexeme → Type 0 = λ z. Declarations unbounded z s in
      let k = schema_runs unbounded (prefix ++ t ∷ []) s
      (subst Q (take_prefix ls (prefix ++ t ∷ []) ts (place + 1) (one_further ls prefix ts t g.whole)
      (one_longer prefix t place g.size)) (subst P same w)) in
      not_both (is_start next) (start_is_end next ∙ ap is_schema_end
      (ok_one next k.0 (sym (next_taken t g next h) ∙ k.1)) ∙ k.2) ahead

  -- a declaration that is begun goes on to be the last
  still_last : (next : State) → step unbounded st t ≡ Ok next → is_start next ≡ false → (start : ℕ)
      → ((later : ℕ) (s : SchemaView) → start < later → later ≤ place → Declarations unbounded (take later ls) s → ⊥)
      → (later : ℕ) (s : SchemaView) → start < later → later ≤ place + 1 → Declarations unbounded (take later ls) s → ⊥
  still_last next h ahead start earlier later s x y w = go (below_or place later)
    where
      go : (place < later) ⊎ (later ≤ place) → ⊥
      go (inl far) = not_ended next h ahead later s (omega arith) w
      go (inr near) = earlier later s x near w

  -- a declaration begins with a `!` or with its name
  first_inside : (next : State) → step unbounded st t ≡ Ok next → is_start next ≡ false → is_start st ≡ true
      → Inside ls (prefix ++ t ∷ []) (place + 1) (if awaits_name st then place else begun) (is_marked next)
  first_inside next h ahead e = record {
    start = place;
    before = omega arith;
    earlier = b.earlier;
    whole = b.whole;
    last = still_last next h ahead place b.last;
    mark = λ m. (refl, (prefix, ap (λ z. prefix ++ z ∷ []) (is_bang m opened)));
    name = λ m. let k = begun_at_place (awaits_start st e) in (omega (arith, k), (0, name_at_place (is_name m opened), omega (arith, k)));
  }
    where
      b : Begins ls place place
      b = begins_at_place e

      begins_is : (c : Bool) → begins t ≡ c → c ≡ true
      begins_is true f = refl
      begins_is false f = absurd (clash (step unbounded st t) next Syntax h (start_stops unbounded st t e f))

      opened : (t ≡ sign Bang) ⊎ (heads t ≡ true)
      opened = begins_with t (begins_is (begins t) refl)

      is_bang : is_marked next ≡ true → (t ≡ sign Bang) ⊎ (heads t ≡ true) → t ≡ sign Bang
      is_bang m (inl x) = x
      is_bang m (inr x) = absurd (not_both (is_marked next) m (name_leads unbounded st next t e x h))

      is_name : is_marked next ≡ false → (t ≡ sign Bang) ⊎ (heads t ≡ true) → heads t ≡ true
      is_name m (inl x) = absurd (not_both (is_marked next) (mark_leads unbounded st next t e x h) m)
      is_name m (inr x) = x

  further_inside : (next : State) → step unbounded st t ≡ Ok next → is_start next ≡ false → is_start st ≡ false
      → Inside ls (prefix ++ t ∷ []) (place + 1) (if awaits_name st then place else begun) (is_marked next)
  further_inside next h ahead e = record {
    start = i.start;
    before = omega (arith, i.before);
    earlier = i.earlier;
    whole = i.whole;
    last = still_last next h ahead i.start i.last;
    mark = λ m. absurd (not_both (is_start st) (between_start st (marking_turn (phase_of st) (phase_of next)
        (is_result st) (next_turn t g next h) g.phase (marked_between next (next_phase t g next h) m))) e);
    name = λ m. named_at (is_marked st) refl;
  }
    where
      i : Inside ls prefix place begun (is_marked st)
      i = g.inside e

      head : is_marked st ≡ true → (c : Bool) → heads t ≡ c → c ≡ true
      head m true f = refl
      head m false f = absurd (clash (step unbounded st t) next Syntax h (marked_stops unbounded st t m f))

      -- after the `!`
      after_it : (others : List Lexeme) (x : Option (List ℕ)) → Heads t x → prefix ≡ others ++ sign Bang ∷ []
          → place ≡ i.start + 1 → NameOffset (drop i.start ls) 1
      after_it others x hd whole is =
          let P : List Lexeme → Type 0 = λ z. NameOffset z 1 in
          let all : ls ≡ others ++ sign Bang ∷ t ∷ ts = g.whole ∙ ap (λ z. z ++ t ∷ ts) whole
          ∙ append_assoc others (sign Bang ∷ []) (t ∷ ts) in
          let size : length others ≡ i.start = omega (
            arith,
            g.size,
            ap length whole,
            length-append others (sign Bang
                ∷ []),
            is,
          ) in
          subst P (sym (drop_prefix ls others (sign Bang ∷ t ∷ ts) i.start all size)) (after_mark hd)

      named_at : (m : Bool) → is_marked st ≡ m → ((if awaits_name st then place else begun) < place + 1)
          × ((offset : ℕ) × NameOffset (drop i.start ls) offset
          × ((if awaits_name st then place else begun) ≡ i.start + offset))
      named_at true m =
          let k = begun_at_place (awaits_marked st m) in
          let b = i.mark m in
          let n = heads_name t (head m (heads t) refl) in
          (omega (arith, k), (1, after_it b.1.0 n.0 n.1 b.1.1 b.0, omega (arith, k, b.0)))
      named_at false m =
          let k = begun_before (awaits_not st e m) in
          let n = i.name m in
          (omega (arith, k, n.0), (n.1.0, n.1.1, k ∙ n.1.2))

  next_inside : (next : State) → step unbounded st t ≡ Ok next → is_start next ≡ false → (b : Bool) → is_start st ≡ b
      → Inside ls (prefix ++ t ∷ []) (place + 1) (if awaits_name st then place else begun) (is_marked next)
  next_inside next h ahead true e = first_inside next h ahead e
  next_inside next h ahead false e = further_inside next h ahead e

  -- what exceeds at this lexeme
  pub at_place_exceeds : Exceeds Declarations unbounded WithinCounts ls place → CanGoOn Declarations unbounded IsAny
      (ended prefix (form_of t)) × (CanGoOn Declarations unbounded WithinCounts (ended prefix (form_of t)) → ⊥)
  at_place_exceeds s =
      let k = same_split prefix s.split.prefix ts s.split.later t s.split.next (sym g.whole ∙ s.split.whole)
      (g.size ∙ sym s.split.size) in
      let A : List Lexeme → Lexeme → Type 0 = λ a b. CanGoOn Declarations unbounded IsAny (ended a (form_of b))
      × (CanGoOn Declarations unbounded WithinCounts (ended a (form_of b)) → ⊥) in
      let B : Lexeme → Type 0 = λ b. A s.split.prefix b in
      let C : List Lexeme → Type 0 = λ a. A a t in
      subst C (sym k.0) (subst B (sym k.1) (s.with_it, s.too_much))

  form_counts : (next : State) → step unbounded st t ≡ Ok next → Room (phase_of st) (is_result st) t names
      → CanGoOn Declarations unbounded WithinCounts (ended prefix (form_of t))
  form_counts next h room =
      let f = form_step prefix st next t g.taken h in
      counts_goes (prefix ++ form_of t ∷ []) next (names ++ named st t) (run_more unbounded (schema_start unbounded) st
      next prefix (form_of t) g.taken f) (next_phase t g next h)
      (ap (λ z. z ++ named st t) g.all_names ∙ ap (λ z. results unbounded (schema_start unbounded) prefix ++ z)
      (sym (named_form st t)) ∙ sym (results_more unbounded prefix (form_of t) (schema_start unbounded) st next
      g.taken f))
      (next_counts t g next h room)

  pub facts_further : (next : State) → step unbounded st t ≡ Ok next → Room (phase_of st) (is_result st) t names
      → PrefixFacts ls (prefix ++ t ∷ []) ts next (place + 1) (if awaits_name st then place else begun)
      (names ++ named st t)
  facts_further next h room = record {
    whole = one_further ls prefix ts t g.whole;
    size = one_longer prefix t place g.size;
    taken = next_taken t g next h;
    phase = next_phase t g next h;
    all_names = next_names t g next h;
    counts = next_counts t g next h room;
    inside = λ ahead. next_inside next h ahead (is_start st) refl;
    none_yet = λ later x s. none later (below_or later place) x s;
  }
    where
      at_place : (later : ℕ) → later ≡ place → Exceeds Declarations unbounded WithinCounts ls later → ⊥
      at_place later same s =
          let P : ℕ → Type 0 = Exceeds Declarations unbounded WithinCounts ls in
          (at_place_exceeds (subst P same s)).1 (form_counts next h room)

      none : (later : ℕ) → (later < place) ⊎ (place ≤ later) → later < place + 1 → Exceeds Declarations unbounded
          WithinCounts ls later → ⊥
      none later (inl near) x s = g.none_yet later near s
      none later (inr far) x s = at_place later (omega arith) s

  -- ---- a lexeme with which nothing goes on

  -- no lexeme after it is one too many, as no prefix goes so far
  past_stop : (why : Cause) (later : ℕ) → step unbounded st t ≡ Err why → place < later → Exceeds Declarations
      unbounded WithinCounts ls later → ⊥
  past_stop why later h far s =
      let k = shorter prefix s.split.prefix ts (s.split.next ∷ s.split.later) t (sym g.whole ∙ s.split.whole)
      (omega (arith, g.size, s.split.size)) in
      let w = came schemas unbounded WithinCounts s.split.prefix s.so_far in
      let P : List Lexeme → Type 0 = λ z. run unbounded (schema_start unbounded) z ≡ Ok w.0 in
      let v = run_prefix unbounded (schema_start unbounded) (prefix ++ t ∷ []) k.0 w.0
      (subst P (k.1 ∙ sym (append_assoc prefix (t ∷ []) k.0)) w.1) in
      clash (step unbounded st t) v.0 why (last_step unbounded (schema_start unbounded) st v.0 prefix t g.taken v.1) h

  stop_at_place : (why : Cause) → step unbounded st t ≡ Err why → Exceeds Declarations unbounded WithinCounts ls place
      → ⊥
  stop_at_place why h s = go (same_form t)
    where
      k : CanGoOn Declarations unbounded IsAny (ended prefix (form_of t))
          × (CanGoOn Declarations unbounded WithinCounts (ended prefix (form_of t)) → ⊥)
      k = at_place_exceeds s

      go : (form_of t ≡ t) ⊎ ((n : Option ℕ) × (t ≡ number n)) → ⊥
      go (inl e) = let P : Lexeme → Type 0 = λ z. CanGoOn Declarations unbounded IsAny (ended prefix z) in
          no_way schemas unbounded IsAny prefix st t why g.taken h (subst P e k.0)
      go (inr n) =
          let w = came schemas unbounded IsAny (ended prefix (form_of t)) k.0 in
          let form : form_of t ≡ number (Some 0) = ap form_of n.1 in
          let v = last_step unbounded (schema_start unbounded) st w.0 prefix (form_of t) g.taken w.1 in
          let P : Lexeme → Type 0 = λ z. step unbounded st z ≡ Ok w.0 in
          let Q : Lexeme → Type 0 = λ z. CanGoOn Declarations unbounded WithinCounts (ended prefix z) in
          let f = subst P form v in
          k.1 (subst Q (sym form) (next_goes (number (Some 0)) g w.0 f (room_number st w.0 names (Some 0) f)))

  -- where nothing goes on, no declaration is one too many
  pub none_stopped : (why : Cause) (later : ℕ) → step unbounded st t ≡ Err why
      → Exceeds Declarations unbounded WithinCounts
      ls later → ⊥
  none_stopped why later h s = go (below_or later place)
    where
      far : (place < later) ⊎ (place ≡ later) → ⊥
      far (inl x) = past_stop why later h x s
      far (inr x) = let P : ℕ → Type 0 = Exceeds Declarations unbounded WithinCounts ls in stop_at_place why h (subst P (sym x) s)

      go : (later < place) ⊎ (place ≤ later) → ⊥
      go (inl x) = g.none_yet later x s
      go (inr x) = far (below_or_same place later x)

  -- ---- one constructor too many

  exceeds_at_place : (next : State) → step unbounded st t ≡ Ok next → form_of t ≡ t
      → (CanGoOn Declarations unbounded WithinCounts (ended prefix t) → ⊥)
      → Exceeds Declarations unbounded WithinCounts ls place
  exceeds_at_place next h form never = record {
    split = record { prefix = prefix; next = t; later = ts; whole = g.whole; size = g.size };
    so_far = counts_goes prefix st names g.taken g.phase g.all_names g.counts;
    with_it = let P : Lexeme → Type 0 = λ z. CanGoOn Declarations unbounded IsAny (ended prefix z) in
        subst P (sym form) (goes_on schemas unbounded (prefix ++ t ∷ []) next (next_taken t g next h));
    too_much = let P : Lexeme → Type 0 = λ z. CanGoOn Declarations unbounded WithinCounts (ended prefix z) → ⊥ in
        subst P (sym form) never;
  }

  -- what a text within the counts says of the names with this lexeme's
  counts_with : (next : State) → step unbounded st t ≡ Ok next
      → CanGoOn Declarations unbounded WithinCounts (ended prefix t)
      → (rest : List (List ℕ)) × NamesWithinCounts ((names ++ named st t) ++ rest)
      × (unnamed (phase_of next) ≡ 1 → 1 ≤ length rest)
  counts_with next h c =
      let k = counts_of (prefix ++ t ∷ []) next (next_taken t g next h) c in
      let P : List (List ℕ) → Type 0 = λ z. NamesWithinCounts (z ++ k.0) in
      (k.0, subst P (sym (next_names t g next h)) k.1, k.2)

  pub too_many_in_all : is_start st ≡ true → begins t ≡ true → form_of t ≡ t → length names ≡ 4096
      → Exceeds Declarations unbounded WithinCounts ls place
  too_many_in_all start head form full =
      let n = start_goes unbounded st t start head in
      exceeds_at_place n.0 n.1 form (λ c.
      let k = counts_with n.0 n.1 c in
      let more = k.2 (opened (phase_of n.0) (opening_turn (phase_of st) (phase_of n.0) (is_result st)
      (next_turn t g n.0 n.1) (start_between st g.phase start))) in
      absurd (omega (
        arith,
        full,
        more,
        k.1.all,
        length-append (names ++ named st t) k.0,
        length-append names
            (named st t),
      )))
    where
      opened : (ph : Phase) → (ph ≡ before) ⊎ (ph ≡ marked) → unnamed ph ≡ 1
      opened ph (inl e) = ap unnamed e
      opened ph (inr e) = ap unnamed e

  pub too_many_of_one : (x : List ℕ) → is_result st ≡ true → t ≡ word x → count_of x names ≡ 256 → Exceeds Declarations
      unbounded WithinCounts ls place
  too_many_of_one x result is full =
      let P : Lexeme → Type 0 = λ z. IsOk (step unbounded st z) in
      let n = subst P (sym is) (result_goes unbounded st x result) in
      exceeds_at_place n.0 n.1 (ap form_of is ∙ sym is) (λ c.
      let k = counts_with n.0 n.1 c in
      let one : named st t ≡ x ∷ [] = ap (λ z. if z then spelled t else []) result ∙ ap spelled is in
      let counted : count_of x (named st t) ≡ 1 = ap (λ z. count_of x z) one ∙ count_itself x in
      absurd (omega (
        arith,
        full,
        counted,
        k.1.of_one x,
        count_append x (names ++ named st t) k.0,
        count_append x names
            (named st t),
      )))

-- ---- after a result

-- a declaration that is one too many begins only later
pub after_result_far : (rest ls prefix : List Lexeme) (st : State) (place begun : ℕ) (names : List (List ℕ))
    (q later : ℕ)
    → PrefixFacts ls prefix rest st place begun names → phase_of st ≡ after_result →
    Exceeds Declarations unbounded WithinCounts ls later → Declares ls q later → place < q
after_result_far [] ls prefix st place begun names q later g ph s d =
    absurd (g.none_yet later (omega (
      arith,
      g.size,
      s.split.size,
      ap length g.whole,
      length-append prefix [],
      ap length s.split.whole,
      length-append s.split.prefix (s.split.next ∷ s.split.later),
    )) s)
after_result_far (t ∷ ts) ls prefix st place begun names q later g ph s d =
    go (step unbounded st t) refl (λ next h gn p. after_result_far ts ls (prefix ++ t ∷ []) next (place + 1) _ _ q later gn p
    s d)
  where
    differ_1 : (a : Phase) → a ≡ after_result → a ≡ between → ⊥
    differ_1 a e f = cc

    differ_2 : (a : Phase) → a ≡ after_result → a ≡ before → ⊥
    differ_2 a e f = cc

    differ_3 : (b : Bool) → b ≡ false → b ≡ true → ⊥
    differ_3 b e f = cc

    room : Room (phase_of st) (is_result st) t names
    room = (
      λ e. absurd (differ_1 (phase_of st) ph e),
      λ e. absurd (differ_3 (is_result st) (not_at_result st g.phase (differ_2 (phase_of st) ph)) e),
    )

    -- a declaration ends with this lexeme
    ended_at_place : (next : State) → step unbounded st t ≡ Ok next → phase_of next ≡ between → place < q
    ended_at_place next h p =
        let w = schema_soundness unbounded (prefix ++ t ∷ []) next (next_taken t g next h) (sym (start_is_end next)
        ∙ between_start next p) in
        let P : List Lexeme → Type 0 = λ z. Declarations unbounded z w.0 in
        let at_place = subst P (sym (take_prefix ls (prefix ++ t ∷ []) ts (place + 1) (one_further ls prefix ts t g.whole)
        (one_longer prefix t place g.size))) w.1 in
        after at_place (below_or d.start (place + 1)) (below_or later (place + 1))
      where
        after : {s : SchemaView} → Declarations unbounded (take (place + 1) ls) s → (d.start < place + 1)
            ⊎ (place + 1 ≤ d.start) → (later < place + 1) ⊎ (place + 1 ≤ later) → place < q
        after w (inr x) y = omega (arith, d.is_place)
        after w (inl x) (inl y) = absurd ((facts_further t g next h room).none_yet later y s)
        after {s = tree} w (inl x) (inr y) = absurd (d.begins.last (place + 1) tree x y w)

    go : (o : Outcome) → step unbounded st t ≡ o → ((next : State) → step unbounded st t ≡ Ok next
        → PrefixFacts ls (prefix ++ t ∷ []) ts next (place + 1) (if awaits_name st then place else begun)
        (names ++ named st t)
        → phase_of next ≡ after_result → place + 1 < q) → place < q
    go (Err why) h ih = absurd (none_stopped t g why later h s)
    go (Ok next) h ih = turns (after_result_turn (phase_of st) (phase_of next) (is_result st) (next_turn t g next h) ph)
      where
        turns : (phase_of next ≡ after_result) ⊎ (phase_of next ≡ between) → place < q
        turns (inl p) = let k = ih next h (facts_further t g next h room) p in omega arith
        turns (inr p) = ended_at_place next h p
