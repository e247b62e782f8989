-- The prefixes of schemas that can go on with constructors within the counts.
use Rattle.std.proofs.Common.{◌≡◌, ◌⊎◌, inl, inr, ℕ, ◌+◌, ◌≤◌, Bool, true, if◌then◌else◌, List, [], ◌∷◌, ◌++◌, length, Ok, refl, sym, ap, ◌∙◌, subst, arith, length-append, append-nil}
use Rattle.tlb_syntax.specs.Lexeme.{Lexeme, word, blank, number, tag, sign, other}
use Rattle.tlb_syntax.specs.Grammar.{Bounds, Declarations}
use Rattle.tlb_syntax.specs.Written.{CanGoOn, WithinCounts, unbounded}
use Rattle.syntax_check.specs.Machine.{State, run, schema_start, is_schema_end}
use Rattle.syntax_check.specs.Judge.{is_result, count_of}
use Rattle.syntax_check.proofs.Phase.{Phase, between, marked, before, after_result, unnamed, phase_of, Turn, opening, marking, heading, within, naming, further, closing, in_a_word, nowhere}
use Rattle.syntax_check.proofs.RunResults.{results, results_on}
use Rattle.syntax_check.proofs.Completeness.{schema_runs, schema_results}
use Rattle.syntax_check.proofs.Soundness.{schema_soundness}
use Rattle.syntax_check.proofs.Endings.{SchemaEnding, schema_ending}
use Rattle.syntax_check.proofs.Stepwise.{ok_one, run_prefix, run_join, one_run, step_ok}
use Rattle.syntax_check.proofs.NameCounts.{count_more, fresh, count_fresh, NamesWithinCounts, counts_types, types_counts}
use Rattle.syntax_check.proofs.ResultNames.{spelled, named, results_one, end_without, start_is_end, in_schema, schema_turn, after_result_turn, four, between_start, not_at_result, one_result}
use Rattle.syntax_check.proofs.Prefixes.{Language}

abbrev pub schemas : Language Declarations
schemas = record {
  start = schema_start;
  is_end = is_schema_end;
  runs = schema_runs;
  soundness = schema_soundness;
  ending = λ m prefix st e. let k = schema_ending m prefix st e [] in (k.0, k.1, k.2, k.3);
  start_without = λ f m. refl;
  end_without = end_without;
}

-- ---- names within the limits

pub record CountsSoFar (ph : Phase) (names : List (List ℕ)) : Type 0 where
  pub all : length names + unnamed ph ≤ 4096
  pub of_one : (x : List ℕ) → count_of x names ≤ 256

-- one more lexeme leaves them within the limits
abbrev pub Room : Phase → Bool → Lexeme → List (List ℕ) → Type 0
Room ph flag t names = (ph ≡ between → length names ≡ 4096 → ⊥) × (flag ≡ true → (x : List ℕ) → t ≡ word x
    → count_of x names ≡ 256 → ⊥)

counts_same : (a b : Phase) (names : List (List ℕ)) → CountsSoFar a names → unnamed b ≤ unnamed a
    → CountsSoFar b (names ++ [])
counts_same a b names h e = subst (CountsSoFar b) (sym (append-nil names))
    (record { all = omega (arith, h.all); of_one = h.of_one })

counts_named : (t : Lexeme) (names : List (List ℕ)) → CountsSoFar before names
    → ((x : List ℕ) → t ≡ word x → count_of x names ≡ 256 → ⊥) → CountsSoFar after_result (names ++ spelled t)
counts_named (word x) names h room = record {
  all = omega (arith, h.all, length-append names (x ∷ []));
  of_one = λ y. go y (count_more y x names);
}
  where
    below_256 : (n : ℕ) → n ≤ 256 → (n ≡ 256 → ⊥) → n + 1 ≤ 256
    below_256 n a b = grind arith

    go : (y : List ℕ) → ((y ≡ x) × (count_of y (names ++ x ∷ []) ≡ count_of x names + 1))
        ⊎ (count_of y (names ++ x ∷ []) ≡ count_of y names) → count_of y (names ++ x ∷ []) ≤ 256
    go y (inl e) = let k = below_256 (count_of x names) (h.of_one x) (room x refl) in omega (arith, e.1)
    go y (inr e) = omega (arith, e, h.of_one y)
counts_named blank names h room = counts_same before after_result names h (omega arith)
counts_named (number n) names h room = counts_same before after_result names h (omega arith)
counts_named (tag b) names h room = counts_same before after_result names h (omega arith)
counts_named (sign s) names h room = counts_same before after_result names h (omega arith)
counts_named other names h room = counts_same before after_result names h (omega arith)

counts_opened : (b : Phase) (t : Lexeme) (names : List (List ℕ)) → unnamed b ≡ 1 → CountsSoFar between names
    → (length names ≡ 4096 → ⊥) → CountsSoFar b (names ++ [])
counts_opened b t names one h room = subst (CountsSoFar b) (sym (append-nil names))
    (record { all = below_4096 (length names) (unnamed b) one (omega (arith, h.all)) room; of_one = h.of_one })
  where
    below_4096 : (n k : ℕ) → k ≡ 1 → n ≤ 4096 → (n ≡ 4096 → ⊥) → n + k ≤ 4096
    below_4096 n k e a b = grind arith

pub counts_turn : (a b : Phase) (flag : Bool) (t : Lexeme) (names : List (List ℕ)) → Turn a flag b → in_schema a ≡ true
    → CountsSoFar a names → Room a flag t names → CountsSoFar b (names ++ (if flag then spelled t else []))
counts_turn _ _ _ t names opening e h room = counts_opened before t names refl h (room.0 refl)
counts_turn _ _ _ t names marking e h room = counts_opened marked t names refl h (room.0 refl)
counts_turn _ _ _ t names heading e h room = counts_same marked before names h (omega arith)
counts_turn _ _ _ t names within e h room = counts_same before before names h (omega arith)
counts_turn _ _ _ t names naming e h room = counts_named t names h (room.1 refl)
counts_turn _ _ _ t names further e h room = counts_same after_result after_result names h (omega arith)
counts_turn _ _ _ t names closing e h room = counts_same after_result between names h (omega arith)
counts_turn _ _ _ t names in_a_word e h room = cc
counts_turn _ _ _ t names nowhere e h room = cc

-- ---- endings

pub schema_run : (m : Bounds) (ls : List Lexeme) (st last : State) → run m st ls ≡ Ok last
    → in_schema (phase_of st) ≡ true → in_schema (phase_of last) ≡ true
schema_run m [] st last e h = ap (λ z. in_schema (phase_of z)) (sym (ok_one st last e)) ∙ h
schema_run m (t ∷ ts) st last e h =
    let k = run_prefix m st (t ∷ []) ts last e in
    let s = step_ok m st k.0 t (one_run m st k.0 t k.1) in
    schema_run m ts k.0 last k.2 (schema_turn (phase_of st) (phase_of k.0) (is_result st) s.2.turn h)

differ_before : (ph : Phase) → ph ≡ after_result → ph ≡ before → ⊥
differ_before ph a b = cc

differ_between : (ph : Phase) → ph ≡ after_result → ph ≡ between → ⊥
differ_between ph a b = cc

-- after a result a declaration ends without a further one
quiet : (more : List Lexeme) (st last : State) → run unbounded st more ≡ Ok last → is_schema_end last ≡ true
    → in_schema (phase_of st) ≡ true → (phase_of st ≡ after_result) ⊎ (phase_of st ≡ between) →
    (rest : List Lexeme) × (done : State) × (run unbounded st rest ≡ Ok done) × (is_schema_end done ≡ true)
    × (results unbounded st rest ≡ [])
quiet [] st last e h w ph = ([], st, refl, ap is_schema_end (ok_one st last e) ∙ h, refl)
quiet (t ∷ ts) st last e h w (inr ph) = ([], st, refl, sym (start_is_end st) ∙ between_start st ph, refl)
quiet (t ∷ ts) st last e h w (inl ph) =
    let k = run_prefix unbounded st (t ∷ []) ts last e in
    let s = one_run unbounded st k.0 t k.1 in
    let turn = (step_ok unbounded st k.0 t s).2.turn in
    let q = quiet ts k.0 last k.2 h (schema_turn (phase_of st) (phase_of k.0) (is_result st) turn w)
    (after_result_turn (phase_of st) (phase_of k.0) (is_result st) turn ph) in
    let none : named st t ≡ [] = ap (λ z. if z then spelled t else [])
    (not_at_result st w (differ_before (phase_of st) ph)) in (
      t ∷ q.0,
      q.1,
      run_join unbounded st k.0 q.1 (t ∷ []) q.0 k.1 q.2,
      q.3,
      results_on unbounded st (t ∷ []) q.0 k.0 k.1 ∙ ap (λ z. z ++ results unbounded k.0 q.0)
          (results_one unbounded st k.0 t s ∙ none) ∙ q.4,
    )

pub can_end : (prefix more : List Lexeme) (st last : State) → run unbounded (schema_start unbounded) prefix ≡ Ok st
    → run unbounded st more ≡ Ok last → is_schema_end last ≡ true →
    NamesWithinCounts (results unbounded (schema_start unbounded) prefix ++ results unbounded st more) → CanGoOn Declarations
    unbounded WithinCounts prefix
can_end prefix more st last e h ends counts =
    let w = schema_soundness unbounded (prefix ++ more) last (run_join unbounded (schema_start unbounded) st last prefix more
    e h) ends in
    let names = sym (schema_results unbounded (prefix ++ more) w.0 w.1) ∙ results_on unbounded (schema_start unbounded)
    prefix more st e in
    record { more = more; tree = w.0; kept = counts_types w.0 (subst NamesWithinCounts (sym names) counts); written = w.1 }

pub counts_goes : (prefix : List Lexeme) (st : State) (names : List (List ℕ)) → run unbounded (schema_start unbounded)
    prefix ≡ Ok st → in_schema (phase_of st) ≡ true → names ≡ results unbounded (schema_start unbounded) prefix
    → CountsSoFar (phase_of st) names →
    CanGoOn Declarations unbounded WithinCounts prefix
counts_goes prefix st names e w same counts = go (four (phase_of st) w)
  where
    all_names : List (List ℕ)
    all_names = results unbounded (schema_start unbounded) prefix

    counts_all : CountsSoFar (phase_of st) all_names
    counts_all = subst (CountsSoFar (phase_of st)) same counts

    none_more : (more : List Lexeme) → results unbounded st more ≡ []
        → NamesWithinCounts (all_names ++ results unbounded st more)
    none_more more n = subst NamesWithinCounts (sym (ap (λ z. all_names ++ z) n ∙ append-nil all_names))
        (record { all = omega (arith, counts_all.all); of_one = counts_all.of_one })

    quietly : (phase_of st ≡ after_result) ⊎ (phase_of st ≡ between)
        → CanGoOn Declarations unbounded WithinCounts prefix
    quietly ph =
        let k = schema_ending unbounded prefix st e [] in
        let q = quiet k.0 st k.1 k.2 k.3 w ph in
        can_end prefix q.0 st q.1 e q.2 q.3 (none_more q.0 q.4)

    one_more : unnamed (phase_of st) ≡ 1 → (more : List Lexeme) → results unbounded st more ≡ fresh all_names ∷ []
        → NamesWithinCounts (all_names ++ results unbounded st more)
    one_more ph more n = subst NamesWithinCounts (sym (ap (λ z. all_names ++ z) n)) (record {
      all = omega (arith, counts_all.all, ph, length-append all_names (fresh all_names ∷ []));
      of_one = λ x. each x (count_more x (fresh all_names) all_names);
    })
      where
        each : (x : List ℕ) → ((x ≡ fresh all_names) × (count_of x (all_names ++ fresh all_names ∷ []) ≡ count_of
            (fresh all_names) all_names + 1)) ⊎ (count_of x (all_names ++ fresh all_names ∷ []) ≡ count_of x all_names)
            →
            count_of x (all_names ++ fresh all_names ∷ []) ≤ 256
        each x (inl h) = omega (arith, h.1, count_fresh all_names)
        each x (inr h) = omega (arith, h, counts_all.of_one x)

    named_later : unnamed (phase_of st) ≡ 1 → CanGoOn Declarations unbounded WithinCounts prefix
    named_later ph = ends k.4
      where
        k : SchemaEnding unbounded (fresh all_names) st
        k = schema_ending unbounded prefix st e (fresh all_names)

        ends : (results unbounded st k.0 ≡ [] ⊎ results unbounded st k.0 ≡ fresh all_names ∷ []) → CanGoOn Declarations
            unbounded WithinCounts prefix
        ends (inl n) = can_end prefix k.0 st k.1 e k.2 k.3 (none_more k.0 n)
        ends (inr n) = can_end prefix k.0 st k.1 e k.2 k.3 (one_more ph k.0 n)

    go : (phase_of st ≡ between) ⊎ ((phase_of st ≡ marked) ⊎ ((phase_of st ≡ before) ⊎ (phase_of st ≡ after_result)))
        → CanGoOn Declarations unbounded WithinCounts prefix
    go (inl ph) = quietly (inr ph)
    go (inr (inr (inr ph))) = quietly (inl ph)
    go (inr (inl ph)) = named_later (ap unnamed ph)
    go (inr (inr (inl ph))) = named_later (ap unnamed ph)

-- what a text within the counts says of a prefix of it
pub counts_of : (prefix : List Lexeme) (st : State) → run unbounded (schema_start unbounded) prefix ≡ Ok st
    → CanGoOn Declarations unbounded WithinCounts prefix →
    (rest : List (List ℕ)) × NamesWithinCounts (results unbounded (schema_start unbounded) prefix ++ rest)
    × (unnamed (phase_of st) ≡ 1 → 1 ≤ length rest)
counts_of prefix st e c =
    let k = schema_runs unbounded (prefix ++ c.more) c.tree c.written in
    let w = run_prefix unbounded (schema_start unbounded) prefix c.more k.0 k.1 in
    let same = ok_one w.0 st (sym w.1 ∙ e) in
    let further : run unbounded st c.more ≡ Ok k.0 = let P : State → Type 0 = λ z. run unbounded z c.more ≡ Ok k.0 in
    subst P same w.2 in
    let names = sym (schema_results unbounded (prefix ++ c.more) c.tree c.written) ∙ results_on unbounded
    (schema_start unbounded) prefix c.more st e in (
      results unbounded st c.more,
      subst NamesWithinCounts names (types_counts c.tree c.kept),
      λ ph. one_result unbounded c.more st k.0 further (schema_run unbounded (prefix ++ c.more) (schema_start unbounded)
          k.0 k.1 refl) k.2 ph,
    )
