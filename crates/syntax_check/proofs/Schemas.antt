-- What is answered for a schema is right.
use Rattle.std.proofs.Common.{◌≡◌, ◌⊎◌, inl, inr, ℕ, ◌+◌, ◌<◌, ◌≤◌, ◌==◌, Bool, true, false, if◌then◌else◌, List, [], ◌∷◌, ◌++◌, length, take, drop, Some, None, Ok, Err, refl, sym, ap, ◌∙◌, subst, arith, append-nil, append_assoc}
use Rattle.tlb_syntax.specs.Lexeme.{Lexeme, word, sign}
use Rattle.tlb_syntax.specs.declared.sign.Sign.TheVariants.{Bang}
use Rattle.tlb_syntax.specs.Grammar.{by_name, by_blank, Declarations}
use Rattle.tlb_syntax.specs.Tree.{SchemaView}
use Rattle.tlb_syntax.specs.Written.{CanGoOn, ended, Exceeds, NameOffset, at_once, after_mark, Begins, Declares, WithinCounts, IsFirst, SchemaRefusal, unbounded, standard, syntax}
use Rattle.syntax_check.specs.declared.machine.Cause.{Cause}
use Rattle.syntax_check.specs.declared.machine.Cause.TheVariants.{Syntax, DeepType, TooManyConstructors, TooManyFields, TooManyParams}
use Rattle.syntax_check.specs.declared.machine.ParserState.TheVariants.{Start, Marked}
use Rattle.syntax_check.specs.Machine.{State, at, Outcome, step, run, schema_start, is_schema_end}
use Rattle.syntax_check.specs.Judge.{Verdict, Position, awaits_name, is_result, heads, count_of, judged_name, names_with, onward, freed, after_step, advance_past, finish, go_on, go, free}
use Rattle.syntax_check.specs.Verdict.{cause_of, SchemaWritten, SchemaIsRefused}
use Rattle.syntax_check.proofs.WithoutCounts.{every, without, free_is}
use Rattle.syntax_check.proofs.Phase.{between, marked, before, after_result, unnamed, phase_of, is_start, is_marked, Turn}
use Rattle.syntax_check.proofs.Steps.{IsLimit}
use Rattle.syntax_check.proofs.Completeness.{schema_results}
use Rattle.syntax_check.proofs.Soundness.{schema_soundness}
use Rattle.syntax_check.proofs.Stepwise.{shorter, run_more, step_ok, step_syntax, no_constructors, Sound, sound_run}
use Rattle.syntax_check.proofs.NameCounts.{equal_number, number_equal, NamesWithinCounts, counts_types}
use Rattle.syntax_check.proofs.ResultNames.{named, result_without, start_without, marked_without, awaits_without, named_without, names_with_is, results_without, before_turn, after_result_turn, four, between_start, phase_marked, marked_between, begins, heads_begins, begins_with, heads_name, start_goes, start_stops, marked_goes, marked_stops, at_result}
use Rattle.syntax_check.proofs.Prefixes.{end_is}
use Rattle.syntax_check.proofs.FirstRefusal.{below_or, below_or_same, plain_later, plain_at_place, plain_first, end_first}
use Rattle.syntax_check.proofs.JudgePositions.{is_false, awaits_not, awaits_start, awaits_marked, within_limits, past_limit, true_or_false, unjudged, advance_unjudged}
use Rattle.syntax_check.proofs.ConstructorCounts.{schemas, Room}
use Rattle.syntax_check.proofs.SchemaPrefix.{PrefixFacts, drop_prefix, one_longer, one_further, next_turn, begins_at_place, declares_at_place, declares, at_place_exceeds, facts_further, none_stopped, too_many_in_all, too_many_of_one, after_result_far}
use Rattle.syntax_check.proofs.SchemaRefusals.{met_first, no_mark_name, many_first, none_at_end, awaits_no_result, judged_head, judged_no_name, judged_word, heads_form, differ, limit_inside, room_inside, IsRight, Met, no_head, met_reported, past_right}

-- ---- within the limits

sound_schema : (prefix : List Lexeme) (st : State) → run standard (schema_start standard) prefix ≡ Ok st
    → Sound standard st
sound_schema prefix st e = sound_run standard prefix (schema_start standard) st e (record { phase = refl; levels = refl })

-- the names of the types are those that the machine read
written_counts : (ls : List Lexeme) (st : State) (place begun : ℕ) (names : List (List ℕ))
    → run standard (schema_start standard) ls ≡ Ok st → PrefixFacts ls ls [] (without every st) place begun names
    → is_schema_end st ≡ true →
    (s : SchemaView) × Declarations standard ls s × WithinCounts s
written_counts ls st place begun names e g ends =
    let w = schema_soundness standard ls st e ends in
    let same = g.all_names ∙ results_without every standard ls (schema_start standard) st e ∙ schema_results standard
    ls w.0 w.1 in
    let counts : NamesWithinCounts names = record { all = omega (arith, g.counts.all); of_one = g.counts.of_one } in
    (w.0, w.1, counts_types w.0 (subst NamesWithinCounts same counts))

-- ---- a `!` after 4,096 declarations

start_no_result : (st : State) → is_start st ≡ true → is_result st ≡ false
start_no_result st e = awaits_no_result st (awaits_start st e)

-- after one that exceeds no other does
one_excess : (ls prefix ts : List Lexeme) (place later : ℕ) → ls ≡ prefix ++ sign Bang ∷ ts → length prefix ≡ place
    → (CanGoOn Declarations unbounded WithinCounts (ended prefix (sign Bang)) → ⊥) → place < later
    → Exceeds Declarations unbounded WithinCounts ls later → ⊥
one_excess ls prefix ts place later whole size never far s =
    let k = shorter prefix s.split.prefix ts (s.split.next ∷ s.split.later) (sign Bang) (sym whole ∙ s.split.whole)
    (omega (arith, size, s.split.size)) in
    let c = s.so_far in
    let same : s.split.prefix ++ c.more ≡ ended prefix (sign Bang) ++ (k.0 ++ c.more) =
    ap (λ z. z ++ c.more) k.1 ∙ append_assoc prefix (sign Bang ∷ k.0) c.more
    ∙ sym (append_assoc prefix (sign Bang ∷ []) (k.0 ++ c.more)) in
    let P : List Lexeme → Type 0 = λ z. Declarations unbounded z c.tree in
    never (record { more = k.0 ++ c.more; tree = c.tree; kept = c.kept; written = subst P same c.written })

after_mark_offset : {s : List Lexeme} {offset : ℕ} → NameOffset (sign Bang ∷ s) offset
    → NameOffset (sign Bang ∷ s) 1 × (offset ≡ 1)
after_mark_offset (at_once h) = absurd (no_mark_name [] _ h)
after_mark_offset (after_mark h) = (after_mark h, refl)

-- the name after it, or that none follows
begins_at : (ls prefix ts : List Lexeme) (place q : ℕ) (s : SchemaView) → ls ≡ prefix ++ sign Bang ∷ ts
    → length prefix ≡ place → Declarations unbounded (take place ls) s → Declares ls q place
    → NameOffset (sign Bang ∷ ts) 1 × (q ≡ place + 1)
begins_at ls prefix ts place q s whole size known d = go (below_or_same d.start place d.begins.before)
  where
    go : (d.start < place) ⊎ (d.start ≡ place) → NameOffset (sign Bang ∷ ts) 1 × (q ≡ place + 1)
    go (inl x) = absurd (d.begins.last place s x (omega arith) known)
    go (inr x) =
        let P : ℕ → Type 0 = λ n. NameOffset (drop n ls) d.offset in
        let Q : List Lexeme → Type 0 = λ z. NameOffset z d.offset in
        let k = after_mark_offset (subst Q (drop_prefix ls prefix (sign Bang ∷ ts) place whole size) (subst P x d.name)) in
        (k.0, omega (arith, d.is_place, x, k.1))

named_next : {t : Lexeme} {ts : List Lexeme} → NameOffset (sign Bang ∷ t ∷ ts) 1 → heads t ≡ true
named_next (after_mark by_name) = refl
named_next (after_mark by_blank) = refl

none_next : NameOffset (sign Bang ∷ []) 1 → ⊥
none_next h = elim h [ ]

mark_full : (ts ls prefix : List Lexeme) (st : State) (place begun : ℕ) (names : List (List ℕ))
    → run standard (schema_start standard) prefix ≡ Ok st → is_start st ≡ true → length names ≡ 4096
    → PrefixFacts ls prefix (sign Bang ∷ ts) (without every st) place begun names
    → IsRight ls (go is_schema_end (within_limits st place begun names) (sign Bang ∷ ts))
mark_full ts ls prefix (at Start lv below) place begun names e start full g = rest ts refl
  where
    st : State
    st = at Start lv below

    next : State
    next = at Marked lv below

    prefix_next : List Lexeme
    prefix_next = prefix ++ sign Bang ∷ []

    P : Verdict → Type 0
    P = IsRight ls

    e_next : run standard (schema_start standard) prefix_next ≡ Ok next
    e_next = run_more standard (schema_start standard) st next prefix (sign Bang) e refl

    size_next : length prefix_next ≡ place + 1
    size_next = one_longer prefix (sign Bang) place g.size

    exceeds : Exceeds Declarations unbounded WithinCounts ls place
    exceeds = too_many_in_all (sign Bang) g refl refl refl full

    never : CanGoOn Declarations unbounded WithinCounts (ended prefix (sign Bang)) → ⊥
    never = (at_place_exceeds (sign Bang) g exceeds).1

    w : Begins ls place place
    w = begins_at_place (sign Bang) g refl

    a : Position
    a = within_limits next (place + 1) place names

    -- no declaration is one too many where no name follows
    unnamed_next : (NameOffset (sign Bang ∷ ts) 1 → ⊥) → (q later : ℕ)
        → Exceeds Declarations unbounded WithinCounts ls later
        → Declares ls q later → place + 1 < q
    unnamed_next none q later s d = at_or_not (below_or later place)
      where
        at_it : (place < later) ⊎ (place ≡ later) → place + 1 < q
        at_it (inl x) = absurd (one_excess ls prefix ts place later g.whole g.size never x s)
        at_it (inr x) =
            let Q : ℕ → Type 0 = λ n. Declares ls q n in
            absurd (none (begins_at ls prefix ts place q w.earlier g.whole g.size w.whole (subst Q (sym x) d)).0)

        at_or_not : (later < place) ⊎ (place ≤ later) → place + 1 < q
        at_or_not (inl x) = absurd (g.none_yet later x s)
        at_or_not (inr x) = at_it (below_or_same place later x)

    named_at_place : (t : Lexeme) (us : List Lexeme) → ts ≡ t ∷ us → heads t ≡ true → IsRight ls (go is_schema_end a
        (t ∷ us))
    named_at_place t us is h =
        subst P (sym (ap (λ v. go_on (advance_past a t v) (λ next. go is_schema_end next us)) (judged_head a t refl h
        ∙ ap (λ b. if b then Some (TooManyConstructors, place + 1) else None) (number_equal (length names) 4096 full))))
        (many_first ls place (place + 1) exceeds d g.none_yet (λ c q p.
        let n = marked_goes standard next t refl h in
        let k = plain_later schemas ls (prefix_next ++ t ∷ []) us n.0 c q (run_more standard (schema_start standard) next
        n.0 prefix_next t e_next n.1) (one_further ls prefix_next us t whole) p in
        omega (arith, one_longer prefix_next t (place + 1) size_next)))
      where
        whole : ls ≡ prefix_next ++ t ∷ us
        whole = one_further ls prefix ts (sign Bang) g.whole ∙ ap (λ z. prefix_next ++ z) is

        d : Declares ls (place + 1) place
        d = record {
          start = place;
          begins = w;
          offset = 1;
          name = let Q : List Lexeme → Type 0 = λ z. NameOffset z 1 in
              subst Q (sym (drop_prefix ls prefix (sign Bang ∷ ts) place g.whole g.size ∙ ap (λ z. sign Bang ∷ z) is))
              (after_mark (heads_name t h).1);
          is_place = omega arith;
        }

    no_name_at_place : (t : Lexeme) (us : List Lexeme) → ts ≡ t ∷ us → heads t ≡ false → IsRight ls (go is_schema_end a
        (t ∷ us))
    no_name_at_place t us is h =
        subst P (sym (ap (λ v. go_on (advance_past a t v) (λ next. go is_schema_end next us)) (judged_no_name a t h)
        ∙ ap (λ o. go_on (after_step a t o) (λ next. go is_schema_end next us)) stop))
        (met_first ls syntax (place + 1) (plain_at_place schemas ls prefix_next us t next Syntax (place + 1) e_next whole
        size_next stop) (plain_first schemas ls prefix_next us t next Syntax (place + 1) e_next (sound_schema prefix_next
        next e_next) whole size_next stop)
        (unnamed_next (λ n. let Q : List Lexeme → Type 0 = λ z. NameOffset (sign Bang ∷ z) 1 in
        differ (heads t) (named_next (subst Q is n)) h)))
      where
        whole : ls ≡ prefix_next ++ t ∷ us
        whole = one_further ls prefix ts (sign Bang) g.whole ∙ ap (λ z. prefix_next ++ z) is

        stop : step standard next t ≡ Err Syntax
        stop = marked_stops standard next t refl h

    -- the text ends after the `!`
    ended_at_place : ts ≡ [] → IsRight ls (go is_schema_end a [])
    ended_at_place is =
        let whole : prefix_next ≡ ls = sym (one_further ls prefix ts (sign Bang) g.whole ∙ ap (λ z. prefix_next ++ z) is
        ∙ append-nil prefix_next) in
        let Q : List Lexeme → Type 0 = λ z. run standard (schema_start standard) z ≡ Ok next in
        let e_all = subst Q whole e_next in
        let size : length ls ≡ place + 1 = sym (ap length whole) ∙ size_next in
        met_first ls syntax (place + 1) (inr (end_is schemas standard ls next (place + 1) e_all size refl))
        (end_first schemas ls next (place + 1) e_all size)
        (unnamed_next (λ n. let R : List Lexeme → Type 0 = λ z. NameOffset (sign Bang ∷ z) 1 in none_next (subst R is n)))

    rest : (us : List Lexeme) → ts ≡ us → IsRight ls (go is_schema_end (within_limits st place begun names)
        (sign Bang ∷ us))
    rest [] is = ended_at_place is
    rest (t ∷ us) is = which (true_or_false (heads t))
      where
        which : (heads t ≡ true) ⊎ (heads t ≡ false) → IsRight ls (go is_schema_end a (t ∷ us))
        which (inl h) = named_at_place t us is h
        which (inr h) = no_name_at_place t us is h
mark_full ts ls prefix (at mode lv below) place begun names e start full g = cc

schema_right : (rest ls prefix : List Lexeme) (st : State) (place begun : ℕ) (names : List (List ℕ))
    → run standard (schema_start standard) prefix ≡ Ok st
    → PrefixFacts ls prefix rest (without every st) place begun names →
    IsRight ls (go is_schema_end (within_limits st place begun names) rest)
schema_right [] ls prefix st place begun names e g = ends (is_schema_end st) refl
  where
    same : prefix ≡ ls
    same = sym (g.whole ∙ append-nil prefix)

    e_all : run standard (schema_start standard) ls ≡ Ok st
    e_all = let P : List Lexeme → Type 0 = λ z. run standard (schema_start standard) z ≡ Ok st in subst P same e

    g_all : PrefixFacts ls ls [] (without every st) place begun names
    g_all = let P : List Lexeme → Type 0 = λ z. PrefixFacts ls z [] (without every st) place begun names in subst P same g

    pick : Bool → Verdict
    pick b = if b then None else Some (Syntax, place)

    ends : (b : Bool) → is_schema_end st ≡ b → IsRight ls (finish is_schema_end (within_limits st place begun names))
    ends true h = let P : Verdict → Type 0 = IsRight ls in subst P (sym (ap pick h))
        (written_counts ls st place begun names e_all g_all h)
    ends false h =
        let P : Verdict → Type 0 = IsRight ls in
        subst P (sym (ap pick h))
        (met_first ls syntax place (inr (end_is schemas standard ls st place e_all g_all.size h))
        (end_first schemas ls st place e_all g_all.size) (λ q later s d. absurd (none_at_end g later s)))
schema_right (t ∷ ts) ls prefix st place begun names e g =
    cases (is_start st) refl (is_marked st) refl (is_result st) refl
    (λ next h gn. schema_right ts ls (prefix ++ t ∷ []) next (place + 1) _ _ (run_more standard (schema_start standard)
    st next prefix t e h) gn)
  where
    a : Position
    a = within_limits st place begun names

    ust : State
    ust = without every st

    P : Verdict → Type 0
    P = IsRight ls

    begun_next : ℕ
    begun_next = if awaits_name st then place else begun

    next_names : List (List ℕ)
    next_names = names_with a t

    same_names : names ++ named ust t ≡ next_names
    same_names = ap (λ z. names ++ z) (named_without every st t) ∙ sym (names_with_is a t)

    same_begun : (if awaits_name ust then place else begun) ≡ begun_next
    same_begun = ap (λ b. if b then place else begun) (awaits_without every st)

    free_step : (next : State) → step standard st t ≡ Ok next → step unbounded ust t ≡ Ok (without every next)
    free_step next h = (step_ok standard st next t h).0 every

    -- the machine goes on
    goes_next : (next : State) → step unbounded ust t ≡ Ok next → Room (phase_of ust) (is_result ust) t names
        → PrefixFacts ls (prefix ++ t ∷ []) ts next (place + 1) begun_next next_names
    goes_next next h room =
        let Q : List (List ℕ) → Type 0 = λ z. PrefixFacts ls (prefix ++ t ∷ []) ts next (place + 1) begun_next z in
        let R : ℕ → Type 0 = λ z. PrefixFacts ls (prefix ++ t ∷ []) ts next (place + 1) z (names ++ named ust t) in
        subst Q same_names (subst R same_begun (facts_further t g next h room))

    Further : Type 0
    Further = (next : State) → step standard st t ≡ Ok next → PrefixFacts ls (prefix ++ t ∷ []) ts (without every next)
        (place + 1) begun_next next_names → IsRight ls (go is_schema_end (onward a t standard None next) ts)

    stopped : step standard st t ≡ Err Syntax → IsFirst (SchemaRefusal ls) syntax place
    stopped h =
        met_first ls syntax place (plain_at_place schemas ls prefix ts t st Syntax place e g.whole g.size h)
        (plain_first schemas ls prefix ts t st Syntax place e (sound_schema prefix st e) g.whole g.size h)
        (λ q later s d. absurd (none_stopped t g Syntax later (unbounded_stops h) s))
      where
        unbounded_stops : step standard st t ≡ Err Syntax → step unbounded ust t ≡ Err Syntax
        unbounded_stops h = (step_syntax standard st t h).0 every

    -- ---- a limit is met

    limit_first : (why : Cause) → step standard st t ≡ Err why
        → ((q later : ℕ) → Exceeds Declarations unbounded WithinCounts
        ls later → Declares ls q later → place < q) → IsFirst (SchemaRefusal ls) (cause_of why) place
    limit_first why h many = met_first ls (cause_of why) place (plain_at_place schemas ls prefix ts t st why place e g.whole
        g.size h) (plain_first schemas ls prefix ts t st why place e (sound_schema prefix st e) g.whole g.size h) many

    past_limit_right : (why : Cause) → IsLimit why → step standard st t ≡ Err why → (next : State) → step unbounded ust
        t ≡ Ok next → IsRight ls (go is_schema_end (past_limit next (place + 1) begun_next next_names (why, place)) ts)
    past_limit_right why limit h next u = go_on_from (four (phase_of ust) g.phase)
      where
        inside : (is_start st ≡ false) × (is_marked st ≡ false) × (is_result st ≡ false)
        inside = limit_inside standard st t why limit h

        not_start : is_start ust ≡ false
        not_start = start_without every st ∙ inside.0

        not_result : is_result ust ≡ false
        not_result = result_without every st ∙ inside.2

        not_mark : is_marked ust ≡ false
        not_mark = marked_without every st ∙ inside.1

        g_next : PrefixFacts ls (prefix ++ t ∷ []) ts next (place + 1) begun_next next_names
        g_next = goes_next next u (room_inside ust t names not_start not_result)

        turn : Turn (phase_of ust) (is_result ust) (phase_of next)
        turn = next_turn t g next u

        met : Met ls why place (place + 1) begun_next
        met = record {
          at_place = plain_at_place schemas ls prefix ts t st why place e g.whole g.size h;
          first = plain_first schemas ls prefix ts t st why place e (sound_schema prefix st e) g.whole g.size h;
          inside = let k = ((g.inside not_start).name not_mark).0 in let i : begun_next ≡ begun =
              ap (λ b. if b then place else begun) (awaits_not st inside.0 inside.1) in omega (arith, k, i);
          passed = omega arith;
        }

        go_on_from : (phase_of ust ≡ between) ⊎ ((phase_of ust ≡ marked) ⊎ ((phase_of ust ≡ before)
            ⊎ (phase_of ust ≡ after_result)))
            → IsRight ls (go is_schema_end (past_limit next (place + 1) begun_next next_names (why, place)) ts)
        go_on_from (inl ph) = absurd (differ (is_start ust) (between_start ust ph) not_start)
        go_on_from (inr (inl ph)) = absurd (differ (is_marked ust) (phase_marked ust ph) not_mark)
        go_on_from (inr (inr (inl ph))) = past_right ts ls (prefix ++ t ∷ []) next (place + 1) begun_next next_names why place
            g_next (before_turn (phase_of ust) (phase_of next) (is_result ust) turn ph not_result) met
        go_on_from (inr (inr (inr ph))) =
            subst P (sym (met_reported ts (prefix ++ t ∷ []) next (place + 1) begun_next next_names (why, place)
            g_next.taken g_next.phase (after_result_turn (phase_of ust) (phase_of next) (is_result ust) turn ph)))
            (limit_first why h (λ q later s d. after_result_far (t ∷ ts) ls prefix ust place begun names q later g ph s d))

    limits : (why : Cause) → IsLimit why → step standard st t ≡ Err why
        → IsRight ls (go_on (freed a t why (step unbounded (free st) t)) (λ next. go is_schema_end next ts))
    limits why limit h = outcome (step unbounded (free st) t) (ap (λ z. step unbounded z t) (sym (free_is st)))
      where
        outcome : (o : Outcome) → step unbounded ust t ≡ o
            → IsRight ls (go_on (freed a t why o) (λ next. go is_schema_end next ts))
        outcome (Ok next) u = past_limit_right why limit h next u
        outcome (Err late) u = limit_first why h (λ q later s d. absurd (none_stopped t g late later u s))

    -- ---- no name is judged at the place

    steps : (o : Outcome) → step standard st t ≡ o → Room (phase_of ust) (is_result ust) t names → Further
        → IsRight ls (go_on (after_step a t o) (λ next. go is_schema_end next ts))
    steps (Ok next) h room further = further next h (goes_next (without every next) (free_step next h) room)
    steps (Err Syntax) h room further = stopped h
    steps (Err DeepType) h room further = limits DeepType tt h
    steps (Err TooManyConstructors) h room further = absurd (no_constructors standard st t h)
    steps (Err TooManyFields) h room further = limits TooManyFields tt h
    steps (Err TooManyParams) h room further = limits TooManyParams tt h

    unnamed_right : judged_name a t ≡ None → Room (phase_of ust) (is_result ust) t names → Further
        → IsRight ls (go is_schema_end a (t ∷ ts))
    unnamed_right none room further = subst P
        (sym (ap (λ z. go_on z (λ next. go is_schema_end next ts)) (advance_unjudged a t none)))
        (steps (step standard st t) refl room further)

    -- where nothing goes on no name is judged
    stopped_right : judged_name a t ≡ None → step standard st t ≡ Err Syntax → IsRight ls (go is_schema_end a (t ∷ ts))
    stopped_right none h =
        subst P (sym (ap (λ v. go_on (advance_past a t v) (λ next. go is_schema_end next ts)) none
        ∙ ap (λ o. go_on (after_step a t o) (λ next. go is_schema_end next ts)) h)) (stopped h)

    -- ---- a declaration's name

    -- the `!` of a declaration
    at_bang : is_start st ≡ true → t ≡ sign Bang → (length names == 4096 ≡ true) ⊎ (length names == 4096 ≡ false)
        → Further → IsRight ls (go is_schema_end a (t ∷ ts))
    at_bang start is (inl full) further =
        let Q : Lexeme → Type 0 = λ z. PrefixFacts ls prefix (z ∷ ts) ust place begun names
        → IsRight ls (go is_schema_end a (z ∷ ts)) in
        subst Q (sym is) (mark_full ts ls prefix st place begun names e start (equal_number (length names) 4096 full)) g
    at_bang start is (inr counts) further =
        unnamed_right (judged_no_name a t (ap heads is)) (
          λ ph full. differ (length names == 4096) (number_equal (length names) 4096 full) counts,
          λ f. absurd (differ (is_result st) (sym (result_without every st) ∙ f) (start_no_result st start)),
        )
        further

    at_head : is_start st ≡ true → heads t ≡ true → (length names == 4096 ≡ true) ⊎ (length names == 4096 ≡ false)
        → Further → IsRight ls (go is_schema_end a (t ∷ ts))
    at_head start h (inl full) further =
        subst P (sym (ap (λ v. go_on (advance_past a t v) (λ next. go is_schema_end next ts))
        (judged_head a t (awaits_start st start) h
        ∙ ap (λ b. if b then Some (TooManyConstructors, place) else None) full)))
        (many_first ls place place (too_many_in_all t g (start_without every st ∙ start) (heads_begins t h)
        (heads_form t h) (equal_number (length names) 4096 full)) (declares_at_place t g (start_without every st ∙ start) h)
        g.none_yet
        (λ d q p.
        let n = start_goes standard st t start (heads_begins t h) in
        let k = plain_later schemas ls (prefix ++ t ∷ []) ts n.0 d q (run_more standard (schema_start standard) st n.0
        prefix t e n.1) (one_further ls prefix ts t g.whole) p in
        omega (arith, one_longer prefix t place g.size)))
    at_head start h (inr counts) further =
        unnamed_right (judged_head a t (awaits_start st start) h
        ∙ ap (λ b. if b then Some (TooManyConstructors, place) else None) counts) (
          λ ph full. differ (length names == 4096) (number_equal (length names) 4096 full) counts,
          λ f. absurd (differ (is_result st) (sym (result_without every st) ∙ f) (start_no_result st start)),
        )
        further

    at_first_lexeme : is_start st ≡ true → (begins t ≡ true) ⊎ (begins t ≡ false) → Further
        → IsRight ls (go is_schema_end a (t ∷ ts))
    at_first_lexeme start (inr h) further =
        stopped_right (judged_no_name a t (no_head t h)) (start_stops standard st t start h)
    at_first_lexeme start (inl h) further = which (begins_with t h)
      where
        which : (t ≡ sign Bang) ⊎ (heads t ≡ true) → IsRight ls (go is_schema_end a (t ∷ ts))
        which (inl x) = at_bang start x (true_or_false (length names == 4096)) further
        which (inr x) = at_head start x (true_or_false (length names == 4096)) further

    -- after a `!`, which there was room for
    at_marked : is_marked st ≡ true → (heads t ≡ true) ⊎ (heads t ≡ false) → Further
        → IsRight ls (go is_schema_end a (t ∷ ts))
    at_marked m (inr h) further = stopped_right (judged_no_name a t h) (marked_stops standard st t m h)
    at_marked m (inl h) further =
        unnamed_right (judged_head a t (awaits_marked st m) h
        ∙ ap (λ b. if b then Some (TooManyConstructors, place) else None) counts) (
          λ ph full. differ (length names == 4096) (number_equal (length names) 4096 full) counts,
          λ f. absurd (differ (is_result st) (sym (result_without every st) ∙ f)
              (awaits_no_result st (awaits_marked st m))),
        )
        further
      where
        one : unnamed (phase_of ust) ≡ 1
        one = ap unnamed (marked_between ust g.phase (marked_without every st ∙ m))

        counts : length names == 4096 ≡ false
        counts = is_false (length names == 4096) (λ e. let k = equal_number (length names) 4096 e in
            absurd (omega (arith, k, one, g.counts.all)))

    -- ---- a declaration's result

    at_name : is_start st ≡ false → is_marked st ≡ false → is_result st ≡ true → (x : List ℕ) → t ≡ word x
        → (count_of x names == 256 ≡ true)
        ⊎ (count_of x names == 256 ≡ false) → Further → IsRight ls (go is_schema_end a (t ∷ ts))
    at_name later mark named x is (inl full) further =
        subst P (sym (ap (λ v. go_on (advance_past a t v) (λ next. go is_schema_end next ts))
        (judged_word a t x named is ∙ ap (λ b. if b then Some (TooManyConstructors, begun) else None) full)))
        (many_first ls place begun (too_many_of_one t g x (result_without every st ∙ named) is
        (equal_number (count_of x names) 256 full)) (declares t g (start_without every st ∙ later) (marked_without every st ∙ mark))
        g.none_yet
        (λ d q p.
        let k = plain_later schemas ls prefix (t ∷ ts) st d q e g.whole p in
        omega (arith, g.size, ((g.inside (start_without every st ∙ later)).name (marked_without every st ∙ mark)).0)))
    at_name later mark named x is (inr counts) further =
        unnamed_right (judged_word a t x named is ∙ ap (λ b. if b then Some (TooManyConstructors, begun) else None)
        counts) (
          λ ph. absurd (differ (is_start st) (sym (start_without every st) ∙ between_start ust ph) later),
          λ f y i full. counts_of_it y (word_one x y (sym is ∙ i)) full,
        )
        further
      where
        word_one : (x y : List ℕ) → word x ≡ word y → x ≡ y
        word_one x y e = cc

        counts_of_it : (y : List ℕ) → x ≡ y → count_of y names ≡ 256 → ⊥
        counts_of_it y s h = differ (count_of x names == 256) (number_equal (count_of x names) 256
            (ap (λ z. count_of z names) s ∙ h)) counts

    cases : (b : Bool) → is_start st ≡ b → (c : Bool) → is_marked st ≡ c → (d : Bool) → is_result st ≡ d → Further
        → IsRight ls (go is_schema_end a (t ∷ ts))
    cases true start c mark d named further = at_first_lexeme start (true_or_false (begins t)) further
    cases false later true mark d named further = at_marked mark (true_or_false (heads t)) further
    cases false later false mark false plain further =
        unnamed_right (unjudged a t (awaits_not st later mark) plain) (room_inside ust t names
        (start_without every st ∙ later) (result_without every st ∙ plain)) further
    cases false later false mark true named further = a_word (at_result standard st t named)
      where
        a_word : ((x : List ℕ) × (t ≡ word x)) ⊎ ((step standard st t ≡ Err Syntax)
            × ((b : Position) → awaits_name b.state ≡ false → judged_name b t ≡ None))
            → IsRight ls (go is_schema_end a (t ∷ ts))
        a_word (inl x) = at_name later mark named x.0 x.1 (true_or_false (count_of x.0 names == 256)) further
        a_word (inr x) = stopped_right (x.1 a (awaits_not st later mark)) x.0

-- before the first lexeme
at_first : (ls : List Lexeme) → PrefixFacts ls [] ls (without every (schema_start standard)) 0 0 []
at_first ls = record {
  whole = refl;
  size = refl;
  taken = refl;
  phase = refl;
  all_names = refl;
  counts = record { all = omega arith; of_one = λ x. omega arith };
  inside = λ e. absurd (differ true refl e);
  none_yet = λ later h s. absurd (omega arith);
}

pub schema_written : SchemaWritten
schema_written ls e = let P : Verdict → Type 0 = IsRight ls in
    subst P e (schema_right ls ls [] (schema_start standard) 0 0 [] refl (at_first ls))

pub schema_refused : SchemaIsRefused
schema_refused ls c place e = let P : Verdict → Type 0 = IsRight ls in
    subst P e (schema_right ls ls [] (schema_start standard) 0 0 [] refl (at_first ls))
