-- The refusals of a schema: which is the first, and what is answered where the judge is past a limit.
use Rattle.std.proofs.Common.{◌≡◌, ◌⊎◌, inl, inr, ℕ, ◌+◌, ◌<◌, ◌≤◌, ◌==◌, Bool, true, false, if◌then◌else◌, List, [], ◌∷◌, ◌++◌, length, drop, Option, Some, None, Ok, Err, refl, sym, ap, ◌∙◌, subst, arith, length-append}
use Rattle.tlb_syntax.specs.Lexeme.{Lexeme, word, blank, number, tag, sign, other}
use Rattle.tlb_syntax.specs.declared.sign.Sign.TheVariants.{Bang}
use Rattle.tlb_syntax.specs.Grammar.{Count, Bounds, Heads, Declarations}
use Rattle.tlb_syntax.specs.Tree.{SchemaView}
use Rattle.tlb_syntax.specs.Written.{form_of, Exceeds, NameOffset, at_once, after_mark, Declares, WithinCounts, IsFirst, ComesFirst, SchemaRefusal, unbounded, standard, syntax, deep_type, too_many_constructors, too_many_fields, too_many_params, Cause as Reason}
use Rattle.syntax_check.specs.declared.machine.Cause.{Cause}
use Rattle.syntax_check.specs.declared.machine.Cause.TheVariants.{Syntax, DeepType, TooManyConstructors, TooManyFields, TooManyParams}
use Rattle.syntax_check.specs.declared.machine.ParserState.TheVariants.{Start, Marked}
use Rattle.syntax_check.specs.declared.machine.Frame.{Frame}
use Rattle.syntax_check.specs.Machine.{State, at, Outcome, step, run, schema_start, is_schema_end}
use Rattle.syntax_check.specs.Judge.{Verdict, Position, awaits_name, is_result, heads, count_of, counted, judged_result, judged_name, names_with, onward, or_met, after_step, advance_past, go_on, go}
use Rattle.syntax_check.specs.Verdict.{cause_of}
use Rattle.syntax_check.proofs.Phase.{Phase, between, marked, before, after_result, phase_of, is_start, is_marked}
use Rattle.syntax_check.proofs.Steps.{IsOk, IsLimit}
use Rattle.syntax_check.proofs.Stepwise.{err_one, clash, run_more, step_ok, no_constructors}
use Rattle.syntax_check.proofs.NameCounts.{equal_number}
use Rattle.syntax_check.proofs.ResultNames.{names_with_is, in_schema, schema_turn, before_turn, naming_turn, after_result_turn, between_start, awaits_none, not_at_start, not_at_mark, not_at_result, begins, begins_with, start_goes, start_stops, marked_goes, marked_stops, result_goes, at_result}
use Rattle.syntax_check.proofs.FirstRefusal.{Plain, below_or, below_or_same, no_limit}
use Rattle.syntax_check.proofs.JudgePositions.{awaits_not, awaits_start, past_limit, true_or_false, unjudged, advance_unjudged, finish_met, failed_met}
use Rattle.syntax_check.proofs.ConstructorCounts.{schemas, Room}
use Rattle.syntax_check.proofs.SchemaPrefix.{PrefixFacts, next_turn, declares, facts_further, none_stopped, too_many_of_one, after_result_far}

-- ---- first refusals

-- a place before all other refusals
each_later : (ls : List Lexeme) (c : Reason) (place : ℕ) → ((d : Reason) (q : ℕ) → Plain Declarations ls d q
    → ComesFirst place c q d) →
    ((q later : ℕ) → Exceeds Declarations unbounded WithinCounts ls later → Declares ls q later → ComesFirst place c q
    too_many_constructors) →
    (d : Reason) (q : ℕ) → SchemaRefusal ls d q → ComesFirst place c q d
each_later ls c place plain many syntax q r = plain syntax q r
each_later ls c place plain many deep_type q r = plain deep_type q r
each_later ls c place plain many too_many_constructors q r = many q r.0 r.1 r.2
each_later ls c place plain many too_many_fields q r = plain too_many_fields q r
each_later ls c place plain many too_many_params q r = plain too_many_params q r

of_plain : (ls : List Lexeme) (c : Reason) (q : ℕ) → Plain Declarations ls c q → SchemaRefusal ls c q
of_plain ls syntax q h = h
of_plain ls deep_type q h = h
of_plain ls too_many_constructors q h = absurd h
of_plain ls too_many_fields q h = h
of_plain ls too_many_params q h = h

-- the first that is reported by the grammar alone, where no declaration that begins up to it is one too many
pub met_first : (ls : List Lexeme) (c : Reason) (place : ℕ) → Plain Declarations ls c place
    → ((d : Reason) (q : ℕ) → Plain Declarations ls d q → ComesFirst place c q d) →
    ((q later : ℕ) → Exceeds Declarations unbounded WithinCounts ls later → Declares ls q later → place < q)
    → IsFirst (SchemaRefusal ls) c place
met_first ls c place at_place plain many = record {
  refused = of_plain ls c place at_place;
  first = each_later ls c place plain (λ q later s d. inl (many q later s d));
}

-- a name stands at one place of a declaration, first or second
pub no_mark_name : (s : List Lexeme) (x : Option (List ℕ)) → Heads (sign Bang) x → ⊥
no_mark_name s x h = elim h [ ]

one_offset : {s : List Lexeme} {a b : ℕ} → NameOffset s a → NameOffset s b → a ≡ b
one_offset (at_once h) (at_once k) = refl
one_offset (at_once h) (after_mark k) = absurd (no_mark_name [] _ h)
one_offset (after_mark h) (at_once k) = absurd (no_mark_name [] _ k)
one_offset (after_mark h) (after_mark k) = refl

offset_small : {s : List Lexeme} {a : ℕ} → NameOffset s a → a ≤ 1
offset_small (at_once h) = omega arith
offset_small (after_mark h) = omega arith

same_offset : (s : List Lexeme) (starts others : ℕ) (a b : ℕ) → starts ≡ others → NameOffset (drop starts s) a
    → NameOffset (drop others s) b → a ≡ b
same_offset s starts others a b e h k =
    let P : ℕ → Type 0 = λ n. NameOffset (drop n s) b in one_offset h (subst P (sym e) k)

-- the first declaration that is one too many, where nothing is refused before it
pub many_first : (ls : List Lexeme) (place begun : ℕ) → Exceeds Declarations unbounded WithinCounts ls place
    → Declares ls begun
    place → ((later : ℕ) → later < place → Exceeds Declarations unbounded WithinCounts ls later → ⊥) →
    ((d : Reason) (q : ℕ) → Plain Declarations ls d q → begun < q) → IsFirst (SchemaRefusal ls) too_many_constructors
    begun
many_first ls place begun s d none early = record {
  refused = (place, s, d);
  first = each_later ls too_many_constructors begun (λ c q p. inl (early c q p)) (λ q later s_2 d_2. go q later s_2 d_2
      (below_or d_2.start d.start) (below_or later place));
}
  where
    go : (q later : ℕ) → Exceeds Declarations unbounded WithinCounts ls later → (e : Declares ls q later)
        → (e.start < d.start) ⊎ (d.start ≤ e.start) → (later < place) ⊎ (place ≤ later) → ComesFirst begun
        too_many_constructors q too_many_constructors
    go q later s_2 d_2 (inl x) (inl y) = absurd (none later y s_2)
    go q later s_2 d_2 (inl x) (inr y) = absurd (d_2.begins.last d.start d.begins.earlier x
        (omega (arith, d.begins.before)) d.begins.whole)
    go q later s_2 d_2 (inr x) y = at_or_after (below_or_same begun q (reached (below_or_same d.start d_2.start x)))
      where
        reached : (d.start < d_2.start) ⊎ (d.start ≡ d_2.start) → begun ≤ q
        reached (inl z) = omega (arith, d.is_place, d_2.is_place, offset_small d.name)
        reached (inr z) = omega (
          arith,
          d.is_place,
          d_2.is_place,
          z,
          same_offset ls d.start d_2.start d.offset
              d_2.offset z d.name d_2.name,
        )

        at_or_after : (begun < q) ⊎ (begun ≡ q) → ComesFirst begun too_many_constructors q too_many_constructors
        at_or_after (inl z) = inl z
        at_or_after (inr z) = inr (z, omega arith)

-- after the whole list nothing exceeds
pub none_at_end : {ls prefix : List Lexeme} {st : State} {place begun : ℕ} {names : List (List ℕ)}
    → PrefixFacts ls prefix [] st
    place begun names → (later : ℕ) → Exceeds Declarations unbounded WithinCounts ls later → ⊥
none_at_end {prefix = prefix} g later s =
    g.none_yet later (omega (
      arith,
      g.size,
      s.split.size,
      ap length g.whole,
      length-append prefix [],
      ap length s.split.whole,
      length-append s.split.prefix (s.split.next ∷ s.split.later),
    )) s

-- ---- names

pub awaits_no_result : (st : State) → awaits_name st ≡ true → is_result st ≡ false
awaits_no_result (at Start lv below) e = refl
awaits_no_result (at Marked lv below) e = refl
awaits_no_result (at mode lv below) e = cc

counted_at : (a : Position) → awaits_name a.state ≡ true → counted a ≡ (if length a.names == 4096 then or_met a.met
    (TooManyConstructors, a.place) else a.met)
counted_at a e = ap (λ b. if b then (if length a.names == 4096 then or_met a.met (TooManyConstructors, a.place) else
    a.met) else None) e

pub judged_head : (a : Position) (t : Lexeme) → awaits_name a.state ≡ true → heads t ≡ true
    → judged_name a t ≡ (if length a.names == 4096 then or_met a.met (TooManyConstructors, a.place) else a.met)
judged_head a (word x) e h = ap (λ b. if b then judged_result a x else counted a) (awaits_no_result a.state e)
    ∙ counted_at a e
judged_head a blank e h = counted_at a e
judged_head a (number n) e h = cc
judged_head a (tag b) e h = cc
judged_head a (sign s) e h = cc
judged_head a other e h = cc

pub judged_no_name : (a : Position) (t : Lexeme) → heads t ≡ false → judged_name a t ≡ None
judged_no_name a (word x) h = cc
judged_no_name a blank h = cc
judged_no_name a (number n) h = refl
judged_no_name a (tag b) h = refl
judged_no_name a (sign s) h = refl
judged_no_name a other h = refl

pub judged_word : (a : Position) (t : Lexeme) (x : List ℕ) → is_result a.state ≡ true → t ≡ word x
    → judged_name a t ≡ judged_result a x
judged_word a t x e is = ap (λ z. judged_name a z) is ∙ ap (λ b. if b then judged_result a x else counted a) e

pub heads_form : (t : Lexeme) → heads t ≡ true → form_of t ≡ t
heads_form (word x) h = refl
heads_form blank h = refl
heads_form (number n) h = cc
heads_form (tag b) h = refl
heads_form (sign s) h = refl
heads_form other h = refl

pub differ : (b : Bool) → b ≡ true → b ≡ false → ⊥
differ b x y = cc

syntax_no_limit : (why : Cause) → IsLimit why → (◌≡◌ {A = Outcome} (Err Syntax) (Err why)) → ⊥
syntax_no_limit why limit e = subst IsLimit (sym (err_one Syntax why e)) limit

-- a limit is met inside declarations alone
pub limit_inside : (m : Bounds) (st : State) (t : Lexeme) (why : Cause) → IsLimit why → step m st t ≡ Err why
    → (is_start st ≡ false) × (is_marked st ≡ false) × (is_result st ≡ false)
limit_inside m st t why limit h = (
  at_start (is_start st) refl (true_or_false (begins t)),
  at_mark (is_marked st) refl (true_or_false (heads t)),
  at_name (is_result st) refl,
)
  where
    at_start : (b : Bool) → is_start st ≡ b → (begins t ≡ true) ⊎ (begins t ≡ false) → is_start st ≡ false
    at_start false e g = e
    at_start true e (inl g) = let k = start_goes m st t e g in absurd (clash (step m st t) k.0 why k.1 h)
    at_start true e (inr g) = absurd (syntax_no_limit why limit (sym (start_stops m st t e g) ∙ h))

    at_mark : (b : Bool) → is_marked st ≡ b → (heads t ≡ true) ⊎ (heads t ≡ false) → is_marked st ≡ false
    at_mark false e g = e
    at_mark true e (inl g) = let k = marked_goes m st t e g in absurd (clash (step m st t) k.0 why k.1 h)
    at_mark true e (inr g) = absurd (syntax_no_limit why limit (sym (marked_stops m st t e g) ∙ h))

    at_name : (b : Bool) → is_result st ≡ b → is_result st ≡ false
    at_name false e = e
    at_name true e = go_2 (at_result m st t e)
      where
        go_2 : ((x : List ℕ) × (t ≡ word x))
            ⊎ ((step m st t ≡ Err Syntax) × ((a : Position) → awaits_name a.state ≡ false
            → judged_name a t ≡ None)) → is_result st ≡ false
        go_2 (inl x) =
            let k = result_goes m st x.0 e in
            absurd (clash (step m st t) k.0 why (ap (step m st) x.1 ∙ k.1) h)
        go_2 (inr x) = absurd (syntax_no_limit why limit (sym x.0 ∙ h))

-- inside a declaration and before its result each lexeme leaves room
pub room_inside : (st : State) (t : Lexeme) (names : List (List ℕ)) → is_start st ≡ false → is_result st ≡ false
    → Room (phase_of st) (is_result st) t names
room_inside st t names e h = (
  λ ph. absurd (differ (is_start st) (between_start st ph) e),
  λ f. absurd (differ (is_result st) f h),
)

-- ---- what is answered

abbrev pub IsRight : List Lexeme → Verdict → Type 0
IsRight ls None = (s : SchemaView) × Declarations standard ls s × WithinCounts s
IsRight ls (Some refusal) = IsFirst (SchemaRefusal ls) (cause_of refusal.0) refusal.1

-- a limit that was met in the declaration that the machine stands in, and that no refusal reported by the grammar alone
-- comes before
pub record Met (ls : List Lexeme) (why : Cause) (met place begun : ℕ) : Type 0 where
  pub at_place : Plain Declarations ls (cause_of why) met
  pub first : (d : Reason) (q : ℕ) → Plain Declarations ls d q → ComesFirst met (cause_of why) q d
  pub inside : begun < met
  pub passed : met < place

later_or_same : (place : ℕ) (c : Reason) (q : ℕ) (d : Reason) → ComesFirst place c q d → place ≤ q
later_or_same place c q d (inl x) = omega arith
later_or_same place c q d (inr x) = omega (arith, x.0)

pub no_head : (t : Lexeme) → begins t ≡ false → heads t ≡ false
no_head (word x) h = cc
no_head blank h = cc
no_head (number n) h = refl
no_head (tag b) h = refl
no_head (sign s) h = refl
no_head other h = refl

met_already : (b : Bool) (place : ℕ) (met : Cause × ℕ)
    → (if b then or_met (Some met) (TooManyConstructors, place) else Some met) ≡ Some met
met_already true place met = refl
met_already false place met = refl

-- and so it is after the `!` of a next declaration
marked_reported : (rest : List Lexeme) (lv : Count) (below : List Frame) (place begun : ℕ) (names : List (List ℕ))
    (met : Cause × ℕ) → go is_schema_end (past_limit (at Marked lv below) place begun names met) rest ≡ Some met
marked_reported [] lv below place begun names met = refl
marked_reported (t ∷ ts) lv below place begun names met = head (true_or_false (heads t))
  where
    a : Position
    a = past_limit (at Marked lv below) place begun names met

    head : (heads t ≡ true) ⊎ (heads t ≡ false) → go is_schema_end a (t ∷ ts) ≡ Some met
    head (inl h) = ap (λ v. go_on (advance_past a t v) (λ next. go is_schema_end next ts))
        (judged_head a t refl h ∙ met_already (length names == 4096) place met)
    head (inr h) =
        ap (λ v. go_on (advance_past a t v) (λ next. go is_schema_end next ts)) (judged_no_name a t h)
        ∙ ap (λ o. go_on (after_step a t o) (λ next. go is_schema_end next ts))
        (marked_stops unbounded (at Marked lv below) t refl h)

mark_reported : (rest : List Lexeme) (st : State) (place begun : ℕ) (names : List (List ℕ)) (met : Cause × ℕ)
    → is_start st ≡ true → go is_schema_end (past_limit st place begun names met) (sign Bang ∷ rest) ≡ Some met
mark_reported rest (at Start lv below) place begun names met e = marked_reported rest lv below (place + 1) place names met
mark_reported rest (at mode lv below) place begun names met e = cc

-- after the result the limit is answered, whatever follows
pub met_reported : (rest prefix : List Lexeme) (st : State) (place begun : ℕ) (names : List (List ℕ)) (met : Cause × ℕ)
    → run unbounded (schema_start unbounded) prefix ≡ Ok st → in_schema (phase_of st) ≡ true
    → (phase_of st ≡ after_result)
    ⊎ (phase_of st ≡ between) →
    go is_schema_end (past_limit st place begun names met) rest ≡ Some met
met_reported [] prefix st place begun names met e w ph = finish_met is_schema_end st place begun names met
met_reported (t ∷ ts) prefix st place begun names met e w (inl ph) =
    ap (λ z. go_on z (λ next. go is_schema_end next ts))
    (advance_unjudged a t (unjudged a t (awaits_none st w (inr ph))
    (not_at_result st w (differ_2 (phase_of st) ph))))
    ∙ failed_met st place begun names met t (step unbounded st t) (λ why limit h. no_limit schemas prefix st t why e
    limit h) (no_constructors unbounded st t) (λ next. go is_schema_end next ts)
    (λ next h. let turn = (step_ok unbounded st next t h).2.turn in
    met_reported ts (prefix ++ t ∷ []) next _ _ _ met (run_more unbounded (schema_start unbounded) st next prefix t e h)
    (schema_turn (phase_of st) (phase_of next) (is_result st) turn w) (after_result_turn (phase_of st) (phase_of next)
    (is_result st) turn ph))
  where
    a : Position
    a = past_limit st place begun names met

    differ_2 : (p : Phase) → p ≡ after_result → p ≡ before → ⊥
    differ_2 p e f = cc
met_reported (t ∷ ts) prefix st place begun names met e w (inr ph) = head (true_or_false (begins t))
  where
    a : Position
    a = past_limit st place begun names met

    name : (heads t ≡ true) → go is_schema_end a (t ∷ ts) ≡ Some met
    name h = ap (λ v. go_on (advance_past a t v) (λ next. go is_schema_end next ts))
        (judged_head a t (awaits_start st (between_start st ph)) h ∙ met_already (length names == 4096) place met)

    mark : (t ≡ sign Bang) ⊎ (heads t ≡ true) → go is_schema_end a (t ∷ ts) ≡ Some met
    mark (inr h) = name h
    mark (inl is) =
        let P : Lexeme → Type 0 = λ z. go is_schema_end a (z ∷ ts) ≡ Some met in
        subst P (sym is) (mark_reported ts st place begun names met (between_start st ph))

    head : (begins t ≡ true) ⊎ (begins t ≡ false) → go is_schema_end a (t ∷ ts) ≡ Some met
    head (inl h) = mark (begins_with t h)
    head (inr h) =
        ap (λ v. go_on (advance_past a t v) (λ next. go is_schema_end next ts)) (judged_no_name a t (no_head t h))
        ∙ ap (λ o. go_on (after_step a t o) (λ next. go is_schema_end next ts))
        (start_stops unbounded st t (between_start st ph) h)

-- before the result the machine goes on to it
pub past_right : (rest ls prefix : List Lexeme) (st : State) (place begun : ℕ) (names : List (List ℕ)) (why : Cause)
    (met : ℕ) → PrefixFacts ls prefix rest st place begun names → phase_of st ≡ before → Met ls why met place begun →
    IsRight ls (go is_schema_end (past_limit st place begun names (why, met)) rest)
past_right [] ls prefix st place begun names why met g ph m =
    let P : Verdict → Type 0 = IsRight ls in
    subst P (sym (finish_met is_schema_end st place begun names (why, met))) (met_first ls (cause_of why) met m.at_place
    m.first (λ q later s d. absurd (none_at_end g later s)))
past_right (t ∷ ts) ls prefix st place begun names why met g ph m =
    named_or_not (is_result st) refl (λ next h gn p mn. past_right ts ls (prefix ++ t ∷ []) next (place + 1) _ _ why met
    gn p mn)
  where
    a : Position
    a = past_limit st place begun names (why, met)

    P : Verdict → Type 0
    P = IsRight ls

    begun_next : ℕ
    begun_next = if awaits_name st then place else begun

    not_start : is_start st ≡ false
    not_start = not_at_start st g.phase (differ_1 (phase_of st) ph)
      where
        differ_1 : (p : Phase) → p ≡ before → p ≡ between → ⊥
        differ_1 p e f = cc

    not_mark : is_marked st ≡ false
    not_mark = not_at_mark st g.phase (differ_1 (phase_of st) ph)
      where
        differ_1 : (p : Phase) → p ≡ before → p ≡ marked → ⊥
        differ_1 p e f = cc

    no_name : awaits_name st ≡ false
    no_name = awaits_not st not_start not_mark

    same_begun : begun_next ≡ begun
    same_begun = ap (λ b. if b then place else begun) no_name

    -- nothing goes on
    stopped : step unbounded st t ≡ Err Syntax → IsFirst (SchemaRefusal ls) (cause_of why) met
    stopped h = met_first ls (cause_of why) met m.at_place m.first
        (λ q later s d. absurd (none_stopped t g Syntax later h s))

    met_next : Met ls why met (place + 1) begun_next
    met_next = let Q : ℕ → Type 0 = λ z. Met ls why met (place + 1) z in
        subst Q (sym same_begun) (record {
          at_place = m.at_place;
          first = m.first;
          inside = m.inside;
          passed = omega (arith, m.passed);
        })

    -- at the declaration's result
    result : (x : List ℕ) → is_result st ≡ true → t ≡ word x → (count_of x names == 256 ≡ true)
        ⊎ (count_of x names == 256 ≡ false) → IsRight ls (go is_schema_end a (t ∷ ts))
    result x e is (inl full) =
        subst P (sym (ap (λ v. go_on (advance_past a t v) (λ next. go is_schema_end next ts)) (judged_word a t x e is
        ∙ ap (λ b. if b then Some (TooManyConstructors, begun) else Some (why, met)) full)))
        (many_first ls place begun (too_many_of_one t g x e is (equal_number (count_of x names) 256 full))
        (declares t g not_start not_mark) g.none_yet
        (λ d q p. let k = later_or_same met (cause_of why) q d (m.first d q p) in omega (arith, m.inside)))
    result x e is (inr counts) =
        subst P (sym (ap (λ v. go_on (advance_past a t v) (λ next. go is_schema_end next ts)) (judged_word a t x e is
        ∙ ap (λ b. if b then Some (TooManyConstructors, begun) else Some (why, met)) counts)))
        (met_first ls (cause_of why) met m.at_place m.first (λ q later s d.
        let k = after_result_far ts ls (prefix ++ t ∷ []) n.0 (place + 1) _ _ q later (facts_further t g n.0 n.1 room)
        (naming_turn (phase_of st) (phase_of n.0) (is_result st) (next_turn t g n.0 n.1) ph e) s d in
        omega (arith, m.passed)))
      where
        n : IsOk (step unbounded st t)
        n = let Q : Lexeme → Type 0 = λ z. IsOk (step unbounded st z) in subst Q (sym is) (result_goes unbounded st x e)

        word_one : (x y : List ℕ) → word x ≡ word y → x ≡ y
        word_one x y e = cc

        number_equal_no : (y : List ℕ) → x ≡ y → count_of y names ≡ 256 → ⊥
        number_equal_no y s h = differ (count_of x names == 256) (ap (λ z. z == 256) (ap (λ z. count_of z names) s
            ∙ h)) counts

        room : Room (phase_of st) (is_result st) t names
        room = (
          λ p. absurd (differ (is_start st) (between_start st p) not_start),
          λ f y i h. number_equal_no y
              (word_one x y (sym is ∙ i)) h,
        )

    named_or_not : (b : Bool) → is_result st ≡ b →
        ((next : State) → step unbounded st t ≡ Ok next
        → PrefixFacts ls (prefix ++ t ∷ []) ts next (place + 1) begun_next
        (names_with a t) → phase_of next ≡ before → Met ls why met (place + 1) begun_next
        → IsRight ls (go is_schema_end (onward a t unbounded (Some (why, met)) next) ts)) →
        IsRight ls (go is_schema_end a (t ∷ ts))
    named_or_not true e ih = at_name (at_result unbounded st t e)
      where
        at_name : ((x : List ℕ) × (t ≡ word x)) ⊎ ((step unbounded st t ≡ Err Syntax)
            × ((b : Position) → awaits_name b.state ≡ false → judged_name b t ≡ None))
            → IsRight ls (go is_schema_end a (t ∷ ts))
        at_name (inl x) = result x.0 e x.1 (true_or_false (count_of x.0 names == 256))
        at_name (inr x) =
            subst P (sym (ap (λ v. go_on (advance_past a t v) (λ next. go is_schema_end next ts)) (x.1 a no_name)
            ∙ ap (λ o. go_on (after_step a t o) (λ next. go is_schema_end next ts)) x.0)) (stopped x.0)
    named_or_not false e ih =
        subst P (sym (ap (λ z. go_on z (λ next. go is_schema_end next ts))
        (advance_unjudged a t (unjudged a t no_name e)))) (steps (step unbounded st t) refl)
      where
        steps : (o : Outcome) → step unbounded st t ≡ o
            → IsRight ls (go_on (after_step a t o) (λ next. go is_schema_end next ts))
        steps (Ok next) h =
            let Q : List (List ℕ) → Type 0 = λ z. PrefixFacts ls (prefix ++ t ∷ []) ts next (place + 1) begun_next z in
            ih next h (subst Q (sym (names_with_is a t)) (facts_further t g next h (room_inside st t names not_start e)))
            (before_turn (phase_of st) (phase_of next) (is_result st) (next_turn t g next h) ph e) met_next
        steps (Err Syntax) h = stopped h
        steps (Err DeepType) h = absurd (no_limit schemas prefix st t DeepType g.taken tt h)
        steps (Err TooManyConstructors) h = absurd (no_constructors unbounded st t h)
        steps (Err TooManyFields) h = absurd (no_limit schemas prefix st t TooManyFields g.taken tt h)
        steps (Err TooManyParams) h = absurd (no_limit schemas prefix st t TooManyParams g.taken tt h)
