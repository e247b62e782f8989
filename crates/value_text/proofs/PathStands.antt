-- Where bytes lead to says what they are: whole steps and the bytes of one more. So a path or its bad place is found.
use Rattle.std.proofs.Common.{◌≡◌, ◌≢◌, ◌⊎◌, inl, inr, ⊎_elim, ℕ, ◌+◌, ◌-◌, ◌<◌, ◌≤◌, true, false, List, [], ◌∷◌, ◌++◌, length, take, drop, get_or, Option, Some, None, refl, sym, ap, ◌∙◌, subst, arith, append_assoc, append-nil, length-append}
use Rattle.std.proofs.lemmas.Bool.{cases_eq, cases_Bool}
use Rattle.std.proofs.lemmas.List.{drop-append-le, drop-take, drop_all, length-take-le, length_push, take-append-drop, take-append-le, take_all, take_at, take_more}
use Rattle.typed_value.specs.Paths.{Stride}
use Rattle.value_text.specs.declared.point.Point.{Point}
use Rattle.value_text.specs.declared.point.Point.TheVariants.{Root, First, Due, X, Name, Blank, Count, Zero, Number, Key, Marked, Closed}
use Rattle.value_text.specs.PathText.{AreSteps, GoesOn, IsBadPath, IsStep, PathWrites, path_text, step_text, steps_text}
use Rattle.value_text.specs.PathPoints.{Holds, is_step, may_end, next, onward, walk}
use Rattle.value_text.specs.PathKeptLaws.{begins_step, kept, whole_step}
use Rattle.value_text.proofs.PathWalks.{walk-one, walk-then, written_leads}

-- ---- whole steps, and the bytes of one more from `start` on

pub record InSteps (steps : List Stride) (start : ℕ) (p : Point) (text : List ℕ) : Type 0 where
  pub begun : take start text ≡ steps_text steps ++ 47 ∷ []
  pub are_steps : AreSteps steps
  pub within : start ≤ length text
  pub holds : Holds p (drop start text)
  pub first : p ≡ First → steps ≡ []

pub data So (steps : List Stride) (start : ℕ) (p : Point) (text : List ℕ) : Type 0 where
  at_root : p ≡ Root → text ≡ [] → steps ≡ [] → So steps start p text
  in_steps : InSteps steps start p text → So steps start p text

pub in_step : (steps : List Stride) (start : ℕ) (p : Point) (text : List ℕ) → So steps start p text → is_step p ≡ true → InSteps steps start p text
in_step steps start p text (at_root e f g) h =
    let no : false ≡ true = ap is_step (sym e) ∙ h in
    absurd (cc)
in_step steps start p text (in_steps h) _ = h

-- the whole text, where a step's bytes are known
pub text_is : (steps : List Stride) (start : ℕ) (p : Point) (text : List ℕ) → InSteps steps start p text
    → text ≡ steps_text steps ++ 47 ∷ drop start text
text_is steps start p text h =
    sym (take-append-drop start text) ∙ ap (λ (l : List ℕ). l ++ drop start text) h.begun ∙ append_assoc (steps_text steps) (47 ∷ []) (drop start text)

steps_text-push : (steps : List Stride) (s : Stride) → steps_text (steps ++ s ∷ []) ≡ steps_text steps ++ 47 ∷ step_text s
steps_text-push [] s = ap (λ (l : List ℕ). 47 ∷ l) (append-nil (step_text s))
steps_text-push (r ∷ steps) s =
    ap (λ (l : List ℕ). 47 ∷ step_text r ++ l) (steps_text-push steps s) ∙ sym (append_assoc (47 ∷ step_text r) (steps_text steps) (47 ∷ step_text s))

are_steps-push : (steps : List Stride) (s : Stride) → AreSteps steps → IsStep s → AreSteps (steps ++ s ∷ [])
are_steps-push [] s h t = (t, tt)
are_steps-push (r ∷ steps) s h t = (h.0, are_steps-push steps s h.1 t)

path_text-push : (steps : List Stride) (s : Stride) → path_text (steps ++ s ∷ []) ≡ steps_text (steps ++ s ∷ [])
path_text-push [] s = refl
path_text-push (r ∷ steps) s = refl

-- ---- one more byte

not_empty : (xs : List ℕ) (c : ℕ) → xs ++ c ∷ [] ≡ [] → ⊥
not_empty xs c e = let n = length_push xs c in let z : length (xs ++ c ∷ []) ≡ 0 = ap length e in absurd (omega arith)

root_only : (p q : Point) (c : ℕ) → p ≡ Root → c ≢ 47 → next p c ≡ Some q → ⊥
root_only p q c e n f = grind arith

pub one_more : (steps : List Stride) (start : ℕ) (p q : Point) (text : List ℕ) (c : ℕ) → c ≢ 47 → So steps start p text → next p c ≡ Some q
    → So steps start q (text ++ c ∷ [])
one_more steps start p q text c n (at_root e f g) t = absurd (root_only p q c e n t)
one_more steps start p q text c n (in_steps h) t =
    let d : drop start (text ++ c ∷ []) ≡ drop start text ++ c ∷ [] = drop-append-le start text (c ∷ []) h.within in
    let P : List ℕ → Type 0 = λ s. Holds q s in
    let there : Holds q (drop start text ++ c ∷ []) = kept p q (drop start text) c n h.holds t in
    let size = length_push text c in
    let within = h.within in
    in_steps (record {
      begun = take-append-le start text (c ∷ []) h.within ∙ h.begun;
      are_steps = h.are_steps;
      within = omega arith;
      holds = subst P (sym d) there;
      first = λ e. let Q : Point → Type 0 = λ r. Holds r (drop start text ++ c ∷ []) in absurd (not_empty (drop start text) c (subst Q e there));
    })

-- what a '/' leads to
pub data Slashed (p q : Point) : Type 0 where
  from_root : p ≡ Root → q ≡ First → Slashed p q
  from_step : is_step p ≡ true → q ≡ Due → Slashed p q

pub slashed : (p q : Point) → next p 47 ≡ Some q → Slashed p q
slashed Root q e = from_root refl (cc)
slashed First q e = absurd (cc)
slashed Due q e = absurd (cc)
slashed X q e = from_step refl (cc)
slashed Name q e = from_step refl (cc)
slashed Blank q e = from_step refl (cc)
slashed Count q e = from_step refl (cc)
slashed Zero q e = from_step refl (cc)
slashed (Number n) q e = from_step refl (cc)
slashed (Key k last) q e = absurd (cc)
slashed Marked q e = absurd (cc)
slashed Closed q e = from_step refl (cc)

take_whole : (text : List ℕ) (c : ℕ) → take (length text + 1) (text ++ c ∷ []) ≡ text ++ c ∷ []
take_whole text c = let n = length_push text c in take_all (length text + 1) (text ++ c ∷ []) (omega arith)

drop_whole : (text : List ℕ) (c : ℕ) → drop (length text + 1) (text ++ c ∷ []) ≡ []
drop_whole text c = let n = length_push text c in drop_all (length text + 1) (text ++ c ∷ []) (omega arith)

-- the first '/'
pub after_root : (p q : Point) (text : List ℕ) → text ≡ [] → q ≡ First → So [] (length text + 1) q (text ++ 47 ∷ [])
after_root p q text e f =
    let n = length_push text 47 in
    let P : Point → Type 0 = λ r. Holds r (drop (length text + 1) (text ++ 47 ∷ [])) in
    in_steps (record {
      begun = take_whole text 47 ∙ ap (λ (l : List ℕ). l ++ 47 ∷ []) e;
      are_steps = tt;
      within = omega arith;
      holds = subst P (sym f) (drop_whole text 47);
      first = λ _. refl;
    })

-- a '/' after a whole step
pub after_step : (steps : List Stride) (start : ℕ) (p q : Point) (text : List ℕ) (s : Stride) → InSteps steps start p text → IsStep s
    → drop start text ≡ step_text s → q ≡ Due → So (steps ++ s ∷ []) (length text + 1) q (text ++ 47 ∷ [])
after_step steps start p q text s h t e f =
    let n = length_push text 47 in
    let P : Point → Type 0 = λ r. Holds r (drop (length text + 1) (text ++ 47 ∷ [])) in
    let whole : text ≡ steps_text (steps ++ s ∷ []) =
    text_is steps start p text h ∙ ap (λ (l : List ℕ). steps_text steps ++ 47 ∷ l) e ∙ sym (steps_text-push steps s) in
    in_steps (record {
      begun = take_whole text 47 ∙ ap (λ (l : List ℕ). l ++ 47 ∷ []) whole;
      are_steps = are_steps-push steps s h.are_steps t;
      within = omega arith;
      holds = subst P (sym f) (drop_whole text 47);
      first = λ e. absurd (let no : First ≡ Due = sym e ∙ f in cc);
    })

-- ---- bytes that lead somewhere

pub record Stands (p : Point) (text : List ℕ) : Type 0 where
  pub steps : List Stride
  pub start : ℕ
  pub so : So steps start p text

root_stands : Stands Root []
root_stands = record { steps = []; start = 0; so = at_root refl refl refl }

first_slash : (p q : Point) (text : List ℕ) (steps : List Stride) (start : ℕ) → So steps start p text → p ≡ Root → q ≡ First
    → Stands q (text ++ 47 ∷ [])
first_slash p q text steps start (at_root e f g) d r = record { steps = []; start = length text + 1; so = after_root p q text f r }
first_slash p q text steps start (in_steps h) d r =
    let P : Point → Type 0 = λ x. Holds x (drop start text) in
    absurd (subst P d h.holds)

slash_stands : (p q : Point) (text : List ℕ) → Stands p text → Slashed p q → Stands q (text ++ 47 ∷ [])
slash_stands p q text h (from_root d r) = first_slash p q text h.steps h.start h.so d r
slash_stands p q text h (from_step s d) =
    let i = in_step h.steps h.start p text h.so s in
    let w = whole_step p (drop h.start text) i.holds s in
    record { steps = h.steps ++ w.what ∷ []; start = length text + 1; so = after_step h.steps h.start p q text w.what i w.is_step w.text d }

one_stands : (p q : Point) (text : List ℕ) (c : ℕ) → Stands p text → next p c ≡ Some q → Stands q (text ++ c ∷ [])
one_stands p q text c h t = ⊎_elim
    (λ (e : c ≡ 47).
    let P : ℕ → Type 0 = λ x. Stands q (text ++ x ∷ []) in
    let there : next p 47 ≡ Some q = ap (λ (x : ℕ). next p x) (sym e) ∙ t in
    subst P (sym e) (slash_stands p q text h (slashed p q there)))
    (λ (e : c ≢ 47). record { steps = h.steps; start = h.start; so = one_more h.steps h.start p q text c e h.so t })
    (cases_eq c 47)

some_next : (o : Option Point) (q : Point) (rest : List ℕ) → onward o (λ r. walk r rest) ≡ Some q → (m : Point) × (o ≡ Some m) × (walk m rest ≡ Some q)
some_next (Some m) q rest e = (m, refl, e)
some_next None q rest e = absurd (cc)

walks_on : (p q : Point) (text rest : List ℕ) → Stands p text → walk p rest ≡ Some q → Stands q (text ++ rest)
walks_on p q text [] h e =
    let same : p ≡ q = cc in
    let P : Point → Type 0 = λ r. Stands r (text ++ []) in
    let Q : List ℕ → Type 0 = λ t. Stands p t in
    subst P same (subst Q (sym (append-nil text)) h)
walks_on p q text (c ∷ rest) h e =
    let m = some_next (next p c) q rest e in
    let P : List ℕ → Type 0 = λ t. Stands q t in
    subst P (append_assoc text (c ∷ []) rest) (walks_on m.0 q (text ++ c ∷ []) rest (one_stands p m.0 text c h m.1) m.2)

pub stands : (p : Point) (text : List ℕ) → walk Root text ≡ Some p → Stands p text
stands p text e = walks_on Root p [] text root_stands e

-- ---- what they write

pub record Written (text : List ℕ) : Type 0 where
  pub steps : List Stride
  pub writes : PathWrites text steps

-- whole steps and one more are a path
pub with_step : (steps : List Stride) (start : ℕ) (p : Point) (text : List ℕ) (s : Stride) → InSteps steps start p text → IsStep s
    → drop start text ≡ step_text s → PathWrites text (steps ++ s ∷ [])
with_step steps start p text s h t e = (
  are_steps-push steps s h.are_steps t,
  text_is steps start p text h ∙ ap (λ (l : List ℕ). steps_text steps ++ 47 ∷ l) e ∙ sym (steps_text-push steps s) ∙ sym (path_text-push steps s),
)

-- a '/' alone
pub without_step : (steps : List Stride) (start : ℕ) (p : Point) (text : List ℕ) → So steps start p text → p ≡ First → PathWrites text steps
without_step steps start p text (at_root e f g) d = absurd (let no : Root ≡ First = sym e ∙ d in cc)
without_step steps start p text (in_steps h) d =
    let none : steps ≡ [] = h.first d in
    let P : Point → Type 0 = λ r. Holds r (drop start text) in
    let nothing : drop start text ≡ [] = subst P d h.holds in (
      h.are_steps,
      text_is steps start p text h ∙ ap (λ (l : List Stride). steps_text l ++ 47 ∷ drop start text) none
          ∙ ap (λ (l : List ℕ). 47 ∷ l) nothing ∙ ap path_text (sym none),
    )

-- where a path may end: after the first '/', or after a whole step
pub data MayEnd (p : Point) : Type 0 where
  at_first : p ≡ First → MayEnd p
  at_step : is_step p ≡ true → MayEnd p

pub may_end_by : (p : Point) → may_end p ≡ true → MayEnd p
may_end_by Root h = absurd (cc)
may_end_by First h = at_first refl
may_end_by Due h = absurd (cc)
may_end_by X h = at_step refl
may_end_by Name h = at_step refl
may_end_by Blank h = at_step refl
may_end_by Count h = at_step refl
may_end_by Zero h = at_step refl
may_end_by (Number n) h = at_step refl
may_end_by (Key k last) h = absurd (cc)
may_end_by Marked h = absurd (cc)
may_end_by Closed h = at_step refl

written_by : (p : Point) (text : List ℕ) → Stands p text → MayEnd p → Written text
written_by p text h (at_first e) = record { steps = h.steps; writes = without_step h.steps h.start p text h.so e }
written_by p text h (at_step s) =
    let i = in_step h.steps h.start p text h.so s in
    let w = whole_step p (drop h.start text) i.holds s in
    record { steps = h.steps ++ w.what ∷ []; writes = with_step h.steps h.start p text w.what i w.is_step w.text }

pub written : (p : Point) (text : List ℕ) → walk Root text ≡ Some p → may_end p ≡ true → Written text
written p text e h = written_by p text (stands p text e) (may_end_by p h)

-- ---- texts that go on

root_goes : GoesOn []
root_goes = (47 ∷ [], [], (tt, refl))

begun_goes : (steps : List Stride) (start : ℕ) (p : Point) (text : List ℕ) → InSteps steps start p text → GoesOn text
begun_goes steps start p text h =
    let b = begins_step p (drop start text) h.holds in
    let e : text ++ b.after ≡ path_text (steps ++ b.whole.what ∷ []) =
    ap (λ (l : List ℕ). l ++ b.after) (text_is steps start p text h)
    ∙ append_assoc (steps_text steps) (47 ∷ drop start text) b.after
    ∙ ap (λ (l : List ℕ). steps_text steps ++ 47 ∷ l) b.whole.text
    ∙ sym (steps_text-push steps b.whole.what) ∙ sym (path_text-push steps b.whole.what) in
    (b.after, steps ++ b.whole.what ∷ [], (are_steps-push steps b.whole.what h.are_steps b.whole.is_step, e))

so_goes : (p : Point) (text : List ℕ) (steps : List Stride) (start : ℕ) → So steps start p text → GoesOn text
so_goes p text steps start (at_root e f g) = let P : List ℕ → Type 0 = λ t. GoesOn t in subst P (sym f) root_goes
so_goes p text steps start (in_steps h) = begun_goes steps start p text h

goes_on : (p : Point) (text : List ℕ) → Stands p text → GoesOn text
goes_on p text h = so_goes p text h.steps h.start h.so

-- where a byte leads nowhere no path goes on
pub stuck : (p : Point) (front : List ℕ) (c : ℕ) → walk Root front ≡ Some p → next p c ≡ None → GoesOn (front ++ c ∷ []) → ⊥
stuck p front c e n g =
    let l = written_leads ((front ++ c ∷ []) ++ g.0) g.1 g.2 in
    let there : walk Root ((front ++ c ∷ []) ++ g.0) ≡ None =
    ap (walk Root) (append_assoc front (c ∷ []) g.0) ∙ walk-then Root p front (c ∷ g.0) e ∙ ap (λ (o : Option Point). onward o (λ q. walk q g.0)) n in
    let no : Some l.point ≡ None = sym l.walked ∙ there in
    absurd (cc)

pub bad_byte : (p : Point) (text : List ℕ) (i : ℕ) (c : ℕ) → i < length text → take (i + 1) text ≡ take i text ++ c ∷ []
    → walk Root (take i text) ≡ Some p → next p c ≡ None → IsBadPath text i
bad_byte p text i c l t e n =
    let P : List ℕ → Type 0 = λ x. GoesOn x in
    record {
      within = omega arith;
      before = goes_on p (take i text) (stands p (take i text) e);
      stuck = λ _ g. stuck p (take i text) c e n (subst P t g);
      unfinished = λ z. absurd (omega arith);
    }

pub bad_end : (p : Point) (text : List ℕ) → walk Root text ≡ Some p → may_end p ≡ false → IsBadPath text (length text)
bad_end p text e h =
    let P : List ℕ → Type 0 = λ x. GoesOn x in
    let whole : take (length text) text ≡ text = take_all (length text) text (omega arith) in
    record {
      within = omega arith;
      before = subst P (sym whole) (goes_on p text (stands p text e));
      stuck = λ z. absurd (omega arith);
      unfinished = λ _ steps w.
          let l = written_leads text steps w in
          let same : Some l.point ≡ Some p = sym l.walked ∙ e in
          let point : l.point ≡ p = cc in
          let no : true ≡ false = sym l.may_end ∙ ap may_end point ∙ h in
          absurd (cc);
    }

-- ---- each text has an answer

pub data PathAnswer (text : List ℕ) : Type 0 where
  writes : (steps : List Stride) → PathWrites text steps → PathAnswer text
  is_bad : (place : ℕ) → IsBadPath text place → PathAnswer text

at_end : (p : Point) (text : List ℕ) → walk Root text ≡ Some p → PathAnswer text
at_end p text e = ⊎_elim
    (λ (h : may_end p ≡ true). let w = written p text e h in writes w.steps w.writes)
    (λ (h : may_end p ≡ false). is_bad (length text) (bad_end p text e h))
    (cases_Bool (may_end p))

from_byte : (p : Point) (text front : List ℕ) (c : ℕ) (rest : List ℕ) (o : Option Point) → text ≡ front ++ c ∷ rest → walk Root front ≡ Some p
    → next p c ≡ o → ((q : Point) → text ≡ (front ++ c ∷ []) ++ rest → walk Root (front ++ c ∷ []) ≡ Some q → PathAnswer text) → PathAnswer text
from_byte p text front c rest (Some q) e w n further =
    further q (e ∙ sym (append_assoc front (c ∷ []) rest)) (walk-then Root p front (c ∷ []) w ∙ walk-one p q c n)
from_byte p text front c rest None e w n further =
    let size : length text ≡ length front + length (c ∷ rest) = ap length e ∙ length-append front (c ∷ rest) in
    let before : take (length front) text ≡ front = ap (take (length front)) e ∙ take_at front (c ∷ rest) (length front) refl in
    let m = length_push front c in
    let with_it : take (length front + 1) text ≡ take (length front) text ++ c ∷ [] =
    ap (take (length front + 1)) (e ∙ sym (append_assoc front (c ∷ []) rest)) ∙ take_at (front ++ c ∷ []) rest (length front + 1) (omega arith)
    ∙ ap (λ (l : List ℕ). l ++ c ∷ []) (sym before) in
    is_bad (length front) (bad_byte p text (length front) c (omega arith) with_it (ap (walk Root) before ∙ w) n)

answer_on : (p : Point) (text front rest : List ℕ) → text ≡ front ++ rest → walk Root front ≡ Some p → PathAnswer text
answer_on p text front [] e w = at_end p text (ap (walk Root) (e ∙ append-nil front) ∙ w)
answer_on p text front (c ∷ rest) e w =
    from_byte p text front c rest (next p c) e w refl (λ q f v. answer_on q text (front ++ c ∷ []) rest f v)

pub answer : (text : List ℕ) → PathAnswer text
answer text = answer_on Root text [] text refl refl

told : (text : List ℕ) → PathAnswer text → ((steps : List Stride) × PathWrites text steps) ⊎ ((place : ℕ) × IsBadPath text place)
told text (writes steps w) = inl (steps, w)
told text (is_bad place b) = inr (place, b)

pub some_answer : (text : List ℕ) → ((steps : List Stride) × PathWrites text steps) ⊎ ((place : ℕ) × IsBadPath text place)
some_answer text = told text (answer text)

-- ---- for the loop over the bytes

pub slice_is : (text : List ℕ) (start i : ℕ) → start ≤ i → take (i - start) (drop start text) ≡ drop start (take i text)
slice_is text start i h =
    let s : start + (i - start) ≡ i = omega arith in
    sym (ap (λ (n : ℕ). drop start (take n text)) (sym s) ∙ drop-take start (i - start) text)

pub start_within : (steps : List Stride) (start : ℕ) (p : Point) (text : List ℕ) (i : ℕ) → i ≤ length text → InSteps steps start p (take i text) → start ≤ i
start_within steps start p text i l h = let size = length-take-le i text l in let within = h.within in omega arith

-- the bytes of the step that ends before place i
pub held : (steps : List Stride) (start : ℕ) (p : Point) (text : List ℕ) (i : ℕ) → i ≤ length text → So steps start p (take i text) → is_step p ≡ true
    → Holds p (take (i - start) (drop start text))
held steps start p text i l h s =
    let n = in_step steps start p (take i text) h s in
    let P : List ℕ → Type 0 = λ t. Holds p t in
    subst P (sym (slice_is text start i (start_within steps start p text i l n))) n.holds

pub next_walked : (p q : Point) (text : List ℕ) (i c : ℕ) → i < length text → c ≡ get_or text i 0 → walk Root (take i text) ≡ Some p → next p c ≡ Some q
    → walk Root (take (i + 1) text) ≡ Some q
next_walked p q text i c l e w n =
    ap (walk Root) (take_more text i 0 l ∙ ap (λ (x : ℕ). take i text ++ x ∷ []) (sym e)) ∙ walk-then Root p (take i text) (c ∷ []) w ∙ walk-one p q c n

-- what is known after one byte, by what is known of the text and the byte
pub next_so : (steps : List Stride) (start : ℕ) (q : Point) (text : List ℕ) (i c : ℕ) → i < length text → c ≡ get_or text i 0
    → So steps start q (take i text ++ c ∷ []) → So steps start q (take (i + 1) text)
next_so steps start q text i c l e h =
    let P : List ℕ → Type 0 = λ t. So steps start q t in
    subst P (sym (take_more text i 0 l ∙ ap (λ (x : ℕ). take i text ++ x ∷ []) (sym e))) h

-- a byte that is no '/'
pub plain_so : (steps : List Stride) (start : ℕ) (p q : Point) (text : List ℕ) (i c : ℕ) → i < length text → c ≡ get_or text i 0 → c ≢ 47
    → So steps start p (take i text) → next p c ≡ Some q → So steps start q (take (i + 1) text)
plain_so steps start p q text i c l e n h t = next_so steps start q text i c l e (one_more steps start p q (take i text) c n h t)

slash_next : (p q : Point) (c : ℕ) → c ≡ 47 → next p c ≡ Some q → next p 47 ≡ Some q
slash_next p q c e t = ap (λ (x : ℕ). next p x) (sym e) ∙ t

-- a '/' after a whole step
pub step_so : (steps more : List Stride) (start : ℕ) (p q : Point) (text : List ℕ) (i c : ℕ) (s : Stride) → i < length text → c ≡ get_or text i 0 → c ≡ 47
    → So steps start p (take i text) → next p c ≡ Some q → is_step p ≡ true → IsStep s → take (i - start) (drop start text) ≡ step_text s
    → more ≡ steps ++ s ∷ [] → So more (i + 1) q (take (i + 1) text)
step_so steps more start p q text i c s l e d h t w k b m =
    let n = in_step steps start p (take i text) h w in
    let size : length (take i text) ≡ i = length-take-le i text (omega arith) in
    let there : So (steps ++ s ∷ []) (length (take i text) + 1) q (take i text ++ 47 ∷ []) =
    after_step steps start p q (take i text) s n k (sym (slice_is text start i (start_within steps start p text i (omega arith) n)) ∙ b)
    (due_at (slashed p q (slash_next p q c d t)) w) in
    let P : List Stride → Type 0 = λ ss. So ss (i + 1) q (take i text ++ c ∷ []) in
    let Q : ℕ → Type 0 = λ x. So (steps ++ s ∷ []) (x + 1) q (take i text ++ 47 ∷ []) in
    let R : ℕ → Type 0 = λ x. So (steps ++ s ∷ []) (i + 1) q (take i text ++ x ∷ []) in
    next_so more (i + 1) q text i c l e (subst P (sym m) (subst R (sym d) (subst Q size there)))
  where
    due_at : Slashed p q → is_step p ≡ true → q ≡ Due
    due_at (from_root f g) w = absurd (let no : false ≡ true = ap is_step (sym f) ∙ w in cc)
    due_at (from_step f g) w = g

-- the first '/'
pub first_so : (steps : List Stride) (start : ℕ) (p q : Point) (text : List ℕ) (i c : ℕ) → i < length text → c ≡ get_or text i 0 → c ≡ 47
    → So steps start p (take i text) → next p c ≡ Some q → is_step p ≡ false → So steps (i + 1) q (take (i + 1) text)
first_so steps start p q text i c l e d h t w = root_so h (slashed p q (slash_next p q c d t))
  where
    at_first : take i text ≡ [] → steps ≡ [] → q ≡ First → So steps (i + 1) q (take (i + 1) text)
    at_first f g k =
        let size : length (take i text) ≡ i = length-take-le i text (omega arith) in
        let there : So [] (length (take i text) + 1) q (take i text ++ 47 ∷ []) = after_root Root q (take i text) f k in
        let P : List Stride → Type 0 = λ ss. So ss (i + 1) q (take i text ++ c ∷ []) in
        let Q : ℕ → Type 0 = λ x. So [] (x + 1) q (take i text ++ 47 ∷ []) in
        let R : ℕ → Type 0 = λ x. So [] (i + 1) q (take i text ++ x ∷ []) in
        next_so steps (i + 1) q text i c l e (subst P (sym g) (subst R (sym d) (subst Q size there)))

    root_so : So steps start p (take i text) → Slashed p q → So steps (i + 1) q (take (i + 1) text)
    root_so (at_root f g k) (from_root m n) = at_first g k n
    root_so (in_steps f) (from_root m n) = absurd (let P : Point → Type 0 = λ x. Holds x (drop start (take i text)) in subst P m f.holds)
    root_so f (from_step m n) = absurd (let no : true ≡ false = sym m ∙ w in cc)

pub bad_at : (p : Point) (text : List ℕ) (i c : ℕ) → i < length text → c ≡ get_or text i 0 → walk Root (take i text) ≡ Some p → next p c ≡ None → IsBadPath text i
bad_at p text i c l e w n = bad_byte p text i c l (take_more text i 0 l ∙ ap (λ (x : ℕ). take i text ++ x ∷ []) (sym e)) w n

whole_text : (text : List ℕ) (i : ℕ) → length text ≤ i → take i text ≡ text
whole_text text i l = take_all i text l

pub bad_at_end : (p : Point) (text : List ℕ) (i : ℕ) → length text ≤ i → walk Root (take i text) ≡ Some p → may_end p ≡ false → IsBadPath text (length text)
bad_at_end p text i l w h = bad_end p text (ap (walk Root) (sym (take_all i text l)) ∙ w) h

pub so_at_end : (steps : List Stride) (start : ℕ) (p : Point) (text : List ℕ) (i : ℕ) → length text ≤ i → So steps start p (take i text) → So steps start p text
so_at_end steps start p text i l h = let P : List ℕ → Type 0 = λ t. So steps start p t in subst P (take_all i text l) h

pub held_at_end : (steps : List Stride) (start : ℕ) (p : Point) (text : List ℕ) (i : ℕ) → length text ≤ i → So steps start p (take i text) → is_step p ≡ true
    → Holds p (drop start text)
held_at_end steps start p text i l h s = (in_step steps start p text (so_at_end steps start p text i l h) s).holds

pub ends_with_step : (steps more : List Stride) (start : ℕ) (p : Point) (text : List ℕ) (i : ℕ) (s : Stride) → length text ≤ i
    → So steps start p (take i text) → is_step p ≡ true → IsStep s → drop start text ≡ step_text s → more ≡ steps ++ s ∷ [] → PathWrites text more
ends_with_step steps more start p text i s l h w k e m =
    let P : List Stride → Type 0 = λ ss. PathWrites text ss in
    subst P (sym m) (with_step steps start p text s (in_step steps start p text (so_at_end steps start p text i l h) w) k e)

pub ends_without : (steps : List Stride) (start : ℕ) (p : Point) (text : List ℕ) (i : ℕ) → length text ≤ i
    → So steps start p (take i text) → may_end p ≡ true → is_step p ≡ false → PathWrites text steps
ends_without steps start p text i l h m w = by_end (may_end_by p m)
  where
    by_end : MayEnd p → PathWrites text steps
    by_end (at_first e) = without_step steps start p text (so_at_end steps start p text i l h) e
    by_end (at_step e) = absurd (let no : true ≡ false = sym e ∙ w in cc)
