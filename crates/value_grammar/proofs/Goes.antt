-- The steps go through tokens, from one state to another.
use Rattle.std.proofs.Common.{◌≡◌, ℕ, ◌+◌, ◌≤◌, Bool, true, false, ◌&&◌, ◌||◌, nat_le, if◌then◌else◌, List, [], ◌∷◌, ◌++◌, map, length, Option, Some, None, Ok, Err, refl, sym, ap, ◌∙◌, subst, arith, append_assoc}
use Rattle.std.proofs.lemmas.Bool.Decides.{nat_tests}
use Rattle.typed_value.specs.Values.{most_levels, most_parts}
use Rattle.value_text.specs.declared.lexeme.Lexeme.{Lexeme}
use Rattle.value_text.specs.Division.{Placed, lexeme_of, lexemes}
use Rattle.value_text.specs.Tokens.{Token}
use Rattle.value_text.specs.Writes.{most_cells}
use Rattle.value_grammar.specs.declared.cause.Cause.{Cause}
use Rattle.value_grammar.specs.declared.cause.Cause.TheVariants.{BulkText, DeepText, KeyOrder, Range}
use Rattle.value_grammar.specs.Open.{Frame, Open, Spot, due}
use Rattle.value_grammar.specs.Within.{begins_value, is_beyond, is_bulk, is_deep, is_out_of_order, is_paren, limit_of}
use Rattle.value_grammar.specs.Steps.{Held, Stepped, and_then, begin, counted, held_of, one_more, run, step, step_at, unless_limit}

-- from what is open, with so many values and cells, through the tokens to what is open then
abbrev pub G : Open → ℕ → ℕ → List Token → Open → ℕ → ℕ → Type 0
G o m n ts q i k = (ls rest : List Placed) → lexemes ls ≡ map lexeme_of ts → run (held_of o m n) (ls ++ rest) ≡ run (held_of q i k) rest

pub head_is : (l m : Lexeme) (ls ms : List Lexeme) → l ∷ ls ≡ m ∷ ms → l ≡ m
head_is l m ls ms e = cc

pub tail_is : (l m : Lexeme) (ls ms : List Lexeme) → l ∷ ls ≡ m ∷ ms → ls ≡ ms
tail_is l m ls ms e = cc

pub nothing : (o : Open) (m n : ℕ) → G o m n [] o m n
nothing o m n [] rest e = refl
nothing o m n (l ∷ ls) rest e = absurd (cc)

-- a token, at whatever place, and others after it
pub cons_at : (o : Open) (m n : ℕ) (t : Token) (us : List Token) (q : Open) (i k : ℕ) (mid : ℕ → Open) (a b : ℕ)
    → ((p : ℕ) → step (held_of o m n) (p, lexeme_of t) ≡ Ok (held_of (mid p) a b)) → ((p : ℕ) → G (mid p) a b us q i k) → G o m n (t ∷ us) q i k
cons_at o m n t us q i k mid a b f g [] rest e = absurd (cc)
cons_at o m n t us q i k mid a b f g (l ∷ ls) rest e =
    let same = head_is l.1 (lexeme_of t) (lexemes ls) (map lexeme_of us) e in
    let further : Stepped → Stepped = λ r. and_then r (λ next. run next (ls ++ rest)) in
    ap (λ (x : Lexeme). further (step (held_of o m n) (l.0, x))) same
    ∙ ap further (f l.0)
    ∙ g l.0 ls rest (tail_is l.1 (lexeme_of t) (lexemes ls) (map lexeme_of us) e)

pub cons : (o : Open) (m n : ℕ) (t : Token) (us : List Token) (q : Open) (i k : ℕ) (mid : Open) (a b : ℕ)
    → ((p : ℕ) → step (held_of o m n) (p, lexeme_of t) ≡ Ok (held_of mid a b)) → G mid a b us q i k → G o m n (t ∷ us) q i k
cons o m n t us q i k mid a b f g = cons_at o m n t us q i k (λ p. mid) a b f (λ p. g)

pub one : (o : Open) (m n : ℕ) (t : Token) (q : Open) (i k : ℕ) → ((p : ℕ) → step (held_of o m n) (p, lexeme_of t) ≡ Ok (held_of q i k)) → G o m n (t ∷ []) q i k
one o m n t q i k f = cons o m n t [] q i k q i k f (nothing q i k)

-- ---- tokens and others after them

pub record Parted (ls : List Placed) (ts us : List Token) : Type 0 where
  pub first : List Placed
  pub second : List Placed
  pub whole : ls ≡ first ++ second
  pub firsts : lexemes first ≡ map lexeme_of ts
  pub seconds : lexemes second ≡ map lexeme_of us

pub parted : (ls : List Placed) (ts us : List Token) → lexemes ls ≡ map lexeme_of (ts ++ us) → Parted ls ts us
parted ls [] us e = record { first = []; second = ls; whole = refl; firsts = refl; seconds = e }
parted [] (t ∷ ts) us e = absurd (cc)
parted (l ∷ ls) (t ∷ ts) us e =
    let same = head_is l.1 (lexeme_of t) (lexemes ls) (map lexeme_of (ts ++ us)) e in
    let r = parted ls ts us (tail_is l.1 (lexeme_of t) (lexemes ls) (map lexeme_of (ts ++ us)) e) in
    record {
      first = l ∷ r.first;
      second = r.second;
      whole = ap (λ (x : List Placed). l ∷ x) r.whole;
      firsts = (λ i. same i ∷ r.firsts i);
      seconds = r.seconds;
    }

pub join : (o : Open) (m n : ℕ) (ts : List Token) (q : Open) (i k : ℕ) (us : List Token) (r : Open) (x y : ℕ) → G o m n ts q i k → G q i k us r x y
    → G o m n (ts ++ us) r x y
join o m n ts q i k us r x y f g ls rest e =
    let s = parted ls ts us e in
    ap (λ (l : List Placed). run (held_of o m n) (l ++ rest)) s.whole
    ∙ ap (λ (l : List Placed). run (held_of o m n) l) (append_assoc s.first s.second rest)
    ∙ f s.first (s.second ++ rest) s.firsts
    ∙ g s.second rest s.seconds

pub along : (o : Open) (m n : ℕ) (ts us : List Token) (q : Open) (i k : ℕ) → ts ≡ us → G o m n ts q i k → G o m n us q i k
along o m n ts us q i k e g = let P : List Token → Type 0 = λ x. G o m n x q i k in subst P e g

pub to : (o : Open) (m n : ℕ) (ts : List Token) (q r : Open) (i k x y : ℕ) → q ≡ r → i ≡ x → k ≡ y → G o m n ts q i k → G o m n ts r x y
to o m n ts q r i k x y e f h g ls rest s = g ls rest s ∙ (λ j. run (held_of (e j) (f j) (h j)) rest)

pub run_append : (g : Held) (ls ms : List Placed) → run g (ls ++ ms) ≡ and_then (run g ls) (λ x. run x ms)
run_append g [] ms = refl
run_append g (l ∷ ls) ms =
    elim (step g l) as (λ o. and_then o (λ x. run x (ls ++ ms)) ≡ and_then (and_then o (λ x. run x ls)) (λ x. run x ms)) [
      | Ok q ↦ run_append q ls ms
      | Err refusal ↦ refl
    ]

-- ---- limits that are not passed

abbrev Choice : Bool → Bool → Bool → Bool → Option Cause
Choice a b c d = if a then Some DeepText else if b then Some BulkText else if c then Some Range else if d then Some KeyOrder else None

pub free : (values cells : ℕ) (spot : Spot) (below : List Frame) (l : Lexeme) → is_deep spot below l ≡ false → is_bulk values cells spot l ≡ false
    → is_beyond l ≡ false → is_out_of_order spot l ≡ false → limit_of values cells spot below l ≡ None
free values cells spot below l a b c d = (λ i. Choice (a i) (b i) (c i) (d i))

pub within : (n most : ℕ) → n + 1 ≤ most → nat_le most n ≡ false
within n most h = grind (arith, nat_tests)

not_deep : (a b : Bool) → a ≡ false → (a && b) ≡ false
not_deep false b e = refl
not_deep true b e = absurd (cc)

bulk_free : (x y c d : Bool) → c ≡ false → (y ≡ true → d ≡ false) → ((x && c) || (y && d)) ≡ false
bulk_free true true false true e f = f refl
bulk_free true true false false e f = refl
bulk_free true false false d e f = refl
bulk_free false true c true e f = f refl
bulk_free false true c false e f = refl
bulk_free false false c d e f = refl
bulk_free true y true d e f = absurd (cc)

-- a value that begins where one is due
pub due_step : (l : Lexeme) (p : ℕ) (below : List Frame) (m n : ℕ) (b : Bool) → begins_value l ≡ true → is_beyond l ≡ false → is_paren l ≡ b
    → (b ≡ true → n + 1 ≤ most_cells) → length below + 1 ≤ most_levels → m + 1 ≤ most_parts
    → step_at due below m n l p ≡ counted (begin l p below) (m + 1) (one_more b n)
due_step l p below m n b e c g h levels parts =
    let bulk : is_bulk m n due l ≡ false =
    bulk_free (begins_value l) (is_paren l) (nat_le most_parts m) (nat_le most_cells n) (within m most_parts parts)
    (λ f. within n most_cells (h (sym g ∙ f))) in
    let none = free m n due below l (not_deep (nat_le most_levels (length below)) (begins_value l) (within (length below) most_levels levels)) bulk c refl in
    (λ i. counted (unless_limit (none i) p (begin l p below)) (one_more (e i) m) (one_more (g i) n))
