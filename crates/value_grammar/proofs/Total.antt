-- Each text leads the steps to a whole value at its end, or to a stop.
use Rattle.std.proofs.Common.{◌≡◌, ◌≢◌, ◌⊎◌, inl, inr, ℕ, zero, suc, ◌+◌, ◌<◌, ◌≤◌, true, false, get_or, List, [], ◌∷◌, take, drop, length, Option, Some, None, Ok, Err, refl, sym, ap, ◌∙◌, arith}
use Rattle.std.proofs.lemmas.List.{length-drop}
use Rattle.typed_value.specs.Values.{Plain}
use Rattle.value_text.specs.declared.lexeme.Lexeme.{Lexeme}
use Rattle.value_text.specs.Division.{space_before}
use Rattle.value_text.specs.LexemePoints.{Leads, is_end, next}
use Rattle.value_text.specs.LexemeKeptLaws.{spelled}
use Rattle.value_text.specs.ScansLaws.{holds, nothing, some_bytes, stands}
use Rattle.value_text.specs.Walks.{walk, walk-more}
use Rattle.value_text.specs.Lexemes.{NothingStands, Stands}
use Rattle.value_text.specs.Writes.{TextWrites}
use Rattle.value_grammar.specs.declared.cause.Cause.{Cause}
use Rattle.value_grammar.specs.declared.cause.Cause.TheVariants.{Syntax}
use Rattle.value_grammar.specs.Open.{Frame, Open, Spot, at, done}
use Rattle.value_grammar.specs.Steps.{Held, Stepped, start, step}
use Rattle.value_grammar.specs.Reading.{Finishes, Reaches, Stops, at_end, at_lexeme, at_nothing}
use Rattle.value_grammar.specs.ReadingLaws.{reaches_start, reaches_step}
use Rattle.value_grammar.specs.Refused.{TextRefused}
use Rattle.value_grammar.proofs.First.{stops_refused}
use Rattle.value_grammar.proofs.Sound.{finished_writes}

-- ---- what stands at the beginning of a text

-- how many bytes lead on, and where to
record Farthest {S : Type 0} (on : S → ℕ → Option S) (p : S) (text : List ℕ) : Type 0 where
  n : ℕ
  q : S
  within : n ≤ length text
  walked : walk on p (take n text) ≡ Some q
  stuck : n < length text → on q (get_or text n 0) ≡ None

farthest : {S : Type 0} (on : S → ℕ → Option S) (p : S) (text : List ℕ) → Farthest on p text
farthest on p [] = record { n = 0; q = p; within = omega arith; walked = refl; stuck = λ h. absurd (omega arith) }
farthest {S} on p (c ∷ cs) = by_next (on p c) refl (λ r. farthest on r cs)
  where
    by_next : (o : Option S) → on p c ≡ o → ((r : S) → Farthest on r cs) → Farthest on p (c ∷ cs)
    by_next None e go = record { n = 0; q = p; within = omega arith; walked = refl; stuck = λ h. e }
    by_next (Some r) e go =
        let f = go r in
        let w = f.within in
        record {
          n = suc f.n;
          q = f.q;
          within = omega (arith, w);
          walked = walk-more on p r c (take f.n cs) e ∙ f.walked;
          stuck = λ h. f.stuck (omega (arith, h));
        }

-- what follows from how far they lead
from_farthest : {S X : Type 0} (on : S → ℕ → Option S) (p : S) (text : List ℕ)
    → ((n : ℕ) (q : S) → n ≤ length text → walk on p (take n text) ≡ Some q → (n < length text → on q (get_or text n 0) ≡ None) → X) → X
from_farthest on p text k = let f = farthest on p text in k f.n f.q f.within f.walked f.stuck

record SomeStands (text : List ℕ) : Type 0 where
  l : Lexeme
  n : ℕ
  there : Stands l n text

lexeme_or_none : (text : List ℕ) → SomeStands text ⊎ NothingStands text
lexeme_or_none text =
    from_farthest next _ text
    (λ n q w x y.
    let h : Leads text n q = record { within = w; walked = x; stuck = y } in
    elim (is_end q) as (λ b. is_end q ≡ b → SomeStands text ⊎ NothingStands text) [
      | true ↦ λ e. let s = spelled q (take n text) (holds q (take n text) x) e in inl (record { l = s.what; n = n; there = stands text n q s.what h s.spells })
      | false ↦ λ e. inr (nothing text n q h e)
    ] refl)

-- ---- where the steps lead

data Leaves (file : List ℕ) : Type 0 where
  finishes : (v : Plain) → Finishes file v → Leaves file
  stops : (cause : Cause) (byte : ℕ) → Stops file cause byte → Leaves file

end_leaves : (file : List ℕ) (place : ℕ) (h : Held) → Reaches file place h → drop place file ≡ [] → (spot : Spot) (below : List Frame) → h.begun ≡ at spot below → Leaves file
end_leaves file place h r e (done v) below is = finishes v (record { place = place; held = h; reaches = r; ends = e; below = below; whole = is })
end_leaves file place h r e spot below is = stops Syntax place (at_end r e spot below is tt)

open_leaves : (file : List ℕ) (place : ℕ) (h : Held) → Reaches file place h → drop place file ≡ [] → (o : Open) → h.begun ≡ o → Leaves file
open_leaves file place h r e (at spot below) is = end_leaves file place h r e spot below is

-- one more step, and what comes after it where less of the text is left
one_step : (file : List ℕ) (place : ℕ) (h : Held) → Reaches file place h
    → ((to : ℕ) (further : Held) → Reaches file to further → length (drop to file) + 1 ≤ length (drop place file) → Leaves file) → Leaves file
one_step file place h r go = by_rest (drop place file) refl
  where
    by_result : (n : ℕ) (l : Lexeme) → Stands l n (drop place file) → 0 < length (drop place file) → (o : Stepped) → step h (place, l) ≡ o → Leaves file
    by_result n l st some (Err refusal) e = stops refusal.0 refusal.1 (at_lexeme r st e)
    by_result n l st some (Ok further) e =
        let spaces : ℕ = space_before (drop n (drop place file)) in
        let to : ℕ = place + (n + spaces) in
        let less = some_bytes (drop place file) l n st in
        let left = length-drop place file in
        let left_then = length-drop to file in
        go to further (reaches_step file place n spaces to h further l r st e refl refl) (omega (arith, less, left, left_then, some))

    by_lexeme : 0 < length (drop place file) → (drop place file ≢ []) → SomeStands (drop place file) ⊎ NothingStands (drop place file) → Leaves file
    by_lexeme some full (inl s) = by_result s.n s.l s.there some (step h (place, s.l)) refl
    by_lexeme some full (inr bare) = stops Syntax place (at_nothing r full bare)

    by_rest : (rest : List ℕ) → drop place file ≡ rest → Leaves file
    by_rest [] e = open_leaves file place h r e h.begun refl
    by_rest (c ∷ cs) e =
        let k : length (drop place file) ≡ length (c ∷ cs) = ap length e in
        by_lexeme (omega (arith, k)) (λ f. absurd (let g : c ∷ cs ≡ [] = sym e ∙ f in cc)) (lexeme_or_none (drop place file))

nothing_left : (text : List ℕ) → length text ≤ 0 → text ≡ []
nothing_left [] h = refl
nothing_left (c ∷ cs) h = absurd (omega arith)

leaves : (most : ℕ) (file : List ℕ) (place : ℕ) (h : Held) → Reaches file place h → length (drop place file) ≤ most → Leaves file
leaves zero file place h r few = open_leaves file place h r (nothing_left (drop place file) few) h.begun refl
leaves (suc most) file place h r few = one_step file place h r (λ to further s less. leaves most file to further s (omega (arith, few, less)))

abbrev pub ValueOrRefusal : List ℕ → Type 0
ValueOrRefusal file = ((v : Plain) × TextWrites file v) ⊎ ((cause : Cause) × (byte : ℕ) × TextRefused file cause byte)

judged : (file : List ℕ) → Leaves file → ValueOrRefusal file
judged file (finishes v f) = inl (v, finished_writes file v f)
judged file (stops cause byte s) = inr (cause, byte, stops_refused file cause byte s)

pub value_or_refusal : (file : List ℕ) → ValueOrRefusal file
value_or_refusal file =
    judged file (leaves (length (drop (space_before file) file)) file (space_before file) start (reaches_start file (space_before file) start refl refl) (omega arith))
