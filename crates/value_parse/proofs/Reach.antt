-- What the steps of a text keep, and what they answer.
use Rattle.std.proofs.Common.{◌≡◌, ℕ, zero, suc, ◌+◌, ◌<◌, ◌≤◌, Bool, true, false, ◌&&◌, ◌||◌, nat_le, if◌then◌else◌, Some, None, List, [], ◌∷◌, ◌++◌, drop, length, Result, Ok, Err, refl, sym, ap, ◌∙◌, subst, arith}
use Rattle.std.proofs.lemmas.List.{drop_all, length-drop}
use Rattle.value_text.specs.declared.lexeme.Lexeme.{Lexeme}
use Rattle.value_text.specs.Lexemes.{Stands}
use Rattle.std.proofs.lemmas.Bool.Decides.{nat_tests}
use Rattle.typed_value.specs.Values.{most_parts}
use Rattle.value_text.specs.Writes.{most_cells}
use Rattle.value_grammar.specs.declared.cause.Cause.{Cause}
use Rattle.value_grammar.specs.declared.cause.Cause.TheVariants as causes
use Rattle.value_grammar.specs.declared.cause.Cause.TheVariants.{BulkText, DeepText, KeyOrder, Range}
use Rattle.value_grammar.specs.Open.{Frame, Spot}
use Rattle.value_grammar.specs.Within.{begins_value, is_beyond, is_bulk, is_cell_due, is_deep, is_out_of_order, is_paren, is_value_due, limit_of}
use Rattle.value_grammar.specs.Reading.{Reaches, Stops, at_lexeme}
use Rattle.value_grammar.specs.Steps.{Held, one_more, step}
use Rattle.value_parse.specs.Answer.{IfParsed, IfRefused}
use Rattle.value_parse.specs.declared.error.TextError.{TextError}
use Rattle.value_parse.specs.declared.error.TextError.TheVariants as errors

pub nothing_left : (file : List ℕ) (place : ℕ) → length file ≤ place → drop place file ≡ []
nothing_left file place h = drop_all place file h

-- the counts stay within the limits
or_first : (a b : Bool) → (a || b) ≡ false → a ≡ false
or_first false b e = refl
or_first true b e = e

or_second : (a b : Bool) → (a || b) ≡ false → b ≡ false
or_second false b e = e
or_second true b e = absurd (cc)

few_more : (a b : Bool) (n most : ℕ) → (a && b && nat_le most n) ≡ false → n ≤ most → one_more (a && b) n ≤ most
few_more true true n most e h = by_test (nat_le most n) refl e
  where
    by_test : (t : Bool) → nat_le most n ≡ t → t ≡ false → n + 1 ≤ most
    by_test true f g = absurd (cc)
    by_test false f g = grind (arith, nat_tests)
few_more true false n most e h = h
few_more false b n most e h = h

not_bulk : (a b c d : Bool) → (if a then Some DeepText else if b then Some BulkText else if c then Some Range else if d then Some KeyOrder else None) ≡ None → b ≡ false
not_bulk true b c d e = absurd (cc)
not_bulk false true c d e = absurd (cc)
not_bulk false false c d e = refl

pub stays_counted : (values cells : ℕ) (s : Spot) (below : List Frame) (l : Lexeme) → limit_of values cells s below l ≡ None → values ≤ most_parts → cells ≤ most_cells
    → (one_more (is_value_due s && begins_value l) values ≤ most_parts) × (one_more (is_cell_due s && is_paren l) cells ≤ most_cells)
stays_counted values cells s below l e h k =
    let b = not_bulk (is_deep s below l) (is_bulk values cells s l) (is_beyond l) (is_out_of_order s l) e in (
      few_more (is_value_due s) (begins_value l) values most_parts (or_first _ _ b) h,
      few_more (is_cell_due s) (is_paren l) cells most_cells (or_second _ _ b) k,
    )

pub some_left : (file : List ℕ) (place : ℕ) → place < length file → drop place file ≡ [] → ⊥
some_left file place h e =
    let f = length-drop place file in
    let g : length (drop place file) ≡ 0 = ap length e in
    absurd (omega arith)

-- what an error refuses, less precisely
pub refused_so : (e : TextError) (P Q : Cause → ℕ → Type 0) → ((cause : Cause) (byte : ℕ) → P cause byte → Q cause byte) → IfRefused e P → IfRefused e Q
refused_so (errors.Syntax place) P Q f h = f causes.Syntax place h
refused_so (errors.Range place) P Q f h = f causes.Range place h
refused_so (errors.KeyOrder place) P Q f h = f causes.KeyOrder place h
refused_so (errors.DeepText place) P Q f h = f causes.DeepText place h
refused_so (errors.BulkText place) P Q f h = f causes.BulkText place h
refused_so errors.NoMemory P Q f h = tt

pub step_stops : (file : List ℕ) (place n : ℕ) (h : Held) (l : Lexeme) (e : TextError) → Reaches file place h → Stands l n (drop place file)
    → IfRefused e (λ cause byte. step h (place, l) ≡ Err (cause, byte)) → IfRefused e (λ cause byte. Stops file cause byte)
step_stops file place n h l e r st f =
    refused_so e (λ cause byte. step h (place, l) ≡ Err (cause, byte)) (λ cause byte. Stops file cause byte) (λ cause byte s. at_lexeme r st s) f

pub stays_within : (file : List ℕ) (place n spaces : ℕ) → place < length file → n ≤ length (drop place file) → spaces ≤ length (drop n (drop place file))
    → place + (n + spaces) ≤ length file
stays_within file place n spaces h k l =
    let e = length-drop place file in
    let f = length-drop n (drop place file) in
    omega (arith, e, f, h, k, l)

-- what is answered, less precisely
pub parsed_so : {A : Type 0} (r : Result A TextError) (P Q : A → Type 0) (R S : Cause → ℕ → Type 0) → ((v : A) → P v → Q v)
    → ((cause : Cause) (byte : ℕ) → R cause byte → S cause byte) → IfParsed r P R → IfParsed r Q S
parsed_so (Ok v) P Q R S f g h = f v h
parsed_so (Err e) P Q R S f g h = refused_so e R S g h

pub written_so : {A : Type 0} (r : Result A TextError) (P Q : A → Type 0) (R : Cause → ℕ → Type 0) → ((v : A) → P v → Q v) → ((cause : Cause) (byte : ℕ) → R cause byte → ⊥)
    → IfParsed r P R → IfParsed r Q (λ cause byte. ⊥)
written_so r P Q R f g h = parsed_so r P Q R (λ cause byte. ⊥) f g h
