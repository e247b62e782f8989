-- The steps lead from place to place of a text, one lexeme after another.
use Rattle.std.proofs.Common.{◌≡◌, ℕ, ◌+◌, List, [], ◌∷◌, ◌++◌, drop, Ok, Err, sym, ap, ◌∙◌, subst, arith}
use Rattle.std.proofs.lemmas.List.{drop-drop}
use Rattle.value_text.specs.declared.lexeme.Lexeme.{Lexeme}
use Rattle.value_text.specs.Division.{Divides, Placed, none, one, space_before, without_space}
use Rattle.value_text.specs.Lexemes.{Stands}
use Rattle.value_grammar.specs.Reading.{Reaches}
use Rattle.value_grammar.specs.Steps.{Held, Stepped, and_then, run, start, step}

pub reaches_start : (file : List ℕ) (place : ℕ) (h : Held) → place ≡ space_before file → h ≡ start → Reaches file place h
reaches_start file place h e s = record {
  before = [];
  end = 0;
  rest = file;
  divides = none;
  spaced = omega (arith, e);
  left = ap (λ (n : ℕ). drop n file) e;
  ran = ap (λ (x : Held). Ok x) (sym s);
}

run_push : (h last next : Held) (ls : List Placed) (l : Placed) → run h ls ≡ Ok last → step last l ≡ Ok next
    → run h (ls ++ l ∷ []) ≡ Ok next
run_push h last next [] l e s =
    let same : h ≡ last = cc in
    ap (λ (r : Stepped). and_then r (λ q. run q [])) (ap (λ (x : Held). step x l) same ∙ s)
run_push h last next (m ∷ ls) l e s =
    elim (step h m) as (λ r. and_then r (λ q. run q ls) ≡ Ok last → and_then r (λ q. run q (ls ++ l ∷ [])) ≡ Ok next) [
      | Ok q ↦ λ g. run_push q last next ls l g s
      | Err refusal ↦ λ g. absurd (cc)
    ] e

divides_push : (ls : List Placed) (from end n : ℕ) (text rest : List ℕ) (l : Lexeme) → Divides from text ls end rest
    → Stands l n (without_space rest)
    → Divides from text (ls ++ (end + space_before rest, l) ∷ []) (end + space_before rest + n) (drop n (without_space rest))
divides_push [] from end n text rest l none st = one st none
divides_push (x ∷ xs) from end n text rest l (one {n = k} {l = m} {ls = ms} s d) st =
    one s (divides_push ms (from + space_before text + k) end n (drop k (without_space text)) rest l d st)

pub reaches_step : (file : List ℕ) (place n spaces to : ℕ) (h next : Held) (l : Lexeme) → Reaches file place h
    → Stands l n (drop place file) → step h (place, l) ≡ Ok next → spaces ≡ space_before (drop n (drop place file))
    → to ≡ place + (n + spaces) → Reaches file to next
reaches_step file place n spaces to h next l r st e s t =
    let S : List ℕ → Type 0 = λ x. Stands l n x in
    let rest : List ℕ = drop n (drop place file) in
    let d = divides_push r.before 0 r.end n file r.rest l r.divides (subst S r.left st) in
    let D : ℕ → Type 0 = λ p. Divides 0 file (r.before ++ (p, l) ∷ []) (p + n) (drop n (without_space r.rest)) in
    let E : List ℕ → Type 0 = λ x. Divides 0 file (r.before ++ (place, l) ∷ []) (place + n) (drop n x) in
    record {
      before = r.before ++ (place, l) ∷ [];
      end = place + n;
      rest = rest;
      divides = subst E (sym r.left) (subst D (sym r.spaced) d);
      spaced = omega (arith, s, t);
      left =
          ap (λ (k : ℕ). drop k file) (let f : to ≡ (place + n) + spaces = omega (arith, t) in f)
          ∙ sym (drop-drop spaces (place + n) file)
          ∙ ap (drop spaces) (sym (drop-drop n place file))
          ∙ ap (λ (k : ℕ). drop k rest) s;
      ran = run_push start h next r.before (place, l) r.ran e;
    }
