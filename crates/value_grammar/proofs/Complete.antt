-- A text that writes a value is gone through to that value.
use Rattle.std.proofs.Common.{◌≡◌, ℕ, suc, ◌+◌, true, false, ◌&&◌, List, [], ◌∷◌, drop, refl, sym, ap, ◌∙◌, arith, append-nil, cond}
use Rattle.std.proofs.lemmas.List.{drop-drop}
use Rattle.std.specs.List.{list_all, prefix_len}
use Rattle.typed_value.specs.Values.{Plain, parts}
use Rattle.value_text.specs.Division.{Divides, Placed, none, one, space_before, without_space}
use Rattle.value_text.specs.DivisionLaws.{spaced_divides}
use Rattle.value_text.specs.Text.{tokens}
use Rattle.value_text.specs.Writes.{TextWrites, cells_in, is_space}
use Rattle.value_grammar.specs.Open.{at, done}
use Rattle.value_grammar.specs.Steps.{Held, held_of, run, start}
use Rattle.value_grammar.specs.Reading.{Finishes}
use Rattle.value_grammar.proofs.Apart.{whole_stands}
use Rattle.value_grammar.proofs.Maps.{value_goes}

-- what is left after a division
pub record Left (place : ℕ) (text : List ℕ) (end : ℕ) (rest : List ℕ) : Type 0 where
  pub count : ℕ
  pub far : end ≡ place + count
  pub left : rest ≡ drop count text

pub divided_left : (place end : ℕ) (text rest : List ℕ) (ls : List Placed) → Divides place text ls end rest → Left place text end rest
divided_left place end text rest [] none = record { count = 0; far = omega arith; left = refl }
divided_left place end text rest (l ∷ ls) (one {n = n} {l = m} {ls = ms} st d) =
    let s : ℕ = space_before text in
    let r = divided_left (place + s + n) end (drop n (without_space text)) rest ms d in
    let f = r.far in
    record {
      count = s + n + r.count;
      far = omega (arith, f);
      left = r.left ∙ ap (drop r.count) (drop-drop n s text) ∙ drop-drop r.count (s + n) text;
    }

spaces_alone : (text : List ℕ) → list_all is_space text ≡ true → drop (prefix_len is_space text) text ≡ []
spaces_alone [] e = refl
spaces_alone (c ∷ cs) e =
    elim (is_space c) as (λ b. (b && list_all is_space cs) ≡ true → drop (cond b (1 + prefix_len is_space cs) 0) (c ∷ cs) ≡ []) [
      | true ↦ λ g. let one : 1 + prefix_len is_space cs ≡ suc (prefix_len is_space cs) = omega arith in rw one (spaces_alone cs g)
      | false ↦ λ g. absurd (cc)
    ] e

pub written_finishes : (file : List ℕ) (v : Plain) → TextWrites file v → Finishes file v
written_finishes file v w =
    let s = whole_stands v w.writable.formed in
    let d = spaced_divides (tokens v) 0 file s.are_tokens s.apart w.text in
    let l = divided_left 0 d.end file d.rest d.ls d.divides in
    let levels = w.writable.levels in
    let parts_few = w.writable.parts in
    let cells_few = w.writable.cells in
    let far = l.far in
    let place : ℕ = d.end + space_before d.rest in
    let h : Held = held_of (at (done v) []) (0 + parts v) (0 + cells_in v) in
    let goes = value_goes v w.writable.formed [] 0 0 (omega (arith, levels)) (omega (arith, parts_few)) (omega (arith, cells_few)) d.ls [] d.are_tokens in
    let left : drop place file ≡ without_space d.rest =
    ap (λ (k : ℕ). drop k file) (let e : d.end + space_before d.rest ≡ l.count + space_before d.rest = omega (arith, far) in e)
    ∙ sym (drop-drop (space_before d.rest) l.count file) ∙ ap (drop (space_before d.rest)) (sym l.left) in
    record {
      place = place;
      held = h;
      reaches = record { before = d.ls; end = d.end; rest = d.rest; divides = d.divides; spaced = refl; left = left; ran = ap (run start) (sym (append-nil d.ls)) ∙ goes };
      ends = left ∙ spaces_alone d.rest d.spaces;
      below = [];
      whole = refl;
    }
