use Rattle.std.proofs.Common.{◌≡◌, ℕ, ◌++◌, ◌∷◌, [], length, ap, subst, ◌∙◌, length-append, arith, rules, refl}
use Rattle.std.proofs.lemmas.Result.{err_from_is_err_and}
use Rattle.bag_cells.specs.Header.{cells}
use Rattle.bag_cells.specs.Cells.{start, cell_refusal}
use Rattle.bag_cells.proofs.Rows.{first_before-none}
use Rattle.bag_cells.proofs.Refusals.{refused_cell, refused_left}
use Rattle.bag_cells.proofs.Laid.{start-more, placed_more, cells_more, left_some, left_none}
use Rattle.bag_cells.proofs.cells.starts_of.Goals as goal

pub cells-init : goal.cells-init
unfolding start
cells-init c = record {
  count = rw c.in_ok-starts.ensures.items refl;
  places = λ j h. absurd (omega arith);
  cell_each = λ j h. absurd (omega arith);
  place_is = c.requires.start_is;
}

pub returns-in_err-place : goal.returns-in_err-place
returns-in_err-place c =
    let p = err_from_is_err_and c.from_residual-in_err-place.result c.from_residual-in_err-place.ensures.1 in
    rw (p.1, p.2) (λ _.
    refused_cell c.args.raw.now c.cells.i c.in_err-place.field-0.0 c.requires.accepted (omega arith)
    (λ j h. (c.cells.invariant.cell_each j h).accepted)
    (rw (← c.cells.invariant.place_is) c.in_err-place.ensures))

pub cells-preserved : goal.cells-preserved
cells-preserved c =
    let raw = c.args.raw.now in
    let pushed : c.push.new.self.items ≡ c.cells.starts.items ++ c.cells.place ∷ [] = search rules in
    record {
      count = omega (arith, simp length-append at (ap length pushed), c.cells.invariant.count);
      places = rw pushed (placed_more raw c.cells.starts.items c.cells.i c.cells.place c.cells.invariant.count c.cells.invariant.places c.cells.invariant.place_is);
      cell_each = cells_more raw c.cells.i c.cells.place c.cells.invariant.cell_each c.cells.invariant.place_is c.in_ok-place.ensures.cell;
      place_is = rw (start-more raw c.cells.i, ← c.cells.invariant.place_is) c.in_ok-place.ensures.stop_is;
    }

pub returns-then-place-header : goal.returns-then-place-header
returns-then-place-header c =
    let raw = c.args.raw.now in
    let all : c.cells.i ≡ cells raw = omega arith in
    λ _. refused_left raw _ c.requires.accepted
    (first_before-none (cell_refusal raw) (cells raw) (λ j h. (c.cells.invariant.cell_each j (omega arith)).accepted))
    (left_some raw c.cells.place c.args.header.size (subst (λ (m : ℕ). c.cells.place ≡ start raw m) all c.cells.invariant.place_is) (omega arith) c.requires.size_is)

pub returns : goal.returns
returns c =
    let raw = c.args.raw.now in
    let all : c.cells.i ≡ cells raw = omega arith in
    record {
      accepted = first_before-none (cell_refusal raw) (cells raw) (λ j h. (c.cells.invariant.cell_each j (omega arith)).accepted);
      nothing_left = left_none raw c.cells.place (subst (λ (m : ℕ). c.cells.place ≡ start raw m) all c.cells.invariant.place_is) (omega arith);
      count = c.cells.invariant.count ∙ all;
      places = λ j h. c.cells.invariant.places j (omega arith);
      cell_each = λ j h. c.cells.invariant.cell_each j (omega arith);
    }
