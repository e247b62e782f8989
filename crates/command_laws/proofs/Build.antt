-- What is built is read as the value that was written.
use Rattle.std.proofs.Common.{◌≡◌, sym, subst, ℕ, List, length, nat_lt, false}
use Rattle.std.proofs.lemmas.Bool.{le-ltb}
use Rattle.bag_lines.specs.Laws.{HoldsLine, LineHolds}
use Rattle.bag_cells.specs.Bag.{BagHolds}
use Rattle.cell_nodes.specs.declared.tree.Tree.{Tree}
use Rattle.cli_commands.specs.Build.{bag_line}
use Rattle.command_laws.specs.Laws.{BuildThenRead}
use Rattle.command_laws.proofs.Runs.{build-call, done-run, outcome-of, read-call, still-short}
use Rattle.command_laws.proofs.Steps.{build-run, to-read}

-- a file with the line of a tree's bag holds the tree, and is within its limit
pub record HoldsTree (line : List ℕ) (tree : Tree) : Type 0 where
  pub holds : BagHolds line tree
  pub short : nat_lt 134217728 (length line) ≡ false

pub line-of-tree : (line : List ℕ) (tree : Tree) → line ≡ bag_line tree → HoldsLine tree → HoldsTree line tree
line-of-tree line tree is h =
    let P : List ℕ → Type 0 = λ x. HoldsTree x tree in
    subst P (sym is) (record { holds = h.holds; short = le-ltb 134217728 (length (bag_line tree)) h.short })

pub build-then-read : LineHolds → BuildThenRead
build-then-read lines before after schema type text bag declared written line has_schema has_text done still has_bag word =
    let call = build-call schema type text in
    let run = done-run call has_schema has_text done in
    let b = build-run type declared written line run.answers in
    let again = line-of-tree line b.tree b.is (lines b.tree b.is_tree.good b.is_tree.small) in (
      b.v,
      b.writes,
      outcome-of (read-call schema type bag) still has_bag
          (record {
            short = still-short schema type text bag run.short word;
            first = run.first;
            second = again.short;
            answers = to-read type declared line b.s b.type b.tree b.v b.typed again.holds b.is_tree.reading;
          }),
    )
