use Rattle.std.proofs.Common.{◌≡◌, drop}
use Rattle.tlb_syntax.specs.View.{exprs}
use Rattle.type_word.specs.Signs.{refused_in}
use Rattle.type_word.specs.Scanning.{and_then}
use Rattle.type_word.specs.Views.{scan_by}
use Rattle.type_word.proofs.signs.+read.Given as goal

abbrev pub invariant-read_all-loop-e : goal.invariant-read_all-loop-e
invariant-read_all-loop-e l =
    and_then (scan_by l.reached) (refused_in (exprs (drop l.e-index l.es))) ≡ and_then (scan_by l.so_far) (refused_in (exprs l.es))
