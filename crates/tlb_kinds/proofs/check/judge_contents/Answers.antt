use Rattle.std.proofs.Common.{◌∙◌, arith, map, take, sym, subst, List, Result, Ok, Err}
use Rattle.tlb_syntax.specs.declared.tree.Constructor.{Constructor}
use Rattle.tlb_syntax.specs.View.{constructor}
use Rattle.kind_declarations.specs.declared.error.Fault.{Fault}
use Rattle.kind_terms.specs.declared.shown.Shown.{Shown}
use Rattle.kind_declarations.specs.Faults.{Judges}
use Rattle.kind_declarations.specs.Nodes.{constructor_nodes}
use Rattle.kind_terms.specs.Views.{part_by}
use Rattle.tlb_kinds.specs.Spots.{heading, refusals_at}
use Rattle.tlb_kinds.proofs.Firsts.{no_refusals}
use Rattle.tlb_kinds.proofs.Loops.{constructor_within, contents_here, later, first_here}
use Rattle.tlb_kinds.proofs.check.judge_contents.Goals as goal

pub judge_constructor-requires : goal.judge_constructor-requires
judge_constructor-requires c =
    constructor_within c.args.constructors.now c.loop-index.index c.index-constructors-index.result (omega arith) c.index-constructors-index.is c.requires.within

pub returns-in-Err : goal.returns-in-Err
returns-in-Err c =
    let xs = c.args.constructors.now in
    let i = c.loop-index.index in
    let this = c.index-constructors-index.result in
    let h = heading (map constructor (take i xs)) (constructor this) in
    let path = map part_by c.judge_constructor.new.path in
    let J : List Constructor → Type 0 = λ ts. Judges (constructor_nodes (map constructor ts) (constructor this)) path c.judge_constructor.result in
    let K : Result (Unit {0}) Fault → Type 0 = λ r. Judges (constructor_nodes (map constructor xs) (constructor this)) path r in
    let L : List Shown → Type 0 = λ z. Judges (constructor_nodes (map constructor xs) (constructor this)) (map part_by z) (Err c.in-Err.fault) in
    let judged : L c.as_slice.result.now = subst L (sym c.as_slice.ensures) (subst K c.in-Err.is (subst J c.in_ok-types.ensures c.judge_constructor.ensures)) in
    first_here _ _ (refusals_at h (constructor_nodes (map constructor xs) (constructor this))) _ c.refusal.result c.loop-index.invariant
    (contents_here (map constructor xs) xs i this (omega arith) c.index-constructors-index.is)
    (c.refusal.ensures (constructor_nodes (map constructor xs) (constructor this)) judged)

pub loop-index-preserved : goal.loop-index-preserved
loop-index-preserved c =
    let xs = c.args.constructors.now in
    let i = c.loop-index.index in
    let this = c.index-constructors-index.result in
    let h = heading (map constructor (take i xs)) (constructor this) in
    let path = map part_by c.judge_constructor.new.path in
    let J : List Constructor → Type 0 = λ ts. Judges (constructor_nodes (map constructor ts) (constructor this)) path c.judge_constructor.result in
    let K : Result (Unit {0}) Fault → Type 0 = λ r. Judges (constructor_nodes (map constructor xs) (constructor this)) path r in
    let judged : K (Ok c.in_default.field-0) = subst K c.in_default.is (subst J c.in_ok-types.ensures c.judge_constructor.ensures) in
    later _ (refusals_at h (constructor_nodes (map constructor xs) (constructor this))) _
    (c.loop-index.invariant ∙ contents_here (map constructor xs) xs i this (omega arith) c.index-constructors-index.is)
    (no_refusals h (constructor_nodes (map constructor xs) (constructor this)) judged)
