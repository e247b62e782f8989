use Rattle.std.proofs.Common.{◌<◌, [], arith, get_or, length}
use Rattle.std.proofs.lemmas.List.{length-map}
use Rattle.tlb_syntax.specs.View.{constructor}
use Rattle.tlb_guard.specs.Numbering.{views}
use Rattle.schema_leads.specs.Tags.{cores}
use Rattle.tag_ambiguity.proofs.Listing.{core_count, got}
use Rattle.tag_ambiguity.proofs.Pairs.{against_fails, against_passes}
use Rattle.tag_ambiguity.proofs.judge.judge_against.Goals as goal

pub returns-then-not-are_separated : goal.returns-then-not-are_separated
returns-then-not-are_separated c =
    let xs = c.args.marks.now.constructors.now in
    let s = views xs in
    let k = c.loop-second.second-index in
    let others = c.args.others.now in
    let j = get_or others k 0 in
    let first : c.args.first < length (cores s) = omega (arith, c.requires.first, length-map xs constructor, core_count s [] s) in
    let second : j < length (cores s) = omega (arith, c.requires.others k 0 c.loop-second-test.true, length-map xs constructor, core_count s [] s) in
    against_fails s c.args.first others k j c.are_separated.result c.ambiguous.result first second (got others k 0 c.loop-second-test.true)
    c.are_separated.ensures c.if-not-are_separated.true c.ambiguous.ensures c.loop-second.invariant

pub loop-second-preserved : goal.loop-second-preserved
loop-second-preserved c =
    let xs = c.args.marks.now.constructors.now in
    let s = views xs in
    let k = c.loop-second.second-index in
    let others = c.args.others.now in
    let j = get_or others k 0 in
    let first : c.args.first < length (cores s) = omega (arith, c.requires.first, length-map xs constructor, core_count s [] s) in
    let second : j < length (cores s) = omega (arith, c.requires.others k 0 c.loop-second-test.true, length-map xs constructor, core_count s [] s) in
    against_passes s c.args.first others k j c.are_separated.result first second (got others k 0 c.loop-second-test.true)
    c.are_separated.ensures c.if-not-are_separated.false c.loop-second.invariant
