use Rattle.value_parse.specs.View.{held}
use Rattle.value_grammar.specs.ReadingLaws.{reaches_start}
use Rattle.value_parse.proofs.text.read.Goals as goal

pub lexemes-init : goal.lexemes-init
lexemes-init c = record {
  reached = reaches_start c.args.text.now c.spaces_before-place.result (held c.start-state.result) c.spaces_before-place.ensures.value c.start-state.ensures.start;
  counted = c.start-state.ensures.counted;
  within = c.spaces_before-place.ensures.bound;
}
