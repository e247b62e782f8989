use Rattle.std.proofs.Common.{ap, refl}
use Rattle.value_grammar.specs.Open as opened
use Rattle.value_grammar.specs.Reading.{at_end}
use Rattle.value_parse.specs.View.{frames, held, spot}
use Rattle.value_parse.proofs.Reach.{nothing_left}
use Rattle.value_parse.proofs.text.finished.Goals as goal

pub returns-in-Some : goal.returns-in-Some
returns-in-Some c =
    let s = c.args.state in
    record {
      place = c.args.place;
      held = held s;
      reaches = c.requires.reaches;
      ends = nothing_left c.args.text.now c.args.place c.requires.ends;
      below = frames s.begun.below.items;
      whole = ap (λ (x : opened.Spot). opened.at x (frames s.begun.below.items)) c.in-Some.ensures;
    }

pub returns : goal.returns
returns c =
    let s = c.args.state in
    at_end c.requires.reaches (nothing_left c.args.text.now c.args.place c.requires.ends) (spot s.begun.spot) (frames s.begun.below.items) refl c.in-None.ensures
