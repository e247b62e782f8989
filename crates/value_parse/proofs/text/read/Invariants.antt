use Rattle.std.proofs.Common.{◌≤◌, ◌-◌, length}
use Rattle.value_grammar.specs.Reading.{Reaches}
use Rattle.value_parse.specs.Answer.{IsCounted}
use Rattle.value_parse.specs.View.{held}
use Rattle.value_parse.proofs.text.read.Given as goal

abbrev pub invariant-lexemes : goal.invariant-lexemes
invariant-lexemes l = record { reached : Reaches l.text l.place (held l.state); counted : IsCounted l.state; within : l.place ≤ length l.text }

abbrev pub decreases-lexemes : goal.decreases-lexemes
decreases-lexemes l = length l.text - l.place
