use Rattle.std.proofs.Common.{sym, arith, map, string_bytes}
use Rattle.std.proofs.lemmas.List.{length-map}
use Rattle.cli_commands.specs.declared.slot.Slot.TheVariants.{Schema}
use Rattle.cli_commands.proofs.Slots.{not-taken, turn-refused, turn-taken}
use Rattle.cli_commands.proofs.form.are_taken.Goals as goal

pub returns-then-slots-words : goal.returns-then-slots-words
returns-then-slots-words c =
    sym (not-taken c.args.slots.now (map string_bytes c.args.words.now)
    (λ same. omega (arith, same, length-map c.args.words.now string_bytes, c.if-slots-words.true)))

pub returns-then-not-takes : goal.returns-then-not-takes
returns-then-not-takes c =
    turn-refused c.args.slots.now c.args.words.now c.slots.place Schema c.index-words-place.result c.as_str.result.now c.takes.result (omega arith) (omega (arith, c.slots.invariant.as_many))
    c.index-words-place.is c.as_str.ensures.value c.takes.ensures c.if-not-takes.true c.slots.invariant.others

pub slots-preserved : goal.slots-preserved
slots-preserved c = record {
  as_many = c.slots.invariant.as_many;
  others = turn-taken c.args.slots.now c.args.words.now c.slots.place Schema c.index-words-place.result c.as_str.result.now c.takes.result (omega arith) (omega (arith, c.slots.invariant.as_many))
      c.index-words-place.is c.as_str.ensures.value c.takes.ensures c.if-not-takes.false c.slots.invariant.others;
}
