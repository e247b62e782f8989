-- A refusal, seen without where it lies in memory.
use Rattle.cli_refusals.specs.Refusal.{Refusal, usage, unread, too_long, schema, type_word, bag, value_text, proof, cell, path, unfit}
use Rattle.cli_refusals.specs.declared.refusal.Refusal.{Refusal as Refused}
use Rattle.cli_refusals.specs.declared.refusal.Refusal.TheVariants.{Usage, ReadFault, TooLong, Schema, TypeWord, Bag, Text, Proof, Cell, Path, Value}

abbrev pub refusal_by : Refused → Refusal
refusal_by Usage = usage
refusal_by (ReadFault name) = unread name.items
refusal_by (TooLong name) = too_long name.items
refusal_by (Schema cause) = schema cause
refusal_by (TypeWord cause) = type_word cause
refusal_by (Bag cause) = bag cause
refusal_by (Text cause place) = value_text cause place
refusal_by (Proof cause) = proof cause
refusal_by (Cell place cause) = cell place.items cause
refusal_by (Path number) = path number
refusal_by (Value place cause) = unfit place.items cause
