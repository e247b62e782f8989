-- The exit status of each answer.
use Rattle.std.specs.Prelude.{ℕ}
use Rattle.cli_refusals.specs.declared.status.Status.{Status}
use Rattle.cli_refusals.specs.declared.status.Status.TheVariants.{Done, Usage, ReadFault, WriteFault, TooLong, SchemaRefused, BagRefused, TypeRefused, CellRefused, TextRefused, ValueRefused, PathRefused, ProofRefused, NoMemory}

abbrev pub code_of : Status → ℕ
code_of Done = 0
code_of Usage = 1
code_of ReadFault = 2
code_of WriteFault = 3
code_of TooLong = 4
code_of SchemaRefused = 5
code_of BagRefused = 6
code_of TypeRefused = 7
code_of CellRefused = 8
code_of TextRefused = 9
code_of ValueRefused = 10
code_of PathRefused = 11
code_of ProofRefused = 12
code_of NoMemory = 13
