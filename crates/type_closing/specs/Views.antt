-- What the program's faults stand for.
use Rattle.std.specs.Prelude.{List, ℕ, Option, option_map}
use Rattle.std.specs.Borrow.{Bor}
use Rattle.kind_terms.specs.Words.{Word}
use Rattle.type_closing.specs.declared.fault.Fault.{Fault as ProgramFault}
use Rattle.type_closing.specs.declared.fault.Fault.TheVariants.{UnknownType, Arity, Output, KindMismatch, TooWide}
use Rattle.type_closing.specs.Faults.{Fault, unknown_type, arity, output, kind_mismatch, too_wide}

abbrev pub name_by : Option (Bor (List ℕ)) → Option Word
name_by x = option_map (λ n. n.now) x

abbrev pub fault_by : ProgramFault → Fault
fault_by (UnknownType x) = unknown_type x.now
fault_by (Arity x) = arity x.now
fault_by (Output x) = output x.now
fault_by (KindMismatch x) = kind_mismatch (name_by x)
fault_by TooWide = too_wide
