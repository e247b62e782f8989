-- The lengths of what is written.
use Rattle.std.proofs.lemmas.List.{length-append}
use Rattle.bit_slice.specs.BitLists.{length-spelled}

pub ruleset lengths = (length-append, length-spelled)
