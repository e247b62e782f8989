use Rattle.std.proofs.Common.{◌≡◌, ◌<◌, ◌^◌, take}
use Rattle.std.specs.Str.Parse.{digits_value}
use Rattle.value_text.proofs.scan.value_of.Given as goal

abbrev pub invariant-digits : goal.invariant-digits
invariant-digits l = (l.value ≡ digits_value 10 (take l.digit-index l.digits)) × (l.value < 2 ^ 128)
