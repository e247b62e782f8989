-- Rows of the table of basic types by their widths.
use Rattle.std.proofs.Common.{◌≡◌, ℕ, ◌^◌, ◌<◌, ◌≤◌, false, nat_le, arith}
use Rattle.std.proofs.lemmas.Bool.{le-leb, lt-leb}
use Rattle.core_form.specs.Closed as closed
use Rattle.spelling.specs.Goals.{Row, integer, natural, row, string}
use Rattle.spelling_laws.specs.StepLaws.{when_true, when_false}

pub uint_number : (n : ℕ) → n ≤ 128 → row (closed.uint n) ≡ natural n (2 ^ n) false
uint_number n low = when_true {A = Row} (nat_le n 128) (natural n (2 ^ n) false) (string n) (le-leb n 128 low)

pub uint_string : (n : ℕ) → 128 < n → row (closed.uint n) ≡ string n
uint_string n high = when_false {A = Row} (nat_le n 128) (natural n (2 ^ n) false) (string n) (lt-leb n 128 high)

pub int_number : (n : ℕ) → n ≤ 128 → row (closed.int n) ≡ integer n
int_number n low = when_true {A = Row} (nat_le n 128) (integer n) (string n) (le-leb n 128 low)

pub int_string : (n : ℕ) → 128 < n → row (closed.int n) ≡ string n
int_string n high = when_false {A = Row} (nat_le n 128) (integer n) (string n) (lt-leb n 128 high)
