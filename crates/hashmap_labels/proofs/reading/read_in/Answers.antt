use Rattle.std.proofs.Common.{◌≡◌, ◌-◌, ◌≤◌, true, length, sym, ◌∙◌, arith}
use Rattle.hashmap_labels.proofs.Answered.{label_found}
use Rattle.hashmap_labels.specs.Reading.{may_have}
use Rattle.hashmap_labels.specs.ReadingLaws.{read_any-shorter}
use Rattle.hashmap_labels.specs.Views.{bits_of}
use Rattle.hashmap_labels.proofs.reading.read_in.Goals as goal

pub overflow_sub-taken : goal.overflow_sub-taken
overflow_sub-taken c =
    let shorter : length c.in_ok-found.found.rest ≤ length c.args.s = read_any-shorter c.args.n c.args.s _ c.in_ok-found.ensures in
    omega arith

pub returns-clause-read : goal.returns-clause-read
returns-clause-read c =
    let may : may_have c.args.forms c.args.n (bits_of c.in_ok-found.found.bits) c.in_ok-found.found.form ≡ true = sym c.may_have.ensures ∙ c.if-not-may_have.false in
    let count : c.len-len.result - c.len.result ≡ length c.args.s - length c.in_ok-found.found.rest = omega arith in
    label_found c.args.forms c.args.n c.args.s _ (c.len-len.result - c.len.result) c.in_ok-found.ensures may count
