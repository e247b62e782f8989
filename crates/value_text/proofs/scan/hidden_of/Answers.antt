use Rattle.std.proofs.Common.{◌≡◌, ◌≤◌, ◌-◌, ◌^◌, ap, ◌∙◌, arith, drop, length, take}
use Rattle.std.specs.Char.{is_ascii_digit}
use Rattle.std.specs.List.{list_all}
use Rattle.std.specs.Str.Parse.{digits_value}
use Rattle.std.proofs.lemmas.List.{take_rest}
use Rattle.value_text.specs.HiddenPartsLaws.{deep_parts, digits_range, hash_text, part_within}
use Rattle.value_text.proofs.scan.hidden_of.Goals as goal
use Rattle.value_text.proofs.scan.hidden_of.Goals.{in_default-via-in-Some+else-depth-from, in_default-via-in_default}

pub hash_of-hash-requires : goal.hash_of-hash-requires
hash_of-hash-requires c = hash_text c.args.bytes.now (deep_parts c.args.bytes.now c.requires.deep)

pub value_of-requires : goal.value_of-requires
value_of-requires c =
    let p = deep_parts c.args.bytes.now c.requires.deep in
    ap (list_all is_ascii_digit) (take_rest c.args.bytes.now 66 ∙ digits_range c.args.bytes.now p) ∙ p.are_digits

pub returns-in-Some : goal.returns-in-Some
returns-in-Some c =
    let bytes = c.args.bytes.now in
    let p = deep_parts bytes c.requires.deep in
    let value : c.in-Some.depth ≡ digits_value 10 p.digits = c.in-Some.ensures.0 ∙ ap (digits_value 10) (take_rest bytes 66 ∙ digits_range bytes p) in
    part_within bytes p c.hash_of-hash.result c.in-Some.depth c.hash_of-hash.ensures.size c.hash_of-hash.ensures.bytes c.hash_of-hash.ensures.text value (omega arith)

pub returns-in_default : goal.returns-in_default
returns-in_default c =
    let bytes = c.args.bytes.now in
    let p = deep_parts bytes c.requires.deep in
    let same : digits_value 10 (take (length bytes - 66) (drop 66 bytes)) ≡ digits_value 10 p.digits = ap (digits_value 10) (take_rest bytes 66 ∙ digits_range bytes p) in
    p.beyond (elim c.in_default.branch [
      | in_default-via-in-Some+else-depth-from w ↦
          let value : w.in-Some.depth ≡ digits_value 10 p.digits = w.in-Some.ensures.0 ∙ same in
          omega (arith, w.from.ensures, w.if-depth-from.false)
      | in_default-via-in_default w ↦
          let large : 2 ^ 128 ≤ digits_value 10 (take (length bytes - 66) (drop 66 bytes)) = w.in_default.ensures in
          omega arith
    ])
