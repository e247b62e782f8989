-- What the program's values stand for.
use Rattle.std.specs.Prelude.{List, map, option_map, Option}
use Rattle.kind_rules.specs.declared.expected.Expected.{Expected as ProgramExpected}
use Rattle.kind_rules.specs.declared.expected.ExpectedKind.{ExpectedKind}
use Rattle.kind_rules.specs.declared.expected.ExpectedKind.TheVariants.{Number, Output, TypeAt}
use Rattle.kind_terms.specs.Words.{Word}
use Rattle.kind_rules.specs.ExpectedKinds.{Expected, a_number, an_output, a_type}

abbrev pub expected_of : ExpectedKind → Option Word → List Word → Expected
expected_of (Number most) x before = a_number most x
expected_of Output x before = an_output before
expected_of (TypeAt s) x before = a_type s

abbrev pub expected_by : ProgramExpected → Expected
expected_by d = expected_of d.kind (option_map (λ x. x.now) d.sought) (map (λ x. x.now) d.before.now)
