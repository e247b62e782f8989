use Rattle.std.proofs.Common.{rules, arith, refl, ◌∙◌, ap, subst, sym, ◌++◌, ◌∷◌, [], List, map, string_bytes, drop, length}
use Rattle.std.proofs.lemmas.List.{map-append}
use Rattle.pruned_proof.specs.Proved.{path_view, path_views}
use Rattle.value_text.specs.PathAnswer.{IfPathAnswered}
use Rattle.cli_stages.proofs.PathTurns.{bad-word, before-as, ended, pushed-as, turned}
use Rattle.cli_stages.proofs.path_words.paths_of.Goals as goal

pub returns-in-Err-BadPath : goal.returns-in-Err-BadPath
returns-in-Err-BadPath c = (
  bad-word c.words.number c.args.words.now c.words.word-index c.word-item.result c.as_str.result.now
      (path_views c.words.paths.items) c.words-test.true c.word-item.is c.as_str.ensures.value
      (λ steps writes. (rw c.in-Err-BadPath.field-0-is at c.in-Err-BadPath.ensures.path) steps writes) c.words.invariant.begun,
  omega (arith, c.words.invariant.as_many, c.words-test.true),
)

pub words-preserved : goal.words-preserved
words-preserved c =
    let next = turned c.words.number c.args.words.now c.words.word-index c.word-item.result c.as_str.result.now
    (path_view c.in-Ok.path) (path_views c.words.paths.items) c.words-test.true c.word-item.is c.as_str.ensures.value
    c.in-Ok.ensures.holds c.words.invariant.begun in
    let pushed = pushed-as c.words.paths.items c.push.new.self.items c.in-Ok.path (search rules) in
    record {
      counted = omega (arith, c.words.invariant.counted);
      as_many = omega (arith, pushed.0, c.words.invariant.as_many);
      begun = λ others bad h. before-as (map string_bytes c.args.words.now) others bad (path_views c.push.new.self.items) (path_views c.words.paths.items)
          (path_view c.in-Ok.path ∷ []) pushed.1 (next others bad h);
    }

pub returns : goal.returns
returns c = (
  ended c.words.number c.args.words.now c.words.word-index (path_views c.words.paths.items) (omega (arith, c.words-test.false))
      c.words.invariant.begun,
  omega (arith, c.words.invariant.as_many),
)
