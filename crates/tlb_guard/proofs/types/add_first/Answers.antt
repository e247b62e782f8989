use Rattle.std.proofs.Common.{sym, ◌∙◌}
use Rattle.std.proofs.lemmas.Map.Text.{hash_map_updates_str}
use Rattle.std.specs.Prelude.{Some, bytes_eq}
use Rattle.std.specs.HashMap.{get_by}
use Rattle.tlb_guard.proofs.Numberings.{known_word, new_word}
use Rattle.tlb_guard.proofs.types.add_first.Goals as goal

pub returns-then-contains_key : goal.returns-then-contains_key
returns-then-contains_key c = λ x.
    known_word (λ y. get_by (λ k. bytes_eq y k.now) c.args.first.now) c.args.word.now x c.args.number (sym c.contains_key.ensures ∙ c.if-contains_key.true)

pub returns : goal.returns
returns c = λ x.
    hash_map_updates_str c.args.word.now c.args.first.now c.insert.new.self (Some c.args.number) c.in_ok-insert.ensures.updates x
    ∙ new_word (λ y. get_by (λ k. bytes_eq y k.now) c.args.first.now) c.args.word.now x c.args.number (sym c.contains_key.ensures ∙ c.if-contains_key.false)
