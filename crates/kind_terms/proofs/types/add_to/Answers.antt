use Rattle.std.proofs.Common.{rules, sym}
use Rattle.std.proofs.lemmas.Result.{on_ok_weaker}
use Rattle.kind_terms.specs.declared.types.Declared.{Declared}
use Rattle.kind_terms.proofs.TypeIndexes.{more_found}
use Rattle.std.proofs.lemmas.Map.Text.{hash_map_updates_str}
use Rattle.kind_terms.proofs.types.add_to.Goals as goal

pub returns-in-Some : goal.returns-in-Some
returns-in-Some c =
    let w : Declared = record { kinds = c.in-Some.declared.now.kinds; constructors = c.push.new.self } in
    let h = (c.get_mut.follows.holds w).3 (search rules) in
    let f = c.in-Some.ensures.value in
    let t = c.text.ensures.value in
    on_ok_weaker c.push.result (λ pushed. λ s old.
    more_found c.args.by_name.now (c.get_mut.follows.lender w) s c.args.added c.in-Some.declared.now c.push.new.self pushed
    (sym (rw t at f))
    (λ x. hash_map_updates_str c.args.added.now.result c.args.by_name.now (c.get_mut.follows.lender w) _ (rw t at h) x) old)
    c.push.ensures.ok
