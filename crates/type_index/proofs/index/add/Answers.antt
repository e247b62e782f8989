use Rattle.std.proofs.Common.{rules, sym, refl}
use Rattle.std.proofs.lemmas.Result.{on_ok_weaker}
use Rattle.tlb_syntax.specs.View.{constructor}
use Rattle.type_index.specs.declared.index.TypeEntry.{TypeEntry}
use Rattle.type_index.proofs.Entries.{more_entered}
use Rattle.type_index.proofs.index.add.Goals as goal

pub returns-in-Some : goal.returns-in-Some
returns-in-Some c =
    let w : TypeEntry = record { kinds = c.in-Some.entry.now.kinds; constructors = c.push.new.self } in
    let h = (c.get_mut.follows.holds w).3 (search rules) in
    let f = c.in-Some.ensures.value in
    let t = c.text.ensures.value in
    on_ok_weaker c.push.result (λ pushed. λ s size old.
    more_entered c.args.by_name.now (c.get_mut.follows.lender w) s (constructor c.args.added.now) c.args.number c.in-Some.entry.now w size
    refl pushed (sym (rw t at f)) (rw t at h) old)
    c.push.ensures.ok
