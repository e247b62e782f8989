use Rattle.std.proofs.Common.{rules, ◌≡◌, ◌+◌, ◌∷◌, ◌++◌, [], length, length-append, ap, subst, sym, ◌∙◌, arith}
use Rattle.std.specs.Prelude.{List}
use Rattle.lead_table.specs.declared.leads.Entry.{Entry}
use Rattle.lead_table.specs.declared.leads.Entry.TheVariants.{Unseen}
use Rattle.lead_table.specs.Chains.{AreUnseen}
use Rattle.lead_table.proofs.Entries.{unseen_more}
use Rattle.lead_table.proofs.chain.no_entries.Goals as goal

pub loop-type-preserved : goal.loop-type-preserved
loop-type-preserved c =
    let items : c.push.new.self.items ≡ c.loop-type.table.items ++ Unseen ∷ [] = search rules in
    let P : List Entry → Type 0 = λ z. AreUnseen z in
    record {
      size = ap length items ∙ length-append c.loop-type.table.items (Unseen ∷ []) ∙ ap (λ n. n + 1) c.loop-type.invariant.size;
      unseen = subst P (sym items) (unseen_more c.loop-type.table.items c.loop-type.invariant.unseen);
    }
