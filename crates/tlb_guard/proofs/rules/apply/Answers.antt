use Rattle.std.proofs.Common.{◌≡◌, true, false, Bool, List, sym, subst, rules as steps}
use Rattle.std.specs.List.{list_all}
use Rattle.tlb_guard.specs.Facts.{holds, IsSound}
use Rattle.tlb_guard.proofs.Searches.{rule_sound, unmet_served}
use Rattle.tlb_guard.proofs.rules.apply.Goals as goal

pub returns-in_ok-add-clause-sound : goal.returns-in_ok-add-clause-sound
returns-in_ok-add-clause-sound c = λ rs seeds k lt is sound.
    let met : list_all (holds c.args.state.now.found) c.args.rule.now.body ≡ true = search steps in
    let P : List Bool → Type 0 = λ z. IsSound rs seeds (holds z) in
    subst P (sym c.in_ok-add.ensures.found) (rule_sound c.args.state.now.found c.args.rule.now met rs seeds k lt is sound)

pub returns-else-is_met-clause-served : goal.returns-else-is_met-clause-served
returns-else-is_met-clause-served c =
    let unmet : list_all (holds c.args.state.now.found) c.args.rule.now.body ≡ false = search steps in
    unmet_served c.args.state.now.found c.args.state.now.queue c.args.rule.now unmet c.requires.search
