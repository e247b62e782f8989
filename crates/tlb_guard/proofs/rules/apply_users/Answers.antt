use Rattle.std.proofs.Common.{◌<◌, ◌≤◌, length, get_or, sym, arith}
use Rattle.tlb_guard.proofs.Searches.{extends_twice, user_more}
use Rattle.tlb_guard.proofs.rules.apply_users.Goals as goal

pub loop-rule-preserved : goal.loop-rule-preserved
loop-rule-preserved c =
    let s = c.loop-rule.state in
    let t = c.apply.new.state in
    let i = c.loop-rule.rule-index in
    let lt : i < length c.args.users.now = omega arith in
    let within : get_or c.args.users.now i 0 < length c.args.rules.now = c.requires.within i 0 lt in
    let longer = c.loop-rule.invariant.extends.longer in
    record {
      search = c.in_ok-apply.ensures.search;
      extends = extends_twice c.args.state.now s t c.loop-rule.invariant.extends c.in_ok-apply.ensures.extends;
      served = λ n le.
          let later : n ≤ length s.queue = omega (arith, le, longer) in
          user_more s t n c.args.rules.now c.args.users.now i c.index-rules-rule.result c.in_ok-apply.ensures.extends later within
          c.index-rules-rule.is (c.in_ok-apply.ensures.served n later) (c.loop-rule.invariant.served n le);
      sound = λ seeds sound.
          c.in_ok-apply.ensures.sound c.args.rules.now seeds (get_or c.args.users.now i 0) within (sym c.index-rules-rule.is)
          (c.loop-rule.invariant.sound seeds sound);
    }
