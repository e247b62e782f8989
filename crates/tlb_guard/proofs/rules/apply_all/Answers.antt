use Rattle.std.proofs.Common.{◌<◌, length, sym, arith}
use Rattle.tlb_guard.proofs.Searches.{extends_twice, served_more}
use Rattle.tlb_guard.proofs.rules.apply_all.Goals as goal

pub loop-rule-preserved : goal.loop-rule-preserved
loop-rule-preserved c =
    let s = c.loop-rule.state in
    let t = c.apply.new.state in
    let i = c.loop-rule.rule-index in
    let lt : i < length c.args.rules.now = omega arith in
    record {
      search = c.in_ok-apply.ensures.search;
      extends = extends_twice c.args.state.now s t c.loop-rule.invariant.extends c.in_ok-apply.ensures.extends;
      served =
          served_more s t c.args.rules.now i c.rule-item.result c.in_ok-apply.ensures.extends lt c.rule-item.is
          (c.in_ok-apply.ensures.served 0 (omega arith)) c.loop-rule.invariant.served;
      sound = λ seeds sound. c.in_ok-apply.ensures.sound c.args.rules.now seeds i lt (sym c.rule-item.is) (c.loop-rule.invariant.sound seeds sound);
    }
