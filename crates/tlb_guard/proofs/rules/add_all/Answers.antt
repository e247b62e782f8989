use Rattle.std.proofs.Common.{◌≡◌, ◌<◌, true, Bool, List, length, get_or, refl, sym, ap, ◌∙◌, subst, arith, get_or-set_same}
use Rattle.std.proofs.lemmas.List.{get_or_default}
use Rattle.tlb_guard.specs.Facts.{holds, IsSound}
use Rattle.tlb_guard.proofs.Searches.{extends_twice, seed_more, seed_sound}
use Rattle.tlb_guard.proofs.rules.add_all.Goals as goal

pub loop-fact-preserved : goal.loop-fact-preserved
loop-fact-preserved c =
    let s = c.loop-fact.state in
    let i = c.loop-fact.fact-index in
    let fact = get_or c.args.facts.now i 0 in
    let lt : i < length c.args.facts.now = omega arith in
    let below : fact < length s.found = let size = c.loop-fact.invariant.extends.facts in omega (arith, size, c.requires.below i 0 lt) in
    let now : holds c.add.new.state.found fact ≡ true = ap (λ z. holds z fact) c.in_ok-add.ensures.found ∙ get_or-set_same s.found fact true _ below in
    record {
      search = c.in_ok-add.ensures.search;
      extends = extends_twice c.args.state.now s c.add.new.state c.loop-fact.invariant.extends c.in_ok-add.ensures.extends;
      seeded = seed_more s c.add.new.state c.args.facts.now i c.in_ok-add.ensures.extends now c.loop-fact.invariant.seeded;
      sound = λ rs sound.
          let P : List Bool → Type 0 = λ z. IsSound rs c.args.facts.now (holds z) in
          subst P (sym c.in_ok-add.ensures.found) (seed_sound s.found fact rs c.args.facts.now i lt refl (c.loop-fact.invariant.sound rs sound));
    }

pub returns-clause-seeded : goal.returns-clause-seeded
returns-clause-seeded c = λ k d lt.
    ap (holds c.loop-fact.state.found) (get_or_default c.args.facts.now k d 0 lt) ∙ c.loop-fact.invariant.seeded k (omega (arith, lt))
