use Rattle.std.proofs.Common.{◌≡◌, ◌∙◌, List, map, None, ap}
use Rattle.std.specs.Prelude.{reverse}
use Rattle.std.proofs.lemmas.List.{with_items_is}
use Rattle.tlb_syntax.specs.Grammar.{Count}
use Rattle.syntax_check.specs.declared.machine.ParserState.{ParserState}
use Rattle.syntax_check.specs.declared.machine.Frame.{Frame}
use Rattle.syntax_check.specs.Machine.{at}
use Rattle.syntax_check.specs.Judge.{free_mode, free_frame, free}
use Rattle.syntax_check.proofs.Lists.{reverse_map}
use Rattle.syntax_check.proofs.step.Machine.lift_limits.Goals as goal

freed : (mode new_mode : ParserState) (lv : Count) (fs seen new : List Frame) → new_mode ≡ free_mode mode
    → new ≡ map free_frame seen → seen ≡ fs → at new_mode None (reverse new) ≡ free (at mode lv (reverse fs))
freed mode new_mode lv fs seen new e f g = rw (e, f, g) (ap (at (free_mode mode) None) (reverse_map free_frame fs))

pub returns-clause-freed : goal.returns-clause-freed
returns-clause-freed c =
    let same = with_items_is c.args.self.now.open c.free_all.new.frames (c.free_all.auto.frames ∙ c.deref_mut.ensures.len) in
    ap (λ (fs : List Frame). at c.freed-self.result None (reverse fs)) same
    ∙ freed c.args.self.now.mode _ c.args.self.now.levels c.args.self.now.open.items _ _ c.freed-self.ensures c.free_all.ensures c.deref_mut.ensures.value
