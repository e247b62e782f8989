use Rattle.std.proofs.Common.{◌≡◌, ◌∙◌, sym, ap, inl, inr, List, ℕ, Option, Some, None, Ok, Err, true, false, refl}
use Rattle.std.specs.Bool.{IsTrue}
use Rattle.std.specs.Option.{IsSome}
use Rattle.tlb_syntax.specs.Lexeme.{Lexeme, lexeme, tag}
use Rattle.tlb_syntax.specs.Grammar.{Count, Bounds}
use Rattle.tlb_syntax.specs.Tags.{bits_of}
use Rattle.syntax_check.specs.declared.machine.ParserState.TheVariants.{Headed, Items}
use Rattle.syntax_check.specs.declared.machine.Cause.TheVariants.{Syntax}
use Rattle.syntax_check.specs.declared.machine.Frame.{Frame}
use Rattle.syntax_check.specs.Machine.{at, step_mode}
use Rattle.syntax_check.specs.Step.{bounds_of}
use Rattle.syntax_check.proofs.step.Machine.headed.Goals as goal

fit : (m : Bounds) (lv : Count) (fs : List Frame) (o : Option (List ℕ)) → IsSome o
    → step_mode m Headed lv fs (tag o) ≡ Ok (at (Items m.items) lv fs)
fit m lv fs (Some b) h = refl
fit m lv fs None h = cc

unfit : (m : Bounds) (lv : Count) (fs : List Frame) (o : Option (List ℕ)) → (IsSome o → IsTrue false)
    → step_mode m Headed lv fs (tag o) ≡ Err Syntax
unfit m lv fs (Some b) h = let e : false ≡ true = h refl in cc
unfit m lv fs None h = refl

fit_at : (m : Bounds) (lv : Count) (fs : List Frame) (t : Lexeme) (o : Option (List ℕ)) → t ≡ tag o
    → IsSome (bits_of t) → step_mode m Headed lv fs t ≡ Ok (at (Items m.items) lv fs)
fit_at m lv fs t o e h = rw e (fit m lv fs o (rw e at h))

unfit_at : (m : Bounds) (lv : Count) (fs : List Frame) (t : Lexeme) (o : Option (List ℕ)) → t ≡ tag o
    → (IsSome (bits_of t) → IsTrue false) → step_mode m Headed lv fs t ≡ Err Syntax
unfit_at m lv fs t o e h = rw e (unfit m lv fs o (rw e at h))

pub returns-then-has_tag_bits : goal.returns-then-has_tag_bits
returns-then-has_tag_bits c = elim c.in-BinaryTag.is [
  | inl p ↦ fit_at (bounds_of c.args.self.now) _ _ (lexeme c.args.next) _ (ap lexeme p.1) (c.if-has_tag_bits.ensures.0 refl) ∙ sym c.stay.ensures
  | inr p ↦ fit_at (bounds_of c.args.self.now) _ _ (lexeme c.args.next) _ (ap lexeme p.1) (c.if-has_tag_bits.ensures.0 refl) ∙ sym c.stay.ensures
]

pub returns-else-has_tag_bits : goal.returns-else-has_tag_bits
returns-else-has_tag_bits c = elim c.in-BinaryTag.is [
  | inl p ↦ unfit_at (bounds_of c.args.self.now) _ _ (lexeme c.args.next) _ (ap lexeme p.1) c.if-has_tag_bits.ensures.1
  | inr p ↦ unfit_at (bounds_of c.args.self.now) _ _ (lexeme c.args.next) _ (ap lexeme p.1) c.if-has_tag_bits.ensures.1
]
