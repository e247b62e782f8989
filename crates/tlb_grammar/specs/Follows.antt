-- What the builder's calls answer, by the plain machine.
use Rattle.std.specs.Prelude.{ℕ, ◌≡◌, Bool, IsTrue, List, ◌∷◌, [], reverse, Option, option_map, Result, IfOk}
use Rattle.tlb_lexer.specs.declared.Token.{Token}
use Rattle.tlb_lexer.specs.Tokenization.{token_bytes}
use Rattle.tlb_lexer.specs.Spelling.{spells}
use Rattle.tlb_syntax.specs.Placed.{IsWithin}
use Rattle.tlb_memory.specs.declared.NoMemory.{NoMemory}
use Rattle.tlb_grammar.specs.declared.state.ParserState.{ParserState}
use Rattle.tlb_grammar.specs.declared.state.Frame.{Frame}
use Rattle.tlb_grammar.specs.declared.builder.Builder.{Builder}
use Rattle.tlb_grammar.specs.Builder.{State, at, innermost, is_innermost, outer}

-- what the mode is part of, the innermost first
abbrev pub under : Builder → List Frame
under b = reverse b.below

abbrev pub state : ParserState → Builder → State
state mode b = at mode (under b) b.done

-- the answer and the builder after the call are those of the machine
abbrev pub Follows : Builder → Result (Option ParserState) NoMemory → Option State → Type 0
Follows new result st = IfOk result (λ next. st ≡ option_map (λ mode. state mode new) next)

-- the same but for this frame on top
pub record Covered (old new : Builder) (frame : Frame) : Type 0 where
  pub below : under new ≡ frame ∷ under old
  pub done : new.done ≡ old.done

-- the same, and of no part
pub record IsBare (old new : Builder) : Type 0 where
  pub below : under old ≡ []
  pub same_below : under new ≡ []
  pub done : new.done ≡ old.done

-- the innermost part is removed; found is what it holds, where it is such a part
pub record Removes {X : Type 0} (part : Frame → Option X) (old new : Builder) (found : Option X) : Type 0 where
  pub found_is : found ≡ innermost part (under old)
  pub below : under new ≡ outer (under old)
  pub done : new.done ≡ old.done

-- the innermost part is removed; found is whether it is such a part
pub record RemovesAny (is_part : Frame → Bool) (old new : Builder) (found : Bool) : Type 0 where
  pub found_is : found ≡ is_innermost is_part (under old)
  pub below : under new ≡ outer (under old)
  pub done : new.done ≡ old.done

-- a token within the text, with bytes that spell its kind
pub record IsRead (text : List ℕ) (t : Token) : Type 0 where
  pub within : IsWithin text t
  pub spelled : IsTrue (spells t.kind (token_bytes text t))

abbrev pub ArePlaced : List ℕ → List Token → Type 0
ArePlaced text [] = Unit {0}
ArePlaced text (t ∷ ts) = IsRead text t × ArePlaced text ts
