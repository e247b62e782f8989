-- Each state that a run can be in is brought to an end, whatever the bounds, and at most one name is declared so.
use Rattle.std.proofs.Common.{◌≡◌, ◌⊎◌, inl, inr, ◌||◌, ℕ, Bool, true, false, List, [], ◌∷◌, Some, Ok, refl, sym, ap, ◌∙◌}
use Rattle.std.proofs.lemmas.Bool.{false≢true}
use Rattle.tlb_syntax.specs.declared.sign.Sign.TheVariants.{Hash, Colon, Semicolon, Equal, CloseParen, CloseBrace, CloseBracket, Question}
use Rattle.tlb_syntax.specs.Lexeme.{Lexeme, word, number, sign}
use Rattle.tlb_syntax.specs.Grammar.{Count, Bounds}
use Rattle.syntax_check.specs.declared.machine.Side.{Side}
use Rattle.syntax_check.specs.declared.machine.Side.TheVariants as sides
use Rattle.syntax_check.specs.declared.machine.Spot.{Spot}
use Rattle.syntax_check.specs.declared.machine.Spot.TheVariants as spots
use Rattle.syntax_check.specs.declared.machine.ParserState.{ParserState}
use Rattle.syntax_check.specs.declared.machine.ParserState.TheVariants as modes
use Rattle.syntax_check.specs.declared.machine.Frame.{Frame}
use Rattle.syntax_check.specs.declared.machine.Frame.TheVariants as frames
use Rattle.syntax_check.specs.Machine.{State, at, run, given_to, schema_start, word_start, is_schema_end, is_word_end}
use Rattle.syntax_check.proofs.RunResults.{results}
use Rattle.syntax_check.proofs.StateInvariant.{Text, a_schema, a_word, SumFits, in_paren, on_left, on_right, in_word, ItemsFit, in_record, in_declaration, SpotFits, operand, argument, width, field, guarded, param, Fits, FitsState, fits_start, fits_marked, fits_headed, fits_items, fits_brace, fits_brace_name, fits_kind, fits_kind_end, fits_item_name, fits_item_blank, fits_term, fits_apply, fits_applied, fits_operated, fits_typed, fits_bit, fits_bit_end, fits_result, fits_params, run_keeps}

-- ---- whether the result of the declaration is after

abbrev pub is_spot_after_result : Spot → Bool
is_spot_after_result (spots.Param k) = true
is_spot_after_result _ = false

abbrev pub is_frame_after_result : List Frame → Bool
is_frame_after_result [] = false
is_frame_after_result (frames.Paren spot outer ∷ below) = is_spot_after_result spot || is_frame_after_result below
is_frame_after_result (frames.Record spot outer ∷ below) = is_spot_after_result spot || is_frame_after_result below

abbrev pub is_mode_after_result : ParserState → Bool
is_mode_after_result modes.Start = true
is_mode_after_result (modes.Params k) = true
is_mode_after_result (modes.Term spot inner) = is_spot_after_result spot
is_mode_after_result _ = false

-- between declarations, after a result, or in a parameter
abbrev pub is_after_result : State → Bool
is_after_result (at mode lv below) = is_mode_after_result mode || is_frame_after_result below

-- the names that are still to be declared, where x is taken for the result
abbrev pub named_later : Bool → List ℕ → List (List ℕ)
named_later true x = []
named_later false x = x ∷ []

-- ---- closing what is open

abbrev names_left : Text → Bool → List ℕ → List (List ℕ)
names_left a_schema is_after x = named_later is_after x
names_left a_word is_after x = []

abbrev may_end : Text → State → Bool
may_end a_schema st = is_schema_end st
may_end a_word st = is_word_end st

abbrev Closing : Text → Bounds → List ℕ → State → Bool → Type 0
Closing t m x st is_after =
    (more : List Lexeme) × (last : State) × (run m st more ≡ Ok last) × (may_end t last ≡ true)
    × (results m st more ≡ names_left t is_after x)

-- after an operand: a name, or anything else
abbrev operand_state : Bool → Side → Bool → ParserState
operand_state true p b = modes.Applied p b
operand_state false p b = modes.Operated p b

data Pause : Type 0 where
  settled half bare : Pause

abbrev paused : Pause → Count → ParserState
paused settled k = modes.Items k
paused half k = modes.Typed k
paused bare k = modes.ItemName k

mutual
  close_sum : {t : Text} {p : Side} {below : List Frame} → SumFits t p below
      → (m : Bounds) (x : List ℕ) (is_name b : Bool) (lv : Count)
      → Closing t m x (at (operand_state is_name p b) lv below) (is_frame_after_result below)
  close_sum (in_paren {outer = outer} f) m x true b lv =
      let k = close_spot f m x outer in (sign CloseParen ∷ k.0, k.1, k.2, k.3, k.4)
  close_sum (in_paren {outer = outer} f) m x false b lv =
      let k = close_spot f m x outer in (sign CloseParen ∷ k.0, k.1, k.2, k.3, k.4)
  close_sum (on_left {k = n} f) m x true b lv =
      let k = close_items f m x settled n lv in (sign Equal ∷ word x ∷ sign CloseBrace ∷ k.0, k.1, k.2, k.3, k.4)
  close_sum (on_left {k = n} f) m x false b lv =
      let k = close_items f m x settled n lv in (sign Equal ∷ word x ∷ sign CloseBrace ∷ k.0, k.1, k.2, k.3, k.4)
  close_sum (on_right {k = n} f) m x true b lv =
      let k = close_items f m x settled n lv in (sign CloseBrace ∷ k.0, k.1, k.2, k.3, k.4)
  close_sum (on_right {k = n} f) m x false b lv =
      let k = close_items f m x settled n lv in (sign CloseBrace ∷ k.0, k.1, k.2, k.3, k.4)
  close_sum in_word m x true b lv = ([], at (modes.Applied sides.Word b) lv [], refl, refl, refl)
  close_sum in_word m x false b lv = ([], at (modes.Operated sides.Word b) lv [], refl, refl, refl)

  close_items : {t : Text} {below : List Frame} → ItemsFit t below
      → (m : Bounds) (x : List ℕ) (w : Pause) (n lv : Count)
      → Closing t m x (at (paused w n) lv below) (is_frame_after_result below)
  close_items in_declaration m x settled n lv =
      (sign Equal ∷ word x ∷ sign Semicolon ∷ [], at modes.Start lv [], refl, refl, refl)
  close_items in_declaration m x half n lv =
      (sign Equal ∷ word x ∷ sign Semicolon ∷ [], at modes.Start lv [], refl, refl, refl)
  close_items in_declaration m x bare n lv =
      (sign Equal ∷ word x ∷ sign Semicolon ∷ [], at modes.Start lv [], refl, refl, refl)
  close_items (in_record {outer = outer} f) m x settled n lv =
      let k = close_spot f m x outer in (sign CloseBracket ∷ k.0, k.1, k.2, k.3, k.4)
  close_items (in_record {outer = outer} f) m x half n lv =
      let k = close_spot f m x outer in (sign CloseBracket ∷ k.0, k.1, k.2, k.3, k.4)
  close_items (in_record {outer = outer} f) m x bare n lv =
      let k = close_spot f m x outer in (sign CloseBracket ∷ k.0, k.1, k.2, k.3, k.4)

  close_spot : {t : Text} {spot : Spot} {below : List Frame} → SpotFits t spot below
      → (m : Bounds) (x : List ℕ) (lv : Count)
      → Closing t m x (at (given_to spot) lv below) (is_spot_after_result spot || is_frame_after_result below)
  close_spot (operand {b = b} f) m x lv = close_sum f m x false b lv
  close_spot (argument {b = b} f) m x lv = close_sum f m x true b lv
  close_spot (width {b = b} f) m x lv = close_sum f m x false b lv
  close_spot (field {k = n} f) m x lv = close_items f m x half n lv
  close_spot (guarded {k = n} f) m x lv = close_items f m x settled n lv
  close_spot param m x lv = (sign Semicolon ∷ [], at modes.Start lv [], refl, refl, refl)

closing : {t : Text} {mode : ParserState} {below : List Frame} → Fits t mode below
    → (m : Bounds) (x : List ℕ) (lv : Count)
    → Closing t m x (at mode lv below) (is_after_result (at mode lv below))
closing fits_start m x lv = ([], at modes.Start lv [], refl, refl, refl)
closing fits_marked m x lv = (word x ∷ sign Equal ∷ word x ∷ sign Semicolon ∷ [], at modes.Start lv [], refl, refl, refl)
closing fits_headed m x lv = (sign Equal ∷ word x ∷ sign Semicolon ∷ [], at modes.Start lv [], refl, refl, refl)
closing (fits_items {k = n} f) m x lv = close_items f m x settled n lv
closing (fits_brace {k = n} f) m x lv =
    let k = close_items f m x settled n lv in
    (word x ∷ sign Colon ∷ sign Hash ∷ sign CloseBrace ∷ k.0, k.1, k.2, k.3, k.4)
closing (fits_brace_name {k = n} f) m x lv =
    let k = close_items f m x settled n lv in (sign Colon ∷ sign Hash ∷ sign CloseBrace ∷ k.0, k.1, k.2, k.3, k.4)
closing (fits_kind {k = n} f) m x lv =
    let k = close_items f m x settled n lv in (sign Hash ∷ sign CloseBrace ∷ k.0, k.1, k.2, k.3, k.4)
closing (fits_kind_end {k = n} f) m x lv =
    let k = close_items f m x settled n lv in (sign CloseBrace ∷ k.0, k.1, k.2, k.3, k.4)
closing (fits_item_name {k = n} f) m x lv = close_items f m x bare n lv
closing (fits_item_blank {k = n} f) m x lv =
    let k = close_items f m x half n lv in (sign Colon ∷ word x ∷ k.0, k.1, k.2, k.3, k.4)
closing (fits_term f) m x lv = let k = close_spot f m x lv in (word x ∷ k.0, k.1, k.2, k.3, k.4)
closing (fits_apply {b = b} f) m x lv = let k = close_sum f m x true b lv in (word x ∷ k.0, k.1, k.2, k.3, k.4)
closing (fits_applied {b = b} f) m x lv = close_sum f m x true b lv
closing (fits_operated {b = b} f) m x lv = close_sum f m x false b lv
closing (fits_typed {k = n} f) m x lv = close_items f m x half n lv
closing (fits_bit {k = n} f) m x lv =
    let k = close_items f m x settled n lv in (number (Some 0) ∷ sign Question ∷ word x ∷ k.0, k.1, k.2, k.3, k.4)
closing (fits_bit_end {k = n} f) m x lv =
    let k = close_items f m x settled n lv in (sign Question ∷ word x ∷ k.0, k.1, k.2, k.3, k.4)
closing fits_result m x lv = (word x ∷ sign Semicolon ∷ [], at modes.Start lv [], refl, refl, refl)
closing fits_params m x lv = (sign Semicolon ∷ [], at modes.Start lv [], refl, refl, refl)

state_closing : (t : Text) (m : Bounds) (x : List ℕ) (st : State) → FitsState t st
    → Closing t m x st (is_after_result st)
state_closing t m x (at mode lv below) f = closing f m x lv

-- ---- ends

-- at an end the result is after
end_after_result : (st : State) → is_schema_end st ≡ true → is_after_result st ≡ true
end_after_result (at modes.Start lv below) e = refl
end_after_result (at mode lv below) e = absurd (false≢true e)

-- how a schema goes on to an end: by nothing where it may end, and by x for a result that is not after
abbrev pub SchemaEnding : Bounds → List ℕ → State → Type 0
SchemaEnding m x st =
    (more : List Lexeme) × (last : State) × (run m st more ≡ Ok last) × (is_schema_end last ≡ true)
    × ((results m st more ≡ []) ⊎ (results m st more ≡ x ∷ []))
    × (is_schema_end st ≡ true → more ≡ []) × (results m st more ≡ named_later (is_after_result st) x)

none_or_one : {names : List (List ℕ)} (is_after : Bool) (x : List ℕ) → names ≡ named_later is_after x
    → (names ≡ []) ⊎ (names ≡ x ∷ [])
none_or_one true x e = inl e
none_or_one false x e = inr e

pub schema_ending : (m : Bounds) (prefix : List Lexeme) (st : State) → run m (schema_start m) prefix ≡ Ok st
    → (x : List ℕ) → SchemaEnding m x st
schema_ending m prefix st e x =
    go (is_schema_end st) refl
    (state_closing a_schema m x st (run_keeps a_schema m prefix modes.Start m.levels [] st fits_start e))
  where
    go : (is_end : Bool) → is_schema_end st ≡ is_end → Closing a_schema m x st (is_after_result st)
        → SchemaEnding m x st
    go true f k = ([], st, refl, f, inl refl, (λ g. refl), ap (λ z. named_later z x) (sym (end_after_result st f)))
    go false f k =
        (k.0, k.1, k.2, k.3, none_or_one (is_after_result st) x k.4, (λ g. absurd (false≢true (sym f ∙ g))), k.4)

-- how a type word goes on to an end: by nothing where it may end
abbrev pub WordEnding : Bounds → State → Type 0
WordEnding m st =
    (more : List Lexeme) × (last : State) × (run m st more ≡ Ok last) × (is_word_end last ≡ true)
    × (is_word_end st ≡ true → more ≡ [])

-- by names x alone
pub word_ending : (m : Bounds) (prefix : List Lexeme) (st : State) → run m (word_start m) prefix ≡ Ok st → (x : List ℕ)
    → WordEnding m st
word_ending m prefix st e x =
    go (is_word_end st) refl
    (state_closing a_word m x st
    (run_keeps a_word m prefix (modes.Apply sides.Word false) m.levels [] st (fits_apply in_word) e))
  where
    go : (is_end : Bool) → is_word_end st ≡ is_end → Closing a_word m x st (is_after_result st) → WordEnding m st
    go true f k = ([], st, refl, f, (λ g. refl))
    go false f k = (k.0, k.1, k.2, k.3, (λ g. absurd (false≢true (sym f ∙ g))))
