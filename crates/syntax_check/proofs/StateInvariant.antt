-- The states that a run can be in: each open bracket stands where it may, and what is innermost fits the mode.
use Rattle.std.proofs.Common.{◌≡◌, zero, suc, Bool, true, false, nat_le, bytes_eq, List, [], ◌∷◌, codes, Option, Some, None, Ok, Err, subst, if◌then◌else◌}
use Rattle.tlb_syntax.specs.declared.sign.Sign.TheVariants.{Hash, Colon, Semicolon, Equal, CloseParen, OpenBrace, CloseBrace, CloseBracket, Question, Dot, Asterisk, Plus, Bang}
use Rattle.tlb_syntax.specs.Lexeme.{Lexeme, word, blank, number, tag, sign}
use Rattle.tlb_syntax.specs.Grammar.{Count, Bounds}
use Rattle.syntax_check.specs.declared.machine.Side.{Side}
use Rattle.syntax_check.specs.declared.machine.Side.TheVariants as sides
use Rattle.syntax_check.specs.declared.machine.Spot.{Spot}
use Rattle.syntax_check.specs.declared.machine.Spot.TheVariants as spots
use Rattle.syntax_check.specs.declared.machine.ParserState.{ParserState}
use Rattle.syntax_check.specs.declared.machine.ParserState.TheVariants as modes
use Rattle.syntax_check.specs.declared.machine.Frame.{Frame}
use Rattle.syntax_check.specs.declared.machine.Frame.TheVariants as frames
use Rattle.syntax_check.specs.declared.machine.Cause.{Cause}
use Rattle.syntax_check.specs.declared.machine.Cause.TheVariants.{Syntax, DeepType, TooManyFields, TooManyParams}
use Rattle.syntax_check.specs.Machine.{State, at, Outcome, and_then, spend, Begin, leaf, no_leaf, prefix, paren, record_, begin_of, begin_sign, begins, is_width, compares, opens, bare_or_end, ends_items, ends_sum, operated, applied, apply, items, typed, params, term, step_mode, run, given_to}

-- what a text is to be
pub data Text : Type 0 where
  a_schema : Text
  a_word : Text

mutual
  pub data SumFits : Text → Side → List Frame → Type 0 where
    in_paren : {t : Text} {spot : Spot} {outer : Count} {below : List Frame} → SpotFits t spot below
        → SumFits t sides.Paren (frames.Paren spot outer ∷ below)
    on_left : {t : Text} {k : Count} {below : List Frame} → ItemsFit t below → SumFits t (sides.Left k) below
    on_right : {t : Text} {k : Count} {below : List Frame} → ItemsFit t below → SumFits t (sides.Right k) below
    in_word : SumFits a_word sides.Word []

  pub data ItemsFit : Text → List Frame → Type 0 where
    in_record : {t : Text} {spot : Spot} {outer : Count} {below : List Frame} → SpotFits t spot below
        → ItemsFit t (frames.Record spot outer ∷ below)
    in_declaration : ItemsFit a_schema []

  pub data SpotFits : Text → Spot → List Frame → Type 0 where
    operand : {t : Text} {p : Side} {b : Bool} {below : List Frame} → SumFits t p below
        → SpotFits t (spots.Operand p b) below
    argument : {t : Text} {p : Side} {b : Bool} {below : List Frame} → SumFits t p below
        → SpotFits t (spots.Argument p b) below
    width : {t : Text} {p : Side} {b : Bool} {below : List Frame} → SumFits t p below
        → SpotFits t (spots.Width p b) below
    field : {t : Text} {k : Count} {below : List Frame} → ItemsFit t below → SpotFits t (spots.Field k) below
    guarded : {t : Text} {k : Count} {below : List Frame} → ItemsFit t below → SpotFits t (spots.Guarded k) below
    param : {k : Count} → SpotFits a_schema (spots.Param k) []

pub data Fits : Text → ParserState → List Frame → Type 0 where
  fits_start : Fits a_schema modes.Start []
  fits_marked : Fits a_schema modes.Marked []
  fits_headed : Fits a_schema modes.Headed []
  fits_items : {t : Text} {k : Count} {below : List Frame} → ItemsFit t below → Fits t (modes.Items k) below
  fits_brace : {t : Text} {k : Count} {below : List Frame} → ItemsFit t below → Fits t (modes.Brace k) below
  fits_brace_name : {t : Text} {k : Count} {below : List Frame} → ItemsFit t below → Fits t (modes.BraceName k) below
  fits_kind : {t : Text} {k : Count} {below : List Frame} → ItemsFit t below → Fits t (modes.Kind k) below
  fits_kind_end : {t : Text} {k : Count} {below : List Frame} → ItemsFit t below → Fits t (modes.KindEnd k) below
  fits_item_name : {t : Text} {k : Count} {below : List Frame} → ItemsFit t below → Fits t (modes.ItemName k) below
  fits_item_blank : {t : Text} {k : Count} {below : List Frame} → ItemsFit t below → Fits t (modes.ItemBlank k) below
  fits_term : {t : Text} {spot : Spot} {inner : Count} {below : List Frame} → SpotFits t spot below
      → Fits t (modes.Term spot inner) below
  fits_apply : {t : Text} {p : Side} {b : Bool} {below : List Frame} → SumFits t p below
      → Fits t (modes.Apply p b) below
  fits_applied : {t : Text} {p : Side} {b : Bool} {below : List Frame} → SumFits t p below
      → Fits t (modes.Applied p b) below
  fits_operated : {t : Text} {p : Side} {b : Bool} {below : List Frame} → SumFits t p below
      → Fits t (modes.Operated p b) below
  fits_typed : {t : Text} {k : Count} {below : List Frame} → ItemsFit t below → Fits t (modes.Typed k) below
  fits_bit : {t : Text} {k : Count} {below : List Frame} → ItemsFit t below → Fits t (modes.Bit k) below
  fits_bit_end : {t : Text} {k : Count} {below : List Frame} → ItemsFit t below → Fits t (modes.BitEnd k) below
  fits_result : Fits a_schema modes.Result []
  fits_params : {k : Count} → Fits a_schema (modes.Params k) []

-- ---- a step keeps it

abbrev Keeps : Text → Outcome → Type 0
Keeps t (Ok (at mode lv below)) = Fits t mode below
Keeps t (Err why) = Unit {0}

spend_keeps : (t : Text) (k : Count) (why : Cause) (f : Count → Outcome) → ((left : Count) → Keeps t (f left))
    → Keeps t (and_then (spend k why) f)
spend_keeps t None why f h = h None
spend_keeps t (Some zero) why f h = tt
spend_keeps t (Some (suc n)) why f h = h (Some n)

opens_keeps : (t : Text) (b : Begin) (lv : Count) (o : Outcome) → Keeps t o → Keeps t (and_then (opens b lv) (λ _. o))
opens_keeps t leaf lv o h = h
opens_keeps t no_leaf lv o h = h
opens_keeps t prefix lv o h = spend_keeps t lv DeepType (λ _. o) (λ left. h)
opens_keeps t paren lv o h = spend_keeps t lv DeepType (λ _. o) (λ left. h)
opens_keeps t record_ lv o h = spend_keeps t lv DeepType (λ _. o) (λ left. h)

if_keeps : (t : Text) (b : Bool) (o : Outcome) → Keeps t o → Keeps t (if b then o else Err Syntax)
if_keeps t true o h = h
if_keeps t false o h = tt

given_fits : {t : Text} {spot : Spot} {below : List Frame} → SpotFits t spot below → Fits t (given_to spot) below
given_fits (operand f) = fits_operated f
given_fits (argument f) = fits_applied f
given_fits (width f) = fits_operated f
given_fits (field f) = fits_typed f
given_fits (guarded f) = fits_items f
given_fits param = fits_params

begins_keeps : {t : Text} {spot : Spot} {below : List Frame} (m : Bounds) (b : Begin) (lv inner : Count)
    → SpotFits t spot below → Keeps t (begins m b spot lv inner below)
begins_keeps m leaf lv inner f = given_fits f
begins_keeps m no_leaf lv inner f = tt
begins_keeps {t} m prefix lv inner f = spend_keeps t inner DeepType _ (λ left. fits_term f)
begins_keeps {t} m paren lv inner f = spend_keeps t inner DeepType _ (λ left. fits_apply (in_paren f))
begins_keeps {t} m record_ lv inner f = spend_keeps t inner DeepType _ (λ left. fits_items (in_record f))

term_keeps : {t : Text} {spot : Spot} {below : List Frame} (m : Bounds) (o : Option Begin) (lv inner : Count)
    → SpotFits t spot below → Keeps t (term m o spot lv inner below)
term_keeps m None lv inner f = tt
term_keeps m (Some b) lv inner f = begins_keeps m b lv inner f

ends_sum_keeps : {t : Text} {p : Side} {below : List Frame} (lv : Count) (u : Lexeme) → SumFits t p below
    → Keeps t (ends_sum p lv below u)
ends_sum_keeps lv (sign CloseParen) (in_paren f) = given_fits f
ends_sum_keeps {t} lv (sign c) (on_left f) = if_keeps t (compares c) _ (fits_apply (on_right f))
ends_sum_keeps lv (sign CloseBrace) (on_right f) = fits_items f
ends_sum_keeps lv u (in_paren f) = tt
ends_sum_keeps lv u (on_left f) = tt
ends_sum_keeps lv u (on_right f) = tt
ends_sum_keeps lv u in_word = tt

operated_keeps : {t : Text} {p : Side} {below : List Frame} (b : Bool) (lv : Count) (u : Lexeme) → SumFits t p below
    → Keeps t (operated p b lv below u)
operated_keeps true lv (sign Asterisk) f = tt
operated_keeps false lv (sign Asterisk) f = fits_apply f
operated_keeps b lv (sign Plus) f = fits_apply f
operated_keeps b lv u f = ends_sum_keeps lv u f

applied_keeps : {t : Text} {p : Side} {below : List Frame} (m : Bounds) (o : Option Begin) (b : Bool) (lv : Count)
    (u : Lexeme) → SumFits t p below
    → Keeps t (applied m o p b lv below u)
applied_keeps m None b lv u f = operated_keeps b lv u f
applied_keeps m (Some x) b lv u f = begins_keeps m x lv lv (argument f)

apply_sign_keeps : {t : Text} {p : Side} {below : List Frame} (m : Bounds) (w : Bool) (o : Option Begin) (b : Bool)
    (lv : Count) → SumFits t p below
    → Keeps t
    (if w then Ok (at (modes.Term (spots.Width p b) lv) lv below) else term m o (spots.Operand p b) lv lv below)
apply_sign_keeps m true o b lv f = fits_term (width f)
apply_sign_keeps m false o b lv f = term_keeps m o lv lv (operand f)

apply_keeps : {t : Text} {p : Side} {below : List Frame} (m : Bounds) (b : Bool) (lv : Count) (u : Lexeme)
    → SumFits t p below → Keeps t (apply m p b lv below u)
apply_keeps m b lv (word x) f = fits_applied f
apply_keeps m b lv (sign c) f = apply_sign_keeps m (is_width c) (begin_sign c) b lv f
apply_keeps m b lv u f = term_keeps m (begin_of u) lv lv (operand {b = b} f)

ends_items_keeps : {t : Text} {below : List Frame} (lv : Count) (u : Lexeme) → ItemsFit t below
    → Keeps t (ends_items lv below u)
ends_items_keeps lv (sign Equal) in_declaration = fits_result
ends_items_keeps lv (sign CloseBracket) (in_record f) = given_fits f
ends_items_keeps lv u in_declaration = tt
ends_items_keeps lv u (in_record f) = tt

bare_keeps : {t : Text} {below : List Frame} (m : Bounds) (o : Option Begin) (k lv : Count) (u : Lexeme)
    → ItemsFit t below → Keeps t (bare_or_end m o k lv below u)
bare_keeps m None k lv u f = ends_items_keeps lv u f
bare_keeps {t} {below} m (Some b) k lv u f =
    opens_keeps t b lv (and_then (spend k TooManyFields) (λ left. begins m b (spots.Field left) lv lv below))
    (spend_keeps t k TooManyFields (λ left. begins m b (spots.Field left) lv lv below)
    (λ left. begins_keeps m b lv lv (field f)))

items_keeps : {t : Text} {below : List Frame} (m : Bounds) (k lv : Count) (u : Lexeme) → ItemsFit t below
    → Keeps t (items m k lv below u)
items_keeps {t} {below} m k lv (word x) f =
    spend_keeps t k TooManyFields (λ left. Ok (at (modes.ItemName left) lv below)) (λ left. fits_item_name f)
items_keeps {t} {below} m k lv blank f =
    spend_keeps t k TooManyFields (λ left. Ok (at (modes.ItemBlank left) lv below)) (λ left. fits_item_blank f)
items_keeps {t} {below} m k lv (sign OpenBrace) f =
    spend_keeps t k TooManyFields (λ left. Ok (at (modes.Brace left) lv below)) (λ left. fits_brace f)
items_keeps m k lv u f = bare_keeps m (begin_of u) k lv u f

typed_keeps : {t : Text} {below : List Frame} (m : Bounds) (k lv : Count) (u : Lexeme) → ItemsFit t below
    → Keeps t (typed m k lv below u)
typed_keeps m k lv (sign Question) f = fits_term (guarded f)
typed_keeps m k lv (sign Dot) f = fits_bit f
typed_keeps m k lv u f = items_keeps m k lv u f

params_keeps : (m : Bounds) (o : Option Begin) (k lv : Count) (u : Lexeme) → Keeps a_schema (params m o k lv [] u)
params_keeps m (Some b) k lv u =
    spend_keeps a_schema k TooManyParams (λ left. begins m b (spots.Param left) lv lv [])
    (λ left. begins_keeps m b lv lv param)
params_keeps m None k lv (sign Semicolon) = fits_start
params_keeps m None k lv u = tt

step_keeps : {t : Text} {mode : ParserState} {below : List Frame} (m : Bounds) (lv : Count) (u : Lexeme)
    → Fits t mode below
    → Keeps t (step_mode m mode lv below u)
step_keeps m lv (word x) fits_start = fits_headed
step_keeps m lv blank fits_start = fits_headed
step_keeps m lv (sign Bang) fits_start = fits_marked
step_keeps m lv u fits_start = tt
step_keeps m lv (word x) fits_marked = fits_headed
step_keeps m lv blank fits_marked = fits_headed
step_keeps m lv u fits_marked = tt
step_keeps m lv (tag (Some b)) fits_headed = fits_items in_declaration
step_keeps m lv (tag None) fits_headed = tt
step_keeps m lv u fits_headed = items_keeps m m.items lv u in_declaration
step_keeps m lv u (fits_items {k = k} f) = items_keeps m k lv u f
step_keeps m lv (word x) (fits_brace f) = fits_brace_name f
step_keeps m lv u (fits_brace {k = k} f) = apply_keeps m false lv u (on_left {k = k} f)
step_keeps m lv (sign Colon) (fits_brace_name f) = fits_kind f
step_keeps m lv u (fits_brace_name {k = k} f) = applied_keeps m (begin_of u) false lv u (on_left {k = k} f)
step_keeps m lv (sign Hash) (fits_kind f) = fits_kind_end f
step_keeps {t} m lv (word x) (fits_kind f) = if_keeps t (bytes_eq x (codes "Type")) _ (fits_kind_end f)
step_keeps m lv u (fits_kind f) = tt
step_keeps m lv (sign CloseBrace) (fits_kind_end f) = fits_items f
step_keeps m lv u (fits_kind_end f) = tt
step_keeps m lv (sign Colon) (fits_item_name f) = fits_term (field f)
step_keeps m lv u (fits_item_name {k = k} f) = typed_keeps m k lv u f
step_keeps m lv (sign Colon) (fits_item_blank f) = fits_term (field f)
step_keeps m lv u (fits_item_blank f) = tt
step_keeps m lv u (fits_term {inner = inner} f) = term_keeps m (begin_of u) lv inner f
step_keeps m lv u (fits_apply {b = b} f) = apply_keeps m b lv u f
step_keeps m lv u (fits_applied {b = b} f) = applied_keeps m (begin_of u) b lv u f
step_keeps m lv u (fits_operated {b = b} f) = operated_keeps b lv u f
step_keeps m lv u (fits_typed {k = k} f) = typed_keeps m k lv u f
step_keeps {t} m lv (number (Some n)) (fits_bit f) = if_keeps t (nat_le n 31) _ (fits_bit_end f)
step_keeps m lv u (fits_bit f) = tt
step_keeps m lv (sign Question) (fits_bit_end f) = fits_term (guarded f)
step_keeps m lv u (fits_bit_end f) = tt
step_keeps m lv (word x) fits_result = fits_params
step_keeps m lv u fits_result = tt
step_keeps m lv u (fits_params {k = k}) = params_keeps m (begin_of u) k lv u

-- ---- and so does a run

abbrev pub FitsState : Text → State → Type 0
FitsState t (at mode lv below) = Fits t mode below

ok_one : (x y : State) → (◌≡◌ {A = Outcome} (Ok x) (Ok y)) → x ≡ y
ok_one x y e = cc

pub run_keeps : (t : Text) (m : Bounds) (ls : List Lexeme) (mode : ParserState) (lv : Count) (below : List Frame)
    (last : State) → Fits t mode below → run m (at mode lv below) ls ≡ Ok last → FitsState t last
run_keeps t m [] mode lv below last f e =
    let P : State → Type 0 = FitsState t in subst P (ok_one (at mode lv below) last e) f
run_keeps t m (u ∷ us) mode lv below last f e =
    go (step_mode m mode lv below u) e (step_keeps m lv u f)
    (λ mode lv below g h. run_keeps t m us mode lv below last g h)
  where
    go : (o : Outcome) → and_then o (λ next. run m next us) ≡ Ok last → Keeps t o
        → ((mode : ParserState) (lv : Count) (below : List Frame) → Fits t mode below
        → run m (at mode lv below) us ≡ Ok last
        → FitsState t last) → FitsState t last
    go (Ok (at mode lv below)) h g further = further mode lv below g h
    go (Err why) h g further = absurd (no_run why h)
      where
        no_run : (why : Cause) → (◌≡◌ {A = Outcome} (Err why) (Ok last)) → ⊥
        no_run why h = cc
