-- What is written is gone through: one line a production.
use Rattle.std.proofs.Common.{◌≡◌, ◌≤◌, ◌⊎◌, inl, inr, ℕ, Bool, true, false, nat_le, List, [], ◌∷◌, map, codes, Option, Some, Ok, Err, refl, ap, ◌∙◌, if◌then◌else◌}
use Rattle.std.proofs.lemmas.Bool.{le-leb}
use Rattle.nat_solver.specs.declared.compare.Op.{Op}
use Rattle.tlb_syntax.specs.declared.sign.Sign.{Sign}
use Rattle.tlb_syntax.specs.declared.sign.Sign.TheVariants.{Hash, HashHash, HashLess, HashLessEqual, Colon, Equal, OpenParen, CloseParen, OpenBrace, CloseBrace, OpenBracket, CloseBracket, Caret, Tilde, Question, Dot, Asterisk, Plus}
use Rattle.tlb_syntax.specs.Lexeme.{Lexeme, word, blank, number, sign}
use Rattle.tlb_syntax.specs.Tree.{ExprView, ExprList, ItemView, ItemList, TypeView, TagView, ConstructorView, SchemaView}
use Rattle.tlb_syntax.specs.Grammar.{Count, Bounds, Spends, freely, one_less, Compares, equal, less, less_equal, greater, greater_equal, Heads, by_name, by_blank, Tagged, tagged, untagged, Term, a_number, a_name, a_hash, an_output, a_reference, a_paren, a_record, Terms, no_terms, a_term, Apply, of_name, of_bits, of_below, of_up_to, of_term, Product, one_factor, two_factors, Sum, a_sum, Addends, no_addend, an_addend, Typed, always, on_number, on_bit, AnItem, of_numbers, of_types, a_check, a_field, a_bare_field, Items, no_item, one_item, Params, no_param, a_param, Declared, a_declaration, Declaration, of_ordinary, of_exotic, Declarations, no_declaration, one_more, TypeWord}
use Rattle.syntax_check.specs.declared.machine.Side.{Side}
use Rattle.syntax_check.specs.declared.machine.Side.TheVariants as sides
use Rattle.syntax_check.specs.declared.machine.Spot.{Spot}
use Rattle.syntax_check.specs.declared.machine.Spot.TheVariants as spots
use Rattle.syntax_check.specs.declared.machine.ParserState.{ParserState}
use Rattle.syntax_check.specs.declared.machine.ParserState.TheVariants as modes
use Rattle.syntax_check.specs.declared.machine.Frame.{Frame}
use Rattle.syntax_check.specs.declared.machine.Frame.TheVariants as frames
use Rattle.syntax_check.specs.declared.machine.Cause.{Cause}
use Rattle.syntax_check.specs.declared.machine.Cause.TheVariants.{Syntax, DeepType, TooManyFields, TooManyParams}
use Rattle.syntax_check.specs.Machine.{State, at, Outcome, and_then, spend, Begin, leaf, prefix, paren, record_, begins, run, given_to, schema_start, word_start, is_schema_end, is_word_end}
use Rattle.syntax_check.proofs.RunResults.{if_taken, results, trail}

-- both ways go on alike
abbrev Same : Bounds → ParserState → Count → List Frame → List Lexeme → ParserState → Count → List Frame → List Lexeme
    → Type 0
Same m a lv below s b outer above r = trail m (at a lv below) s ≡ trail m (at b outer above) r

-- ---- states that do the same on what can follow

-- after an operand: a name, which may take arguments, or anything else
data Named : Side → Bool → ParserState → Type 0 where
  applied : {p : Side} {s : Bool} → Named p s (modes.Applied p s)
  braced : {k : Count} → Named (sides.Left k) false (modes.BraceName k)

data AfterOperand : Side → Bool → ParserState → Type 0 where
  whole : {p : Side} {s : Bool} → AfterOperand p s (modes.Operated p s)
  a_named : {p : Side} {s : Bool} {mode : ParserState} → Named p s mode → AfterOperand p s mode

-- where an operand is expected
data Wanted : Side → Bool → ParserState → Type 0 where
  wanted : {p : Side} {s : Bool} → Wanted p s (modes.Apply p s)
  in_brace : {k : Count} → Wanted (sides.Left k) false (modes.Brace k)

-- between items, of which k may come
data Paused (m : Bounds) : Count → ParserState → Type 0 where
  settled : {k : Count} → Paused m k (modes.Items k)
  half : {k : Count} → Paused m k (modes.Typed k)
  bare : {k : Count} → Paused m k (modes.ItemName k)
  headed : Paused m m.items modes.Headed

-- after the first term of a field
data Begun : Count → ParserState → Type 0 where
  a_type : {k : Count} → Begun k (modes.Typed k)
  a_bare : {k : Count} → Begun k (modes.ItemName k)

-- what a step leads to, and the names after it
abbrev onward : Bounds → Outcome → List Lexeme → Outcome × List (List ℕ)
onward m o ts = (and_then o (λ next. run m next ts), if_taken o (λ next. results m next ts))

spent : (m : Bounds) {k left : Count} (why : Cause) (f : Count → Outcome) (ts : List Lexeme) → Spends k left
    → onward m (and_then (spend k why) f) ts ≡ onward m (f left) ts
spent m why f ts freely = refl
spent m why f ts one_less = refl

-- an argument begins after a name
argument_same : (m : Bounds) {p : Side} {b : Bool} {mode : ParserState} {d : Count} {s r : List Lexeme} {e : ExprView}
    → (below : List Frame) → Named p b mode → Term m d s e r
    → Same m mode d below s (modes.Term (spots.Argument p b) d) d below s
argument_same m below applied a_number = refl
argument_same m below applied a_name = refl
argument_same m below applied a_hash = refl
argument_same m below applied (an_output sp x) = refl
argument_same m below applied (a_reference sp x) = refl
argument_same m below applied (a_paren sp x) = refl
argument_same m below applied (a_record sp x) = refl
argument_same m below braced a_number = refl
argument_same m below braced a_name = refl
argument_same m below braced a_hash = refl
argument_same m below braced (an_output sp x) = refl
argument_same m below braced (a_reference sp x) = refl
argument_same m below braced (a_paren sp x) = refl
argument_same m below braced (a_record sp x) = refl

-- an operand begins with a term, other than a name that it begins
operand_same : (m : Bounds) {p : Side} {b : Bool} {mode : ParserState} {d : Count} {s r : List Lexeme} {e : ExprView}
    → (below : List Frame) → Wanted p b mode → Term m d s e r
    → (Same m mode d below s (modes.Term (spots.Operand p b) d) d below s)
    ⊎ ((last : ParserState) × Named p b last × (Same m mode d below s last d below r))
operand_same m below wanted a_number = inl refl
operand_same m below wanted a_name = inr (_, applied, refl)
operand_same m below wanted a_hash = inl refl
operand_same m below wanted (an_output sp x) = inl refl
operand_same m below wanted (a_reference sp x) = inl refl
operand_same m below wanted (a_paren sp x) = inl refl
operand_same m below wanted (a_record sp x) = inl refl
operand_same m below in_brace a_number = inl refl
operand_same m below in_brace a_name = inr (_, braced, refl)
operand_same m below in_brace a_hash = inl refl
operand_same m below in_brace (an_output sp x) = inl refl
operand_same m below in_brace (a_reference sp x) = inl refl
operand_same m below in_brace (a_paren sp x) = inl refl
operand_same m below in_brace (a_record sp x) = inl refl

name_same : (m : Bounds) {p : Side} {b : Bool} {mode : ParserState} (d : Count) (x : List ℕ) (s : List Lexeme)
    → (below : List Frame) → Wanted p b mode
    → (last : ParserState) × Named p b last × (Same m mode d below (word x ∷ s) last d below s)
name_same m d x s below wanted = (_, applied, refl)
name_same m d x s below in_brace = (_, braced, refl)

-- a symbol that takes one argument
data Measures : Sign → Type 0 where
  measures : Measures HashHash
  measures_below : Measures HashLess
  measures_up_to : Measures HashLessEqual

width_same : (m : Bounds) {p : Side} {b : Bool} {mode : ParserState} {c : Sign} (d : Count) (s : List Lexeme)
    → (below : List Frame) → Wanted p b mode → Measures c
    → Same m mode d below (sign c ∷ s) (modes.Term (spots.Width p b) d) d below s
width_same m d s below wanted measures = refl
width_same m d s below wanted measures_below = refl
width_same m d s below wanted measures_up_to = refl
width_same m d s below in_brace measures = refl
width_same m d s below in_brace measures_below = refl
width_same m d s below in_brace measures_up_to = refl

-- a further factor, a further addend
factor_same : (m : Bounds) {p : Side} {mode : ParserState} (d : Count) (s : List Lexeme) → (below : List Frame)
    → AfterOperand p false mode
    → Same m mode d below (sign Asterisk ∷ s) (modes.Apply p true) d below s
factor_same m d s below whole = refl
factor_same m d s below (a_named applied) = refl
factor_same m d s below (a_named braced) = refl

addend_same : (m : Bounds) {p : Side} {b : Bool} {mode : ParserState} (d : Count) (s : List Lexeme)
    → (below : List Frame)
    → AfterOperand p b mode
    → Same m mode d below (sign Plus ∷ s) (modes.Apply p false) d below s
addend_same m d s below whole = refl
addend_same m d s below (a_named applied) = refl
addend_same m d s below (a_named braced) = refl

-- what ends a sum
paren_same : (m : Bounds) {b : Bool} {mode : ParserState} (d outer : Count) (s : List Lexeme)
    → (spot : Spot) (below : List Frame) → AfterOperand sides.Paren b mode
    → Same m mode d (frames.Paren spot outer ∷ below) (sign CloseParen ∷ s) (given_to spot) outer below s
paren_same m d outer s spot below whole = refl
paren_same m d outer s spot below (a_named applied) = refl

left_same : (m : Bounds) {k : Count} {b : Bool} {mode : ParserState} {c : Sign} {op : Op} (d : Count) (s : List Lexeme)
    → (below : List Frame) → Compares c op → AfterOperand (sides.Left k) b mode
    → Same m mode d below (sign c ∷ s) (modes.Apply (sides.Right k) false) d below s
left_same m d s below equal whole = refl
left_same m d s below less whole = refl
left_same m d s below less_equal whole = refl
left_same m d s below greater whole = refl
left_same m d s below greater_equal whole = refl
left_same m d s below equal (a_named applied) = refl
left_same m d s below less (a_named applied) = refl
left_same m d s below less_equal (a_named applied) = refl
left_same m d s below greater (a_named applied) = refl
left_same m d s below greater_equal (a_named applied) = refl
left_same m d s below equal (a_named braced) = refl
left_same m d s below less (a_named braced) = refl
left_same m d s below less_equal (a_named braced) = refl
left_same m d s below greater (a_named braced) = refl
left_same m d s below greater_equal (a_named braced) = refl

right_same : (m : Bounds) {k : Count} {b : Bool} {mode : ParserState} (d : Count) (s : List Lexeme)
    → (below : List Frame)
    → AfterOperand (sides.Right k) b mode
    → Same m mode d below (sign CloseBrace ∷ s) (modes.Items k) d below s
right_same m d s below whole = refl
right_same m d s below (a_named applied) = refl

-- ---- items

-- what begins or ends an item
data Between : Lexeme → Type 0 where
  at_name : {x : List ℕ} → Between (word x)
  at_blank : Between blank
  at_number : {n : Option ℕ} → Between (number n)
  at_hash : Between (sign Hash)
  at_tilde : Between (sign Tilde)
  at_caret : Between (sign Caret)
  at_paren : Between (sign OpenParen)
  at_bracket : Between (sign OpenBracket)
  at_brace : Between (sign OpenBrace)
  at_equal : Between (sign Equal)
  at_close : Between (sign CloseBracket)

pause_same : (m : Bounds) {k : Count} {mode : ParserState} {t : Lexeme} (d : Count) (s : List Lexeme)
    → (below : List Frame)
    → Paused m k mode → Between t
    → Same m mode d below (t ∷ s) (modes.Items k) d below (t ∷ s)
pause_same m d s below settled t = refl
pause_same m d s below half at_name = refl
pause_same m d s below half at_blank = refl
pause_same m d s below half at_number = refl
pause_same m d s below half at_hash = refl
pause_same m d s below half at_tilde = refl
pause_same m d s below half at_caret = refl
pause_same m d s below half at_paren = refl
pause_same m d s below half at_bracket = refl
pause_same m d s below half at_brace = refl
pause_same m d s below half at_equal = refl
pause_same m d s below half at_close = refl
pause_same m d s below bare at_name = refl
pause_same m d s below bare at_blank = refl
pause_same m d s below bare at_number = refl
pause_same m d s below bare at_hash = refl
pause_same m d s below bare at_tilde = refl
pause_same m d s below bare at_caret = refl
pause_same m d s below bare at_paren = refl
pause_same m d s below bare at_bracket = refl
pause_same m d s below bare at_brace = refl
pause_same m d s below bare at_equal = refl
pause_same m d s below bare at_close = refl
pause_same m d s below headed at_name = refl
pause_same m d s below headed at_blank = refl
pause_same m d s below headed at_number = refl
pause_same m d s below headed at_hash = refl
pause_same m d s below headed at_tilde = refl
pause_same m d s below headed at_caret = refl
pause_same m d s below headed at_paren = refl
pause_same m d s below headed at_bracket = refl
pause_same m d s below headed at_brace = refl
pause_same m d s below headed at_equal = refl
pause_same m d s below headed at_close = refl

brace_same : (m : Bounds) {k left : Count} {mode : ParserState} (d : Count) (s : List Lexeme) → (below : List Frame)
    → Paused m k mode → Spends k left
    → Same m mode d below (sign OpenBrace ∷ s) (modes.Brace left) d below s
brace_same m d s below w sp =
    pause_same m d s below w at_brace ∙ spent m TooManyFields (λ left. Ok (at (modes.Brace left) d below)) s sp

head_same : (m : Bounds) {k left : Count} {mode : ParserState} {h : Lexeme} {x : Option (List ℕ)} (d : Count)
    (s : List Lexeme)
    → (below : List Frame) → Paused m k mode → Spends k left → Heads h x
    → Same m mode d below (h ∷ sign Colon ∷ s) (modes.Term (spots.Field left) d) d below s
head_same m d s below w sp by_name =
    pause_same m d (sign Colon ∷ s) below w at_name
    ∙ spent m TooManyFields (λ left. Ok (at (modes.ItemName left) d below)) (sign Colon ∷ s) sp
head_same m d s below w sp by_blank =
    pause_same m d (sign Colon ∷ s) below w at_blank
    ∙ spent m TooManyFields (λ left. Ok (at (modes.ItemBlank left) d below)) (sign Colon ∷ s) sp

opened_same : (m : Bounds) {inner left : Count} (k d : Count) (b : Begin) (s : List Lexeme) (below : List Frame)
    → Spends d inner → Spends k left
    → onward m
    (and_then (spend d DeepType)
    (λ _. and_then (spend k TooManyFields) (λ after. begins m b (spots.Field after) d d below))) s
    ≡ onward m (begins m b (spots.Field left) d d below) s
opened_same m k d b s below open_ sp =
    spent m DeepType (λ _. and_then (spend k TooManyFields) (λ after. begins m b (spots.Field after) d d below)) s open_
    ∙ spent m TooManyFields (λ after. begins m b (spots.Field after) d d below) s sp

record_same : (m : Bounds) {k : Count} {mode : ParserState} (d outer : Count) (s : List Lexeme) (spot : Spot)
    (below : List Frame) → Paused m k mode
    → Same m mode d (frames.Record spot outer ∷ below) (sign CloseBracket ∷ s) (given_to spot) outer below s
record_same m d outer s spot below w = pause_same m d s (frames.Record spot outer ∷ below) w at_close

-- a field without a name begins with a term, which a name may be
first_same : (m : Bounds) {k left d : Count} {mode : ParserState} {s r : List Lexeme} {e : ExprView}
    → (below : List Frame)
    → Paused m k mode → Spends k left → Term m d s e r
    → (Same m mode d below s (modes.Term (spots.Field left) d) d below s)
    ⊎ ((last : ParserState) × Begun left last × (Same m mode d below s last d below r))
first_same m {d} below w sp (a_number {r = r}) =
    inl (pause_same m d r below w at_number
    ∙ spent m TooManyFields (λ left. begins m leaf (spots.Field left) d d below) r sp)
first_same m {d} below w sp (a_name {r = r}) =
    inr (
      _,
      a_bare,
      pause_same m d r below w at_name
          ∙ spent m TooManyFields (λ left. Ok (at (modes.ItemName left) d below)) r sp,
    )
first_same m {d} below w sp (a_hash {r = r}) =
    inl (pause_same m d r below w at_hash
    ∙ spent m TooManyFields (λ left. begins m leaf (spots.Field left) d d below) r sp)
first_same m {k} {d} below w sp (an_output {s = s} open_ x) =
    inl (pause_same m d s below w at_tilde ∙ opened_same m k d prefix s below open_ sp)
first_same m {k} {d} below w sp (a_reference {s = s} open_ x) =
    inl (pause_same m d s below w at_caret ∙ opened_same m k d prefix s below open_ sp)
first_same m {k} {d} below w sp (a_paren {s = s} open_ x) =
    inl (pause_same m d s below w at_paren ∙ opened_same m k d paren s below open_ sp)
first_same m {k} {d} below w sp (a_record {s = s} open_ x) =
    inl (pause_same m d s below w at_bracket ∙ opened_same m k d record_ s below open_ sp)

-- after the first term of a field
begun_pause : {m : Bounds} {k : Count} {mode : ParserState} → Begun k mode → Paused m k mode
begun_pause a_type = half
begun_pause a_bare = bare

guard_same : (m : Bounds) {k : Count} {mode : ParserState} (d : Count) (s : List Lexeme) → (below : List Frame)
    → Begun k mode
    → Same m mode d below (sign Question ∷ s) (modes.Term (spots.Guarded k) d) d below s
guard_same m d s below a_type = refl
guard_same m d s below a_bare = refl

-- the number of a tested bit
tested : (m : Bounds) (b : Bool) (st : State) (ts : List Lexeme) → b ≡ true
    → onward m (if b then Ok st else Err Syntax) ts ≡ trail m st ts
tested m b st ts e = ap (λ z. onward m (if z then Ok st else Err Syntax) ts) e

bit_same : (m : Bounds) {k : Count} {mode : ParserState} (n : ℕ) (d : Count) (s : List Lexeme) → (below : List Frame)
    → n ≤ 31
    → Begun k mode
    → Same m mode d below (sign Dot ∷ number (Some n) ∷ sign Question ∷ s) (modes.Term (spots.Guarded k) d) d below s
bit_same m {k} n d s below le a_type =
    tested m (nat_le n 31) (at (modes.BitEnd k) d below) (sign Question ∷ s) (le-leb n 31 le)
bit_same m {k} n d s below le a_bare =
    tested m (nat_le n 31) (at (modes.BitEnd k) d below) (sign Question ∷ s) (le-leb n 31 le)

-- ---- the productions

-- the states that a run from such a state may be in after what is written
abbrev Arrives : Bounds → (ParserState → Type 0) → ParserState → Count → List Frame → List Lexeme → List Lexeme → Type 0
Arrives m Fits a d below s r = (last : ParserState) × Fits last × (Same m a d below s last d below r)

-- an operand that is a term
operand_done : (m : Bounds) {p : Side} {b : Bool} (mode : ParserState) (d : Count) (s r : List Lexeme)
    → (below : List Frame)
    → (Same m mode d below s (modes.Term (spots.Operand p b) d) d below s)
    ⊎ ((last : ParserState) × Named p b last × (Same m mode d below s last d below r))
    → Same m (modes.Term (spots.Operand p b) d) d below s (modes.Operated p b) d below r
    → Arrives m (AfterOperand p b) mode d below s r
operand_done m mode d s r below (inl e) further = (_, whole, e ∙ further)
operand_done m mode d s r below (inr k) further = (k.0, a_named k.1, k.2)

-- a field's first term, where the field has no name
first_done : (m : Bounds) {left : Count} (mode : ParserState) (d : Count) (s r : List Lexeme) → (below : List Frame)
    → (Same m mode d below s (modes.Term (spots.Field left) d) d below s)
    ⊎ ((last : ParserState) × Begun left last × (Same m mode d below s last d below r))
    → Same m (modes.Term (spots.Field left) d) d below s (modes.Typed left) d below r
    → Arrives m (Begun left) mode d below s r
first_done m mode d s r below (inl e) further = (_, a_type, e ∙ further)
first_done m mode d s r below (inr k) further = (k.0, k.1, k.2)

-- where the type of a field may begin: after its name, or as an item
data Opening (m : Bounds) : Count → Count → ParserState → Type 0 where
  field_named : {left d : Count} → Opening m left d (modes.Term (spots.Field left) d)
  as_item : {k left d : Count} {mode : ParserState} → Spends k left → Paused m k mode → Opening m left d mode

opening_runs : (m : Bounds) {left : Count} {e : ExprView} (mode : ParserState) (d : Count) (s r : List Lexeme)
    → (below : List Frame) → Opening m left d mode → Term m d s e r
    → Same m (modes.Term (spots.Field left) d) d below s (modes.Typed left) d below r
    → Arrives m (Begun left) mode d below s r
opening_runs m mode d s r below field_named x further = (_, a_type, further)
opening_runs m mode d s r below (as_item sp w) x further =
    first_done m mode d s r below (first_same m below w sp x) further

mutual
  term_runs : (m : Bounds) {d : Count} {s r : List Lexeme} {e : ExprView} → Term m d s e r
      → (spot : Spot) (lv : Count) (below : List Frame)
      → Same m (modes.Term spot d) lv below s (given_to spot) lv below r
  term_runs m a_number spot lv below = refl
  term_runs m a_name spot lv below = refl
  term_runs m a_hash spot lv below = refl
  term_runs m (an_output {s = s} sp x) spot lv below =
      spent m DeepType (λ left. Ok (at (modes.Term spot left) lv below)) s sp ∙ term_runs m x spot lv below
  term_runs m (a_reference {s = s} sp x) spot lv below =
      spent m DeepType (λ left. Ok (at (modes.Term spot left) lv below)) s sp ∙ term_runs m x spot lv below
  term_runs m (a_paren {left = left} {s = s} {r = r} sp x) spot lv below =
      let k = sum_runs m x sides.Paren (frames.Paren spot lv ∷ below) (modes.Apply sides.Paren false) wanted in
      spent m DeepType (λ inner. Ok (at (modes.Apply sides.Paren false) inner (frames.Paren spot lv ∷ below))) s sp
      ∙ k.2 ∙ paren_same m left lv r spot below k.1.1
  term_runs m (a_record {left = left} {s = s} {r = r} sp x) spot lv below =
      let k = items_runs m x (frames.Record spot lv ∷ below) (modes.Items m.items) settled in
      spent m DeepType (λ inner. Ok (at (modes.Items m.items) inner (frames.Record spot lv ∷ below))) s sp ∙ k.2
      ∙ record_same m left lv r spot below k.1.1

  terms_runs : (m : Bounds) {d : Count} {s r : List Lexeme} {es : ExprList} → Terms m d s es r
      → (p : Side) (b : Bool) (below : List Frame) (mode : ParserState) → Named p b mode
      → Arrives m (Named p b) mode d below s r
  terms_runs m no_terms p b below mode w = (mode, w, refl)
  terms_runs m {d} (a_term x xs) p b below mode w =
      let k = terms_runs m xs p b below (modes.Applied p b) applied in
      (k.0, k.1, argument_same m below w x ∙ term_runs m x (spots.Argument p b) d below ∙ k.2)

  apply_runs : (m : Bounds) {d : Count} {s r : List Lexeme} {e : ExprView} → Apply m d s e r
      → (p : Side) (b : Bool) (below : List Frame) (mode : ParserState) → Wanted p b mode
      → Arrives m (AfterOperand p b) mode d below s r
  apply_runs m {d} (of_name {x = x} {s = s} xs) p b below mode w =
      let k = name_same m d x s below w in
      let l = terms_runs m xs p b below k.0 k.1 in
      (l.0, a_named l.1, k.2 ∙ l.2)
  apply_runs m {d} (of_bits {s = s} x) p b below mode w =
      (_, whole, width_same m d s below w measures ∙ term_runs m x (spots.Width p b) d below)
  apply_runs m {d} (of_below {s = s} x) p b below mode w =
      (_, whole, width_same m d s below w measures_below ∙ term_runs m x (spots.Width p b) d below)
  apply_runs m {d} (of_up_to {s = s} x) p b below mode w =
      (_, whole, width_same m d s below w measures_up_to ∙ term_runs m x (spots.Width p b) d below)
  apply_runs m {d} {s} {r} (of_term x) p b below mode w =
      operand_done m mode d s r below (operand_same m below w x) (term_runs m x (spots.Operand p b) d below)

  product_runs : (m : Bounds) {d : Count} {s r : List Lexeme} {e : ExprView} → Product m d s e r
      → (p : Side) (below : List Frame) (mode : ParserState) → Wanted p false mode
      → Arrives m (λ last. (b : Bool) × AfterOperand p b last) mode d below s r
  product_runs m (one_factor x) p below mode w =
      let k = apply_runs m x p false below mode w in
      (k.0, (false, k.1), k.2)
  product_runs m {d} (two_factors {mid = mid} x y) p below mode w =
      let k = apply_runs m x p false below mode w in
      let l = apply_runs m y p true below (modes.Apply p true) wanted in
      (l.0, (true, l.1), k.2 ∙ factor_same m d mid below k.1 ∙ l.2)

  sum_runs : (m : Bounds) {d : Count} {s r : List Lexeme} {e : ExprView} → Sum m d s e r
      → (p : Side) (below : List Frame) (mode : ParserState) → Wanted p false mode
      → Arrives m (λ last. (b : Bool) × AfterOperand p b last) mode d below s r
  sum_runs m (a_sum x xs) p below mode w =
      let k = product_runs m x p below mode w in
      let l = addends_runs m xs p below k.0 k.1.0 k.1.1 in
      (l.0, l.1, k.2 ∙ l.2)

  addends_runs : (m : Bounds) {d : Count} {a e : ExprView} {s r : List Lexeme} → Addends m d a s e r
      → (p : Side) (below : List Frame) (mode : ParserState) (b : Bool) → AfterOperand p b mode
      → Arrives m (λ last. (b : Bool) × AfterOperand p b last) mode d below s r
  addends_runs m no_addend p below mode b w = (mode, (b, w), refl)
  addends_runs m {d} (an_addend {s = s} x xs) p below mode b w =
      let k = product_runs m x p below (modes.Apply p false) wanted in
      let l = addends_runs m xs p below k.0 k.1.0 k.1.1 in
      (l.0, l.1, addend_same m d s below w ∙ k.2 ∙ l.2)

  typed_runs : (m : Bounds) {d : Count} {s r : List Lexeme} {e : TypeView} → Typed m d s e r
      → (left : Count) (below : List Frame) (mode : ParserState) → Opening m left d mode
      → Arrives m (Paused m left) mode d below s r
  typed_runs m {d} {s} {r} (always x) left below mode w =
      let k = opening_runs m mode d s r below w x (term_runs m x (spots.Field left) d below) in
      (k.0, begun_pause k.1, k.2)
  typed_runs m {d} {s} (on_number {mid = mid} x y) left below mode w =
      let k = opening_runs m mode d s (sign Question ∷ mid) below w x (term_runs m x (spots.Field left) d below) in
      (_, settled, k.2 ∙ guard_same m d mid below k.1 ∙ term_runs m y (spots.Guarded left) d below)
  typed_runs m {d} {s} (on_bit {k = n} {mid = mid} le x y) left below mode w =
      let k = opening_runs m mode d s (sign Dot ∷ number (Some n) ∷ sign Question ∷ mid) below w x
      (term_runs m x (spots.Field left) d below) in
      (_, settled, k.2 ∙ bit_same m n d mid below le k.1 ∙ term_runs m y (spots.Guarded left) d below)

  item_runs : (m : Bounds) {d : Count} {s r : List Lexeme} {i : ItemView} → AnItem m d s i r
      → (k left : Count) (below : List Frame) (mode : ParserState) → Spends k left → Paused m k mode
      → Arrives m (Paused m left) mode d below s r
  item_runs m {d} (of_numbers {x = x} {r = r}) k left below mode sp w =
      (_, settled, brace_same m d (word x ∷ sign Colon ∷ sign Hash ∷ sign CloseBrace ∷ r) below w sp)
  item_runs m {d} (of_types {x = x} {r = r}) k left below mode sp w =
      (_, settled, brace_same m d (word x ∷ sign Colon ∷ word (codes "Type") ∷ sign CloseBrace ∷ r) below w sp)
  item_runs m {d} (a_check {s = s} {mid = mid} {r = r} c x y) k left below mode sp w =
      let a = sum_runs m x (sides.Left left) below (modes.Brace left) in_brace in
      let b = sum_runs m y (sides.Right left) below (modes.Apply (sides.Right left) false) wanted in (
        _,
        settled,
        brace_same m d s below w sp ∙ a.2 ∙ left_same m d mid below c a.1.1 ∙ b.2
            ∙ right_same m d r below b.1.1,
      )
  item_runs m {d} (a_field {s = s} h x) k left below mode sp w =
      let a = typed_runs m x left below (modes.Term (spots.Field left) d) field_named in
      (a.0, a.1, head_same m d s below w sp h ∙ a.2)
  item_runs m (a_bare_field x) k left below mode sp w = typed_runs m x left below mode (as_item sp w)

  items_runs : (m : Bounds) {d k : Count} {s r : List Lexeme} {is : ItemList} → Items m d k s is r
      → (below : List Frame) (mode : ParserState) → Paused m k mode
      → Arrives m (λ last. (left : Count) × Paused m left last) mode d below s r
  items_runs m {k = k} no_item below mode w = (mode, (k, w), refl)
  items_runs m {k = k} (one_item {left = left} sp x xs) below mode w =
      let a = item_runs m x k left below mode sp w in
      let b = items_runs m xs below a.0 a.1 in
      (b.0, b.1, a.2 ∙ b.2)

-- ---- declarations

param_same : (m : Bounds) {k left d : Count} {s r : List Lexeme} {e : ExprView} → (below : List Frame) → Spends k left
    → Term m d s e r
    → Same m (modes.Params k) d below s (modes.Term (spots.Param left) d) d below s
param_same m {d = d} below sp (a_number {r = r}) =
    spent m TooManyParams (λ left. begins m leaf (spots.Param left) d d below) r sp
param_same m {d = d} below sp (a_name {r = r}) =
    spent m TooManyParams (λ left. begins m leaf (spots.Param left) d d below) r sp
param_same m {d = d} below sp (a_hash {r = r}) =
    spent m TooManyParams (λ left. begins m leaf (spots.Param left) d d below) r sp
param_same m {d = d} below sp (an_output {s = s} open_ x) =
    spent m TooManyParams (λ left. begins m prefix (spots.Param left) d d below) s sp
param_same m {d = d} below sp (a_reference {s = s} open_ x) =
    spent m TooManyParams (λ left. begins m prefix (spots.Param left) d d below) s sp
param_same m {d = d} below sp (a_paren {s = s} open_ x) =
    spent m TooManyParams (λ left. begins m paren (spots.Param left) d d below) s sp
param_same m {d = d} below sp (a_record {s = s} open_ x) =
    spent m TooManyParams (λ left. begins m record_ (spots.Param left) d d below) s sp

params_runs : (m : Bounds) {k : Count} {s r : List Lexeme} {es : ExprList} → Params m k s es r → (below : List Frame)
    → (left : Count) × (Same m (modes.Params k) m.levels below s (modes.Params left) m.levels below r)
params_runs m {k = k} no_param below = (k, refl)
params_runs m (a_param {left = left} sp x xs) below =
    let a = params_runs m xs below in
    (a.0, param_same m below sp x ∙ term_runs m x (spots.Param left) m.levels below ∙ a.1)

-- the name that is declared, before those that follow
abbrev after_name : List ℕ → Outcome × List (List ℕ) → Outcome × List (List ℕ)
after_name y t = (t.0, y ∷ t.1)

tagged_runs : (m : Bounds) {s r : List Lexeme} {t : TagView} → Tagged s t r → (below : List Frame)
    → Arrives m (Paused m m.items) modes.Headed m.levels below s r
tagged_runs m tagged below = (_, settled, refl)
tagged_runs m untagged below = (_, headed, refl)

heads_same : (m : Bounds) {h : Lexeme} {x : Option (List ℕ)} (d : Count) (s : List Lexeme) (below : List Frame)
    → Heads h x
    → Same m modes.Start d below (h ∷ s) modes.Headed d below s
heads_same m d s below by_name = refl
heads_same m d s below by_blank = refl

marked_same : (m : Bounds) {h : Lexeme} {x : Option (List ℕ)} (d : Count) (s : List Lexeme) (below : List Frame)
    → Heads h x
    → Same m modes.Marked d below (h ∷ s) modes.Headed d below s
marked_same m d s below by_name = refl
marked_same m d s below by_blank = refl

-- from before the name, or from after the `!`
data Naming : Bool → ParserState → Type 0 where
  at_start : Naming false modes.Start
  at_mark : Naming true modes.Marked

naming_same : (m : Bounds) {exotic : Bool} {mode : ParserState} {h : Lexeme} {x : Option (List ℕ)} (d : Count)
    (s : List Lexeme) (below : List Frame) → Naming exotic mode → Heads h x
    → Same m mode d below (h ∷ s) modes.Headed d below s
naming_same m d s below at_start h = heads_same m d s below h
naming_same m d s below at_mark h = marked_same m d s below h

declared_runs : (m : Bounds) {exotic : Bool} {mode : ParserState} {s r : List Lexeme} {c : ConstructorView}
    → Naming exotic mode → Declared m exotic s c r
    → trail m (at mode m.levels []) s ≡ after_name c.result (trail m (schema_start m) r)
declared_runs m n (a_declaration {s = s} {after_items = after} {r = r} {y = y} h t is es) =
    let a = tagged_runs m t [] in
    let b = items_runs m is [] a.0 a.1 in
    let c = params_runs m es [] in
    naming_same m m.levels s [] n h ∙ a.2 ∙ b.2 ∙ pause_same m m.levels (word y ∷ after) [] b.1.1 at_equal
    ∙ ap (after_name y) c.1

declaration_runs : (m : Bounds) {s r : List Lexeme} {c : ConstructorView} → Declaration m s c r
    → trail m (schema_start m) s ≡ after_name c.result (trail m (schema_start m) r)
declaration_runs m (of_ordinary d) = declared_runs m at_start d
declaration_runs m (of_exotic d) = declared_runs m at_mark d

declarations_runs : (m : Bounds) {ls : List Lexeme} {s : SchemaView} → Declarations m ls s
    → trail m (schema_start m) ls ≡ (Ok (schema_start m), map (λ c. c.result) s)
declarations_runs m no_declaration = refl
declarations_runs m (one_more {c = c} x xs) = declaration_runs m x ∙ ap (after_name c.result) (declarations_runs m xs)

pub schema_runs : (m : Bounds) (ls : List Lexeme) (s : SchemaView) → Declarations m ls s
    → (st : State) × (run m (schema_start m) ls ≡ Ok st) × (is_schema_end st ≡ true)
schema_runs m ls s x = (schema_start m, ap (λ z. z.0) (declarations_runs m x), refl)

-- the names of the types that are declared
pub schema_results : (m : Bounds) (ls : List Lexeme) (s : SchemaView) → Declarations m ls s
    → results m (schema_start m) ls ≡ map (λ c. c.result) s
schema_results m ls s x = ap (λ z. z.1) (declarations_runs m x)

word_operand : {b : Bool} {mode : ParserState} (d : Count) (below : List Frame) → AfterOperand sides.Word b mode
    → is_word_end (at mode d below) ≡ true
word_operand d below whole = refl
word_operand d below (a_named applied) = refl

pub word_runs : (m : Bounds) (ls : List Lexeme) (e : ExprView) → TypeWord m ls e
    → (st : State) × (run m (word_start m) ls ≡ Ok st) × (is_word_end st ≡ true)
word_runs m ls e x =
    let k = sum_runs m x sides.Word [] (modes.Apply sides.Word false) wanted in
    (at k.0 m.levels [], ap (λ z. z.0) k.2, word_operand m.levels [] k.1.1)
