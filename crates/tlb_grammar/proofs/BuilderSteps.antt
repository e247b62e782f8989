-- Single steps of the machine, from modes that stand after the same.
use Rattle.std.proofs.Common.{◌≡◌, ℕ, Bool, true, false, List, [], ◌∷◌, ◌++◌, Option, Some, None, refl, ap}
use Rattle.std.specs.Prelude.{codes}
use Rattle.nat_solver.specs.declared.compare.Op.{Op}
use Rattle.tlb_syntax.specs.declared.sign.Sign.{Sign}
use Rattle.tlb_syntax.specs.declared.sign.Sign.TheVariants.{Hash, HashHash, HashLess, HashLessEqual, Colon, Semicolon, Equal, OpenParen, CloseParen, OpenBrace, CloseBrace, OpenBracket, CloseBracket, Caret, Tilde, Question, Dot, Asterisk, Plus, Bang}
use Rattle.tlb_syntax.specs.declared.tree.ParamKind.TheVariants.{Nat, Ty}
use Rattle.tlb_syntax.specs.declared.tree.Expr.{Expr}
use Rattle.tlb_syntax.specs.declared.tree.Expr.TheVariants as exprs
use Rattle.tlb_syntax.specs.declared.tree.FieldType.TheVariants as types
use Rattle.tlb_syntax.specs.declared.tree.Item.{Item}
use Rattle.tlb_syntax.specs.declared.tree.Item.TheVariants.{Implicit, Check}
use Rattle.tlb_syntax.specs.declared.tree.Tag.TheVariants.{Given}
use Rattle.tlb_syntax.specs.declared.tree.Constructor.{Constructor}
use Rattle.tlb_syntax.specs.Lexeme.{Lexeme, word, number, tag, sign}
use Rattle.tlb_syntax.specs.Tree.{ExprView, TypeView}
use Rattle.tlb_syntax.specs.Grammar.{Count, Bounds, Compares, equal, less, less_equal, greater, greater_equal, Heads, by_name, by_blank, Term, Typed, a_number, a_name, a_hash, an_output, a_reference, a_paren, a_record, always, on_number, on_bit}
use Rattle.tlb_grammar.specs.declared.state.OpenSum.{OpenSum}
use Rattle.tlb_grammar.specs.declared.state.Heading.{Heading}
use Rattle.tlb_grammar.specs.declared.state.Width.{Width}
use Rattle.tlb_grammar.specs.declared.state.Width.TheVariants as widths
use Rattle.tlb_grammar.specs.declared.state.Guard.{Guard}
use Rattle.tlb_grammar.specs.declared.state.Guard.TheVariants as guards
use Rattle.tlb_grammar.specs.declared.state.ParserState.{ParserState}
use Rattle.tlb_grammar.specs.declared.state.ParserState.TheVariants as modes
use Rattle.tlb_grammar.specs.declared.state.Frame.{Frame}
use Rattle.tlb_grammar.specs.declared.state.Frame.TheVariants as frames
use Rattle.tlb_grammar.specs.Builder as builder
use Rattle.tlb_grammar.specs.Builder.{head, step_mode, given, after_term, term, term_sign, width, apply, operated, operated_sign, ends_sum, compared, comparison, applied, applied_sign, items, items_sign, tag_after, typed, named, named_blank, bit_of, bit_end, kind, kind_end, result_of, params, start, is_paren, is_record, left_of, right_of, heading_of}
use Rattle.tlb_grammar.specs.Builder.{State, at, run, no_sum, factored, times, added, whole, closed, limited, with_item, with_field, with_result}

-- what is left is gone through from the state that is reached, if one is
abbrev pub goes : Option State → List Lexeme → Option State
goes st r = builder.onward st (λ next. run next r)

-- from these states the lexemes lead to such a mode, where the others are left
pub record Reaches (from : List Frame → List Constructor → State) (s : List Lexeme) (P : ParserState
    → Type 0) (r : List Lexeme) : Type 0 where
  pub next : ParserState
  pub state : P next
  pub runs : (under : List Frame) (cs : List Constructor) → run (from under cs) s ≡ run (at next under cs) r

abbrev pub mode_of : ParserState → List Frame → List Constructor → State
mode_of mode under cs = at mode under cs

pub both : {A B C : Type 0} {a b : A} {c d : B} (f : A → B → C) → a ≡ b → c ≡ d → f a c ≡ f b d
both f p q = λ i. f (p i) (q i)

-- ---- modes that stand after the same

-- after an operand of a sum
pub data AfterOperand (sum : OpenSum) : Expr → ParserState → Type 0 where
  named_operand : {x : List ℕ} {es : List Expr} → AfterOperand sum (exprs.Named x es) (modes.Applied sum x es)
  other_operand : {e : Expr} → AfterOperand sum e (modes.Operated sum e)

-- after the first term of a field
pub data AfterFirstTerm (done : List Item) : Option (List ℕ) → Expr → ParserState → Type 0 where
  first_term : {name : Option (List ℕ)} {e : Expr} → AfterFirstTerm done name e (modes.Typed done name e)
  first_name : {x : List ℕ} → AfterFirstTerm done None (exprs.Named x []) (modes.ItemName done x)

-- after items
pub data BetweenItems : List Item → ParserState → Type 0 where
  after_items : {done : List Item} → BetweenItems done (modes.Items done)
  after_field : {done : List Item} {name : Option (List ℕ)} {e : Expr}
      → BetweenItems (with_field done name (types.Plain e)) (modes.Typed done name e)
  after_name : {done : List Item} {x : List ℕ}
      → BetweenItems (with_field done None (types.Plain (exprs.Named x []))) (modes.ItemName done x)

pub star_goes : {sum : OpenSum} {e : Expr} {mode : ParserState} → AfterOperand sum e mode
    → (s : List Lexeme) (under : List Frame) (cs : List Constructor)
    → run (at mode under cs) (sign Asterisk ∷ s) ≡ run (at (modes.Apply (times sum e)) under cs) s
unfolding step_mode applied applied_sign operated operated_sign
star_goes named_operand s under cs = refl
star_goes other_operand s under cs = refl

pub plus_goes : {sum : OpenSum} {e : Expr} {mode : ParserState} → AfterOperand sum e mode
    → (s : List Lexeme) (under : List Frame) (cs : List Constructor)
    → run (at mode under cs) (sign Plus ∷ s) ≡ run (at (modes.Apply (added sum e)) under cs) s
unfolding step_mode applied applied_sign operated operated_sign
plus_goes named_operand s under cs = refl
plus_goes other_operand s under cs = refl

pub paren_goes : {sum : OpenSum} {e : Expr} {mode : ParserState} → AfterOperand sum e mode
    → (s : List Lexeme) (under : List Frame) (cs : List Constructor)
    → run (at mode (frames.Paren ∷ under) cs) (sign CloseParen ∷ s) ≡ goes (builder.given (closed sum e) under cs) s
unfolding step_mode applied applied_sign operated operated_sign ends_sum is_paren
paren_goes named_operand s under cs = refl
paren_goes other_operand s under cs = refl

pub left_goes : {sum : OpenSum} {e : Expr} {mode : ParserState} {c : Sign} {op : Op} → AfterOperand sum e mode
    → Compares c op → (s : List Lexeme) (done : List Item) (under : List Frame) (cs : List Constructor)
    → run (at mode (frames.Left done ∷ under) cs) (sign c ∷ s)
    ≡ run (at (modes.Apply no_sum) (frames.Right done (closed sum e) op ∷ under) cs) s
unfolding step_mode applied applied_sign operated operated_sign ends_sum compared comparison left_of
left_goes named_operand equal s done under cs = refl
left_goes named_operand less s done under cs = refl
left_goes named_operand less_equal s done under cs = refl
left_goes named_operand greater s done under cs = refl
left_goes named_operand greater_equal s done under cs = refl
left_goes other_operand equal s done under cs = refl
left_goes other_operand less s done under cs = refl
left_goes other_operand less_equal s done under cs = refl
left_goes other_operand greater s done under cs = refl
left_goes other_operand greater_equal s done under cs = refl

pub right_goes : {sum : OpenSum} {e : Expr} {mode : ParserState} → AfterOperand sum e mode
    → (s : List Lexeme) (done : List Item) (a : Expr) (op : Op) (under : List Frame) (cs : List Constructor)
    → run (at mode (frames.Right done a op ∷ under) cs) (sign CloseBrace ∷ s)
    ≡ run (at (modes.Items (with_item done (Check a op (closed sum e)))) under cs) s
unfolding step_mode applied applied_sign operated operated_sign ends_sum right_of
right_goes named_operand s done a op under cs = refl
right_goes other_operand s done a op under cs = refl

pub question_goes : {done : List Item} {name : Option (List ℕ)} {e : Expr} {mode : ParserState}
    → AfterFirstTerm done name e mode → (s : List Lexeme) (under : List Frame) (cs : List Constructor)
    → run (at mode under cs) (sign Question ∷ s)
    ≡ run (at modes.Term (frames.Guarded done name (guards.Number e) ∷ under) cs) s
unfolding step_mode typed named
question_goes first_term s under cs = refl
question_goes first_name s under cs = refl

pub dot_goes : {done : List Item} {name : Option (List ℕ)} {e : Expr} {mode : ParserState}
    → AfterFirstTerm done name e mode → (k : ℕ) (s : List Lexeme) (under : List Frame) (cs : List Constructor)
    → run (at mode under cs) (sign Dot ∷ number (Some k) ∷ sign Question ∷ s)
    ≡ run (at modes.Term (frames.Guarded done name (guards.Bit e k) ∷ under) cs) s
unfolding step_mode typed named bit_of bit_end
dot_goes first_term k s under cs = refl
dot_goes first_name k s under cs = refl

pub typed_after : {done : List Item} {name : Option (List ℕ)} {e : Expr} {mode : ParserState}
    → AfterFirstTerm done name e mode → BetweenItems (with_field done name (types.Plain e)) mode
typed_after first_term = after_field
typed_after first_name = after_name

-- an opened brace after items
pub brace_goes : {done : List Item} {mode : ParserState} → BetweenItems done mode
    → (s : List Lexeme) (under : List Frame) (cs : List Constructor)
    → run (at mode under cs) (sign OpenBrace ∷ s) ≡ run (at (modes.Apply no_sum) (frames.Left done ∷ under) cs) s
unfolding step_mode typed named items items_sign
brace_goes after_items s under cs = refl
brace_goes after_field s under cs = refl
brace_goes after_name s under cs = refl

pub head_goes : {done : List Item} {mode : ParserState} {h : Lexeme} {name : Option (List ℕ)} → BetweenItems done mode
    → Heads h name → (s : List Lexeme) (under : List Frame) (cs : List Constructor)
    → run (at mode under cs) (h ∷ sign Colon ∷ s) ≡ run (at modes.Term (frames.Field done name ∷ under) cs) s
unfolding step_mode typed named items named_blank
head_goes after_items by_name s under cs = refl
head_goes after_items by_blank s under cs = refl
head_goes after_field by_name s under cs = refl
head_goes after_field by_blank s under cs = refl
head_goes after_name by_name s under cs = refl
head_goes after_name by_blank s under cs = refl

pub bracket_goes : {done : List Item} {mode : ParserState} → BetweenItems done mode
    → (s : List Lexeme) (under : List Frame) (cs : List Constructor)
    → run (at mode (frames.Record ∷ under) cs) (sign CloseBracket ∷ s)
    ≡ goes (builder.given (exprs.Group done) under cs) s
unfolding step_mode typed named items items_sign is_record
bracket_goes after_items s under cs = refl
bracket_goes after_field s under cs = refl
bracket_goes after_name s under cs = refl

pub equal_goes : {done : List Item} {mode : ParserState} → BetweenItems done mode
    → (heading : Heading) (x : List ℕ) (s : List Lexeme) (under : List Frame) (cs : List Constructor)
    → run (at mode (frames.Declaration heading ∷ under) cs) (sign Equal ∷ word x ∷ s)
    ≡ run (at (modes.Params (with_result heading done x)) under cs) s
unfolding step_mode typed named items items_sign heading_of result_of
equal_goes after_items heading x s under cs = refl
equal_goes after_field heading x s under cs = refl
equal_goes after_name heading x s under cs = refl

-- ---- the lexemes that begin a term

pub data Begins : List Lexeme → Type 0 where
  by_number : {n : ℕ} {r : List Lexeme} → Begins (number (Some n) ∷ r)
  by_word : {x : List ℕ} {r : List Lexeme} → Begins (word x ∷ r)
  by_hash : {r : List Lexeme} → Begins (sign Hash ∷ r)
  by_tilde : {r : List Lexeme} → Begins (sign Tilde ∷ r)
  by_caret : {r : List Lexeme} → Begins (sign Caret ∷ r)
  by_paren : {r : List Lexeme} → Begins (sign OpenParen ∷ r)
  by_bracket : {r : List Lexeme} → Begins (sign OpenBracket ∷ r)

pub begins : {m : Bounds} {d : Count} {s : List Lexeme} {e : ExprView} {r : List Lexeme} → Term m d s e r → Begins s
begins a_number = by_number
begins a_name = by_word
begins a_hash = by_hash
begins (an_output x y) = by_tilde
begins (a_reference x y) = by_caret
begins (a_paren x y) = by_paren
begins (a_record x y) = by_bracket

pub type_begins : {m : Bounds} {d : Count} {s : List Lexeme} {t : TypeView} {r : List Lexeme} → Typed m d s t r
    → Begins s
type_begins (always x) = begins x
type_begins (on_number x y) = begins x
type_begins (on_bit h x y) = begins x

-- a term after a name is an argument
pub argument_goes : {s : List Lexeme} → Begins s
    → (sum : OpenSum) (x : List ℕ) (es : List Expr) (under : List Frame) (cs : List Constructor)
    → run (at (modes.Applied sum x es) under cs) s ≡ run (at modes.Term (frames.Argument sum x es ∷ under) cs) s
unfolding step_mode applied applied_sign term
argument_goes by_number sum x es under cs = refl
argument_goes by_word sum x es under cs = refl
argument_goes by_hash sum x es under cs = refl
argument_goes by_tilde sum x es under cs = refl
argument_goes by_caret sum x es under cs = refl
argument_goes by_paren sum x es under cs = refl
argument_goes by_bracket sum x es under cs = refl

pub param_goes : {s : List Lexeme} → Begins s → (c : Constructor) (under : List Frame) (cs : List Constructor)
    → run (at (modes.Params c) under cs) s ≡ run (at modes.Term (frames.Param c ∷ under) cs) s
unfolding step_mode params
param_goes by_number c under cs = refl
param_goes by_word c under cs = refl
param_goes by_hash c under cs = refl
param_goes by_tilde c under cs = refl
param_goes by_caret c under cs = refl
param_goes by_paren c under cs = refl
param_goes by_bracket c under cs = refl

-- a term after items begins a field
pub field_goes : {s : List Lexeme} {done : List Item} {mode : ParserState} → Begins s → BetweenItems done mode
    → (under : List Frame) (cs : List Constructor) → run (at mode under cs) s ≡ run (at (modes.Items done) under cs) s
unfolding step_mode typed named items items_sign
field_goes by_number after_items under cs = refl
field_goes by_word after_items under cs = refl
field_goes by_hash after_items under cs = refl
field_goes by_tilde after_items under cs = refl
field_goes by_caret after_items under cs = refl
field_goes by_paren after_items under cs = refl
field_goes by_bracket after_items under cs = refl
field_goes by_number after_field under cs = refl
field_goes by_word after_field under cs = refl
field_goes by_hash after_field under cs = refl
field_goes by_tilde after_field under cs = refl
field_goes by_caret after_field under cs = refl
field_goes by_paren after_field under cs = refl
field_goes by_bracket after_field under cs = refl
field_goes by_number after_name under cs = refl
field_goes by_word after_name under cs = refl
field_goes by_hash after_name under cs = refl
field_goes by_tilde after_name under cs = refl
field_goes by_caret after_name under cs = refl
field_goes by_paren after_name under cs = refl
field_goes by_bracket after_name under cs = refl

-- ---- terms

pub gives : {o p : Option State} (r : List Lexeme) → o ≡ p → goes o r ≡ goes p r
gives r e = ap (λ o. goes o r) e

pub number_goes : (n : ℕ) (r : List Lexeme) (under : List Frame) (cs : List Constructor)
    → run (at modes.Term under cs) (number (Some n) ∷ r) ≡ goes (builder.given (exprs.Lit n) under cs) r
unfolding step_mode term
number_goes n r under cs = refl

pub word_goes : (x : List ℕ) (r : List Lexeme) (under : List Frame) (cs : List Constructor)
    → run (at modes.Term under cs) (word x ∷ r) ≡ goes (builder.given (exprs.Named x []) under cs) r
unfolding step_mode term
word_goes x r under cs = refl

pub hash_goes : (r : List Lexeme) (under : List Frame) (cs : List Constructor)
    → run (at modes.Term under cs) (sign Hash ∷ r) ≡ goes (builder.given exprs.Nat32 under cs) r
unfolding step_mode term term_sign
hash_goes r under cs = refl

pub tilde_goes : (r : List Lexeme) (under : List Frame) (cs : List Constructor)
    → run (at modes.Term under cs) (sign Tilde ∷ r) ≡ run (at modes.Term (frames.Out ∷ under) cs) r
unfolding step_mode term term_sign
tilde_goes r under cs = refl

pub caret_goes : (r : List Lexeme) (under : List Frame) (cs : List Constructor)
    → run (at modes.Term under cs) (sign Caret ∷ r) ≡ run (at modes.Term (frames.Ref ∷ under) cs) r
unfolding step_mode term term_sign
caret_goes r under cs = refl

pub open_paren_goes : (r : List Lexeme) (under : List Frame) (cs : List Constructor)
    → run (at modes.Term under cs) (sign OpenParen ∷ r) ≡ run (at (modes.Apply no_sum) (frames.Paren ∷ under) cs) r
unfolding step_mode term term_sign
open_paren_goes r under cs = refl

pub open_bracket_goes : (r : List Lexeme) (under : List Frame) (cs : List Constructor)
    → run (at modes.Term under cs) (sign OpenBracket ∷ r) ≡ run (at (modes.Items []) (frames.Record ∷ under) cs) r
unfolding step_mode term term_sign
open_bracket_goes r under cs = refl

-- a term is given to what it is part of
pub out_given : (e : Expr) (under : List Frame) (cs : List Constructor)
    → builder.given e (frames.Out ∷ under) cs ≡ builder.given (exprs.Out e) under cs
unfolding given
out_given e under cs = refl

pub ref_given : (e : Expr) (under : List Frame) (cs : List Constructor)
    → builder.given e (frames.Ref ∷ under) cs ≡ builder.given (exprs.Ref e) under cs
unfolding given
ref_given e under cs = refl

pub operand_given : (e : Expr) (sum : OpenSum) (under : List Frame) (cs : List Constructor)
    → builder.given e (frames.Operand sum ∷ under) cs ≡ Some (at (modes.Operated sum e) under cs)
unfolding given after_term
operand_given e sum under cs = refl

pub argument_given : (e : Expr) (sum : OpenSum) (x : List ℕ) (es : List Expr) (under : List Frame)
    (cs : List Constructor)
    → builder.given e (frames.Argument sum x es ∷ under) cs ≡ Some (at (modes.Applied sum x (es ++ e ∷ [])) under cs)
unfolding given after_term
argument_given e sum x es under cs = refl

pub width_given : (e : Expr) (sum : OpenSum) (w : Width) (under : List Frame) (cs : List Constructor)
    → builder.given e (frames.Width sum w ∷ under) cs ≡ Some (at (modes.Operated sum (limited w e)) under cs)
unfolding given after_term
width_given e sum w under cs = refl

pub field_given : (e : Expr) (done : List Item) (name : Option (List ℕ)) (under : List Frame) (cs : List Constructor)
    → builder.given e (frames.Field done name ∷ under) cs ≡ Some (at (modes.Typed done name e) under cs)
unfolding given after_term
field_given e done name under cs = refl

pub guarded_given : (e : Expr) (done : List Item) (name : Option (List ℕ)) (g : Guard) (under : List Frame)
    (cs : List Constructor)
    → builder.given e (frames.Guarded done name g ∷ under) cs ≡ Some
    (at (modes.Items (with_field done name (builder.guarded g e))) under cs)
unfolding given after_term
guarded_given e done name g under cs = refl

pub param_given : (e : Expr) (c : Constructor) (under : List Frame) (cs : List Constructor)
    → builder.given e (frames.Param c ∷ under) cs ≡ Some (at (modes.Params (builder.with_param c e)) under cs)
unfolding given after_term
param_given e c under cs = refl

-- ---- where an operand is expected

-- a term but a name
pub data Opens : List Lexeme → Type 0 where
  number_opens : {n : ℕ} {r : List Lexeme} → Opens (number (Some n) ∷ r)
  hash_opens : {r : List Lexeme} → Opens (sign Hash ∷ r)
  tilde_opens : {r : List Lexeme} → Opens (sign Tilde ∷ r)
  caret_opens : {r : List Lexeme} → Opens (sign Caret ∷ r)
  paren_opens : {r : List Lexeme} → Opens (sign OpenParen ∷ r)
  bracket_opens : {r : List Lexeme} → Opens (sign OpenBracket ∷ r)

pub operand_goes : {s : List Lexeme} → Opens s → (sum : OpenSum) (under : List Frame) (cs : List Constructor)
    → run (at (modes.Apply sum) under cs) s ≡ run (at modes.Term (frames.Operand sum ∷ under) cs) s
unfolding step_mode apply term width
operand_goes number_opens sum under cs = refl
operand_goes hash_opens sum under cs = refl
operand_goes tilde_opens sum under cs = refl
operand_goes caret_opens sum under cs = refl
operand_goes paren_opens sum under cs = refl
operand_goes bracket_opens sum under cs = refl

pub bare_goes : {s : List Lexeme} → Opens s → (done : List Item) (under : List Frame) (cs : List Constructor)
    → run (at (modes.Items done) under cs) s ≡ run (at modes.Term (frames.Field done None ∷ under) cs) s
unfolding step_mode items items_sign term
bare_goes number_opens done under cs = refl
bare_goes hash_opens done under cs = refl
bare_goes tilde_opens done under cs = refl
bare_goes caret_opens done under cs = refl
bare_goes paren_opens done under cs = refl
bare_goes bracket_opens done under cs = refl

pub name_operand_goes : (x : List ℕ) (r : List Lexeme) (sum : OpenSum) (under : List Frame) (cs : List Constructor)
    → run (at (modes.Apply sum) under cs) (word x ∷ r) ≡ run (at (modes.Applied sum x []) under cs) r
unfolding step_mode apply
name_operand_goes x r sum under cs = refl

pub name_item_goes : (x : List ℕ) (r : List Lexeme) (done : List Item) (under : List Frame) (cs : List Constructor)
    → run (at (modes.Items done) under cs) (word x ∷ r) ≡ run (at (modes.ItemName done x) under cs) r
unfolding step_mode items
name_item_goes x r done under cs = refl

pub data Widens : Sign → Width → Type 0 where
  by_bits : Widens HashHash widths.Bits
  by_below : Widens HashLess widths.Below
  by_up_to : Widens HashLessEqual widths.UpTo

pub width_goes : {c : Sign} {w : Width} → Widens c w
    → (r : List Lexeme) (sum : OpenSum) (under : List Frame) (cs : List Constructor)
    → run (at (modes.Apply sum) under cs) (sign c ∷ r) ≡ run (at modes.Term (frames.Width sum w ∷ under) cs) r
unfolding step_mode apply width
width_goes by_bits r sum under cs = refl
width_goes by_below r sum under cs = refl
width_goes by_up_to r sum under cs = refl

-- ---- implicit fields and declarations

pub numbers_goes : (x : List ℕ) (r : List Lexeme) (done : List Item) (under : List Frame) (cs : List Constructor)
    → run (at (modes.Apply no_sum) (frames.Left done ∷ under) cs)
    (word x ∷ sign Colon ∷ sign Hash ∷ sign CloseBrace ∷ r)
    ≡ run (at (modes.Items (with_item done (Implicit x Nat))) under cs) r
unfolding step_mode apply applied applied_sign left_of kind kind_end
numbers_goes x r done under cs = refl

pub types_goes : (x : List ℕ) (r : List Lexeme) (done : List Item) (under : List Frame) (cs : List Constructor)
    → run (at (modes.Apply no_sum) (frames.Left done ∷ under) cs)
    (word x ∷ sign Colon ∷ word (codes "Type") ∷ sign CloseBrace ∷ r)
    ≡ run (at (modes.Items (with_item done (Implicit x Ty))) under cs) r
unfolding step_mode apply applied applied_sign left_of kind kind_end
types_goes x r done under cs = refl

-- where a name is expected: between declarations, or after a `!`
pub data Naming : Bool → ParserState → Type 0 where
  at_start : Naming false modes.Start
  at_mark : Naming true modes.Marked

pub start_goes : {exotic : Bool} {mode : ParserState} {h : Lexeme} {name : Option (List ℕ)} → Naming exotic mode
    → Heads h name → (s : List Lexeme) (under : List Frame) (cs : List Constructor)
    → run (at mode under cs) (h ∷ s)
    ≡ run (at (modes.Items []) (frames.Declaration (builder.untagged exotic name) ∷ under) cs) s
unfolding step_mode start head
start_goes at_start by_name s under cs = refl
start_goes at_start by_blank s under cs = refl
start_goes at_mark by_name s under cs = refl
start_goes at_mark by_blank s under cs = refl

pub bang_goes : (s : List Lexeme) (under : List Frame) (cs : List Constructor)
    → run (at modes.Start under cs) (sign Bang ∷ s) ≡ run (at modes.Marked under cs) s
unfolding step_mode start
bang_goes s under cs = refl

pub tag_goes : (b : List ℕ) (s : List Lexeme) (exotic : Bool) (name : Option (List ℕ)) (under : List Frame)
    (cs : List Constructor)
    → run (at (modes.Items []) (frames.Declaration (builder.untagged exotic name) ∷ under) cs) (tag (Some b) ∷ s)
    ≡ run (at (modes.Items []) (frames.Declaration (record { exotic = exotic; name = name; tag = Given b }) ∷ under) cs) s
unfolding step_mode items tag_after heading_of
tag_goes b s exotic name under cs = refl

pub semicolon_goes : (s : List Lexeme) (c : Constructor) (under : List Frame) (cs : List Constructor)
    → run (at (modes.Params c) under cs) (sign Semicolon ∷ s) ≡ run (at modes.Start under (cs ++ c ∷ [])) s
unfolding step_mode params
semicolon_goes s c under cs = refl
