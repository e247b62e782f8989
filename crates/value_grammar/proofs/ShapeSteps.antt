-- The grammar of shapes as a machine: where the text stands, and what one shape leads to.
use Rattle.std.proofs.Common.{ℕ, zero, suc, Bool, true, false, List, [], ◌∷◌, Option, Some, None}
use Rattle.value_text.specs.declared.lexeme.Sign.{Sign}
use Rattle.value_text.specs.declared.lexeme.Sign.TheVariants.{OpenBrace, CloseBrace, OpenBracket, CloseBracket, OpenParen, CloseParen, Less, Greater, Comma, Colon, Tilde, Caret, Bang, Percent}
use Rattle.value_grammar.specs.Shapes.{Shape, sign, number, bits, name, x_name, hidden}

-- the values around, the innermost first
pub data Around : Type 0 where
  in_field : Around
  in_item : Around
  in_reference : Around
  in_pair : Around

-- where the text stands in them; in cells, whether a `%` is around them, and how many cells are
pub data Where : Type 0 where
  due : Where
  item_or_end : Where
  after_item : Where
  named : Where
  field_or_end : Where
  field_due : Where
  labelled : Where
  after_field : Where
  entry_or_end : Where
  entry_due : Where
  keyed : Where
  after_entry : Where
  rest_paren : Where
  rest_bits : Where
  after_rest : Where
  rest_child : Where
  paren_due : Bool → ℕ → Where
  bits_due : Bool → ℕ → Where
  after_part : Bool → ℕ → Where
  child_due : Bool → ℕ → Where
  done : Where

pub data State : Type 0 where
  at : Where → List Around → State

abbrev pub given : List Around → State
given [] = at done []
given (in_field ∷ b) = at after_field b
given (in_item ∷ b) = at after_item b
given (in_reference ∷ b) = given b
given (in_pair ∷ b) = at after_entry b

abbrev pub cell_given : Bool → ℕ → List Around → State
cell_given false zero b = given b
cell_given true zero b = at after_rest b
cell_given base (suc n) b = at (after_part base n) b

abbrev pub begin_sign : Sign → List Around → Option State
begin_sign OpenBrace b = Some (at field_or_end b)
begin_sign Tilde b = Some (given b)
begin_sign OpenBracket b = Some (at item_or_end b)
begin_sign Caret b = Some (at due (in_reference ∷ b))
begin_sign Less b = Some (at entry_or_end b)
begin_sign OpenParen b = Some (at (bits_due false 0) b)
begin_sign Bang b = Some (at (paren_due false 0) b)
begin_sign Percent b = Some (at rest_paren b)
begin_sign s b = None

abbrev pub begin : Shape → List Around → Option State
begin (sign s) b = begin_sign s b
begin number b = Some (given b)
begin bits b = Some (given b)
begin name b = Some (at named b)
begin x_name b = None
begin hidden b = Some (given b)

abbrev pub list_or_end : Shape → List Around → Option State
list_or_end (sign CloseBracket) b = Some (given b)
list_or_end c b = begin c (in_item ∷ b)

abbrev pub in_list : Shape → List Around → Option State
in_list (sign Comma) b = Some (at due (in_item ∷ b))
in_list (sign CloseBracket) b = Some (given b)
in_list c b = None

abbrev pub open_record : Shape → List Around → Option State
open_record (sign OpenBrace) b = Some (at field_or_end b)
open_record c b = None

abbrev pub label : Shape → List Around → Option State
label name b = Some (at labelled b)
label x_name b = Some (at labelled b)
label c b = None

abbrev pub label_or_end : Shape → List Around → Option State
label_or_end (sign CloseBrace) b = Some (given b)
label_or_end c b = label c b

abbrev pub colon : Shape → List Around → Option State
colon (sign Colon) b = Some (at due (in_field ∷ b))
colon c b = None

abbrev pub in_record : Shape → List Around → Option State
in_record (sign Comma) b = Some (at field_due b)
in_record (sign CloseBrace) b = Some (given b)
in_record c b = None

abbrev pub key : Shape → List Around → Option State
key bits b = Some (at keyed b)
key c b = None

abbrev pub key_or_end : Shape → List Around → Option State
key_or_end (sign Greater) b = Some (given b)
key_or_end c b = key c b

abbrev pub entry : Shape → List Around → Option State
entry (sign Colon) b = Some (at due (in_pair ∷ b))
entry hidden b = Some (at after_entry b)
entry c b = None

abbrev pub in_map : Shape → List Around → Option State
in_map (sign Comma) b = Some (at entry_due b)
in_map (sign Greater) b = Some (given b)
in_map c b = None

abbrev pub open_rest : Shape → List Around → Option State
open_rest (sign OpenParen) b = Some (at rest_bits b)
open_rest c b = None

abbrev pub begin_rest : Shape → List Around → Option State
begin_rest bits b = Some (at after_rest b)
begin_rest c b = None

abbrev pub in_rest : Shape → List Around → Option State
in_rest (sign Comma) b = Some (at rest_child b)
in_rest (sign CloseParen) b = Some (given b)
in_rest c b = None

abbrev pub begin_cell : Bool → ℕ → Shape → List Around → Option State
begin_cell base n (sign OpenParen) b = Some (at (bits_due base n) b)
begin_cell base n (sign Bang) b = Some (at (paren_due base n) b)
begin_cell base n c b = None

abbrev pub open_exotic : Bool → ℕ → Shape → List Around → Option State
open_exotic base n (sign OpenParen) b = Some (at (bits_due base n) b)
open_exotic base n c b = None

abbrev pub begin_body : Bool → ℕ → Shape → List Around → Option State
begin_body base n bits b = Some (at (after_part base n) b)
begin_body base n c b = None

abbrev pub in_body : Bool → ℕ → Shape → List Around → Option State
in_body base n (sign Comma) b = Some (at (child_due base n) b)
in_body base n (sign CloseParen) b = Some (cell_given base n b)
in_body base n c b = None

abbrev pub move : Where → Shape → List Around → Option State
move due c b = begin c b
move item_or_end c b = list_or_end c b
move after_item c b = in_list c b
move named c b = open_record c b
move field_or_end c b = label_or_end c b
move field_due c b = label c b
move labelled c b = colon c b
move after_field c b = in_record c b
move entry_or_end c b = key_or_end c b
move entry_due c b = key c b
move keyed c b = entry c b
move after_entry c b = in_map c b
move rest_paren c b = open_rest c b
move rest_bits c b = begin_rest c b
move after_rest c b = in_rest c b
move rest_child c b = begin_cell true 0 c b
move (paren_due base n) c b = open_exotic base n c b
move (bits_due base n) c b = begin_body base n c b
move (after_part base n) c b = in_body base n c b
move (child_due base n) c b = begin_cell base (suc n) c b
move done c b = None

abbrev pub step : State → Shape → Option State
step (at w b) c = move w c b

abbrev pub onward : Option State → (State → Option State) → Option State
onward (Some s) further = further s
onward None further = None

abbrev pub run : State → List Shape → Option State
run s [] = Some s
run s (c ∷ cs) = onward (step s c) (λ next. run next cs)
