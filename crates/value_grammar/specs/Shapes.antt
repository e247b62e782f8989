-- Lexemes by their shape alone, of which the grammar of a value's text speaks.
use Rattle.std.specs.Prelude.{List, bytes_eq, codes, if◌then◌else◌, map}
use Rattle.value_text.specs.declared.lexeme.Sign.{Sign}
use Rattle.value_text.specs.declared.lexeme.Form.{Form}
use Rattle.value_text.specs.declared.lexeme.Form.TheVariants as forms
use Rattle.value_text.specs.declared.lexeme.Lexeme.{Lexeme}
use Rattle.value_text.specs.declared.lexeme.Lexeme.TheVariants.{Sign as ASign, Number, Bits, Name, Hidden, Beyond}

pub data Shape : Type 0 where
  sign : Sign → Shape
  number : Shape
  bits : Shape
  name : Shape
  -- the name x, which no record has
  x_name : Shape
  hidden : Shape

abbrev pub form_shape : Form → Shape
form_shape forms.Number = number
form_shape forms.Bits = bits
form_shape forms.Hidden = hidden

abbrev pub shape : Lexeme → Shape
shape (ASign s) = sign s
shape (Number n) = number
shape (Bits bs) = bits
shape (Name n) = if bytes_eq n (codes "x") then x_name else name
shape (Hidden h) = hidden
shape (Beyond form) = form_shape form

abbrev pub shapes : List Lexeme → List Shape
shapes = map shape
