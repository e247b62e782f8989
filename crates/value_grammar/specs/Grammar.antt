-- The productions of a value's text, as relations between the shapes of lexemes and those that are left. They speak of
-- no limit and of no order. This project's own.
use Rattle.std.specs.Prelude.{List, [], ◌∷◌, ◌++◌}
use Rattle.value_text.specs.declared.lexeme.Sign.TheVariants.{OpenBrace, CloseBrace, OpenBracket, CloseBracket}
use Rattle.value_text.specs.declared.lexeme.Sign.TheVariants.{OpenParen, CloseParen, Less, Greater, Comma, Colon, Tilde}
use Rattle.value_text.specs.declared.lexeme.Sign.TheVariants.{Caret, Bang, Percent}
use Rattle.value_grammar.specs.Shapes.{Shape, sign, number, bits, name, x_name, hidden}

-- cell = ["!"] body; body = "(" bits {"," cell} ")"
mutual
  pub data ACell : List Shape → List Shape → Type 0 where
    an_ordinary : {s r : List Shape} → Body s r → ACell s r
    an_exotic : {s r : List Shape} → Body s r → ACell (sign Bang ∷ s) r

  pub data Body : List Shape → List Shape → Type 0 where
    a_body : {s r : List Shape} → Children s (sign CloseParen ∷ r) → Body (sign OpenParen ∷ bits ∷ s) r

  pub data Children : List Shape → List Shape → Type 0 where
    no_child : {r : List Shape} → Children r r
    a_child : {s mid r : List Shape} → ACell s mid → Children mid r → Children (sign Comma ∷ s) r

-- a field may have any name
pub data IsLabel : Shape → Type 0 where
  by_name : IsLabel name
  by_x : IsLabel x_name

mutual
  -- value = number | bits | name "{" [fields] "}" | "{" [fields] "}" | "~" | "[" [items] "]" | "^" value | hidden
  --   | "<" [entries] ">" | cell | "%" body
  pub data AValue : List Shape → List Shape → Type 0 where
    a_number : {r : List Shape} → AValue (number ∷ r) r
    some_bits : {r : List Shape} → AValue (bits ∷ r) r
    a_named : {s r : List Shape} → Fields s (sign CloseBrace ∷ r) → AValue (name ∷ sign OpenBrace ∷ s) r
    a_nameless : {s r : List Shape} → Fields s (sign CloseBrace ∷ r) → AValue (sign OpenBrace ∷ s) r
    an_absent : {r : List Shape} → AValue (sign Tilde ∷ r) r
    a_list : {s r : List Shape} → Items s (sign CloseBracket ∷ r) → AValue (sign OpenBracket ∷ s) r
    a_reference : {s r : List Shape} → AValue s r → AValue (sign Caret ∷ s) r
    a_hidden : {r : List Shape} → AValue (hidden ∷ r) r
    a_map : {s r : List Shape} → Entries s (sign Greater ∷ r) → AValue (sign Less ∷ s) r
    a_cell : {s r : List Shape} → ACell s r → AValue s r
    a_rest : {s r : List Shape} → Body s r → AValue (sign Percent ∷ s) r

  -- fields = field {"," field}; field = name ":" value
  pub data Fields : List Shape → List Shape → Type 0 where
    no_field : {r : List Shape} → Fields r r
    some_fields : {s mid r : List Shape} → AField s mid → MoreFields mid r → Fields s r

  pub data MoreFields : List Shape → List Shape → Type 0 where
    fields_end : {r : List Shape} → MoreFields r r
    next_field : {s mid r : List Shape} → AField s mid → MoreFields mid r → MoreFields (sign Comma ∷ s) r

  pub data AField : List Shape → List Shape → Type 0 where
    a_field : {n : Shape} {s r : List Shape} → IsLabel n → AValue s r → AField (n ∷ sign Colon ∷ s) r

  -- items = value {"," value}
  pub data Items : List Shape → List Shape → Type 0 where
    no_item : {r : List Shape} → Items r r
    some_items : {s mid r : List Shape} → AValue s mid → MoreItems mid r → Items s r

  pub data MoreItems : List Shape → List Shape → Type 0 where
    items_end : {r : List Shape} → MoreItems r r
    next_item : {s mid r : List Shape} → AValue s mid → MoreItems mid r → MoreItems (sign Comma ∷ s) r

  -- entries = entry {"," entry}; entry = bits ":" value | bits hidden
  pub data Entries : List Shape → List Shape → Type 0 where
    no_entry : {r : List Shape} → Entries r r
    some_entries : {s mid r : List Shape} → AnEntry s mid → MoreEntries mid r → Entries s r

  pub data MoreEntries : List Shape → List Shape → Type 0 where
    entries_end : {r : List Shape} → MoreEntries r r
    next_entry : {s mid r : List Shape} → AnEntry s mid → MoreEntries mid r → MoreEntries (sign Comma ∷ s) r

  pub data AnEntry : List Shape → List Shape → Type 0 where
    a_pair : {s r : List Shape} → AValue s r → AnEntry (bits ∷ sign Colon ∷ s) r
    a_hidden_part : {r : List Shape} → AnEntry (bits ∷ hidden ∷ r) r

-- the shapes are those of a value
abbrev pub IsWhole : List Shape → Type 0
IsWhole s = AValue s []

-- a value can go on after these shapes, or ends with them
pub record CanGoOn (prefix : List Shape) : Type 0 where
  pub more : List Shape
  pub whole : IsWhole (prefix ++ more)
