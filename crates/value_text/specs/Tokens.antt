-- The tokens of a value's text, and how each is spelled. This project's own; the hexadecimal text of bits is that of
-- the TVM whitepaper, section 1.0.
use Rattle.std.specs.Prelude.{ℕ, Bool, List, [], ◌∷◌, ◌++◌, codes, decimal, if◌then◌else◌}
use Rattle.hex.specs.Hex.{encode_lower}
use Rattle.bit_slice.specs.Bits.{hex_text}
use Rattle.cell_nodes.specs.declared.tree.Hidden.{Hidden}

pub data Token : Type 0 where
  -- one byte: a bracket, a comma, a colon or a sign
  mark : ℕ → Token
  -- a number, by whether it is negative and by its size
  number : Bool → ℕ → Token
  bits : List ℕ → Token
  name : List ℕ → Token
  hidden : Hidden → Token

-- the bytes of a token: 45 is '-', 63 is '?', 46 is '.'
abbrev pub spelling : Token → List ℕ
spelling (mark b) = b ∷ []
spelling (number negative size) = if negative then 45 ∷ decimal size else decimal size
spelling (bits bs) = codes "x{" ++ hex_text bs ++ codes "}"
spelling (name n) = n
spelling (hidden h) = 63 ∷ encode_lower h.hash ++ 46 ∷ decimal h.depth

-- tokens one after another, without white space
abbrev pub written : List Token → List ℕ
written [] = []
written (t ∷ ts) = spelling t ++ written ts
