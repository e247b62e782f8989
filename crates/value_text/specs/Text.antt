-- The text of a value, as one list of tokens. This project's own.
use Rattle.std.specs.Prelude.{ℕ, suc, ◌==◌, Bool, true, false, nat_lt, List, [], ◌∷◌, ◌++◌, take, drop, map, Option, Some, None, if◌then◌else◌}
use Rattle.cell_nodes.specs.declared.tree.Hidden.{Hidden}
use Rattle.cell_nodes.specs.declared.tree.Kind.{Kind}
use Rattle.cell_nodes.specs.declared.tree.Tree.{Tree, fold-Tree}
use Rattle.cell_nodes.specs.declared.tree.Tree.TheOpen.{Tree-F}
use Rattle.cell_nodes.specs.Tree.{is_exotic}
use Rattle.typed_value.specs.Values.{Val, Vals, Pairs, bit_string, record_of, absent, list_of, ref_to, unknown, map_of, raw, rest, no_vals, a_val, no_pairs, a_pair}
use Rattle.typed_value.specs.Values as value
use Rattle.value_text.specs.Tokens.{Token, mark, number, bits, name, hidden, written}

-- ---- lists with commas (44) between

-- what follows the first
abbrev pub more : List (List Token) → List Token
more [] = []
more (e ∷ es) = mark 44 ∷ e ++ more es

abbrev pub separated : List (List Token) → List Token
separated [] = []
separated (e ∷ es) = e ++ more es

-- ---- cells: '(' is 40, ')' is 41, '!' is 33

-- the bits and then each reference, in parentheses
abbrev pub body : List ℕ → List (List Token) → List Token
body bs refs = mark 40 ∷ bits bs ∷ more refs ++ mark 41 ∷ []

-- an exotic cell has a '!'
abbrev pub kind_mark : Kind → List Token
kind_mark kind = if is_exotic kind then mark 33 ∷ [] else []

abbrev pub cell_step : Kind → List ℕ → List (List Token) → List Token
cell_step kind bs refs = kind_mark kind ++ body bs refs

abbrev pub tree_step : Tree-F (List Token) → List Token
tree_step t = cell_step t.kind t.bits t.children

unfoldable pub cell : Tree → List Token
cell = fold-Tree (List Token) tree_step

-- ---- the order of bits: the first that differs decides, and what ends comes first

abbrev pub comes_before : List ℕ → List ℕ → Bool
comes_before xs [] = false
comes_before [] (y ∷ ys) = true
comes_before (x ∷ xs) (y ∷ ys) = if x == y then comes_before xs ys else nat_lt x y

-- how many of the first hidden parts come before the key
abbrev pub count_before : List ℕ → List (List ℕ × Hidden) → ℕ
count_before key [] = 0
count_before key (u ∷ us) = if comes_before u.0 key then suc (count_before key us) else 0

-- a hidden part of a map, by its prefix
abbrev pub hidden_entry : List ℕ × Hidden → List Token
hidden_entry u = bits u.0 ∷ hidden u.1 ∷ []

-- ---- values: '{' is 123, '}' is 125, '~' is 126, '[' is 91, ']' is 93, '^' is 94, '<' is 60, '>' is 62, ':' is 58
-- and '%' is 37

abbrev pub name_of : Option (List ℕ) → List Token
name_of None = []
name_of (Some n) = name n ∷ []

abbrev mutual
  pub tokens : {A : Type 0} → Val A → List Token
  tokens (value.number negative size) = number negative size ∷ []
  tokens (bit_string bs) = bits bs ∷ []
  tokens (record_of n names vs) = name_of n ++ mark 123 ∷ separated (fields names vs) ++ mark 125 ∷ []
  tokens absent = mark 126 ∷ []
  tokens (list_of vs) = mark 91 ∷ separated (items vs) ++ mark 93 ∷ []
  tokens (ref_to a v) = mark 94 ∷ tokens v
  tokens (unknown h) = hidden h ∷ []
  tokens (map_of a ps us) = mark 60 ∷ separated (entries ps us) ++ mark 62 ∷ []
  tokens (raw c) = cell c
  tokens (rest s) = mark 37 ∷ body s.bits (map cell s.refs)

  pub items : {A : Type 0} → Vals A → List (List Token)
  items no_vals = []
  items (a_val v vs) = tokens v ∷ items vs

  -- each field's value behind its name
  pub fields : {A : Type 0} → List (List ℕ) → Vals A → List (List Token)
  fields names no_vals = []
  fields [] (a_val v vs) = []
  fields (n ∷ names) (a_val v vs) = (name n ∷ mark 58 ∷ tokens v) ∷ fields names vs

  -- values behind their keys, and hidden parts, in the order of bits
  pub entries : {A : Type 0} → Pairs A → List (List ℕ × Hidden) → List (List Token)
  entries no_pairs us = map hidden_entry us
  entries (a_pair k v ps) us =
      map hidden_entry (take (count_before k us) us)
      ++ (bits k ∷ mark 58 ∷ tokens v) ∷ entries ps (drop (count_before k us) us)

-- the text of a value without white space
abbrev pub text_of : {A : Type 0} → Val A → List ℕ
text_of v = written (tokens v)
