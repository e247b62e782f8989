-- The tokens of a value that can be written are within their limits, and can stand one after another.
use Rattle.std.proofs.Common.{◌≡◌, ◌≢◌, ℕ, zero, suc, ◌<◌, ◌^◌, Bool, true, false, not, IsTrue, bytes_eq, codes, List, [], ◌∷◌, ◌++◌, map, take, drop, Some, None, refl, sym, ap, subst, arith, append_assoc, append-nil}
use Rattle.bit_slice.specs.Names.{IsName}
use Rattle.cell_nodes.specs.Equations.{tree_of-out}
use Rattle.cell_nodes.specs.Good.{AllGood, IsGood, good, more, none}
use Rattle.cell_nodes.specs.Tree.{is_exotic, tree_of}
use Rattle.cell_nodes.specs.declared.tree.Hidden.{Hidden}
use Rattle.cell_nodes.specs.declared.tree.Tree.{Tree, out-Tree}
use Rattle.typed_value.specs.Values.{Plain, Plains, PlainPairs, a_pair, a_val, absent, bit_string, list_of, map_of, no_pairs, no_vals, number, raw, record_of, ref_to, rest, unknown}
use Rattle.value_text.specs.declared.lexeme.Sign.{Sign}
use Rattle.value_text.specs.declared.lexeme.Sign.TheVariants.{OpenBrace, CloseBrace, OpenBracket, CloseBracket, OpenParen, CloseParen, Less, Greater, Comma, Colon, Tilde, Caret, Bang, Percent}
use Rattle.value_text.specs.DivisionLaws.{AreApart, AreTokens}
use Rattle.value_text.specs.Lexemes.{sign_byte}
use Rattle.value_text.specs.Text.{cell, count_before, entries, fields, hidden_entry, items, name_of, separated, tokens}
use Rattle.value_text.specs.Text as text
use Rattle.value_text.specs.Tokens.{Token, mark, bits, name, hidden}
use Rattle.value_text.specs.Tokens as token
use Rattle.value_text.specs.Writes.{AreEntries, AreFew, AreFields, AreFormed, AreHidden, IsFormed, IsHidden}
use Rattle.value_grammar.specs.Open.{bang, body_text}
use Rattle.value_grammar.proofs.Texts.{cell_text}

-- ---- what may come after a value

-- what comes after a token other than a sign: a sign other than `{`, or nothing
abbrev FirstIs : List Token → Type 0
FirstIs [] = Unit {0}
FirstIs (mark b ∷ us) = b ≢ 123
FirstIs (token.number negative size ∷ us) = ⊥
FirstIs (bits bs ∷ us) = ⊥
FirstIs (name n ∷ us) = ⊥
FirstIs (hidden h ∷ us) = ⊥

pub record Fine (us : List Token) : Type 0 where
  pub are_tokens : AreTokens us
  pub apart : AreApart us
  pub first : FirstIs us

-- tokens that can stand, whatever comes after
pub record Stand (us : List Token) : Type 0 where
  pub are_tokens : AreTokens us
  pub apart : AreApart us

same_stand : (us vs : List Token) → us ≡ vs → Stand us → Stand vs
same_stand us vs e h = let P : List Token → Type 0 = λ x. Stand x in subst P e h

mark_apart : (b : ℕ) (us : List Token) → AreApart us → AreApart (mark b ∷ us)
mark_apart b [] h = tt
mark_apart b (u ∷ us) h = (tt, h)

a_mark : (s : Sign) (us : List Token) → Stand us → Stand (mark (sign_byte s) ∷ us)
a_mark s us h = record { are_tokens = (record { sign = s; byte = refl }, h.are_tokens); apart = mark_apart (sign_byte s) us h.apart }

fine_mark : (s : Sign) (us : List Token) → sign_byte s ≢ 123 → Stand us → Fine (mark (sign_byte s) ∷ us)
fine_mark s us n h = let m = a_mark s us h in record { are_tokens = m.are_tokens; apart = m.apart; first = n }

number_apart : (negative : Bool) (size : ℕ) (us : List Token) → FirstIs us → AreApart us → AreApart (token.number negative size ∷ us)
number_apart negative size [] f h = tt
number_apart negative size (mark b ∷ us) f h = (tt, h)
number_apart negative size (token.number n s ∷ us) f h = absurd f
number_apart negative size (bits bs ∷ us) f h = absurd f
number_apart negative size (name n ∷ us) f h = absurd f
number_apart negative size (hidden k ∷ us) f h = absurd f

bits_apart : (bs : List ℕ) (us : List Token) → FirstIs us → AreApart us → AreApart (bits bs ∷ us)
bits_apart bs [] f h = tt
bits_apart bs (mark b ∷ us) f h = (tt, h)
bits_apart bs (token.number n s ∷ us) f h = absurd f
bits_apart bs (bits cs ∷ us) f h = absurd f
bits_apart bs (name n ∷ us) f h = absurd f
bits_apart bs (hidden k ∷ us) f h = absurd f

hidden_apart : (k : Hidden) (us : List Token) → FirstIs us → AreApart us → AreApart (hidden k ∷ us)
hidden_apart k [] f h = tt
hidden_apart k (mark b ∷ us) f h = (tt, h)
hidden_apart k (token.number n s ∷ us) f h = absurd f
hidden_apart k (bits cs ∷ us) f h = absurd f
hidden_apart k (name n ∷ us) f h = absurd f
hidden_apart k (hidden j ∷ us) f h = absurd f

a_number : (negative : Bool) (size : ℕ) (us : List Token) → size < 2 ^ 128 → Fine us → Stand (token.number negative size ∷ us)
a_number negative size us l f = record { are_tokens = ((l, refl), f.are_tokens); apart = number_apart negative size us f.first f.apart }

some_bits : (bs : List ℕ) (us : List Token) → AreFew bs → Fine us → Stand (bits bs ∷ us)
some_bits bs us l f = record { are_tokens = (l, f.are_tokens); apart = bits_apart bs us f.first f.apart }

a_hidden : (k : Hidden) (us : List Token) → IsHidden k → Fine us → Stand (hidden k ∷ us)
a_hidden k us l f = record { are_tokens = (l, f.are_tokens); apart = hidden_apart k us f.first f.apart }

-- a field's name
a_label : (n : List ℕ) (us : List Token) → IsName n → Stand us → Stand (name n ∷ mark 58 ∷ us)
a_label n us l h =
    let m = a_mark Colon us h in
    record { are_tokens = ((l, refl), m.are_tokens); apart = ((λ e f. absurd (omega arith)), m.apart) }

-- a record's name, which is not x
a_heading : (n : List ℕ) (us : List Token) → IsName n → IsTrue (not (bytes_eq n (codes "x"))) → Stand us → Stand (name n ∷ mark 123 ∷ us)
a_heading n us l x h =
    let m = a_mark OpenBrace us h in
    record { are_tokens = ((l, refl), m.are_tokens); apart = ((λ e f. other e x), m.apart) }
  where
    other : n ≡ codes "x" → IsTrue (not (bytes_eq n (codes "x"))) → ⊥
    other e y =
        let P : List ℕ → Type 0 = λ k. IsTrue (not (bytes_eq k (codes "x"))) in
        let z : false ≡ true = subst P e y in
        absurd (cc)

-- ---- lists with commas

abbrev AllStand : List (List Token) → Type 0
AllStand [] = Unit {0}
AllStand (e ∷ es) = ((us : List Token) → Fine us → Stand (e ++ us)) × AllStand es

fine_stand : (us : List Token) → Fine us → Stand us
fine_stand us f = record { are_tokens = f.are_tokens; apart = f.apart }

more_stand : (es : List (List Token)) (us : List Token) → AllStand es → Fine us → Fine (text.more es ++ us)
more_stand [] us h f = f
more_stand (e ∷ es) us h f =
    let P : List Token → Type 0 = λ x. Fine (mark 44 ∷ x) in
    subst P (sym (append_assoc e (text.more es) us))
    (fine_mark Comma (e ++ (text.more es ++ us)) (λ x. absurd (omega arith)) (h.0 (text.more es ++ us) (more_stand es us h.1 f)))

separated_stand : (es : List (List Token)) (us : List Token) → AllStand es → Fine us → Stand (separated es ++ us)
separated_stand [] us h f = fine_stand us f
separated_stand (e ∷ es) us h f =
    same_stand (e ++ (text.more es ++ us)) ((e ++ text.more es) ++ us) (sym (append_assoc e (text.more es) us)) (h.0 (text.more es ++ us) (more_stand es us h.1 f))

-- a list between a sign and another
between : (es : List (List Token)) (s : Sign) (us : List Token) → sign_byte s ≢ 123 → AllStand es → Stand us → Stand ((separated es ++ mark (sign_byte s) ∷ []) ++ us)
between es s us n h f =
    same_stand (separated es ++ mark (sign_byte s) ∷ us) ((separated es ++ mark (sign_byte s) ∷ []) ++ us) (sym (append_assoc (separated es) (mark (sign_byte s) ∷ []) us))
    (separated_stand es (mark (sign_byte s) ∷ us) h (fine_mark s us n f))

-- ---- cells

body_stand : (bs : List ℕ) (es : List (List Token)) (us : List Token) → AreFew bs → AllStand es → Stand us → Stand (bits bs ∷ ((text.more es ++ mark 41 ∷ []) ++ us))
body_stand bs es us f h s =
    same_stand (bits bs ∷ (text.more es ++ mark 41 ∷ us)) (bits bs ∷ ((text.more es ++ mark 41 ∷ []) ++ us))
    (ap (λ (x : List Token). bits bs ∷ x) (sym (append_assoc (text.more es) (mark 41 ∷ []) us)))
    (some_bits bs (text.more es ++ mark 41 ∷ us) f (more_stand es (mark 41 ∷ us) h (fine_mark CloseParen us (λ x. absurd (omega arith)) s)))

cell_head : (exotic : Bool) (bs : List ℕ) (cs : List Tree) (us : List Token) → AreFew bs → AllStand (map cell cs) → Stand us
    → Stand (((bang exotic ++ body_text bs cs) ++ mark 41 ∷ []) ++ us)
cell_head false bs cs us f h s = a_mark OpenParen (bits bs ∷ ((text.more (map cell cs) ++ mark 41 ∷ []) ++ us)) (body_stand bs (map cell cs) us f h s)
cell_head true bs cs us f h s =
    a_mark Bang (mark 40 ∷ bits bs ∷ ((text.more (map cell cs) ++ mark 41 ∷ []) ++ us))
    (a_mark OpenParen (bits bs ∷ ((text.more (map cell cs) ++ mark 41 ∷ []) ++ us)) (body_stand bs (map cell cs) us f h s))

mutual
  cell_stand : {t : Tree} → IsGood t → (us : List Token) → Stand us → Stand (cell t ++ us)
  cell_stand (good t sound all) us s =
      let kind = (out-Tree t).kind in
      let bs = (out-Tree t).bits in
      let cs = (out-Tree t).children in
      let P : Tree → Type 0 = λ x. Stand (cell x ++ us) in
      subst P (tree_of-out t)
      (same_stand (((bang (is_exotic kind) ++ body_text bs cs) ++ mark 41 ∷ []) ++ us) (cell (tree_of kind bs cs) ++ us)
      (ap (λ (x : List Token). x ++ us) (sym (cell_text (is_exotic kind) kind bs cs refl)))
      (cell_head (is_exotic kind) bs cs us (sound.bits, sound.short) (cells_stand all) s))

  cells_stand : {ts : List Tree} → AllGood ts → AllStand (map cell ts)
  cells_stand none = tt
  cells_stand (more t ts g gs) = ((λ us f. cell_stand g us (fine_stand us f)), cells_stand gs)

-- ---- values

hiddens_stand : (us : List (List ℕ × Hidden)) → AreHidden us → (es : List (List Token)) → AllStand es → AllStand (map hidden_entry us ++ es)
hiddens_stand [] h es s = s
hiddens_stand (u ∷ us) h es s =
    ((λ vs f. let k = a_hidden u.1 vs h.1 f in record { are_tokens = (h.0, k.are_tokens); apart = (tt, k.apart) }), hiddens_stand us h.2 es s)

hidden_take : (n : ℕ) (us : List (List ℕ × Hidden)) → AreHidden us → AreHidden (take n us)
hidden_take zero us h = tt
hidden_take (suc n) [] h = tt
hidden_take (suc n) (u ∷ us) h = (h.0, h.1, hidden_take n us h.2)

hidden_drop : (n : ℕ) (us : List (List ℕ × Hidden)) → AreHidden us → AreHidden (drop n us)
hidden_drop zero us h = h
hidden_drop (suc n) [] h = tt
hidden_drop (suc n) (u ∷ us) h = hidden_drop n us h.2

-- a key, its colon and a value
a_key : (x : List ℕ) (ts us : List Token) → AreFew x → Stand (ts ++ us) → Stand ((bits x ∷ mark 58 ∷ ts) ++ us)
a_key x ts us f s = some_bits x (mark 58 ∷ (ts ++ us)) f (fine_mark Colon (ts ++ us) (λ e. absurd (omega arith)) s)

mutual
  value_stand : (v : Plain) → IsFormed v → (us : List Token) → Fine us → Stand (tokens v ++ us)
  value_stand (number negative size) f us h = a_number negative size us f h
  value_stand (bit_string bs) f us h = some_bits bs us f h
  value_stand (record_of None names vs) f us h =
      a_mark OpenBrace ((separated (fields names vs) ++ mark 125 ∷ []) ++ us) (between (fields names vs) CloseBrace us (λ x. absurd (omega arith)) (fields_stand names vs f.1) (fine_stand us h))
  value_stand (record_of (Some n) names vs) f us h =
      a_heading n ((separated (fields names vs) ++ mark 125 ∷ []) ++ us) f.0.0 f.0.1
      (between (fields names vs) CloseBrace us (λ x. absurd (omega arith)) (fields_stand names vs f.1) (fine_stand us h))
  value_stand absent f us h = a_mark Tilde us (fine_stand us h)
  value_stand (list_of vs) f us h =
      a_mark OpenBracket ((separated (items vs) ++ mark 93 ∷ []) ++ us) (between (items vs) CloseBracket us (λ x. absurd (omega arith)) (items_stand vs f) (fine_stand us h))
  value_stand (ref_to a v) f us h = a_mark Caret (tokens v ++ us) (value_stand v f us h)
  value_stand (unknown k) f us h = a_hidden k us f h
  value_stand (map_of a ps us) f vs h =
      a_mark Less ((separated (entries ps us) ++ mark 62 ∷ []) ++ vs) (between (entries ps us) Greater vs (λ x. absurd (omega arith)) (entries_stand ps us f.0 f.1) (fine_stand vs h))
  value_stand (raw c) f us h = cell_stand f us (fine_stand us h)
  value_stand (rest s) f us h =
      a_mark Percent (text.body s.bits (map cell s.refs) ++ us)
      (a_mark OpenParen (bits s.bits ∷ ((text.more (map cell s.refs) ++ mark 41 ∷ []) ++ us)) (body_stand s.bits (map cell s.refs) us f.0 (cells_stand f.1) (fine_stand us h)))

  items_stand : (vs : Plains) → AreFormed vs → AllStand (items vs)
  items_stand no_vals f = tt
  items_stand (a_val v vs) f = ((λ us h. value_stand v f.0 us h), items_stand vs f.1)

  fields_stand : (names : List (List ℕ)) (vs : Plains) → AreFields names vs → AllStand (fields names vs)
  fields_stand names no_vals f = tt
  fields_stand [] (a_val v vs) f = absurd f
  fields_stand (x ∷ names) (a_val v vs) f = ((λ us h. a_label x (tokens v ++ us) f.0 (value_stand v f.1 us h)), fields_stand names vs f.2)

  entries_stand : (ps : PlainPairs) (us : List (List ℕ × Hidden)) → AreEntries ps → AreHidden us → AllStand (entries ps us)
  entries_stand no_pairs us f h =
      let P : List (List Token) → Type 0 = λ x. AllStand x in
      subst P (append-nil (map hidden_entry us)) (hiddens_stand us h [] tt)
  entries_stand (a_pair x v ps) us f h =
      let c : ℕ = count_before x us in
      hiddens_stand (take c us) (hidden_take c us h) ((bits x ∷ mark 58 ∷ tokens v) ∷ entries ps (drop c us))
      ((λ vs g. a_key x (tokens v) vs f.0 (value_stand v f.1 vs g)), entries_stand ps (drop c us) f.2 (hidden_drop c us h))

pub whole_stands : (v : Plain) → IsFormed v → Stand (tokens v)
whole_stands v f = same_stand (tokens v ++ []) (tokens v) (append-nil (tokens v)) (value_stand v f [] (record { are_tokens = tt; apart = tt; first = tt }))
