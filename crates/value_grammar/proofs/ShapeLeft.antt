-- What may come after where the text stands: each step read backwards is a production. So every text that the machine
-- goes through can go on.
use Rattle.std.proofs.Common.{◌≡◌, ℕ, zero, suc, Bool, true, false, List, [], ◌∷◌, ◌++◌, Option, Some, None, refl, sym, subst, append-nil}
use Rattle.value_text.specs.declared.lexeme.Sign.{Sign}
use Rattle.value_text.specs.declared.lexeme.Sign.TheVariants.{OpenBrace, CloseBrace, OpenBracket, CloseBracket, OpenParen, CloseParen, Less, Greater, Comma, Colon, Tilde, Caret, Bang, Percent}
use Rattle.value_grammar.specs.Shapes.{Shape, sign, number, bits, name, x_name, hidden}
use Rattle.value_grammar.specs.Grammar.{ACell, AField, AValue, AnEntry, Body, CanGoOn, Children, Entries, Fields, IsLabel, IsWhole, Items, MoreEntries, MoreFields, MoreItems, a_body, a_cell, a_child, a_field, a_hidden, a_hidden_part, a_list, a_map, a_named, a_nameless, a_number, a_pair, a_reference, a_rest, an_absent, an_exotic, an_ordinary, by_name, by_x, entries_end, fields_end, items_end, next_entry, next_field, next_item, no_child, no_entry, no_field, no_item, some_bits, some_entries, some_fields, some_items}
use Rattle.value_grammar.proofs.ShapeSteps.{Around, State, Where, after_entry, after_field, after_item, after_part, after_rest, at, begin, begin_sign, bits_due, cell_given, child_due, done, due, entry_due, entry_or_end, field_due, field_or_end, given, in_field, in_item, in_pair, in_reference, item_or_end, keyed, label, labelled, move, named, onward, paren_due, rest_bits, rest_child, rest_paren, run, step}
use Rattle.value_grammar.proofs.ShapeRuns.{start}

abbrev LeftFrames : List Around → List Shape → Type 0
LeftFrames [] r = r ≡ []
LeftFrames (in_field ∷ b) r = (m : List Shape) × MoreFields r (sign CloseBrace ∷ m) × LeftFrames b m
LeftFrames (in_item ∷ b) r = (m : List Shape) × MoreItems r (sign CloseBracket ∷ m) × LeftFrames b m
LeftFrames (in_reference ∷ b) r = LeftFrames b r
LeftFrames (in_pair ∷ b) r = (m : List Shape) × MoreEntries r (sign Greater ∷ m) × LeftFrames b m

-- after a whole cell, inside so many others
abbrev LeftCells : Bool → ℕ → List Around → List Shape → Type 0
LeftCells false zero b r = LeftFrames b r
LeftCells true zero b r = (m : List Shape) × Children r (sign CloseParen ∷ m) × LeftFrames b m
LeftCells base (suc n) b r = (m : List Shape) × Children r (sign CloseParen ∷ m) × LeftCells base n b m

abbrev LeftAt : Where → List Around → List Shape → Type 0
LeftAt due b s = (r : List Shape) × AValue s r × LeftFrames b r
LeftAt item_or_end b s = (r : List Shape) × Items s (sign CloseBracket ∷ r) × LeftFrames b r
LeftAt after_item b s = (r : List Shape) × MoreItems s (sign CloseBracket ∷ r) × LeftFrames b r
LeftAt named b s = (t r : List Shape) × (s ≡ sign OpenBrace ∷ t) × Fields t (sign CloseBrace ∷ r) × LeftFrames b r
LeftAt field_or_end b s = (r : List Shape) × Fields s (sign CloseBrace ∷ r) × LeftFrames b r
LeftAt field_due b s = (m r : List Shape) × AField s m × MoreFields m (sign CloseBrace ∷ r) × LeftFrames b r
LeftAt labelled b s = (t m r : List Shape) × (s ≡ sign Colon ∷ t) × AValue t m × MoreFields m (sign CloseBrace ∷ r) × LeftFrames b r
LeftAt after_field b s = (r : List Shape) × MoreFields s (sign CloseBrace ∷ r) × LeftFrames b r
LeftAt entry_or_end b s = (r : List Shape) × Entries s (sign Greater ∷ r) × LeftFrames b r
LeftAt entry_due b s = (m r : List Shape) × AnEntry s m × MoreEntries m (sign Greater ∷ r) × LeftFrames b r
LeftAt keyed b s = (m r : List Shape) × AnEntry (bits ∷ s) m × MoreEntries m (sign Greater ∷ r) × LeftFrames b r
LeftAt after_entry b s = (r : List Shape) × MoreEntries s (sign Greater ∷ r) × LeftFrames b r
LeftAt rest_paren b s = (r : List Shape) × Body s r × LeftFrames b r
LeftAt rest_bits b s = (r : List Shape) × Body (sign OpenParen ∷ s) r × LeftFrames b r
LeftAt after_rest b s = (r : List Shape) × Children s (sign CloseParen ∷ r) × LeftFrames b r
LeftAt rest_child b s = (m r : List Shape) × ACell s m × Children m (sign CloseParen ∷ r) × LeftFrames b r
LeftAt (paren_due base n) b s = (r : List Shape) × Body s r × LeftCells base n b r
LeftAt (bits_due base n) b s = (r : List Shape) × Body (sign OpenParen ∷ s) r × LeftCells base n b r
LeftAt (after_part base n) b s = (r : List Shape) × Children s (sign CloseParen ∷ r) × LeftCells base n b r
LeftAt (child_due base n) b s = (m r : List Shape) × ACell s m × Children m (sign CloseParen ∷ r) × LeftCells base n b r
LeftAt done b s = (s ≡ []) × (b ≡ [])

abbrev Left : State → List Shape → Type 0
Left (at w b) s = LeftAt w b s

abbrev LeftIf : Option State → List Shape → Type 0
LeftIf (Some p) s = Left p s
LeftIf None s = ⊥

given_back : (b : List Around) (s : List Shape) → Left (given b) s → LeftFrames b s
given_back [] s h = h.0
given_back (in_field ∷ b) s h = h
given_back (in_item ∷ b) s h = h
given_back (in_reference ∷ b) s h = given_back b s h
given_back (in_pair ∷ b) s h = h

cell_back : (base : Bool) (n : ℕ) (b : List Around) (s : List Shape) → Left (cell_given base n b) s → LeftCells base n b s
cell_back false zero b s h = given_back b s h
cell_back true zero b s h = h
cell_back false (suc n) b s h = h
cell_back true (suc n) b s h = h

-- ---- a value begins

begin_sign_back : (c : Sign) (b : List Around) (s : List Shape) → LeftIf (begin_sign c b) s → LeftAt due b (sign c ∷ s)
begin_sign_back OpenBrace b s h = (h.0, a_nameless h.1, h.2)
begin_sign_back Tilde b s h = (s, an_absent, given_back b s h)
begin_sign_back OpenBracket b s h = (h.0, a_list h.1, h.2)
begin_sign_back Caret b s h = (h.0, a_reference h.1, h.2)
begin_sign_back Less b s h = (h.0, a_map h.1, h.2)
begin_sign_back OpenParen b s h = (h.0, a_cell (an_ordinary h.1), h.2)
begin_sign_back Bang b s h = (h.0, a_cell (an_exotic h.1), h.2)
begin_sign_back Percent b s h = (h.0, a_rest h.1, h.2)
begin_sign_back CloseBrace b s h = absurd h
begin_sign_back CloseBracket b s h = absurd h
begin_sign_back CloseParen b s h = absurd h
begin_sign_back Greater b s h = absurd h
begin_sign_back Comma b s h = absurd h
begin_sign_back Colon b s h = absurd h

begin_back : (c : Shape) (b : List Around) (s : List Shape) → LeftIf (begin c b) s → LeftAt due b (c ∷ s)
begin_back (sign c) b s h = begin_sign_back c b s h
begin_back number b s h = (s, a_number, given_back b s h)
begin_back bits b s h = (s, some_bits, given_back b s h)
begin_back name b s h = (h.1, named_value h.2, h.4)
  where
    named_value : s ≡ sign OpenBrace ∷ h.0 → AValue (name ∷ s) h.1
    named_value e = let P : List Shape → Type 0 = λ t. AValue (name ∷ t) h.1 in subst P (sym e) (a_named h.3)
begin_back x_name b s h = absurd h
begin_back hidden b s h = (s, a_hidden, given_back b s h)

-- ---- lists, records, maps

first_item : (c : Shape) (b : List Around) (s : List Shape) → LeftIf (begin c (in_item ∷ b)) s → LeftAt item_or_end b (c ∷ s)
first_item c b s h = let v = begin_back c (in_item ∷ b) s h in (v.2.0, some_items v.1 v.2.1, v.2.2)

list_back : (c : Shape) (b : List Around) (s : List Shape) → LeftIf (move item_or_end c b) s → LeftAt item_or_end b (c ∷ s)
list_back (sign CloseBracket) b s h = (s, no_item, given_back b s h)
list_back (sign OpenBrace) b s h = first_item (sign OpenBrace) b s h
list_back (sign Tilde) b s h = first_item (sign Tilde) b s h
list_back (sign OpenBracket) b s h = first_item (sign OpenBracket) b s h
list_back (sign Caret) b s h = first_item (sign Caret) b s h
list_back (sign Less) b s h = first_item (sign Less) b s h
list_back (sign OpenParen) b s h = first_item (sign OpenParen) b s h
list_back (sign Bang) b s h = first_item (sign Bang) b s h
list_back (sign Percent) b s h = first_item (sign Percent) b s h
list_back (sign CloseBrace) b s h = absurd h
list_back (sign CloseParen) b s h = absurd h
list_back (sign Greater) b s h = absurd h
list_back (sign Comma) b s h = absurd h
list_back (sign Colon) b s h = absurd h
list_back number b s h = first_item number b s h
list_back bits b s h = first_item bits b s h
list_back name b s h = first_item name b s h
list_back x_name b s h = absurd h
list_back hidden b s h = first_item hidden b s h

in_list_back : (c : Shape) (b : List Around) (s : List Shape) → LeftIf (move after_item c b) s → LeftAt after_item b (c ∷ s)
in_list_back (sign Comma) b s h = (h.2.0, next_item h.1 h.2.1, h.2.2)
in_list_back (sign CloseBracket) b s h = (s, items_end, given_back b s h)
in_list_back c b s h = absurd h

named_back : (c : Shape) (b : List Around) (s : List Shape) → LeftIf (move named c b) s → LeftAt named b (c ∷ s)
named_back (sign OpenBrace) b s h = (s, h.0, refl, h.1, h.2)
named_back c b s h = absurd h

labelled_field : (n : Shape) (s : List Shape) (b : List Around) → IsLabel n → LeftAt labelled b s → LeftAt field_due b (n ∷ s)
labelled_field n s b l h =
    let P : List Shape → Type 0 = λ t. AField (n ∷ t) h.1 in
    (h.1, h.2, subst P (sym h.3) (a_field l h.4), h.5, h.6)

label_back : (c : Shape) (b : List Around) (s : List Shape) → LeftIf (label c b) s → LeftAt field_due b (c ∷ s)
label_back name b s h = labelled_field name s b by_name h
label_back x_name b s h = labelled_field x_name s b by_x h
label_back c b s h = absurd h

first_field : (c : Shape) (b : List Around) (s : List Shape) → LeftIf (label c b) s → LeftAt field_or_end b (c ∷ s)
first_field c b s h = let f = label_back c b s h in (f.1, some_fields f.2 f.3, f.4)

record_back : (c : Shape) (b : List Around) (s : List Shape) → LeftIf (move field_or_end c b) s → LeftAt field_or_end b (c ∷ s)
record_back (sign CloseBrace) b s h = (s, no_field, given_back b s h)
record_back name b s h = first_field name b s h
record_back x_name b s h = first_field x_name b s h
record_back c b s h = absurd h

colon_back : (c : Shape) (b : List Around) (s : List Shape) → LeftIf (move labelled c b) s → LeftAt labelled b (c ∷ s)
colon_back (sign Colon) b s h = (s, h.0, h.2.0, refl, h.1, h.2.1, h.2.2)
colon_back c b s h = absurd h

in_record_back : (c : Shape) (b : List Around) (s : List Shape) → LeftIf (move after_field c b) s → LeftAt after_field b (c ∷ s)
in_record_back (sign Comma) b s h = (h.1, next_field h.2 h.3, h.4)
in_record_back (sign CloseBrace) b s h = (s, fields_end, given_back b s h)
in_record_back c b s h = absurd h

key_back : (c : Shape) (b : List Around) (s : List Shape) → LeftIf (move entry_due c b) s → LeftAt entry_due b (c ∷ s)
key_back bits b s h = h
key_back c b s h = absurd h

map_back : (c : Shape) (b : List Around) (s : List Shape) → LeftIf (move entry_or_end c b) s → LeftAt entry_or_end b (c ∷ s)
map_back (sign Greater) b s h = (s, no_entry, given_back b s h)
map_back bits b s h = (h.1, some_entries h.2 h.3, h.4)
map_back c b s h = absurd h

entry_back : (c : Shape) (b : List Around) (s : List Shape) → LeftIf (move keyed c b) s → LeftAt keyed b (c ∷ s)
entry_back (sign Colon) b s h = (h.0, h.2.0, a_pair h.1, h.2.1, h.2.2)
entry_back hidden b s h = (s, h.0, a_hidden_part, h.1, h.2)
entry_back c b s h = absurd h

in_map_back : (c : Shape) (b : List Around) (s : List Shape) → LeftIf (move after_entry c b) s → LeftAt after_entry b (c ∷ s)
in_map_back (sign Comma) b s h = (h.1, next_entry h.2 h.3, h.4)
in_map_back (sign Greater) b s h = (s, entries_end, given_back b s h)
in_map_back c b s h = absurd h

-- ---- cells

open_rest_back : (c : Shape) (b : List Around) (s : List Shape) → LeftIf (move rest_paren c b) s → LeftAt rest_paren b (c ∷ s)
open_rest_back (sign OpenParen) b s h = h
open_rest_back c b s h = absurd h

rest_bits_back : (c : Shape) (b : List Around) (s : List Shape) → LeftIf (move rest_bits c b) s → LeftAt rest_bits b (c ∷ s)
rest_bits_back bits b s h = (h.0, a_body h.1, h.2)
rest_bits_back c b s h = absurd h

in_rest_back : (c : Shape) (b : List Around) (s : List Shape) → LeftIf (move after_rest c b) s → LeftAt after_rest b (c ∷ s)
in_rest_back (sign Comma) b s h = (h.1, a_child h.2 h.3, h.4)
in_rest_back (sign CloseParen) b s h = (s, no_child, given_back b s h)
in_rest_back c b s h = absurd h

rest_child_back : (c : Shape) (b : List Around) (s : List Shape) → LeftIf (move rest_child c b) s → LeftAt rest_child b (c ∷ s)
rest_child_back (sign OpenParen) b s h = (h.0, h.2.0, an_ordinary h.1, h.2.1, h.2.2)
rest_child_back (sign Bang) b s h = (h.0, h.2.0, an_exotic h.1, h.2.1, h.2.2)
rest_child_back c b s h = absurd h

paren_back : (base : Bool) (n : ℕ) (c : Shape) (b : List Around) (s : List Shape) → LeftIf (move (paren_due base n) c b) s → LeftAt (paren_due base n) b (c ∷ s)
paren_back base n (sign OpenParen) b s h = h
paren_back base n c b s h = absurd h

bits_back : (base : Bool) (n : ℕ) (c : Shape) (b : List Around) (s : List Shape) → LeftIf (move (bits_due base n) c b) s → LeftAt (bits_due base n) b (c ∷ s)
bits_back base n bits b s h = (h.0, a_body h.1, h.2)
bits_back base n c b s h = absurd h

part_back : (base : Bool) (n : ℕ) (c : Shape) (b : List Around) (s : List Shape) → LeftIf (move (after_part base n) c b) s → LeftAt (after_part base n) b (c ∷ s)
part_back base n (sign Comma) b s h = (h.1, a_child h.2 h.3, h.4)
part_back base n (sign CloseParen) b s h = (s, no_child, cell_back base n b s h)
part_back base n c b s h = absurd h

-- after a whole cell inside another
in_cell : (base : Bool) (n : ℕ) (b : List Around) (r : List Shape) → LeftCells base (suc n) b r → (m : List Shape) × Children r (sign CloseParen ∷ m) × LeftCells base n b m
in_cell false n b r h = h
in_cell true n b r h = h

child_back : (base : Bool) (n : ℕ) (c : Shape) (b : List Around) (s : List Shape) → LeftIf (move (child_due base n) c b) s → LeftAt (child_due base n) b (c ∷ s)
child_back base n (sign OpenParen) b s h = let i = in_cell base n b h.0 h.2 in (h.0, i.0, an_ordinary h.1, i.1, i.2)
child_back base n (sign Bang) b s h = let i = in_cell base n b h.0 h.2 in (h.0, i.0, an_exotic h.1, i.1, i.2)
child_back base n c b s h = absurd h

back : (w : Where) (c : Shape) (b : List Around) (s : List Shape) → LeftIf (move w c b) s → LeftAt w b (c ∷ s)
back due c b s h = begin_back c b s h
back item_or_end c b s h = list_back c b s h
back after_item c b s h = in_list_back c b s h
back named c b s h = named_back c b s h
back field_or_end c b s h = record_back c b s h
back field_due c b s h = label_back c b s h
back labelled c b s h = colon_back c b s h
back after_field c b s h = in_record_back c b s h
back entry_or_end c b s h = map_back c b s h
back entry_due c b s h = key_back c b s h
back keyed c b s h = entry_back c b s h
back after_entry c b s h = in_map_back c b s h
back rest_paren c b s h = open_rest_back c b s h
back rest_bits c b s h = rest_bits_back c b s h
back after_rest c b s h = in_rest_back c b s h
back rest_child c b s h = rest_child_back c b s h
back (paren_due base n) c b s h = paren_back base n c b s h
back (bits_due base n) c b s h = bits_back base n c b s h
back (after_part base n) c b s h = part_back base n c b s h
back (child_due base n) c b s h = child_back base n c b s h
back done c b s h = absurd h

-- ---- every text that leads somewhere can go on

some_run : (o : Option State) (q : State) (rest : List Shape) → onward o (λ r. run r rest) ≡ Some q → (m : State) × (o ≡ Some m) × (run m rest ≡ Some q)
some_run (Some m) q rest e = (m, refl, e)
some_run None q rest e = absurd (cc)

back_at : (p q : State) (c : Shape) (s : List Shape) → step p c ≡ Some q → Left q s → Left p (c ∷ s)
back_at (at w b) q c s e h = let P : Option State → Type 0 = λ o. LeftIf o s in back w c b s (subst P (sym e) h)

back_through : (p q : State) (cs s : List Shape) → run p cs ≡ Some q → Left q s → Left p (cs ++ s)
back_through p q [] s e h = let same : p ≡ q = cc in let P : State → Type 0 = λ r. Left r s in subst P (sym same) h
back_through p q (c ∷ cs) s e h =
    let m = some_run (step p c) q cs e in
    back_at p m.0 c (cs ++ s) m.1 (back_through m.0 q cs s m.2 h)

-- ---- what ends each

abbrev Ending : State → Type 0
Ending p = (s : List Shape) × Left p s

frames_end : (b : List Around) → (s : List Shape) × LeftFrames b s
frames_end [] = ([], refl)
frames_end (in_field ∷ b) = let e = frames_end b in (sign CloseBrace ∷ e.0, (e.0, fields_end, e.1))
frames_end (in_item ∷ b) = let e = frames_end b in (sign CloseBracket ∷ e.0, (e.0, items_end, e.1))
frames_end (in_reference ∷ b) = frames_end b
frames_end (in_pair ∷ b) = let e = frames_end b in (sign Greater ∷ e.0, (e.0, entries_end, e.1))

cells_end : (base : Bool) (n : ℕ) (b : List Around) → (s : List Shape) × LeftCells base n b s
cells_end false zero b = frames_end b
cells_end true zero b = let e = frames_end b in (sign CloseParen ∷ e.0, (e.0, no_child, e.1))
cells_end false (suc n) b = let e = cells_end false n b in (sign CloseParen ∷ e.0, (e.0, no_child, e.1))
cells_end true (suc n) b = let e = cells_end true n b in (sign CloseParen ∷ e.0, (e.0, no_child, e.1))

-- an empty body, and what comes after it
empty_body : (r : List Shape) → Body (sign OpenParen ∷ bits ∷ sign CloseParen ∷ r) r
empty_body r = a_body no_child

ending : (w : Where) (b : List Around) → (w ≡ done → b ≡ []) → Ending (at w b)
ending due b n = let e = frames_end b in (sign Tilde ∷ e.0, (e.0, an_absent, e.1))
ending item_or_end b n = let e = frames_end b in (sign CloseBracket ∷ e.0, (e.0, no_item, e.1))
ending after_item b n = let e = frames_end b in (sign CloseBracket ∷ e.0, (e.0, items_end, e.1))
ending named b n = let e = frames_end b in (sign OpenBrace ∷ sign CloseBrace ∷ e.0, (sign CloseBrace ∷ e.0, e.0, refl, no_field, e.1))
ending field_or_end b n = let e = frames_end b in (sign CloseBrace ∷ e.0, (e.0, no_field, e.1))
ending field_due b n =
    let e = frames_end b in
    (name ∷ sign Colon ∷ sign Tilde ∷ sign CloseBrace ∷ e.0, (sign CloseBrace ∷ e.0, e.0, a_field by_name an_absent, fields_end, e.1))
ending labelled b n =
    let e = frames_end b in
    (sign Colon ∷ sign Tilde ∷ sign CloseBrace ∷ e.0, (sign Tilde ∷ sign CloseBrace ∷ e.0, sign CloseBrace ∷ e.0, e.0, refl, an_absent, fields_end, e.1))
ending after_field b n = let e = frames_end b in (sign CloseBrace ∷ e.0, (e.0, fields_end, e.1))
ending entry_or_end b n = let e = frames_end b in (sign Greater ∷ e.0, (e.0, no_entry, e.1))
ending entry_due b n =
    let e = frames_end b in
    (bits ∷ hidden ∷ sign Greater ∷ e.0, (sign Greater ∷ e.0, e.0, a_hidden_part, entries_end, e.1))
ending keyed b n = let e = frames_end b in (hidden ∷ sign Greater ∷ e.0, (sign Greater ∷ e.0, e.0, a_hidden_part, entries_end, e.1))
ending after_entry b n = let e = frames_end b in (sign Greater ∷ e.0, (e.0, entries_end, e.1))
ending rest_paren b n = let e = frames_end b in (sign OpenParen ∷ bits ∷ sign CloseParen ∷ e.0, (e.0, empty_body e.0, e.1))
ending rest_bits b n = let e = frames_end b in (bits ∷ sign CloseParen ∷ e.0, (e.0, empty_body e.0, e.1))
ending after_rest b n = let e = frames_end b in (sign CloseParen ∷ e.0, (e.0, no_child, e.1))
ending rest_child b n =
    let e = frames_end b in
    (sign OpenParen ∷ bits ∷ sign CloseParen ∷ sign CloseParen ∷ e.0, (sign CloseParen ∷ e.0, e.0, an_ordinary (empty_body (sign CloseParen ∷ e.0)), no_child, e.1))
ending (paren_due base k) b n = let e = cells_end base k b in (sign OpenParen ∷ bits ∷ sign CloseParen ∷ e.0, (e.0, empty_body e.0, e.1))
ending (bits_due base k) b n = let e = cells_end base k b in (bits ∷ sign CloseParen ∷ e.0, (e.0, empty_body e.0, e.1))
ending (after_part base k) b n = let e = cells_end base k b in (sign CloseParen ∷ e.0, (e.0, no_child, e.1))
ending (child_due base k) b n =
    let e = cells_end base k b in
    (sign OpenParen ∷ bits ∷ sign CloseParen ∷ sign CloseParen ∷ e.0, (sign CloseParen ∷ e.0, e.0, an_ordinary (empty_body (sign CloseParen ∷ e.0)), no_child, e.1))
ending done b n = ([], (refl, n refl))

whole_of : (s : List Shape) → Left start s → IsWhole s
whole_of s h = let P : List Shape → Type 0 = λ r. AValue s r in subst P h.2 h.1

pub goes_on : (w : Where) (b : List Around) (prefix : List Shape) → run start prefix ≡ Some (at w b) → (w ≡ done → b ≡ []) → CanGoOn prefix
goes_on w b prefix e n =
    let f = ending w b n in
    record { more = f.0; whole = whole_of (prefix ++ f.0) (back_through start (at w b) prefix f.0 e f.1) }

pub is_whole : (prefix : List Shape) → run start prefix ≡ Some (at done []) → IsWhole prefix
is_whole prefix e =
    let P : List Shape → Type 0 = λ s. IsWhole s in
    whole_of prefix (same (back_through start (at done []) prefix [] e (refl, refl)))
  where
    same : Left start (prefix ++ []) → Left start prefix
    same h = let P : List Shape → Type 0 = λ s. Left start s in subst P (append-nil prefix) h
