-- The steps go through the tokens of a value that can be written.
use Rattle.std.proofs.Common.{◌≡◌, ℕ, suc, ◌+◌, ◌≤◌, Bool, true, false, ◌&&◌, not, nat_le, if◌then◌else◌, IsTrue, bytes_eq, codes, List, [], ◌∷◌, ◌++◌, map, length, Option, Some, None, Ok, refl, sym, ap, ◌∙◌, subst, arith, append_assoc, append-nil}
use Rattle.cell_nodes.specs.Tree.{is_exotic, tree_of}
use Rattle.cell_nodes.specs.Equations.{tree_of-out}
use Rattle.cell_nodes.specs.declared.tree.Kind.{Kind}
use Rattle.cell_nodes.specs.declared.tree.Tree.{Tree, out-Tree}
use Rattle.typed_value.specs.Values.{Plain, Plains, PlainPairs, a_pair, a_val, absent, bit_string, levels, levels_in, list_of, map_of, most_levels, most_parts, no_pairs, no_vals, number, parts, parts_in, raw, record_of, ref_to, rest, unknown}
use Rattle.typed_value.specs.View.{names_in, vals_in, vals_of}
use Rattle.value_text.specs.declared.lexeme.Sign.TheVariants.{CloseBracket, OpenBrace, OpenBracket}
use Rattle.value_text.specs.declared.lexeme.Lexeme.{Lexeme}
use Rattle.value_text.specs.declared.lexeme.Lexeme.TheVariants.{Sign as ASign, Name}
use Rattle.value_text.specs.Division.{lexeme_of, lexemes}
use Rattle.value_text.specs.Text.{cell, count_before, entries, fields, hidden_entry, items, name_of, separated, tokens}
use Rattle.value_text.specs.Text as text
use Rattle.value_text.specs.Tokens.{Token, mark, bits, name, hidden}
use Rattle.value_text.specs.Tokens as token
use Rattle.value_text.specs.Writes.{AreFields, IsRecordName, cells_in, cells_of, most_cells}
use Rattle.value_grammar.specs.Open.{Frame, Open, Spot, after_field, after_item, at, bang, body_text, due, field, field_due, field_or_end, item, item_or_end, labelled, named}
use Rattle.value_grammar.specs.Within.{begins_value, is_beyond, is_paren, limit_of}
use Rattle.value_grammar.specs.Steps.{Outcome, Stepped, and_then, begin, counted, give, held_of, no_go, run, step, the_record, unless_limit}
use Rattle.value_grammar.proofs.Texts.{cell_text}
use Rattle.value_grammar.proofs.Goes.{G, free, along, cons, due_step, head_is, join, nothing, one, to}

-- inside any values, where there is room
abbrev pub AnyValue : Plain → Type 0
AnyValue v = (below : List Frame) (m k : ℕ) → length below + levels v ≤ most_levels → m + parts v ≤ most_parts → k + cells_in v ≤ most_cells
    → G (at due below) m k (tokens v) (give v below) (m + parts v) (k + cells_in v)

abbrev pub AnyValues : Plains → Type 0
AnyValues no_vals = Unit {0}
AnyValues (a_val v vs) = AnyValue v × AnyValues vs

abbrev pub AnyPairs : PlainPairs → Type 0
AnyPairs no_pairs = Unit {0}
AnyPairs (a_pair x v ps) = AnyValue v × AnyPairs ps

-- ---- a token with which a value begins

-- a value of one token
pub leaf : (v : Plain) (t : Token) (below : List Frame) (m k : ℕ) → begins_value (lexeme_of t) ≡ true → (is_beyond (lexeme_of t) ≡ false)
    → (is_paren (lexeme_of t) ≡ false) → ((p : ℕ) → begin (lexeme_of t) p below ≡ Ok (give v below)) → length below + 1 ≤ most_levels
    → m + 1 ≤ most_parts → G (at due below) m k (t ∷ []) (give v below) (m + 1) (k + 0)
leaf v t below m k b c d f l p =
    to (at due below) m k (t ∷ []) (give v below) (give v below) (m + 1) k (m + 1) (k + 0) refl refl (omega arith)
    (one (at due below) m k t (give v below) (m + 1) k
    (λ x. due_step (lexeme_of t) x below m k false b c d (λ h. absurd (cc)) l p ∙ ap (λ (r : Outcome). counted r (m + 1) k) (f x)))

-- ---- records

-- names beside values
abbrev pub zipped : List (List ℕ) → Plains → List (List ℕ × Plain)
zipped names no_vals = []
zipped [] (a_val v vs) = []
zipped (x ∷ names) (a_val v vs) = (x, v) ∷ zipped names vs

zipped_names : (names : List (List ℕ)) (vs : Plains) → AreFields names vs → names_in (zipped names vs) ≡ names
zipped_names [] no_vals h = refl
zipped_names (x ∷ names) no_vals h = absurd h
zipped_names [] (a_val v vs) h = absurd h
zipped_names (x ∷ names) (a_val v vs) h = ap (λ (l : List (List ℕ)). x ∷ l) (zipped_names names vs h.2)

zipped_vals : (names : List (List ℕ)) (vs : Plains) → AreFields names vs → vals_in (zipped names vs) ≡ vs
zipped_vals [] no_vals h = refl
zipped_vals (x ∷ names) no_vals h = absurd h
zipped_vals [] (a_val v vs) h = absurd h
zipped_vals (x ∷ names) (a_val v vs) h = ap (λ (l : Plains). a_val v l) (zipped_vals names vs h.2)

same_record : (n : Option (List ℕ)) (names : List (List ℕ)) (vs : Plains) → AreFields names vs → the_record n (zipped names vs) ≡ record_of n names vs
same_record n names vs h = let e = zipped_names names vs h in let f = zipped_vals names vs h in (λ i. record_of n (e i) (f i))

-- a field's name, its colon and its value
field_goes : (o : Open) (n : Option (List ℕ)) (fs : List (List ℕ × Plain)) (x : List ℕ) (v : Plain) (below : List Frame) (m k : ℕ) → AnyValue v
    → ((p : ℕ) → step (held_of o m k) (p, Name x) ≡ Ok (held_of (at (labelled n fs x) below) m k))
    → length below + 1 + levels v ≤ most_levels → m + parts v ≤ most_parts → k + cells_in v ≤ most_cells
    → G o m k (name x ∷ mark 58 ∷ tokens v) (at (after_field n (fs ++ (x, v) ∷ [])) below) (m + parts v) (k + cells_in v)
field_goes o n fs x v below m k a f l p c =
    cons o m k (name x) (mark 58 ∷ tokens v) (at (after_field n (fs ++ (x, v) ∷ [])) below) (m + parts v) (k + cells_in v) (at (labelled n fs x) below) m k f
    (cons (at (labelled n fs x) below) m k (mark 58) (tokens v) (at (after_field n (fs ++ (x, v) ∷ [])) below) (m + parts v) (k + cells_in v)
    (at due (field n fs x ∷ below)) m k (λ y. refl) (a (field n fs x ∷ below) m k (omega (arith, l)) p c))

more_fields : (names : List (List ℕ)) (vs : Plains) (n : Option (List ℕ)) (fs : List (List ℕ × Plain)) (below : List Frame) (m k : ℕ) → AnyValues vs → AreFields names vs
    → length below + 1 + levels_in vs ≤ most_levels → m + parts_in vs ≤ most_parts → k + cells_of vs ≤ most_cells
    → G (at (after_field n fs) below) m k (text.more (fields names vs)) (at (after_field n (fs ++ zipped names vs)) below) (m + parts_in vs) (k + cells_of vs)
more_fields names no_vals n fs below m k a h l p c =
    to (at (after_field n fs) below) m k [] (at (after_field n fs) below) (at (after_field n (fs ++ [])) below) m k (m + 0) (k + 0)
    (ap (λ (gs : List (List ℕ × Plain)). at (after_field n gs) below) (sym (append-nil fs))) (omega arith) (omega arith)
    (nothing (at (after_field n fs) below) m k)
more_fields [] (a_val v vs) n fs below m k a h l p c = absurd h
more_fields (x ∷ names) (a_val v vs) n fs below m k a h l p c =
    let e : List Token = name x ∷ mark 58 ∷ tokens v in
    let es : List Token = text.more (fields names vs) in
    let q : Open = at (after_field n ((fs ++ (x, v) ∷ []) ++ zipped names vs)) below in
    to (at (after_field n fs) below) m k (mark 44 ∷ (e ++ es)) q (at (after_field n (fs ++ (x, v) ∷ zipped names vs)) below)
    (m + parts v + parts_in vs) (k + cells_in v + cells_of vs) (m + (parts v + parts_in vs)) (k + (cells_in v + cells_of vs))
    (ap (λ (gs : List (List ℕ × Plain)). at (after_field n gs) below) (append_assoc fs ((x, v) ∷ []) (zipped names vs))) (omega arith) (omega arith)
    (cons (at (after_field n fs) below) m k (mark 44) (e ++ es) q (m + parts v + parts_in vs) (k + cells_in v + cells_of vs) (at (field_due n fs) below) m k (λ y. refl)
    (join (at (field_due n fs) below) m k e (at (after_field n (fs ++ (x, v) ∷ [])) below) (m + parts v) (k + cells_in v) es q (m + parts v + parts_in vs) (k + cells_in v + cells_of vs)
    (field_goes (at (field_due n fs) below) n fs x v below m k a.0 (λ y. refl) (omega (arith, l)) (omega (arith, p)) (omega (arith, c)))
    (more_fields names vs n (fs ++ (x, v) ∷ []) below (m + parts v) (k + cells_in v) a.1 h.2 (omega (arith, l)) (omega (arith, p)) (omega (arith, c)))))

-- after these fields, which may be none
abbrev pub after_fields : Option (List ℕ) → List (List ℕ × Plain) → Spot
after_fields n [] = field_or_end n
after_fields n (f ∷ fs) = after_field n (f ∷ fs)

pub fields_go : (names : List (List ℕ)) (vs : Plains) (n : Option (List ℕ)) (below : List Frame) (m k : ℕ) → AnyValues vs → AreFields names vs
    → length below + 1 + levels_in vs ≤ most_levels → m + parts_in vs ≤ most_parts → k + cells_of vs ≤ most_cells
    → G (at (field_or_end n) below) m k (separated (fields names vs)) (at (after_fields n (zipped names vs)) below) (m + parts_in vs) (k + cells_of vs)
fields_go names no_vals n below m k a h l p c =
    to (at (field_or_end n) below) m k [] (at (field_or_end n) below) (at (field_or_end n) below) m k (m + 0) (k + 0) refl (omega arith) (omega arith)
    (nothing (at (field_or_end n) below) m k)
fields_go [] (a_val v vs) n below m k a h l p c = absurd h
fields_go (x ∷ names) (a_val v vs) n below m k a h l p c =
    let e : List Token = name x ∷ mark 58 ∷ tokens v in
    let es : List Token = text.more (fields names vs) in
    let q : Open = at (after_field n ((x, v) ∷ zipped names vs)) below in
    to (at (field_or_end n) below) m k (e ++ es) q q (m + parts v + parts_in vs) (k + cells_in v + cells_of vs) (m + (parts v + parts_in vs)) (k + (cells_in v + cells_of vs))
    refl (omega arith) (omega arith)
    (join (at (field_or_end n) below) m k e (at (after_field n ((x, v) ∷ [])) below) (m + parts v) (k + cells_in v) es q (m + parts v + parts_in vs) (k + cells_in v + cells_of vs)
    (field_goes (at (field_or_end n) below) n [] x v below m k a.0 (λ y. refl) (omega (arith, l)) (omega (arith, p)) (omega (arith, c)))
    (more_fields names vs n ((x, v) ∷ []) below (m + parts v) (k + cells_in v) a.1 h.2 (omega (arith, l)) (omega (arith, p)) (omega (arith, c))))

record_ends : (n : Option (List ℕ)) (fs : List (List ℕ × Plain)) (below : List Frame) (m k : ℕ)
    → G (at (after_fields n fs) below) m k (mark 125 ∷ []) (give (the_record n fs) below) m k
record_ends n [] below m k = one (at (field_or_end n) below) m k (mark 125) (give (the_record n []) below) m k (λ x. refl)
record_ends n (f ∷ fs) below m k = one (at (after_field n (f ∷ fs)) below) m k (mark 125) (give (the_record n (f ∷ fs)) below) m k (λ x. refl)

brace_goes : (names : List (List ℕ)) (vs : Plains) (n : Option (List ℕ)) (below : List Frame) (m k : ℕ) → AnyValues vs → AreFields names vs
    → length below + 1 + levels_in vs ≤ most_levels → m + parts_in vs ≤ most_parts → k + cells_of vs ≤ most_cells
    → G (at (field_or_end n) below) m k (separated (fields names vs) ++ mark 125 ∷ []) (give (record_of n names vs) below) (m + parts_in vs) (k + cells_of vs)
brace_goes names vs n below m k a h l p c =
    let i : ℕ = m + parts_in vs in
    let j : ℕ = k + cells_of vs in
    to (at (field_or_end n) below) m k (separated (fields names vs) ++ mark 125 ∷ []) (give (the_record n (zipped names vs)) below) (give (record_of n names vs) below)
    i j i j (ap (λ (v : Plain). give v below) (same_record n names vs h)) refl refl
    (join (at (field_or_end n) below) m k (separated (fields names vs)) (at (after_fields n (zipped names vs)) below) i j (mark 125 ∷ []) (give (the_record n (zipped names vs)) below) i j
    (fields_go names vs n below m k a h l p c) (record_ends n (zipped names vs) below i j))

not_x : (b : Bool) → IsTrue (not b) → b ≡ false
not_x true h = absurd (cc)
not_x false h = refl

pub name_opens : (x : List ℕ) (below : List Frame) (m k : ℕ) → IsRecordName (Some x) → length below + 1 ≤ most_levels → m + 1 ≤ most_parts
    → G (at due below) m k (name x ∷ []) (at (named x) below) (m + 1) k
name_opens x below m k r l p =
    let no : bytes_eq x (codes "x") ≡ false = not_x (bytes_eq x (codes "x")) r.1 in
    one (at due below) m k (name x) (at (named x) below) (m + 1) k
    (λ y. due_step (Name x) y below m k false (ap not no) refl refl (λ e. absurd (cc)) l p
    ∙ ap (λ (b : Bool). counted (if b then no_go y else Ok (at (named x) below)) (m + 1) k) no)

pub record_opens : (n : Option (List ℕ)) (below : List Frame) (m k : ℕ) → IsRecordName n → length below + 1 ≤ most_levels → m + 1 ≤ most_parts
    → G (at due below) m k (name_of n ++ mark 123 ∷ []) (at (field_or_end n) below) (m + 1) k
record_opens None below m k r l p =
    one (at due below) m k (mark 123) (at (field_or_end None) below) (m + 1) k (λ x. due_step (ASign OpenBrace) x below m k false refl refl refl (λ e. absurd (cc)) l p)
record_opens (Some x) below m k r l p =
    join (at due below) m k (name x ∷ []) (at (named x) below) (m + 1) k (mark 123 ∷ []) (at (field_or_end (Some x)) below) (m + 1) k (name_opens x below m k r l p)
    (one (at (named x) below) (m + 1) k (mark 123) (at (field_or_end (Some x)) below) (m + 1) k (λ y. refl))

record_text : (n : Option (List ℕ)) (ts : List Token) → (name_of n ++ mark 123 ∷ []) ++ (ts ++ mark 125 ∷ []) ≡ name_of n ++ mark 123 ∷ ts ++ mark 125 ∷ []
record_text None ts = refl
record_text (Some x) ts = refl

pub record_goes : (n : Option (List ℕ)) (names : List (List ℕ)) (vs : Plains) → IsRecordName n → AreFields names vs → AnyValues vs → AnyValue (record_of n names vs)
record_goes n names vs r h a below m k l p c =
    let ts : List Token = separated (fields names vs) in
    let q : Open = give (record_of n names vs) below in
    to (at due below) m k (tokens (record_of n names vs)) q q (m + 1 + parts_in vs) (k + cells_of vs) (m + (1 + parts_in vs)) (k + cells_of vs) refl (omega arith) refl
    (along (at due below) m k ((name_of n ++ mark 123 ∷ []) ++ (ts ++ mark 125 ∷ [])) (tokens (record_of n names vs)) q (m + 1 + parts_in vs) (k + cells_of vs) (record_text n ts)
    (join (at due below) m k (name_of n ++ mark 123 ∷ []) (at (field_or_end n) below) (m + 1) k (ts ++ mark 125 ∷ []) q (m + 1 + parts_in vs) (k + cells_of vs)
    (record_opens n below m k r (omega (arith, l)) (omega (arith, p)))
    (brace_goes names vs n below (m + 1) k a h (omega (arith, l)) (omega (arith, p)) (omega (arith, c)))))

-- ---- lists

abbrev pub listed : Plains → List Plain
listed no_vals = []
listed (a_val v vs) = v ∷ listed vs

listed_vals : (vs : Plains) → vals_of (listed vs) ≡ vs
listed_vals no_vals = refl
listed_vals (a_val v vs) = ap (λ (l : Plains). a_val v l) (listed_vals vs)

more_items : (vs : Plains) (is : List Plain) (below : List Frame) (m k : ℕ) → AnyValues vs → length below + 1 + levels_in vs ≤ most_levels → m + parts_in vs ≤ most_parts
    → k + cells_of vs ≤ most_cells
    → G (at (after_item is) below) m k (text.more (items vs)) (at (after_item (is ++ listed vs)) below) (m + parts_in vs) (k + cells_of vs)
more_items no_vals is below m k a l p c =
    to (at (after_item is) below) m k [] (at (after_item is) below) (at (after_item (is ++ [])) below) m k (m + 0) (k + 0)
    (ap (λ (js : List Plain). at (after_item js) below) (sym (append-nil is))) (omega arith) (omega arith)
    (nothing (at (after_item is) below) m k)
more_items (a_val v vs) is below m k a l p c =
    let e : List Token = tokens v in
    let es : List Token = text.more (items vs) in
    let q : Open = at (after_item ((is ++ v ∷ []) ++ listed vs)) below in
    to (at (after_item is) below) m k (mark 44 ∷ (e ++ es)) q (at (after_item (is ++ v ∷ listed vs)) below)
    (m + parts v + parts_in vs) (k + cells_in v + cells_of vs) (m + (parts v + parts_in vs)) (k + (cells_in v + cells_of vs))
    (ap (λ (js : List Plain). at (after_item js) below) (append_assoc is (v ∷ []) (listed vs))) (omega arith) (omega arith)
    (cons (at (after_item is) below) m k (mark 44) (e ++ es) q (m + parts v + parts_in vs) (k + cells_in v + cells_of vs) (at due (item is ∷ below)) m k (λ y. refl)
    (join (at due (item is ∷ below)) m k e (at (after_item (is ++ v ∷ [])) below) (m + parts v) (k + cells_in v) es q (m + parts v + parts_in vs) (k + cells_in v + cells_of vs)
    (a.0 (item is ∷ below) m k (omega (arith, l)) (omega (arith, p)) (omega (arith, c)))
    (more_items vs (is ++ v ∷ []) below (m + parts v) (k + cells_in v) a.1 (omega (arith, l)) (omega (arith, p)) (omega (arith, c)))))

-- after a `[` a value begins as it does where one is due
pub begins_so : (t : Token) (ts : List Token) (below : List Frame) (m k : ℕ) (q : Open) (i j : ℕ)
    → ((p : ℕ) → step (held_of (at item_or_end below) m k) (p, lexeme_of t) ≡ step (held_of (at due (item [] ∷ below)) m k) (p, lexeme_of t))
    → G (at due (item [] ∷ below)) m k (t ∷ ts) q i j → G (at item_or_end below) m k (t ∷ ts) q i j
begins_so t ts below m k q i j f g [] after e = absurd (cc)
begins_so t ts below m k q i j f g (l ∷ ls) after e =
    let same = head_is l.1 (lexeme_of t) (lexemes ls) (map lexeme_of ts) e in
    let further : Stepped → Stepped = λ r. and_then r (λ next. run next (ls ++ after)) in
    ap (λ (x : Lexeme). further (step (held_of (at item_or_end below) m k) (l.0, x))) same
    ∙ ap further (f l.0)
    ∙ ap (λ (x : Lexeme). further (step (held_of (at due (item [] ∷ below)) m k) (l.0, x))) (sym same)
    ∙ g (l ∷ ls) after e

cell_first : (exotic : Bool) (bs : List ℕ) (cs : List Tree) (below : List Frame) (m k : ℕ) (q : Open) (i j : ℕ)
    → G (at due (item [] ∷ below)) m k ((bang exotic ++ body_text bs cs) ++ mark 41 ∷ []) q i j → G (at item_or_end below) m k ((bang exotic ++ body_text bs cs) ++ mark 41 ∷ []) q i j
cell_first true bs cs below m k q i j g = begins_so (mark 33) (body_text bs cs ++ mark 41 ∷ []) below m k q i j (λ p. refl) g
cell_first false bs cs below m k q i j g = begins_so (mark 40) (bits bs ∷ text.more (map cell cs) ++ mark 41 ∷ []) below m k q i j (λ p. refl) g

tree_first : (kind : Kind) (bs : List ℕ) (cs : List Tree) (below : List Frame) (m k : ℕ) (q : Open) (i j : ℕ)
    → G (at due (item [] ∷ below)) m k (cell (tree_of kind bs cs)) q i j → G (at item_or_end below) m k (cell (tree_of kind bs cs)) q i j
tree_first kind bs cs below m k q i j g =
    let e = cell_text (is_exotic kind) kind bs cs refl in
    along (at item_or_end below) m k ((bang (is_exotic kind) ++ body_text bs cs) ++ mark 41 ∷ []) (cell (tree_of kind bs cs)) q i j (sym e)
    (cell_first (is_exotic kind) bs cs below m k q i j (along (at due (item [] ∷ below)) m k (cell (tree_of kind bs cs)) ((bang (is_exotic kind) ++ body_text bs cs) ++ mark 41 ∷ []) q i j e g))

value_first : (v : Plain) (below : List Frame) (m k : ℕ) (q : Open) (i j : ℕ) → G (at due (item [] ∷ below)) m k (tokens v) q i j → G (at item_or_end below) m k (tokens v) q i j
value_first (number negative size) below m k q i j g = begins_so (token.number negative size) [] below m k q i j (λ p. refl) g
value_first (bit_string bs) below m k q i j g = begins_so (bits bs) [] below m k q i j (λ p. refl) g
value_first (record_of None names vs) below m k q i j g = begins_so (mark 123) (separated (fields names vs) ++ mark 125 ∷ []) below m k q i j (λ p. refl) g
value_first (record_of (Some x) names vs) below m k q i j g = begins_so (name x) (mark 123 ∷ (separated (fields names vs) ++ mark 125 ∷ [])) below m k q i j (λ p. refl) g
value_first absent below m k q i j g = begins_so (mark 126) [] below m k q i j (λ p. refl) g
value_first (list_of vs) below m k q i j g = begins_so (mark 91) (separated (items vs) ++ mark 93 ∷ []) below m k q i j (λ p. refl) g
value_first (ref_to a v) below m k q i j g = begins_so (mark 94) (tokens v) below m k q i j (λ p. refl) g
value_first (unknown h) below m k q i j g = begins_so (hidden h) [] below m k q i j (λ p. refl) g
value_first (map_of a ps us) below m k q i j g = begins_so (mark 60) (separated (entries ps us) ++ mark 62 ∷ []) below m k q i j (λ p. refl) g
value_first (raw c) below m k q i j g =
    let e = tree_of-out c in
    let P : Tree → Type 0 = λ t. G (at item_or_end below) m k (cell t) q i j in
    let Q : Tree → Type 0 = λ t. G (at due (item [] ∷ below)) m k (cell t) q i j in
    subst P e (tree_first (out-Tree c).kind (out-Tree c).bits (out-Tree c).children below m k q i j (subst Q (sym e) g))
value_first (rest s) below m k q i j g = begins_so (mark 37) (text.body s.bits (map cell s.refs)) below m k q i j (λ p. refl) g

and_false : (a : Bool) → (a && false) ≡ false
and_false true = refl
and_false false = refl

-- an empty list
end_step : (below : List Frame) (m k x : ℕ) → step (held_of (at item_or_end below) m k) (x, ASign CloseBracket) ≡ Ok (held_of (give (list_of no_vals) below) m k)
end_step below m k x =
    let lim : limit_of m k item_or_end below (ASign CloseBracket) ≡ None =
    free m k item_or_end below (ASign CloseBracket) (and_false (nat_le most_levels (suc (length below)))) refl refl refl in
    (λ i. counted (unless_limit (lim i) x (Ok (give (list_of no_vals) below))) m k)

-- after these items, which may be none
abbrev pub after_items : List Plain → Spot
after_items [] = item_or_end
after_items (v ∷ vs) = after_item (v ∷ vs)

pub items_go : (vs : Plains) (below : List Frame) (m k : ℕ) → AnyValues vs → length below + 1 + levels_in vs ≤ most_levels → m + parts_in vs ≤ most_parts → k + cells_of vs ≤ most_cells
    → G (at item_or_end below) m k (separated (items vs)) (at (after_items (listed vs)) below) (m + parts_in vs) (k + cells_of vs)
items_go no_vals below m k a l p c =
    to (at item_or_end below) m k [] (at item_or_end below) (at item_or_end below) m k (m + 0) (k + 0) refl (omega arith) (omega arith) (nothing (at item_or_end below) m k)
items_go (a_val v vs) below m k a l p c =
    let e : List Token = tokens v in
    let es : List Token = text.more (items vs) in
    let q : Open = at (after_item (v ∷ listed vs)) below in
    to (at item_or_end below) m k (e ++ es) q q (m + parts v + parts_in vs) (k + cells_in v + cells_of vs) (m + (parts v + parts_in vs)) (k + (cells_in v + cells_of vs))
    refl (omega arith) (omega arith)
    (join (at item_or_end below) m k e (at (after_item (v ∷ [])) below) (m + parts v) (k + cells_in v) es q (m + parts v + parts_in vs) (k + cells_in v + cells_of vs)
    (value_first v below m k (at (after_item (v ∷ [])) below) (m + parts v) (k + cells_in v) (a.0 (item [] ∷ below) m k (omega (arith, l)) (omega (arith, p)) (omega (arith, c))))
    (more_items vs (v ∷ []) below (m + parts v) (k + cells_in v) a.1 (omega (arith, l)) (omega (arith, p)) (omega (arith, c))))

list_ends : (vs : List Plain) (below : List Frame) (m k : ℕ) → G (at (after_items vs) below) m k (mark 93 ∷ []) (give (list_of (vals_of vs)) below) m k
list_ends [] below m k = one (at item_or_end below) m k (mark 93) (give (list_of no_vals) below) m k (end_step below m k)
list_ends (v ∷ vs) below m k = one (at (after_item (v ∷ vs)) below) m k (mark 93) (give (list_of (vals_of (v ∷ vs))) below) m k (λ x. refl)

pub list_goes : (vs : Plains) → AnyValues vs → AnyValue (list_of vs)
list_goes vs a below m k l p c =
    let i : ℕ = m + 1 + parts_in vs in
    let j : ℕ = k + cells_of vs in
    let q : Open = give (list_of (vals_of (listed vs))) below in
    to (at due below) m k (tokens (list_of vs)) q (give (list_of vs) below) i j (m + (1 + parts_in vs)) j
    (ap (λ (us : Plains). give (list_of us) below) (listed_vals vs)) (omega arith) refl
    (cons (at due below) m k (mark 91) (separated (items vs) ++ mark 93 ∷ []) q i j (at item_or_end below) (m + 1) k
    (λ x. due_step (ASign OpenBracket) x below m k false refl refl refl (λ e. absurd (cc)) (omega (arith, l)) (omega (arith, p)))
    (join (at item_or_end below) (m + 1) k (separated (items vs)) (at (after_items (listed vs)) below) i j (mark 93 ∷ []) q i j
    (items_go vs below (m + 1) k a (omega (arith, l)) (omega (arith, p)) (omega (arith, c)))
    (list_ends (listed vs) below i j)))
