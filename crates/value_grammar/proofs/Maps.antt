-- The steps go through the tokens of a map, and of every value that can be written.
use Rattle.std.proofs.Common.{◌≡◌, ℕ, ◌+◌, ◌≤◌, Bool, true, false, ◌&&◌, not, IsTrue, List, [], ◌∷◌, ◌++◌, map, take, drop, length, Some, None, Ok, refl, sym, ap, ◌∙◌, subst, arith, append_assoc, append-nil}
use Rattle.cell_nodes.specs.Good.{AllGood, IsGood, more, none}
use Rattle.cell_nodes.specs.Tree.{total, unfolded}
use Rattle.cell_nodes.specs.declared.tree.Hidden.{Hidden}
use Rattle.cell_nodes.specs.declared.tree.Tree.{Tree}
use Rattle.typed_value.specs.Values.{Plain, Plains, PlainPairs, Slice, a_pair, a_val, absent, bit_string, levels, levels_by, list_of, map_of, most_levels, most_parts, no_pairs, no_vals, number, parts, parts_by, raw, record_of, ref_to, rest, unknown}
use Rattle.typed_value.specs.View.{pairs_of}
use Rattle.value_text.specs.declared.lexeme.Sign.TheVariants.{OpenParen, Less, Caret, Bang, Percent}
use Rattle.value_text.specs.declared.lexeme.Lexeme.TheVariants.{Sign as ASign, Bits}
use Rattle.value_text.specs.Text.{cell, count_before, entries, fields, hidden_entry, items, name_of, separated, tokens}
use Rattle.value_text.specs.Text as text
use Rattle.value_text.specs.Tokens.{Token, mark, bits, name, hidden}
use Rattle.value_text.specs.Tokens as token
use Rattle.value_text.specs.Writes.{AreEntries, AreFields, AreFormed, IsFormed, cells_by, cells_in, comes_after, in_order, keys_of, most_cells}
use Rattle.value_grammar.specs.Open.{Frame, Open, Spot, after_entry, after_rest, at, body_text, due, entry_due, entry_or_end, keyed, pair, reference, rest_bits, rest_child, rest_paren}
use Rattle.value_grammar.specs.Within.{limit_of}
use Rattle.value_grammar.specs.Steps.{counted, give, held_of, rest_of, step, the_map, unless_limit}
use Rattle.value_grammar.proofs.Goes.{G, free, along, cons, due_step, join, nothing, one, to}
use Rattle.value_grammar.proofs.Values.{AnyPairs, AnyValue, AnyValues, leaf, list_goes, record_goes}
use Rattle.std.proofs.lemmas.List.{take-append-drop}
use Rattle.value_grammar.proofs.Heights.{shallow_levels}
use Rattle.value_grammar.proofs.GoesCells.{Begins, cell_goes, rest_begins}

-- ---- the entries of a map, as they are written

pub data Entry : Type 0 where
  pr : List ℕ → Plain → Entry
  hid : List ℕ × Hidden → Entry

abbrev pub entry_key : Entry → List ℕ
entry_key (pr x v) = x
entry_key (hid u) = u.0

abbrev pub entry_text : Entry → List Token
entry_text (pr x v) = bits x ∷ mark 58 ∷ tokens v
entry_text (hid u) = hidden_entry u

abbrev pub pairs_in : List Entry → List (List ℕ × Plain)
pairs_in [] = []
pairs_in (pr x v ∷ es) = (x, v) ∷ pairs_in es
pairs_in (hid u ∷ es) = pairs_in es

abbrev pub hids_in : List Entry → List (List ℕ × Hidden)
hids_in [] = []
hids_in (pr x v ∷ es) = hids_in es
hids_in (hid u ∷ es) = u ∷ hids_in es

abbrev pub entry_parts : List Entry → ℕ
entry_parts [] = 0
entry_parts (pr x v ∷ es) = parts v + entry_parts es
entry_parts (hid u ∷ es) = entry_parts es

abbrev pub entry_cells : List Entry → ℕ
entry_cells [] = 0
entry_cells (pr x v ∷ es) = cells_in v + entry_cells es
entry_cells (hid u ∷ es) = entry_cells es

-- each value has its steps, and so many levels at most
abbrev pub AllGo : ℕ → List Entry → Type 0
AllGo n [] = Unit {0}
AllGo n (pr x v ∷ es) = AnyValue v × (levels v ≤ n) × AllGo n es
AllGo n (hid u ∷ es) = AllGo n es

abbrev pub merged : PlainPairs → List (List ℕ × Hidden) → List Entry
merged no_pairs us = map hid us
merged (a_pair x v ps) us = map hid (take (count_before x us) us) ++ pr x v ∷ merged ps (drop (count_before x us) us)

abbrev pub paired : PlainPairs → List (List ℕ × Plain)
paired no_pairs = []
paired (a_pair x v ps) = (x, v) ∷ paired ps

pub paired_pairs : (ps : PlainPairs) → pairs_of (paired ps) ≡ ps
paired_pairs no_pairs = refl
paired_pairs (a_pair x v ps) = ap (λ (l : PlainPairs). a_pair x v l) (paired_pairs ps)

hid_texts : (us : List (List ℕ × Hidden)) (es : List Entry) → map entry_text (map hid us ++ es) ≡ map hidden_entry us ++ map entry_text es
hid_texts [] es = refl
hid_texts (u ∷ us) es = ap (λ (l : List (List Token)). hidden_entry u ∷ l) (hid_texts us es)

hid_keys : (us : List (List ℕ × Hidden)) (es : List Entry) → map entry_key (map hid us ++ es) ≡ map (λ u. u.0) us ++ map entry_key es
hid_keys [] es = refl
hid_keys (u ∷ us) es = ap (λ (l : List (List ℕ)). u.0 ∷ l) (hid_keys us es)

hid_pairs : (us : List (List ℕ × Hidden)) (es : List Entry) → pairs_in (map hid us ++ es) ≡ pairs_in es
hid_pairs [] es = refl
hid_pairs (u ∷ us) es = hid_pairs us es

hid_hids : (us : List (List ℕ × Hidden)) (es : List Entry) → hids_in (map hid us ++ es) ≡ us ++ hids_in es
hid_hids [] es = refl
hid_hids (u ∷ us) es = ap (λ (l : List (List ℕ × Hidden)). u ∷ l) (hid_hids us es)

hid_parts : (us : List (List ℕ × Hidden)) (es : List Entry) → entry_parts (map hid us ++ es) ≡ entry_parts es
hid_parts [] es = refl
hid_parts (u ∷ us) es = hid_parts us es

hid_cells : (us : List (List ℕ × Hidden)) (es : List Entry) → entry_cells (map hid us ++ es) ≡ entry_cells es
hid_cells [] es = refl
hid_cells (u ∷ us) es = hid_cells us es

hid_go : (n : ℕ) (us : List (List ℕ × Hidden)) (es : List Entry) → AllGo n es → AllGo n (map hid us ++ es)
hid_go n [] es h = h
hid_go n (u ∷ us) es h = hid_go n us es h

pub merged_texts : (ps : PlainPairs) (us : List (List ℕ × Hidden)) → map entry_text (merged ps us) ≡ entries ps us
merged_texts no_pairs us = ap (map entry_text) (sym (append-nil (map hid us))) ∙ hid_texts us [] ∙ append-nil (map hidden_entry us)
merged_texts (a_pair x v ps) us =
    hid_texts (take (count_before x us) us) (pr x v ∷ merged ps (drop (count_before x us) us))
    ∙ ap (λ (l : List (List Token)). map hidden_entry (take (count_before x us) us) ++ (bits x ∷ mark 58 ∷ tokens v) ∷ l) (merged_texts ps (drop (count_before x us) us))

pub merged_keys : (ps : PlainPairs) (us : List (List ℕ × Hidden)) → map entry_key (merged ps us) ≡ keys_of ps us
merged_keys no_pairs us = ap (map entry_key) (sym (append-nil (map hid us))) ∙ hid_keys us [] ∙ append-nil (map (λ u. u.0) us)
merged_keys (a_pair x v ps) us =
    hid_keys (take (count_before x us) us) (pr x v ∷ merged ps (drop (count_before x us) us))
    ∙ ap (λ (l : List (List ℕ)). map (λ u. u.0) (take (count_before x us) us) ++ x ∷ l) (merged_keys ps (drop (count_before x us) us))

pub merged_pairs : (ps : PlainPairs) (us : List (List ℕ × Hidden)) → pairs_in (merged ps us) ≡ paired ps
merged_pairs no_pairs us = ap pairs_in (sym (append-nil (map hid us))) ∙ hid_pairs us []
merged_pairs (a_pair x v ps) us =
    hid_pairs (take (count_before x us) us) (pr x v ∷ merged ps (drop (count_before x us) us))
    ∙ ap (λ (l : List (List ℕ × Plain)). (x, v) ∷ l) (merged_pairs ps (drop (count_before x us) us))

pub merged_hids : (ps : PlainPairs) (us : List (List ℕ × Hidden)) → hids_in (merged ps us) ≡ us
merged_hids no_pairs us = ap hids_in (sym (append-nil (map hid us))) ∙ hid_hids us [] ∙ append-nil us
merged_hids (a_pair x v ps) us =
    hid_hids (take (count_before x us) us) (pr x v ∷ merged ps (drop (count_before x us) us))
    ∙ ap (λ (l : List (List ℕ × Hidden)). take (count_before x us) us ++ l) (merged_hids ps (drop (count_before x us) us))
    ∙ take-append-drop (count_before x us) us

pub merged_parts : (ps : PlainPairs) (us : List (List ℕ × Hidden)) → entry_parts (merged ps us) ≡ parts_by ps
merged_parts no_pairs us = ap entry_parts (sym (append-nil (map hid us))) ∙ hid_parts us []
merged_parts (a_pair x v ps) us =
    hid_parts (take (count_before x us) us) (pr x v ∷ merged ps (drop (count_before x us) us))
    ∙ ap (λ (n : ℕ). parts v + n) (merged_parts ps (drop (count_before x us) us))

pub merged_cells : (ps : PlainPairs) (us : List (List ℕ × Hidden)) → entry_cells (merged ps us) ≡ cells_by ps
merged_cells no_pairs us = ap entry_cells (sym (append-nil (map hid us))) ∙ hid_cells us []
merged_cells (a_pair x v ps) us =
    hid_cells (take (count_before x us) us) (pr x v ∷ merged ps (drop (count_before x us) us))
    ∙ ap (λ (n : ℕ). cells_in v + n) (merged_cells ps (drop (count_before x us) us))

none_go : (n : ℕ) (us : List (List ℕ × Hidden)) → AllGo n (map hid us)
none_go n [] = tt
none_go n (u ∷ us) = none_go n us

pub merged_go : (n : ℕ) (ps : PlainPairs) (us : List (List ℕ × Hidden)) → AnyPairs ps → levels_by ps ≤ n → AllGo n (merged ps us)
merged_go n no_pairs us a h = none_go n us
merged_go n (a_pair x v ps) us a h =
    hid_go n (take (count_before x us) us) (pr x v ∷ merged ps (drop (count_before x us) us))
    (a.0, omega (arith, h), merged_go n ps (drop (count_before x us) us) a.1 (omega (arith, h)))

-- ---- the steps through entries

pub and_first : (a b : Bool) → IsTrue (a && b) → a ≡ true
and_first true b h = refl
and_first false b h = absurd (cc)

pub and_second : (a b : Bool) → IsTrue (a && b) → IsTrue b
and_second true b h = h
and_second false b h = absurd (cc)

-- a key in order
pub key_step : (ps : List (List ℕ × Plain)) (us : List (List ℕ × Hidden)) (last x : List ℕ) (below : List Frame) (m k : ℕ) → comes_after last x ≡ true → (p : ℕ)
    → step (held_of (at (entry_due ps us last) below) m k) (p, Bits x) ≡ Ok (held_of (at (keyed ps us x) below) m k)
key_step ps us last x below m k e p =
    let lim : limit_of m k (entry_due ps us last) below (Bits x) ≡ None = free m k (entry_due ps us last) below (Bits x) refl refl refl (ap not e) in
    (λ i. counted (unless_limit (lim i) p (Ok (at (keyed ps us x) below))) m k)

-- what a map has after one more entry
abbrev next_pairs : List (List ℕ × Plain) → Entry → List (List ℕ × Plain)
next_pairs ps (pr x v) = ps ++ (x, v) ∷ []
next_pairs ps (hid u) = ps

abbrev next_hids : List (List ℕ × Hidden) → Entry → List (List ℕ × Hidden)
next_hids us (pr x v) = us
next_hids us (hid u) = us ++ (u.0, u.1) ∷ []

abbrev one_parts : Entry → ℕ
one_parts (pr x v) = parts v
one_parts (hid u) = 0

abbrev one_cells : Entry → ℕ
one_cells (pr x v) = cells_in v
one_cells (hid u) = 0

abbrev OneGoes : ℕ → Entry → Type 0
OneGoes n (pr x v) = AnyValue v × (levels v ≤ n)
OneGoes n (hid u) = Unit {0}

entry_goes : (o : Open) (ps : List (List ℕ × Plain)) (us : List (List ℕ × Hidden)) (e : Entry) (below : List Frame) (m k n : ℕ) → OneGoes n e
    → ((p : ℕ) → step (held_of o m k) (p, Bits (entry_key e)) ≡ Ok (held_of (at (keyed ps us (entry_key e)) below) m k))
    → length below + 1 + n ≤ most_levels → m + one_parts e ≤ most_parts → k + one_cells e ≤ most_cells
    → G o m k (entry_text e) (at (after_entry (next_pairs ps e) (next_hids us e) (entry_key e)) below) (m + one_parts e) (k + one_cells e)
entry_goes o ps us (pr x v) below m k n a f l p c =
    let s = a.1 in
    cons o m k (bits x) (mark 58 ∷ tokens v) (at (after_entry (ps ++ (x, v) ∷ []) us x) below) (m + parts v) (k + cells_in v) (at (keyed ps us x) below) m k f
    (cons (at (keyed ps us x) below) m k (mark 58) (tokens v) (at (after_entry (ps ++ (x, v) ∷ []) us x) below) (m + parts v) (k + cells_in v) (at due (pair ps us x ∷ below)) m k
    (λ y. refl) (a.0 (pair ps us x ∷ below) m k (omega (arith, l, s)) p c))
entry_goes o ps us (hid u) below m k n a f l p c =
    to o m k (bits u.0 ∷ hidden u.1 ∷ []) (at (after_entry ps (us ++ (u.0, u.1) ∷ []) u.0) below) (at (after_entry ps (us ++ (u.0, u.1) ∷ []) u.0) below) m k (m + 0) (k + 0) refl (omega arith) (omega arith)
    (cons o m k (bits u.0) (hidden u.1 ∷ []) (at (after_entry ps (us ++ (u.0, u.1) ∷ []) u.0) below) m k (at (keyed ps us u.0) below) m k f
    (one (at (keyed ps us u.0) below) m k (hidden u.1) (at (after_entry ps (us ++ (u.0, u.1) ∷ []) u.0) below) m k (λ y. refl)))

first_go : (n : ℕ) (e : Entry) (es : List Entry) → AllGo n (e ∷ es) → OneGoes n e × AllGo n es
first_go n (pr x v) es h = ((h.0, h.1), h.2)
first_go n (hid u) es h = (tt, h)

first_parts : (e : Entry) (es : List Entry) → entry_parts (e ∷ es) ≡ one_parts e + entry_parts es
first_parts (pr x v) es = refl
first_parts (hid u) es = omega arith

first_cells : (e : Entry) (es : List Entry) → entry_cells (e ∷ es) ≡ one_cells e + entry_cells es
first_cells (pr x v) es = refl
first_cells (hid u) es = omega arith

first_pairs : (ps : List (List ℕ × Plain)) (e : Entry) (es : List Entry) → next_pairs ps e ++ pairs_in es ≡ ps ++ pairs_in (e ∷ es)
first_pairs ps (pr x v) es = append_assoc ps ((x, v) ∷ []) (pairs_in es)
first_pairs ps (hid u) es = refl

first_hids : (us : List (List ℕ × Hidden)) (e : Entry) (es : List Entry) → next_hids us e ++ hids_in es ≡ us ++ hids_in (e ∷ es)
first_hids us (pr x v) es = refl
first_hids us (hid u) es = append_assoc us (u ∷ []) (hids_in es)

-- the last key, where there are more entries after the one of that key
abbrev pub last_key : List ℕ → List Entry → List ℕ
last_key last [] = last
last_key last (e ∷ es) = last_key (entry_key e) es

more_entries : (es : List Entry) (ps : List (List ℕ × Plain)) (us : List (List ℕ × Hidden)) (last : List ℕ) (below : List Frame) (m k n : ℕ) → AllGo n es
    → IsTrue (in_order (last ∷ map entry_key es)) → length below + 1 + n ≤ most_levels → m + entry_parts es ≤ most_parts → k + entry_cells es ≤ most_cells
    → G (at (after_entry ps us last) below) m k (text.more (map entry_text es)) (at (after_entry (ps ++ pairs_in es) (us ++ hids_in es) (last_key last es)) below) (m + entry_parts es)
    (k + entry_cells es)
more_entries [] ps us last below m k n a o l p c =
    to (at (after_entry ps us last) below) m k [] (at (after_entry ps us last) below) (at (after_entry (ps ++ []) (us ++ []) last) below) m k (m + 0) (k + 0)
    (λ i. at (after_entry (sym (append-nil ps) i) (sym (append-nil us) i) last) below) (omega arith) (omega arith)
    (nothing (at (after_entry ps us last) below) m k)
more_entries (e ∷ es) ps us last below m k n a o l p c =
    let t : List Token = entry_text e in
    let ts : List Token = text.more (map entry_text es) in
    let g = first_go n e es a in
    let fp = first_parts e es in
    let fc = first_cells e es in
    let after = and_first (comes_after last (entry_key e)) (in_order (entry_key e ∷ map entry_key es)) o in
    let ordered = and_second (comes_after last (entry_key e)) (in_order (entry_key e ∷ map entry_key es)) o in
    let q : Open = at (after_entry (next_pairs ps e ++ pairs_in es) (next_hids us e ++ hids_in es) (last_key (entry_key e) es)) below in
    let i : ℕ = m + one_parts e + entry_parts es in
    let j : ℕ = k + one_cells e + entry_cells es in
    to (at (after_entry ps us last) below) m k (mark 44 ∷ (t ++ ts)) q (at (after_entry (ps ++ pairs_in (e ∷ es)) (us ++ hids_in (e ∷ es)) (last_key (entry_key e) es)) below) i j
    (m + entry_parts (e ∷ es)) (k + entry_cells (e ∷ es)) (λ x. at (after_entry (first_pairs ps e es x) (first_hids us e es x) (last_key (entry_key e) es)) below) (omega (arith, fp)) (omega (arith, fc))
    (cons (at (after_entry ps us last) below) m k (mark 44) (t ++ ts) q i j (at (entry_due ps us last) below) m k (λ y. refl)
    (join (at (entry_due ps us last) below) m k t (at (after_entry (next_pairs ps e) (next_hids us e) (entry_key e)) below) (m + one_parts e) (k + one_cells e) ts q i j
    (entry_goes (at (entry_due ps us last) below) ps us e below m k n g.0 (key_step ps us last (entry_key e) below m k after) l (omega (arith, fp, p)) (omega (arith, fc, c)))
    (more_entries es (next_pairs ps e) (next_hids us e) (entry_key e) below (m + one_parts e) (k + one_cells e) n g.1 ordered l (omega (arith, fp, p)) (omega (arith, fc, c)))))

-- after these entries, which may be none
abbrev pub after_entries : List Entry → Spot
after_entries [] = entry_or_end
after_entries (e ∷ es) = after_entry (pairs_in (e ∷ es)) (hids_in (e ∷ es)) (last_key (entry_key e) es)

pub entries_go : (es : List Entry) (below : List Frame) (m k n : ℕ) → AllGo n es → IsTrue (in_order (map entry_key es)) → length below + 1 + n ≤ most_levels
    → m + entry_parts es ≤ most_parts → k + entry_cells es ≤ most_cells
    → G (at entry_or_end below) m k (separated (map entry_text es)) (at (after_entries es) below) (m + entry_parts es) (k + entry_cells es)
entries_go [] below m k n a o l p c =
    to (at entry_or_end below) m k [] (at entry_or_end below) (at entry_or_end below) m k (m + 0) (k + 0) refl (omega arith) (omega arith) (nothing (at entry_or_end below) m k)
entries_go (e ∷ es) below m k n a o l p c =
    let t : List Token = entry_text e in
    let ts : List Token = text.more (map entry_text es) in
    let g = first_go n e es a in
    let fp = first_parts e es in
    let fc = first_cells e es in
    let q : Open = at (after_entry (next_pairs [] e ++ pairs_in es) (next_hids [] e ++ hids_in es) (last_key (entry_key e) es)) below in
    let i : ℕ = m + one_parts e + entry_parts es in
    let j : ℕ = k + one_cells e + entry_cells es in
    to (at entry_or_end below) m k (t ++ ts) q (at (after_entries (e ∷ es)) below) i j (m + entry_parts (e ∷ es)) (k + entry_cells (e ∷ es))
    (λ x. at (after_entry (first_pairs [] e es x) (first_hids [] e es x) (last_key (entry_key e) es)) below) (omega (arith, fp)) (omega (arith, fc))
    (join (at entry_or_end below) m k t (at (after_entry (next_pairs [] e) (next_hids [] e) (entry_key e)) below) (m + one_parts e) (k + one_cells e) ts q i j
    (entry_goes (at entry_or_end below) [] [] e below m k n g.0 (λ y. refl) l (omega (arith, fp, p)) (omega (arith, fc, c)))
    (more_entries es (next_pairs [] e) (next_hids [] e) (entry_key e) below (m + one_parts e) (k + one_cells e) n g.1 o l (omega (arith, fp, p)) (omega (arith, fc, c))))

map_ends : (es : List Entry) (below : List Frame) (m k : ℕ) → G (at (after_entries es) below) m k (mark 62 ∷ []) (give (the_map (pairs_in es) (hids_in es)) below) m k
map_ends [] below m k = one (at entry_or_end below) m k (mark 62) (give (the_map [] []) below) m k (λ x. refl)
map_ends (e ∷ es) below m k =
    one (at (after_entries (e ∷ es)) below) m k (mark 62) (give (the_map (pairs_in (e ∷ es)) (hids_in (e ∷ es))) below) m k (λ x. refl)

map_goes : (ps : PlainPairs) (us : List (List ℕ × Hidden)) → AnyPairs ps → IsTrue (in_order (keys_of ps us)) → AnyValue (map_of tt ps us)
map_goes ps us a o below m k l p c =
    let es : List Entry = merged ps us in
    let fp = merged_parts ps us in
    let fc = merged_cells ps us in
    let O : List (List ℕ) → Type 0 = λ ks. IsTrue (in_order ks) in
    let e : give (the_map (pairs_in es) (hids_in es)) below ≡ give (map_of tt ps us) below =
    ap (λ (x : List (List ℕ × Plain)). give (the_map x (hids_in es)) below) (merged_pairs ps us)
    ∙ (λ i. give (map_of tt (paired_pairs ps i) (merged_hids ps us i)) below) in
    let i : ℕ = m + 1 + entry_parts es in
    let j : ℕ = k + entry_cells es in
    let q : Open = give (the_map (pairs_in es) (hids_in es)) below in
    to (at due below) m k (tokens (map_of tt ps us)) q (give (map_of tt ps us) below) i j (m + (1 + parts_by ps)) (k + cells_by ps) e (omega (arith, fp)) (omega (arith, fc))
    (cons (at due below) m k (mark 60) (separated (entries ps us) ++ mark 62 ∷ []) q i j (at entry_or_end below) (m + 1) k
    (λ x. due_step (ASign Less) x below m k false refl refl refl (λ e. absurd (cc)) (omega (arith, l)) (omega (arith, p)))
    (along (at entry_or_end below) (m + 1) k (separated (map entry_text es) ++ mark 62 ∷ []) (separated (entries ps us) ++ mark 62 ∷ []) q i j
    (ap (λ (ts : List (List Token)). separated ts ++ mark 62 ∷ []) (merged_texts ps us))
    (join (at entry_or_end below) (m + 1) k (separated (map entry_text es)) (at (after_entries es) below) i j (mark 62 ∷ []) q i j
    (entries_go es below (m + 1) k (levels_by ps) (merged_go (levels_by ps) ps us a (omega arith)) (subst O (sym (merged_keys ps us)) o) (omega (arith, l)) (omega (arith, p, fp))
    (omega (arith, c, fc)))
    (map_ends es below i j))))

-- ---- cells, and what is left of one

pub due_begins : (below : List Frame) (m k : ℕ) → length below + 1 ≤ most_levels → m + 1 ≤ most_parts → Begins (at due below) m k None [] below (m + 1)
due_begins below m k l p = record {
  paren = λ c x. due_step (ASign OpenParen) x below m k true refl refl refl (λ e. c) l p;
  exotic = λ x. due_step (ASign Bang) x below m k false refl refl refl (λ e. absurd (cc)) l p;
}

raw_goes : (t : Tree) → IsGood t → AnyValue (raw t)
raw_goes t g below m k l p c =
    let d = shallow_levels g in
    cell_goes g (at due below) m k None [] below (m + 1) (due_begins below m k l p) (omega (arith, d)) c

rest_children : {cs : List Tree} → AllGood cs → (bs : List ℕ) (ts : List Tree) (below : List Frame) (m k : ℕ) → k + total (map unfolded cs) ≤ most_cells
    → G (at (after_rest (rest_of bs ts)) below) m k (text.more (map cell cs)) (at (after_rest (rest_of bs (ts ++ cs))) below) m (k + total (map unfolded cs))
rest_children none bs ts below m k c =
    to (at (after_rest (rest_of bs ts)) below) m k [] (at (after_rest (rest_of bs ts)) below) (at (after_rest (rest_of bs (ts ++ []))) below) m k m (k + 0)
    (ap (λ (us : List Tree). at (after_rest (rest_of bs us)) below) (sym (append-nil ts))) refl (omega arith) (nothing (at (after_rest (rest_of bs ts)) below) m k)
rest_children (more t us g gs) bs ts below m k c =
    let d = shallow_levels g in
    let q : Open = at (after_rest (rest_of bs ((ts ++ t ∷ []) ++ us))) below in
    to (at (after_rest (rest_of bs ts)) below) m k (text.more (map cell (t ∷ us))) q (at (after_rest (rest_of bs (ts ++ t ∷ us))) below) m (k + unfolded t + total (map unfolded us)) m
    (k + total (map unfolded (t ∷ us))) (ap (λ (vs : List Tree). at (after_rest (rest_of bs vs)) below) (append_assoc ts (t ∷ []) us)) refl (omega arith)
    (cons (at (after_rest (rest_of bs ts)) below) m k (mark 44) (cell t ++ text.more (map cell us)) q m (k + unfolded t + total (map unfolded us)) (at (rest_child (rest_of bs ts)) below) m k (λ x. refl)
    (join (at (rest_child (rest_of bs ts)) below) m k (cell t) (at (after_rest (rest_of bs (ts ++ t ∷ []))) below) m (k + unfolded t) (text.more (map cell us)) q m
    (k + unfolded t + total (map unfolded us))
    (cell_goes g (at (rest_child (rest_of bs ts)) below) m k (Some (rest_of bs ts)) [] below m (rest_begins (rest_of bs ts) below m k) (omega (arith, d))
    (omega (arith, c)))
    (rest_children gs bs (ts ++ t ∷ []) below m (k + unfolded t) (omega (arith, c)))))

-- what is left of a cell, up to its `)`
pub rest_body : (s : Slice) (below : List Frame) (m k : ℕ) → AllGood s.refs → k + total (map unfolded s.refs) ≤ most_cells
    → G (at rest_paren below) m k (body_text s.bits s.refs) (at (after_rest s) below) m (k + total (map unfolded s.refs))
rest_body s below m k g c =
    let n : ℕ = k + total (map unfolded s.refs) in
    cons (at rest_paren below) m k (mark 40) (bits s.bits ∷ text.more (map cell s.refs)) (at (after_rest s) below) m n (at rest_bits below) m k (λ x. refl)
    (cons (at rest_bits below) m k (bits s.bits) (text.more (map cell s.refs)) (at (after_rest s) below) m n (at (after_rest (rest_of s.bits [])) below) m k (λ x. refl)
    (rest_children g s.bits [] below m k c))

rest_goes : (s : Slice) → AllGood s.refs → AnyValue (rest s)
rest_goes s g below m k l p c =
    let n : ℕ = k + total (map unfolded s.refs) in
    cons (at due below) m k (mark 37) (body_text s.bits s.refs ++ mark 41 ∷ []) (give (rest s) below) (m + 1) n (at rest_paren below) (m + 1) k
    (λ x. due_step (ASign Percent) x below m k false refl refl refl (λ e. absurd (cc)) l p)
    (join (at rest_paren below) (m + 1) k (body_text s.bits s.refs) (at (after_rest s) below) (m + 1) n (mark 41 ∷ []) (give (rest s) below) (m + 1) n
    (rest_body s below (m + 1) k g c)
    (one (at (after_rest s) below) (m + 1) n (mark 41) (give (rest s) below) (m + 1) n (λ x. refl)))

-- ---- references, and every value

reference_goes : (v : Plain) → AnyValue v → AnyValue (ref_to tt v)
reference_goes v a below m k l p c =
    to (at due below) m k (tokens (ref_to tt v)) (give (ref_to tt v) below) (give (ref_to tt v) below) (m + 1 + parts v) (k + cells_in v) (m + (1 + parts v)) (k + cells_in v) refl (omega arith) refl
    (cons (at due below) m k (mark 94) (tokens v) (give (ref_to tt v) below) (m + 1 + parts v) (k + cells_in v) (at due (reference ∷ below)) (m + 1) k
    (λ x. due_step (ASign Caret) x below m k false refl refl refl (λ e. absurd (cc)) (omega (arith, l)) (omega (arith, p)))
    (a (reference ∷ below) (m + 1) k (omega (arith, l)) (omega (arith, p)) c))

mutual
  pub value_goes : (v : Plain) → IsFormed v → AnyValue v
  value_goes (number negative size) f = λ below m k l p c. leaf (number negative size) (token.number negative size) below m k refl refl refl (λ x. refl) l p
  value_goes (bit_string bs) f = λ below m k l p c. leaf (bit_string bs) (bits bs) below m k refl refl refl (λ x. refl) l p
  value_goes (record_of n names vs) f = record_goes n names vs f.0 f.1 (fields_any names vs f.1)
  value_goes absent f = λ below m k l p c. leaf absent (mark 126) below m k refl refl refl (λ x. refl) l p
  value_goes (list_of vs) f = list_goes vs (values_any vs f)
  value_goes (ref_to a v) f = reference_goes v (value_goes v f)
  value_goes (unknown h) f = λ below m k l p c. leaf (unknown h) (hidden h) below m k refl refl refl (λ x. refl) l p
  value_goes (map_of a ps us) f = map_goes ps us (pairs_any ps f.0) f.2
  value_goes (raw t) f = raw_goes t f
  value_goes (rest s) f = rest_goes s f.1

  pub values_any : (vs : Plains) → AreFormed vs → AnyValues vs
  values_any no_vals f = tt
  values_any (a_val v vs) f = (value_goes v f.0, values_any vs f.1)

  pub fields_any : (names : List (List ℕ)) (vs : Plains) → AreFields names vs → AnyValues vs
  fields_any names no_vals f = tt
  fields_any [] (a_val v vs) f = absurd f
  fields_any (x ∷ names) (a_val v vs) f = (value_goes v f.1, fields_any names vs f.2)

  pub pairs_any : (ps : PlainPairs) → AreEntries ps → AnyPairs ps
  pairs_any no_pairs f = tt
  pairs_any (a_pair x v ps) f = (value_goes v f.1, pairs_any ps f.2)
