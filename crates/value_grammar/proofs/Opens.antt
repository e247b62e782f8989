-- The steps go through what has been written of values that are open.
use Rattle.std.proofs.Common.{◌≡◌, ℕ, ◌+◌, ◌≤◌, Bool, true, false, ◌&&◌, IsTrue, List, [], ◌∷◌, ◌++◌, map, length, Option, Some, None, refl, sym, ap, ◌∙◌, subst, arith, append_assoc}
use Rattle.cell_nodes.specs.declared.tree.Hidden.{Hidden}
use Rattle.typed_value.specs.Values.{Plain, levels_by, levels_in, most_levels, most_parts, parts_by, parts_in}
use Rattle.typed_value.specs.View.{names_in, pairs_of, vals_in, vals_of}
use Rattle.value_text.specs.declared.lexeme.Sign.TheVariants.{OpenBracket, Less, Caret}
use Rattle.value_text.specs.declared.lexeme.Lexeme.TheVariants.{Sign as ASign}
use Rattle.value_text.specs.Division.{lexeme_of}
use Rattle.value_text.specs.Text.{name_of, separated}
use Rattle.value_text.specs.Tokens.{Token, mark, bits, name}
use Rattle.value_text.specs.Writes.{AreEntries, AreFormed, IsRecordName, cells_by, cells_of, comes_after, in_order, keys_of, most_cells}
use Rattle.value_grammar.specs.Open.{Frame, Open, Spot, after_entry, after_field, after_item, at, due, entry_due, entry_or_end, entry_tokens, field, field_due, field_or_end, field_tokens, frame_cells, frame_parts, frame_text, frames_cells, frames_parts, frames_text, item, item_or_end, item_tokens, keyed, labelled, pair, past, reference, spot_cells, spot_parts, spot_text}
use Rattle.value_grammar.specs.Within.{FitsIn, FrameWithin, FramesWithin, IsSome, NotFirst, RecordWithin}
use Rattle.value_grammar.specs.Steps.{held_of, step}
use Rattle.value_grammar.proofs.Texts.{HasSome, past-separated}
use Rattle.value_grammar.proofs.Goes.{G, along, due_step, join, nothing, one, to}
use Rattle.value_grammar.proofs.Values.{after_fields, after_items, begins_so, fields_go, items_go, listed, record_opens, zipped}
use Rattle.value_grammar.proofs.Maps.{Entry, after_entries, and_first, and_second, entries_go, entry_cells, entry_key, entry_parts, entry_text, fields_any, hids_in, key_step, last_key, merged, merged_cells, merged_go, merged_hids, merged_keys, merged_pairs, merged_parts, merged_texts, paired, pairs_any, pairs_in, values_any}

-- ---- where a value may begin inside others: the first item of a list begins after its `[`

abbrev pub opening : List Frame → Open
opening (item [] ∷ below) = at item_or_end below
opening below = at due below

-- the token leads to the same after a `[` and where a first item is due
abbrev pub Alike : Token → ℕ → ℕ → Type 0
Alike t m k = (below : List Frame) (p : ℕ) → step (held_of (at item_or_end below) m k) (p, lexeme_of t) ≡ step (held_of (at due (item [] ∷ below)) m k) (p, lexeme_of t)

pub opens : (t : Token) (ts : List Token) (below : List Frame) (m k : ℕ) (q : Open) (i j : ℕ) → Alike t m k → G (at due below) m k (t ∷ ts) q i j
    → G (opening below) m k (t ∷ ts) q i j
opens t ts (item [] ∷ below) m k q i j a g = begins_so t ts below m k q i j (a below) g
opens t ts below m k q i j a g = g

pub is_due : (below : List Frame) → NotFirst due below → opening below ≡ at due below
is_due (item [] ∷ below) h = absurd h
is_due below h = refl

-- what is open there, with the values and cells that have begun in it
abbrev pub SpotGoes : Spot → List Frame → Type 0
SpotGoes spot below = (m k : ℕ) → m + spot_parts spot ≤ most_parts → k + spot_cells spot ≤ most_cells
    → G (opening below) m k (spot_text spot) (at spot below) (m + spot_parts spot) (k + spot_cells spot)

-- ---- records

zipped_all : (fs : List (List ℕ × Plain)) → zipped (names_in fs) (vals_in fs) ≡ fs
zipped_all [] = refl
zipped_all (f ∷ fs) = ap (λ (l : List (List ℕ × Plain)). f ∷ l) (zipped_all fs)

pub record_first : (n : Option (List ℕ)) (below : List Frame) (m k : ℕ) → IsRecordName n → length below + 1 ≤ most_levels → m + 1 ≤ most_parts
    → G (opening below) m k (name_of n ++ mark 123 ∷ []) (at (field_or_end n) below) (m + 1) k
record_first None below m k r l p = opens (mark 123) [] below m k (at (field_or_end None) below) (m + 1) k (λ b y. refl) (record_opens None below m k r l p)
record_first (Some x) below m k r l p =
    opens (name x) (mark 123 ∷ []) below m k (at (field_or_end (Some x)) below) (m + 1) k (λ b y. refl) (record_opens (Some x) below m k r l p)

after_fields_go : (n : Option (List ℕ)) (fs : List (List ℕ × Plain)) (below : List Frame) (m k : ℕ) → RecordWithin (length below) n fs
    → m + (1 + parts_in (vals_in fs)) ≤ most_parts → k + cells_of (vals_in fs) ≤ most_cells
    → G (opening below) m k (name_of n ++ mark 123 ∷ separated (field_tokens fs)) (at (after_fields n fs) below) (m + (1 + parts_in (vals_in fs))) (k + cells_of (vals_in fs))
after_fields_go n fs below m k w p c =
    let ts : List Token = separated (field_tokens fs) in
    let r = w.2 in
    to (opening below) m k (name_of n ++ mark 123 ∷ ts) (at (after_fields n (zipped (names_in fs) (vals_in fs))) below) (at (after_fields n fs) below)
    (m + 1 + parts_in (vals_in fs)) (k + cells_of (vals_in fs)) (m + (1 + parts_in (vals_in fs))) (k + cells_of (vals_in fs))
    (ap (λ (gs : List (List ℕ × Plain)). at (after_fields n gs) below) (zipped_all fs)) (omega arith) refl
    (along (opening below) m k ((name_of n ++ mark 123 ∷ []) ++ ts) (name_of n ++ mark 123 ∷ ts) (at (after_fields n (zipped (names_in fs) (vals_in fs))) below)
    (m + 1 + parts_in (vals_in fs)) (k + cells_of (vals_in fs)) (append_assoc (name_of n) (mark 123 ∷ []) ts)
    (join (opening below) m k (name_of n ++ mark 123 ∷ []) (at (field_or_end n) below) (m + 1) k ts (at (after_fields n (zipped (names_in fs) (vals_in fs))) below)
    (m + 1 + parts_in (vals_in fs)) (k + cells_of (vals_in fs))
    (record_first n below m k w.0 (omega (arith, r)) (omega (arith, p)))
    (fields_go (names_in fs) (vals_in fs) n below (m + 1) k (fields_any (names_in fs) (vals_in fs) w.1) w.1 (omega (arith, r)) (omega (arith, p)) c)))

-- where a field's name may come after these fields, which may be none
abbrev due_fields : Option (List ℕ) → List (List ℕ × Plain) → Spot
due_fields n [] = field_or_end n
due_fields n (f ∷ fs) = field_due n (f ∷ fs)

due_fields_go : (n : Option (List ℕ)) (fs : List (List ℕ × Plain)) (below : List Frame) (m k : ℕ) → RecordWithin (length below) n fs
    → m + (1 + parts_in (vals_in fs)) ≤ most_parts → k + cells_of (vals_in fs) ≤ most_cells
    → G (opening below) m k (name_of n ++ mark 123 ∷ past (field_tokens fs)) (at (due_fields n fs) below) (m + (1 + parts_in (vals_in fs))) (k + cells_of (vals_in fs))
due_fields_go n [] below m k w p c = after_fields_go n [] below m k w p c
due_fields_go n (f ∷ fs) below m k w p c =
    let gs : List (List ℕ × Plain) = f ∷ fs in
    let i : ℕ = m + (1 + parts_in (vals_in gs)) in
    let j : ℕ = k + cells_of (vals_in gs) in
    along (opening below) m k ((name_of n ++ mark 123 ∷ separated (field_tokens gs)) ++ mark 44 ∷ []) (name_of n ++ mark 123 ∷ past (field_tokens gs)) (at (field_due n gs) below) i j
    (append_assoc (name_of n) (mark 123 ∷ separated (field_tokens gs)) (mark 44 ∷ [])
    ∙ ap (λ (l : List Token). name_of n ++ mark 123 ∷ l) (sym (past-separated (field_tokens gs) tt)))
    (join (opening below) m k (name_of n ++ mark 123 ∷ separated (field_tokens gs)) (at (after_field n gs) below) i j (mark 44 ∷ []) (at (field_due n gs) below) i j
    (after_fields_go n gs below m k w p c)
    (one (at (after_field n gs) below) i j (mark 44) (at (field_due n gs) below) i j (λ x. refl)))

label_step : (n : Option (List ℕ)) (fs : List (List ℕ × Plain)) (x : List ℕ) (below : List Frame) (m k : ℕ)
    → G (at (due_fields n fs) below) m k (name x ∷ []) (at (labelled n fs x) below) m k
label_step n [] x below m k = one (at (field_or_end n) below) m k (name x) (at (labelled n [] x) below) m k (λ y. refl)
label_step n (f ∷ fs) x below m k = one (at (field_due n (f ∷ fs)) below) m k (name x) (at (labelled n (f ∷ fs) x) below) m k (λ y. refl)

pub labelled_goes : (n : Option (List ℕ)) (fs : List (List ℕ × Plain)) (x : List ℕ) (below : List Frame) → RecordWithin (length below) n fs → SpotGoes (labelled n fs x) below
labelled_goes n fs x below w m k p c =
    let i : ℕ = m + (1 + parts_in (vals_in fs)) in
    let j : ℕ = k + cells_of (vals_in fs) in
    join (opening below) m k (name_of n ++ mark 123 ∷ past (field_tokens fs)) (at (due_fields n fs) below) i j (name x ∷ []) (at (labelled n fs x) below) i j
    (due_fields_go n fs below m k w p c) (label_step n fs x below i j)

pub field_due_goes : (n : Option (List ℕ)) (fs : List (List ℕ × Plain)) (below : List Frame) → IsSome fs → RecordWithin (length below) n fs → SpotGoes (field_due n fs) below
field_due_goes n [] below s w m k p c = absurd s
field_due_goes n (f ∷ fs) below s w m k p c = due_fields_go n (f ∷ fs) below m k w p c

pub after_field_goes : (n : Option (List ℕ)) (fs : List (List ℕ × Plain)) (below : List Frame) → IsSome fs → RecordWithin (length below) n fs → SpotGoes (after_field n fs) below
after_field_goes n [] below s w m k p c = absurd s
after_field_goes n (f ∷ fs) below s w m k p c = after_fields_go n (f ∷ fs) below m k w p c

-- ---- lists

listed_all : (vs : List Plain) → listed (vals_of vs) ≡ vs
listed_all [] = refl
listed_all (v ∷ vs) = ap (λ (l : List Plain). v ∷ l) (listed_all vs)

pub list_first : (below : List Frame) (m k : ℕ) → length below + 1 ≤ most_levels → m + 1 ≤ most_parts → G (opening below) m k (mark 91 ∷ []) (at item_or_end below) (m + 1) k
list_first below m k l p =
    opens (mark 91) [] below m k (at item_or_end below) (m + 1) k (λ b y. refl)
    (one (at due below) m k (mark 91) (at item_or_end below) (m + 1) k (λ x. due_step (ASign OpenBracket) x below m k false refl refl refl (λ e. absurd (cc)) l p))

after_items_go : (vs : List Plain) (below : List Frame) (m k : ℕ) → AreFormed (vals_of vs) → FitsIn (length below) (levels_in (vals_of vs))
    → m + (1 + parts_in (vals_of vs)) ≤ most_parts → k + cells_of (vals_of vs) ≤ most_cells
    → G (opening below) m k (mark 91 ∷ separated (item_tokens vs)) (at (after_items vs) below) (m + (1 + parts_in (vals_of vs))) (k + cells_of (vals_of vs))
after_items_go vs below m k f r p c =
    let i : ℕ = m + 1 + parts_in (vals_of vs) in
    let j : ℕ = k + cells_of (vals_of vs) in
    to (opening below) m k (mark 91 ∷ separated (item_tokens vs)) (at (after_items (listed (vals_of vs))) below) (at (after_items vs) below) i j (m + (1 + parts_in (vals_of vs))) j
    (ap (λ (l : List Plain). at (after_items l) below) (listed_all vs)) (omega arith) refl
    (join (opening below) m k (mark 91 ∷ []) (at item_or_end below) (m + 1) k (separated (item_tokens vs)) (at (after_items (listed (vals_of vs))) below) i j
    (list_first below m k (omega (arith, r)) (omega (arith, p)))
    (items_go (vals_of vs) below (m + 1) k (values_any (vals_of vs) f) (omega (arith, r)) (omega (arith, p)) c))

pub after_item_goes : (vs : List Plain) (below : List Frame) → IsSome vs → AreFormed (vals_of vs) → FitsIn (length below) (levels_in (vals_of vs)) → SpotGoes (after_item vs) below
after_item_goes [] below s f r m k p c = absurd s
after_item_goes (v ∷ vs) below s f r m k p c = after_items_go (v ∷ vs) below m k f r p c

-- ---- maps

-- the last key of entries whose keys are these
last_is : (k : List ℕ) (es : List Entry) (earlier : List (List ℕ)) (last : List ℕ) → k ∷ map entry_key es ≡ earlier ++ last ∷ [] → last_key k es ≡ last
last_is k [] [] last e = cc
last_is k [] (x ∷ []) last e = absurd (cc)
last_is k [] (x ∷ y ∷ xs) last e = absurd (cc)
last_is k (e ∷ es) [] last h = absurd (cc)
last_is k (e ∷ es) (x ∷ xs) last h = last_is (entry_key e) es xs last (tail k x (map entry_key (e ∷ es)) (xs ++ last ∷ []) h)
  where
    tail : (a b : List ℕ) (ks ms : List (List ℕ)) → a ∷ ks ≡ b ∷ ms → ks ≡ ms
    tail a b ks ms h = cc

after_last : (es : List Entry) (earlier : List (List ℕ)) (last : List ℕ) → map entry_key es ≡ earlier ++ last ∷ []
    → after_entries es ≡ after_entry (pairs_in es) (hids_in es) last
after_last [] [] last h = absurd (cc)
after_last [] (x ∷ xs) last h = absurd (cc)
after_last (e ∷ es) earlier last h = ap (λ (k : List ℕ). after_entry (pairs_in (e ∷ es)) (hids_in (e ∷ es)) k) (last_is (entry_key e) es earlier last h)

pub map_first : (below : List Frame) (m k : ℕ) → length below + 1 ≤ most_levels → m + 1 ≤ most_parts → G (opening below) m k (mark 60 ∷ []) (at entry_or_end below) (m + 1) k
map_first below m k l p =
    opens (mark 60) [] below m k (at entry_or_end below) (m + 1) k (λ b y. refl)
    (one (at due below) m k (mark 60) (at entry_or_end below) (m + 1) k (λ x. due_step (ASign Less) x below m k false refl refl refl (λ e. absurd (cc)) l p))

-- what is known of a map's entries
pub record Entries (ps : List (List ℕ × Plain)) (us : List (List ℕ × Hidden)) (below : List Frame) (m k : ℕ) : Type 0 where
  pub formed : AreEntries (pairs_of ps)
  pub ordered : IsTrue (in_order (keys_of (pairs_of ps) us))
  pub levels : FitsIn (length below) (levels_by (pairs_of ps))
  pub parts : m + (1 + parts_by (pairs_of ps)) ≤ most_parts
  pub cells : k + cells_by (pairs_of ps) ≤ most_cells

abbrev entries_in : List (List ℕ × Plain) → List (List ℕ × Hidden) → List Entry
entries_in ps us = merged (pairs_of ps) us

paired_all : (ps : List (List ℕ × Plain)) → paired (pairs_of ps) ≡ ps
paired_all [] = refl
paired_all (p ∷ ps) = ap (λ (l : List (List ℕ × Plain)). p ∷ l) (paired_all ps)

pairs_there : (ps : List (List ℕ × Plain)) (us : List (List ℕ × Hidden)) → pairs_in (entries_in ps us) ≡ ps
pairs_there ps us = merged_pairs (pairs_of ps) us ∙ paired_all ps

after_entries_go : (ps : List (List ℕ × Plain)) (us : List (List ℕ × Hidden)) (below : List Frame) (m k : ℕ) → Entries ps us below m k
    → G (opening below) m k (mark 60 ∷ separated (map entry_text (entries_in ps us))) (at (after_entries (entries_in ps us)) below) (m + (1 + parts_by (pairs_of ps)))
    (k + cells_by (pairs_of ps))
after_entries_go ps us below m k w =
    let es : List Entry = entries_in ps us in
    let n : ℕ = levels_by (pairs_of ps) in
    let i : ℕ = m + 1 + entry_parts es in
    let j : ℕ = k + entry_cells es in
    let fp = merged_parts (pairs_of ps) us in
    let fc = merged_cells (pairs_of ps) us in
    let r = w.levels in
    let p = w.parts in
    let c = w.cells in
    let O : List (List ℕ) → Type 0 = λ ks. IsTrue (in_order ks) in
    to (opening below) m k (mark 60 ∷ separated (map entry_text es)) (at (after_entries es) below) (at (after_entries es) below) i j (m + (1 + parts_by (pairs_of ps)))
    (k + cells_by (pairs_of ps)) refl (omega (arith, fp)) (omega (arith, fc))
    (join (opening below) m k (mark 60 ∷ []) (at entry_or_end below) (m + 1) k (separated (map entry_text es)) (at (after_entries es) below) i j
    (map_first below m k (omega (arith, r)) (omega (arith, p)))
    (entries_go es below (m + 1) k n (merged_go n (pairs_of ps) us (pairs_any (pairs_of ps) w.formed) (omega arith)) (subst O (sym (merged_keys (pairs_of ps) us)) w.ordered)
    (omega (arith, r)) (omega (arith, p, fp)) (omega (arith, c, fc))))

pub after_entry_goes : (ps : List (List ℕ × Plain)) (us : List (List ℕ × Hidden)) (last : List ℕ) (earlier : List (List ℕ)) (below : List Frame) (m k : ℕ) → Entries ps us below m k
    → keys_of (pairs_of ps) us ≡ earlier ++ last ∷ []
    → G (opening below) m k (spot_text (after_entry ps us last)) (at (after_entry ps us last) below) (m + (1 + parts_by (pairs_of ps))) (k + cells_by (pairs_of ps))
after_entry_goes ps us last earlier below m k w e =
    let i : ℕ = m + (1 + parts_by (pairs_of ps)) in
    let j : ℕ = k + cells_by (pairs_of ps) in
    let es : List Entry = entries_in ps us in
    to (opening below) m k (mark 60 ∷ separated (entry_tokens ps us)) (at (after_entries es) below) (at (after_entry ps us last) below) i j i j
    (ap (λ (s : Spot). at s below) (after_last es earlier last (merged_keys (pairs_of ps) us ∙ e))
    ∙ (λ x. at (after_entry (pairs_there ps us x) (merged_hids (pairs_of ps) us x) last) below)) refl refl
    (along (opening below) m k (mark 60 ∷ separated (map entry_text es)) (mark 60 ∷ separated (entry_tokens ps us)) (at (after_entries es) below) i j
    (ap (λ (l : List (List Token)). mark 60 ∷ separated l) (merged_texts (pairs_of ps) us))
    (after_entries_go ps us below m k w))

-- where a key may come after these entries, which may be none
abbrev due_entries : List Entry → Spot
due_entries [] = entry_or_end
due_entries (e ∷ es) = entry_due (pairs_in (e ∷ es)) (hids_in (e ∷ es)) (last_key (entry_key e) es)

due_entries_go : (es : List Entry) (o : Open) (below : List Frame) (m k i j : ℕ) → G o m k (mark 60 ∷ separated (map entry_text es)) (at (after_entries es) below) i j
    → G o m k (mark 60 ∷ past (map entry_text es)) (at (due_entries es) below) i j
due_entries_go [] o below m k i j g = g
due_entries_go (e ∷ es) o below m k i j g =
    along o m k ((mark 60 ∷ separated (map entry_text (e ∷ es))) ++ mark 44 ∷ []) (mark 60 ∷ past (map entry_text (e ∷ es))) (at (due_entries (e ∷ es)) below) i j
    (ap (λ (l : List Token). mark 60 ∷ l) (sym (past-separated (map entry_text (e ∷ es)) tt)))
    (join o m k (mark 60 ∷ separated (map entry_text (e ∷ es))) (at (after_entries (e ∷ es)) below) i j (mark 44 ∷ []) (at (due_entries (e ∷ es)) below) i j g
    (one (at (after_entries (e ∷ es)) below) i j (mark 44) (at (due_entries (e ∷ es)) below) i j (λ x. refl)))

pub entry_due_goes : (ps : List (List ℕ × Plain)) (us : List (List ℕ × Hidden)) (last : List ℕ) (earlier : List (List ℕ)) (below : List Frame) (m k : ℕ) → Entries ps us below m k
    → keys_of (pairs_of ps) us ≡ earlier ++ last ∷ [] → HasSome (entry_tokens ps us)
    → G (opening below) m k (spot_text (entry_due ps us last)) (at (entry_due ps us last) below) (m + (1 + parts_by (pairs_of ps))) (k + cells_by (pairs_of ps))
entry_due_goes ps us last earlier below m k w e s =
    let i : ℕ = m + (1 + parts_by (pairs_of ps)) in
    let j : ℕ = k + cells_by (pairs_of ps) in
    along (opening below) m k ((mark 60 ∷ separated (entry_tokens ps us)) ++ mark 44 ∷ []) (mark 60 ∷ past (entry_tokens ps us)) (at (entry_due ps us last) below) i j
    (ap (λ (l : List Token). mark 60 ∷ l) (sym (past-separated (entry_tokens ps us) s)))
    (join (opening below) m k (mark 60 ∷ separated (entry_tokens ps us)) (at (after_entry ps us last) below) i j (mark 44 ∷ []) (at (entry_due ps us last) below) i j
    (after_entry_goes ps us last earlier below m k w e)
    (one (at (after_entry ps us last) below) i j (mark 44) (at (entry_due ps us last) below) i j (λ x. refl)))

-- a key in order, after these entries
keys_order : (k : List ℕ) (es : List Entry) (x : List ℕ) → IsTrue (in_order (k ∷ map entry_key es ++ x ∷ []))
    → IsTrue (in_order (k ∷ map entry_key es)) × (comes_after (last_key k es) x ≡ true)
keys_order k [] x h = (refl, and_first (comes_after k x) true h)
keys_order k (e ∷ es) x h =
    let r = keys_order (entry_key e) es x (and_second (comes_after k (entry_key e)) (in_order (entry_key e ∷ map entry_key es ++ x ∷ [])) h) in
    (both (comes_after k (entry_key e)) (in_order (entry_key e ∷ map entry_key es)) (and_first (comes_after k (entry_key e)) (in_order (entry_key e ∷ map entry_key es ++ x ∷ [])) h) r.0, r.1)
  where
    both : (a b : Bool) → a ≡ true → IsTrue b → IsTrue (a && b)
    both true b e h = h
    both false b e h = absurd (cc)

left_in_order : (es : List Entry) (x : List ℕ) → IsTrue (in_order (map entry_key es ++ x ∷ [])) → IsTrue (in_order (map entry_key es))
left_in_order [] x h = refl
left_in_order (e ∷ es) x h = (keys_order (entry_key e) es x h).0

key_goes : (es : List Entry) (x : List ℕ) (below : List Frame) (m k : ℕ) → IsTrue (in_order (map entry_key es ++ x ∷ []))
    → G (at (due_entries es) below) m k (bits x ∷ []) (at (keyed (pairs_in es) (hids_in es) x) below) m k
key_goes [] x below m k h = one (at entry_or_end below) m k (bits x) (at (keyed [] [] x) below) m k (λ y. refl)
key_goes (e ∷ es) x below m k h =
    one (at (due_entries (e ∷ es)) below) m k (bits x) (at (keyed (pairs_in (e ∷ es)) (hids_in (e ∷ es)) x) below) m k
    (key_step (pairs_in (e ∷ es)) (hids_in (e ∷ es)) (last_key (entry_key e) es) x below m k (keys_order (entry_key e) es x h).1)

pub keyed_goes : (ps : List (List ℕ × Plain)) (us : List (List ℕ × Hidden)) (x : List ℕ) (below : List Frame) → FrameWithin (length below) (pair ps us x) → SpotGoes (keyed ps us x) below
keyed_goes ps us x below w m k p c =
    let es : List Entry = entries_in ps us in
    let i : ℕ = m + (1 + parts_by (pairs_of ps)) in
    let j : ℕ = k + cells_by (pairs_of ps) in
    let K : List (List ℕ) → Type 0 = λ ks. IsTrue (in_order (ks ++ x ∷ [])) in
    let L : List (List ℕ) → Type 0 = λ ks. IsTrue (in_order ks) in
    let all = subst K (sym (merged_keys (pairs_of ps) us)) w.3 in
    let known : Entries ps us below m k =
    record { formed = w.0; ordered = subst L (merged_keys (pairs_of ps) us) (left_in_order es x all); levels = w.4; parts = p; cells = c } in
    to (opening below) m k ((mark 60 ∷ past (entry_tokens ps us)) ++ bits x ∷ []) (at (keyed (pairs_in es) (hids_in es) x) below) (at (keyed ps us x) below) i j i j
    (λ y. at (keyed (pairs_there ps us y) (merged_hids (pairs_of ps) us y) x) below) refl refl
    (along (opening below) m k ((mark 60 ∷ past (map entry_text es)) ++ bits x ∷ []) ((mark 60 ∷ past (entry_tokens ps us)) ++ bits x ∷ []) (at (keyed (pairs_in es) (hids_in es) x) below) i j
    (ap (λ (l : List (List Token)). (mark 60 ∷ past l) ++ bits x ∷ []) (merged_texts (pairs_of ps) us))
    (join (opening below) m k (mark 60 ∷ past (map entry_text es)) (at (due_entries es) below) i j (bits x ∷ []) (at (keyed (pairs_in es) (hids_in es) x) below) i j
    (due_entries_go es (opening below) below m k i j (after_entries_go ps us below m k known))
    (key_goes es x below i j all)))

-- ---- frames

frame_goes : (f : Frame) (below : List Frame) → FrameWithin (length below) f → (m k : ℕ) → m + frame_parts f ≤ most_parts → k + frame_cells f ≤ most_cells
    → G (opening below) m k (frame_text f) (opening (f ∷ below)) (m + frame_parts f) (k + frame_cells f)
frame_goes (field n fs x) below w m k p c =
    let i : ℕ = m + (1 + parts_in (vals_in fs)) in
    let j : ℕ = k + cells_of (vals_in fs) in
    let ts : List Token = name_of n ++ mark 123 ∷ past (field_tokens fs) in
    along (opening below) m k ((ts ++ name x ∷ []) ++ mark 58 ∷ []) (frame_text (field n fs x)) (at due (field n fs x ∷ below)) i j
    (append_assoc ts (name x ∷ []) (mark 58 ∷ []))
    (join (opening below) m k (ts ++ name x ∷ []) (at (labelled n fs x) below) i j (mark 58 ∷ []) (at due (field n fs x ∷ below)) i j
    (labelled_goes n fs x below (w.0, w.1, w.3) m k p c)
    (one (at (labelled n fs x) below) i j (mark 58) (at due (field n fs x ∷ below)) i j (λ y. refl)))
frame_goes (item []) below w m k p c =
    let r = w.1 in
    to (opening below) m k (mark 91 ∷ []) (at item_or_end below) (at item_or_end below) (m + 1) k (m + 1) (k + 0) refl refl (omega arith) (list_first below m k (omega (arith, r)) (omega (arith, p)))
frame_goes (item (v ∷ vs)) below w m k p c =
    let us : List Plain = v ∷ vs in
    let i : ℕ = m + (1 + parts_in (vals_of us)) in
    let j : ℕ = k + cells_of (vals_of us) in
    along (opening below) m k ((mark 91 ∷ separated (item_tokens us)) ++ mark 44 ∷ []) (mark 91 ∷ past (item_tokens us)) (at due (item us ∷ below)) i j
    (ap (λ (l : List Token). mark 91 ∷ l) (sym (past-separated (item_tokens us) tt)))
    (join (opening below) m k (mark 91 ∷ separated (item_tokens us)) (at (after_item us) below) i j (mark 44 ∷ []) (at due (item us ∷ below)) i j
    (after_items_go us below m k w.0 w.1 p c)
    (one (at (after_item us) below) i j (mark 44) (at due (item us ∷ below)) i j (λ x. refl)))
frame_goes reference below w m k p c =
    to (opening below) m k (mark 94 ∷ []) (at due (reference ∷ below)) (at due (reference ∷ below)) (m + 1) k (m + 1) (k + 0) refl refl (omega arith)
    (opens (mark 94) [] below m k (at due (reference ∷ below)) (m + 1) k (λ b y. refl)
    (one (at due below) m k (mark 94) (at due (reference ∷ below)) (m + 1) k
    (λ x. due_step (ASign Caret) x below m k false refl refl refl (λ e. absurd (cc)) (omega (arith, w)) (omega (arith, p)))))
frame_goes (pair ps us x) below w m k p c =
    let i : ℕ = m + (1 + parts_by (pairs_of ps)) in
    let j : ℕ = k + cells_by (pairs_of ps) in
    let ts : List Token = mark 60 ∷ past (entry_tokens ps us) in
    along (opening below) m k ((ts ++ bits x ∷ []) ++ mark 58 ∷ []) (frame_text (pair ps us x)) (at due (pair ps us x ∷ below)) i j
    (append_assoc ts (bits x ∷ []) (mark 58 ∷ []))
    (join (opening below) m k (ts ++ bits x ∷ []) (at (keyed ps us x) below) i j (mark 58 ∷ []) (at due (pair ps us x ∷ below)) i j
    (keyed_goes ps us x below w m k p c)
    (one (at (keyed ps us x) below) i j (mark 58) (at due (pair ps us x ∷ below)) i j (λ y. refl)))

pub frames_go : (below : List Frame) → FramesWithin below → frames_parts below ≤ most_parts → frames_cells below ≤ most_cells
    → G (at due []) 0 0 (frames_text below) (opening below) (frames_parts below) (frames_cells below)
frames_go [] w p c = nothing (at due []) 0 0
frames_go (f ∷ fs) w p c =
    join (at due []) 0 0 (frames_text fs) (opening fs) (frames_parts fs) (frames_cells fs) (frame_text f) (opening (f ∷ fs)) (frames_parts (f ∷ fs)) (frames_cells (f ∷ fs))
    (frames_go fs w.1 (omega (arith, p)) (omega (arith, c)))
    (frame_goes f fs w.0 (frames_parts fs) (frames_cells fs) p c)
