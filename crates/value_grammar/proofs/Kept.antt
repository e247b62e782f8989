-- Each step keeps what is open within the limits.
use Rattle.std.proofs.Common.{◌≡◌, ℕ, suc, ◌+◌, ◌<◌, ◌≤◌, ◌^◌, Bool, true, false, ◌&&◌, not, nat_le, if◌then◌else◌, IsTrue, bytes_eq, codes, max, List, [], ◌∷◌, ◌++◌, length, Option, Ok, refl, sym, subst, arith}
use Rattle.std.proofs.lemmas.Bool.Decides.{nat_tests}
use Rattle.bit_slice.specs.Names.{IsName}
use Rattle.cell_nodes.specs.Good.{AllGood, IsGood, more, none}
use Rattle.cell_nodes.specs.declared.tree.Hidden.{Hidden}
use Rattle.cell_nodes.specs.declared.tree.Tree.{Tree}
use Rattle.typed_value.specs.Values.{Plain, absent, bit_string, levels, levels_by, levels_in, list_of, most_levels, number, ref_to, unknown}
use Rattle.typed_value.specs.View.{names_in, pairs_of, vals_in, vals_of}
use Rattle.value_text.specs.declared.lexeme.Sign.{Sign}
use Rattle.value_text.specs.declared.lexeme.Sign.TheVariants.{OpenBrace, CloseBrace, OpenBracket, CloseBracket, OpenParen, Less, Greater, Comma, Colon, Tilde, Caret, Bang, Percent}
use Rattle.value_text.specs.declared.lexeme.Lexeme.{Lexeme}
use Rattle.value_text.specs.declared.lexeme.Lexeme.TheVariants.{Sign as ASign, Number, Bits, Name, Hidden as AHidden, Beyond}
use Rattle.value_text.specs.Lexemes.{Spells}
use Rattle.value_text.specs.Writes.{AreEntries, AreFew, AreFields, AreFormed, AreHidden, IsFormed, IsHidden, comes_after, in_order, keys_of}
use Rattle.value_grammar.specs.Open.{Frame, Open, after_field, after_item, at, due, entry_due, field, field_or_end, item, labelled, named, pair, reference}
use Rattle.value_grammar.specs.Within.{Ascends, FitsIn, FrameWithin, FramesWithin, IsSome, MapWithin, NotFirst, RecordWithin, SpotWithin, is_deep_value, is_out_of_order}
use Rattle.value_grammar.specs.Steps.{Outcome, begin, begin_sign, colon, entry, give, in_list, in_map, in_record, key, key_or_end, label, label_or_end, list_or_end, no_go, open_record, the_map, the_record}
use Rattle.value_grammar.proofs.Adds.{OkThen}
use Rattle.value_grammar.proofs.Orders.{hidden_before, keys_before, order_push, pairs_before}
use Rattle.value_grammar.proofs.Keys.{keys-hidden, keys-pair}

-- what a lexeme that stands in a text is
abbrev pub IsLexeme : Lexeme → Type 0
IsLexeme (ASign s) = Unit {0}
IsLexeme (Number n) = n.size < 2 ^ 128
IsLexeme (Bits bs) = AreFew bs
IsLexeme (Name n) = IsName n
IsLexeme (AHidden h) = IsHidden h
IsLexeme (Beyond form) = Unit {0}

pub spelled_lexeme : (l : Lexeme) (bytes : List ℕ) → Spells l bytes → IsLexeme l
spelled_lexeme (ASign s) bytes h = tt
spelled_lexeme (Number n) bytes h = h.0
spelled_lexeme (Bits bs) bytes h = h.0
spelled_lexeme (Name n) bytes h = h.0
spelled_lexeme (AHidden k) bytes h = h.0
spelled_lexeme (Beyond form) bytes h = tt

abbrev pub Keeps : Open → Type 0
Keeps (at spot below) = FramesWithin below × SpotWithin (length below) spot × NotFirst spot below

abbrev pub Kept : Outcome → Type 0
Kept o = OkThen o Keeps

-- ---- lists that grow at their end

some_push : {A : Type 0} (xs : List A) (x : A) → IsSome (xs ++ x ∷ [])
some_push [] x = tt
some_push (y ∷ ys) x = tt

fields_push : (fs : List (List ℕ × Plain)) (x : List ℕ) (v : Plain) → AreFields (names_in fs) (vals_in fs) → IsName x → IsFormed v
    → AreFields (names_in (fs ++ (x, v) ∷ [])) (vals_in (fs ++ (x, v) ∷ []))
fields_push [] x v h n f = (n, f, tt)
fields_push (g ∷ fs) x v h n f = (h.0, h.1, fields_push fs x v h.2 n f)

levels_fields : (fs : List (List ℕ × Plain)) (x : List ℕ) (v : Plain) → levels_in (vals_in (fs ++ (x, v) ∷ [])) ≡ max (levels_in (vals_in fs)) (levels v)
levels_fields [] x v = omega arith
levels_fields (g ∷ fs) x v = let e = levels_fields fs x v in omega (arith, e)

items_push : (vs : List Plain) (v : Plain) → AreFormed (vals_of vs) → IsFormed v → AreFormed (vals_of (vs ++ v ∷ []))
items_push [] v h f = (f, tt)
items_push (w ∷ vs) v h f = (h.0, items_push vs v h.1 f)

levels_items : (vs : List Plain) (v : Plain) → levels_in (vals_of (vs ++ v ∷ [])) ≡ max (levels_in (vals_of vs)) (levels v)
levels_items [] v = omega arith
levels_items (w ∷ vs) v = let e = levels_items vs v in omega (arith, e)

pairs_push : (ps : List (List ℕ × Plain)) (k : List ℕ) (v : Plain) → AreEntries (pairs_of ps) → AreFew k → IsFormed v → AreEntries (pairs_of (ps ++ (k, v) ∷ []))
pairs_push [] k v h n f = (n, f, tt)
pairs_push (p ∷ ps) k v h n f = (h.0, h.1, pairs_push ps k v h.2 n f)

levels_pairs : (ps : List (List ℕ × Plain)) (k : List ℕ) (v : Plain) → levels_by (pairs_of (ps ++ (k, v) ∷ [])) ≡ max (levels_by (pairs_of ps)) (levels v)
levels_pairs [] k v = omega arith
levels_pairs (p ∷ ps) k v = let e = levels_pairs ps k v in omega (arith, e)

hidden_push : (us : List (List ℕ × Hidden)) (k : List ℕ) (h : Hidden) → AreHidden us → AreFew k → IsHidden h → AreHidden (us ++ (k, h) ∷ [])
hidden_push [] k h a n f = (n, f, tt)
hidden_push (u ∷ us) k h a n f = (a.0, a.1, hidden_push us k h a.2 n f)

pub good_push : (ts : List Tree) (t : Tree) → AllGood ts → IsGood t → AllGood (ts ++ t ∷ [])
good_push [] t a g = more t [] g none
good_push (c ∷ ts) t (more c' ts' h a) g = more c (ts ++ t ∷ []) h (good_push ts t a g)

-- ---- a whole value

ascends_pair : (ps : List (List ℕ × Plain)) (us : List (List ℕ × Hidden)) (k : List ℕ) (v : Plain) → IsTrue (in_order (keys_of (pairs_of ps) us ++ k ∷ []))
    → Ascends (ps ++ (k, v) ∷ []) us k
ascends_pair ps us k v o =
    let e = keys-pair ps us k v (hidden_before ps us k (keys_before (keys_of (pairs_of ps) us) k o)) in
    let P : List (List ℕ) → Type 0 = λ l. IsTrue (in_order l) in
    record { ordered = subst P (sym e) o; earlier = keys_of (pairs_of ps) us; ends = e }

ascends_hidden : (ps : List (List ℕ × Plain)) (us : List (List ℕ × Hidden)) (k : List ℕ) (h : Hidden) → IsTrue (in_order (keys_of (pairs_of ps) us ++ k ∷ []))
    → Ascends ps (us ++ (k, h) ∷ []) k
ascends_hidden ps us k h o =
    let e = keys-hidden ps us k h (pairs_before ps us k (keys_before (keys_of (pairs_of ps) us) k o)) in
    let P : List (List ℕ) → Type 0 = λ l. IsTrue (in_order l) in
    record { ordered = subst P (sym e) o; earlier = keys_of (pairs_of ps) us; ends = e }

pub give_keeps : (v : Plain) (below : List Frame) → FramesWithin below → IsFormed v → length below + levels v ≤ most_levels → Keeps (give v below)
give_keeps v [] f g l = (tt, (g, omega arith, refl), tt)
give_keeps v (field n fs x ∷ below) f g l =
    let e = levels_fields fs x v in
    let w = f.0.3 in
    (f.1, (some_push fs (x, v), (f.0.0, fields_push fs x v f.0.1 f.0.2 g, omega (arith, e, w, l))), tt)
give_keeps v (item vs ∷ below) f g l =
    let e = levels_items vs v in
    let w = f.0.1 in
    (f.1, (some_push vs v, items_push vs v f.0.0 g, omega (arith, e, w, l)), tt)
give_keeps v (reference ∷ below) f g l = give_keeps (ref_to tt v) below f.1 g (omega (arith, l))
give_keeps v (pair ps us k ∷ below) f g l =
    let e = levels_pairs ps k v in
    let w = f.0.4 in
    (f.1, (pairs_push ps k v f.0.0 f.0.2 g, f.0.1, ascends_pair ps us k v f.0.3, omega (arith, e, w, l)), tt)

-- ---- a value begins

room : (d : ℕ) (b : Bool) → b ≡ true → (nat_le most_levels d && b) ≡ false → FitsIn d 0
room d true e h = by_test (nat_le most_levels d) refl h
  where
    by_test : (t : Bool) → nat_le most_levels d ≡ t → (t && true) ≡ false → FitsIn d 0
    by_test true f g = absurd (cc)
    by_test false f g = grind (arith, nat_tests)
room d false e h = absurd (cc)

pub one_level : (d : ℕ) → FitsIn d 0 → d + 1 ≤ most_levels
one_level d r = omega (arith, r)

sign_keeps : (s : Sign) (p : ℕ) (below : List Frame) → FramesWithin below → is_deep_value (length below) (ASign s) ≡ false → Kept (begin_sign s p below)
sign_keeps OpenBrace p below f d = (f, (tt, room (length below) true refl d), tt)
sign_keeps Tilde p below f d = give_keeps absent below f tt (one_level (length below) (room (length below) true refl d))
sign_keeps OpenBracket p below f d = (f, room (length below) true refl d, tt)
sign_keeps Caret p below f d = ((room (length below) true refl d, f), tt, tt)
sign_keeps Less p below f d = (f, room (length below) true refl d, tt)
sign_keeps OpenParen p below f d = (f, (tt, tt, omega arith, room (length below) true refl d), tt)
sign_keeps Bang p below f d = (f, (tt, tt, omega arith, room (length below) true refl d), tt)
sign_keeps Percent p below f d = (f, room (length below) true refl d, tt)
sign_keeps s p below f d = tt

pub begin_keeps : (l : Lexeme) (p : ℕ) (below : List Frame) → FramesWithin below → IsLexeme l → is_deep_value (length below) l ≡ false → Kept (begin l p below)
begin_keeps (ASign s) p below f i d = sign_keeps s p below f d
begin_keeps (Number n) p below f i d =
    give_keeps (number n.negative n.size) below f i (one_level (length below) (room (length below) true refl d))
begin_keeps (Bits bs) p below f i d = give_keeps (bit_string bs) below f i (one_level (length below) (room (length below) true refl d))
begin_keeps (Name n) p below f i d = by_name (bytes_eq n (codes "x")) refl d
  where
    by_name : (b : Bool) → bytes_eq n (codes "x") ≡ b → (nat_le most_levels (length below) && not b) ≡ false
        → Kept (if b then no_go p else Ok (at (named n) below))
    by_name true e g = tt
    by_name false e g =
        let P : Bool → Type 0 = λ b. IsTrue (not b) in
        (f, ((i, subst P (sym e) refl), room (length below) true refl g), tt)
begin_keeps (AHidden h) p below f i d = give_keeps (unknown h) below f i (one_level (length below) (room (length below) true refl d))
begin_keeps (Beyond form) p below f i d = tt

-- ---- lists

first_keeps : (l : Lexeme) (p : ℕ) (below : List Frame) → FramesWithin below → FitsIn (length below) 0 → IsLexeme l
    → is_deep_value (suc (length below)) l ≡ false → Kept (begin l p (item [] ∷ below))
first_keeps l p below f r i d = begin_keeps l p (item [] ∷ below) ((tt, r), f) i d

sign_first : (s : Sign) (p : ℕ) (below : List Frame) → FramesWithin below → FitsIn (length below) 0
    → is_deep_value (suc (length below)) (ASign s) ≡ false → Kept (list_or_end (ASign s) p below)
sign_first CloseBracket p below f r d = give_keeps (list_of (vals_of [])) below f tt (one_level (length below) r)
sign_first OpenBrace p below f r d = first_keeps (ASign OpenBrace) p below f r tt d
sign_first Tilde p below f r d = first_keeps (ASign Tilde) p below f r tt d
sign_first OpenBracket p below f r d = first_keeps (ASign OpenBracket) p below f r tt d
sign_first Caret p below f r d = first_keeps (ASign Caret) p below f r tt d
sign_first Less p below f r d = first_keeps (ASign Less) p below f r tt d
sign_first OpenParen p below f r d = first_keeps (ASign OpenParen) p below f r tt d
sign_first Bang p below f r d = first_keeps (ASign Bang) p below f r tt d
sign_first Percent p below f r d = first_keeps (ASign Percent) p below f r tt d
sign_first s p below f r d = tt

pub list_keeps : (l : Lexeme) (p : ℕ) (below : List Frame) → FramesWithin below → FitsIn (length below) 0 → IsLexeme l
    → is_deep_value (suc (length below)) l ≡ false → Kept (list_or_end l p below)
list_keeps (ASign s) p below f r i d = sign_first s p below f r d
list_keeps (Number n) p below f r i d = first_keeps (Number n) p below f r i d
list_keeps (Bits bs) p below f r i d = first_keeps (Bits bs) p below f r i d
list_keeps (Name n) p below f r i d = first_keeps (Name n) p below f r i d
list_keeps (AHidden h) p below f r i d = first_keeps (AHidden h) p below f r i d
list_keeps (Beyond form) p below f r i d = tt

not_first : (vs : List Plain) (below : List Frame) → IsSome vs → NotFirst due (item vs ∷ below)
not_first [] below h = h
not_first (v ∷ vs) below h = tt

pub in_list_keeps : (vs : List Plain) (l : Lexeme) (p : ℕ) (below : List Frame) → FramesWithin below → SpotWithin (length below) (after_item vs) → Kept (in_list vs l p below)
in_list_keeps vs (ASign Comma) p below f w = (((w.1, w.2), f), tt, not_first vs below w.0)
in_list_keeps vs (ASign CloseBracket) p below f w = let r = w.2 in give_keeps (list_of (vals_of vs)) below f w.1 (omega (arith, r))
in_list_keeps vs l p below f w = tt

-- ---- records

pub open_record_keeps : (n : List ℕ) (l : Lexeme) (p : ℕ) (below : List Frame) → FramesWithin below → SpotWithin (length below) (named n) → Kept (open_record n l p below)
open_record_keeps n (ASign OpenBrace) p below f w = (f, w, tt)
open_record_keeps n l p below f w = tt

pub label_keeps : (n : Option (List ℕ)) (fs : List (List ℕ × Plain)) (l : Lexeme) (p : ℕ) (below : List Frame) → FramesWithin below → IsLexeme l
    → RecordWithin (length below) n fs → Kept (label n fs l p below)
label_keeps n fs (Name x) p below f i w = (f, (i, w), tt)
label_keeps n fs l p below f i w = tt

pub record_keeps : (n : Option (List ℕ)) (l : Lexeme) (p : ℕ) (below : List Frame) → FramesWithin below → IsLexeme l
    → SpotWithin (length below) (field_or_end n) → Kept (label_or_end n l p below)
record_keeps n (ASign CloseBrace) p below f i w = give_keeps (the_record n []) below f (w.0, tt) (one_level (length below) w.1)
record_keeps n (Name x) p below f i w = label_keeps n [] (Name x) p below f i (w.0, tt, w.1)
record_keeps n l p below f i w = tt

pub colon_keeps : (n : Option (List ℕ)) (fs : List (List ℕ × Plain)) (x : List ℕ) (l : Lexeme) (p : ℕ) (below : List Frame) → FramesWithin below
    → SpotWithin (length below) (labelled n fs x) → Kept (colon n fs x l p below)
colon_keeps n fs x (ASign Colon) p below f w = (((w.1.0, w.1.1, w.0, w.1.2), f), tt, tt)
colon_keeps n fs x l p below f w = tt

pub in_record_keeps : (n : Option (List ℕ)) (fs : List (List ℕ × Plain)) (l : Lexeme) (p : ℕ) (below : List Frame) → FramesWithin below
    → SpotWithin (length below) (after_field n fs) → Kept (in_record n fs l p below)
in_record_keeps n fs (ASign Comma) p below f w = (f, w, tt)
in_record_keeps n fs (ASign CloseBrace) p below f w = let r = w.1.2 in give_keeps (the_record n fs) below f (w.1.0, w.1.1) (omega (arith, r))
in_record_keeps n fs l p below f w = tt

-- ---- maps

next_in_order : (ps : List (List ℕ × Plain)) (us : List (List ℕ × Hidden)) (last k : List ℕ) → Ascends ps us last → comes_after last k ≡ true
    → IsTrue (in_order (keys_of (pairs_of ps) us ++ k ∷ []))
next_in_order ps us last k a e =
    let P : List (List ℕ) → Type 0 = λ l. IsTrue (in_order l) in
    let Q : List (List ℕ) → Type 0 = λ l. IsTrue (in_order (l ++ k ∷ [])) in
    subst Q (sym a.ends) (order_push a.earlier last k (subst P a.ends a.ordered) e)

not_false : (b : Bool) → not b ≡ false → b ≡ true
not_false true e = refl
not_false false e = absurd (cc)

pub key_keeps : (ps : List (List ℕ × Plain)) (us : List (List ℕ × Hidden)) (last : List ℕ) (l : Lexeme) (p : ℕ) (below : List Frame) → FramesWithin below → IsLexeme l
    → MapWithin (length below) ps us last → is_out_of_order (entry_due ps us last) l ≡ false → Kept (key ps us l p below)
key_keeps ps us last (Bits k) p below f i w o =
    (f, (w.0, w.1, i, next_in_order ps us last k w.2 (not_false (comes_after last k) o), w.3), tt)
key_keeps ps us last (ASign s) p below f i w o = tt
key_keeps ps us last (Number n) p below f i w o = tt
key_keeps ps us last (Name n) p below f i w o = tt
key_keeps ps us last (AHidden h) p below f i w o = tt
key_keeps ps us last (Beyond form) p below f i w o = tt

pub map_keeps : (l : Lexeme) (p : ℕ) (below : List Frame) → FramesWithin below → IsLexeme l → FitsIn (length below) 0 → Kept (key_or_end l p below)
map_keeps (ASign Greater) p below f i r = give_keeps (the_map [] []) below f (tt, tt, refl) (one_level (length below) r)
map_keeps (Bits k) p below f i r = (f, (tt, tt, i, refl, r), tt)
map_keeps l p below f i r = tt

pub entry_keeps : (ps : List (List ℕ × Plain)) (us : List (List ℕ × Hidden)) (k : List ℕ) (l : Lexeme) (p : ℕ) (below : List Frame) → FramesWithin below → IsLexeme l
    → FrameWithin (length below) (pair ps us k) → Kept (entry ps us k l p below)
entry_keeps ps us k (ASign Colon) p below f i w = ((w, f), tt, tt)
entry_keeps ps us k (AHidden h) p below f i w = (f, (w.0, hidden_push us k h w.1 w.2 i, ascends_hidden ps us k h w.3, w.4), tt)
entry_keeps ps us k l p below f i w = tt

pub in_map_keeps : (ps : List (List ℕ × Plain)) (us : List (List ℕ × Hidden)) (last : List ℕ) (l : Lexeme) (p : ℕ) (below : List Frame) → FramesWithin below
    → MapWithin (length below) ps us last → Kept (in_map ps us last l p below)
in_map_keeps ps us last (ASign Comma) p below f w = (f, w, tt)
in_map_keeps ps us last (ASign Greater) p below f w =
    let r = w.3 in give_keeps (the_map ps us) below f (w.0, w.1, w.2.ordered) (omega (arith, r))
in_map_keeps ps us last l p below f w = tt
