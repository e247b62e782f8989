-- Each step adds its lexeme to what has been written.
use Rattle.std.proofs.Common.{◌≡◌, ℕ, Bool, true, false, nat_lt, if◌then◌else◌, List, [], ◌∷◌, ◌++◌, length, Option, Some, None, Result, Ok, Err, refl, sym, ap, ◌∙◌, subst, append_assoc, append-nil, bytes_eq, codes}
use Rattle.cell_nodes.specs.declared.tree.Hidden.{Hidden}
use Rattle.cell_nodes.specs.declared.tree.Kind.{Kind}
use Rattle.cell_nodes.specs.declared.tree.Kind.TheVariants.{Ordinary, Pruned, Library, Proof, Update}
use Rattle.cell_nodes.specs.declared.tree.Tree.{Tree}
use Rattle.cell_nodes.specs.Layout.{exotic_kind, has_layout}
use Rattle.cell_nodes.specs.Tree.{deepest, is_exotic, tree_of}
use Rattle.typed_value.specs.Values.{Plain, Slice, absent, bit_string, list_of, number as a_number, raw, rest, unknown}
use Rattle.typed_value.specs.View.{vals_of}
use Rattle.value_text.specs.declared.lexeme.Sign.{Sign}
use Rattle.value_text.specs.declared.lexeme.Sign.TheVariants.{OpenBrace, CloseBrace, OpenBracket, CloseBracket, OpenParen, CloseParen, Less, Greater, Comma, Colon, Tilde, Caret, Bang, Percent}
use Rattle.value_text.specs.declared.lexeme.Lexeme.{Lexeme}
use Rattle.value_text.specs.declared.lexeme.Lexeme.TheVariants.{Sign as ASign, Number, Bits, Name, Hidden as AHidden, Beyond}
use Rattle.value_text.specs.Text.{cell, name_of, separated}
use Rattle.value_text.specs.Tokens.{Token, mark, number, bits, name, hidden}
use Rattle.value_text.specs.Lexemes.{sign_byte}
use Rattle.value_text.specs.Division.{lexeme_of}
use Rattle.value_grammar.specs.Open.{CellSpot, Frame, Open, OpenCell, Spot, after_entry, after_field, after_item, after_part, after_rest, at, bang, base_text, bits_due, body_text, cell_spot_text, child_due, done, due, entry_due, entry_or_end, entry_tokens, field, field_due, field_or_end, field_tokens, frame_text, frames_text, in_cell, item, item_or_end, item_tokens, keyed, labelled, named, pair, paren_due, open_cell_text, around_text, past, rest_bits, rest_child, rest_paren, so_far}
use Rattle.value_grammar.specs.declared.cause.Cause.{Cause}
use Rattle.value_grammar.specs.declared.cause.Cause.TheVariants.{DeepText, Range}
use Rattle.value_grammar.specs.Within.{IsSome, closed, closed_exotic, closed_ordinary, is_beyond}
use Rattle.value_grammar.specs.Steps.{Outcome, begin, begin_cell, begin_body, begin_rest, begin_sign, colon, entry, give_cell, give_closed, in_list, in_map, in_body, in_record, in_rest, key, key_or_end, label, label_or_end, list_or_end, move, move_cell, no_go, open_exotic, open_record, open_rest, the_map, the_record}
use Rattle.value_grammar.proofs.Texts.{HasSome, MapOrder, NoneAfter, body_text-push, cell_text, give_text, hidden-push, past-separated, separated-push}

abbrev pub token_of : Lexeme → Token
token_of (ASign s) = mark (sign_byte s)
token_of (Number n) = number n.negative n.size
token_of (Bits bs) = bits bs
token_of (Name n) = name n
token_of (AHidden h) = hidden h
token_of (Beyond form) = mark 0

sign_lexeme : (s : Sign) → lexeme_of (mark (sign_byte s)) ≡ ASign s
sign_lexeme OpenBrace = refl
sign_lexeme CloseBrace = refl
sign_lexeme OpenBracket = refl
sign_lexeme CloseBracket = refl
sign_lexeme OpenParen = refl
sign_lexeme CloseParen = refl
sign_lexeme Less = refl
sign_lexeme Greater = refl
sign_lexeme Comma = refl
sign_lexeme Colon = refl
sign_lexeme Tilde = refl
sign_lexeme Caret = refl
sign_lexeme Bang = refl
sign_lexeme Percent = refl

pub lexeme_of-token : (l : Lexeme) → is_beyond l ≡ false → lexeme_of (token_of l) ≡ l
lexeme_of-token (ASign s) h = sign_lexeme s
lexeme_of-token (Number n) h = refl
lexeme_of-token (Bits bs) h = refl
lexeme_of-token (Name n) h = refl
lexeme_of-token (AHidden k) h = refl
lexeme_of-token (Beyond form) h = absurd (cc)

abbrev pub OkThen : Outcome → (Open → Type 0) → Type 0
OkThen (Ok next) P = P next
OkThen (Err refusal) P = Unit {0}

-- what has been written, and the lexeme
abbrev pub Written : List Token → Lexeme → Open → Type 0
Written before l next = so_far next ≡ before ++ token_of l ∷ []

abbrev Adds : Outcome → List Token → Lexeme → Type 0
Adds o before l = OkThen o (Written before l)

-- ---- a value begins

begin_sign_adds : (s : Sign) (p : ℕ) (below : List Frame) → MapOrder below → Adds (begin_sign s p below) (frames_text below) (ASign s)
begin_sign_adds OpenBrace p below h = refl
begin_sign_adds Tilde p below h = give_text absent below h
begin_sign_adds OpenBracket p below h = refl
begin_sign_adds Caret p below h = append-nil (frames_text below ++ mark 94 ∷ [])
begin_sign_adds Less p below h = refl
begin_sign_adds OpenParen p below h = refl
begin_sign_adds Bang p below h = refl
begin_sign_adds Percent p below h = refl
begin_sign_adds s p below h = tt

begin_adds : (l : Lexeme) (p : ℕ) (below : List Frame) → MapOrder below → Adds (begin l p below) (frames_text below) l
begin_adds (ASign s) p below h = begin_sign_adds s p below h
begin_adds (Number n) p below h = give_text (a_number n.negative n.size) below h
begin_adds (Bits bs) p below h = give_text (bit_string bs) below h
begin_adds (Name n) p below h = by_name (bytes_eq n (codes "x"))
  where
    by_name : (b : Bool) → Adds (if b then no_go p else Ok (at (named n) below)) (frames_text below) (Name n)
    by_name true = tt
    by_name false = refl
begin_adds (AHidden k) p below h = give_text (unknown k) below h
begin_adds (Beyond form) p below h = tt

-- ---- lists

list_adds : (l : Lexeme) (p : ℕ) (below : List Frame) → MapOrder below → Adds (list_or_end l p below) (frames_text below ++ mark 91 ∷ []) l
list_adds (ASign CloseBracket) p below h = give_text (list_of (vals_of [])) below h ∙ sym (append_assoc (frames_text below) (mark 91 ∷ []) (mark 93 ∷ []))
list_adds (ASign OpenBrace) p below h = begin_adds (ASign OpenBrace) p (item [] ∷ below) h
list_adds (ASign Tilde) p below h = begin_adds (ASign Tilde) p (item [] ∷ below) h
list_adds (ASign OpenBracket) p below h = begin_adds (ASign OpenBracket) p (item [] ∷ below) h
list_adds (ASign Caret) p below h = begin_adds (ASign Caret) p (item [] ∷ below) h
list_adds (ASign Less) p below h = begin_adds (ASign Less) p (item [] ∷ below) h
list_adds (ASign OpenParen) p below h = begin_adds (ASign OpenParen) p (item [] ∷ below) h
list_adds (ASign Bang) p below h = begin_adds (ASign Bang) p (item [] ∷ below) h
list_adds (ASign Percent) p below h = begin_adds (ASign Percent) p (item [] ∷ below) h
list_adds (ASign CloseBrace) p below h = tt
list_adds (ASign CloseParen) p below h = tt
list_adds (ASign Greater) p below h = tt
list_adds (ASign Comma) p below h = tt
list_adds (ASign Colon) p below h = tt
list_adds (Number n) p below h = begin_adds (Number n) p (item [] ∷ below) h
list_adds (Bits bs) p below h = begin_adds (Bits bs) p (item [] ∷ below) h
list_adds (Name n) p below h = begin_adds (Name n) p (item [] ∷ below) h
list_adds (AHidden k) p below h = begin_adds (AHidden k) p (item [] ∷ below) h
list_adds (Beyond form) p below h = tt

some_items : (vs : List Plain) → IsSome vs → HasSome (item_tokens vs)
some_items [] h = absurd h
some_items (v ∷ vs) h = tt

some_fields : (fs : List (List ℕ × Plain)) → IsSome fs → HasSome (field_tokens fs)
some_fields [] h = absurd h
some_fields (f ∷ fs) h = tt

-- a comma after parts of a bracket
comma_after : (b a : List Token) (es : List (List Token)) → HasSome es → b ++ (a ++ past es) ≡ (b ++ (a ++ separated es)) ++ mark 44 ∷ []
comma_after b a es h = ap (λ (l : List Token). b ++ (a ++ l)) (past-separated es h) ∙ simp append_assoc refl

in_list_adds : (vs : List Plain) (l : Lexeme) (p : ℕ) (below : List Frame) → IsSome vs → MapOrder below
    → Adds (in_list vs l p below) (frames_text below ++ mark 91 ∷ separated (item_tokens vs)) l
in_list_adds vs (ASign Comma) p below s h =
    append-nil (frames_text below ++ mark 91 ∷ past (item_tokens vs)) ∙ comma_after (frames_text below) (mark 91 ∷ []) (item_tokens vs) (some_items vs s)
in_list_adds vs (ASign CloseBracket) p below s h =
    give_text (list_of (vals_of vs)) below h ∙ sym (append_assoc (frames_text below) (mark 91 ∷ separated (item_tokens vs)) (mark 93 ∷ []))
in_list_adds vs l p below s h = tt

-- ---- records

open_record_adds : (n : List ℕ) (l : Lexeme) (p : ℕ) (below : List Frame) → Adds (open_record n l p below) (frames_text below ++ name n ∷ []) l
open_record_adds n (ASign OpenBrace) p below = sym (append_assoc (frames_text below) (name n ∷ []) (mark 123 ∷ []))
open_record_adds n l p below = tt

label_adds : (n : Option (List ℕ)) (fs : List (List ℕ × Plain)) (l : Lexeme) (p : ℕ) (below : List Frame)
    → Adds (label n fs l p below) (frames_text below ++ (name_of n ++ mark 123 ∷ past (field_tokens fs))) l
label_adds n fs (Name x) p below = sym (append_assoc (frames_text below) (name_of n ++ mark 123 ∷ past (field_tokens fs)) (name x ∷ []))
label_adds n fs l p below = tt

record_adds : (n : Option (List ℕ)) (l : Lexeme) (p : ℕ) (below : List Frame) → MapOrder below
    → Adds (label_or_end n l p below) (frames_text below ++ (name_of n ++ mark 123 ∷ [])) l
record_adds n (ASign CloseBrace) p below h =
    give_text (the_record n []) below h ∙ sym (append_assoc (frames_text below) (name_of n ++ mark 123 ∷ []) (mark 125 ∷ []))
record_adds n (Name x) p below h = label_adds n [] (Name x) p below
record_adds n l p below h = tt

colon_adds : (n : Option (List ℕ)) (fs : List (List ℕ × Plain)) (x : List ℕ) (l : Lexeme) (p : ℕ) (below : List Frame)
    → Adds (colon n fs x l p below) (frames_text below ++ (name_of n ++ mark 123 ∷ past (field_tokens fs) ++ name x ∷ [])) l
colon_adds n fs x (ASign Colon) p below =
    append-nil (frames_text below ++ frame_text (field n fs x)) ∙ simp append_assoc refl
colon_adds n fs x l p below = tt

in_record_adds : (n : Option (List ℕ)) (fs : List (List ℕ × Plain)) (l : Lexeme) (p : ℕ) (below : List Frame) → IsSome fs → MapOrder below
    → Adds (in_record n fs l p below) (frames_text below ++ (name_of n ++ mark 123 ∷ separated (field_tokens fs))) l
in_record_adds n fs (ASign Comma) p below s h =
    ap (λ (l : List Token). frames_text below ++ l) (sym (append_assoc (name_of n) (mark 123 ∷ []) (past (field_tokens fs))))
    ∙ comma_after (frames_text below) (name_of n ++ mark 123 ∷ []) (field_tokens fs) (some_fields fs s)
    ∙ ap (λ (l : List Token). (frames_text below ++ l) ++ mark 44 ∷ []) (append_assoc (name_of n) (mark 123 ∷ []) (separated (field_tokens fs)))
in_record_adds n fs (ASign CloseBrace) p below s h =
    give_text (the_record n fs) below h
    ∙ sym (append_assoc (frames_text below) (name_of n ++ mark 123 ∷ separated (field_tokens fs)) (mark 125 ∷ []))
in_record_adds n fs l p below s h = tt

-- ---- maps

key_adds : (ps : List (List ℕ × Plain)) (us : List (List ℕ × Hidden)) (l : Lexeme) (p : ℕ) (below : List Frame)
    → Adds (key ps us l p below) (frames_text below ++ mark 60 ∷ past (entry_tokens ps us)) l
key_adds ps us (Bits k) p below = sym (append_assoc (frames_text below) (mark 60 ∷ past (entry_tokens ps us)) (bits k ∷ []))
key_adds ps us l p below = tt

map_adds : (l : Lexeme) (p : ℕ) (below : List Frame) → MapOrder below → Adds (key_or_end l p below) (frames_text below ++ mark 60 ∷ []) l
map_adds (ASign Greater) p below h = give_text (the_map [] []) below h ∙ sym (append_assoc (frames_text below) (mark 60 ∷ []) (mark 62 ∷ []))
map_adds (Bits k) p below h = key_adds [] [] (Bits k) p below
map_adds l p below h = tt

entry_adds : (ps : List (List ℕ × Plain)) (us : List (List ℕ × Hidden)) (k : List ℕ) (l : Lexeme) (p : ℕ) (below : List Frame) → NoneAfter ps k
    → Adds (entry ps us k l p below) (frames_text below ++ (mark 60 ∷ past (entry_tokens ps us) ++ bits k ∷ [])) l
entry_adds ps us k (ASign Colon) p below n =
    append-nil (frames_text below ++ frame_text (pair ps us k)) ∙ simp append_assoc refl
entry_adds ps us k (AHidden h) p below n =
    ap (λ (es : List (List Token)). frames_text below ++ mark 60 ∷ separated es) (hidden-push ps us k h n)
    ∙ ap (λ (l : List Token). frames_text below ++ mark 60 ∷ l) (separated-push (entry_tokens ps us) (bits k ∷ hidden h ∷ []))
    ∙ simp append_assoc refl
entry_adds ps us k l p below n = tt

in_map_adds : (ps : List (List ℕ × Plain)) (us : List (List ℕ × Hidden)) (last : List ℕ) (l : Lexeme) (p : ℕ) (below : List Frame)
    → HasSome (entry_tokens ps us) → MapOrder below
    → Adds (in_map ps us last l p below) (frames_text below ++ mark 60 ∷ separated (entry_tokens ps us)) l
in_map_adds ps us last (ASign Comma) p below s h = comma_after (frames_text below) (mark 60 ∷ []) (entry_tokens ps us) s
in_map_adds ps us last (ASign Greater) p below s h =
    give_text (the_map ps us) below h ∙ sym (append_assoc (frames_text below) (mark 60 ∷ separated (entry_tokens ps us)) (mark 62 ∷ []))
in_map_adds ps us last l p below s h = tt

-- ---- what is left of a cell

open_rest_adds : (l : Lexeme) (p : ℕ) (below : List Frame) → Adds (open_rest l p below) (frames_text below ++ mark 37 ∷ []) l
open_rest_adds (ASign OpenParen) p below = sym (append_assoc (frames_text below) (mark 37 ∷ []) (mark 40 ∷ []))
open_rest_adds l p below = tt

begin_rest_adds : (l : Lexeme) (p : ℕ) (below : List Frame) → Adds (begin_rest l p below) (frames_text below ++ mark 37 ∷ mark 40 ∷ []) l
begin_rest_adds (Bits bs) p below = sym (append_assoc (frames_text below) (mark 37 ∷ mark 40 ∷ []) (bits bs ∷ []))
begin_rest_adds l p below = tt

in_rest_adds : (r : Slice) (l : Lexeme) (p : ℕ) (below : List Frame) → MapOrder below
    → Adds (in_rest r l p below) (frames_text below ++ mark 37 ∷ body_text r.bits r.refs) l
in_rest_adds r (ASign Comma) p below h = sym (append_assoc (frames_text below) (mark 37 ∷ body_text r.bits r.refs) (mark 44 ∷ []))
in_rest_adds r (ASign CloseParen) p below h =
    give_text (rest r) below h ∙ sym (append_assoc (frames_text below) (mark 37 ∷ body_text r.bits r.refs) (mark 41 ∷ []))
in_rest_adds r l p below h = tt

-- ---- cells

-- what is around a cell
abbrev around : Option Slice → List OpenCell → List Frame → List Token
around base ps below = frames_text below ++ (base_text base ++ around_text ps)

inner : (base : Option Slice) (ps : List OpenCell) (below : List Frame) (c t : List Token)
    → frames_text below ++ (base_text base ++ around_text ps ++ (c ++ t)) ≡ (frames_text below ++ (base_text base ++ around_text ps ++ c)) ++ t
inner base ps below c t = simp append_assoc refl

begin_cell_adds : (base : Option Slice) (ps : List OpenCell) (l : Lexeme) (p : ℕ) (below : List Frame)
    → Adds (begin_cell base ps l p below) (around base ps below) l
begin_cell_adds base ps (ASign OpenParen) p below = sym (append_assoc (frames_text below) (base_text base ++ around_text ps) (mark 40 ∷ []))
begin_cell_adds base ps (ASign Bang) p below = sym (append_assoc (frames_text below) (base_text base ++ around_text ps) (mark 33 ∷ []))
begin_cell_adds base ps l p below = tt

open_exotic_adds : (base : Option Slice) (ps : List OpenCell) (l : Lexeme) (p : ℕ) (below : List Frame)
    → Adds (open_exotic base ps l p below) (frames_text below ++ (base_text base ++ around_text ps ++ mark 33 ∷ [])) l
open_exotic_adds base ps (ASign OpenParen) p below = inner base ps below (mark 33 ∷ []) (mark 40 ∷ [])
open_exotic_adds base ps l p below = tt

begin_body_adds : (base : Option Slice) (ps : List OpenCell) (exotic : Bool) (paren : ℕ) (l : Lexeme) (p : ℕ) (below : List Frame)
    → Adds (begin_body base ps exotic paren l p below) (frames_text below ++ (base_text base ++ around_text ps ++ (bang exotic ++ mark 40 ∷ []))) l
begin_body_adds base ps exotic paren (Bits bs) p below =
    ap (λ (l : List Token). frames_text below ++ (base_text base ++ around_text ps ++ l)) (sym (append_assoc (bang exotic) (mark 40 ∷ []) (bits bs ∷ [])))
    ∙ inner base ps below (bang exotic ++ mark 40 ∷ []) (bits bs ∷ [])
begin_body_adds base ps exotic paren l p below = tt

abbrev IfMade : Result Tree Cause → (Tree → Type 0) → Type 0
IfMade (Ok t) P = P t
IfMade (Err cause) P = Unit {0}

IfMade_test : (b : Bool) (x : Result Tree Cause) (c : Cause) (P : Tree → Type 0) → IfMade x P → IfMade (if b then Err c else x) P
IfMade_test true x c P h = tt
IfMade_test false x c P h = h

-- a cell's text, once it is closed
ordinary_text : (bs : List ℕ) (refs : List Tree) → IfMade (closed_ordinary bs refs) (λ t. cell t ≡ (bang false ++ body_text bs refs) ++ mark 41 ∷ [])
ordinary_text bs refs =
    let P : Tree → Type 0 = λ t. cell t ≡ (bang false ++ body_text bs refs) ++ mark 41 ∷ [] in
    IfMade_test (nat_lt 1024 (deepest (tree_of Ordinary bs refs))) (if nat_lt 4 (length refs) then Err Range else Ok (tree_of Ordinary bs refs)) DeepText P
    (IfMade_test (nat_lt 4 (length refs)) (Ok (tree_of Ordinary bs refs)) Range P (cell_text false Ordinary bs refs refl))

exotic_text : (k : Option Kind) (bs : List ℕ) (refs : List Tree) → ((kind : Kind) → k ≡ Some kind → is_exotic kind ≡ true)
    → IfMade (closed_exotic k bs refs) (λ t. cell t ≡ (bang true ++ body_text bs refs) ++ mark 41 ∷ [])
exotic_text None bs refs h = tt
exotic_text (Some kind) bs refs h =
    IfMade_test (nat_lt 1024 (deepest (tree_of kind bs refs))) (Ok (tree_of kind bs refs)) DeepText
    (λ t. cell t ≡ (bang true ++ body_text bs refs) ++ mark 41 ∷ []) (cell_text true kind bs refs (h kind refl))

exotic_test : (b : Bool) (k kind : Kind) (other : Option Kind) → is_exotic k ≡ true → (other ≡ Some kind → is_exotic kind ≡ true)
    → (if b then Some k else other) ≡ Some kind → is_exotic kind ≡ true
exotic_test true k kind other h g e = let same : k ≡ kind = cc in ap is_exotic (sym same) ∙ h
exotic_test false k kind other h g e = g e

pub kind_exotic : (bs : List ℕ) (n : ℕ) (kind : Kind) → exotic_kind bs n ≡ Some kind → is_exotic kind ≡ true
kind_exotic bs n kind =
    exotic_test (has_layout Pruned bs n) Pruned kind _ refl
    (exotic_test (has_layout Library bs n) Library kind _ refl
    (exotic_test (has_layout Proof bs n) Proof kind _ refl
    (exotic_test (has_layout Update bs n) Update kind None refl (λ e. absurd (cc)))))

whole_text : (exotic : Bool) (bs : List ℕ) (refs : List Tree)
    → IfMade (if exotic then closed_exotic (exotic_kind bs (length refs)) bs refs else closed_ordinary bs refs) (λ t. cell t ≡ (bang exotic ++ body_text bs refs) ++ mark 41 ∷ [])
whole_text true bs refs = exotic_text (exotic_kind bs (length refs)) bs refs (kind_exotic bs (length refs))
whole_text false bs refs = ordinary_text bs refs

pub closed_text : (p : OpenCell) → IfMade (closed p) (λ t. cell t ≡ (bang p.exotic ++ body_text p.bits p.refs) ++ mark 41 ∷ [])
closed_text p = whole_text p.exotic p.bits p.refs

-- one more reference, after a comma
push_text : (f b p g m c : List Token) → f ++ (b ++ p ++ (g ++ (m ++ mark 44 ∷ c))) ≡ (f ++ (b ++ (p ++ (g ++ m ++ mark 44 ∷ [])))) ++ c
push_text f b p g m c = simp append_assoc refl

-- a whole cell in what is around it
give_cell_text : (t : Tree) (base : Option Slice) (ps : List OpenCell) (below : List Frame) → MapOrder below
    → so_far (give_cell t base ps below) ≡ around base ps below ++ cell t
give_cell_text t base (q ∷ qs) below h =
    ap (λ (l : List Token). frames_text below ++ (base_text base ++ around_text qs ++ (bang q.exotic ++ l))) (body_text-push q.bits q.refs t)
    ∙ push_text (frames_text below) (base_text base) (around_text qs) (bang q.exotic) (body_text q.bits q.refs) (cell t)
give_cell_text t None [] below h = give_text (raw t) below h ∙ ap (λ (l : List Token). l ++ cell t) (sym (append-nil (frames_text below)))
give_cell_text t (Some r) [] below h =
    let e : frames_text below ++ mark 37 ∷ (body_text r.bits r.refs ++ mark 44 ∷ cell t) ≡ (frames_text below ++ base_text (Some r)) ++ cell t =
    simp append_assoc refl in
    ap (λ (l : List Token). frames_text below ++ mark 37 ∷ l) (body_text-push r.bits r.refs t) ∙ e
    ∙ ap (λ (l : List Token). (frames_text below ++ l) ++ cell t) (sym (append-nil (base_text (Some r))))

give_closed_adds : (r : Result Tree Cause) (c : List Token) (paren : ℕ) (base : Option Slice) (ps : List OpenCell) (below : List Frame) → MapOrder below
    → IfMade r (λ t. cell t ≡ c ++ mark 41 ∷ [])
    → Adds (give_closed r paren base ps below) (frames_text below ++ (base_text base ++ around_text ps ++ c)) (ASign CloseParen)
give_closed_adds (Ok t) c paren base ps below h e =
    give_cell_text t base ps below h ∙ ap (λ (l : List Token). around base ps below ++ l) e ∙ simp append_assoc refl
give_closed_adds (Err cause) c paren base ps below h e = tt

in_body_adds : (base : Option Slice) (ps : List OpenCell) (q : OpenCell) (l : Lexeme) (p : ℕ) (below : List Frame) → MapOrder below
    → Adds (in_body base ps q l p below) (frames_text below ++ (base_text base ++ around_text ps ++ (bang q.exotic ++ body_text q.bits q.refs))) l
in_body_adds base ps q (ASign Comma) p below h = inner base ps below (bang q.exotic ++ body_text q.bits q.refs) (mark 44 ∷ [])
in_body_adds base ps q (ASign CloseParen) p below h =
    give_closed_adds (closed q) (bang q.exotic ++ body_text q.bits q.refs) q.place base ps below h (closed_text q)
in_body_adds base ps q l p below h = tt

child_adds : (base : Option Slice) (ps : List OpenCell) (q : OpenCell) (l : Lexeme) (p : ℕ) (below : List Frame)
    → Adds (begin_cell base (q ∷ ps) l p below) (frames_text below ++ (base_text base ++ around_text ps ++ open_cell_text q)) l
child_adds base ps q l p below =
    let P : List Token → Type 0 = λ t. Adds (begin_cell base (q ∷ ps) l p below) (frames_text below ++ t) l in
    subst P (sym (append_assoc (base_text base) (around_text ps) (open_cell_text q))) (begin_cell_adds base (q ∷ ps) l p below)

rest_child_adds : (r : Slice) (l : Lexeme) (p : ℕ) (below : List Frame)
    → Adds (begin_cell (Some r) [] l p below) (frames_text below ++ (mark 37 ∷ body_text r.bits r.refs ++ mark 44 ∷ [])) l
rest_child_adds r l p below =
    let P : List Token → Type 0 = λ t. Adds (begin_cell (Some r) [] l p below) (frames_text below ++ t) l in
    subst P (append-nil (base_text (Some r))) (begin_cell_adds (Some r) [] l p below)

cell_adds : (base : Option Slice) (ps : List OpenCell) (c : CellSpot) (l : Lexeme) (p : ℕ) (below : List Frame) → MapOrder below
    → Adds (move_cell base ps c l p below) (frames_text below ++ (base_text base ++ around_text ps ++ cell_spot_text c)) l
cell_adds base ps paren_due l p below h = open_exotic_adds base ps l p below
cell_adds base ps (bits_due exotic paren) l p below h = begin_body_adds base ps exotic paren l p below
cell_adds base ps (after_part q) l p below h = in_body_adds base ps q l p below h
cell_adds base ps (child_due q) l p below h = child_adds base ps q l p below

-- ---- every step

-- what the spot's own parts have to be
abbrev pub Ready : Spot → Type 0
Ready (after_item vs) = IsSome vs
Ready (after_field n fs) = IsSome fs
Ready (keyed ps us k) = NoneAfter ps k
Ready (after_entry ps us last) = HasSome (entry_tokens ps us)
Ready spot = Unit {0}

pub adds : (spot : Spot) (l : Lexeme) (p : ℕ) (below : List Frame) → Ready spot → MapOrder below → Adds (move spot l p below) (so_far (at spot below)) l
adds due l p below r h =
    let P : List Token → Type 0 = λ t. Adds (begin l p below) t l in
    subst P (sym (append-nil (frames_text below))) (begin_adds l p below h)
adds item_or_end l p below r h = list_adds l p below h
adds (after_item vs) l p below r h = in_list_adds vs l p below r h
adds (named n) l p below r h = open_record_adds n l p below
adds (field_or_end n) l p below r h = record_adds n l p below h
adds (field_due n fs) l p below r h = label_adds n fs l p below
adds (labelled n fs x) l p below r h = colon_adds n fs x l p below
adds (after_field n fs) l p below r h = in_record_adds n fs l p below r h
adds entry_or_end l p below r h = map_adds l p below h
adds (entry_due ps us last) l p below r h = key_adds ps us l p below
adds (keyed ps us k) l p below r h = entry_adds ps us k l p below r
adds (after_entry ps us last) l p below r h = in_map_adds ps us last l p below r h
adds rest_paren l p below r h = open_rest_adds l p below
adds rest_bits l p below r h = begin_rest_adds l p below
adds (after_rest s) l p below r h = in_rest_adds s l p below h
adds (rest_child s) l p below r h = rest_child_adds s l p below
adds (in_cell base ps c) l p below r h = cell_adds base ps c l p below h
adds (done v) l p below r h = tt
