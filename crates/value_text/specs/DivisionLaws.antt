-- A text that has the tokens, with white space between, is divided into them; and one that is divided into them has them.
use Rattle.std.proofs.Common.{◌≡◌, ◌≢◌, ◌⊎◌, inl, inr, ⊎_elim, ℕ, zero, suc, ◌+◌, ◌-◌, ◌<◌, ◌≤◌, ◌==◌, Bool, true, false, List, [], ◌∷◌, ◌++◌, length, take, drop, map, Option, Some, None, refl, sym, ap, ◌∙◌, subst, arith, append_assoc, append-nil, codes, cond, IsTrue, length-append}
use Rattle.std.specs.List.{list_all, prefix_len}
use Rattle.std.proofs.lemmas.Bool.{and_parts, cases_Bool}
use Rattle.std.proofs.lemmas.List.{drop_at, take-append-drop}
use Rattle.value_text.specs.declared.lexeme.Sign.{Sign}
use Rattle.value_text.specs.declared.lexeme.Lexeme.{Lexeme}
use Rattle.value_text.specs.declared.lexeme.Lexeme.TheVariants.{Sign as ASign, Number, Bits, Name, Hidden as AHidden, Beyond}
use Rattle.cell_nodes.specs.declared.tree.Hidden.{Hidden}
use Rattle.value_text.specs.Tokens.{Token, mark, number, bits, name, hidden, spelling}
use Rattle.value_text.specs.Writes.{AreFew, AreSpaces, IsHidden, Spaced, is_space}
use Rattle.value_text.specs.Lexemes.{Spells, Stands, sign_byte}
use Rattle.value_text.specs.LexemePoints.{sign_at}
use Rattle.value_text.specs.Division.{Divides, Placed, lexeme_of, lexemes, none, one, sign_or, space_before, without_space}
use Rattle.value_text.specs.LexemeKeptLaws.{sign_at-byte}
use Rattle.value_text.specs.OneLexemeLaws.{spells_one}
use Rattle.value_text.specs.SeparateLaws.{Apart, FirstByte, IsApart, apart_byte, apart_end, first_byte, hidden_apart, sign_apart, space_apart, stands_apart, stands_sign}

-- ---- tokens that can stand one after another

pub record IsMark (b : ℕ) : Type 0 where
  pub sign : Sign
  pub byte : b ≡ sign_byte sign

-- a token is within its limits
abbrev pub IsToken : Token → Type 0
IsToken (mark b) = IsMark b
IsToken (number negative size) = Spells (lexeme_of (number negative size)) (spelling (number negative size))
IsToken (bits bs) = AreFew bs
IsToken (name n) = Spells (Name n) n
IsToken (hidden h) = IsHidden h

mark_lexeme : (b : ℕ) (h : IsMark b) → lexeme_of (mark b) ≡ ASign h.sign
mark_lexeme b h = ap (λ (x : ℕ). ASign (sign_or (sign_at x))) h.byte ∙ ap (λ (o : Option Sign). ASign (sign_or o)) (sign_at-byte h.sign)

pub token_spells : (t : Token) → IsToken t → Spells (lexeme_of t) (spelling t)
token_spells (mark b) h = let P : Lexeme → Type 0 = λ l. Spells l (b ∷ []) in subst P (sym (mark_lexeme b h)) (ap (λ (x : ℕ). x ∷ []) h.byte)
token_spells (number negative size) h = h
token_spells (bits bs) h = (h, refl)
token_spells (name n) h = h
token_spells (hidden k) h = (h, refl)

-- after a number, a name or a hidden part comes a sign, and after bits a sign or a hidden part; no `{` comes after `x`
abbrev pub Follows : Token → Token → Type 0
Follows (mark b) u = Unit {0}
Follows (number negative size) (mark b) = Unit {0}
Follows (number negative size) u = ⊥
Follows (bits bs) (mark b) = Unit {0}
Follows (bits bs) (hidden h) = Unit {0}
Follows (bits bs) u = ⊥
Follows (name n) (mark b) = n ≡ codes "x" → b ≢ 123
Follows (name n) u = ⊥
Follows (hidden h) (mark b) = Unit {0}
Follows (hidden h) u = ⊥

abbrev pub AreTokens : List Token → Type 0
AreTokens [] = Unit {0}
AreTokens (t ∷ ts) = IsToken t × AreTokens ts

abbrev pub AreApart : List Token → Type 0
AreApart [] = Unit {0}
AreApart (t ∷ []) = Unit {0}
AreApart (t ∷ u ∷ ts) = Follows t u × AreApart (u ∷ ts)

-- ---- what comes after a token

-- the first byte after it: none, white space, or that of the next token
data Begins (ts : List Token) (after : List ℕ) : Type 0 where
  ended : after ≡ [] → Begins ts after
  spaced : (c : ℕ) (cs : List ℕ) → after ≡ c ∷ cs → is_space c ≡ true → Begins ts after
  token : (t : Token) (us : List Token) (more : List ℕ) → ts ≡ t ∷ us → after ≡ spelling t ++ more → Begins ts after

spaces_begin : (ts : List Token) (spaces rest after : List ℕ) → AreSpaces spaces → after ≡ spaces ++ rest
    → (spaces ≡ [] → Begins ts after) → Begins ts after
spaces_begin ts [] rest after h e f = f refl
spaces_begin ts (c ∷ cs) rest after h e f = spaced c (cs ++ rest) e (and_parts (is_space c) (list_all is_space cs) h).0

begins : (ts : List Token) (after : List ℕ) → Spaced ts after → Begins ts after
begins [] after h = spaces_begin [] after [] after h (sym (append-nil after)) (λ e. ended e)
begins (t ∷ ts) after (spaces, more, e, s, k) =
    spaces_begin (t ∷ ts) spaces (spelling t ++ more) after s e'
    (λ z. token t ts more refl (e' ∙ ap (λ (l : List ℕ). l ++ (spelling t ++ more)) z))
  where
    e' : after ≡ spaces ++ (spelling t ++ more)
    e' = e ∙ append_assoc spaces (spelling t) more

record FirstSign (after : List ℕ) : Type 0 where
  sign : Sign
  later : List ℕ
  whole : after ≡ sign_byte sign ∷ later

-- before a sign
by_sign : (bytes after : List ℕ) (s : Sign) (cs : List ℕ) → after ≡ sign_byte s ∷ cs → (bytes ≡ 120 ∷ [] → sign_byte s ≢ 123) → Apart bytes after
by_sign bytes after s cs e n = apart_byte (sign_byte s) cs e (sign_apart s) n

by_space : (bytes after : List ℕ) (c : ℕ) (cs : List ℕ) → after ≡ c ∷ cs → is_space c ≡ true → Apart bytes after
by_space bytes after c cs e h = apart_byte c cs e (space_apart c h) (λ _ f. let no : is_space 123 ≡ true = ap is_space (sym f) ∙ h in absurd (cc))

by_mark : (bytes after : List ℕ) (b : ℕ) (more : List ℕ) → IsMark b → after ≡ b ∷ more → (bytes ≡ 120 ∷ [] → b ≢ 123) → Apart bytes after
by_mark bytes after b more m e n =
    by_sign bytes after m.sign more (e ∙ ap (λ (x : ℕ). x ∷ more) m.byte) (λ z f. n z (m.byte ∙ f))

by_hidden : (bytes after more : List ℕ) → after ≡ 63 ∷ more → Apart bytes after
by_hidden bytes after more e = apart_byte 63 more e hidden_apart (λ _ f. absurd (omega arith))

number_not_x : (negative : Bool) (size : ℕ) → IsToken (number negative size) → spelling (number negative size) ≡ 120 ∷ [] → ⊥
number_not_x negative size h z = no_name (spells_one (120 ∷ []) (Number (record { negative = negative; size = size })) (Name (120 ∷ [])) (h.0, sym z) (refl, refl))
  where
    no_name : Number (record { negative = negative; size = size }) ≡ Name (120 ∷ []) → ⊥
    no_name e = cc

bits_not_x : (text : List ℕ) → 120 ∷ 123 ∷ text ≡ 120 ∷ [] → ⊥
bits_not_x text e = cc

hidden_not_x : (text : List ℕ) → 63 ∷ text ≡ 120 ∷ [] → ⊥
hidden_not_x text e = cc

number_next : (negative : Bool) (size : ℕ) (u : Token) (after more : List ℕ) → IsToken (number negative size) → IsToken u
    → Follows (number negative size) u → after ≡ spelling u ++ more → Apart (spelling (number negative size)) after
number_next negative size (mark b) after more h k f e =
    by_mark (spelling (number negative size)) after b more k e (λ z. absurd (number_not_x negative size h z))
number_next negative size (number n s) after more h k f e = absurd f
number_next negative size (bits bs) after more h k f e = absurd f
number_next negative size (name n) after more h k f e = absurd f
number_next negative size (hidden p) after more h k f e = absurd f

bits_next : (bs : List ℕ) (u : Token) (after more : List ℕ) → IsToken u → Follows (bits bs) u → after ≡ spelling u ++ more
    → Apart (spelling (bits bs)) after
bits_next bs (mark b) after more k f e = by_mark (spelling (bits bs)) after b more k e (λ z. absurd (bits_not_x _ z))
bits_next bs (number n s) after more k f e = absurd f
bits_next bs (bits cs) after more k f e = absurd f
bits_next bs (name n) after more k f e = absurd f
bits_next bs (hidden p) after more k f e = by_hidden (spelling (bits bs)) after _ e

name_next : (n : List ℕ) (u : Token) (after more : List ℕ) → IsToken u → Follows (name n) u → after ≡ spelling u ++ more → Apart n after
name_next n (mark b) after more k f e = by_mark n after b more k e f
name_next n (number a s) after more k f e = absurd f
name_next n (bits bs) after more k f e = absurd f
name_next n (name a) after more k f e = absurd f
name_next n (hidden p) after more k f e = absurd f

hidden_next : (p : Hidden) (u : Token) (after more : List ℕ) → IsToken u → Follows (hidden p) u → after ≡ spelling u ++ more
    → Apart (spelling (hidden p)) after
hidden_next p (mark b) after more k f e = by_mark (spelling (hidden p)) after b more k e (λ z. absurd (hidden_not_x _ z))
hidden_next p (number n s) after more k f e = absurd f
hidden_next p (bits bs) after more k f e = absurd f
hidden_next p (name n) after more k f e = absurd f
hidden_next p (hidden q) after more k f e = absurd f

-- a token other than a sign is apart from what comes after
abbrev IsNoMark : Token → Type 0
IsNoMark (mark b) = ⊥
IsNoMark t = Unit {0}

next_apart : (t u : Token) (after more : List ℕ) → IsNoMark t → IsToken t → IsToken u → Follows t u → after ≡ spelling u ++ more → Apart (spelling t) after
next_apart (mark b) u after more m h k f e = absurd m
next_apart (number negative size) u after more m h k f e = number_next negative size u after more h k f e
next_apart (bits bs) u after more m h k f e = bits_next bs u after more k f e
next_apart (name n) u after more m h k f e = name_next n u after more k f e
next_apart (hidden p) u after more m h k f e = hidden_next p u after more k f e

token_apart : (t : Token) (ts : List Token) (after : List ℕ) → IsNoMark t → IsToken t → AreTokens ts → AreApart (t ∷ ts) → Begins ts after → Apart (spelling t) after
token_apart t ts after m h k a (ended e) = apart_end e
token_apart t ts after m h k a (spaced c cs e s) = by_space (spelling t) after c cs e s
token_apart t [] after m h k a (token u us more e f) = absurd (cc)
token_apart t (v ∷ vs) after m h k a (token u us more e f) =
    let same : v ≡ u = cc in
    let P : Token → Type 0 = λ x. after ≡ spelling x ++ more in
    next_apart t v after more m h k.0 a.0 (subst P (sym same) f)

-- a token stands where it is apart
abbrev StandsThere : Token → List ℕ → Type 0
StandsThere t after = Stands (lexeme_of t) (length (spelling t)) (spelling t ++ after)

mark_stands : (b : ℕ) (after : List ℕ) → IsMark b → StandsThere (mark b) after
mark_stands b after h =
    let P : Lexeme → Type 0 = λ l. Stands l 1 (b ∷ after) in
    let Q : ℕ → Type 0 = λ x. Stands (ASign h.sign) 1 (x ∷ after) in
    subst P (sym (mark_lexeme b h)) (subst Q (sym h.byte) (stands_sign h.sign after))

token_stands : (t : Token) (ts : List Token) (after : List ℕ) → IsToken t → AreTokens ts → AreApart (t ∷ ts) → Begins ts after → StandsThere t after
token_stands (mark b) ts after h k a g = mark_stands b after h
token_stands (number negative size) ts after h k a g =
    stands_apart (lexeme_of (number negative size)) (spelling (number negative size)) after h (token_apart (number negative size) ts after tt h k a g)
token_stands (bits bs) ts after h k a g = stands_apart (Bits bs) (spelling (bits bs)) after (h, refl) (token_apart (bits bs) ts after tt h k a g)
token_stands (name n) ts after h k a g = stands_apart (Name n) n after h (token_apart (name n) ts after tt h k a g)
token_stands (hidden p) ts after h k a g = stands_apart (AHidden p) (spelling (hidden p)) after (h, refl) (token_apart (hidden p) ts after tt h k a g)

-- ---- white space before a token

space_is : (spaces : List ℕ) (c : ℕ) (cs : List ℕ) → AreSpaces spaces → is_space c ≡ false → space_before (spaces ++ c ∷ cs) ≡ length spaces
space_is [] c cs h n = ap (λ (b : Bool). cond b (1 + prefix_len is_space cs) 0) n
space_is (d ∷ ds) c cs h n =
    let p = and_parts (is_space d) (list_all is_space ds) h in
    ap (λ (b : Bool). cond b (1 + prefix_len is_space (ds ++ c ∷ cs)) 0) p.0 ∙ ap (λ (k : ℕ). 1 + k) (space_is ds c cs p.1 n) ∙ omega arith

space_whole : (spaces : List ℕ) → AreSpaces spaces → space_before spaces ≡ length spaces
space_whole [] h = refl
space_whole (d ∷ ds) h =
    let p = and_parts (is_space d) (list_all is_space ds) h in
    ap (λ (b : Bool). cond b (1 + prefix_len is_space ds) 0) p.0 ∙ ap (λ (k : ℕ). 1 + k) (space_whole ds p.1) ∙ omega arith

spaces_taken : (text : List ℕ) → AreSpaces (take (space_before text) text)
spaces_taken [] = refl
spaces_taken (c ∷ cs) =
    elim (is_space c) as (λ b. is_space c ≡ b → list_all is_space (take (cond b (1 + prefix_len is_space cs) 0) (c ∷ cs)) ≡ true) [
      | true ↦ λ e. let one : 1 + prefix_len is_space cs ≡ suc (prefix_len is_space cs) = omega arith in rw (one, e) (spaces_taken cs)
      | false ↦ λ e. refl
    ] refl

-- ---- from tokens to the division

pub record DividedInto (place : ℕ) (text : List ℕ) (ts : List Token) : Type 0 where
  pub ls : List Placed
  pub end : ℕ
  pub rest : List ℕ
  pub divides : Divides place text ls end rest
  pub are_tokens : lexemes ls ≡ map lexeme_of ts
  pub spaces : AreSpaces rest

one_token : (place : ℕ) (text : List ℕ) (t : Token) (ts : List Token) (spaces after : List ℕ) → text ≡ spaces ++ (spelling t ++ after) → AreSpaces spaces
    → IsToken t → StandsThere t after → ((p : ℕ) → DividedInto p after ts) → DividedInto place text (t ∷ ts)
one_token place text t ts spaces after e s h there further =
    let f = first_byte (lexeme_of t) (spelling t) (token_spells t h) in
    let begins_so : text ≡ spaces ++ f.first ∷ (f.later ++ after) = e ∙ ap (λ (l : List ℕ). spaces ++ (l ++ after)) f.whole in
    let k : space_before text ≡ length spaces = ap space_before begins_so ∙ space_is spaces f.first (f.later ++ after) s f.no_space in
    let left : without_space text ≡ spelling t ++ after =
    ap (λ (n : ℕ). drop n text) k ∙ ap (drop (length spaces)) e ∙ drop_at spaces (spelling t ++ after) (length spaces) refl in
    let P : List ℕ → Type 0 = λ l. Stands (lexeme_of t) (length (spelling t)) l in
    let rest_is : drop (length (spelling t)) (without_space text) ≡ after =
    ap (drop (length (spelling t))) left ∙ drop_at (spelling t) after (length (spelling t)) refl in
    let d = further (place + space_before text + length (spelling t)) in
    let Q : List ℕ → Type 0 = λ l. Divides (place + space_before text + length (spelling t)) l d.ls d.end d.rest in
    record {
      ls = (place + space_before text, lexeme_of t) ∷ d.ls;
      end = d.end;
      rest = d.rest;
      divides = one (subst P (sym left) there) (subst Q (sym rest_is) d.divides);
      are_tokens = ap (λ (l : List Lexeme). lexeme_of t ∷ l) d.are_tokens;
      spaces = d.spaces;
    }

apart_tail : (t : Token) (ts : List Token) → AreApart (t ∷ ts) → AreApart ts
apart_tail t [] a = tt
apart_tail t (u ∷ us) a = a.1

pub spaced_divides : (ts : List Token) (place : ℕ) (text : List ℕ) → AreTokens ts → AreApart ts → Spaced ts text → DividedInto place text ts
spaced_divides [] place text h a s = record { ls = []; end = place; rest = text; divides = none; are_tokens = refl; spaces = s }
spaced_divides (t ∷ ts) place text h a (spaces, after, e, s, k) =
    one_token place text t ts spaces after (e ∙ append_assoc spaces (spelling t) after) s h.0
    (token_stands t ts after h.0 h.1 a (begins ts after k))
    (λ p. spaced_divides ts p after h.1 (apart_tail t ts a) k)

-- ---- from the division to tokens

same_spelling : (t : Token) (bytes : List ℕ) → Spells (lexeme_of t) bytes → IsToken t → bytes ≡ spelling t
same_spelling (mark b) bytes s h =
    let P : Lexeme → Type 0 = λ l. Spells l bytes in
    subst P (mark_lexeme b h) s ∙ ap (λ (x : ℕ). x ∷ []) (sym h.byte)
same_spelling (number negative size) bytes s h = s.1
same_spelling (bits bs) bytes s h = s.1
same_spelling (name n) bytes s h = s.1
same_spelling (hidden p) bytes s h = s.1

head_is : (l m : Lexeme) (ls ms : List Lexeme) → l ∷ ls ≡ m ∷ ms → l ≡ m
head_is l m ls ms e = cc

tail_is : (l m : Lexeme) (ls ms : List Lexeme) → l ∷ ls ≡ m ∷ ms → ls ≡ ms
tail_is l m ls ms e = cc

pub divided_spaced : (place end : ℕ) (text rest : List ℕ) (ls : List Placed) (ts : List Token) → Divides place text ls end rest → lexemes ls ≡ map lexeme_of ts
    → AreTokens ts → AreSpaces rest → Spaced ts text
divided_spaced place end text rest [] [] none e h s = s
divided_spaced place end text rest [] (t ∷ ts) none e h s = absurd (cc)
divided_spaced place end text rest (l ∷ ls) [] d e h s = absurd (cc)
divided_spaced place end text rest (l ∷ ls) (t ∷ ts) (one {n = n} {l = m} {ls = ms} st d) e h s =
    let P : Lexeme → Type 0 = λ x. Spells x (take n (without_space text)) in
    let spelled : take n (without_space text) ≡ spelling t =
    same_spelling t (take n (without_space text)) (subst P (head_is m (lexeme_of t) (lexemes ms) (map lexeme_of ts) e) st.spelled) h.0 in
    let after : List ℕ = drop n (without_space text) in
    let spaces : List ℕ = take (space_before text) text in
    let whole : text ≡ spaces ++ spelling t ++ after =
    sym (take-append-drop (space_before text) text)
    ∙ ap (λ (x : List ℕ). spaces ++ x) (sym (take-append-drop n (without_space text)) ∙ ap (λ (x : List ℕ). x ++ after) spelled)
    ∙ sym (append_assoc spaces (spelling t) after) in
    (spaces, after, whole, spaces_taken text, divided_spaced (place + space_before text + n) end after rest ms ts d (tail_is m (lexeme_of t) (lexemes ms) (map lexeme_of ts) e) h.1 s)
