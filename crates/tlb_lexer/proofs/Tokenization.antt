-- The tokenized of a whole text.
use Rattle.std.proofs.Common.{◌≡◌, ◌≤◌, ◌<◌, ◌+◌, ◌-◌, suc, zero, ◌∙◌, sym, ap, refl, subst, ℕ, true, List, ◌++◌, append_assoc, append-nil, [], ◌∷◌, length, take, drop, arith, inl, inr, ◌⊎◌, Result, Ok, Err}
use Rattle.std.proofs.lemmas.List.{length-drop, drop-drop, drop_all}
use Rattle.tlb_lexer.specs.declared.TokenKind.{TokenKind}
use Rattle.tlb_lexer.specs.declared.TokenKind.TheVariants.{Name}
use Rattle.tlb_lexer.specs.declared.Token.{Token}
use Rattle.tlb_lexer.specs.declared.LexError.{LexError}
use Rattle.tlb_lexer.specs.declared.LexError.TheVariants as errors
use Rattle.tlb_lexer.specs.declared.scan.Stretch.{Stretch}
use Rattle.tlb_lexer.specs.declared.scan.Stretch.TheVariants.{Gap, Spelled, LongName, OpenComment, Nothing}
use Rattle.tlb_lexer.specs.Spelling.{spells}
use Rattle.tlb_lexer.specs.Tokenization.{Longest, IsGap, longest_name, TokenizesFrom, ended, gap, token, TokenRefusalFrom, after_gap, after_token, bad_character, open_comment, too_long_name, Tokenizes, TokenRefusal, PlacedFrom}
use Rattle.tlb_lexer.specs.Stretch.{IsFirstStretch}
use Rattle.tlb_lexer.specs.Answer.{IfAnswered}
use Rattle.tlb_lexer.proofs.StretchOf.{found_in}
use Rattle.tlb_lexer.proofs.OneTokenization.{stretch_once, gap_advances, token_advances}

abbrev Answer : Type 0
Answer = Result (List Token) LexError

abbrev put : Token → Answer → Answer
put t (Ok ts) = Ok (t ∷ ts)
put t (Err e) = Err e

abbrev token_of : TokenKind → ℕ → ℕ → Token
token_of kind place n = record { kind = kind; from = place; to = place + n }

abbrev step : Stretch → ℕ → (ℕ → Answer) → Answer
step (Gap n) place on = on n
step (Spelled kind n) place on = put (token_of kind place n) (on n)
step LongName place on = Err (errors.TooLongName place)
step OpenComment place on = Err (errors.OpenComment place)
step Nothing place on = Err (errors.BadCharacter place)

-- the answer of a text that has at most so many bytes
abbrev answer : ℕ → ℕ → List ℕ → Answer
answer zero place text = Ok []
answer (suc most) place [] = Ok []
answer (suc most) place (b ∷ bs) = step (found_in b bs).0 place (λ n. answer most (place + n) (drop n (b ∷ bs)))

found_is : (b : ℕ) (bs : List ℕ) (p : Stretch) → IsFirstStretch (b ∷ bs) p → (found_in b bs).0 ≡ p
found_is b bs p x = stretch_once (b ∷ bs) (found_in b bs).0 p (found_in b bs).1 x

stepped : (b : ℕ) (bs : List ℕ) (p : Stretch) (most place : ℕ) (r : Answer) → IsFirstStretch (b ∷ bs) p
    → step p place (λ n. answer most (place + n) (drop n (b ∷ bs))) ≡ r → answer (suc most) place (b ∷ bs) ≡ r
stepped b bs p most place r x e =
    ap (λ q. step q place (λ n. answer most (place + n) (drop n (b ∷ bs)))) (found_is b bs p x) ∙ e

fewer : (n most : ℕ) (text : List ℕ) → length text ≤ suc most → 0 < n → length (drop n text) ≤ most
fewer n most text le some = omega (arith, length-drop n text)

none_left : (n : ℕ) (text : List ℕ) → length text ≤ 0 → (0 < n) × (n ≤ length text) → ⊥
none_left n text le a = absurd (omega (arith, a.0, a.1))

tokens_answer : (most place : ℕ) (text : List ℕ) (ts : List Token) → length text ≤ most → TokenizesFrom place text ts
    → answer most place text ≡ Ok ts
tokens_answer zero place _ _ le ended = refl
tokens_answer zero place text ts le (gap {n = n} g c) = absurd (none_left n text le (gap_advances n text g))
tokens_answer zero place text _ le (token {n = n} {kind = kind} l s c) = absurd (none_left n text le (token_advances kind n text l))
tokens_answer (suc most) place _ _ le ended = refl
tokens_answer (suc most) place [] ts le (gap {n = n} g c) = let a = gap_advances n [] g in absurd (omega (arith, a.0, a.1))
tokens_answer (suc most) place [] _ le (token {n = n} {kind = kind} l s c) = let a = token_advances kind n [] l in absurd (omega (arith, a.0, a.1))
tokens_answer (suc most) place (b ∷ bs) ts le (gap {n = n} g c) =
    stepped b bs (Gap n) most place (Ok ts) g (tokens_answer most (place + n) (drop n (b ∷ bs)) ts (fewer n most (b ∷ bs) le (gap_advances n (b ∷ bs) g).0) c)
tokens_answer (suc most) place (b ∷ bs) _ le (token {n = n} {kind = kind} {tokens = ts} l s c) =
    stepped b bs (Spelled kind n) most place (Ok (token_of kind place n ∷ ts)) (l, s)
    (ap (put (token_of kind place n)) (tokens_answer most (place + n) (drop n (b ∷ bs)) ts (fewer n most (b ∷ bs) le (token_advances kind n (b ∷ bs) l).0) c))

refused_answer : (most place : ℕ) (text : List ℕ) (e : LexError) → length text ≤ most → TokenRefusalFrom place text e
    → answer most place text ≡ Err e
refused_answer zero place text e le (after_gap {n = n} g c) = absurd (none_left n text le (gap_advances n text g))
refused_answer zero place text e le (after_token {n = n} {kind = kind} l s c) = absurd (none_left n text le (token_advances kind n text l))
refused_answer zero place text _ le (bad_character x) = absurd (omega (arith, x.not_ended))
refused_answer zero place [] _ le (open_comment x) = let f = x.opens in cc
refused_answer zero place (b ∷ bs) _ le (open_comment x) = absurd (omega arith)
refused_answer zero place text _ le (too_long_name {n = n} l s) = absurd (none_left n text le (token_advances Name n text l))
refused_answer (suc most) place [] e le (after_gap {n = n} g c) = let a = gap_advances n [] g in absurd (omega (arith, a.0, a.1))
refused_answer (suc most) place [] e le (after_token {n = n} {kind = kind} l s c) = let a = token_advances kind n [] l in absurd (omega (arith, a.0, a.1))
refused_answer (suc most) place [] _ le (bad_character x) = absurd (omega (arith, x.not_ended))
refused_answer (suc most) place [] _ le (open_comment x) = let f = x.opens in cc
refused_answer (suc most) place [] _ le (too_long_name {n = n} l s) = let a = token_advances Name n [] l in absurd (omega (arith, a.0, a.1))
refused_answer (suc most) place (b ∷ bs) e le (after_gap {n = n} g c) =
    stepped b bs (Gap n) most place (Err e) g (refused_answer most (place + n) (drop n (b ∷ bs)) e (fewer n most (b ∷ bs) le (gap_advances n (b ∷ bs) g).0) c)
refused_answer (suc most) place (b ∷ bs) e le (after_token {n = n} {kind = kind} l s c) =
    stepped b bs (Spelled kind n) most place (Err e) (l, s)
    (ap (put (token_of kind place n)) (refused_answer most (place + n) (drop n (b ∷ bs)) e (fewer n most (b ∷ bs) le (token_advances kind n (b ∷ bs) l).0) c))
refused_answer (suc most) place (b ∷ bs) _ le (bad_character x) = stepped b bs Nothing most place (Err (errors.BadCharacter place)) x refl
refused_answer (suc most) place (b ∷ bs) _ le (open_comment x) = stepped b bs OpenComment most place (Err (errors.OpenComment place)) x refl
refused_answer (suc most) place (b ∷ bs) _ le (too_long_name {n = n} l s) = stepped b bs LongName most place (Err (errors.TooLongName place)) (n, l, s) refl

-- the answer is right
abbrev Right : ℕ → List ℕ → Answer → Type 0
Right place text (Ok ts) = TokenizesFrom place text ts
Right place text (Err e) = TokenRefusalFrom place text e

past_gap : (place n : ℕ) (text : List ℕ) (r : Answer) → IsGap n text → Right (place + n) (drop n text) r
    → Right place text r
past_gap place n text (Ok ts) g h = gap g h
past_gap place n text (Err e) g h = after_gap g h

past_token : (place n : ℕ) (kind : TokenKind) (text : List ℕ) (r : Answer) → Longest kind n text
    → (kind ≡ Name → n ≤ longest_name) → Right (place + n) (drop n text) r
    → Right place text (put (token_of kind place n) r)
past_token place n kind text (Ok ts) l s h = token l s h
past_token place n kind text (Err e) l s h = after_token l s h

right_step : (p : Stretch) (place : ℕ) (text : List ℕ) (on : ℕ → Answer) → IsFirstStretch text p
    → ((n : ℕ) → 0 < n → Right (place + n) (drop n text) (on n)) → Right place text (step p place on)
right_step (Gap n) place text on x h = past_gap place n text (on n) x (h n (gap_advances n text x).0)
right_step (Spelled kind n) place text on x h = past_token place n kind text (on n) x.0 x.1 (h n (token_advances kind n text x.0).0)
right_step LongName place text on x h = too_long_name x.1 x.2
right_step OpenComment place text on x h = open_comment x
right_step Nothing place text on x h = bad_character x

right : (most place : ℕ) (text : List ℕ) → length text ≤ most → Right place text (answer most place text)
right zero place [] le = ended
right zero place (b ∷ bs) le = absurd (omega arith)
right (suc most) place [] le = ended
right (suc most) place (b ∷ bs) le =
    right_step (found_in b bs).0 place (b ∷ bs) _ (found_in b bs).1 (λ n some. right most (place + n) (drop n (b ∷ bs)) (fewer n most (b ∷ bs) le some))

-- the laws
whole : List ℕ → Answer
whole text = answer (length text) 0 text

whole_tokens : (text : List ℕ) (ts : List Token) → Tokenizes text ts → whole text ≡ Ok ts
unfolding whole
whole_tokens text ts c = tokens_answer (length text) 0 text ts (omega arith) c

whole_refused : (text : List ℕ) (e : LexError) → TokenRefusal text e → whole text ≡ Err e
unfolding whole
whole_refused text e c = refused_answer (length text) 0 text e (omega arith) c

pub tokens_once : (text : List ℕ) (a b : List Token) → Tokenizes text a → Tokenizes text b → a ≡ b
tokens_once text a b x y = let e = whole_tokens text a x in let f = whole_tokens text b y in cc

pub refused_once : (text : List ℕ) (a b : LexError) → TokenRefusal text a → TokenRefusal text b → a ≡ b
refused_once text a b x y = let e = whole_refused text a x in let f = whole_refused text b y in cc

pub not_both : (text : List ℕ) (ts : List Token) (e : LexError) → Tokenizes text ts → TokenRefusal text e → ⊥
not_both text ts e x y = let f = whole_tokens text ts x in let g = whole_refused text e y in cc

pub one_of : (text : List ℕ) → ((ts : List Token) × Tokenizes text ts) ⊎ ((e : LexError) × TokenRefusal text e)
one_of text = go (answer (length text) 0 text) (right (length text) 0 text (omega arith))
  where
    go : (r : Answer) → Right 0 text r
        → ((ts : List Token) × Tokenizes text ts) ⊎ ((e : LexError) × TokenRefusal text e)
    go (Ok ts) h = inl (ts, h)
    go (Err e) h = inr (e, h)

-- places
earlier_start : (text : List ℕ) (start later : ℕ) (ts : List Token) → start ≤ later → PlacedFrom text later ts
    → PlacedFrom text start ts
earlier_start text start later [] le p = tt
earlier_start text start later (t ∷ ts) le p =
    let h = p.0 in
    (record { after = omega (arith, h.after); forward = h.forward; within = h.within; spelled = h.spelled }, p.1)

on_drop : (text : List ℕ) (place n : ℕ) (rest : List ℕ) → rest ≡ drop place text → drop n rest ≡ drop (place + n) text
on_drop text place n rest e = ap (drop n) e ∙ drop-drop n place text

pub still_within : (text : List ℕ) (place n : ℕ) (rest : List ℕ) → rest ≡ drop place text → place ≤ length text
    → n ≤ length rest → place + n ≤ length text
still_within text place n rest e le h = omega (arith, ap length e, length-drop place text)

placed_from : (text : List ℕ) (place : ℕ) (rest : List ℕ) (ts : List Token) → rest ≡ drop place text
    → place ≤ length text → TokenizesFrom place rest ts → PlacedFrom text place ts
placed_from text place _ _ e le ended = tt
placed_from text place rest ts e le (gap {n = n} g c) =
    earlier_start text place (place + n) ts (omega arith) (placed_from text (place + n) (drop n rest) ts (on_drop text place n rest e) (still_within text place n rest e le (gap_advances n rest g).1) c)
placed_from text place rest _ e le (token {n = n} {kind = kind} {tokens = ts} l s c) =
    let some = (token_advances kind n rest l).0 in
    let size : place + n - place ≡ n = omega arith in
    let bytes : take (place + n - place) (drop place text) ≡ take n rest = rw (size, ← e) refl in
    let within = still_within text place n rest e le l.within in
    let P : List ℕ → Type 0 = λ x. spells kind x ≡ true in (
      record { after = omega arith; forward = omega arith; within = within; spelled = subst P (sym bytes) l.spelled },
      placed_from text (place + n) (drop n rest) ts (on_drop text place n rest e) within c,
    )

pub placed : (text : List ℕ) (ts : List Token) → Tokenizes text ts → PlacedFrom text 0 ts
placed text ts c = placed_from text 0 text ts refl (omega arith) c

-- what is known before a place of the text, of the tokens done and of a refusal to come
abbrev pub TokenizedBefore : List ℕ → ℕ → List Token → Type 0
TokenizedBefore text place done = (ts : List Token) → TokenizesFrom place (drop place text) ts → TokenizesFrom 0 text (done ++ ts)

abbrev pub NotRefusedBefore : List ℕ → ℕ → Type 0
NotRefusedBefore text place = (e : LexError) → TokenRefusalFrom place (drop place text) e → TokenRefusalFrom 0 text e

pub gap_tokenized : (text : List ℕ) (place n : ℕ) (done : List Token) → IsGap n (drop place text)
    → TokenizedBefore text place done → TokenizedBefore text (place + n) done
gap_tokenized text place n done g f = λ ts h.
    let P : List ℕ → Type 0 = λ xs. TokenizesFrom (place + n) xs ts in
    f ts (gap g (subst P (sym (drop-drop n place text)) h))

pub gap_refuses : (text : List ℕ) (place n : ℕ) → IsGap n (drop place text) → NotRefusedBefore text place
    → NotRefusedBefore text (place + n)
gap_refuses text place n g f = λ e h.
    let P : List ℕ → Type 0 = λ xs. TokenRefusalFrom (place + n) xs e in
    f e (after_gap g (subst P (sym (drop-drop n place text)) h))

pub token_tokenized : (text : List ℕ) (place n : ℕ) (kind : TokenKind) (done : List Token)
    → Longest kind n (drop place text) → (kind ≡ Name → n ≤ longest_name) → TokenizedBefore text place done
    → TokenizedBefore text (place + n) (done ++ (token_of kind place n ∷ []))
token_tokenized text place n kind done l s f = λ ts h.
    let P : List ℕ → Type 0 = λ xs. TokenizesFrom (place + n) xs ts in
    let Q : List Token → Type 0 = λ xs. TokenizesFrom 0 text xs in
    subst Q (sym (append_assoc done (token_of kind place n ∷ []) ts)) (f (token_of kind place n ∷ ts) (token l s (subst P (sym (drop-drop n place text)) h)))

pub token_refuses : (text : List ℕ) (place n : ℕ) (kind : TokenKind) → Longest kind n (drop place text)
    → (kind ≡ Name → n ≤ longest_name) → NotRefusedBefore text place → NotRefusedBefore text (place + n)
token_refuses text place n kind l s f = λ e h.
    let P : List ℕ → Type 0 = λ xs. TokenRefusalFrom (place + n) xs e in
    f e (after_token l s (subst P (sym (drop-drop n place text)) h))

pub whole_done : (text : List ℕ) (place : ℕ) (done : List Token) → length text ≤ place
    → TokenizedBefore text place done → TokenizesFrom 0 text done
whole_done text place done le f =
    let none : drop place text ≡ [] = drop_all place text le in
    let P : List ℕ → Type 0 = λ xs. TokenizesFrom place xs [] in
    let Q : List Token → Type 0 = λ xs. TokenizesFrom 0 text xs in
    subst Q (append-nil done) (f [] (subst P (sym none) ended))

-- what an answer says of the text, from what holds of it
pub answered_tokens : {X : Type 0} (text : List ℕ) (r : Result X LexError) (view : X → List Token)
    → IfAnswered r (λ x. Tokenizes text (view x)) (λ e. TokenRefusal text e) → (ts : List Token) → Tokenizes text ts
    → IfAnswered r (λ x. view x ≡ ts) (λ _. ⊥)
answered_tokens text (Ok x) view h ts c = tokens_once text (view x) ts h c
answered_tokens text (Err errors.NoMemory) view h ts c = tt
answered_tokens text (Err (errors.BadCharacter place)) view h ts c = not_both text ts (errors.BadCharacter place) c h
answered_tokens text (Err (errors.OpenComment place)) view h ts c = not_both text ts (errors.OpenComment place) c h
answered_tokens text (Err (errors.TooLongName place)) view h ts c = not_both text ts (errors.TooLongName place) c h

pub answered_refused : {X : Type 0} (text : List ℕ) (r : Result X LexError) (view : X → List Token)
    → IfAnswered r (λ x. Tokenizes text (view x)) (λ e. TokenRefusal text e) → (e : LexError) → TokenRefusal text e
    → IfAnswered r (λ _. ⊥) (λ found. found ≡ e)
answered_refused text (Ok x) view h e c = not_both text (view x) e h c
answered_refused text (Err errors.NoMemory) view h e c = tt
answered_refused text (Err (errors.BadCharacter place)) view h e c = refused_once text (errors.BadCharacter place) e h c
answered_refused text (Err (errors.OpenComment place)) view h e c = refused_once text (errors.OpenComment place) e h c
answered_refused text (Err (errors.TooLongName place)) view h e c = refused_once text (errors.TooLongName place) e h c

pub answered_placed : {X : Type 0} (text : List ℕ) (r : Result X LexError) (view : X → List Token)
    → IfAnswered r (λ x. Tokenizes text (view x)) (λ e. TokenRefusal text e)
    → IfAnswered r (λ x. PlacedFrom text 0 (view x)) (λ _. Unit {0})
answered_placed text (Ok x) view h = placed text (view x) h
answered_placed text (Err errors.NoMemory) view h = tt
answered_placed text (Err (errors.BadCharacter place)) view h = tt
answered_placed text (Err (errors.OpenComment place)) view h = tt
answered_placed text (Err (errors.TooLongName place)) view h = tt
