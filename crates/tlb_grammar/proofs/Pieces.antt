-- A text that is made of tokens and single spaces is tokenized into these tokens.
use Rattle.std.proofs.Common.{◌≡◌, ◌≤◌, ◌+◌, ◌-◌, sym, ap, refl, subst, ◌∙◌, ℕ, List, [], ◌∷◌, ◌++◌, length, take, drop, arith}
use Rattle.std.proofs.Math.Seq.{take-append_seam, drop-append_seam}
use Rattle.std.proofs.lemmas.List.{drop-drop}
use Rattle.tlb_lexer.specs.declared.TokenKind.{TokenKind}
use Rattle.tlb_lexer.specs.declared.TokenKind.TheVariants.{Name}
use Rattle.tlb_lexer.specs.declared.Token.{Token}
use Rattle.tlb_lexer.specs.Tokenization.{Longest, longest_name, white, TokenizesFrom, ended, gap, token}
use Rattle.tlb_syntax.specs.Lexeme.{Lexeme, meaning, lexemes}

-- nothing, a space before such a text, or the bytes of a token before one: no longer prefix spells any token
pub data Pieces : List ℕ → List Lexeme → Type 0 where
  no_piece : Pieces [] []
  a_space : {text : List ℕ} {ls : List Lexeme} → Pieces text ls → Pieces (32 ∷ text) ls
  a_token : (kind : TokenKind) (bytes text : List ℕ) {ls : List Lexeme} → Longest kind (length bytes) (bytes ++ text)
      → (kind ≡ Name → length bytes ≤ longest_name) → Pieces text ls
      → Pieces (bytes ++ text) (meaning kind bytes ∷ ls)

-- the tokens of what is left of a text from a place on
pub record TokenizedAs (whole : List ℕ) (place : ℕ) (text : List ℕ) (ls : List Lexeme) : Type 0 where
  pub tokens : List Token
  pub tokenized : TokenizesFrom place text tokens
  pub same : lexemes whole tokens ≡ ls

pub both : {A B C : Type 0} {a b : A} {c d : B} (f : A → B → C) → a ≡ b → c ≡ d → f a c ≡ f b d
both f p q = λ i. f (p i) (q i)

left_by : (n place : ℕ) (whole prefix text : List ℕ) → length prefix ≡ n → drop place whole ≡ prefix ++ text
    → drop (place + n) whole ≡ text
left_by n place whole prefix text size e =
    sym (drop-drop n place whole) ∙ ap (drop n) e ∙ ap (λ k. drop k (prefix ++ text)) (sym size)
    ∙ drop-append_seam prefix text

bytes_at : (place : ℕ) (whole bytes text : List ℕ) → drop place whole ≡ bytes ++ text
    → take ((place + length bytes) - place) (drop place whole) ≡ bytes
bytes_at place whole bytes text e =
    let size : (place + length bytes) - place ≡ length bytes = omega arith in
    ap (λ k. take k (drop place whole)) size ∙ ap (take (length bytes)) e ∙ take-append_seam bytes text

tokenized_as : {text : List ℕ} {ls : List Lexeme} → Pieces text ls → (place : ℕ) (whole : List ℕ)
    → drop place whole ≡ text
    → TokenizedAs whole place text ls
tokenized_as no_piece place whole e = record { tokens = []; tokenized = ended; same = refl }
tokenized_as (a_space {text = text} p) place whole e =
    let r = tokenized_as p (place + 1) whole (left_by 1 place whole (32 ∷ []) text refl e) in
    record {
      tokens = r.tokens;
      tokenized =
          gap {n = 1} (white (record { byte = 32; rest = text; whole = refl; white = refl; size = refl })) r.tokenized;
      same =
          r.same;
    }
tokenized_as (a_token kind bytes text longest short p) place whole e =
    let n = length bytes in
    let r = tokenized_as p (place + n) whole (left_by n place whole bytes text refl e) in
    let P : List ℕ → Type 0 = λ xs. TokenizesFrom (place + n) xs r.tokens in
    record {
      tokens = record { kind = kind; from = place; to = place + n } ∷ r.tokens;
      tokenized = token {n = n} {kind = kind} longest short (subst P (sym (drop-append_seam bytes text)) r.tokenized);
      same = both (λ l ls. l ∷ ls) (ap (meaning kind) (bytes_at place whole bytes text e)) r.same;
    }

-- such a text is tokenized, into tokens of these meanings
pub pieces_tokenized : (text : List ℕ) (ls : List Lexeme) → Pieces text ls → TokenizedAs text 0 text ls
pieces_tokenized text ls p = tokenized_as p 0 text refl
