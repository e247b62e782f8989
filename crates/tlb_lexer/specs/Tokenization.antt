-- How a schema's text is tokenized: at each place the longest spelling, with white space and comments between. The
-- signs of comments are those of the TON documentation on TL-B.
use Rattle.std.specs.Prelude.{ℕ, ◌≡◌, ◌+◌, ◌-◌, ◌<◌, ◌≤◌, true, List, [], ◌∷◌, length, take, drop, codes}
use Rattle.std.specs.List.{prefix_len}
use Rattle.tlb_lexer.specs.declared.TokenKind.{TokenKind}
use Rattle.tlb_lexer.specs.declared.TokenKind.TheVariants.{Name}
use Rattle.tlb_lexer.specs.declared.Token.{Token}
use Rattle.tlb_lexer.specs.declared.LexError.{LexError}
use Rattle.tlb_lexer.specs.declared.LexError.TheVariants.{BadCharacter, OpenComment, TooLongName}
use Rattle.tlb_lexer.specs.Bytes.{is_white, is_in_line}
use Rattle.tlb_lexer.specs.Spelling.{spells}

-- a name has at most so many bytes
abbrev pub longest_name : ℕ
longest_name = 127

-- the first n bytes of the text spell a token of the kind, and no longer prefix spells any token
pub record Longest (kind : TokenKind) (n : ℕ) (text : List ℕ) : Type 0 where
  pub within : n ≤ length text
  pub spelled : spells kind (take n text) ≡ true
  pub longest : (m : ℕ) (other : TokenKind) → n < m → m ≤ length text → spells other (take m text) ≡ true → ⊥

-- the mark stands at a place of the bytes
abbrev pub OccursAt : List ℕ → ℕ → List ℕ → Type 0
OccursAt mark place bytes = take (length mark) (drop place bytes) ≡ mark

-- and at no earlier place
pub record OccursFirstAt (mark : List ℕ) (place : ℕ) (bytes : List ℕ) : Type 0 where
  pub occurs : OccursAt mark place bytes
  pub first : (earlier : ℕ) → earlier < place → OccursAt mark earlier bytes → ⊥

-- one byte of white space stands first
pub record IsWhite (n : ℕ) (text : List ℕ) : Type 0 where
  pub byte : ℕ
  pub rest : List ℕ
  pub whole : text ≡ byte ∷ rest
  pub white : is_white byte ≡ true
  pub size : n ≡ 1

-- a comment of n bytes from `//` to the end of its line, which ends at a line feed or with the text
pub record IsLineComment (n : ℕ) (text : List ℕ) : Type 0 where
  pub opens : OccursAt (codes "//") 0 text
  pub size : n ≡ 2 + prefix_len is_in_line (drop 2 text)

-- a comment of n bytes from `/*` to the next `*/`, which begins after the `/*`
pub record IsBlockComment (n : ℕ) (text : List ℕ) : Type 0 where
  pub opens : OccursAt (codes "/*") 0 text
  pub place : ℕ
  pub closes : OccursFirstAt (codes "*/") place (drop 2 text)
  pub size : n ≡ place + 4

-- what may stand before, between and after tokens
pub data IsGap (n : ℕ) (text : List ℕ) : Type 0 where
  white : IsWhite n text → IsGap n text
  line : IsLineComment n text → IsGap n text
  block : IsBlockComment n text → IsGap n text

-- a `/*` stands first, and no `*/` after it
pub record IsOpenComment (text : List ℕ) : Type 0 where
  pub opens : OccursAt (codes "/*") 0 text
  pub never : (place : ℕ) → OccursAt (codes "*/") place (drop 2 text) → ⊥

-- before the text, which has not ended, there is no gap, no token and no open comment
pub record IsNothing (text : List ℕ) : Type 0 where
  pub not_ended : 0 < length text
  pub no_gap : (n : ℕ) → IsGap n text → ⊥
  pub no_token : (kind : TokenKind) (n : ℕ) → n ≤ length text → spells kind (take n text) ≡ true → ⊥
  pub no_comment : IsOpenComment text → ⊥

-- what is left of a text from a place on has these tokens
pub data TokenizesFrom : ℕ → List ℕ → List Token → Type 0 where
  ended : {place : ℕ} → TokenizesFrom place [] []
  gap : {place n : ℕ} {text : List ℕ} {tokens : List Token} → IsGap n text
      → TokenizesFrom (place + n) (drop n text) tokens → TokenizesFrom place text tokens
  token : {place n : ℕ} {text : List ℕ} {kind : TokenKind} {tokens : List Token} → Longest kind n text
      → (kind ≡ Name → n ≤ longest_name) → TokenizesFrom (place + n) (drop n text) tokens
      → TokenizesFrom place text (record { kind = kind; from = place; to = place + n } ∷ tokens)

-- what is left of a text from a place on has tokens to the place of this refusal, and none there
pub data TokenRefusalFrom : ℕ → List ℕ → LexError → Type 0 where
  after_gap : {place n : ℕ} {text : List ℕ} {error : LexError} → IsGap n text
      → TokenRefusalFrom (place + n) (drop n text) error → TokenRefusalFrom place text error
  after_token : {place n : ℕ} {text : List ℕ} {kind : TokenKind} {error : LexError} → Longest kind n text
      → (kind ≡ Name → n ≤ longest_name) → TokenRefusalFrom (place + n) (drop n text) error
      → TokenRefusalFrom place text error
  bad_character : {place : ℕ} {text : List ℕ} → IsNothing text → TokenRefusalFrom place text (BadCharacter place)
  open_comment : {place : ℕ} {text : List ℕ} → IsOpenComment text → TokenRefusalFrom place text (OpenComment place)
  too_long_name : {place n : ℕ} {text : List ℕ} → Longest Name n text → longest_name < n
      → TokenRefusalFrom place text (TooLongName place)

-- the text has these tokens
abbrev pub Tokenizes : List ℕ → List Token → Type 0
Tokenizes text tokens = TokenizesFrom 0 text tokens

-- the text's refusal, at the first place that no token goes on from
abbrev pub TokenRefusal : List ℕ → LexError → Type 0
TokenRefusal text error = TokenRefusalFrom 0 text error

-- the bytes of a token
abbrev pub token_bytes : List ℕ → Token → List ℕ
token_bytes text t = take (t.to - t.from) (drop t.from text)

-- a token from a place on, within the text, with bytes that spell its kind
pub record IsPlaced (text : List ℕ) (start : ℕ) (t : Token) : Type 0 where
  pub after : start ≤ t.from
  pub forward : t.from < t.to
  pub within : t.to ≤ length text
  pub spelled : spells t.kind (token_bytes text t) ≡ true

-- tokens from a place on, each after the one before it
abbrev pub PlacedFrom : List ℕ → ℕ → List Token → Type 0
PlacedFrom text start [] = Unit {0}
PlacedFrom text start (t ∷ ts) = IsPlaced text start t × PlacedFrom text t.to ts
