-- What a text writes, and what it is refused for where it writes nothing.
--
-- A prefix of a text can go on where some text begins with it. So the places of refusals are given by the productions
-- alone: the first lexeme with which a prefix can't go on, and the first with which it can't go on within a limit.
use Rattle.std.specs.Prelude.{ℕ, zero, suc, ◌≡◌, ◌<◌, ◌≤◌, ◌+◌, ◌⊎◌, List, [], ◌∷◌, ◌++◌, length, take, drop, count_by}
use Rattle.std.specs.Prelude.{bytes_eq, Option, Some, None}
use Rattle.tlb_lexer.specs.declared.Token.{Token}
use Rattle.tlb_lexer.specs.Tokenization.{Tokenizes}
use Rattle.tlb_syntax.specs.Lexeme.{Lexeme, number, sign, lexemes}
use Rattle.tlb_syntax.specs.declared.sign.Sign.TheVariants.{Bang}
use Rattle.tlb_syntax.specs.Grammar.{Bounds, Heads, Declarations, TypeWord}
use Rattle.tlb_syntax.specs.Tree.{ExprView, ConstructorView, SchemaView}

-- ---- limits

abbrev pub bounds : Option ℕ → Option ℕ → Option ℕ → Bounds
bounds levels items params = record { levels = levels; items = items; params = params }

abbrev pub unbounded : Bounds
unbounded = bounds None None None

-- at most 64 open levels, 255 items of a record, 8 parameters of a result
abbrev pub standard : Bounds
standard = bounds (Some 64) (Some 255) (Some 8)

-- how many constructors of the schema are of the type
abbrev pub constructors_of : SchemaView → List ℕ → ℕ
constructors_of s x = count_by (λ (c : ConstructorView). bytes_eq c.result x) s

-- at most 4,096 constructors, and 256 of each type
pub record WithinCounts (s : SchemaView) : Type 0 where
  pub all : length s ≤ 4096
  pub of_one : (x : List ℕ) → constructors_of s x ≤ 256

abbrev pub IsAny : {X : Type 0} → X → Type 0
IsAny x = Unit {0}

-- a text, in lexemes, that writes such a tree within the bounds
abbrev pub Grammar : Type 0 → Type 1
Grammar X = Bounds → List Lexeme → X → Type 0

-- some text begins so that writes such a tree within the bounds
pub record CanGoOn {X : Type 0} (G : Grammar X) (m : Bounds) (P : X → Type 0) (prefix : List Lexeme) : Type 0 where
  pub more : List Lexeme
  pub tree : X
  pub kept : P tree
  pub written : G m (prefix ++ more) tree

-- ---- refusals of a list of lexemes, at the number of lexemes before them

pub data Cause : Type 0 where
  syntax : Cause
  deep_type : Cause
  too_many_constructors : Cause
  too_many_fields : Cause
  too_many_params : Cause

-- the prefix before the place, the lexeme at it, and those after it
pub record Splits (ls : List Lexeme) (place : ℕ) : Type 0 where
  pub prefix : List Lexeme
  pub next : Lexeme
  pub later : List Lexeme
  pub whole : ls ≡ prefix ++ next ∷ later
  pub size : length prefix ≡ place

abbrev pub ended : List Lexeme → Lexeme → List Lexeme
ended prefix t = prefix ++ t ∷ []

-- the prefix can go on, and not with the lexeme at the place
pub record StopsAt {X : Type 0} (G : Grammar X) (ls : List Lexeme) (place : ℕ) : Type 0 where
  pub split : Splits ls place
  pub so_far : CanGoOn G unbounded IsAny split.prefix
  pub no_further : CanGoOn G unbounded IsAny (ended split.prefix split.next) → ⊥

-- the text can go on, and writes nothing yet
pub record EndsEarly {X : Type 0} (G : Grammar X) (ls : List Lexeme) (place : ℕ) : Type 0 where
  pub size : length ls ≡ place
  pub so_far : CanGoOn G unbounded IsAny ls
  pub not_yet : (tree : X) → G unbounded ls tree → ⊥

abbrev pub IsSyntax : {X : Type 0} → Grammar X → List Lexeme → ℕ → Type 0
IsSyntax G ls place = StopsAt G ls place ⊎ EndsEarly G ls place

-- a lexeme of the same form, whatever number it holds
abbrev pub form_of : Lexeme → Lexeme
form_of (number n) = number (Some 0)
form_of t = t

-- the prefix can go on within a limit; with a lexeme of this form it can go on, and not within the limit
pub record Exceeds {X : Type 0} (G : Grammar X) (m : Bounds) (P : X
    → Type 0) (ls : List Lexeme) (place : ℕ) : Type 0 where
  pub split : Splits ls place
  pub so_far : CanGoOn G m P split.prefix
  pub with_it : CanGoOn G unbounded IsAny (ended split.prefix (form_of split.next))
  pub too_much : CanGoOn G m P (ended split.prefix (form_of split.next)) → ⊥

-- the name or the `_` of a declaration that begins with these lexemes stands after so many: after the `!`, or first
pub data NameOffset : List Lexeme → ℕ → Type 0 where
  at_once : {h : Lexeme} {x : Option (List ℕ)} {s : List Lexeme} → Heads h x → NameOffset (h ∷ s) 0
  after_mark : {h : Lexeme} {x : Option (List ℕ)} {s : List Lexeme} → Heads h x → NameOffset (sign Bang ∷ h ∷ s) 1

-- the declaration that the later lexeme belongs to has so many lexemes before it
pub record Begins (ls : List Lexeme) (start later : ℕ) : Type 0 where
  pub before : start ≤ later
  pub earlier : SchemaView
  pub whole : Declarations unbounded (take start ls) earlier
  pub last : (other : ℕ) (s : SchemaView) → start < other → other ≤ later → Declarations unbounded (take other ls) s → ⊥

-- the lexeme at the place is the name, or the `_`, of the declaration that the later one belongs to
pub record Declares (ls : List Lexeme) (place later : ℕ) : Type 0 where
  pub start : ℕ
  pub begins : Begins ls start later
  pub offset : ℕ
  pub name : NameOffset (drop start ls) offset
  pub is_place : place ≡ start + offset

abbrev pub MeetsLevels : {X : Type 0} → Grammar X → List Lexeme → ℕ → Type 0
MeetsLevels G = Exceeds G (bounds (Some 64) None None) IsAny

abbrev pub MeetsItems : {X : Type 0} → Grammar X → List Lexeme → ℕ → Type 0
MeetsItems G = Exceeds G (bounds None (Some 255) None) IsAny

-- the refusals of a schema
abbrev pub SchemaRefusal : List Lexeme → Cause → ℕ → Type 0
SchemaRefusal ls syntax place = IsSyntax Declarations ls place
SchemaRefusal ls deep_type place = MeetsLevels Declarations ls place
SchemaRefusal ls too_many_constructors place = (later : ℕ) × Exceeds Declarations unbounded WithinCounts ls later
    × Declares ls place later
SchemaRefusal ls too_many_fields place = MeetsItems Declarations ls place
SchemaRefusal ls too_many_params place = Exceeds Declarations (bounds None None (Some 8)) IsAny ls place

-- the refusals of a type word
abbrev pub WordRefusal : List Lexeme → Cause → ℕ → Type 0
WordRefusal ls syntax place = IsSyntax TypeWord ls place
WordRefusal ls deep_type place = MeetsLevels TypeWord ls place
WordRefusal ls too_many_constructors place = ⊥
WordRefusal ls too_many_fields place = MeetsItems TypeWord ls place
WordRefusal ls too_many_params place = ⊥

-- at one place limits come before Syntax, and DeepType before TooManyFields
abbrev pub rank : Cause → ℕ
rank deep_type = 0
rank too_many_constructors = 1
rank too_many_fields = 2
rank too_many_params = 3
rank syntax = 4

-- one refusal comes before another, or is it
abbrev pub ComesFirst : ℕ → Cause → ℕ → Cause → Type 0
ComesFirst place cause other_place other = (place < other_place) ⊎ ((place ≡ other_place) × (rank cause ≤ rank other))

-- the first refusal in the text
pub record IsFirst (Refusal : Cause → ℕ → Type 0) (cause : Cause) (place : ℕ) : Type 0 where
  pub refused : Refusal cause place
  pub first : (other : Cause) (other_place : ℕ) → Refusal other other_place → ComesFirst place cause other_place other

-- ---- texts

-- the byte at which the token with so many tokens before it begins, or the text's length
abbrev pub byte_of : List Token → ℕ → ℕ → ℕ
byte_of [] size n = size
byte_of (t ∷ ts) size zero = t.from
byte_of (t ∷ ts) size (suc n) = byte_of ts size n

-- the text writes the schema
pub record Writes (text : List ℕ) (s : SchemaView) : Type 0 where
  pub tokens : List Token
  pub tokenized : Tokenizes text tokens
  pub written : Declarations standard (lexemes text tokens) s
  pub counts : WithinCounts s

-- the text has tokens, and the first refusal of these stands at the byte
pub record SchemaRefused (text : List ℕ) (cause : Cause) (byte : ℕ) : Type 0 where
  pub tokens : List Token
  pub tokenized : Tokenizes text tokens
  pub place : ℕ
  pub first : IsFirst (SchemaRefusal (lexemes text tokens)) cause place
  pub is_byte : byte ≡ byte_of tokens (length text) place

-- the text writes the expression as a type word
pub record WritesWord (text : List ℕ) (e : ExprView) : Type 0 where
  pub tokens : List Token
  pub tokenized : Tokenizes text tokens
  pub written : TypeWord standard (lexemes text tokens) e

pub record WordRefused (text : List ℕ) (cause : Cause) (byte : ℕ) : Type 0 where
  pub tokens : List Token
  pub tokenized : Tokenizes text tokens
  pub place : ℕ
  pub first : IsFirst (WordRefusal (lexemes text tokens)) cause place
  pub is_byte : byte ≡ byte_of tokens (length text) place
