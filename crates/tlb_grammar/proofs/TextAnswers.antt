-- From the layers below to what a text writes, or is refused for.
use Rattle.std.proofs.Common.{◌≡◌, ◌⊎◌, inl, inr, ◌∙◌, ap, sym, subst, ℕ, zero, suc, List, [], ◌∷◌, length, Result, Ok, Err, refl, ◌<◌, ◌≤◌, get_or, arith}
use Rattle.std.specs.Prelude.{⊤}
use Rattle.syntax_check.specs.declared.machine.Cause.{Cause as Checked}
use Rattle.syntax_check.specs.declared.machine.Cause.TheVariants as checked
use Rattle.syntax_check.specs.Verdict.{cause_of, OneFirst, SchemaOneAnswer, SchemaSomeAnswer, WordOneAnswer, WordSomeAnswer}
use Rattle.tlb_lexer.specs.Tokenization.{Tokenizes, TokenRefusal}
use Rattle.tlb_lexer.specs.declared.LexError.{LexError}
use Rattle.tlb_lexer.specs.declared.Token.{Token}
use Rattle.tlb_syntax.specs.Grammar.{Declarations, TypeWord}
use Rattle.tlb_syntax.specs.Lexeme.{Lexeme, lexemes}
use Rattle.tlb_syntax.specs.Tree.{SchemaView, ExprView}
use Rattle.tlb_syntax.specs.Written.{Cause, syntax, deep_type, too_many_constructors, too_many_fields, too_many_params, IsFirst, SchemaRefusal, WordRefusal, SchemaRefused, WordRefused, Writes, WritesWord, WithinCounts, byte_of, standard}
use Rattle.tlb_grammar.proofs.Completeness.{schema_once, word_once}
use Rattle.tlb_grammar.specs.Answer.{IfRead, Refuses, RefusesWord, RefusesBy, error_of}
use Rattle.tlb_grammar.specs.declared.error.GrammarError.{GrammarError}
use Rattle.tlb_grammar.specs.declared.error.GrammarError.TheVariants as errors

-- ---- places

pub byte_within : (ts : List Token) (size n : ℕ) (t : Token) → n < length ts → byte_of ts size n ≡ (get_or ts n t).from
byte_within [] size n t h = absurd (omega (arith, h))
byte_within (u ∷ ts) size zero t h = refl
byte_within (u ∷ ts) size (suc n) t h = byte_within ts size n t (omega (arith, h))

pub byte_past : (ts : List Token) (size n : ℕ) → length ts ≤ n → byte_of ts size n ≡ size
byte_past [] size n h = refl
byte_past (u ∷ ts) size zero h = absurd (omega (arith, h))
byte_past (u ∷ ts) size (suc n) h = byte_past ts size n (omega (arith, h))

-- ---- refusals

pub schema_is_refused : (text : List ℕ) (tokens first second : List Token) (c : Checked) (place : ℕ) (e : GrammarError)
    → Tokenizes text tokens → first ≡ tokens → second ≡ tokens
    → IsFirst (SchemaRefusal (lexemes text first)) (cause_of c) place
    → e ≡ error_of c (byte_of second (length text) place) → Refuses text e
schema_is_refused text tokens first second c place e tokenized is_first is_second refused is =
    let P : GrammarError → Type 0 = Refuses text in
    let Q : List Token → Type 0 = λ ts. IsFirst (SchemaRefusal (lexemes text ts)) (cause_of c) place in
    subst P (sym (is ∙ ap (λ ts. error_of c (byte_of ts (length text) place)) is_second)) (by_cause c (subst Q is_first refused))
  where
    by_cause : (c : Checked) → IsFirst (SchemaRefusal (lexemes text tokens)) (cause_of c) place
        → Refuses text (error_of c (byte_of tokens (length text) place))
    by_cause checked.Syntax f = record { tokens = tokens; tokenized = tokenized; place = place; first = f; is_byte = refl }
    by_cause checked.DeepType f = record { tokens = tokens; tokenized = tokenized; place = place; first = f; is_byte = refl }
    by_cause checked.TooManyConstructors f = record { tokens = tokens; tokenized = tokenized; place = place; first = f; is_byte = refl }
    by_cause checked.TooManyFields f = record { tokens = tokens; tokenized = tokenized; place = place; first = f; is_byte = refl }
    by_cause checked.TooManyParams f = record { tokens = tokens; tokenized = tokenized; place = place; first = f; is_byte = refl }

pub word_is_refused : (text : List ℕ) (tokens first second : List Token) (c : Checked) (place : ℕ) (e : GrammarError)
    → Tokenizes text tokens → first ≡ tokens → second ≡ tokens
    → IsFirst (WordRefusal (lexemes text first)) (cause_of c) place
    → e ≡ error_of c (byte_of second (length text) place) → RefusesWord text e
word_is_refused text tokens first second c place e tokenized is_first is_second refused is =
    let P : GrammarError → Type 0 = RefusesWord text in
    let Q : List Token → Type 0 = λ ts. IsFirst (WordRefusal (lexemes text ts)) (cause_of c) place in
    subst P (sym (is ∙ ap (λ ts. error_of c (byte_of ts (length text) place)) is_second)) (by_cause c (subst Q is_first refused))
  where
    by_cause : (c : Checked) → IsFirst (WordRefusal (lexemes text tokens)) (cause_of c) place
        → RefusesWord text (error_of c (byte_of tokens (length text) place))
    by_cause checked.Syntax f = record { tokens = tokens; tokenized = tokenized; place = place; first = f; is_byte = refl }
    by_cause checked.DeepType f = record { tokens = tokens; tokenized = tokenized; place = place; first = f; is_byte = refl }
    by_cause checked.TooManyConstructors f = record { tokens = tokens; tokenized = tokenized; place = place; first = f; is_byte = refl }
    by_cause checked.TooManyFields f = record { tokens = tokens; tokenized = tokenized; place = place; first = f; is_byte = refl }
    by_cause checked.TooManyParams f = record { tokens = tokens; tokenized = tokenized; place = place; first = f; is_byte = refl }

-- the refusal of a cause at a byte
abbrev error_at : Cause → ℕ → GrammarError
error_at syntax byte = errors.Syntax byte
error_at deep_type byte = errors.DeepType byte
error_at too_many_constructors byte = errors.TooManyConstructors byte
error_at too_many_fields byte = errors.TooManyFields byte
error_at too_many_params byte = errors.TooManyParams byte

-- a refusal is one of the tokens or one of the lexemes
data Reported (Refused : Cause → ℕ → Type 0) (text : List ℕ) (e : GrammarError) : Type 0 where
  by_tokens : (f : LexError) → TokenRefusal text f → e ≡ errors.Lex f → Reported Refused text e
  by_lexemes : (c : Cause) (n : ℕ) → Refused c n → e ≡ error_at c n → Reported Refused text e

reported : (R : Cause → ℕ → Type 0) (text : List ℕ) (e : GrammarError) → RefusesBy R text e → Reported R text e
reported R text (errors.Lex f) x = by_tokens f x refl
reported R text (errors.Syntax n) x = by_lexemes syntax n x refl
reported R text (errors.DeepType n) x = by_lexemes deep_type n x refl
reported R text (errors.TooManyConstructors n) x = by_lexemes too_many_constructors n x refl
reported R text (errors.TooManyFields n) x = by_lexemes too_many_fields n x refl
reported R text (errors.TooManyParams n) x = by_lexemes too_many_params n x refl
reported R text errors.NoMemory x = absurd x

-- ---- a text has an answer

schema_refusal : (text : List ℕ) (ts : List Token) (c : Cause) (place : ℕ) → Tokenizes text ts
    → IsFirst (SchemaRefusal (lexemes text ts)) c place → Refuses text (error_at c (byte_of ts (length text) place))
schema_refusal text ts syntax place tokenized f = record { tokens = ts; tokenized = tokenized; place = place; first = f; is_byte = refl }
schema_refusal text ts deep_type place tokenized f = record { tokens = ts; tokenized = tokenized; place = place; first = f; is_byte = refl }
schema_refusal text ts too_many_constructors place tokenized f = record { tokens = ts; tokenized = tokenized; place = place; first = f; is_byte = refl }
schema_refusal text ts too_many_fields place tokenized f = record { tokens = ts; tokenized = tokenized; place = place; first = f; is_byte = refl }
schema_refusal text ts too_many_params place tokenized f = record { tokens = ts; tokenized = tokenized; place = place; first = f; is_byte = refl }

word_refusal : (text : List ℕ) (ts : List Token) (c : Cause) (place : ℕ) → Tokenizes text ts
    → IsFirst (WordRefusal (lexemes text ts)) c place → RefusesWord text (error_at c (byte_of ts (length text) place))
word_refusal text ts syntax place tokenized f = record { tokens = ts; tokenized = tokenized; place = place; first = f; is_byte = refl }
word_refusal text ts deep_type place tokenized f = record { tokens = ts; tokenized = tokenized; place = place; first = f; is_byte = refl }
word_refusal text ts too_many_constructors place tokenized f = record { tokens = ts; tokenized = tokenized; place = place; first = f; is_byte = refl }
word_refusal text ts too_many_fields place tokenized f = record { tokens = ts; tokenized = tokenized; place = place; first = f; is_byte = refl }
word_refusal text ts too_many_params place tokenized f = record { tokens = ts; tokenized = tokenized; place = place; first = f; is_byte = refl }

abbrev SomeTokens : List ℕ → Type 0
SomeTokens text = ((ts : List Token) × Tokenizes text ts) ⊎ ((e : LexError) × TokenRefusal text e)

pub schema_or_refusal : (text : List ℕ) → SomeTokens text → SchemaSomeAnswer
    → ((s : SchemaView) × Writes text s) ⊎ ((e : GrammarError) × Refuses text e)
schema_or_refusal text (inr r) some = inr (errors.Lex r.0, r.1)
schema_or_refusal text (inl tokenized) some = go (some (lexemes text tokenized.0))
  where
    go : ((s : SchemaView) × Declarations standard (lexemes text tokenized.0) s × WithinCounts s)
        ⊎ ((c : Cause) × (place : ℕ) × IsFirst (SchemaRefusal (lexemes text tokenized.0)) c place)
        → ((s : SchemaView) × Writes text s) ⊎ ((e : GrammarError) × Refuses text e)
    go (inl w) = inl (w.0, record { tokens = tokenized.0; tokenized = tokenized.1; written = w.1; counts = w.2 })
    go (inr r) = inr (error_at r.0 (byte_of tokenized.0 (length text) r.1), schema_refusal text tokenized.0 r.0 r.1 tokenized.1 r.2)

pub word_or_refusal : (text : List ℕ) → SomeTokens text → WordSomeAnswer
    → ((e : ExprView) × WritesWord text e) ⊎ ((e : GrammarError) × RefusesWord text e)
word_or_refusal text (inr r) some = inr (errors.Lex r.0, r.1)
word_or_refusal text (inl tokenized) some = go (some (lexemes text tokenized.0))
  where
    go : ((e : ExprView) × TypeWord standard (lexemes text tokenized.0) e)
        ⊎ ((c : Cause) × (place : ℕ) × IsFirst (WordRefusal (lexemes text tokenized.0)) c place)
        → ((e : ExprView) × WritesWord text e) ⊎ ((e : GrammarError) × RefusesWord text e)
    go (inl w) = inl (w.0, record { tokens = tokenized.0; tokenized = tokenized.1; written = w.1 })
    go (inr r) = inr (error_at r.0 (byte_of tokenized.0 (length text) r.1), word_refusal text tokenized.0 r.0 r.1 tokenized.1 r.2)

-- ---- a text has one answer

-- what the layers below say of all texts
pub record TokenLaws : Type 0 where
  pub tokenized : (text : List ℕ) (a b : List Token) → Tokenizes text a → Tokenizes text b → a ≡ b
  pub refusal : (text : List ℕ) (a b : LexError) → TokenRefusal text a → TokenRefusal text b → a ≡ b
  pub not_both : (text : List ℕ) (ts : List Token) (e : LexError) → Tokenizes text ts → TokenRefusal text e → ⊥

pub record Laws : Type 0 where
  pub tokens : TokenLaws
  pub one_schema : SchemaOneAnswer
  pub one_word : WordOneAnswer
  pub first_schema : (ls : List Lexeme) → OneFirst (SchemaRefusal ls)
  pub first_word : (ls : List Lexeme) → OneFirst (WordRefusal ls)

module _ (laws : Laws) where
  -- what speaks of the tokens of a tokenized speaks of those of every tokenized
  moved : (text : List ℕ) (a b : List Token) (P : List Token → Type 0) → Tokenizes text a → Tokenizes text b → P a → P b
  moved text a b P tokenized cut' p = subst P (laws.tokens.tokenized text a b tokenized cut') p

  schemas_one : (text : List ℕ) (c d : Cause) (m n : ℕ) → SchemaRefused text c m → SchemaRefused text d n
      → (c ≡ d) × (m ≡ n)
  schemas_one text c d m n a b =
      let P : List Token → Type 0 = λ ts. IsFirst (SchemaRefusal (lexemes text ts)) c a.place in
      let one = laws.first_schema (lexemes text b.tokens) c d a.place b.place (moved text a.tokens b.tokens P a.tokenized b.tokenized a.first) b.first in
      (one.0, a.is_byte ∙ ap (λ ts. byte_of ts (length text) a.place) (laws.tokens.tokenized text a.tokens b.tokens a.tokenized b.tokenized) ∙ ap (byte_of b.tokens (length text)) one.1 ∙ sym b.is_byte)

  words_one : (text : List ℕ) (c d : Cause) (m n : ℕ) → WordRefused text c m → WordRefused text d n → (c ≡ d) × (m ≡ n)
  words_one text c d m n a b =
      let P : List Token → Type 0 = λ ts. IsFirst (WordRefusal (lexemes text ts)) c a.place in
      let one = laws.first_word (lexemes text b.tokens) c d a.place b.place (moved text a.tokens b.tokens P a.tokenized b.tokenized a.first) b.first in
      (one.0, a.is_byte ∙ ap (λ ts. byte_of ts (length text) a.place) (laws.tokens.tokenized text a.tokens b.tokens a.tokenized b.tokenized) ∙ ap (byte_of b.tokens (length text)) one.1 ∙ sym b.is_byte)

  reported_once : (R : Cause → ℕ → Type 0) (text : List ℕ)
      → ((c d : Cause) (m n : ℕ) → R c m → R d n → (c ≡ d) × (m ≡ n))
      → ((c : Cause) (n : ℕ) (f : LexError) → R c n → TokenRefusal text f → ⊥)
      → (e g : GrammarError) → Reported R text e → Reported R text g → e ≡ g
  reported_once R text one apart e g (by_tokens f a is) (by_tokens h b is') = is ∙ ap errors.Lex (laws.tokens.refusal text f h a b) ∙ sym is'
  reported_once R text one apart e g (by_tokens f a is) (by_lexemes d n b is') = absurd (apart d n f b a)
  reported_once R text one apart e g (by_lexemes c m a is) (by_tokens f b is') = absurd (apart c m f a b)
  reported_once R text one apart e g (by_lexemes c m a is) (by_lexemes d n b is') =
      let k = one c d m n a b in is ∙ ap (λ x. error_at x m) k.0 ∙ ap (error_at d) k.1 ∙ sym is'

  -- a text has at most one refusal
  pub refused_at_most_once : (text : List ℕ) (e f : GrammarError) → Refuses text e → Refuses text f → e ≡ f
  refused_at_most_once text e f a b =
      reported_once (SchemaRefused text) text (schemas_one text) (λ c n h r x. laws.tokens.not_both text r.tokens h r.tokenized x) e f
      (reported (SchemaRefused text) text e a) (reported (SchemaRefused text) text f b)

  pub word_refused_at_most_once : (text : List ℕ) (e f : GrammarError) → RefusesWord text e → RefusesWord text f → e ≡ f
  word_refused_at_most_once text e f a b =
      reported_once (WordRefused text) text (words_one text) (λ c n h r x. laws.tokens.not_both text r.tokens h r.tokenized x) e f
      (reported (WordRefused text) text e a) (reported (WordRefused text) text f b)

  -- and not where it writes something
  pub not_both_read : (text : List ℕ) (s : SchemaView) (e : GrammarError) → Writes text s → Refuses text e → ⊥
  not_both_read text s e w r = go (reported (SchemaRefused text) text e r)
    where
      go : Reported (SchemaRefused text) text e → ⊥
      go (by_tokens f a is) = laws.tokens.not_both text w.tokens f w.tokenized a
      go (by_lexemes c n a is) =
          let P : List Token → Type 0 = λ ts. SchemaRefusal (lexemes text ts) c a.place in
          laws.one_schema (lexemes text w.tokens) s c a.place w.written w.counts (moved text a.tokens w.tokens P a.tokenized w.tokenized a.first.refused)

  pub not_both_words : (text : List ℕ) (x : ExprView) (e : GrammarError) → WritesWord text x → RefusesWord text e → ⊥
  not_both_words text x e w r = go (reported (WordRefused text) text e r)
    where
      go : Reported (WordRefused text) text e → ⊥
      go (by_tokens f a is) = laws.tokens.not_both text w.tokens f w.tokenized a
      go (by_lexemes c n a is) =
          let P : List Token → Type 0 = λ ts. WordRefusal (lexemes text ts) c a.place in
          laws.one_word (lexemes text w.tokens) x c a.place w.written (moved text a.tokens w.tokens P a.tokenized w.tokenized a.first.refused)

  -- a text writes at most one schema
  pub written_at_most_once : (text : List ℕ) (s t : SchemaView) → Writes text s → Writes text t → s ≡ t
  written_at_most_once text s t a b =
      let P : List Token → Type 0 = λ ts. Declarations standard (lexemes text ts) s in
      schema_once standard (lexemes text b.tokens) s t (moved text a.tokens b.tokens P a.tokenized b.tokenized a.written) b.written

  pub word_at_most_once : (text : List ℕ) (x y : ExprView) → WritesWord text x → WritesWord text y → x ≡ y
  word_at_most_once text x y a b =
      let P : List Token → Type 0 = λ ts. TypeWord standard (lexemes text ts) x in
      word_once standard (lexemes text b.tokens) x y (moved text a.tokens b.tokens P a.tokenized b.tokenized a.written) b.written

-- ---- what is answered, by what holds of it

pub answered_written : {X V : Type 0} (r : Result X GrammarError) (view : X → V) (W : V → Type 0) (R : GrammarError
    → Type 0)
    → ((v w : V) → W v → W w → v ≡ w) → ((v : V) (e : GrammarError) → W v → R e → ⊥) → IfRead r (λ x. W (view x)) R
    → (v : V) → W v → IfRead r (λ x. view x ≡ v) (λ e. ⊥)
answered_written (Ok x) view W R one apart holds v w = one (view x) v holds w
answered_written (Err e) view W R one apart holds v w = λ memory. apart v e w (holds memory)

pub answered_refused : {X V : Type 0} (r : Result X GrammarError) (view : X → V) (W : V → Type 0) (R : GrammarError
    → Type 0)
    → ((e f : GrammarError) → R e → R f → e ≡ f) → ((v : V) (e : GrammarError) → W v → R e → ⊥)
    → IfRead r (λ x. W (view x)) R
    → (e : GrammarError) → R e → IfRead r (λ x. ⊥) (λ f. f ≡ e)
answered_refused (Ok x) view W R one apart holds e refused = apart (view x) e holds refused
answered_refused (Err f) view W R one apart holds e refused = λ memory. one f e (holds memory) refused

pub answered_limits : {X V : Type 0} (r : Result X GrammarError) (view : X → V) (W L : V → Type 0) (R : GrammarError
    → Type 0)
    → ((v : V) → W v → L v) → IfRead r (λ x. W (view x)) R → IfRead r (λ x. L (view x)) (λ e. ⊤)
answered_limits (Ok x) view W L R within holds = within (view x) holds
answered_limits (Err e) view W L R within holds = λ memory. tt
