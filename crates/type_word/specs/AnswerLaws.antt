-- A word has one answer, and out of memory is none.
use Rattle.std.proofs.Common.{◌≡◌, ap, sym, ◌∙◌, refl, inl, inr, Bool, true, false, cond, List, ℕ, Some, None}
use Rattle.std.specs.Prelude.{◌⊎◌, Option, Result, Ok, Err, nat_lt}
use Rattle.tlb_lexer.specs.declared.LexError.{LexError}
use Rattle.tlb_lexer.specs.declared.LexError.TheVariants as tokens
use Rattle.tlb_lexer.specs.declared.Token.{Token}
use Rattle.tlb_lexer.specs.Tokenization.{Tokenizes, TokenRefusalFrom, after_gap, after_token}
use Rattle.tlb_lexer.specs.Tokenization.{bad_character, open_comment, too_long_name}
use Rattle.tlb_syntax.specs.Tree.{ExprView}
use Rattle.tlb_syntax.specs.Written.{WritesWord}
use Rattle.tlb_grammar.specs.Answer.{RefusesWord}
use Rattle.tlb_grammar.specs.declared.error.GrammarError.{GrammarError}
use Rattle.tlb_grammar.specs.declared.error.GrammarError.TheVariants as grammar
use Rattle.core_form.specs.Closed.{Closed, nodes}
use Rattle.type_closing.specs.Closing.{closed_of}
use Rattle.type_closing.specs.Faults.{DeclaredKinds, Fault, unknown_type, arity, output, kind_mismatch, too_wide}
use Rattle.type_closing.specs.Faults.{type_fault}
use Rattle.type_word.specs.declared.error.TypeError.{TypeError}
use Rattle.type_word.specs.declared.error.TypeError.TheVariants as errors
use Rattle.type_word.specs.Resolving.{Resolves, after_faults, after_signs, bounded, fault_error, grammar_error}
use Rattle.type_word.specs.Resolving.{resolved}
use Rattle.type_word.specs.Signs.{first_refused, refused_signs, sign_places}

-- what is known of texts
pub record Texts : Type 0 where
  pub written : (text : List ℕ) (e f : ExprView) → WritesWord text e → WritesWord text f → e ≡ f
  pub refused : (text : List ℕ) (e f : GrammarError) → RefusesWord text e → RefusesWord text f → e ≡ f
  pub not_both : (text : List ℕ) (x : ExprView) (e : GrammarError) → WritesWord text x → RefusesWord text e → ⊥
  pub some : (text : List ℕ) → ((e : ExprView) × WritesWord text e) ⊎ ((e : GrammarError) × RefusesWord text e)
  pub tokenized : (text : List ℕ) (a b : List Token) → Tokenizes text a → Tokenizes text b → a ≡ b

-- ---- at most one

pub one_answer : Texts → (d : DeclaredKinds) (word : List ℕ) (r q : Result Closed TypeError) → Resolves d word r
    → Resolves d word q → r ≡ q
one_answer known d word r q (inl a) (inl b) =
    let f : GrammarError → Result Closed TypeError = λ e. Err (grammar_error e) in
    a.2 ∙ ap f (known.refused word a.0 b.0 a.1 b.1) ∙ sym b.2
one_answer known d word r q (inl a) (inr b) = absurd (known.not_both word b.0 a.0 b.1 a.1)
one_answer known d word r q (inr a) (inl b) = absurd (known.not_both word a.0 b.0 a.1 b.1)
one_answer known d word r q (inr a) (inr b) =
    let same : a.0 ≡ b.0 = known.written word a.0 b.0 a.1 b.1 in
    let places : a.1.tokens ≡ b.1.tokens =
    known.tokenized word a.1.tokens b.1.tokens a.1.tokenized b.1.tokenized in
    a.2 ∙ (λ i. resolved d (sign_places word (places i)) (same i)) ∙ sym b.2

-- ---- one

abbrev Answer : DeclaredKinds → List ℕ → Type 0
Answer d word = (r : Result Closed TypeError) × Resolves d word r

written_answer : (d : DeclaredKinds) (word : List ℕ)
    → ((e : ExprView) × WritesWord word e) ⊎ ((e : GrammarError) × RefusesWord word e)
    → Answer d word
written_answer d word (inl w) = (resolved d (sign_places word w.1.tokens) w.0, inr (w.0, w.1, refl))
written_answer d word (inr g) = (Err (grammar_error g.0), inl (g.0, g.1, refl))

pub some_answer : Texts → (d : DeclaredKinds) (word : List ℕ) → (r : Result Closed TypeError) × Resolves d word r
some_answer known d word = written_answer d word (known.some word)

-- ---- out of memory

tokens_have_memory : (place : ℕ) (text : List ℕ) (e : LexError) → TokenRefusalFrom place text e
    → tokens.NoMemory ≡ e → ⊥
tokens_have_memory place text e (after_gap gap later) h = tokens_have_memory _ _ e later h
tokens_have_memory place text e (after_token longest short later) h = tokens_have_memory _ _ e later h
tokens_have_memory place text _ (bad_character nothing) h = cc
tokens_have_memory place text _ (open_comment opened) h = cc
tokens_have_memory place text _ (too_long_name longest long) h = cc

grammar_has_memory : (word : List ℕ) (g : GrammarError) → RefusesWord word g → errors.NoMemory ≡ grammar_error g → ⊥
grammar_has_memory word (grammar.Lex (tokens.BadCharacter place)) w h = cc
grammar_has_memory word (grammar.Lex (tokens.OpenComment place)) w h = cc
grammar_has_memory word (grammar.Lex (tokens.TooLongName place)) w h = cc
grammar_has_memory word (grammar.Lex tokens.NoMemory) w h = tokens_have_memory 0 word tokens.NoMemory w refl
grammar_has_memory word (grammar.Syntax place) w h = cc
grammar_has_memory word (grammar.DeepType place) w h = cc
grammar_has_memory word (grammar.TooManyConstructors place) w h = cc
grammar_has_memory word (grammar.TooManyFields place) w h = cc
grammar_has_memory word (grammar.TooManyParams place) w h = cc
grammar_has_memory word grammar.NoMemory w h = w

fault_has_memory : (f : Fault) → errors.NoMemory ≡ fault_error f → ⊥
fault_has_memory (unknown_type x) h = cc
fault_has_memory (arity x) h = cc
fault_has_memory (output x) h = cc
fault_has_memory (kind_mismatch x) h = cc
fault_has_memory too_wide h = cc

bound_has_memory : (t : Closed) (b : Bool) → Err errors.NoMemory ≡ cond b (Err errors.BigType) (Ok t) → ⊥
bound_has_memory t true h = cc
bound_has_memory t false h = cc

expr_has_memory : (t : Closed) (sign : Option ℕ) (fault : Option Fault)
    → Err errors.NoMemory ≡ after_signs sign (after_faults fault (bounded t)) → ⊥
expr_has_memory t (Some place) fault h = cc
expr_has_memory t None (Some f) h = let same : errors.NoMemory ≡ fault_error f = cc in fault_has_memory f same
expr_has_memory t None None h = bound_has_memory t (nat_lt 4096 (nodes t)) h

pub answers_have_memory : (d : DeclaredKinds) (word : List ℕ) → Resolves d word (Err errors.NoMemory) → ⊥
answers_have_memory d word (inl a) =
    let same : errors.NoMemory ≡ grammar_error a.0 = cc in grammar_has_memory word a.0 a.1 same
answers_have_memory d word (inr a) =
    expr_has_memory (closed_of a.0) (first_refused (refused_signs a.0) (sign_places word a.1.tokens))
    (type_fault d None a.0) a.2
