-- The tokens of a text gone through to their end.
use Rattle.std.proofs.Common.{◌≡◌, ◌<◌, ◌+◌, ℕ, zero, suc, List, [], ◌∷◌, map, drop, length, get_or, Option, Some, None, refl, sym, ap, ◌∙◌, arith, add-one}
use Rattle.std.proofs.Math.Seq.{drop-cons}
use Rattle.tlb_lexer.specs.declared.Token.{Token}
use Rattle.tlb_lexer.specs.Tokenization.{PlacedFrom}
use Rattle.tlb_syntax.specs.declared.tree.Expr.{Expr}
use Rattle.tlb_syntax.specs.declared.tree.Schema.{Schema}
use Rattle.tlb_syntax.specs.Lexeme.{Lexeme, lexeme_of, lexemes}
use Rattle.tlb_syntax.specs.Tree.{SchemaView, ExprView}
use Rattle.tlb_syntax.specs.View as view
use Rattle.tlb_syntax.specs.Grammar.{Bounds, Declarations, TypeWord}
use Rattle.tlb_grammar.specs.Builder.{State, step, run, onward, built_schema, built_word}
use Rattle.tlb_grammar.specs.Follows.{IsRead, ArePlaced}
use Rattle.tlb_grammar.proofs.Completeness.{schema_built, word_built}

-- tokens in order within a text can be read
pub placed-read : (text : List ℕ) (start : ℕ) (ts : List Token) → PlacedFrom text start ts → ArePlaced text ts
placed-read text start [] h = tt
placed-read text start (t ∷ ts) h =
    (record { within = record { forward = omega (arith, h.0.forward); within = h.0.within }; spelled = grind (arith, h.0.spelled) }, placed-read text t.to ts h.1)

pub read_at : (text : List ℕ) (ts : List Token) (i : ℕ) (d : Token) → i < length ts → ArePlaced text ts
    → IsRead text (get_or ts i d)
read_at text [] i d h r = absurd (omega arith)
read_at text (t ∷ ts) zero d h r = r.0
read_at text (t ∷ ts) (suc i) d h r = read_at text ts i d (omega arith) r.1

lexemes_from : (text : List ℕ) (ts : List Token) (i : ℕ) (d : Token) → i < length ts
    → lexemes text (drop i ts) ≡ lexeme_of text (get_or ts i d) ∷ lexemes text (drop (i + 1) ts)
lexemes_from text ts i d h = rw (add-one, drop-cons ts i d) refl

stepped : (st : State) (t u : Lexeme) (ls all : List Lexeme) (o : Option State) → all ≡ t ∷ ls → u ≡ t → step st u ≡ o
    → run st all ≡ onward o (λ next. run next ls)
stepped st t u ls all o whole same e = ap (run st) whole ∙ ap (λ z. onward z (λ next. run next ls)) (ap (step st) (sym same) ∙ e)

-- one token more
pub step_on : (text : List ℕ) (ts : List Token) (i : ℕ) (d : Token) (st later : State) (u : Lexeme) (r : Option State)
    → i < length ts → u ≡ lexeme_of text (get_or ts i d)
    → step st u ≡ Some later → run st (lexemes text (drop i ts)) ≡ r → run later (lexemes text (drop (i + 1) ts)) ≡ r
step_on text ts i d st later u r h same e kept =
    sym (stepped st (lexeme_of text (get_or ts i d)) u (lexemes text (drop (i + 1) ts)) (lexemes text (drop i ts)) (Some later) (lexemes_from text ts i d h) same e) ∙ kept

-- a token that can't come
pub stop_at : (text : List ℕ) (ts : List Token) (i : ℕ) (d : Token) (st : State) (u : Lexeme) (r : Option State)
    → i < length ts → u ≡ lexeme_of text (get_or ts i d)
    → step st u ≡ None → run st (lexemes text (drop i ts)) ≡ r → r ≡ None
stop_at text ts i d st u r h same e kept =
    sym kept ∙ stepped st (lexeme_of text (get_or ts i d)) u (lexemes text (drop (i + 1) ts)) (lexemes text (drop i ts)) None (lexemes_from text ts i d h) same e

some_one : {X : Type 0} (x y : X) → Some x ≡ Some y → x ≡ y
some_one x y e = cc

none_some : {X : Type 0} (x : X) → None ≡ Some x → ⊥
none_some x e = cc

-- what is built is what is written
pub schema_found : (m : Bounds) (ls : List Lexeme) (found : Schema) → Some found.constructors ≡ built_schema ls
    → (s : SchemaView) → Declarations m ls s → view.schema found ≡ s
schema_found m ls found e s w = let b = schema_built m ls s w in ap (map view.constructor) (some_one found.constructors b.value (e ∙ b.is)) ∙ b.same

pub word_found : (m : Bounds) (ls : List Lexeme) (found : Expr) → Some found ≡ built_word ls → (e : ExprView)
    → TypeWord m ls e → view.expr found ≡ e
word_found m ls found e t w = let b = word_built m ls t w in ap view.expr (some_one found b.value (e ∙ b.is)) ∙ b.same

pub schema_is_found : (m : Bounds) (ls : List Lexeme) (s : SchemaView) → None ≡ built_schema ls → Declarations m ls s
    → ⊥
schema_is_found m ls s e w = let b = schema_built m ls s w in none_some b.value (e ∙ b.is)

pub word_is_found : (m : Bounds) (ls : List Lexeme) (e : ExprView) → None ≡ built_word ls → TypeWord m ls e → ⊥
word_is_found m ls t e w = let b = word_built m ls t w in none_some b.value (e ∙ b.is)
