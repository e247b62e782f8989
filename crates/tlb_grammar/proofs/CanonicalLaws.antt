-- Canonical texts write what they are of.
use Rattle.std.proofs.Common.{◌≡◌, ◌↔◌, ◌≤◌, ◌+◌, ◌∙◌, sym, ap, subst, ℕ, true, false, List, [], ◌∷◌, ◌++◌, None, Some, cond, bytes_eq, codes, arith}
use Rattle.tlb_lexer.specs.declared.Token.{Token}
use Rattle.tlb_lexer.specs.Tokenization.{Tokenizes}
use Rattle.tlb_syntax.specs.Lexeme.{Lexeme, lexemes}
use Rattle.tlb_syntax.specs.Tree.{ConstructorView}
use Rattle.tlb_syntax.specs.Text.{constructor_text}
use Rattle.tlb_syntax.specs.Grammar.{Declarations}
use Rattle.tlb_syntax.specs.Written.{WithinCounts, Writes, standard}
use Rattle.tlb_grammar.specs.Canonical.{constructor_levels, IsWritten}
use Rattle.tlb_grammar.proofs.Completeness.{schema_once}
use Rattle.tlb_grammar.proofs.Pieces.{TokenizedAs, pieces_tokenized}
use Rattle.tlb_grammar.proofs.CanonicalTrees.{IsConstructor, constructor_before}
use Rattle.tlb_grammar.proofs.CanonicalWritten.{leveled, canonical_written}
use Rattle.tlb_grammar.proofs.CanonicalPieces.{SignsStandAlone, canonical_pieces}
use Rattle.tlb_grammar.proofs.CanonicalLevels.{levels_within}
use Rattle.tlb_grammar.proofs.CanonicalProper.{written_proper}

one_within : (c : ConstructorView) → WithinCounts (c ∷ [])
one_within c = record {
  all = omega arith;
  of_one = λ x. elim (bytes_eq c.result x) as (λ t. 0 + cond t 1 0 ≤ 256) [ true ↦ omega arith | false ↦ omega arith ];
}

-- the text with its semicolon
abbrev ended_text : ConstructorView → List ℕ
ended_text c = constructor_text c ++ codes ";"

module _ (tokens_once : (text : List ℕ) (a b : List Token) → Tokenizes text a → Tokenizes text b → a ≡ b)
    (sign_longest : SignsStandAlone) where
  canonical_tokens : (c : ConstructorView) → IsConstructor c
      → TokenizedAs (ended_text c) 0 (ended_text c) (constructor_before c [])
  canonical_tokens c p = pieces_tokenized (ended_text c) (constructor_before c []) (canonical_pieces sign_longest c p)

  shallow_writes : (c : ConstructorView) → IsConstructor c → constructor_levels c ≤ 64 → Writes (ended_text c) (c ∷ [])
  shallow_writes c p le =
      let r = canonical_tokens c p in
      let P : List Lexeme → Type 0 = λ ls. Declarations standard ls (c ∷ []) in
      record {
        tokens = r.tokens;
        tokenized = r.tokenized;
        written = subst P (sym r.same) (canonical_written c (Some 64) p le);
        counts = one_within c;
      }

  written_shallow : (c : ConstructorView) → IsConstructor c → Writes (ended_text c) (c ∷ []) → constructor_levels c ≤ 64
  written_shallow c p w =
      let r = canonical_tokens c p in
      let ls : lexemes (ended_text c) w.tokens ≡ constructor_before c [] =
      ap (lexemes (ended_text c)) (tokens_once (ended_text c) w.tokens r.tokens w.tokenized r.tokenized) ∙ r.same in
      let P : List Lexeme → Type 0 = λ xs. Declarations standard xs (c ∷ []) in
      levels_within c (c ∷ []) (subst P ls w.written)

  pub canonical_writes : (c : ConstructorView) → IsWritten c
      → (constructor_levels c ≤ 64 ↔ Writes (constructor_text c ++ codes ";") (c ∷ []))
  canonical_writes c w = let p = written_proper c w in (shallow_writes c p, written_shallow c p)

  -- what is written of the canonical text, whatever levels it opens
  canonical_derived : (c : ConstructorView) → IsConstructor c → (text : List ℕ) (tokens : List Token)
      → constructor_text c ≡ text → Tokenizes (text ++ codes ";") tokens
      → Declarations (leveled None) (lexemes (text ++ codes ";") tokens) (c ∷ [])
  canonical_derived c p text tokens e tokenized =
      let r = canonical_tokens c p in
      let P : List ℕ → Type 0 = λ xs. Tokenizes (xs ++ codes ";") tokens in
      let same : r.tokens ≡ tokens = tokens_once (ended_text c) r.tokens tokens r.tokenized (subst P (sym e) tokenized) in
      let Q : List Token → Type 0 = λ ts. lexemes (ended_text c) ts ≡ constructor_before c [] in
      let ls : lexemes (ended_text c) tokens ≡ constructor_before c [] = subst Q same r.same in
      let R : List Lexeme → Type 0 = λ xs. Declarations (leveled None) xs (c ∷ []) in
      let S : List ℕ → Type 0 = λ xs. Declarations (leveled None) (lexemes (xs ++ codes ";") tokens) (c ∷ []) in
      subst S e (subst R (sym ls) (canonical_written c None p tt))

  one_head : (a b : ConstructorView) → a ∷ [] ≡ b ∷ [] → a ≡ b
  one_head a b e = cc

  pub canonical_once : (a b : ConstructorView) → IsWritten a → IsWritten b → constructor_text a ≡ constructor_text b
      → a ≡ b
  canonical_once a b v w e =
      let p = written_proper a v in
      let q = written_proper b w in
      let r = canonical_tokens b q in
      let x = canonical_derived a p (constructor_text b) r.tokens e r.tokenized in
      let P : List Lexeme → Type 0 = λ ls. Declarations (leveled None) ls (b ∷ []) in
      let y : Declarations (leveled None) (lexemes (ended_text b) r.tokens) (b ∷ []) =
      subst P (sym r.same) (canonical_written b None q tt) in
      one_head a b (schema_once (leveled None) (lexemes (ended_text b) r.tokens) (a ∷ []) (b ∷ []) x y)
