-- The symbols of more than one byte, and parts of tests.
use Rattle.std.proofs.Common.{◌≡◌, ap, refl, ℕ, Bool, true, false, ◌||◌, ◌&&◌, List, [], ◌∷◌, inl, inr, ◌⊎◌, ◌==◌}
use Rattle.std.proofs.lemmas.Bool.{eqb-true}
use Rattle.tlb_lexer.specs.declared.TokenKind.{TokenKind}
use Rattle.tlb_lexer.specs.declared.TokenKind.TheVariants.{Name, Blank, Number, BinaryTag, HexTag, Symbol}
use Rattle.tlb_lexer.specs.Spelling.{spells, is_symbol}

pub and_parts : (a b : Bool) → (a && b) ≡ true → (a ≡ true) × (b ≡ true)
and_parts true b e = (refl, e)
and_parts false b e = cc

pub or_parts : (a b : Bool) → (a || b) ≡ true → (a ≡ true) ⊎ (b ≡ true)
or_parts true b e = inl refl
or_parts false b e = inr e

pub or_right : (a b : Bool) → b ≡ true → (a || b) ≡ true
or_right true b e = refl
or_right false b e = e

pub clash : (t : Bool) → t ≡ true → t ≡ false → ⊥
clash t e f = cc

pub data LongSymbol (b c : ℕ) (cs : List ℕ) : Type 0 where
  hashes : b ≡ 35 → c ≡ 35 → cs ≡ [] → LongSymbol b c cs
  hash_less : b ≡ 35 → c ≡ 60 → cs ≡ [] → LongSymbol b c cs
  hash_less_equal : b ≡ 35 → c ≡ 60 → cs ≡ 61 ∷ [] → LongSymbol b c cs
  angle_equal : (b == 60 || b == 62) ≡ true → c ≡ 61 → cs ≡ [] → LongSymbol b c cs

pub long_symbol : (b c : ℕ) (cs : List ℕ) → is_symbol (b ∷ c ∷ cs) ≡ true → LongSymbol b c cs
long_symbol b c [] e =
    elim (or_parts (b == 35 && (c == 35 || c == 60)) ((b == 60 || b == 62) && c == 61) e) [
      | inl h ↦
          let p = and_parts (b == 35) (c == 35 || c == 60) h in
          elim (or_parts (c == 35) (c == 60) p.1) [
            | inl k ↦ hashes (eqb-true b 35 p.0) (eqb-true c 35 k) refl
            | inr k ↦ hash_less (eqb-true b 35 p.0) (eqb-true c 60 k) refl
          ]
      | inr h ↦ let p = and_parts (b == 60 || b == 62) (c == 61) h in angle_equal p.0 (eqb-true c 61 p.1) refl
    ]
long_symbol b c (d ∷ []) e =
    let p = and_parts (b == 35 && c == 60) (d == 61) e in
    let q = and_parts (b == 35) (c == 60) p.0 in
    hash_less_equal (eqb-true b 35 q.0) (eqb-true c 60 q.1) (ap (λ x. x ∷ []) (eqb-true d 61 p.1))
long_symbol b c (d ∷ f ∷ ds) e = cc

pub not_empty : (kind : TokenKind) → spells kind [] ≡ true → ⊥
not_empty Name e = cc
not_empty Blank e = cc
not_empty Number e = cc
not_empty BinaryTag e = cc
not_empty HexTag e = cc
not_empty Symbol e = cc
