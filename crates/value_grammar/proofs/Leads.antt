-- The steps go through tokens to something open that they determine but for the places in it.
use Rattle.std.proofs.Common.{◌≡◌, ℕ, List, [], ◌∷◌, ◌++◌, map, Ok, sym, ap, ◌∙◌, subst, append-nil}
use Rattle.value_text.specs.declared.lexeme.Lexeme.{Lexeme}
use Rattle.value_text.specs.Division.{Placed, lexeme_of, lexemes}
use Rattle.value_text.specs.Tokens.{Token}
use Rattle.value_grammar.specs.Open.{Open}
use Rattle.value_grammar.specs.Steps.{Stepped, and_then, held_of, run, step}
use Rattle.value_grammar.proofs.Goes.{G, head_is, parted, run_append, tail_is}

-- from what is open, with so many values and cells, through the tokens to something open of which Q holds
abbrev pub Leads : Open → ℕ → ℕ → List Token → (Open → Type 0) → ℕ → ℕ → Type 0
Leads o m n ts Q i k = (ls : List Placed) → lexemes ls ≡ map lexeme_of ts → (q : Open) × Q q × (run (held_of o m n) ls ≡ Ok (held_of q i k))

pub leads : (o : Open) (m n : ℕ) (ts : List Token) (q : Open) (i k : ℕ) (Q : Open → Type 0) → G o m n ts q i k → Q q → Leads o m n ts Q i k
leads o m n ts q i k Q g h ls e = (q, h, ap (λ (l : List Placed). run (held_of o m n) l) (sym (append-nil ls)) ∙ g ls [] e)

pub leads_on : (o : Open) (m n : ℕ) (ts : List Token) (Q : Open → Type 0) (i k : ℕ) (us : List Token) (R : Open → Type 0) (x y : ℕ) → Leads o m n ts Q i k
    → ((q : Open) → Q q → Leads q i k us R x y) → Leads o m n (ts ++ us) R x y
leads_on o m n ts Q i k us R x y f g ls e =
    let s = parted ls ts us e in
    let a = f s.first s.firsts in
    let b = g a.0 a.1 s.second s.seconds in (
      b.0,
      b.1,
      ap (λ (l : List Placed). run (held_of o m n) l) s.whole
          ∙ run_append (held_of o m n) s.first s.second
          ∙ ap (λ (r : Stepped). and_then r (λ h. run h s.second)) a.2
          ∙ b.2,
    )

pub leads_cons : (o : Open) (m n : ℕ) (t : Token) (us : List Token) (R : Open → Type 0) (i k : ℕ) (mid : ℕ → Open) (a b : ℕ)
    → ((p : ℕ) → step (held_of o m n) (p, lexeme_of t) ≡ Ok (held_of (mid p) a b)) → ((p : ℕ) → Leads (mid p) a b us R i k) → Leads o m n (t ∷ us) R i k
leads_cons o m n t us R i k mid a b f g [] e = absurd (cc)
leads_cons o m n t us R i k mid a b f g (l ∷ ls) e =
    let same = head_is l.1 (lexeme_of t) (lexemes ls) (map lexeme_of us) e in
    let further : Stepped → Stepped = λ r. and_then r (λ h. run h ls) in
    let r = g l.0 ls (tail_is l.1 (lexeme_of t) (lexemes ls) (map lexeme_of us) e) in (
      r.0,
      r.1,
      ap (λ (x : Lexeme). further (step (held_of o m n) (l.0, x))) same ∙ ap further (f l.0) ∙ r.2,
    )

pub leads_along : (o : Open) (m n : ℕ) (ts us : List Token) (Q : Open → Type 0) (i k : ℕ) → ts ≡ us → Leads o m n ts Q i k → Leads o m n us Q i k
leads_along o m n ts us Q i k e f = let P : List Token → Type 0 = λ x. Leads o m n x Q i k in subst P e f

pub leads_to : (o : Open) (m n : ℕ) (ts : List Token) (Q R : Open → Type 0) (i k x y : ℕ) → ((q : Open) → Q q → R q) → i ≡ x → k ≡ y
    → Leads o m n ts Q i k → Leads o m n ts R x y
leads_to o m n ts Q R i k x y w e f g ls s =
    let r = g ls s in
    (r.0, w r.0 r.1, r.2 ∙ (λ j. Ok (held_of r.0 (e j) (f j))))

pub leads_from : (o p : Open) (m n : ℕ) (ts : List Token) (Q : Open → Type 0) (i k : ℕ) → p ≡ o → Leads p m n ts Q i k → Leads o m n ts Q i k
leads_from o p m n ts Q i k e f = let P : Open → Type 0 = λ x. Leads x m n ts Q i k in subst P e f
