-- Runs of the machine, with the names of the types that are declared in them.
use Rattle.std.proofs.Common.{◌≡◌, ℕ, List, [], ◌∷◌, ◌++◌, Ok, Err, refl, ap, ◌∙◌}
use Rattle.tlb_syntax.specs.Lexeme.{Lexeme, word}
use Rattle.tlb_syntax.specs.Grammar.{Bounds}
use Rattle.syntax_check.specs.declared.machine.ParserState.{ParserState}
use Rattle.syntax_check.specs.declared.machine.ParserState.TheVariants as modes
use Rattle.syntax_check.specs.declared.machine.Cause.{Cause}
use Rattle.syntax_check.specs.Machine.{State, at, Outcome, and_then, step, run}

-- the name that a lexeme declares, before further ones
abbrev pub declared_by : ParserState → Lexeme → List (List ℕ) → List (List ℕ)
declared_by modes.Result (word x) further = x ∷ further
declared_by mode t further = further

abbrev pub named_in : State → Lexeme → List (List ℕ) → List (List ℕ)
named_in (at mode lv below) t further = declared_by mode t further

abbrev pub if_taken : Outcome → (State → List (List ℕ)) → List (List ℕ)
if_taken (Ok st) further = further st
if_taken (Err why) further = []

-- the names of the types that are declared, in their order
abbrev pub results : Bounds → State → List Lexeme → List (List ℕ)
results m st [] = []
results m st (t ∷ ts) = named_in st t (if_taken (step m st t) (λ next. results m next ts))

-- where a run arrives, and the names in it
abbrev pub trail : Bounds → State → List Lexeme → Outcome × List (List ℕ)
trail m st ls = (run m st ls, results m st ls)

pub runs_on : (m : Bounds) (st : State) (prefix rest : List Lexeme)
    → run m st (prefix ++ rest) ≡ and_then (run m st prefix) (λ mid. run m mid rest)
runs_on m st [] rest = refl
runs_on m st (t ∷ ts) rest = go (step m st t) (λ next. runs_on m next ts rest)
  where
    go : (o : Outcome) → ((next : State) → run m next (ts ++ rest) ≡ and_then (run m next ts) (λ mid. run m mid rest))
        → and_then o (λ next. run m next (ts ++ rest)) ≡ and_then (and_then o (λ next. run m next ts))
        (λ mid. run m mid rest)
    go (Ok next) further = further next
    go (Err why) further = refl

ok_one : (x y : State) → (◌≡◌ {A = Outcome} (Ok x) (Ok y)) → x ≡ y
ok_one x y e = cc

declared-append : (mode : ParserState) (t : Lexeme) (xs ys : List (List ℕ))
    → declared_by mode t (xs ++ ys) ≡ declared_by mode t xs ++ ys
declared-append modes.Result (word x) xs ys = refl
declared-append mode t xs ys = refl

named-append : (st : State) (t : Lexeme) (xs ys : List (List ℕ)) → named_in st t (xs ++ ys) ≡ named_in st t xs ++ ys
named-append (at mode lv below) t xs ys = declared-append mode t xs ys

-- the names in two runs, one after the other
pub results_on : (m : Bounds) (st : State) (prefix rest : List Lexeme) (mid : State) → run m st prefix ≡ Ok mid
    → results m st (prefix ++ rest) ≡ results m st prefix ++ results m mid rest
results_on m st [] rest mid e = ap (λ z. results m z rest) (ok_one st mid e)
results_on m st (t ∷ ts) rest mid e =
    ap (named_in st t) (go (step m st t) e (λ next. results_on m next ts rest mid))
    ∙ named-append st t (if_taken (step m st t) (λ next. results m next ts)) (results m mid rest)
  where
    go : (o : Outcome) → and_then o (λ next. run m next ts) ≡ Ok mid
        → ((next : State) → run m next ts ≡ Ok mid
        → results m next (ts ++ rest) ≡ results m next ts ++ results m mid rest)
        → if_taken o (λ next. results m next (ts ++ rest))
        ≡ if_taken o (λ next. results m next ts) ++ results m mid rest
    go (Ok next) f further = further next f
    go (Err why) f further = absurd (no_run why f)
      where
        no_run : (why : Cause) → (◌≡◌ {A = Outcome} (Err why) (Ok mid)) → ⊥
        no_run why f = cc
