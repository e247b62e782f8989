-- Constructors that are told apart before one of them is entered.
-- Source: this project's rule, after the TON documentation on the TL-B language (tags and parameters of constructors).
use Rattle.std.specs.Prelude.{ℕ, ◌≡◌, ◌^◌, ◌⊎◌, ◌&&◌, ◌||◌, not, Bool, true, false, List, [], ◌∷◌, max}
use Rattle.std.specs.Prelude.{nat_eq, nat_le, nat_lt}
use Rattle.std.specs.List.{list_all}
use Rattle.nat_solver.specs.Pattern as patterns
use Rattle.nat_solver.specs.declared.pattern.Pattern.{Pattern}
use Rattle.nat_solver.specs.declared.pattern.Pattern.TheVariants.{Lit, Var, Plus}
use Rattle.core_form.specs.Core.{Input, number, type, Declaration, CoreSchema}
use Rattle.schema_leads.specs.Leads.{begins, Leads, leads, some_begins}

-- no lead of one begins a lead of the other
abbrev pub are_apart : Leads → Leads → Bool
are_apart ls ks = list_all (λ l. list_all (λ k. not (begins l k || begins k l)) ks) ls

-- at some input number no number meets the patterns of both
abbrev pub Excluding : List Input → List Input → Type 0
Excluding (number p ∷ ps) (number q ∷ qs) = patterns.Exclude p q ⊎ Excluding ps qs
Excluding (type v ∷ ps) (type w ∷ qs) = Excluding ps qs
Excluding _ _ = ⊥

-- two constructors of a type are separated by their leads or by their patterns
abbrev pub AreSeparated : CoreSchema → Declaration → Declaration → Type 0
AreSeparated s c e = (are_apart (leads s c) (leads s e) ≡ true) ⊎ Excluding c.core.inputs e.core.inputs

-- ---- as a test

-- whether the pattern meets the number
abbrev pub meets : Pattern → ℕ → Bool
meets (Lit n) x = nat_eq x n
meets (Var v) x = true
meets (Plus v k) x = nat_le k x

-- the greater of the least numbers that meet them is met by both, or no number is
abbrev pub exclude : Pattern → Pattern → Bool
exclude p q =
    let x = max (patterns.least p) (patterns.least q) in
    not (nat_lt x (2 ^ 32) && (meets p x && meets q x))

abbrev pub excluding : List Input → List Input → Bool
excluding (number p ∷ ps) (number q ∷ qs) = exclude p q || excluding ps qs
excluding (type v ∷ ps) (type w ∷ qs) = excluding ps qs
excluding _ _ = false

abbrev pub are_separated : CoreSchema → Declaration → Declaration → Bool
are_separated s c e = are_apart (leads s c) (leads s e) || excluding c.core.inputs e.core.inputs

-- ---- what is entered

-- the numbers meet the patterns of the inputs, one by one; a type takes no number
abbrev pub Meets : List Input → List ℕ → Type 0
Meets [] [] = Unit {0}
Meets [] (n ∷ ns) = ⊥
Meets (number p ∷ inputs) [] = ⊥
Meets (number p ∷ inputs) (n ∷ ns) = ((y : ℕ) × patterns.Fits p n y) × Meets inputs ns
Meets (type v ∷ inputs) ns = Meets inputs ns

-- The constructor can be entered where its type's input numbers are these and these bits are left: its patterns meet the
-- numbers, and one of its leads begins the bits.
pub record CanEnter (s : CoreSchema) (c : Declaration) (ns bits : List ℕ) : Type 0 where
  pub meets : Meets c.core.inputs ns
  pub begins : some_begins (leads s c) bits ≡ true
