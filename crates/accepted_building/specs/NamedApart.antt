-- Declarations of one type that are named differently.
use Rattle.std.specs.Prelude.{◌≡◌, [], ◌∷◌, Some}
use Rattle.tlb_syntax.specs.Tree.{ConstructorView, SchemaView}
use Rattle.kind_terms.specs.Words.{Word}

-- two declarations of one type with one name
pub record AreBothNamed (b c : ConstructorView) : Type 0 where
  pub type : b.result ≡ c.result
  pub name : Word
  pub first : b.name ≡ Some name
  pub second : c.name ≡ Some name

-- none of these later declarations is of the type of this one and has its name
abbrev pub IsNamedApart : ConstructorView → SchemaView → Type 0
IsNamedApart c [] = Unit {0}
IsNamedApart c (d ∷ ds) = (AreBothNamed c d → ⊥) × IsNamedApart c ds

abbrev pub AreNamedApart : SchemaView → Type 0
AreNamedApart [] = Unit {0}
AreNamedApart (c ∷ cs) = IsNamedApart c cs × AreNamedApart cs
