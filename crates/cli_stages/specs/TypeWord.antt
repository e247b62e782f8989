-- The stage of a type word at a schema.
use Rattle.std.specs.Prelude.{◌≡◌, ◌≢◌, ℕ, List, Result, Ok, Err}
use Rattle.tlb_edge.specs.Files.{Name}
use Rattle.core_form.specs.Closed.{Closed}
use Rattle.tlb_syntax.specs.Text.{expr_text}
use Rattle.tlb_syntax.specs.Tree.{ExprView, SchemaView}
use Rattle.tlb_syntax.specs.Written.{WritesWord}
use Rattle.type_word.specs.InSchema.{ResolvesIn}
use Rattle.type_word.specs.declared.error.TypeError.{TypeError}
use Rattle.type_word.specs.declared.error.TypeError.TheVariants.{NoMemory}
use Rattle.cli_refusals.specs.Refusal.{Refusal, type_word}
use Rattle.cli_stages.specs.Stage.{stage}

-- a closed type, and the text that it is shown by
pub record ShownType : Type 0 where
  pub closed : Closed
  pub text : List ℕ

-- the word is refused at the schema
pub record RefusesWord (word : Name) (s : SchemaView) (refusal : Refusal) : Type 0 where
  pub error : TypeError
  pub is_refusal : error ≢ NoMemory
  pub refused : ResolvesIn s word (Err error)
  pub is : refusal ≡ type_word error

-- or it names a closed type of the schema, which is shown by the canonical text of the word's expression
pub record NamesType (word : Name) (s : SchemaView) (type : ShownType) : Type 0 where
  pub resolved : ResolvesIn s word (Ok type.closed)
  pub expr : ExprView
  pub writes : WritesWord word expr
  pub shown : type.text ≡ expr_text expr

abbrev pub TypeWord : Name → SchemaView → Result ShownType Refusal → Type 0
TypeWord word s = stage (RefusesWord word s) (NamesType word s)
