-- A word that names a type.
use Rattle.std.proofs.Common.{◌≡◌, inl, inr, ℕ, List, Ok, Err}
use Rattle.tlb_edge.specs.Files.{Name}
use Rattle.core_form.specs.Closed.{Closed}
use Rattle.tlb_syntax.specs.Text.{expr_text}
use Rattle.tlb_syntax.specs.Tree.{ExprView, SchemaView}
use Rattle.tlb_syntax.specs.Written.{WritesWord}
use Rattle.type_word.specs.InSchema.{ResolvesIn}
use Rattle.type_word.specs.declared.error.TypeError.{TypeError}
use Rattle.cli_stages.specs.TypeWord.{NamesType}

pub never_named : (t : Closed) (e : TypeError) → Ok t ≡ Err e → ⊥
never_named t e is = cc

-- it writes an expression
pub expr_of : (s : SchemaView) (word : Name) (t : Closed) → ResolvesIn s word (Ok t) → (e : ExprView) × WritesWord word e
expr_of s word t (inl h) = absurd (never_named t _ h.2)
expr_of s word t (inr h) = (h.0, h.1)

-- and is shown by the text of that
pub named : (s : SchemaView) (word : Name) (t : Closed) (text : List ℕ) → ResolvesIn s word (Ok t)
    → ((e : ExprView) → WritesWord word e → text ≡ expr_text e) → NamesType word s (record { closed = t; text = text })
named s word t text is shown =
    let found = expr_of s word t is in
    record { resolved = is; expr = found.0; writes = found.1; shown = shown found.0 found.1 }
