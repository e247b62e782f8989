-- What a word names in a plan's schema is a small closed type of it.
use Rattle.std.proofs.Common.{◌≤◌, ℕ, List, Result, Ok, Err, IfOk}
use Rattle.tlb_syntax.specs.Tree.{SchemaView}
use Rattle.core_form.specs.Closed.{ClosedOf, nodes}
use Rattle.closed_type.specs.View.{closed_type}
use Rattle.closed_type.specs.declared.tree.ClosedType.{ClosedType}
use Rattle.schema_leads.specs.Tags.{cores, tag_of}
use Rattle.type_word.specs.declared.error.TypeError.{TypeError}
use Rattle.type_word.specs.InSchema.{kinds_of}
use Rattle.type_word.specs.Laws.{IsSmallClosed, NamedIsClosed}
use Rattle.type_word.specs.Resolving.{Answers}

small_closed : (s : SchemaView) (word : List ℕ) (r : Result ClosedType TypeError) → NamedIsClosed
    → Answers (kinds_of s) word r → IfOk r (λ t. IsSmallClosed s tag_of (closed_type t))
small_closed s word (Ok t) law h = law s tag_of word (closed_type t) h
small_closed s word (Err e) law h = tt

closed_by : (s : SchemaView) (r : Result ClosedType TypeError) → IfOk r (λ t. IsSmallClosed s tag_of (closed_type t))
    → IfOk r (λ t. ClosedOf (cores s) (closed_type t))
closed_by s (Ok t) h = h.closed
closed_by s (Err e) h = tt

few_of : (s : SchemaView) (r : Result ClosedType TypeError) → IfOk r (λ t. IsSmallClosed s tag_of (closed_type t))
    → IfOk r (λ t. nodes (closed_type t) ≤ 4096)
few_of s (Ok t) h = h.few
few_of s (Err e) h = tt

pub closed_in : (s : SchemaView) (word : List ℕ) (r : Result ClosedType TypeError) → NamedIsClosed
    → Answers (kinds_of s) word r → IfOk r (λ t. ClosedOf (cores s) (closed_type t))
closed_in s word r law h = closed_by s r (small_closed s word r law h)

pub few_in : (s : SchemaView) (word : List ℕ) (r : Result ClosedType TypeError) → NamedIsClosed
    → Answers (kinds_of s) word r → IfOk r (λ t. nodes (closed_type t) ≤ 4096)
few_in s word r law h = few_of s r (small_closed s word r law h)
