-- What judging a schema answers.
use Rattle.std.specs.Prelude.{◌≡◌, ◌≢◌, List, [], Some, Result, Ok, Err}
use Rattle.tlb_syntax.specs.declared.tree.Schema.{Schema}
use Rattle.tlb_syntax.specs.Tree.{SchemaView}
use Rattle.tlb_syntax.specs.View.{schema}
use Rattle.kind_declarations.specs.Faults.{first}
use Rattle.tlb_kinds.specs.declared.error.KindError.{KindError}
use Rattle.tlb_kinds.specs.declared.error.KindError.TheVariants.{NoMemory}
use Rattle.tlb_kinds.specs.Refusals.{refusals, kept_of, IsKinded}

-- the first refusal is reported, unless out of memory
abbrev pub IsFirst : List KindError → KindError → Type 0
IsFirst es e = e ≢ NoMemory → first es ≡ Some e

-- a judgement of these refusals: there is none, or the first is reported
abbrev pub Finds : List KindError → Result (Unit {0}) KindError → Type 0
Finds es (Ok done) = es ≡ []
Finds es (Err e) = IsFirst es e

-- A schema without a refusal, given without the declarations that are passed over, or the first refusal.
abbrev pub IsJudged : SchemaView → Result Schema KindError → Type 0
IsJudged s (Ok kept) = IsKinded s × (schema kept ≡ kept_of s)
IsJudged s (Err e) = IsFirst (refusals s) e

-- The schema passes, unless out of memory.
abbrev pub IsPassed : SchemaView → Result Schema KindError → Type 0
IsPassed s (Ok kept) = schema kept ≡ kept_of s
IsPassed s (Err e) = e ≢ NoMemory → ⊥

-- The answer is this refusal, unless out of memory.
abbrev pub IsRefused : KindError → Result Schema KindError → Type 0
IsRefused refusal (Ok kept) = ⊥
IsRefused refusal (Err e) = e ≢ NoMemory → e ≡ refusal
