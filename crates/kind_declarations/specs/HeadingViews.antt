-- What the code that judges headings works with.
use Rattle.std.specs.Prelude.{Bool, Option, Some, None, List, [], ◌∷◌, ◌++◌, if◌then◌else◌}
use Rattle.std.specs.Borrow.{Bor}
use Rattle.tlb_syntax.specs.declared.tree.Constructor.{Constructor}
use Rattle.tlb_syntax.specs.View.{constructor}
use Rattle.tlb_syntax.specs.Tree.{no_exprs}
use Rattle.kind_terms.specs.declared.types.Declared.{Declared}
use Rattle.kind_terms.specs.Views.{constructors_by}
use Rattle.kind_declarations.specs.declared.error.Cause.{Cause}
use Rattle.kind_declarations.specs.declared.error.Cause.TheVariants.{Arity, KindMismatch, NotLinear}
use Rattle.kind_declarations.specs.Headings.{Heading}
use Rattle.kind_declarations.specs.Nodes.{Judged, judged, param_nodes, params_end, result_path}

-- a declaration after those of its type before it
abbrev pub heading_by : Option (Bor Declared) → Constructor → Heading
heading_by earlier c = record { earlier = constructors_by earlier; this = constructor c }

-- the first cause at a parameter: it is another one than that which is fixed, none at all, or an input given twice
abbrev pub param_cause : Bool → Bool → Bool → Option Cause
param_cause other none twice =
    if other then Some Arity else if none then Some KindMismatch else if twice then Some NotLinear else None

-- the parameters of a declaration, and what is after them
abbrev pub all_params : Heading → List Judged
all_params r = param_nodes r no_exprs r.this.params ++ judged result_path (params_end r) ∷ []
