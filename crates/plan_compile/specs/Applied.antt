-- A name with arguments as a type, and its arguments one by one.
use Rattle.std.specs.Prelude.{Option, None}
use Rattle.tlb_syntax.specs.Tree.{ExprView, ExprList, SchemaView, no_exprs, an_expr}
use Rattle.kind_terms.specs.declared.kind.TermKind.{TermKind}
use Rattle.kind_terms.specs.declared.kind.TermKind.TheVariants.{NumberIn, TypeIn, NumberOut, NoKind}
use Rattle.kind_terms.specs.Words.{Word}
use Rattle.kind_terms.specs.Forms.{out_name}
use Rattle.core_form.specs.Core.{Ty, Args}
use Rattle.core_form.specs.Core as core
use Rattle.schema_core.specs.Names.{Names, Variable, declared_kinds, meaning, type_called}
use Rattle.schema_core.specs.Numbers.{first_number, named_number, number_of}
use Rattle.schema_core.specs.CoreOf.{applied, args_of, first_type, no_meaning, onto_out, type_of}

abbrev pub second_type : SchemaView → Names → ExprList → Ty
second_type types names no_exprs = no_meaning
second_type types names (an_expr e es) = first_type types names es

-- the name of a type with these arguments
abbrev pub applied_to : SchemaView → Names → Word → ExprList → Ty
applied_to types names x es =
    applied (type_called types x) x (first_number names es) (second_type types names es)
    (args_of types names (declared_kinds (type_called types x)) es)

-- what a name that stands alone stands for, if it is in scope
abbrev pub hiding : Names → Word → ExprList → Option Variable
hiding names x no_exprs = meaning names x
hiding names x (an_expr e es) = None

-- an argument at the place of a parameter of this kind
abbrev pub arg_of : SchemaView → Names → TermKind → ExprView → Args
arg_of types names (NumberIn most) e = core.nat_arg (number_of names e) core.no_args
arg_of types names TypeIn e = core.ty_arg (type_of types names e) core.no_args
arg_of types names NumberOut e = onto_out (named_number names (out_name e)) core.no_args
arg_of types names NoKind e = core.no_args
