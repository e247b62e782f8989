-- The causes for which what is judged is refused, and their order.
use Rattle.std.specs.Prelude.{◌≡◌, ◌||◌, List, [], ◌∷◌, ◌++◌, map, filter, Bool, false, Option, Some, None, Result, Ok}
use Rattle.std.specs.Prelude.{Err, ⊤}
use Rattle.kind_declarations.specs.declared.error.Cause.{Cause}
use Rattle.kind_declarations.specs.declared.error.Cause.TheVariants.{Reserved, UnknownType, UnknownName, Arity}
use Rattle.kind_declarations.specs.declared.error.Cause.TheVariants.{KindMismatch, OutputUnderRef, NotLinear}
use Rattle.kind_declarations.specs.declared.error.Cause.TheVariants.{TwiceNamed, Undetermined, TooWide}
use Rattle.field_path.specs.declared.part.Part.{Part}
use Rattle.kind_declarations.specs.declared.error.Fault.{Fault}
use Rattle.kind_declarations.specs.declared.error.Fault.TheVariants.{Refused, NoMemory}
use Rattle.kind_rules.specs.ExpectedKinds.{Use}
use Rattle.kind_declarations.specs.Headings.{Heading, Param, is_reserved, is_constructor_twice, is_other_param}
use Rattle.kind_declarations.specs.Headings.{is_no_param, is_input_twice, lacks_params}
use Rattle.kind_rules.specs.Names.{is_field_twice, is_unknown_type, is_unknown_name, is_other_arity}
use Rattle.kind_rules.specs.Names.{is_other_field_used}
use Rattle.kind_rules.specs.Numbers.{is_product_of_variables, is_type_for_number, is_number_for_type}
use Rattle.kind_rules.specs.Numbers.{is_other_basic_arity}
use Rattle.kind_rules.specs.Known.{is_used_unknown, is_never_known, is_other_out, is_known_twice}
use Rattle.kind_rules.specs.Outputs.{is_output_under_ref, is_output_inside, is_no_output}
use Rattle.kind_rules.specs.Records.{is_misplaced_record}
use Rattle.kind_rules.specs.Widths.{is_too_wide}
use Rattle.kind_declarations.specs.Nodes.{Node, Judged, a_heading, a_param, params_end, a_field, a_use, an_ending}

-- ---- causes

-- the order at one node
abbrev pub in_order : List Cause
in_order =
    Reserved ∷ UnknownType ∷ UnknownName ∷ Arity ∷ KindMismatch ∷ OutputUnderRef ∷ NotLinear ∷ TwiceNamed
    ∷ Undetermined ∷ TooWide ∷ []

-- of the names of a declaration
abbrev pub heading_has : Cause → Heading → Bool
heading_has Reserved r = is_reserved r
heading_has TwiceNamed r = is_constructor_twice r
heading_has UnknownType r = false
heading_has UnknownName r = false
heading_has Arity r = false
heading_has KindMismatch r = false
heading_has OutputUnderRef r = false
heading_has NotLinear r = false
heading_has Undetermined r = false
heading_has TooWide r = false

abbrev pub param_has : Cause → Param → Bool
param_has Arity p = is_other_param p
param_has KindMismatch p = is_no_param p
param_has NotLinear p = is_input_twice p
param_has Reserved p = false
param_has UnknownType p = false
param_has UnknownName p = false
param_has OutputUnderRef p = false
param_has TwiceNamed p = false
param_has Undetermined p = false
param_has TooWide p = false

-- a cause that is this one, where the test holds
abbrev pub arity_alone : Cause → Bool → Bool
arity_alone Arity test = test
arity_alone Reserved test = false
arity_alone UnknownType test = false
arity_alone UnknownName test = false
arity_alone KindMismatch test = false
arity_alone OutputUnderRef test = false
arity_alone NotLinear test = false
arity_alone TwiceNamed test = false
arity_alone Undetermined test = false
arity_alone TooWide test = false

abbrev pub twice_named_alone : Cause → Bool → Bool
twice_named_alone TwiceNamed test = test
twice_named_alone Reserved test = false
twice_named_alone UnknownType test = false
twice_named_alone UnknownName test = false
twice_named_alone Arity test = false
twice_named_alone KindMismatch test = false
twice_named_alone OutputUnderRef test = false
twice_named_alone NotLinear test = false
twice_named_alone Undetermined test = false
twice_named_alone TooWide test = false

abbrev pub undetermined_alone : Cause → Bool → Bool
undetermined_alone Undetermined test = test
undetermined_alone Reserved test = false
undetermined_alone UnknownType test = false
undetermined_alone UnknownName test = false
undetermined_alone Arity test = false
undetermined_alone KindMismatch test = false
undetermined_alone OutputUnderRef test = false
undetermined_alone NotLinear test = false
undetermined_alone TwiceNamed test = false
undetermined_alone TooWide test = false

-- a type, a number or an output stands where another of them is expected
abbrev pub is_mismatch : Use → Bool
is_mismatch u =
    is_other_field_used u || is_type_for_number u || is_number_for_type u || is_other_basic_arity u
    || is_output_inside u || is_no_output u || is_misplaced_record u

abbrev pub use_has : Cause → Use → Bool
use_has Reserved u = false
use_has UnknownType u = is_unknown_type u
use_has UnknownName u = is_unknown_name u
use_has Arity u = is_other_arity u
use_has KindMismatch u = is_mismatch u
use_has OutputUnderRef u = is_output_under_ref u
use_has NotLinear u = is_product_of_variables u || is_other_out u
use_has TwiceNamed u = is_known_twice u
use_has Undetermined u = is_used_unknown u
use_has TooWide u = is_too_wide u

abbrev pub has : Node → Cause → Bool
has (a_heading r) c = heading_has c r
has (a_param p) c = param_has c p
has (params_end r) c = arity_alone c (lacks_params r)
has (a_field f) c = twice_named_alone c (is_field_twice f)
has (a_use u) c = use_has c u
has (an_ending e) c = undetermined_alone c (is_never_known e)

abbrev pub causes : Node → List Cause
causes n = filter (has n) in_order

-- a cause, and the path to the item
pub record FaultAt : Type 0 where
  pub cause : Cause
  pub path : List Part

abbrev pub fault_at : List Part → Cause → FaultAt
fault_at path c = record { cause = c; path = path }

-- all causes of the nodes, in their order
abbrev pub faults : List Judged → List FaultAt
faults [] = []
faults (j ∷ js) = map (fault_at j.path) (causes j.node) ++ faults js

abbrev pub first : {X : Type 0} → List X → Option X
first [] = None
first (x ∷ xs) = Some x

-- the first of them
unfoldable pub verdict : List Judged → Option FaultAt
verdict js = first (faults js)

-- Judging these nodes finds nothing, or their first cause, with the path to it; or out of memory.
abbrev pub Judges : List Judged → List Part → Result (Unit {0}) Fault → Type 0
Judges js path (Ok done) = verdict js ≡ None
Judges js path (Err (Refused c)) = verdict js ≡ Some (fault_at path c)
Judges js path (Err NoMemory) = ⊤
