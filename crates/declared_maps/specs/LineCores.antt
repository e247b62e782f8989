-- The core forms of the lines, which the checker computes.
use Rattle.std.specs.Prelude.{ℕ, ◌≡◌, List, [], ◌∷◌, Some, None, codes, refl}
use Rattle.nat_solver.specs.Number as num
use Rattle.nat_solver.specs.declared.compare.Op.TheVariants.{Le}
use Rattle.nat_solver.specs.declared.pattern.Pattern.TheVariants as patterns
use Rattle.core_form.specs.Core.{Word, Input, Item, Items, Parameter, Declaration, CoreSchema, no_condition}
use Rattle.core_form.specs.Core.{no_items, an_item, number_in, type_in, number_out}
use Rattle.core_form.specs.Core as core
use Rattle.kind_terms.specs.Classes.{word_class}
use Rattle.schema_leads.specs.Tags.{cores}
use Rattle.declared_maps.specs.Lines.{bit, unary, hm_label, hm, hm_node, hm_e, lines}

abbrev pub items : List Item → Items
items [] = no_items
items (i ∷ is) = an_item i (items is)

-- a field without a condition: its name, its slot, its type
abbrev pub plain : Word → core.Ty → Item
plain x t = core.field x None no_condition t

-- a constructor by its type, name, number in its type, tag, parameters, inputs, outputs, slots and items
abbrev pub a_constructor : Word → Word → ℕ → List ℕ → List Parameter → List Input → List num.Expr → ℕ → List Item
    → Declaration
a_constructor type name i tag params ins outs slots is = record {
  of_type = type;
  shown = name;
  number = i;
  core = record { tag = tag; parameters = params; inputs = ins; outputs = outs; items = items is; slots = slots };
}

-- the arguments n X, by their slots
abbrev pub arguments : ℕ → ℕ → core.Args
arguments n x = core.nat_arg (num.var n) (core.ty_arg (core.variable x) core.no_args)

abbrev pub bit_of : core.Ty
bit_of = core.named bit core.no_args

abbrev pub unary_to : ℕ → core.Ty
unary_to v = core.named unary (core.out_arg v core.no_args)

-- inputs n X
abbrev pub of_pair : List Parameter
of_pair = number_in ∷ type_in ∷ []

abbrev pub a_pair_in : List Input
a_pair_in = core.number (patterns.Var 0) ∷ core.type 1 ∷ []

abbrev pub bit_core : Declaration
bit_core =
    a_constructor bit (codes "bit") 1 [] [] [] [] 0 (plain (codes "_") (core.bits (num.lit 1)) ∷ [])

abbrev pub zero_core : Declaration
zero_core = a_constructor unary (codes "unary_zero") 1 (0 ∷ []) (number_out ∷ []) [] (num.lit 0 ∷ []) 0 []

abbrev pub succ_core : Declaration
succ_core =
    a_constructor unary (codes "unary_succ") 2 (1 ∷ []) (number_out ∷ []) []
    (num.plus (num.var 0) (num.lit 1) ∷ []) 1 (plain (codes "x") (unary_to 0) ∷ [])

abbrev pub short_core : Declaration
short_core =
    a_constructor hm_label (codes "hml_short") 1 (0 ∷ []) (number_out ∷ number_in ∷ [])
    (core.number (patterns.Var 0) ∷ []) (num.var 1 ∷ []) 2
    (plain (codes "len") (unary_to 1) ∷ core.check (num.var 1) Le (num.var 0) 4
    ∷ plain (codes "s") (core.repeat (num.var 1) bit_of) ∷ [])

abbrev pub long_core : Declaration
long_core =
    a_constructor hm_label (codes "hml_long") 2 (1 ∷ 0 ∷ []) (number_out ∷ number_in ∷ [])
    (core.number (patterns.Var 0) ∷ []) (num.var 1 ∷ []) 2
    (core.field (codes "n") (Some 1) no_condition (core.up_to (num.var 0))
    ∷ plain (codes "s") (core.repeat (num.var 1) bit_of) ∷ [])

abbrev pub same_core : Declaration
same_core =
    a_constructor hm_label (codes "hml_same") 3 (1 ∷ 1 ∷ []) (number_out ∷ number_in ∷ [])
    (core.number (patterns.Var 0) ∷ []) (num.var 1 ∷ []) 2
    (plain (codes "v") bit_of ∷ core.field (codes "n") (Some 1) no_condition (core.up_to (num.var 0)) ∷ [])

abbrev pub edge_core : Declaration
edge_core =
    a_constructor hm (codes "hm_edge") 1 [] of_pair a_pair_in [] 4
    (plain (codes "label") (core.named hm_label (core.out_arg 2 (core.nat_arg (num.var 0) core.no_args)))
    ∷ core.solve 3 (num.var 0) (num.plus (num.sought 3) (num.var 2)) 6
    ∷ plain (codes "node") (core.named hm_node (arguments 3 1)) ∷ [])

abbrev pub leaf_core : Declaration
leaf_core =
    a_constructor hm_node (codes "hmn_leaf") 1 [] of_pair (core.number (patterns.Lit 0) ∷ core.type 0 ∷ []) [] 1
    (plain (codes "value") (core.variable 0) ∷ [])

abbrev pub fork_core : Declaration
fork_core =
    a_constructor hm_node (codes "hmn_fork") 2 [] of_pair (core.number (patterns.Plus 0 1) ∷ core.type 1 ∷ []) [] 2
    (plain (codes "left") (core.ref (core.named hm (arguments 0 1)))
    ∷ plain (codes "right") (core.ref (core.named hm (arguments 0 1))) ∷ [])

abbrev pub empty_core : Declaration
empty_core = a_constructor hm_e (codes "hme_empty") 1 (0 ∷ []) of_pair a_pair_in [] 2 []

abbrev pub root_core : Declaration
root_core =
    a_constructor hm_e (codes "hme_root") 2 (1 ∷ []) of_pair a_pair_in [] 2
    (plain (codes "root") (core.ref (core.named hm (arguments 0 1))) ∷ [])

abbrev pub line_cores : CoreSchema
line_cores =
    bit_core ∷ zero_core ∷ succ_core ∷ short_core ∷ long_core ∷ same_core ∷ edge_core ∷ leaf_core ∷ fork_core
    ∷ empty_core ∷ root_core ∷ []

pub lines_have_cores : cores lines ≡ line_cores
unfolding word_class
lines_have_cores = refl
