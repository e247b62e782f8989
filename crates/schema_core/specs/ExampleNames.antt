-- Declarations and their core forms, computed: names and scopes.
use Rattle.std.specs.Prelude.{◌≡◌, [], ◌∷◌, Some, None, codes, refl}
use Rattle.nat_solver.specs.Number as num
use Rattle.nat_solver.specs.declared.pattern.Pattern.TheVariants as patterns
use Rattle.tlb_syntax.specs.declared.tree.ParamKind.TheVariants.{Nat, Ty}
use Rattle.tlb_syntax.specs.Tree.{ConstructorView, lit, named, nat32, bits}
use Rattle.tlb_syntax.specs.Tree.{group, no_exprs, an_expr, plain, when, implicit, explicit, given}
use Rattle.tlb_syntax.specs.Tree.{no_items, an_item}
use Rattle.kind_terms.specs.Classes.{word_class}
use Rattle.kind_terms.specs.Positions.{unnamed_name}
use Rattle.core_form.specs.Core.{no_condition}
use Rattle.core_form.specs.Core as core
use Rattle.schema_core.specs.CoreOf.{core_of, not_0, no_meaning}
use Rattle.schema_core.specs.Numbers.{no_number}
use Rattle.schema_core.specs.Declarations.{declaration}

-- a name is in scope from the item after its own: x has the declared type n, y the variable:
-- n$_ = n; t$_ x:n {n:Type} y:n = T n;
abbrev declared_then_variable_text : ConstructorView
declared_then_variable_text =
    (declaration (Some (codes "t")) (given []) (an_item (explicit (Some (codes "x")) (plain (named (codes "n")
    no_exprs))) (an_item (implicit (codes "n") Ty) (an_item (explicit (Some (codes "y")) (plain (named (codes "n")
    no_exprs))) no_items))) (codes "T") (an_expr (named (codes "n") no_exprs) no_exprs))

pub declared_then_variable : core_of
    ((declaration (Some (codes "n")) (given []) no_items (codes "n") no_exprs)
    ∷ declared_then_variable_text ∷ [])
    [] declared_then_variable_text ≡ record {
      tag = [];
      parameters = (core.type_in ∷ []);
      inputs = (core.type 0 ∷ []);
      outputs = [];
      items = (core.an_item (core.field (codes "x") None no_condition (core.named (codes "n") core.no_args))
          (core.an_item (core.field (codes "y") None no_condition (core.variable 0)) core.no_items));
      slots = 1;
    }
unfolding word_class
declared_then_variable = refl

-- a field hides a type of its name, whatever the field is:
-- u$_ = u; t$_ u:uint8 x:u = T;
-- The schema is refused: KindMismatch T.t.x.
abbrev hidden_type_text : ConstructorView
hidden_type_text =
    (declaration (Some (codes "t")) (given []) (an_item (explicit (Some (codes "u")) (plain (named (codes "uint8")
    no_exprs))) (an_item (explicit (Some (codes "x")) (plain (named (codes "u") no_exprs))) no_items)) (codes "T")
    no_exprs)

pub hidden_type : core_of
    ((declaration (Some (codes "u")) (given []) no_items (codes "u") no_exprs)
    ∷ hidden_type_text ∷ [])
    [] hidden_type_text ≡ record {
      tag = [];
      parameters = [];
      inputs = [];
      outputs = [];
      items = (core.an_item (core.field (codes "u") None no_condition (core.uint (num.lit 8))) (core.an_item
          (core.field (codes "x") None no_condition no_meaning) core.no_items));
      slots = 0;
    }
unfolding word_class
hidden_type = refl

-- with arguments a name is that of a type, also where it is in scope:
-- m$_ {X:Type} x:X = m X; t$_ m:# x:(m uint8) = T;
abbrev named_with_arguments_text : ConstructorView
named_with_arguments_text =
    (declaration (Some (codes "t")) (given []) (an_item (explicit (Some (codes "m")) (plain nat32)) (an_item
    (explicit (Some (codes "x")) (plain (named (codes "m") (an_expr (named (codes "uint8") no_exprs) no_exprs))))
    no_items)) (codes "T") no_exprs)

pub named_with_arguments : core_of
    ((declaration (Some (codes "m")) (given []) (an_item (implicit (codes "X") Ty) (an_item (explicit (Some (codes
    "x")) (plain (named (codes "X") no_exprs))) no_items)) (codes "m") (an_expr (named (codes "X") no_exprs)
    no_exprs))
    ∷ named_with_arguments_text ∷ [])
    [] named_with_arguments_text ≡ record {
      tag = [];
      parameters = [];
      inputs = [];
      outputs = [];
      items = (core.an_item (core.field (codes "m") (Some 0) no_condition core.nat32) (core.an_item (core.field (codes
          "x") None no_condition (core.named (codes "m") (core.ty_arg (core.uint (num.lit 8)) core.no_args)))
          core.no_items));
      slots = 1;
    }
unfolding word_class
named_with_arguments = refl

-- a name of an inner record ends with it:
-- n$_ = n; t$_ a:[ n:# ] x:n = T;
abbrev inner_name_ends_text : ConstructorView
inner_name_ends_text =
    (declaration (Some (codes "t")) (given []) (an_item (explicit (Some (codes "a")) (plain (group (an_item
    (explicit (Some (codes "n")) (plain nat32)) no_items)))) (an_item (explicit (Some (codes "x")) (plain (named
    (codes "n") no_exprs))) no_items)) (codes "T") no_exprs)

pub inner_name_ends : core_of
    ((declaration (Some (codes "n")) (given []) no_items (codes "n") no_exprs)
    ∷ inner_name_ends_text ∷ [])
    [] inner_name_ends_text ≡ record {
      tag = [];
      parameters = [];
      inputs = [];
      outputs = [];
      items = (core.an_item (core.field (codes "a") None no_condition (core.group (core.an_item (core.field (codes
          "n") (Some 0) no_condition core.nat32) core.no_items)))
          (core.an_item (core.field (codes "x") None no_condition
          (core.named (codes "n") core.no_args)) core.no_items));
      slots = 1;
    }
unfolding word_class
inner_name_ends = refl

-- a name of the record around is in scope inside:
-- t$_ n:# a:[ x:(uint n) ] = T;
abbrev outer_name_inside_text : ConstructorView
outer_name_inside_text =
    (declaration (Some (codes "t")) (given []) (an_item (explicit (Some (codes "n")) (plain nat32)) (an_item
    (explicit (Some (codes "a")) (plain (group (an_item (explicit (Some (codes "x")) (plain (named (codes "uint")
    (an_expr (named (codes "n") no_exprs) no_exprs)))) no_items)))) no_items)) (codes "T") no_exprs)

pub outer_name_inside : core_of
    (outer_name_inside_text ∷ [])
    [] outer_name_inside_text ≡ record {
      tag = [];
      parameters = [];
      inputs = [];
      outputs = [];
      items = (core.an_item (core.field (codes "n") (Some 0) no_condition core.nat32) (core.an_item (core.field (codes
          "a") None no_condition (core.group (core.an_item (core.field (codes "x") None no_condition (core.uint (num.var
          0))) core.no_items))) core.no_items));
      slots = 1;
    }
unfolding word_class
outer_name_inside = refl

-- a field is not in scope in its own type:
-- n$_ = n; t$_ n:[ n:n ] = T;
-- The schema is refused: TwiceNamed T.t.n.n.
abbrev own_name_is_not_yet_text : ConstructorView
own_name_is_not_yet_text =
    (declaration (Some (codes "t")) (given []) (an_item (explicit (Some (codes "n")) (plain (group (an_item
    (explicit (Some (codes "n")) (plain (named (codes "n") no_exprs))) no_items)))) no_items) (codes "T") no_exprs)

pub own_name_is_not_yet : core_of
    ((declaration (Some (codes "n")) (given []) no_items (codes "n") no_exprs)
    ∷ own_name_is_not_yet_text ∷ [])
    [] own_name_is_not_yet_text ≡ record {
      tag = [];
      parameters = [];
      inputs = [];
      outputs = [];
      items = (core.an_item (core.field (codes "n") None no_condition (core.group (core.an_item (core.field (codes
          "n") None no_condition (core.named (codes "n") core.no_args)) core.no_items))) core.no_items);
      slots = 0;
    }
unfolding word_class
own_name_is_not_yet = refl

-- an input that is declared late: the variable inside is another, and has a slot of its own:
-- t$_ a:[ {n:#} x:(uint n) ] {n:#} = T n;
-- The schema is refused: Undetermined T.t.a.x.
abbrev late_input_text : ConstructorView
late_input_text =
    (declaration (Some (codes "t")) (given []) (an_item (explicit (Some (codes "a")) (plain (group (an_item
    (implicit (codes "n") Nat) (an_item (explicit (Some (codes "x")) (plain (named (codes "uint") (an_expr (named
    (codes "n") no_exprs) no_exprs)))) no_items))))) (an_item (implicit (codes "n") Nat) no_items)) (codes "T")
    (an_expr (named (codes "n") no_exprs) no_exprs))

pub late_input : core_of
    (late_input_text ∷ [])
    [] late_input_text ≡ record {
      tag = [];
      parameters = (core.number_in ∷ []);
      inputs = (core.number (patterns.Var 1) ∷ []);
      outputs = [];
      items = (core.an_item (core.field (codes "a") None no_condition (core.group (core.an_item (core.field (codes
          "x") None no_condition (core.uint (num.var 0))) core.no_items))) core.no_items);
      slots = 2;
    }
unfolding word_class
late_input = refl

-- an input is a number from the item after its own:
-- t$_ x:(uint n) {n:#} y:(uint n) = T n;
-- The schema is refused: UnknownName T.t.x.
abbrev late_input_used_text : ConstructorView
late_input_used_text =
    (declaration (Some (codes "t")) (given []) (an_item (explicit (Some (codes "x")) (plain (named (codes "uint")
    (an_expr (named (codes "n") no_exprs) no_exprs)))) (an_item (implicit (codes "n") Nat) (an_item (explicit (Some
    (codes "y")) (plain (named (codes "uint") (an_expr (named (codes "n") no_exprs) no_exprs)))) no_items))) (codes
    "T") (an_expr (named (codes "n") no_exprs) no_exprs))

pub late_input_used : core_of
    (late_input_used_text ∷ [])
    [] late_input_used_text ≡ record {
      tag = [];
      parameters = (core.number_in ∷ []);
      inputs = (core.number (patterns.Var 0) ∷ []);
      outputs = [];
      items = (core.an_item (core.field (codes "x") None no_condition (core.uint no_number)) (core.an_item (core.field
          (codes "y") None no_condition (core.uint (num.var 0))) core.no_items));
      slots = 1;
    }
unfolding word_class
late_input_used = refl

-- unnamed fields are shown by their number, and have no slot:
-- t$_ _:uint8 x:uint8 _:(## 3) _:[ _:# _:# ] _:# = T;
abbrev unnamed_fields_text : ConstructorView
unnamed_fields_text =
    (declaration (Some (codes "t")) (given []) (an_item (explicit None (plain (named (codes "uint8") no_exprs)))
    (an_item (explicit (Some (codes "x")) (plain (named (codes "uint8") no_exprs))) (an_item (explicit None (plain
    (bits (an_expr (lit 3) no_exprs)))) (an_item (explicit None (plain (group (an_item (explicit None (plain nat32))
    (an_item (explicit None (plain nat32)) no_items))))) (an_item (explicit None (plain nat32)) no_items))))) (codes
    "T") no_exprs)

pub unnamed_fields : core_of
    (unnamed_fields_text ∷ [])
    [] unnamed_fields_text ≡ record {
      tag = [];
      parameters = [];
      inputs = [];
      outputs = [];
      items = (core.an_item (core.field (codes "_") None no_condition (core.uint (num.lit 8))) (core.an_item
          (core.field (codes "x") None no_condition (core.uint (num.lit 8))) (core.an_item (core.field (unnamed_name 2)
          None no_condition (core.bits (num.lit 3))) (core.an_item (core.field (unnamed_name 3) None no_condition
          (core.group (core.an_item (core.field (codes "_") None no_condition core.nat32) (core.an_item (core.field
          (unnamed_name 2) None no_condition core.nat32) core.no_items))))
          (core.an_item (core.field (unnamed_name 4) None
          no_condition core.nat32) core.no_items)))));
      slots = 0;
    }
unfolding word_class
unnamed_fields = refl

-- a field of numbers with a condition is no variable:
-- t$_ f:(## 1) n:f?# x:n = T;
-- The schema is refused: KindMismatch T.t.x.
abbrev conditional_number_text : ConstructorView
conditional_number_text =
    (declaration (Some (codes "t")) (given []) (an_item (explicit (Some (codes "f")) (plain (bits (an_expr (lit 1)
    no_exprs)))) (an_item (explicit (Some (codes "n")) (when (named (codes "f") no_exprs) nat32)) (an_item (explicit
    (Some (codes "x")) (plain (named (codes "n") no_exprs))) no_items))) (codes "T") no_exprs)

pub conditional_number : core_of
    (conditional_number_text ∷ [])
    [] conditional_number_text ≡ record {
      tag = [];
      parameters = [];
      inputs = [];
      outputs = [];
      items = (core.an_item (core.field (codes "f") (Some 0) no_condition (core.bits (num.lit 1))) (core.an_item
          (core.field (codes "n") None (not_0 (num.var 0)) core.nat32) (core.an_item (core.field (codes "x") None
          no_condition no_meaning) core.no_items)));
      slots = 1;
    }
unfolding word_class
conditional_number = refl
