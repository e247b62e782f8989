-- Declarations and their core forms, computed: results.
use Rattle.std.specs.Prelude.{◌≡◌, [], ◌∷◌, Some, None, codes, refl}
use Rattle.nat_solver.specs.Number as num
use Rattle.nat_solver.specs.declared.compare.Op.TheVariants.{Eq, Le}
use Rattle.nat_solver.specs.declared.pattern.Pattern.TheVariants as patterns
use Rattle.tlb_syntax.specs.declared.tree.ParamKind.TheVariants.{Nat, Ty}
use Rattle.tlb_syntax.specs.Tree.{ConstructorView, bits, lit, named, nat32, up_to, plus, star, out}
use Rattle.tlb_syntax.specs.Tree.{no_exprs, an_expr, plain, implicit, check, explicit, given}
use Rattle.tlb_syntax.specs.Tree.{no_items, an_item}
use Rattle.kind_terms.specs.Classes.{word_class}
use Rattle.core_form.specs.Core.{no_condition}
use Rattle.core_form.specs.Core as core
use Rattle.schema_core.specs.CoreOf.{core_of}
use Rattle.schema_core.specs.Declarations.{declaration}

-- inputs: a literal, a variable, a sum with a literal, a type:
-- t$_ {n:#} {m:#} {X:Type} x:(uint n) = T 3 n (m + 2) X;
abbrev inputs_text : ConstructorView
inputs_text =
    (declaration (Some (codes "t")) (given []) (an_item (implicit (codes "n") Nat) (an_item (implicit (codes "m")
    Nat) (an_item (implicit (codes "X") Ty) (an_item (explicit (Some (codes "x")) (plain (named (codes "uint")
    (an_expr (named (codes "n") no_exprs) no_exprs)))) no_items)))) (codes "T") (an_expr (lit 3) (an_expr (named
    (codes "n") no_exprs) (an_expr (plus (named (codes "m") no_exprs) (lit 2)) (an_expr (named (codes "X") no_exprs)
    no_exprs)))))

pub inputs : core_of
    (inputs_text ∷ [])
    [] inputs_text ≡ record {
      tag = [];
      parameters = (core.number_in ∷ core.number_in ∷ core.number_in ∷ core.type_in ∷ []);
      inputs = (core.number (patterns.Lit 3) ∷ core.number (patterns.Var 0) ∷ core.number (patterns.Plus 1 2) ∷
          core.type 2 ∷ []);
      outputs = [];
      items = (core.an_item (core.field (codes "x") None no_condition (core.uint (num.var 0))) core.no_items);
      slots = 3;
    }
unfolding word_class
inputs = refl

-- an output of a result, and one of a field:
-- unary_zero$0 = Unary ~0; unary_succ$1 {n:#} x:(Unary ~n) = Unary ~(n + 1);
abbrev outputs_text : ConstructorView
outputs_text =
    (declaration (Some (codes "unary_succ")) (given (1 ∷ [])) (an_item (implicit (codes "n") Nat) (an_item (explicit
    (Some (codes "x")) (plain (named (codes "Unary") (an_expr (out (named (codes "n") no_exprs)) no_exprs))))
    no_items)) (codes "Unary") (an_expr (out (plus (named (codes "n") no_exprs) (lit 1))) no_exprs))

pub outputs : core_of
    ((declaration (Some (codes "unary_zero")) (given (0 ∷ [])) no_items (codes "Unary") (an_expr (out (lit 0))
    no_exprs))
    ∷ outputs_text ∷ [])
    (1 ∷ []) outputs_text ≡ record {
      tag = (1 ∷ []);
      parameters = (core.number_out ∷ []);
      inputs = [];
      outputs = ((num.plus (num.var 0) (num.lit 1)) ∷ []);
      items = (core.an_item (core.field (codes "x") None no_condition (core.named (codes "Unary") (core.out_arg 0
          core.no_args))) core.no_items);
      slots = 1;
    }
unfolding word_class
outputs = refl

-- outputs and inputs in one result, and a field with both:
-- u$_ = Unary ~0; t$_ b:(## 1) = Bit; hml_short$0 {m:#} {n:#} len:(Unary ~n) {n <= m} s:(n * Bit) = HmLabel ~n m;
abbrev output_before_input_text : ConstructorView
output_before_input_text =
    (declaration (Some (codes "hml_short")) (given (0 ∷ [])) (an_item (implicit (codes "m") Nat) (an_item (implicit
    (codes "n") Nat) (an_item (explicit (Some (codes "len")) (plain (named (codes "Unary") (an_expr (out (named
    (codes "n") no_exprs)) no_exprs)))) (an_item (check (named (codes "n") no_exprs) Le (named (codes "m")
    no_exprs)) (an_item (explicit (Some (codes "s")) (plain (star (named (codes "n") no_exprs) (named (codes "Bit")
    no_exprs)))) no_items))))) (codes "HmLabel") (an_expr (out (named (codes "n") no_exprs)) (an_expr (named (codes
    "m") no_exprs) no_exprs)))

pub output_before_input : core_of
    ((declaration (Some (codes "u")) (given []) no_items (codes "Unary") (an_expr (out (lit 0)) no_exprs))
    ∷ (declaration (Some (codes "t")) (given []) (an_item (explicit (Some (codes "b")) (plain (bits (an_expr (lit 1)
    no_exprs)))) no_items) (codes "Bit") no_exprs)
    ∷ output_before_input_text ∷ [])
    (0 ∷ []) output_before_input_text ≡ record {
      tag = (0 ∷ []);
      parameters = (core.number_out ∷ core.number_in ∷ []);
      inputs = (core.number (patterns.Var 0) ∷ []);
      outputs = ((num.var 1) ∷ []);
      items = (core.an_item (core.field (codes "len") None no_condition (core.named (codes "Unary") (core.out_arg 1
          core.no_args))) (core.an_item (core.check (num.var 1) Le (num.var 0) 4) (core.an_item (core.field (codes "s")
          None no_condition (core.repeat (num.var 1) (core.named (codes "Bit") core.no_args))) core.no_items)));
      slots = 2;
    }
unfolding word_class
output_before_input = refl

-- a field of numbers as the output:
-- t$_ b:(## 1) = Bit; hml_long$10 {m:#} n:(#<= m) s:(n * Bit) = HmLabel ~n m;
abbrev number_field_as_output_text : ConstructorView
number_field_as_output_text =
    (declaration (Some (codes "hml_long")) (given (1 ∷ 0 ∷ [])) (an_item (implicit (codes "m") Nat) (an_item
    (explicit (Some (codes "n")) (plain (up_to (an_expr (named (codes "m") no_exprs) no_exprs)))) (an_item (explicit
    (Some (codes "s")) (plain (star (named (codes "n") no_exprs) (named (codes "Bit") no_exprs)))) no_items)))
    (codes "HmLabel") (an_expr (out (named (codes "n") no_exprs)) (an_expr (named (codes "m") no_exprs) no_exprs)))

pub number_field_as_output : core_of
    ((declaration (Some (codes "t")) (given []) (an_item (explicit (Some (codes "b")) (plain (bits (an_expr (lit 1)
    no_exprs)))) no_items) (codes "Bit") no_exprs)
    ∷ number_field_as_output_text ∷ [])
    (1 ∷ 0 ∷ []) number_field_as_output_text ≡ record {
      tag = (1 ∷ 0 ∷ []);
      parameters = (core.number_out ∷ core.number_in ∷ []);
      inputs = (core.number (patterns.Var 0) ∷ []);
      outputs = ((num.var 1) ∷ []);
      items = (core.an_item (core.field (codes "n") (Some 1) no_condition (core.up_to (num.var 0))) (core.an_item
          (core.field (codes "s") None no_condition (core.repeat (num.var 1) (core.named (codes "Bit") core.no_args)))
          core.no_items));
      slots = 2;
    }
unfolding word_class
number_field_as_output = refl

-- an edge of a dictionary under a name of its own: an output, an equation, arguments:
-- l$_ {m:#} = HmLabel ~3 m; o$_ {n:#} {X:Type} = Node n X; edge#_ {n:#} {X:Type} {l:#} {m:#} label:(HmLabel ~l n) {n
-- = (~m) + l} node:(Node m X) = Edge n X;
abbrev dictionary_edge_text : ConstructorView
dictionary_edge_text =
    (declaration (Some (codes "edge")) (given []) (an_item (implicit (codes "n") Nat) (an_item (implicit (codes "X")
    Ty) (an_item (implicit (codes "l") Nat) (an_item (implicit (codes "m") Nat) (an_item (explicit (Some (codes
    "label")) (plain (named (codes "HmLabel") (an_expr (out (named (codes "l") no_exprs)) (an_expr (named (codes
    "n") no_exprs) no_exprs))))) (an_item (check (named (codes "n") no_exprs) Eq (plus (out (named (codes "m")
    no_exprs)) (named (codes "l") no_exprs))) (an_item (explicit (Some (codes "node")) (plain (named (codes "Node")
    (an_expr (named (codes "m") no_exprs) (an_expr (named (codes "X") no_exprs) no_exprs))))) no_items))))))) (codes
    "Edge") (an_expr (named (codes "n") no_exprs) (an_expr (named (codes "X") no_exprs) no_exprs)))

pub dictionary_edge : core_of
    ((declaration (Some (codes "l")) (given []) (an_item (implicit (codes "m") Nat) no_items) (codes "HmLabel")
    (an_expr (out (lit 3)) (an_expr (named (codes "m") no_exprs) no_exprs)))
    ∷ (declaration (Some (codes "o")) (given []) (an_item (implicit (codes "n") Nat) (an_item (implicit (codes "X")
    Ty) no_items)) (codes "Node") (an_expr (named (codes "n") no_exprs) (an_expr (named (codes "X") no_exprs)
    no_exprs)))
    ∷ dictionary_edge_text ∷ [])
    [] dictionary_edge_text ≡ record {
      tag = [];
      parameters = (core.number_in ∷ core.type_in ∷ []);
      inputs = (core.number (patterns.Var 0) ∷ core.type 1 ∷ []);
      outputs = [];
      items = (core.an_item (core.field (codes "label") None no_condition (core.named (codes "HmLabel") (core.out_arg
          2 (core.nat_arg (num.var 0) core.no_args)))) (core.an_item (core.solve 3 (num.var 0) (num.plus (num.sought 3)
          (num.var 2)) 6) (core.an_item (core.field (codes "node") None no_condition (core.named (codes "Node")
          (core.nat_arg (num.var 3) (core.ty_arg (core.variable 1) core.no_args)))) core.no_items)));
      slots = 4;
    }
unfolding word_class
dictionary_edge = refl

-- what is no parameter has a place; a field of numbers in it stands as an input all the same:
-- t$_ n:# = T n (3 + n) uint8;
-- The schema is refused: KindMismatch T.t.=.
abbrev no_parameters_text : ConstructorView
no_parameters_text =
    (declaration (Some (codes "t")) (given []) (an_item (explicit (Some (codes "n")) (plain nat32)) no_items) (codes
    "T") (an_expr (named (codes "n") no_exprs) (an_expr (plus (lit 3) (named (codes "n") no_exprs)) (an_expr (named
    (codes "uint8") no_exprs) no_exprs))))

pub no_parameters : core_of
    (no_parameters_text ∷ [])
    [] no_parameters_text ≡ record {
      tag = [];
      parameters = (core.no_parameter ∷ core.no_parameter ∷ core.no_parameter ∷ []);
      inputs = (core.number (patterns.Var 0) ∷ []);
      outputs = [];
      items = (core.an_item (core.field (codes "n") (Some 0) no_condition core.nat32) core.no_items);
      slots = 1;
    }
unfolding word_class
no_parameters = refl
