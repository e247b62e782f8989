-- Declarations and their core forms, computed: types and records.
use Rattle.std.specs.Prelude.{◌≡◌, [], ◌∷◌, Some, None, codes, refl}
use Rattle.nat_solver.specs.Number as num
use Rattle.nat_solver.specs.declared.compare.Op.TheVariants.{Eq}
use Rattle.tlb_syntax.specs.declared.tree.ParamKind.TheVariants.{Nat, Ty}
use Rattle.tlb_syntax.specs.Tree.{ConstructorView, lit, named, nat32, bits, below, up_to, plus, star, ref}
use Rattle.tlb_syntax.specs.Tree.{group, no_exprs, an_expr, plain, when, when_bit, implicit, check, explicit, given}
use Rattle.tlb_syntax.specs.Tree.{no_items, an_item}
use Rattle.kind_terms.specs.Classes.{word_class}
use Rattle.core_form.specs.Core.{no_condition}
use Rattle.core_form.specs.Core as core
use Rattle.schema_core.specs.CoreOf.{core_of, not_0, has_bit, no_meaning}
use Rattle.schema_core.specs.Declarations.{declaration}

-- basic types with their width as an argument:
-- t$_ n:# a:(## 4) b:(#< n) c:(#<= 7) d:(uint n) e:(int 9) f:(bits n) = T;
abbrev basic_types_text : ConstructorView
basic_types_text =
    (declaration (Some (codes "t")) (given []) (an_item (explicit (Some (codes "n")) (plain nat32)) (an_item
    (explicit (Some (codes "a")) (plain (bits (an_expr (lit 4) no_exprs)))) (an_item (explicit (Some (codes "b"))
    (plain (below (an_expr (named (codes "n") no_exprs) no_exprs)))) (an_item (explicit (Some (codes "c")) (plain
    (up_to (an_expr (lit 7) no_exprs)))) (an_item (explicit (Some (codes "d")) (plain (named (codes "uint") (an_expr
    (named (codes "n") no_exprs) no_exprs)))) (an_item (explicit (Some (codes "e")) (plain (named (codes "int")
    (an_expr (lit 9) no_exprs)))) (an_item (explicit (Some (codes "f")) (plain (named (codes "bits") (an_expr (named
    (codes "n") no_exprs) no_exprs)))) no_items))))))) (codes "T") no_exprs)

pub basic_types : core_of
    (basic_types_text ∷ [])
    [] basic_types_text ≡ record {
      tag = [];
      parameters = [];
      inputs = [];
      outputs = [];
      items = (core.an_item (core.field (codes "n") (Some 0) no_condition core.nat32) (core.an_item (core.field (codes
          "a") (Some 1) no_condition (core.bits (num.lit 4)))
          (core.an_item (core.field (codes "b") (Some 2) no_condition
          (core.below (num.var 0))) (core.an_item (core.field (codes "c")
          (Some 3) no_condition (core.up_to (num.lit 7)))
          (core.an_item (core.field (codes "d") None no_condition (core.uint (num.var 0))) (core.an_item (core.field
          (codes "e") None no_condition (core.int (num.lit 9))) (core.an_item (core.field (codes "f") None no_condition
          (core.bit_str (num.var 0))) core.no_items)))))));
      slots = 4;
    }
unfolding word_class
basic_types = refl

-- basic types with their width in the name; one with leading zeros is an ordinary name:
-- t$_ a:uint8 b:int257 c:bits0 d:uint00 = T;
-- The schema is refused: UnknownType T.t.d.
abbrev widths_in_names_text : ConstructorView
widths_in_names_text =
    (declaration (Some (codes "t")) (given []) (an_item (explicit (Some (codes "a")) (plain (named (codes "uint8")
    no_exprs))) (an_item (explicit (Some (codes "b")) (plain (named (codes "int257") no_exprs))) (an_item (explicit
    (Some (codes "c")) (plain (named (codes "bits0") no_exprs))) (an_item (explicit (Some (codes "d")) (plain (named
    (codes "uint00") no_exprs))) no_items)))) (codes "T") no_exprs)

pub widths_in_names : core_of
    (widths_in_names_text ∷ [])
    [] widths_in_names_text ≡ record {
      tag = [];
      parameters = [];
      inputs = [];
      outputs = [];
      items = (core.an_item (core.field (codes "a") None no_condition (core.uint (num.lit 8))) (core.an_item
          (core.field (codes "b") None no_condition (core.int (num.lit 257))) (core.an_item (core.field (codes "c") None
          no_condition (core.bit_str (num.lit 0))) (core.an_item (core.field (codes "d") None no_condition no_meaning)
          core.no_items))));
      slots = 0;
    }
unfolding word_class
widths_in_names = refl

-- Any and Cell, in place and under a reference:
-- t$_ a:Any b:^Any c:^Cell = T;
abbrev any_and_cell_text : ConstructorView
any_and_cell_text =
    (declaration (Some (codes "t")) (given []) (an_item (explicit (Some (codes "a")) (plain (named (codes "Any")
    no_exprs))) (an_item (explicit (Some (codes "b")) (plain (ref (named (codes "Any") no_exprs)))) (an_item
    (explicit (Some (codes "c")) (plain (ref (named (codes "Cell") no_exprs)))) no_items))) (codes "T") no_exprs)

pub any_and_cell : core_of
    (any_and_cell_text ∷ [])
    [] any_and_cell_text ≡ record {
      tag = [];
      parameters = [];
      inputs = [];
      outputs = [];
      items = (core.an_item (core.field (codes "a") None no_condition core.whole) (core.an_item (core.field (codes
          "b") None no_condition (core.ref core.whole))
          (core.an_item (core.field (codes "c") None no_condition (core.ref
          core.whole)) core.no_items)));
      slots = 0;
    }
unfolding word_class
any_and_cell = refl

-- dictionaries, with a declared type, a variable and a reference as values:
-- u$_ = U; t$_ {X:Type} n:# a:(Hashmap n X) b:(HashmapE 32 U) c:(HashmapE (n + 1) ^U) = T X;
abbrev dictionaries_text : ConstructorView
dictionaries_text =
    (declaration (Some (codes "t")) (given []) (an_item (implicit (codes "X") Ty) (an_item (explicit (Some (codes
    "n")) (plain nat32)) (an_item (explicit (Some (codes "a")) (plain (named (codes "Hashmap") (an_expr (named
    (codes "n") no_exprs) (an_expr (named (codes "X") no_exprs) no_exprs))))) (an_item (explicit (Some (codes "b"))
    (plain (named (codes "HashmapE") (an_expr (lit 32) (an_expr (named (codes "U") no_exprs) no_exprs))))) (an_item
    (explicit (Some (codes "c")) (plain (named (codes "HashmapE") (an_expr (plus (named (codes "n") no_exprs) (lit
    1)) (an_expr (ref (named (codes "U") no_exprs)) no_exprs))))) no_items))))) (codes "T") (an_expr (named (codes
    "X") no_exprs) no_exprs))

pub dictionaries : core_of
    ((declaration (Some (codes "u")) (given []) no_items (codes "U") no_exprs)
    ∷ dictionaries_text ∷ [])
    [] dictionaries_text ≡ record {
      tag = [];
      parameters = (core.type_in ∷ []);
      inputs = (core.type 0 ∷ []);
      outputs = [];
      items = (core.an_item (core.field (codes "n") (Some 1) no_condition core.nat32) (core.an_item (core.field (codes
          "a") None no_condition (core.dict (num.var 1) (core.variable 0))) (core.an_item (core.field (codes "b") None
          no_condition (core.dict_e (num.lit 32) (core.named (codes "U") core.no_args)))
          (core.an_item (core.field (codes
          "c") None no_condition (core.dict_e (num.plus (num.var 1) (num.lit 1)) (core.ref (core.named (codes "U")
          core.no_args)))) core.no_items))));
      slots = 2;
    }
unfolding word_class
dictionaries = refl

-- HashmapNode is no type:
-- t$_ a:(HashmapNode 3 uint8) = T;
-- The schema is refused: UnknownType T.t.a.
abbrev dictionary_node_text : ConstructorView
dictionary_node_text =
    (declaration (Some (codes "t")) (given []) (an_item (explicit (Some (codes "a")) (plain (named (codes
    "HashmapNode") (an_expr (lit 3) (an_expr (named (codes "uint8") no_exprs) no_exprs))))) no_items) (codes "T")
    no_exprs)

pub dictionary_node : core_of
    (dictionary_node_text ∷ [])
    [] dictionary_node_text ≡ record {
      tag = [];
      parameters = [];
      inputs = [];
      outputs = [];
      items = (core.an_item (core.field (codes "a") None no_condition no_meaning) core.no_items);
      slots = 0;
    }
unfolding word_class
dictionary_node = refl

-- repetitions, of references and under one:
-- t$_ n:# a:(n * uint8) b:(n * ^uint8) c:^(3 * uint8) = T;
abbrev repetitions_text : ConstructorView
repetitions_text =
    (declaration (Some (codes "t")) (given []) (an_item (explicit (Some (codes "n")) (plain nat32)) (an_item
    (explicit (Some (codes "a")) (plain (star (named (codes "n") no_exprs) (named (codes "uint8") no_exprs))))
    (an_item (explicit (Some (codes "b")) (plain (star (named (codes "n") no_exprs) (ref (named (codes "uint8")
    no_exprs))))) (an_item (explicit (Some (codes "c")) (plain (ref (star (lit 3) (named (codes "uint8")
    no_exprs))))) no_items)))) (codes "T") no_exprs)

pub repetitions : core_of
    (repetitions_text ∷ [])
    [] repetitions_text ≡ record {
      tag = [];
      parameters = [];
      inputs = [];
      outputs = [];
      items = (core.an_item (core.field (codes "n") (Some 0) no_condition core.nat32) (core.an_item (core.field (codes
          "a") None no_condition (core.repeat (num.var 0) (core.uint (num.lit 8))))
          (core.an_item (core.field (codes "b")
          None no_condition (core.repeat (num.var 0) (core.ref (core.uint (num.lit 8)))))
          (core.an_item (core.field (codes
          "c") None no_condition (core.ref (core.repeat (num.lit 3) (core.uint (num.lit 8))))) core.no_items))));
      slots = 1;
    }
unfolding word_class
repetitions = refl

-- arguments of a declared type: numbers, types, and types with arguments:
-- u$_ {n:#} {X:Type} x:X = U n X; t$_ n:# x:(U (n + 1) (U 2 ^uint8)) = T;
abbrev applied_types_text : ConstructorView
applied_types_text =
    (declaration (Some (codes "t")) (given []) (an_item (explicit (Some (codes "n")) (plain nat32)) (an_item
    (explicit (Some (codes "x")) (plain (named (codes "U") (an_expr (plus (named (codes "n") no_exprs) (lit 1))
    (an_expr (named (codes "U") (an_expr (lit 2) (an_expr (ref (named (codes "uint8") no_exprs)) no_exprs)))
    no_exprs))))) no_items)) (codes "T") no_exprs)

pub applied_types : core_of
    ((declaration (Some (codes "u")) (given []) (an_item (implicit (codes "n") Nat) (an_item (implicit (codes "X")
    Ty) (an_item (explicit (Some (codes "x")) (plain (named (codes "X") no_exprs))) no_items))) (codes "U") (an_expr
    (named (codes "n") no_exprs) (an_expr (named (codes "X") no_exprs) no_exprs)))
    ∷ applied_types_text ∷ [])
    [] applied_types_text ≡ record {
      tag = [];
      parameters = [];
      inputs = [];
      outputs = [];
      items = (core.an_item (core.field (codes "n") (Some 0) no_condition core.nat32) (core.an_item (core.field (codes
          "x") None no_condition (core.named (codes "U") (core.nat_arg (num.plus (num.var 0) (num.lit 1)) (core.ty_arg
          (core.named (codes "U") (core.nat_arg (num.lit 2) (core.ty_arg (core.ref (core.uint (num.lit 8)))
          core.no_args))) core.no_args)))) core.no_items));
      slots = 1;
    }
unfolding word_class
applied_types = refl

-- a record in place, under one reference, and after a condition:
-- t$_ f:(## 2) a:[ x:# ] b:^[ y:# z:(uint y) ] c:f?[ u:# ] d:f.1?^[ v:# ] g:# = T;
abbrev records_text : ConstructorView
records_text =
    (declaration (Some (codes "t")) (given []) (an_item (explicit (Some (codes "f")) (plain (bits (an_expr (lit 2)
    no_exprs)))) (an_item (explicit (Some (codes "a")) (plain (group (an_item (explicit (Some (codes "x")) (plain
    nat32)) no_items)))) (an_item (explicit (Some (codes "b")) (plain (ref (group (an_item (explicit (Some (codes
    "y")) (plain nat32)) (an_item (explicit (Some (codes "z")) (plain (named (codes "uint") (an_expr (named (codes
    "y") no_exprs) no_exprs)))) no_items)))))) (an_item (explicit (Some (codes "c")) (when (named (codes "f")
    no_exprs) (group (an_item (explicit (Some (codes "u")) (plain nat32)) no_items)))) (an_item (explicit (Some
    (codes "d")) (when_bit (named (codes "f") no_exprs) 1 (ref (group (an_item (explicit (Some (codes "v")) (plain
    nat32)) no_items))))) (an_item (explicit (Some (codes "g")) (plain nat32)) no_items)))))) (codes "T") no_exprs)

pub records : core_of
    (records_text ∷ [])
    [] records_text ≡ record {
      tag = [];
      parameters = [];
      inputs = [];
      outputs = [];
      items = (core.an_item (core.field (codes "f") (Some 0) no_condition (core.bits (num.lit 2))) (core.an_item
          (core.field (codes "a") None no_condition (core.group (core.an_item (core.field (codes "x") (Some 1)
          no_condition core.nat32) core.no_items))) (core.an_item (core.field (codes "b") None no_condition (core.ref
          (core.group (core.an_item (core.field (codes "y") (Some 2) no_condition core.nat32) (core.an_item (core.field
          (codes "z") None no_condition (core.uint (num.var 2))) core.no_items)))))
          (core.an_item (core.field (codes "c")
          None (not_0 (num.var 0)) (core.group (core.an_item (core.field (codes "u") (Some 3) no_condition core.nat32)
          core.no_items))) (core.an_item (core.field (codes "d") None (has_bit (num.var 0) 1) (core.ref (core.group
          (core.an_item (core.field (codes "v") (Some 4) no_condition core.nat32) core.no_items)))) (core.an_item
          (core.field (codes "g") (Some 5) no_condition core.nat32) core.no_items))))));
      slots = 6;
    }
unfolding word_class
records = refl

-- records in records, each with slots of its own and places that begin again:
-- t$_ a:[ x:# b:[ {x = 1} y:# ] {x = 2} ] {1 = 2} = T;
abbrev records_in_records_text : ConstructorView
records_in_records_text =
    (declaration (Some (codes "t")) (given []) (an_item (explicit (Some (codes "a")) (plain (group (an_item
    (explicit (Some (codes "x")) (plain nat32)) (an_item (explicit (Some (codes "b")) (plain (group (an_item (check
    (named (codes "x") no_exprs) Eq (lit 1)) (an_item (explicit (Some (codes "y")) (plain nat32)) no_items)))))
    (an_item (check (named (codes "x") no_exprs) Eq (lit 2)) no_items)))))) (an_item (check (lit 1) Eq (lit 2))
    no_items)) (codes "T") no_exprs)

pub records_in_records : core_of
    (records_in_records_text ∷ [])
    [] records_in_records_text ≡ record {
      tag = [];
      parameters = [];
      inputs = [];
      outputs = [];
      items = (core.an_item (core.field (codes "a") None no_condition (core.group (core.an_item (core.field (codes
          "x") (Some 0) no_condition core.nat32) (core.an_item (core.field (codes "b") None no_condition (core.group
          (core.an_item (core.check (num.var 0) Eq (num.lit 1) 1) (core.an_item (core.field (codes "y") (Some 1)
          no_condition core.nat32) core.no_items)))) (core.an_item (core.check (num.var 0) Eq (num.lit 2) 3)
          core.no_items))))) (core.an_item (core.check (num.lit 1) Eq (num.lit 2) 2) core.no_items));
      slots = 2;
    }
unfolding word_class
records_in_records = refl

-- a condition on a number and on a bit of it:
-- c$_ f:(## 2) v:f?uint8 w:f.1?uint8 u:(f + 1)?uint8 = C;
abbrev conditions_text : ConstructorView
conditions_text =
    (declaration (Some (codes "c")) (given []) (an_item (explicit (Some (codes "f")) (plain (bits (an_expr (lit 2)
    no_exprs)))) (an_item (explicit (Some (codes "v")) (when (named (codes "f") no_exprs) (named (codes "uint8")
    no_exprs))) (an_item (explicit (Some (codes "w")) (when_bit (named (codes "f") no_exprs) 1 (named (codes
    "uint8") no_exprs))) (an_item (explicit (Some (codes "u")) (when (plus (named (codes "f") no_exprs) (lit 1))
    (named (codes "uint8") no_exprs))) no_items)))) (codes "C") no_exprs)

pub conditions : core_of
    (conditions_text ∷ [])
    [] conditions_text ≡ record {
      tag = [];
      parameters = [];
      inputs = [];
      outputs = [];
      items = (core.an_item (core.field (codes "f") (Some 0) no_condition (core.bits (num.lit 2))) (core.an_item
          (core.field (codes "v") None (not_0 (num.var 0)) (core.uint (num.lit 8)))
          (core.an_item (core.field (codes "w")
          None (has_bit (num.var 0) 1) (core.uint (num.lit 8))) (core.an_item (core.field (codes "u") None (not_0
          (num.plus (num.var 0) (num.lit 1))) (core.uint (num.lit 8))) core.no_items))));
      slots = 1;
    }
unfolding word_class
conditions = refl
