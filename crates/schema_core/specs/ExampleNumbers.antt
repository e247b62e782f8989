-- Declarations and their core forms, computed: numbers and constraints.
use Rattle.std.specs.Prelude.{◌≡◌, [], ◌∷◌, Some, None, codes, refl}
use Rattle.nat_solver.specs.Number as num
use Rattle.nat_solver.specs.declared.compare.Op.TheVariants.{Eq, Lt, Le, Gt}
use Rattle.tlb_syntax.specs.declared.tree.ParamKind.TheVariants.{Nat}
use Rattle.tlb_syntax.specs.Tree.{ConstructorView, lit, named, nat32, plus, star, out}
use Rattle.tlb_syntax.specs.Tree.{no_exprs, an_expr, plain, implicit, check, explicit, given}
use Rattle.tlb_syntax.specs.Tree.{no_items, an_item}
use Rattle.kind_terms.specs.Classes.{word_class}
use Rattle.core_form.specs.Core.{no_condition}
use Rattle.core_form.specs.Core as core
use Rattle.schema_core.specs.CoreOf.{core_of}
use Rattle.schema_core.specs.Numbers.{no_number}
use Rattle.schema_core.specs.Declarations.{declaration}

-- products of a number without variables, on either side, and of two such numbers:
-- t$_ n:# a:(uint (n * 8)) b:(uint ((2 + 3) * n)) c:(uint (2 * 3)) d:(uint (2 * (n + 1))) = T;
abbrev products_text : ConstructorView
products_text =
    (declaration (Some (codes "t")) (given []) (an_item (explicit (Some (codes "n")) (plain nat32)) (an_item
    (explicit (Some (codes "a")) (plain (named (codes "uint") (an_expr (star (named (codes "n") no_exprs) (lit 8))
    no_exprs)))) (an_item (explicit (Some (codes "b")) (plain (named (codes "uint") (an_expr (star (plus (lit 2)
    (lit 3)) (named (codes "n") no_exprs)) no_exprs)))) (an_item (explicit (Some (codes "c")) (plain (named (codes
    "uint") (an_expr (star (lit 2) (lit 3)) no_exprs)))) (an_item (explicit (Some (codes "d")) (plain (named (codes
    "uint") (an_expr (star (lit 2) (plus (named (codes "n") no_exprs) (lit 1))) no_exprs)))) no_items))))) (codes
    "T") no_exprs)

pub products : core_of
    (products_text ∷ [])
    [] products_text ≡ record {
      tag = [];
      parameters = [];
      inputs = [];
      outputs = [];
      items = (core.an_item (core.field (codes "n") (Some 0) no_condition core.nat32) (core.an_item (core.field (codes
          "a") None no_condition (core.uint (num.times 8 (num.var 0)))) (core.an_item (core.field (codes "b") None
          no_condition (core.uint (num.times 5 (num.var 0)))) (core.an_item (core.field (codes "c") None no_condition
          (core.uint (num.times 2 (num.lit 3)))) (core.an_item (core.field (codes "d") None no_condition (core.uint
          (num.times 2 (num.plus (num.var 0) (num.lit 1))))) core.no_items)))));
      slots = 1;
    }
unfolding word_class
products = refl

-- a product of two variables has no meaning:
-- t$_ n:# a:(uint (n * n)) = T;
-- The schema is refused: NotLinear T.t.a.
abbrev product_of_variables_text : ConstructorView
product_of_variables_text =
    (declaration (Some (codes "t")) (given []) (an_item (explicit (Some (codes "n")) (plain nat32)) (an_item
    (explicit (Some (codes "a")) (plain (named (codes "uint") (an_expr (star (named (codes "n") no_exprs) (named
    (codes "n") no_exprs)) no_exprs)))) no_items)) (codes "T") no_exprs)

pub product_of_variables : core_of
    (product_of_variables_text ∷ [])
    [] product_of_variables_text ≡ record {
      tag = [];
      parameters = [];
      inputs = [];
      outputs = [];
      items = (core.an_item (core.field (codes "n") (Some 0) no_condition core.nat32) (core.an_item (core.field (codes
          "a") None no_condition (core.uint no_number)) core.no_items));
      slots = 1;
    }
unfolding word_class
product_of_variables = refl

-- sums are nested to the left:
-- t$_ n:# m:# a:(uint (n + m + 3)) {n + 1 <= m} {n > 3} = T;
abbrev sums_text : ConstructorView
sums_text =
    (declaration (Some (codes "t")) (given []) (an_item (explicit (Some (codes "n")) (plain nat32)) (an_item
    (explicit (Some (codes "m")) (plain nat32)) (an_item (explicit (Some (codes "a")) (plain (named (codes "uint")
    (an_expr (plus (plus (named (codes "n") no_exprs) (named (codes "m") no_exprs)) (lit 3)) no_exprs)))) (an_item
    (check (plus (named (codes "n") no_exprs) (lit 1)) Le (named (codes "m") no_exprs)) (an_item (check (named
    (codes "n") no_exprs) Gt (lit 3)) no_items))))) (codes "T") no_exprs)

pub sums : core_of
    (sums_text ∷ [])
    [] sums_text ≡ record {
      tag = [];
      parameters = [];
      inputs = [];
      outputs = [];
      items = (core.an_item (core.field (codes "n") (Some 0) no_condition core.nat32) (core.an_item (core.field (codes
          "m") (Some 1) no_condition core.nat32) (core.an_item (core.field (codes "a") None no_condition (core.uint
          (num.plus (num.plus (num.var 0) (num.var 1)) (num.lit 3)))) (core.an_item (core.check (num.plus (num.var 0)
          (num.lit 1)) Le (num.var 1) 4) (core.an_item (core.check (num.var 0) Gt (num.lit 3) 5) core.no_items)))));
      slots = 2;
    }
unfolding word_class
sums = refl

-- an equation with an unknown, and one without:
-- t$_ {m:#} n:# {n = (~m) + 1} {n = m} = T;
abbrev equations_text : ConstructorView
equations_text =
    (declaration (Some (codes "t")) (given []) (an_item (implicit (codes "m") Nat) (an_item (explicit (Some (codes
    "n")) (plain nat32)) (an_item (check (named (codes "n") no_exprs) Eq (plus (out (named (codes "m") no_exprs))
    (lit 1))) (an_item (check (named (codes "n") no_exprs) Eq (named (codes "m") no_exprs)) no_items)))) (codes "T")
    no_exprs)

pub equations : core_of
    (equations_text ∷ [])
    [] equations_text ≡ record {
      tag = [];
      parameters = [];
      inputs = [];
      outputs = [];
      items = (core.an_item (core.field (codes "n") (Some 1) no_condition core.nat32) (core.an_item (core.solve 0
          (num.var 1) (num.plus (num.sought 0) (num.lit 1)) 3) (core.an_item (core.check (num.var 1) Eq (num.var 0) 4)
          core.no_items)));
      slots = 2;
    }
unfolding word_class
equations = refl

-- an unknown under a factor:
-- t$_ {m:#} n:# {2 * ~m = n + 1} = T;
abbrev unknown_in_multiple_text : ConstructorView
unknown_in_multiple_text =
    (declaration (Some (codes "t")) (given []) (an_item (implicit (codes "m") Nat) (an_item (explicit (Some (codes
    "n")) (plain nat32)) (an_item (check (star (lit 2) (out (named (codes "m") no_exprs))) Eq (plus (named (codes
    "n") no_exprs) (lit 1))) no_items))) (codes "T") no_exprs)

pub unknown_in_multiple : core_of
    (unknown_in_multiple_text ∷ [])
    [] unknown_in_multiple_text ≡ record {
      tag = [];
      parameters = [];
      inputs = [];
      outputs = [];
      items = (core.an_item (core.field (codes "n") (Some 1) no_condition core.nat32) (core.an_item (core.solve 0
          (num.times 2 (num.sought 0)) (num.plus (num.var 1) (num.lit 1)) 3) core.no_items));
      slots = 2;
    }
unfolding word_class
unknown_in_multiple = refl

-- an unknown under a factor 0 is none: the constraint is a check, where `~` has no meaning:
-- t$_ {m:#} n:# {n = 0 * ~m} = T;
-- The schema is refused: NotLinear T.t.{3}.
abbrev unknown_under_zero_text : ConstructorView
unknown_under_zero_text =
    (declaration (Some (codes "t")) (given []) (an_item (implicit (codes "m") Nat) (an_item (explicit (Some (codes
    "n")) (plain nat32)) (an_item (check (named (codes "n") no_exprs) Eq (star (lit 0) (out (named (codes "m")
    no_exprs)))) no_items))) (codes "T") no_exprs)

pub unknown_under_zero : core_of
    (unknown_under_zero_text ∷ [])
    [] unknown_under_zero_text ≡ record {
      tag = [];
      parameters = [];
      inputs = [];
      outputs = [];
      items = (core.an_item (core.field (codes "n") (Some 1) no_condition core.nat32) (core.an_item (core.check
          (num.var 1) Eq (num.times 0 no_number) 3) core.no_items));
      slots = 2;
    }
unfolding word_class
unknown_under_zero = refl

-- of two unknowns none is sought, and a comparison seeks none:
-- t$_ {m:#} {k:#} {~m = ~k} {3 < ~m} = T;
-- The schema is refused: NotLinear T.t.{3}.
abbrev two_unknowns_text : ConstructorView
two_unknowns_text =
    (declaration (Some (codes "t")) (given []) (an_item (implicit (codes "m") Nat) (an_item (implicit (codes "k")
    Nat) (an_item (check (out (named (codes "m") no_exprs)) Eq (out (named (codes "k") no_exprs))) (an_item (check
    (lit 3) Lt (out (named (codes "m") no_exprs))) no_items)))) (codes "T") no_exprs)

pub two_unknowns : core_of
    (two_unknowns_text ∷ [])
    [] two_unknowns_text ≡ record {
      tag = [];
      parameters = [];
      inputs = [];
      outputs = [];
      items = (core.an_item (core.check no_number Eq no_number 3) (core.an_item (core.check (num.lit 3) Lt no_number
          4) core.no_items));
      slots = 2;
    }
unfolding word_class
two_unknowns = refl
