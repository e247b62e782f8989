-- What follows for an expression of which no cause holds.
use Rattle.std.proofs.Common.{◌≡◌, List, [], ◌∷◌, ◌++◌, Bool, true, false, refl}
use Rattle.std.proofs.Common.{map}
use Rattle.std.specs.Prelude.{filter, cond}
use Rattle.std.proofs.lemmas.Bool.{or_parts}
use Rattle.kind_declarations.specs.declared.error.Cause.{Cause}
use Rattle.kind_declarations.specs.declared.error.Cause.TheVariants.{Reserved, UnknownType, UnknownName, Arity}
use Rattle.kind_declarations.specs.declared.error.Cause.TheVariants.{KindMismatch, OutputUnderRef, NotLinear}
use Rattle.kind_declarations.specs.declared.error.Cause.TheVariants.{TwiceNamed, Undetermined, TooWide}
use Rattle.kind_declarations.specs.Faults.{has, causes, in_order, fault_at, faults}
use Rattle.kind_declarations.specs.Nodes.{Node, Judged, a_use}
use Rattle.kind_rules.specs.ExpectedKinds.{Use}
use Rattle.kind_rules.specs.Names.{is_unknown_type, is_unknown_name, is_other_arity, is_other_field_used}
use Rattle.kind_rules.specs.Numbers.{is_product_of_variables, is_type_for_number, is_number_for_type}
use Rattle.kind_rules.specs.Numbers.{is_other_basic_arity}
use Rattle.kind_rules.specs.Known.{is_used_unknown, is_other_out, is_known_twice}
use Rattle.kind_rules.specs.Outputs.{is_output_inside, is_no_output}
use Rattle.kind_rules.specs.Records.{is_misplaced_record}
use Rattle.kinded_core.specs.Clean.{IsClean, AreClean}

-- ---- lists of nodes

pub clean_both : (xs ys : List Judged) → AreClean (xs ++ ys) → AreClean xs × AreClean ys
clean_both [] ys h = (tt, h)
clean_both (x ∷ xs) ys h = let p = clean_both xs ys h.1 in ((h.0, p.0), p.1)

pub append_none : {X : Type 0} (xs ys : List X) → xs ++ ys ≡ [] → (xs ≡ []) × (ys ≡ [])
append_none [] ys e = (refl, e)
append_none (x ∷ xs) ys e = cc

pub map_none : {X Y : Type 0} (f : X → Y) (xs : List X) → map f xs ≡ [] → xs ≡ []
map_none f [] e = refl
map_none f (x ∷ xs) e = cc

-- where a list that passes a test is empty, its first element doesn't pass
filter_none : {X : Type 0} (test : X → Bool) (x : X) (xs : List X) → filter test (x ∷ xs) ≡ []
    → (test x ≡ false) × (filter test xs ≡ [])
filter_none test x xs e = cases (test x) refl e
  where
    cases : (b : Bool) → test x ≡ b → cond b (x ∷ filter test xs) (filter test xs) ≡ [] → (test x ≡ false)
        × (filter test xs ≡ [])
    cases true is h = cc
    cases false is h = (is, h)

-- each element of a list of which none passes a test fails it
abbrev EachFails : {X : Type 0} → (X → Bool) → List X → Type 0
EachFails test [] = Unit {0}
EachFails test (x ∷ xs) = (test x ≡ false) × EachFails test xs

each_fails : {X : Type 0} (test : X → Bool) (xs : List X) → filter test xs ≡ [] → EachFails test xs
each_fails test [] e = tt
each_fails test (x ∷ xs) e = let p = filter_none test x xs e in (p.0, each_fails test xs p.1)

-- a node without causes is clean
clean_node : (n : Node) → causes n ≡ [] → IsClean n
clean_node n e c = of_cause c (each_fails (has n) in_order e)
  where
    of_cause : (c : Cause) → EachFails (has n) in_order → has n c ≡ false
    of_cause Reserved h = h.0
    of_cause UnknownType h = h.1.0
    of_cause UnknownName h = h.1.1.0
    of_cause Arity h = h.1.1.1.0
    of_cause KindMismatch h = h.1.1.1.1.0
    of_cause OutputUnderRef h = h.1.1.1.1.1.0
    of_cause NotLinear h = h.1.1.1.1.1.1.0
    of_cause TwiceNamed h = h.1.1.1.1.1.1.1.0
    of_cause Undetermined h = h.1.1.1.1.1.1.1.1.0
    of_cause TooWide h = h.1.1.1.1.1.1.1.1.1.0

-- what is judged without a fault is clean
pub clean_nodes : (js : List Judged) → faults js ≡ [] → AreClean js
clean_nodes [] e = tt
clean_nodes (j ∷ js) e =
    let p = append_none (map (fault_at j.path) (causes j.node)) (faults js) e in
    (clean_node j.node (map_none (fault_at j.path) (causes j.node) p.0), clean_nodes js p.1)

-- ---- one expression

pub record CleanUse (u : Use) : Type 0 where
  pub unknown_type : is_unknown_type u ≡ false
  pub unknown_name : is_unknown_name u ≡ false
  pub arity : is_other_arity u ≡ false
  pub other_field : is_other_field_used u ≡ false
  pub type_for_number : is_type_for_number u ≡ false
  pub number_for_type : is_number_for_type u ≡ false
  pub basic_arity : is_other_basic_arity u ≡ false
  pub no_output : is_no_output u ≡ false
  pub no_record : is_misplaced_record u ≡ false
  pub product : is_product_of_variables u ≡ false
  pub other_out : is_other_out u ≡ false
  pub twice : is_known_twice u ≡ false
  pub unknown : is_used_unknown u ≡ false

pub clean_use : (u : Use) → IsClean (a_use u) → CleanUse u
clean_use u h =
    let f = or_parts _ (is_misplaced_record u) (h KindMismatch) in
    let e = or_parts _ (is_no_output u) f.0 in
    let d = or_parts _ (is_output_inside u) e.0 in
    let c = or_parts _ (is_other_basic_arity u) d.0 in
    let b = or_parts _ (is_number_for_type u) c.0 in
    let a = or_parts (is_other_field_used u) (is_type_for_number u) b.0 in
    let g = or_parts (is_product_of_variables u) (is_other_out u) (h NotLinear) in
    record {
      unknown_type = h UnknownType;
      unknown_name = h UnknownName;
      arity = h Arity;
      other_field = a.0;
      type_for_number = a.1;
      number_for_type = b.1;
      basic_arity = c.1;
      no_output = e.1;
      no_record = f.1;
      product = g.0;
      other_out = g.1;
      twice = h TwiceNamed;
      unknown = h Undetermined;
    }
