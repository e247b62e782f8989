-- The names of the fields of a schema within the limits of a text.
use Rattle.std.proofs.Common.{◌≡◌, ℕ, zero, suc, ◌+◌, ◌<◌, ◌≤◌, ◌^◌, ap, sym, subst, refl, arith, List, [], ◌∷◌, ◌++◌, length, Option, Some, None, Bool, true, false, cond, slice_get, length-append}
use Rattle.std.specs.Prelude.{bytes_eq, filter}
use Rattle.bit_slice.specs.Names.{IsName}
use Rattle.value_text.specs.Writes.{IsRecordName}
use Rattle.nat_solver.specs.Number.{Expr}
use Rattle.nat_solver.specs.declared.compare.Op.{Op}
use Rattle.tlb_syntax.specs.Limits.{IsExpr, IsType, AreItems, item_count}
use Rattle.tlb_syntax.specs.Tree.{ExprView, ItemList, TypeView, ConstructorView, SchemaView, lit, named, nat32, bits, below, up_to, plus, star, out, ref, group, no_exprs, an_expr, plain, when, when_bit, implicit, check, explicit, no_items, an_item}
use Rattle.tlb_kinds.specs.Laws.{KeptStaysWithin}
use Rattle.tlb_kinds.specs.Refusals.{kept_of}
use Rattle.kind_terms.specs.Forms.{is_field_of_numbers}
use Rattle.kind_terms.specs.Positions.{shown, is_unnamed}
use Rattle.kind_terms.specs.Words.{Word}
use Rattle.kind_terms.specs.declared.words.Family.{Family}
use Rattle.kind_terms.specs.declared.words.Family.TheVariants.{Uint, Int, Bits}
use Rattle.core_form.specs.Core.{Ty, Args, Items, Condition, CoreSchema, Declaration}
use Rattle.core_form.specs.Core as core
use Rattle.schema_core.specs.CoreOf.{type_of, first_type, applied, alone, of_family, no_meaning, items_of, field_of, body_of, under_ref, constraint_by, own_slot, unnamed_by, core_of}
use Rattle.schema_core.specs.Cores.{cores_after, declaration_of, number_after, shown_name}
use Rattle.schema_core.specs.Names.{Names, Variable, a_number, a_type, other, TypeName, no_type, type_word, anything, family, family_of, hashmap_type, hashmap_e_type, declared, meaning, type_called}
use Rattle.schema_core.specs.Numbers.{number_of, side_of, unknown_by}
use Rattle.schema_core.specs.Slots.{field_slots}
use Rattle.schema_leads.specs.Tags.{tag_of}
use Rattle.accepted_schema.specs.Accepted.{IsAccepted, kept_cores}
use Rattle.accepted_building.specs.NamesLaws.{constructor_at}
use Rattle.reading_texts.proofs.Names.{not-called_x, record-name, shown-name}

-- each field has a name, and each in a record in it
abbrev mutual
  pub NamedTy : Ty → Type 0
  NamedTy core.nat32 = Unit {0}
  NamedTy (core.bits e) = Unit {0}
  NamedTy (core.below e) = Unit {0}
  NamedTy (core.up_to e) = Unit {0}
  NamedTy (core.uint e) = Unit {0}
  NamedTy (core.int e) = Unit {0}
  NamedTy (core.bit_str e) = Unit {0}
  NamedTy core.whole = Unit {0}
  NamedTy (core.variable v) = Unit {0}
  NamedTy (core.ref t) = NamedTy t
  NamedTy (core.repeat e t) = Unit {0}
  NamedTy (core.dict e t) = Unit {0}
  NamedTy (core.dict_e e t) = Unit {0}
  NamedTy (core.named x args) = Unit {0}
  NamedTy (core.group is) = NamedItems is

  pub NamedItems : Items → Type 0
  NamedItems core.no_items = Unit {0}
  NamedItems (core.an_item (core.check a op b i) is) = NamedItems is
  NamedItems (core.an_item (core.solve v a b i) is) = NamedItems is
  NamedItems (core.an_item (core.field x slot c t) is) = IsName x × NamedTy t × NamedItems is

-- ---- types without records

family-named : (f : Family) (e : Expr) → NamedTy (of_family f e)
family-named Uint e = tt
family-named Int e = tt
family-named Bits e = tt

applied-named : (k : TypeName) (x : Word) (e : Expr) (t : Ty) (args : Args) → NamedTy (applied k x e t args)
applied-named no_type x e t args = tt
applied-named type_word x e t args = tt
applied-named anything x e t args = tt
applied-named (family f) x e t args = family-named f e
applied-named (family_of f n) x e t args = family-named f _
applied-named hashmap_type x e t args = tt
applied-named hashmap_e_type x e t args = tt
applied-named (declared ks) x e t args = tt

alone-named : (o : Option Variable) (t : Ty) → NamedTy t → NamedTy (alone o t)
alone-named None t h = h
alone-named (Some (a_type v)) t h = tt
alone-named (Some (a_number v)) t h = tt
alone-named (Some other) t h = tt

type-named : (types : SchemaView) (names : Names) (e : ExprView) → NamedTy (type_of types names e)
type-named types names nat32 = tt
type-named types names (bits es) = tt
type-named types names (below es) = tt
type-named types names (up_to es) = tt
type-named types names (star a b) = tt
type-named types names (ref e) = type-named types names e
type-named types names (named x no_exprs) =
    alone-named (meaning names x) _ (applied-named (type_called types x) x _ no_meaning core.no_args)
type-named types names (named x (an_expr e es)) =
    applied-named (type_called types x) x (number_of names e) (first_type types names es) _
type-named types names (lit n) = tt
type-named types names (plus a b) = tt
type-named types names (out e) = tt
type-named types names (group is) = tt

-- ---- items

constraint-named : (o : Option ℕ) (names : Names) (a : ExprView) (op : Op) (b : ExprView) (place : ℕ) (is : Items)
    → NamedItems is → NamedItems (core.an_item (constraint_by o names a op b place) is)
constraint-named None names a op b place is h = h
constraint-named (Some v) names a op b place is h = h

unnamed-count : (b : Bool) (n : ℕ) → unnamed_by b n ≤ n + 1
unnamed-count true n = omega arith
unnamed-count false n = omega arith

mutual
  items-named : (types : SchemaView) (names : Names) (next place unnamed : ℕ) (is : ItemList) → AreItems is
      → unnamed + item_count is + 1 < 2 ^ 64 → NamedItems (items_of types names next place unnamed is)
  items-named types names next place unnamed no_items h few = tt
  items-named types names next place unnamed (an_item (implicit x k) is) h few =
      items-named types _ _ (place + 1) unnamed is h.1 (omega (arith, few))
  items-named types names next place unnamed (an_item (check a op b) is) h few =
      constraint-named (unknown_by op (side_of names a) (side_of names b)) names a op b place _
      (items-named types _ _ (place + 1) unnamed is h.1 (omega (arith, few)))
  items-named types names next place unnamed (an_item (explicit x t) is) h few =
      let n = unnamed_by (is_unnamed (explicit x t)) unnamed in
      let low = unnamed-count (is_unnamed (explicit x t)) unnamed in
      field-named types names (shown x unnamed) (own_slot x (is_field_of_numbers t) next)
      (next + field_slots x (is_field_of_numbers t)) t _ (shown-name x unnamed h.0.0 (omega (arith, few))) h.0.1
      (items-named types _ _ (place + 1) n is h.1 (omega (arith, few, low)))

  field-named : (types : SchemaView) (names : Names) (x : Word) (own : Option ℕ) (next : ℕ) (t : TypeView) (is : Items)
      → IsName x → IsType t → NamedItems is → NamedItems (core.an_item (field_of types names x own next t) is)
  field-named types names x own next (plain e) is n h rest = (n, body-named types names next e h, rest)
  field-named types names x own next (when c e) is n h rest = (n, body-named types names next e h.1, rest)
  field-named types names x own next (when_bit c k e) is n h rest = (n, body-named types names next e h.2, rest)

  body-named : (types : SchemaView) (names : Names) (next : ℕ) (e : ExprView) → IsExpr e
      → NamedTy (body_of types names next e)
  body-named types names next (group is) h = let few = h.0 in items-named types names next 1 0 is h.1 (omega (arith, few))
  body-named types names next (ref e) h = under-named types names next e h
  body-named types names next (lit n) h = type-named types names (lit n)
  body-named types names next (named x es) h = type-named types names (named x es)
  body-named types names next nat32 h = type-named types names nat32
  body-named types names next (bits es) h = type-named types names (bits es)
  body-named types names next (below es) h = type-named types names (below es)
  body-named types names next (up_to es) h = type-named types names (up_to es)
  body-named types names next (plus a b) h = type-named types names (plus a b)
  body-named types names next (star a b) h = type-named types names (star a b)
  body-named types names next (out e) h = type-named types names (out e)

  under-named : (types : SchemaView) (names : Names) (next : ℕ) (e : ExprView) → IsExpr e
      → NamedTy (under_ref types names next e)
  under-named types names next (group is) h =
      let few = h.0 in items-named types names next 1 0 is h.1 (omega (arith, few))
  under-named types names next (ref e) h = type-named types names (ref e)
  under-named types names next (lit n) h = type-named types names (lit n)
  under-named types names next (named x es) h = type-named types names (named x es)
  under-named types names next nat32 h = type-named types names nat32
  under-named types names next (bits es) h = type-named types names (bits es)
  under-named types names next (below es) h = type-named types names (below es)
  under-named types names next (up_to es) h = type-named types names (up_to es)
  under-named types names next (plus a b) h = type-named types names (plus a b)
  under-named types names next (star a b) h = type-named types names (star a b)
  under-named types names next (out e) h = type-named types names (out e)

-- ---- declarations

filter-few : {X : Type 0} (test : X → Bool) (xs : List X) → length (filter test xs) ≤ length xs
filter-few test [] = omega arith
filter-few test (x ∷ xs) = by_test (test x) (filter-few test xs)
  where
    by_test : (b : Bool) → length (filter test xs) ≤ length xs
        → length (cond b (x ∷ filter test xs) (filter test xs)) ≤ suc (length xs)
    by_test true h = omega (arith, h)
    by_test false h = omega (arith, h)

pub record IsNamed (d : Declaration) : Type 0 where
  pub name : IsRecordName (Some d.shown)
  pub items : NamedItems d.core.items

-- the constructor of a declaration after these, and its number
record IsShown (before cs : SchemaView) (i : ℕ) (d : Declaration) : Type 0 where
  constructor : ConstructorView
  there : slice_get cs i ≡ Some constructor
  number : ℕ
  some : 0 < number
  few : number ≤ length before + length cs
  shown : d.shown ≡ shown_name constructor.name number
  types : SchemaView
  tag : List ℕ
  core_is : d.core.items ≡ (core_of types tag constructor).items

first-shown : (types : SchemaView) (tag : List ℕ) (before : SchemaView) (c : ConstructorView) (cs : SchemaView)
    (d : Declaration) → declaration_of types tag before c ≡ d → IsShown before (c ∷ cs) 0 d
first-shown types tag before c cs d e =
    let l = filter-few (λ (x : ConstructorView). bytes_eq x.result c.result) before in
    record {
      constructor = c;
      there = refl;
      number = number_after before c;
      some = omega arith;
      few = omega (arith, l);
      shown = ap (λ (x : Declaration). x.shown) (sym e);
      types = types;
      tag = tag;
      core_is = ap (λ (x : Declaration). x.core.items) (sym e);
    }

shown-at : (types : SchemaView) (tag : ConstructorView → List ℕ) (before cs : SchemaView) (i : ℕ) (d : Declaration)
    → slice_get (cores_after types tag before cs) i ≡ Some d → IsShown before cs i d
shown-at types tag before [] i d e = absurd (grind arith)
shown-at types tag before (c ∷ cs) zero d e =
    let same : declaration_of types (tag c) before c ≡ d = cc in
    first-shown types (tag c) before c cs d same
shown-at types tag before (c ∷ cs) (suc i) d e =
    let more = shown-at types tag (before ++ c ∷ []) cs i d e in
    let low = more.few in
    let l = length-append before (c ∷ []) in
    record {
      constructor = more.constructor;
      there = more.there;
      number = more.number;
      some = more.some;
      few = omega (arith, low, l);
      shown = more.shown;
      types = more.types;
      tag = more.tag;
      core_is = more.core_is;
    }

-- each declaration of an accepted schema has names
pub schema-named : KeptStaysWithin → (s : SchemaView) → IsAccepted s → (i : ℕ) (d : Declaration)
    → slice_get (kept_cores s) i ≡ Some d → IsNamed d
schema-named within s ok i d there =
    let x = shown-at (kept_of s) tag_of [] (kept_of s) i d there in
    let limits = within s ok.within in
    let c = constructor_at (kept_of s) i x.constructor limits.constructors x.there in
    let all = limits.counts.all in
    let low = x.few in
    let short = c.item_count in
    let few : x.number < 2 ^ 64 = omega (arith, all, low) in
    let P : Word → Type 0 = λ n. IsRecordName (Some n) in
    record {
      name =
          subst P (sym x.shown)
          (record-name x.constructor.name x.number c.name (not-called_x s ok.kinded i x.constructor x.there) x.some few);
      items =
          subst NamedItems (sym x.core_is)
          (items-named x.types [] 0 1 0 x.constructor.items c.items (omega (arith, short)));
    }
