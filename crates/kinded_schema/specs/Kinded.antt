-- What a declaration is in which nothing is refused, part by part: what each name stands for, which form a number has, and
-- that each variable is known where it is used.
-- Source: the TON documentation on TL-B, and this project's rules.
use Rattle.std.specs.Prelude.{◌≡◌, ◌⊎◌, Bool, true, false, List, [], ◌∷◌, ◌++◌, Option, Some, None}
use Rattle.tlb_syntax.specs.Tree.{ExprView, ExprList, ItemView, ItemList, TypeView, ConstructorView, SchemaView, lit, named}
use Rattle.tlb_syntax.specs.Tree.{nat32, bits, below, up_to, plus, star, out, ref, group, no_exprs, an_expr, plain, when}
use Rattle.tlb_syntax.specs.Tree.{when_bit, implicit, check, explicit, no_items, an_item}
use Rattle.kind_terms.specs.Words.{Word, is_among}
use Rattle.kind_terms.specs.declared.kind.TermKind.{TermKind}
use Rattle.kind_terms.specs.declared.kind.TermKind.TheVariants.{NumberIn, TypeIn, NumberOut, NoKind}
use Rattle.kind_terms.specs.Params.{bare_name, has_kind, has_outputs, inputs, is_same_kind, kind_of, kinds, variable_of}
use Rattle.kind_terms.specs.Types.{TypeNamed, no_type, basic, declared, has_exprs}
use Rattle.kind_terms.specs.Forms.{out_name}
use Rattle.kind_terms.specs.Closed.{closed}
use Rattle.kind_terms.specs.Sought.{sought}
use Rattle.kind_terms.specs.Scopes.{Scope, given_out, after, at_end, inside, in_scope, is_number_variable, is_type_variable}
use Rattle.kind_terms.specs.Scopes.{is_known, is_own_unknown, made_known}
use Rattle.kind_rules.specs.declared.expected.TypePosition.{TypePosition}
use Rattle.kind_rules.specs.declared.expected.TypePosition.TheVariants.{Whole, Conditional, Inner}
use Rattle.kind_rules.specs.ExpectedKinds.{as_type, under}
use Rattle.kind_rules.specs.Records.{takes_no_record}
use Rattle.kind_declarations.specs.Headings.{Heading, fixed, is_constructor_twice, is_reserved, is_variable_among}
use Rattle.kind_declarations.specs.Nodes.{first, joined}
use Rattle.tlb_guard.specs.Cycles.{first_unguarded}
use Rattle.tlb_kinds.specs.Spots.{heading}

-- ---- numbers

-- a number variable in scope that is known
pub record IsKnownNumber (s : Scope) (x : Word) : Type 0 where
  pub variable : is_number_variable s x ≡ true
  pub known : is_known s x ≡ true

-- a type variable in scope that is known
pub record IsKnownType (s : Scope) (x : Word) : Type 0 where
  pub variable : is_type_variable s x ≡ true
  pub known : is_known s x ≡ true

-- an implicit number of the same record that is not known
pub record IsUnknownNumber (s : Scope) (x : Word) : Type 0 where
  pub variable : is_number_variable s x ≡ true
  pub unknown : is_own_unknown s x ≡ true

-- `~x` with the x that the equation seeks
abbrev pub IsSought : Scope → Option Word → Option Word → Type 0
IsSought s None found = ⊥
IsSought s (Some x) None = ⊥
IsSought s (Some x) (Some y) = (x ≡ y) × IsUnknownNumber s y

-- a factor without variables
abbrev pub IsConstant : ExprView → Type 0
IsConstant e = (n : _) × (closed e ≡ Some n)

-- a number, in an equation that seeks this variable or elsewhere
abbrev pub IsNumber : ExprView → Scope → Option Word → Type 0
IsNumber (lit n) s q = Unit {0}
IsNumber (named x no_exprs) s q = IsKnownNumber s x
IsNumber (named x (an_expr e es)) s q = ⊥
IsNumber (plus a b) s q = IsNumber a s q × IsNumber b s q
IsNumber (star a b) s q = (IsNumber a s q × IsNumber b s q) × (IsConstant a ⊎ IsConstant b)
IsNumber (out e) s q = IsSought s q (bare_name e)
IsNumber nat32 s q = ⊥
IsNumber (bits es) s q = ⊥
IsNumber (below es) s q = ⊥
IsNumber (up_to es) s q = ⊥
IsNumber (ref e) s q = ⊥
IsNumber (group is) s q = ⊥

-- ---- types

-- `~x` at an output place, after the outputs of the same type before it: it is not known, and none of these
abbrev pub IsOutput : Scope → List Word → Option Word → Type 0
IsOutput s before None = ⊥
IsOutput s before (Some x) = IsUnknownNumber s x × (is_among before x ≡ false)

-- a type with outputs is the whole type of a field without a condition
abbrev pub MayGive : List TermKind → TypePosition → Type 0
MayGive ks w = has_outputs ks ≡ true → w ≡ Whole

-- What a name is where a type is expected: a type variable, or a type whose arguments fit its parameters.
abbrev pub IsTypeName : Scope → TypePosition → Word → (List TermKind → Type 0) → Option TypeNamed → Type 0
IsTypeName s w x fit None = IsKnownType s x
IsTypeName s w x fit (Some no_type) = ⊥
IsTypeName s w x fit (Some (basic ks)) = fit ks
IsTypeName s w x fit (Some (declared ks)) = fit ks × MayGive ks w

-- one number, as the argument of `##`, `#<` and `#<=`
abbrev pub IsOneNumber : ExprList → Scope → Type 0
IsOneNumber no_exprs s = ⊥
IsOneNumber (an_expr e no_exprs) s = IsNumber e s None
IsOneNumber (an_expr e (an_expr f fs)) s = ⊥

-- the names of an item are none in scope
abbrev pub IsNew : Scope → Option Word → Type 0
IsNew s None = Unit {0}
IsNew s (Some x) = in_scope s x ≡ false

abbrev mutual
  pub IsTypeAt : ExprView → Scope → TypePosition → Type 0
  IsTypeAt nat32 s w = Unit {0}
  IsTypeAt (bits es) s w = IsOneNumber es s
  IsTypeAt (below es) s w = IsOneNumber es s
  IsTypeAt (up_to es) s w = IsOneNumber es s
  IsTypeAt (named x es) s w = IsTypeName s w x (λ ks. FitParameters es s ks []) (as_type s (named x es))
  IsTypeAt (star a b) s w = IsNumber a s None × IsTypeAt b s Inner
  IsTypeAt (ref e) s w = IsTypeAt e s (under w)
  IsTypeAt (group is) s w = (takes_no_record w ≡ false) × AreItems is (inside s)
  IsTypeAt (lit n) s w = ⊥
  IsTypeAt (plus a b) s w = ⊥
  IsTypeAt (out e) s w = ⊥

  -- as many arguments as parameters, each of the kind of its parameter, after these outputs
  pub FitParameters : ExprList → Scope → List TermKind → List Word → Type 0
  FitParameters no_exprs s [] before = Unit {0}
  FitParameters no_exprs s (k ∷ ks) before = ⊥
  FitParameters (an_expr e es) s [] before = ⊥
  FitParameters (an_expr e es) s (NumberIn n ∷ ks) before = IsNumber e s None × FitParameters es s ks before
  FitParameters (an_expr e es) s (TypeIn ∷ ks) before = IsTypeAt e s Inner × FitParameters es s ks before
  FitParameters (an_expr e es) s (NumberOut ∷ ks) before =
      IsOutput s before (out_name e) × FitParameters es s ks (before ++ given_out NumberOut e)
  FitParameters (an_expr e es) s (NoKind ∷ ks) before = FitParameters es s ks before

  pub IsFieldType : TypeView → Scope → Type 0
  IsFieldType (plain e) s = IsTypeAt e s Whole
  IsFieldType (when c e) s = IsNumber c s None × IsTypeAt e s Conditional
  IsFieldType (when_bit c k e) s = IsNumber c s None × IsTypeAt e s Conditional

  pub IsItem : ItemView → Scope → Type 0
  IsItem (implicit x k) s = IsNew s (Some x)
  IsItem (check a op b) s = IsNumber a s (sought a op b) × IsNumber b s (sought a op b)
  IsItem (explicit x t) s = IsNew s x × IsFieldType t s

  -- the items of a record, each after those before it
  pub AreItems : ItemList → Scope → Type 0
  AreItems no_items s = Unit {0}
  AreItems (an_item i is) s = IsItem i s × AreItems is (after s i)

-- ---- declarations

-- the numbers of outputs
abbrev pub AreOutputs : ExprList → Scope → Type 0
AreOutputs no_exprs s = Unit {0}
AreOutputs (an_expr (out e) es) s = IsNumber e s None × AreOutputs es s
AreOutputs (an_expr (lit n) es) s = AreOutputs es s
AreOutputs (an_expr (named x fs) es) s = AreOutputs es s
AreOutputs (an_expr nat32 es) s = AreOutputs es s
AreOutputs (an_expr (bits fs) es) s = AreOutputs es s
AreOutputs (an_expr (below fs) es) s = AreOutputs es s
AreOutputs (an_expr (up_to fs) es) s = AreOutputs es s
AreOutputs (an_expr (plus a b) es) s = AreOutputs es s
AreOutputs (an_expr (star a b) es) s = AreOutputs es s
AreOutputs (an_expr (ref e) es) s = AreOutputs es s
AreOutputs (an_expr (group is) es) s = AreOutputs es s

-- ---- implicit fields

-- each implicit field of a record is one of these variables, and each of a record in it is known by its own items
abbrev mutual
  pub AreKnown : ItemList → SchemaView → List Word → Type 0
  AreKnown no_items types known = Unit {0}
  AreKnown (an_item i is) types known = IsItemKnown i types known × AreKnown is types known

  pub IsItemKnown : ItemView → SchemaView → List Word → Type 0
  IsItemKnown (implicit x k) types known = is_among known x ≡ true
  IsItemKnown (check a op b) types known = Unit {0}
  IsItemKnown (explicit x t) types known = IsFieldKnown t types

  pub IsFieldKnown : TypeView → SchemaView → Type 0
  IsFieldKnown (plain e) types = IsExprKnown e types
  IsFieldKnown (when c e) types = IsExprKnown c types × IsExprKnown e types
  IsFieldKnown (when_bit c k e) types = IsExprKnown c types × IsExprKnown e types

  -- of the records in an expression
  pub IsExprKnown : ExprView → SchemaView → Type 0
  IsExprKnown (lit n) types = Unit {0}
  IsExprKnown (named x es) types = AreExprsKnown es types
  IsExprKnown nat32 types = Unit {0}
  IsExprKnown (bits es) types = AreExprsKnown es types
  IsExprKnown (below es) types = AreExprsKnown es types
  IsExprKnown (up_to es) types = AreExprsKnown es types
  IsExprKnown (plus a b) types = IsExprKnown a types × IsExprKnown b types
  IsExprKnown (star a b) types = IsExprKnown a types × IsExprKnown b types
  IsExprKnown (out e) types = IsExprKnown e types
  IsExprKnown (ref e) types = IsExprKnown e types
  IsExprKnown (group is) types = AreKnown is types (made_known types [] is)

  pub AreExprsKnown : ExprList → SchemaView → Type 0
  AreExprsKnown no_exprs types = Unit {0}
  AreExprsKnown (an_expr e es) types = IsExprKnown e types × AreExprsKnown es types

-- ---- declarations

-- the contents of a declaration, by the declarations of types
pub record IsContent (types : SchemaView) (c : ConstructorView) : Type 0 where
  pub items : AreItems c.items (first types c).scope
  pub outputs : AreOutputs c.params (at_end (first types c).scope c.items)
  pub known : AreKnown c.items types (made_known types (inputs c.params) c.items)

-- each parameter is an output, an input number or an input type
abbrev pub HaveKinds : ItemList → ExprList → Type 0
HaveKinds is no_exprs = Unit {0}
HaveKinds is (an_expr e es) = (has_kind (kind_of is e) ≡ true) × HaveKinds is es

-- the same kinds, place by place
abbrev pub AreSameKinds : List TermKind → List TermKind → Type 0
AreSameKinds [] [] = Unit {0}
AreSameKinds [] (j ∷ js) = ⊥
AreSameKinds (k ∷ ks) [] = ⊥
AreSameKinds (k ∷ ks) (j ∷ js) = (is_same_kind k j ≡ true) × AreSameKinds ks js

-- where an earlier declaration of the type fixes the kinds of its parameters
abbrev pub Agree : Option (List TermKind) → List TermKind → Type 0
Agree None js = Unit {0}
Agree (Some ks) js = AreSameKinds ks js

-- the variables of inputs after these are none of them, and none is that of two
abbrev pub AreOnce : ExprList → ExprList → Type 0
AreOnce before no_exprs = Unit {0}
AreOnce before (an_expr e es) =
    (is_variable_among (variable_of e) (inputs before) ≡ false) × AreOnce (joined before e) es

-- the names and the result of a declaration, after those of its type before it
pub record IsHeading (r : Heading) : Type 0 where
  pub free : is_reserved r ≡ false
  pub new : is_constructor_twice r ≡ false
  pub parameters : HaveKinds r.this.items r.this.params
  pub agree : Agree (fixed r) (kinds r.this)
  pub once : AreOnce no_exprs r.this.params

pub record IsDeclaration (types before : SchemaView) (c : ConstructorView) : Type 0 where
  pub heading : IsHeading (heading before c)
  pub content : IsContent types c

-- each declaration after those before it
abbrev pub AreDeclarations : SchemaView → SchemaView → SchemaView → Type 0
AreDeclarations types before [] = Unit {0}
AreDeclarations types before (c ∷ cs) = IsDeclaration types before c × AreDeclarations types (before ++ c ∷ []) cs

-- each declaration is in order, and no type leads back to itself before anything is taken
pub record IsInOrder (s : SchemaView) : Type 0 where
  pub declarations : AreDeclarations s [] s
  pub guarded : first_unguarded s ≡ None
