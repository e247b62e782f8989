-- In an accepted schema no two fields of a record are shown by one name.
use Rattle.std.proofs.Common.{◌≡◌, ◌⊎◌, inl, inr, ℕ, zero, suc, ◌+◌, ◌<◌, ◌≤◌, List, [], ◌∷◌, ◌++◌, length}
use Rattle.std.proofs.Common.{Option, Some, None, Bool, true, false, ◌||◌, cond, nat_eq, refl, sym, ap, ◌∙◌}
use Rattle.std.proofs.Common.{subst, arith, slice_get}
use Rattle.std.specs.Prelude.{bytes_eq, codes, decimal}
use Rattle.std.proofs.lemmas.Bool.{or_parts, eqb-true}
use Rattle.std.proofs.lemmas.Fmt.{decimal_injective, decimal_nonempty}
use Rattle.std.proofs.lemmas.List.Folds.{list_any-append}
use Rattle.std.proofs.lemmas.Slice.Eq.{bytes_eq-Decides}
use Rattle.nat_solver.specs.declared.compare.Op.{Op}
use Rattle.tlb_lexer.specs.Spelling.{is_name}
use Rattle.tlb_syntax.specs.Limits.{IsWord, IsExpr, IsType, AreItems, item_count, IsConstructor}
use Rattle.tlb_syntax.specs.Limits.{AreConstructors}
use Rattle.tlb_syntax.specs.Tree.{ExprView, ItemView, ItemList, TypeView, ConstructorView, SchemaView, lit}
use Rattle.tlb_syntax.specs.Tree.{named, nat32, bits, below, up_to, plus, star, out, ref, group, plain, when}
use Rattle.tlb_syntax.specs.Tree.{when_bit, implicit, check, explicit, no_items, an_item, no_exprs, an_expr}
use Rattle.kind_rules.specs.declared.expected.TypePosition.{TypePosition}
use Rattle.kind_rules.specs.declared.expected.TypePosition.TheVariants.{Whole, Conditional}
use Rattle.kind_rules.specs.FieldNames.{names_inside}
use Rattle.kind_rules.specs.ExpectedKinds.{a_number, a_type, under}
use Rattle.kind_terms.specs.declared.words.Family.{Family}
use Rattle.kind_terms.specs.declared.words.Family.TheVariants.{Uint, Int, Bits}
use Rattle.kind_terms.specs.Words.{Word, is_among}
use Rattle.kind_terms.specs.Params.{greatest}
use Rattle.kind_terms.specs.Forms.{is_field_of_numbers}
use Rattle.kind_terms.specs.Positions.{unnamed_name, shown, is_unnamed}
use Rattle.kind_terms.specs.Scopes.{field_names}
use Rattle.kind_declarations.specs.Nodes.{RecordContext, ItemContext, Judged, at, first, first_inside, expr_nodes}
use Rattle.kind_declarations.specs.Nodes.{type_nodes, item_nodes, record_nodes, name_at, record_and_outputs}
use Rattle.kind_declarations.specs.Nodes.{constructor_nodes}
use Rattle.kind_declarations.specs.Nodes as nodes
use Rattle.kind_declarations.specs.Faults.{faults}
use Rattle.tlb_kinds.specs.Laws.{KeptStaysWithin}
use Rattle.tlb_kinds.specs.Refusals.{IsKinded, kept_of, ordinary, refusals, refusals_within, of_headings, of_contents}
use Rattle.tlb_kinds.specs.Refusals.{of_guard}
use Rattle.tlb_kinds.specs.Spots.{heading, refusal_at, refusals_at}
use Rattle.core_form.specs.Core.{Ty, Items, Args, Item, Declaration}
use Rattle.nat_solver.specs.Number.{Expr}
use Rattle.nat_solver.specs.Number as num
use Rattle.core_form.specs.Core as core
use Rattle.schema_core.specs.Names.{Names, Variable, TypeName, no_type, type_word, anything, family, family_of}
use Rattle.schema_core.specs.Names.{hashmap_type, hashmap_e_type, declared, declares, meaning, type_called, other}
use Rattle.schema_core.specs.Names.{declared_kinds}
use Rattle.schema_core.specs.Names as names_in
use Rattle.schema_core.specs.Numbers.{number_of, no_number, side_of, unknown_by}
use Rattle.schema_core.specs.Slots.{next_slot, field_slots}
use Rattle.schema_core.specs.CoreOf.{no_meaning, of_family, applied, alone, type_of, first_type, args_of, own_slot}
use Rattle.schema_core.specs.CoreOf.{constraint_by, unnamed_by, items_of, field_of, body_of}
use Rattle.schema_core.specs.CoreOf.{under_ref, core_of}
use Rattle.schema_leads.specs.Tags.{tag_of}
use Rattle.kinded_core.specs.Clean.{AreClean}
use Rattle.kinded_core.specs.CleanLaws.{clean_both, clean_nodes, append_none, map_none}
use Rattle.kinded_core.specs.ItemLaws.{new_name}
use Rattle.accepted_schema.specs.Accepted.{IsAccepted, kept_cores}
use Rattle.accepted_spelling.specs.RangeLaws.{core_at}
use Rattle.pruning.specs.Names.{NotAmong, AreApart, AreApartIn, NamesFieldsApart}

-- ---- names of fields without a name

first_byte : List ℕ → ℕ
first_byte [] = 0
first_byte (b ∷ bs) = b

rest_of : List ℕ → List ℕ
rest_of [] = []
rest_of (b ∷ bs) = bs

underscore : (k : ℕ) → first_byte (unnamed_name k) ≡ 95
unfolding first_byte
underscore k = go (nat_eq k 1)
  where
    go : (b : Bool) → first_byte (cond b (codes "_") (codes "_" ++ decimal k)) ≡ 95
    go true = refl
    go false = refl

-- a word begins with a letter
no_letter : (z : Word) → IsWord z → first_byte z ≡ 95 → ⊥
unfolding first_byte
no_letter [] w e = let s = w.spelled in absurd (cc)
no_letter (b ∷ bs) w e =
    let P : ℕ → Type 0 = λ b. is_name (b ∷ bs) ≡ true in
    let s = subst P e w.spelled in absurd (cc)

word-other : (z : Word) (k : ℕ) → IsWord z → z ≡ unnamed_name k → ⊥
unfolding first_byte
word-other z k w e = no_letter z w (ap first_byte e ∙ underscore k)

unnamed-other : (j k : ℕ) → 1 ≤ j → j < k → k ≤ 1000 → unnamed_name j ≡ unnamed_name k → ⊥
unfolding rest_of
unnamed-other j k one less low e = go (nat_eq j 1) (nat_eq k 1) refl refl e
  where
    go : (a b : Bool) → nat_eq j 1 ≡ a → nat_eq k 1 ≡ b
        → cond a (codes "_") (codes "_" ++ decimal j) ≡ cond b (codes "_") (codes "_" ++ decimal k) → ⊥
    go a true ea eb h = let s = eqb-true k 1 eb in omega (arith, s, one, less)
    go true false ea eb h =
        let d : [] ≡ decimal k = ap rest_of h in
        let l : 0 ≡ length (decimal k) = ap length d in
        let n = decimal_nonempty k (omega (arith, low)) in
        omega (arith, l, n)
    go false false ea eb h =
        let d : decimal j ≡ decimal k = ap rest_of h in
        let s = decimal_injective j k (omega (arith, low, less)) (omega (arith, low)) d in
        omega (arith, s, less)

-- ---- names that come later in a record

-- the name of a later field without a name, or a word that is none of these
abbrev IsLater : List Word → ℕ → ℕ → Word → Type 0
IsLater others u most y =
    ((k : ℕ) × (u < k) × (k ≤ most) × (y ≡ unnamed_name k)) ⊎ (IsWord y × (is_among others y ≡ false))

abbrev AllLater : List Word → ℕ → ℕ → List Word → Type 0
AllLater others u most [] = Unit {0}
AllLater others u most (y ∷ ys) = IsLater others u most y × AllLater others u most ys

fewer : (f a n b : List Word) (y : Word) → is_among ((f ++ a) ++ (n ++ b)) y ≡ false
    → (is_among (f ++ n) y ≡ false) × (is_among a y ≡ false)
fewer f a n b y h =
    let x = or_parts (is_among (f ++ a) y) (is_among (n ++ b) y)
    (sym (list_any-append (bytes_eq y) (f ++ a) (n ++ b)) ∙ h) in
    let l = or_parts (is_among f y) (is_among a y) (sym (list_any-append (bytes_eq y) f a) ∙ x.0) in
    let r = or_parts (is_among n y) (is_among b y) (sym (list_any-append (bytes_eq y) n b) ∙ x.1) in
    (list_any-append (bytes_eq y) f n ∙ (λ i. l.0 i || r.0 i), l.1)

sooner : (f a n b : List Word) (u v most : ℕ) (ys : List Word) → u ≤ v → AllLater ((f ++ a) ++ (n ++ b)) v most ys
    → AllLater (f ++ n) u most ys
sooner f a n b u v most [] l h = tt
sooner f a n b u v most (y ∷ ys) l h = (one h.0, sooner f a n b u v most ys l h.1)
  where
    one : IsLater ((f ++ a) ++ (n ++ b)) v most y → IsLater (f ++ n) u most y
    one (inl k) = let m = k.1 in inl (k.0, omega (arith, m, l), k.2, k.3)
    one (inr k) = inr (k.0, (fewer f a n b y k.1).0)

-- of a field with this name
named-apart : (f n b : List Word) (z : Word) → IsWord z → (u most : ℕ) (ys : List Word)
    → AllLater ((f ++ z ∷ []) ++ (n ++ b)) u most ys → NotAmong z ys
named-apart f n b z w u most [] h = tt
named-apart f n b z w u most (y ∷ ys) h = (one h.0, named-apart f n b z w u most ys h.1)
  where
    one : IsLater ((f ++ z ∷ []) ++ (n ++ b)) u most y → z ≡ y → ⊥
    one (inl k) e = word-other z k.0 w (e ∙ k.3)
    one (inr k) e =
        let x = or_parts (bytes_eq y z) false ((fewer f (z ∷ []) n b y k.1).1) in
        let t = (bytes_eq-Decides y z).1 (sym e) in
        absurd (let q = x.0 in cc)

unnamed-apart : (others : List Word) (u most : ℕ) (ys : List Word) → most ≤ 1000
    → AllLater others (u + 1) most ys → NotAmong (unnamed_name (u + 1)) ys
unnamed-apart others u most [] low h = tt
unnamed-apart others u most (y ∷ ys) low h = (one h.0, unnamed-apart others u most ys low h.1)
  where
    one : IsLater others (u + 1) most y → unnamed_name (u + 1) ≡ y → ⊥
    one (inl k) e =
        let a = k.1 in
        let b = k.2 in
        unnamed-other (u + 1) k.0 (omega arith) a (omega (arith, b, low)) (e ∙ k.3)
    one (inr k) e = word-other y (u + 1) k.0 (sym e)

-- ---- the names of the fields of a core form

field-head : (types : SchemaView) (names : Names) (x : Word) (own : Option ℕ) (next : ℕ) (t : TypeView) (is : Items)
    → core.field_names (core.an_item (field_of types names x own next t) is) ≡ x ∷ core.field_names is
field-head types names x own next (plain e) is = refl
field-head types names x own next (when c e) is = refl
field-head types names x own next (when_bit c b e) is = refl

constraint-head : (o : Option ℕ) (names : Names) (a : ExprView) (op : Op) (b : ExprView) (place : ℕ) (is : Items)
    → core.field_names (core.an_item (constraint_by o names a op b place) is) ≡ core.field_names is
constraint-head None names a op b place is = refl
constraint-head (Some v) names a op b place is = refl

-- the core items after one
abbrev further : ItemList → SchemaView → Names → ℕ → ℕ → ℕ → ItemView → Items
further is types names next place u i =
    items_of types (names ++ declares i next) (next_slot next i) (place + 1) (unnamed_by (is_unnamed i) u) is

later : (is : ItemList) (types : SchemaView) (h : RecordContext) (names : Names) (next place u most : ℕ)
    → AreClean (record_nodes is h) → AreItems is → u + item_count is ≤ most
    → AllLater (h.fields ++ h.inner) u most (core.field_names (items_of types names next place u is))
later no_items types h names next place u most c w low = tt
later (an_item (implicit x k) is) types h names next place u most c w low =
    let p = clean_both (item_nodes (implicit x k) (at h (implicit x k)) (h.fields ++ h.inner)) _ c in
    let n = nodes.next h (implicit x k) in
    sooner h.fields (field_names (implicit x k)) h.inner (names_inside (implicit x k)) u u most
    (core.field_names (further is types names next place u (implicit x k))) (omega arith)
    (later is types (nodes.next h (implicit x k)) (names ++ declares (implicit x k) next)
    (next_slot next (implicit x k))
    (place + 1) u most p.1 w.1 (omega (arith, low)))
later (an_item (check a op b) is) types h names next place u most c w low =
    let p = clean_both (item_nodes (check a op b) (at h (check a op b)) (h.fields ++ h.inner)) _ c in
    let P : List Word → Type 0 = AllLater (h.fields ++ h.inner) u most in
    subst P (sym (constraint-head (unknown_by op (side_of names a) (side_of names b)) names a op b place
    (further is types names next place u (check a op b))))
    (sooner h.fields (field_names (check a op b)) h.inner (names_inside (check a op b)) u u most
    (core.field_names (further is types names next place u (check a op b))) (omega arith)
    (later is types (nodes.next h (check a op b)) (names ++ declares (check a op b) next)
    (next_slot next (check a op b))
    (place + 1) u most p.1 w.1 (omega (arith, low))))
later (an_item (explicit None t) is) types h names next place u most c w low =
    let p = clean_both (item_nodes (explicit None t) (at h (explicit None t)) (h.fields ++ h.inner)) _ c in
    let P : List Word → Type 0 = AllLater (h.fields ++ h.inner) u most in
    subst P (sym (field-head types names (shown (None) u) (own_slot (None) (is_field_of_numbers t) next)
    (next + field_slots (None) (is_field_of_numbers t)) t (further is types names next place u (explicit (None) t)))) (
      inl (u + 1, omega arith, omega (arith, low), refl),
      sooner h.fields (field_names (explicit None t)) h.inner (names_inside (explicit None t)) u (u + 1) most
          (core.field_names (further is types names next place u (explicit None t))) (omega arith)
          (later is types (nodes.next h (explicit None t)) (names ++ declares (explicit None t) next)
          (next_slot next (explicit None t))
          (place + 1) (u + 1) most p.1 w.1 (omega (arith, low))),
    )
later (an_item (explicit (Some z) t) is) types h names next place u most c w low =
    let p = clean_both (item_nodes (explicit (Some z) t) (at h (explicit (Some z) t)) (h.fields ++ h.inner)) _ c in
    let q = clean_both (name_at (at h (explicit (Some z) t)).path (h.fields ++ h.inner) (Some z)) _ p.0 in
    let P : List Word → Type 0 = AllLater (h.fields ++ h.inner) u most in
    subst P (sym (field-head types names (shown (Some z) u) (own_slot (Some z) (is_field_of_numbers t) next)
    (next + field_slots (Some z) (is_field_of_numbers t)) t (further is types names next place u
    (explicit (Some z) t)))) (
      inr (w.0.0, new_name (h.fields ++ h.inner) (at h (explicit (Some z) t)).path z q.0),
      sooner h.fields (field_names (explicit (Some z) t)) h.inner (names_inside (explicit (Some z) t)) u u most
          (core.field_names (further is types names next place u (explicit (Some z) t))) (omega arith)
          (later is types (nodes.next h (explicit (Some z) t)) (names ++ declares (explicit (Some z) t) next)
          (next_slot next (explicit (Some z) t))
          (place + 1) u most p.1 w.1 (omega (arith, low))),
    )

-- ---- a type that is no record has none in it

family-apart : (f : Family) (e : Expr) → AreApartIn (of_family f e)
family-apart Uint e = tt
family-apart Int e = tt
family-apart Bits e = tt

applied-apart : (t : TypeName) (x : Word) (e : Expr) (y : Ty) (args : Args) → AreApartIn (applied t x e y args)
applied-apart no_type x e y args = tt
applied-apart type_word x e y args = tt
applied-apart anything x e y args = tt
applied-apart (family f) x e y args = family-apart f e
applied-apart (family_of f n) x e y args = family-apart f (num.lit n)
applied-apart hashmap_type x e y args = tt
applied-apart hashmap_e_type x e y args = tt
applied-apart (declared ks) x e y args = tt

alone-apart : (v : Option Variable) (t : Ty) → AreApartIn t → AreApartIn (alone v t)
alone-apart None t h = h
alone-apart (Some (names_in.a_type v)) t h = tt
alone-apart (Some (names_in.a_number v)) t h = tt
alone-apart (Some other) t h = tt

type-apart : (types : SchemaView) (names : Names) (e : ExprView) → AreApartIn (type_of types names e)
type-apart types names nat32 = tt
type-apart types names (bits es) = tt
type-apart types names (below es) = tt
type-apart types names (up_to es) = tt
type-apart types names (star a b) = tt
type-apart types names (ref e) = type-apart types names e
type-apart types names (named x no_exprs) =
    alone-apart (meaning names x) _ (applied-apart (type_called types x) x no_number no_meaning core.no_args)
type-apart types names (named x (an_expr e es)) =
    applied-apart (type_called types x) x (number_of names e) (first_type types names es)
    (args_of types names (declared_kinds (type_called types x)) (an_expr e es))
type-apart types names (lit n) = tt
type-apart types names (plus a b) = tt
type-apart types names (out e) = tt
type-apart types names (group is) = tt

-- ---- records

abbrev type_in : TypeView → ExprView
type_in (plain e) = e
type_in (when c e) = e
type_in (when_bit c k e) = e

field-apart : (types : SchemaView) (names : Names) (x : Word) (own : Option ℕ) (next : ℕ) (t : TypeView) (is : Items)
    → NotAmong x (core.field_names is) → AreApartIn (body_of types names next (type_in t)) → AreApart is
    → AreApart (core.an_item (field_of types names x own next t) is)
field-apart types names x own next (plain e) is a b c = (a, b, c)
field-apart types names x own next (when n e) is a b c = (a, b, c)
field-apart types names x own next (when_bit n k e) is a b c = (a, b, c)

constraint-apart : (o : Option ℕ) (names : Names) (a : ExprView) (op : Op) (b : ExprView) (place : ℕ) (is : Items)
    → AreApart is → AreApart (core.an_item (constraint_by o names a op b place) is)
constraint-apart None names a op b place is h = h
constraint-apart (Some v) names a op b place is h = h

mutual
  items-apart : (is : ItemList) (types : SchemaView) (h : RecordContext) (names : Names) (next place u most : ℕ)
      → AreClean (record_nodes is h) → AreItems is → u + item_count is ≤ most → most ≤ 1000
      → AreApart (items_of types names next place u is)
  items-apart no_items types h names next place u most c w low few = tt
  items-apart (an_item (implicit x k) is) types h names next place u most c w low few =
      let p = clean_both (item_nodes (implicit x k) (at h (implicit x k)) (h.fields ++ h.inner)) _ c in
      items-apart is types (nodes.next h (implicit x k)) (names ++ declares (implicit x k) next)
      (next_slot next (implicit x k)) (place + 1) u most p.1 w.1 (omega (arith, low)) few
  items-apart (an_item (check a op b) is) types h names next place u most c w low few =
      let p = clean_both (item_nodes (check a op b) (at h (check a op b)) (h.fields ++ h.inner)) _ c in
      constraint-apart (unknown_by op (side_of names a) (side_of names b)) names a op b place
      (further is types names next place u (check a op b))
      (items-apart is types (nodes.next h (check a op b)) (names ++ declares (check a op b) next)
      (next_slot next (check a op b)) (place + 1) u most p.1 w.1 (omega (arith, low)) few)
  items-apart (an_item (explicit None t) is) types h names next place u most c w low few =
      let p = clean_both (item_nodes (explicit None t) (at h (explicit None t)) (h.fields ++ h.inner)) _ c in
      let q = clean_both (name_at (at h (explicit None t)).path (h.fields ++ h.inner) None) _ p.0 in
      let l = later is types (nodes.next h (explicit None t)) (names ++ declares (explicit None t) next)
      (next_slot next (explicit None t)) (place + 1) (u + 1) most p.1 w.1 (omega (arith, low)) in
      field-apart types names (shown (None) u) (own_slot (None) (is_field_of_numbers t) next)
      (next + field_slots (None) (is_field_of_numbers t)) t (further is types names next place u (explicit (None) t))
      (unnamed-apart ((h.fields ++ field_names (explicit None t)) ++ (h.inner ++ names_inside (explicit None t))) u most
      (core.field_names (further is types names next place u (explicit None t))) few l)
      (view-apart t types (at h (explicit None t)) names (next + field_slots None (is_field_of_numbers t)) q.1 w.0.1)
      (items-apart is types (nodes.next h (explicit None t)) (names ++ declares (explicit None t) next)
      (next_slot next (explicit None t)) (place + 1) (u + 1) most p.1 w.1 (omega (arith, low)) few)
  items-apart (an_item (explicit (Some z) t) is) types h names next place u most c w low few =
      let p = clean_both (item_nodes (explicit (Some z) t) (at h (explicit (Some z) t)) (h.fields ++ h.inner)) _ c in
      let q = clean_both (name_at (at h (explicit (Some z) t)).path (h.fields ++ h.inner) (Some z)) _ p.0 in
      let l = later is types (nodes.next h (explicit (Some z) t)) (names ++ declares (explicit (Some z) t) next)
      (next_slot next (explicit (Some z) t)) (place + 1) u most p.1 w.1 (omega (arith, low)) in
      field-apart types names (shown (Some z) u) (own_slot (Some z) (is_field_of_numbers t) next)
      (next + field_slots (Some z) (is_field_of_numbers t)) t
      (further is types names next place u (explicit (Some z) t))
      (named-apart h.fields h.inner (names_inside (explicit (Some z) t)) z w.0.0 u most
      (core.field_names (further is types names next place u (explicit (Some z) t))) l)
      (view-apart t types (at h (explicit (Some z) t)) names (next + field_slots (Some z) (is_field_of_numbers t))
      q.1 w.0.1)
      (items-apart is types (nodes.next h (explicit (Some z) t)) (names ++ declares (explicit (Some z) t) next)
      (next_slot next (explicit (Some z) t)) (place + 1) u most p.1 w.1 (omega (arith, low)) few)

  view-apart : (t : TypeView) (types : SchemaView) (a : ItemContext) (names : Names) (next : ℕ)
      → AreClean (type_nodes t a) → IsType t → AreApartIn (body_of types names next (type_in t))
  view-apart (plain e) types a names next c w = body-apart e types a names next Whole c w
  view-apart (when n e) types a names next c w =
      let p = clean_both (expr_nodes n a (Some (a_number greatest None))) _ c in
      body-apart e types a names next Conditional p.1 w.1
  view-apart (when_bit n k e) types a names next c w =
      let p = clean_both (expr_nodes n a (Some (a_number greatest None))) _ c in
      body-apart e types a names next Conditional p.1 w.2

  body-apart : (e : ExprView) (types : SchemaView) (a : ItemContext) (names : Names) (next : ℕ) (w : TypePosition)
      → AreClean (expr_nodes e a (Some (a_type w))) → IsExpr e → AreApartIn (body_of types names next e)
  body-apart (group is) types a names next w c r =
      let few = r.0 in
      items-apart is types (first_inside a) names next 1 0 255 c.1 r.1 (omega (arith, few)) (omega arith)
  body-apart (ref e) types a names next w c r = under-apart e types a names next (under w) c.1 r
  body-apart (lit n) types a names next w c r = type-apart types names (lit n)
  body-apart (named x es) types a names next w c r = type-apart types names (named x es)
  body-apart nat32 types a names next w c r = tt
  body-apart (bits es) types a names next w c r = tt
  body-apart (below es) types a names next w c r = tt
  body-apart (up_to es) types a names next w c r = tt
  body-apart (plus x y) types a names next w c r = tt
  body-apart (star x y) types a names next w c r = tt
  body-apart (out e) types a names next w c r = tt

  under-apart : (e : ExprView) (types : SchemaView) (a : ItemContext) (names : Names) (next : ℕ) (w : TypePosition)
      → AreClean (expr_nodes e a (Some (a_type w))) → IsExpr e → AreApartIn (under_ref types names next e)
  under-apart (group is) types a names next w c r =
      let few = r.0 in
      items-apart is types (first_inside a) names next 1 0 255 c.1 r.1 (omega (arith, few)) (omega arith)
  under-apart (ref e) types a names next w c r = type-apart types names (ref e)
  under-apart (lit n) types a names next w c r = type-apart types names (lit n)
  under-apart (named x es) types a names next w c r = type-apart types names (named x es)
  under-apart nat32 types a names next w c r = tt
  under-apart (bits es) types a names next w c r = tt
  under-apart (below es) types a names next w c r = tt
  under-apart (up_to es) types a names next w c r = tt
  under-apart (plus x y) types a names next w c r = tt
  under-apart (star x y) types a names next w c r = tt
  under-apart (out e) types a names next w c r = tt

-- ---- schemas

constructor-apart : (types : SchemaView) (tag : List ℕ) (c : ConstructorView) → AreClean (constructor_nodes types c)
    → IsConstructor c → AreApart (core_of types tag c).items
constructor-apart types tag c clean w =
    let p = clean_both (record_and_outputs types c) _ clean in
    let q = clean_both (record_nodes c.items (first types c)) _ p.0 in
    let few = w.item_count in
    items-apart c.items types (first types c) [] 0 1 0 255 q.0 w.items (omega (arith, few)) (omega arith)

-- what is judged of each constructor without a refusal
judged-at : (types before s : SchemaView) → of_contents types before s ≡ [] → (i : ℕ) (c : ConstructorView)
    → slice_get s i ≡ Some c → AreClean (constructor_nodes types c)
judged-at types before [] h i c e = absurd (grind arith)
judged-at types before (d ∷ ds) h zero c e =
    let p = append_none (refusals_at (heading before d) (constructor_nodes types d))
    (of_contents types (before ++ d ∷ []) ds) h in
    let same : d ≡ c = cc in
    let P : ConstructorView → Type 0 = λ c. AreClean (constructor_nodes types c) in
    subst P same
    (clean_nodes (constructor_nodes types d)
    (map_none (refusal_at (heading before d)) (faults (constructor_nodes types d)) p.0))
judged-at types before (d ∷ ds) h (suc i) c e =
    let p = append_none (refusals_at (heading before d) (constructor_nodes types d))
    (of_contents types (before ++ d ∷ []) ds) h in
    judged-at types (before ++ d ∷ []) ds p.1 i c e

no-contents : (s : SchemaView) → IsKinded s → of_contents (kept_of s) [] (kept_of s) ≡ []
unfolding refusals refusals_within
no-contents s k =
    let p = append_none (of_headings [] (ordinary s)) _ k in
    (append_none (of_contents (kept_of s) [] (kept_of s)) (of_guard (kept_of s)) p.1).0

constructor-at : (cs : SchemaView) (i : ℕ) (c : ConstructorView) → AreConstructors cs → slice_get cs i ≡ Some c
    → IsConstructor c
constructor-at [] i c h e = absurd (grind arith)
constructor-at (d ∷ cs) zero c h e = let same : d ≡ c = cc in subst IsConstructor same h.0
constructor-at (d ∷ cs) (suc i) c h e = constructor-at cs i c h.1 e

pub accepted_apart : KeptStaysWithin → (s : SchemaView) → IsAccepted s → NamesFieldsApart (kept_cores s)
accepted_apart within s ok i d there =
    let found = core_at (kept_of s) tag_of [] (kept_of s) i d there in
    let clean = judged-at (kept_of s) [] (kept_of s) (no-contents s ok.kinded) i found.constructor found.there in
    let limits = constructor-at (kept_of s) i found.constructor (within s ok.within).constructors found.there in
    let P : core.Constructor → Type 0 = λ x. AreApart x.items in
    subst P (sym found.core)
    (constructor-apart (kept_of s) (tag_of found.constructor) found.constructor clean limits)
