-- The rounds of what may take nothing.
use Rattle.std.proofs.Common.{◌≡◌, Bool, true, false, List, [], ◌∷◌, ◌++◌, refl}
use Rattle.std.specs.Prelude.{cond, not}
use Rattle.std.proofs.lemmas.Bool.{and_parts, and_from}
use Rattle.tlb_syntax.specs.Tree.{ExprView, ExprList, ItemView, ItemList, TypeView, ConstructorView, SchemaView, lit, named, nat32, bits, below, up_to, plus, star, out, ref, group, plain, when, when_bit, implicit, check, explicit, no_items, an_item}
use Rattle.kind_terms.specs.declared.words.WordClass.{WordClass}
use Rattle.kind_terms.specs.declared.words.WordClass.TheVariants.{TypeWord, Any, Cell, Sized, Numbered, Hashmap}
use Rattle.kind_terms.specs.declared.words.WordClass.TheVariants.{HashmapE, HashmapNode, Free}
use Rattle.kind_terms.specs.Words.{Word}
use Rattle.kind_terms.specs.Classes.{NameClass, of_scope, of_word}
use Rattle.kind_terms.specs.Dictionaries.{of_type}
use Rattle.kind_terms.specs.Scopes.{field_names}
use Rattle.tlb_guard.specs.Rounds.{Test, IsPart}
use Rattle.tlb_guard.specs.DeclaredTypes.{declared_types, has_empty_tag}
use Rattle.tlb_guard.specs.Empty.{class_in, may_be_empty_word, may_be_empty_name, may_be_empty, may_be_empty_field, may_be_empty_item, may_be_empty_items, may_be_empty_constructor, empty_rules}
use Rattle.tlb_guard.specs.Laws.{EmptyStays}
use Rattle.tlb_guard.proofs.Rounds.{IsMonotone, IsWithin, last_stays}
use Rattle.tlb_guard.proofs.Lists.{any_weaker, is_declared}

-- ---- what may take nothing

word_mono : (p q : Test Word) → IsPart p q → (x : Word) (es : ExprList) (w : WordClass)
    → may_be_empty_word p x es w ≡ true → may_be_empty_word q x es w ≡ true
word_mono p q part x es TypeWord h = h
word_mono p q part x es Any h = h
word_mono p q part x es Cell h = h
word_mono p q part x es (Sized f) h = h
word_mono p q part x es (Numbered f) h = h
word_mono p q part x es Hashmap h = h
word_mono p q part x es HashmapE h = h
word_mono p q part x es HashmapNode h = h
word_mono p q part x es Free h = part x h

name_mono : (p q : Test Word) → IsPart p q → (x : Word) (es : ExprList) (k : NameClass (Unit {0}))
    → may_be_empty_name p x es k ≡ true → may_be_empty_name q x es k ≡ true
name_mono p q part x es (of_scope u) h = h
name_mono p q part x es (of_word w) h = word_mono p q part x es w h

mutual
  expr_mono : (p q : Test Word) → IsPart p q → (e : ExprView) (scope : List Word) → may_be_empty p scope e ≡ true → may_be_empty q scope e ≡ true
  expr_mono p q part (lit n) scope h = h
  expr_mono p q part (named x es) scope h =
      name_mono p q part x es (class_in scope x es) h
  expr_mono p q part nat32 scope h = h
  expr_mono p q part (bits es) scope h = h
  expr_mono p q part (below es) scope h = h
  expr_mono p q part (up_to es) scope h = h
  expr_mono p q part (plus a b) scope h = h
  expr_mono p q part (star a b) scope h = h
  expr_mono p q part (out e) scope h = h
  expr_mono p q part (ref e) scope h = h
  expr_mono p q part (group is) scope h = items_mono p q part is scope h

  field_mono : (p q : Test Word) → IsPart p q → (t : TypeView) (scope : List Word) → may_be_empty_field p scope t ≡ true → may_be_empty_field q scope t ≡ true
  field_mono p q part (plain e) scope h = expr_mono p q part e scope h
  field_mono p q part (when c e) scope h = h
  field_mono p q part (when_bit c k e) scope h = h

  item_mono : (p q : Test Word) → IsPart p q → (i : ItemView) (scope : List Word) → may_be_empty_item p scope i ≡ true → may_be_empty_item q scope i ≡ true
  item_mono p q part (implicit x k) scope h = h
  item_mono p q part (check a op b) scope h = h
  item_mono p q part (explicit x t) scope h = field_mono p q part t scope h

  items_mono : (p q : Test Word) → IsPart p q → (is : ItemList) (scope : List Word) → may_be_empty_items p scope is ≡ true → may_be_empty_items q scope is ≡ true
  items_mono p q part no_items scope h = h
  items_mono p q part (an_item i is) scope h =
      let parts = and_parts (may_be_empty_item p scope i) (may_be_empty_items p (scope ++ field_names i) is) h in
      and_from (may_be_empty_item q scope i) (may_be_empty_items q (scope ++ field_names i) is)
      (item_mono p q part i scope parts.0) (items_mono p q part is (scope ++ field_names i) parts.1)

constructor_mono : (p q : Test Word) → IsPart p q → (c : ConstructorView) → may_be_empty_constructor p c ≡ true → may_be_empty_constructor q c ≡ true
constructor_mono p q part c h =
    let parts = and_parts (has_empty_tag c) (may_be_empty_items p [] c.items) h in
    and_from (has_empty_tag c) (may_be_empty_items q [] c.items) parts.0 (items_mono p q part c.items [] parts.1)

pub empty_mono : (types : SchemaView) → IsMonotone (empty_rules types)
empty_mono types p q part x h =
    any_weaker (may_be_empty_constructor p) (may_be_empty_constructor q) (constructor_mono p q part) (of_type types x) h

pub empty_within : (types : SchemaView) → IsWithin (declared_types types) (empty_rules types)
empty_within types p x h = is_declared (may_be_empty_constructor p) types x h

pub empty_stays : EmptyStays
empty_stays types n x le = last_stays (empty_rules types) (empty_mono types) (declared_types types) (empty_within types) n x le
