-- The lines are within the limits of a text, by a test that the checker computes.
use Rattle.std.proofs.Common.{◌≡◌, ◌^◌, ℕ, Bool, true, false, ◌&&◌, List, [], ◌∷◌, length, Option, Some, None, refl, arith, nat_lt, nat_le, nat_eq}
use Rattle.std.specs.Prelude.{bytes_eq}
use Rattle.std.proofs.lemmas.List.Sums.{count_by-le-length}
use Rattle.std.proofs.lemmas.Bool.{leb-true, ltb-true, eqb-true}
use Rattle.hashmap_labels.specs.Reading.{are_bits}
use Rattle.hashmap_labels.specs.LengthLaws.{AreBits-are_bits}
use Rattle.tlb_lexer.specs.Spelling.{is_name}
use Rattle.tlb_syntax.specs.Tree.{ExprView, ExprList, ItemView, ItemList, TypeView, TagView, ConstructorView, SchemaView, lit, named, nat32, bits, below, up_to, plus, star, out, ref, group, no_exprs, an_expr, plain, when, when_bit, implicit, check, explicit, no_items, an_item, computed, given}
use Rattle.tlb_syntax.specs.Limits.{IsWord, IsWordOrNone, IsTag, IsExpr, AreExprs, IsType, IsItem, AreItems, expr_count, item_count, levels_of, levels_in, IsConstructor, AreConstructors, IsWithinLimits}
use Rattle.declared_maps.specs.Lines.{lines}

-- ---- the test

abbrev is_word : List ℕ → Bool
is_word x = is_name x && nat_le (length x) 127

abbrev is_word_or_none : Option (List ℕ) → Bool
is_word_or_none None = true
is_word_or_none (Some x) = is_word x

abbrev is_tag : TagView → Bool
is_tag computed = true
is_tag (given b) = are_bits b && nat_le (length b) 1023

abbrev mutual
  is_expr : ExprView → Bool
  is_expr (lit n) = nat_lt n (2 ^ 32)
  is_expr (named x es) = is_word x && are_exprs es
  is_expr nat32 = true
  is_expr (bits es) = nat_eq (expr_count es) 1 && are_exprs es
  is_expr (below es) = nat_eq (expr_count es) 1 && are_exprs es
  is_expr (up_to es) = nat_eq (expr_count es) 1 && are_exprs es
  is_expr (plus a b) = is_expr a && is_expr b
  is_expr (star a b) = is_expr a && is_expr b
  is_expr (out e) = is_expr e
  is_expr (ref e) = is_expr e
  is_expr (group is) = nat_le (item_count is) 255 && are_items is

  are_exprs : ExprList → Bool
  are_exprs no_exprs = true
  are_exprs (an_expr e es) = is_expr e && are_exprs es

  is_type : TypeView → Bool
  is_type (plain e) = is_expr e
  is_type (when c e) = is_expr c && is_expr e
  is_type (when_bit c k e) = is_expr c && (nat_le k 31 && is_expr e)

  is_item : ItemView → Bool
  is_item (implicit x k) = is_word x
  is_item (check a op b) = is_expr a && is_expr b
  is_item (explicit x t) = is_word_or_none x && is_type t

  are_items : ItemList → Bool
  are_items no_items = true
  are_items (an_item i is) = is_item i && are_items is

abbrev has_sizes : ConstructorView → Bool
has_sizes c =
    nat_le (item_count c.items) 255
    && (nat_le (levels_in c.items) 64 && (nat_le (expr_count c.params) 8 && nat_le (levels_of c.params) 64))

abbrev is_constructor : ConstructorView → Bool
is_constructor c =
    has_sizes c
    && (is_word_or_none c.name && (is_tag c.tag && (are_items c.items && (is_word c.result && are_exprs c.params))))

abbrev are_constructors : SchemaView → Bool
are_constructors [] = true
are_constructors (c ∷ cs) = is_constructor c && are_constructors cs

-- ---- what passes it

both : (a b : Bool) → (a && b) ≡ true → (a ≡ true) × (b ≡ true)
both true b e = (refl, e)
both false b e = cc

word_ok : (x : List ℕ) → is_word x ≡ true → IsWord x
word_ok x e =
    let h = both (is_name x) (nat_le (length x) 127) e in
    record { spelled = h.0; short = leb-true (length x) 127 h.1 }

word_or_none_ok : (x : Option (List ℕ)) → is_word_or_none x ≡ true → IsWordOrNone x
word_or_none_ok None e = tt
word_or_none_ok (Some x) e = word_ok x e

tag_ok : (t : TagView) → is_tag t ≡ true → IsTag t
tag_ok computed e = tt
tag_ok (given b) e =
    let h = both (are_bits b) (nat_le (length b) 1023) e in
    record { are_bits = AreBits-are_bits b h.0; short = leb-true (length b) 1023 h.1 }

mutual
  expr_ok : (e : ExprView) → is_expr e ≡ true → IsExpr e
  expr_ok (lit n) h = ltb-true n (2 ^ 32) h
  expr_ok (named x es) h = let p = both (is_word x) (are_exprs es) h in (word_ok x p.0, exprs_ok es p.1)
  expr_ok nat32 h = tt
  expr_ok (bits es) h = let p = both (nat_eq (expr_count es) 1) (are_exprs es) h in (eqb-true (expr_count es) 1 p.0, exprs_ok es p.1)
  expr_ok (below es) h = let p = both (nat_eq (expr_count es) 1) (are_exprs es) h in (eqb-true (expr_count es) 1 p.0, exprs_ok es p.1)
  expr_ok (up_to es) h = let p = both (nat_eq (expr_count es) 1) (are_exprs es) h in (eqb-true (expr_count es) 1 p.0, exprs_ok es p.1)
  expr_ok (plus a b) h = let p = both (is_expr a) (is_expr b) h in (expr_ok a p.0, expr_ok b p.1)
  expr_ok (star a b) h = let p = both (is_expr a) (is_expr b) h in (expr_ok a p.0, expr_ok b p.1)
  expr_ok (out e) h = expr_ok e h
  expr_ok (ref e) h = expr_ok e h
  expr_ok (group is) h = let p = both (nat_le (item_count is) 255) (are_items is) h in (leb-true (item_count is) 255 p.0, items_ok is p.1)

  exprs_ok : (es : ExprList) → are_exprs es ≡ true → AreExprs es
  exprs_ok no_exprs h = tt
  exprs_ok (an_expr e es) h = let p = both (is_expr e) (are_exprs es) h in (expr_ok e p.0, exprs_ok es p.1)

  type_ok : (t : TypeView) → is_type t ≡ true → IsType t
  type_ok (plain e) h = expr_ok e h
  type_ok (when c e) h = let p = both (is_expr c) (is_expr e) h in (expr_ok c p.0, expr_ok e p.1)
  type_ok (when_bit c k e) h =
      let p = both (is_expr c) (nat_le k 31 && is_expr e) h in
      let q = both (nat_le k 31) (is_expr e) p.1 in
      (expr_ok c p.0, leb-true k 31 q.0, expr_ok e q.1)

  item_ok : (i : ItemView) → is_item i ≡ true → IsItem i
  item_ok (implicit x k) h = word_ok x h
  item_ok (check a op b) h = let p = both (is_expr a) (is_expr b) h in (expr_ok a p.0, expr_ok b p.1)
  item_ok (explicit x t) h = let p = both (is_word_or_none x) (is_type t) h in (word_or_none_ok x p.0, type_ok t p.1)

  items_ok : (is : ItemList) → are_items is ≡ true → AreItems is
  items_ok no_items h = tt
  items_ok (an_item i is) h = let p = both (is_item i) (are_items is) h in (item_ok i p.0, items_ok is p.1)

constructor_ok : (c : ConstructorView) → is_constructor c ≡ true → IsConstructor c
constructor_ok c h =
    let a = both (has_sizes c) (is_word_or_none c.name && (is_tag c.tag && (are_items c.items && (is_word c.result && are_exprs c.params)))) h in
    let s = both (nat_le (item_count c.items) 255) (nat_le (levels_in c.items) 64 && (nat_le (expr_count c.params) 8 && nat_le (levels_of c.params) 64)) a.0 in
    let t = both (nat_le (levels_in c.items) 64) (nat_le (expr_count c.params) 8 && nat_le (levels_of c.params) 64) s.1 in
    let u = both (nat_le (expr_count c.params) 8) (nat_le (levels_of c.params) 64) t.1 in
    let v = both (is_word_or_none c.name) (is_tag c.tag && (are_items c.items && (is_word c.result && are_exprs c.params))) a.1 in
    let w = both (is_tag c.tag) (are_items c.items && (is_word c.result && are_exprs c.params)) v.1 in
    let x = both (are_items c.items) (is_word c.result && are_exprs c.params) w.1 in
    let y = both (is_word c.result) (are_exprs c.params) x.1 in
    record {
      name = word_or_none_ok c.name v.0;
      tag = tag_ok c.tag w.0;
      items = items_ok c.items x.0;
      item_count = leb-true (item_count c.items) 255 s.0;
      item_levels = leb-true (levels_in c.items) 64 t.0;
      type_name = word_ok c.result y.0;
      params = exprs_ok c.params y.1;
      param_count = leb-true (expr_count c.params) 8 u.0;
      param_levels = leb-true (levels_of c.params) 64 u.1;
    }

constructors_ok : (s : SchemaView) → are_constructors s ≡ true → AreConstructors s
constructors_ok [] h = tt
constructors_ok (c ∷ cs) h = let p = both (is_constructor c) (are_constructors cs) h in (constructor_ok c p.0, constructors_ok cs p.1)

-- ---- counts

pub lines_within : IsWithinLimits lines
lines_within =
    let n : length lines ≡ 11 = refl in
    record {
      counts = record {
        all = omega (arith, n);
        of_one = λ x. let le = count_by-le-length (λ (c : ConstructorView). bytes_eq c.result x) lines in omega (arith, le, n);
      };
      constructors = constructors_ok lines refl;
    }
