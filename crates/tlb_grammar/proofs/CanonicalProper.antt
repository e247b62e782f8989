-- The trees that the lexemes of a text write.
use Rattle.std.proofs.Common.{◌≡◌, ◌≤◌, ◌<◌, suc, zero, refl, subst, Bool, ℕ, List, [], ◌∷◌, length, Option, Some, None, arith}
use Rattle.std.specs.Prelude.{slice_index_or}
use Rattle.tlb_syntax.specs.Lexeme.{Lexeme}
use Rattle.tlb_syntax.specs.Tree.{ExprView, ExprList, ItemView, ItemList, TypeView, TagView, ConstructorView, SchemaView}
use Rattle.tlb_syntax.specs.Written.{standard}
use Rattle.tlb_syntax.specs.Grammar.{Count, Bounds, Spends, freely, one_less, Heads, by_name, by_blank, Tagged, tagged, untagged, Term, Terms, Apply, Product, Sum, Addends, Typed, AnItem, Items, Params, Declared, Declaration, Declarations, a_number, a_name, a_hash, an_output, a_reference, a_paren, a_record, no_terms, a_term, of_name, of_bits, of_below, of_up_to, of_term, one_factor, two_factors, a_sum, no_addend, an_addend, always, on_number, on_bit, of_numbers, of_types, a_check, a_field, a_bare_field, no_item, one_item, no_param, a_param, a_declaration, of_ordinary, of_exotic, no_declaration, one_more}
use Rattle.tlb_grammar.specs.Canonical.{IsWritten}
use Rattle.tlb_grammar.proofs.CanonicalTrees.{IsWordOrBlank, IsTag, exprs_count, items_count, IsExpr, AreExprs, IsType, IsItem, AreItems, IsConstructor}
use Rattle.tlb_grammar.proofs.CanonicalWritten.{Within}
use Rattle.tlb_grammar.proofs.CanonicalMeant.{IsMeant, AreMeant, text_meant}

none_within : (k : Count) → Within k 0
none_within None = tt
none_within (Some k) = omega arith

one_within : {k left : Count} → Spends k left → (n : ℕ) → Within left n → Within k (suc n)
one_within freely n h = tt
one_within one_less n h = omega arith

-- at most 255 items
abbrev IsStandard : Bounds → Type 0
IsStandard m = m.items ≡ Some 255

item_count : (m : Bounds) (n : ℕ) → IsStandard m → Within m.items n → n ≤ 255
item_count m n b h = let P : Count → Type 0 = λ k. Within k n in subst P b h

headed : {h : Lexeme} {x : Option (List ℕ)} → Heads h x → IsMeant h → IsWordOrBlank x
headed by_name p = p
headed by_blank p = tt

mutual
  term_proper : {m : Bounds} {d : Count} {s : List Lexeme} {e : ExprView} {r : List Lexeme} → Term m d s e r
      → IsStandard m → AreMeant s → IsExpr e × AreMeant r
  term_proper a_number b p = (p.0, p.1)
  term_proper a_name b p = ((p.0, tt), p.1)
  term_proper a_hash b p = (tt, p.1)
  term_proper (an_output sp t) b p = term_proper t b p.1
  term_proper (a_reference sp t) b p = term_proper t b p.1
  term_proper (a_paren sp t) b p = let q = sum_proper t b p.1 in (q.0, q.1.1)
  term_proper {m = m} (a_record {is = is} sp t) b p = let q = items_proper t b p.1 in
      ((item_count m (items_count is) b q.0, q.1), q.2.1)

  terms_proper : {m : Bounds} {d : Count} {s : List Lexeme} {es : ExprList} {r : List Lexeme} → Terms m d s es r
      → IsStandard m → AreMeant s → AreExprs es × AreMeant r
  terms_proper no_terms b p = (tt, p)
  terms_proper (a_term t ts) b p = let q = term_proper t b p in let u = terms_proper ts b q.1 in ((q.0, u.0), u.1)

  apply_proper : {m : Bounds} {d : Count} {s : List Lexeme} {e : ExprView} {r : List Lexeme} → Apply m d s e r
      → IsStandard m → AreMeant s → IsExpr e × AreMeant r
  apply_proper (of_name ts) b p = let q = terms_proper ts b p.1 in ((p.0, q.0), q.1)
  apply_proper (of_bits t) b p = let q = term_proper t b p.1 in ((tt, (q.0, tt)), q.1)
  apply_proper (of_below t) b p = let q = term_proper t b p.1 in ((tt, (q.0, tt)), q.1)
  apply_proper (of_up_to t) b p = let q = term_proper t b p.1 in ((tt, (q.0, tt)), q.1)
  apply_proper (of_term t) b p = term_proper t b p

  product_proper : {m : Bounds} {d : Count} {s : List Lexeme} {e : ExprView} {r : List Lexeme} → Product m d s e r
      → IsStandard m → AreMeant s → IsExpr e × AreMeant r
  product_proper (one_factor t) b p = apply_proper t b p
  product_proper (two_factors t u) b p = let q = apply_proper t b p in let v = apply_proper u b q.1.1 in
      ((q.0, v.0), v.1)

  sum_proper : {m : Bounds} {d : Count} {s : List Lexeme} {e : ExprView} {r : List Lexeme} → Sum m d s e r
      → IsStandard m → AreMeant s → IsExpr e × AreMeant r
  sum_proper (a_sum t u) b p = let q = product_proper t b p in addends_proper u b q.0 q.1

  addends_proper : {m : Bounds} {d : Count} {a : ExprView} {s : List Lexeme} {e : ExprView} {r : List Lexeme}
      → Addends m d a s e r → IsStandard m → IsExpr a → AreMeant s → IsExpr e × AreMeant r
  addends_proper no_addend b h p = (h, p)
  addends_proper (an_addend t u) b h p = let q = product_proper t b p.1 in addends_proper u b (h, q.0) q.1

  type_proper : {m : Bounds} {d : Count} {s : List Lexeme} {t : TypeView} {r : List Lexeme} → Typed m d s t r
      → IsStandard m → AreMeant s → IsType t × AreMeant r
  type_proper (always t) b p = term_proper t b p
  type_proper (on_number t u) b p = let q = term_proper t b p in let v = term_proper u b q.1.1 in ((q.0, v.0), v.1)
  type_proper (on_bit le t u) b p = let q = term_proper t b p in let v = term_proper u b q.1.1.1.1 in
      ((le, q.0, v.0), v.1)

  item_proper : {m : Bounds} {d : Count} {s : List Lexeme} {i : ItemView} {r : List Lexeme} → AnItem m d s i r
      → IsStandard m → AreMeant s → IsItem i × AreMeant r
  item_proper of_numbers b p = (p.1.0, p.1.1.1.1.1)
  item_proper of_types b p = (p.1.0, p.1.1.1.1.1)
  item_proper (a_check c t u) b p = let q = sum_proper t b p.1 in let v = sum_proper u b q.1.1 in ((q.0, v.0), v.1.1)
  item_proper (a_field h t) b p = let q = type_proper t b p.1.1 in ((headed h p.0, q.0), q.1)
  item_proper (a_bare_field t) b p = let q = type_proper t b p in ((tt, q.0), q.1)

  items_proper : {m : Bounds} {d k : Count} {s : List Lexeme} {is : ItemList} {r : List Lexeme} → Items m d k s is r
      → IsStandard m → AreMeant s → Within k (items_count is) × AreItems is × AreMeant r
  items_proper {k = k} no_item b p = (none_within k, tt, p)
  items_proper (one_item {is = is} sp t u) b p =
      let q = item_proper t b p in
      let v = items_proper u b q.1 in
      (one_within sp (items_count is) v.0, (q.0, v.1), v.2)

params_proper : {m : Bounds} {k : Count} {s : List Lexeme} {es : ExprList} {r : List Lexeme} → Params m k s es r
    → IsStandard m → AreMeant s → Within k (exprs_count es) × AreExprs es × AreMeant r
params_proper {k = k} no_param b p = (none_within k, tt, p)
params_proper (a_param {es = es} sp t u) b p =
    let q = term_proper t b p in
    let v = params_proper u b q.1 in
    (one_within sp (exprs_count es) v.0, (q.0, v.1), v.2)

tag_proper : {s : List Lexeme} {t : TagView} {r : List Lexeme} → Tagged s t r → AreMeant s → IsTag t × AreMeant r
tag_proper tagged p = (p.0, p.1)
tag_proper untagged p = (tt, p)

declared_proper : {exotic : Bool} {s : List Lexeme} {c : ConstructorView} {r : List Lexeme}
    → Declared standard exotic s c r → AreMeant s → IsConstructor c × AreMeant r
declared_proper (a_declaration h t is ps) p =
    let mark = tag_proper t p.1 in
    let inside = items_proper is refl mark.1 in
    let counted = params_proper ps refl inside.2.1.1 in (
      record {
        name = headed h p.0;
        tag = mark.0;
        item_count = inside.0;
        items = inside.1;
        result =
            inside.2.1.0;
        param_count = counted.0;
        params = counted.1;
      },
      counted.2.1,
    )

declaration_proper : {s : List Lexeme} {c : ConstructorView} {r : List Lexeme} → Declaration standard s c r → AreMeant s
    → IsConstructor c × AreMeant r
declaration_proper (of_ordinary d) p = declared_proper d p
declaration_proper (of_exotic d) p = declared_proper d p.1

abbrev AreConstructors : SchemaView → Type 0
AreConstructors [] = Unit {0}
AreConstructors (c ∷ cs) = IsConstructor c × AreConstructors cs

schema_proper : {s : List Lexeme} {cs : SchemaView} → Declarations standard s cs → AreMeant s → AreConstructors cs
schema_proper no_declaration p = tt
schema_proper (one_more t u) p = let q = declaration_proper t p in (q.0, schema_proper u q.1)

at_each : (cs : SchemaView) → AreConstructors cs → (k : ℕ) (c : ConstructorView) → k < length cs
    → IsConstructor (slice_index_or cs k c)
at_each [] h k c lt = absurd (omega arith)
at_each (x ∷ xs) h zero c lt = h.0
at_each (x ∷ xs) h (suc k) c lt = at_each xs h.1 k c (omega arith)

-- a constructor that texts write
pub written_proper : (c : ConstructorView) → IsWritten c → IsConstructor c
written_proper c w =
    let t = w.writes in
    let all = schema_proper t.written (text_meant w.text t.tokens t.tokenized) in
    let P : ConstructorView → Type 0 = IsConstructor in
    subst P w.among.2 (at_each w.schema all w.among.0 c w.among.1)
