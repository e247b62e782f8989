-- What the productions write is within the limits.
use Rattle.std.proofs.Common.{◌≤◌, ◌+◌, ℕ, List, refl, arith}
use Rattle.std.specs.Prelude.{Bool, Option, Some, None, max}
use Rattle.tlb_syntax.specs.Lexeme.{Lexeme}
use Rattle.tlb_syntax.specs.Tree.{ExprView, ExprList, ItemView, ItemList, TypeView, TagView, ConstructorView, SchemaView, lit, named, nat32, bits, below, up_to, plus, star, out, ref, group, no_exprs, an_expr}
use Rattle.tlb_syntax.specs.Grammar.{Count, Spends, freely, one_less, Heads, by_name, by_blank, Tagged, tagged, untagged, Term, Terms, Apply, Product, Sum, Addends, Typed, AnItem, Items, Params, Declared, Declaration, Declarations, TypeWord, a_number, a_name, a_hash, an_output, a_reference, a_paren, a_record, no_terms, a_term, of_name, of_bits, of_below, of_up_to, of_term, one_factor, two_factors, a_sum, no_addend, an_addend, always, on_number, on_bit, of_numbers, of_types, a_check, a_field, a_bare_field, no_item, one_item, no_param, a_param, a_declaration, of_ordinary, of_exotic, no_declaration, one_more}
use Rattle.tlb_syntax.specs.Written.{standard, WithinCounts}
use Rattle.tlb_syntax.specs.Limits.{Precedence, in_term, in_application, in_product, in_sum, levels, levels_of, type_levels, item_levels, levels_in, IsWordOrNone, IsTag, IsExpr, AreExprs, IsType, IsItem, AreItems, expr_count, item_count, IsConstructor, AreConstructors, IsWithinLimits, IsWordWithinLimits, IsOfText, AreOfText}

-- at most so many, where there is a bound
abbrev pub AtMost : Count → ℕ → Type 0
AtMost None n = Unit {0}
AtMost (Some k) n = n ≤ k

less : (d : Count) (a b : ℕ) → a ≤ b → AtMost d b → AtMost d a
less None a b h m = tt
less (Some k) a b h m = omega arith

both : (d : Count) (a b : ℕ) → AtMost d a → AtMost d b → AtMost d (max a b)
both None a b h m = tt
both (Some k) a b h m = omega arith

one-more : (d left : Count) (n : ℕ) → Spends d left → AtMost left n → AtMost d (n + 1)
one-more d left n freely h = tt
one-more d left n (one_less {n = k}) h = omega arith

zero-levels : (d : Count) → AtMost d 0
zero-levels None = tt
zero-levels (Some k) = omega arith

-- ---- an expression at another place

name-levels : (x : List ℕ) (es : ExprList) → levels in_application (named x es) ≤ levels_of es
name-levels x no_exprs = omega arith
name-levels x (an_expr e es) = omega arith

in-parens : (e : ExprView) → levels in_term e ≤ levels in_sum e + 1
in-parens (lit n) = omega arith
in-parens (named x no_exprs) = omega arith
in-parens (named x (an_expr e es)) = omega arith
in-parens nat32 = omega arith
in-parens (bits es) = omega arith
in-parens (below es) = omega arith
in-parens (up_to es) = omega arith
in-parens (plus a b) = omega arith
in-parens (star a b) = omega arith
in-parens (out e) = omega arith
in-parens (ref e) = omega arith
in-parens (group is) = omega arith

as-application : (e : ExprView) → levels in_application e ≤ levels in_term e
as-application (lit n) = omega arith
as-application (named x no_exprs) = omega arith
as-application (named x (an_expr e es)) = omega arith
as-application nat32 = omega arith
as-application (bits es) = omega arith
as-application (below es) = omega arith
as-application (up_to es) = omega arith
as-application (plus a b) = omega arith
as-application (star a b) = omega arith
as-application (out e) = omega arith
as-application (ref e) = omega arith
as-application (group is) = omega arith

as-product : (e : ExprView) → levels in_product e ≤ levels in_application e
as-product (lit n) = omega arith
as-product (named x no_exprs) = omega arith
as-product (named x (an_expr e es)) = omega arith
as-product nat32 = omega arith
as-product (bits es) = omega arith
as-product (below es) = omega arith
as-product (up_to es) = omega arith
as-product (plus a b) = omega arith
as-product (star a b) = omega arith
as-product (out e) = omega arith
as-product (ref e) = omega arith
as-product (group is) = omega arith

as-sum : (e : ExprView) → levels in_sum e ≤ levels in_product e
as-sum (lit n) = omega arith
as-sum (named x no_exprs) = omega arith
as-sum (named x (an_expr e es)) = omega arith
as-sum nat32 = omega arith
as-sum (bits es) = omega arith
as-sum (below es) = omega arith
as-sum (up_to es) = omega arith
as-sum (plus a b) = omega arith
as-sum (star a b) = omega arith
as-sum (out e) = omega arith
as-sum (ref e) = omega arith
as-sum (group is) = omega arith

-- ---- what a production leaves and writes

record Writes (place : Precedence) (d : Count) (e : ExprView) (r : List Lexeme) : Type 0 where
  rest : AreOfText r
  shallow : AtMost d (levels place e)
  formed : IsExpr e

record WritesAll (d : Count) (es : ExprList) (r : List Lexeme) : Type 0 where
  rest : AreOfText r
  shallow : AtMost d (levels_of es)
  formed : AreExprs es

record WritesType (d : Count) (t : TypeView) (r : List Lexeme) : Type 0 where
  rest : AreOfText r
  shallow : AtMost d (type_levels t)
  formed : IsType t

record WritesItem (d : Count) (i : ItemView) (r : List Lexeme) : Type 0 where
  rest : AreOfText r
  shallow : AtMost d (item_levels i)
  formed : IsItem i

record WritesItems (d k : Count) (is : ItemList) (r : List Lexeme) : Type 0 where
  rest : AreOfText r
  shallow : AtMost d (levels_in is)
  counted : AtMost k (item_count is)
  formed : AreItems is

heads : {l : Lexeme} {x : Option (List ℕ)} → Heads l x → IsOfText l → IsWordOrNone x
heads by_name h = h
heads by_blank h = tt

moved : (p q : Precedence) (d : Count) (e : ExprView) (r : List Lexeme) → levels q e ≤ levels p e → Writes p d e r
    → Writes q d e r
moved p q d e r h w = record { rest = w.rest; shallow = less d (levels q e) (levels p e) h w.shallow; formed = w.formed }

alone : (e : ExprView) → levels_of (an_expr e no_exprs) ≤ levels in_term e
alone e = omega arith

mutual
  term : {d : Count} {s r : List Lexeme} {e : ExprView} → Term standard d s e r → AreOfText s → Writes in_term d e r
  term {d} (a_number {n = n}) h = record { rest = h.1; shallow = zero-levels d; formed = h.0 }
  term {d} a_name h = record { rest = h.1; shallow = zero-levels d; formed = (h.0, tt) }
  term {d} a_hash h = record { rest = h.1; shallow = zero-levels d; formed = tt }
  term {d} (an_output {left = left} {e = e} p t) h =
      let w = term t h.1 in
      record { rest = w.rest; shallow = one-more d left (levels in_term e) p w.shallow; formed = w.formed }
  term {d} (a_reference {left = left} {e = e} p t) h =
      let w = term t h.1 in
      record { rest = w.rest; shallow = one-more d left (levels in_term e) p w.shallow; formed = w.formed }
  term {d} (a_paren {left = left} {e = e} p t) h =
      let w = sum t h.1 in
      record { rest = w.rest.1; shallow = less d (levels in_term e) (levels in_sum e + 1) (in-parens e) (one-more d left (levels in_sum e) p w.shallow); formed = w.formed }
  term {d} (a_record {left = left} {is = is} p t) h =
      let w = items t h.1 in
      record { rest = w.rest.1; shallow = one-more d left (levels_in is) p w.shallow; formed = (w.counted, w.formed) }

  terms : {d : Count} {s r : List Lexeme} {es : ExprList} → Terms standard d s es r → AreOfText s → WritesAll d es r
  terms {d} no_terms h = record { rest = h; shallow = zero-levels d; formed = tt }
  terms {d} (a_term {e = e} {es = es} t ts) h =
      let w = term t h in
      let ws = terms ts w.rest in
      record { rest = ws.rest; shallow = both d (levels in_term e) (levels_of es) w.shallow ws.shallow; formed = (w.formed, ws.formed) }

  apply : {d : Count} {s r : List Lexeme} {e : ExprView} → Apply standard d s e r → AreOfText s
      → Writes in_application d e r
  apply {d} (of_name {x = x} {es = es} ts) h =
      let w = terms ts h.1 in
      record { rest = w.rest; shallow = less d (levels in_application (named x es)) (levels_of es) (name-levels x es) w.shallow; formed = (h.0, w.formed) }
  apply {d} (of_bits {e = e} t) h =
      let w = term t h.1 in
      record { rest = w.rest; shallow = less d (levels_of (an_expr e no_exprs)) (levels in_term e) (alone e) w.shallow; formed = (refl, (w.formed, tt)) }
  apply {d} (of_below {e = e} t) h =
      let w = term t h.1 in
      record { rest = w.rest; shallow = less d (levels_of (an_expr e no_exprs)) (levels in_term e) (alone e) w.shallow; formed = (refl, (w.formed, tt)) }
  apply {d} (of_up_to {e = e} t) h =
      let w = term t h.1 in
      record { rest = w.rest; shallow = less d (levels_of (an_expr e no_exprs)) (levels in_term e) (alone e) w.shallow; formed = (refl, (w.formed, tt)) }
  apply {d} {r = r} {e = e} (of_term t) h = moved in_term in_application d e r (as-application e) (term t h)

  product : {d : Count} {s r : List Lexeme} {e : ExprView} → Product standard d s e r → AreOfText s
      → Writes in_product d e r
  product {d} {r = r} {e = e} (one_factor t) h = moved in_application in_product d e r (as-product e) (apply t h)
  product {d} (two_factors {a = a} {b = b} t u) h =
      let w = apply t h in
      let v = apply u w.rest.1 in
      record { rest = v.rest; shallow = both d (levels in_application a) (levels in_application b) w.shallow v.shallow; formed = (w.formed, v.formed) }

  sum : {d : Count} {s r : List Lexeme} {e : ExprView} → Sum standard d s e r → AreOfText s → Writes in_sum d e r
  sum {d} (a_sum {mid = mid} {a = a} t us) h = addends us (moved in_product in_sum d a mid (as-sum a) (product t h))

  addends : {d : Count} {a e : ExprView} {s r : List Lexeme} → Addends standard d a s e r → Writes in_sum d a s
      → Writes in_sum d e r
  addends no_addend w = w
  addends {d} (an_addend {mid = mid} {a = a} {b = b} t us) w =
      let v = product t w.rest.1 in
      addends us (record { rest = v.rest; shallow = both d (levels in_sum a) (levels in_product b) w.shallow v.shallow; formed = (w.formed, v.formed) })

  typed : {d : Count} {s r : List Lexeme} {t : TypeView} → Typed standard d s t r → AreOfText s → WritesType d t r
  typed (always t) h =
      let w = term t h in
      record { rest = w.rest; shallow = w.shallow; formed = w.formed }
  typed {d} (on_number {c = c} {e = e} t u) h =
      let w = term t h in
      let v = term u w.rest.1 in
      record { rest = v.rest; shallow = both d (levels in_term c) (levels in_term e) w.shallow v.shallow; formed = (w.formed, v.formed) }
  typed {d} (on_bit {c = c} {e = e} counted t u) h =
      let w = term t h in
      let v = term u w.rest.1.1.1 in
      record { rest = v.rest; shallow = both d (levels in_term c) (levels in_term e) w.shallow v.shallow; formed = (w.formed, counted, v.formed) }

  item : {d : Count} {s r : List Lexeme} {i : ItemView} → AnItem standard d s i r → AreOfText s → WritesItem d i r
  item {d} of_numbers h = record { rest = h.1.1.1.1.1; shallow = zero-levels d; formed = h.1.0 }
  item {d} of_types h = record { rest = h.1.1.1.1.1; shallow = zero-levels d; formed = h.1.0 }
  item {d} (a_check {a = a} {b = b} c t u) h =
      let w = sum t h.1 in
      let v = sum u w.rest.1 in
      record { rest = v.rest.1; shallow = both d (levels in_sum a) (levels in_sum b) w.shallow v.shallow; formed = (w.formed, v.formed) }
  item (a_field x t) h =
      let w = typed t h.1.1 in
      record { rest = w.rest; shallow = w.shallow; formed = (heads x h.0, w.formed) }
  item (a_bare_field t) h =
      let w = typed t h in
      record { rest = w.rest; shallow = w.shallow; formed = (tt, w.formed) }

  items : {d k : Count} {s r : List Lexeme} {is : ItemList} → Items standard d k s is r → AreOfText s
      → WritesItems d k is r
  items {d} {k} no_item h = record { rest = h; shallow = zero-levels d; counted = zero-levels k; formed = tt }
  items {d} {k} (one_item {left = left} {i = i} {is = is} p t ts) h =
      let w = item t h in
      let ws = items ts w.rest in
      record { rest = ws.rest; shallow = both d (item_levels i) (levels_in is) w.shallow ws.shallow; counted = one-more k left (item_count is) p ws.counted; formed = (w.formed, ws.formed) }

-- ---- declarations

record WritesParams (k : Count) (es : ExprList) (r : List Lexeme) : Type 0 where
  rest : AreOfText r
  shallow : levels_of es ≤ 64
  counted : AtMost k (expr_count es)
  formed : AreExprs es

params : {k : Count} {s r : List Lexeme} {es : ExprList} → Params standard k s es r → AreOfText s → WritesParams k es r
params {k} no_param h = record { rest = h; shallow = omega arith; counted = zero-levels k; formed = tt }
params {k} (a_param {left = left} {e = e} {es = es} p t ts) h =
    let w = term t h in
    let ws = params ts w.rest in
    record { rest = ws.rest; shallow = both (Some 64) (levels in_term e) (levels_of es) w.shallow ws.shallow; counted = one-more k left (expr_count es) p ws.counted; formed = (w.formed, ws.formed) }

tags : {s r : List Lexeme} {t : TagView} → Tagged s t r → AreOfText s → IsTag t × AreOfText r
tags tagged h = (h.0, h.1)
tags untagged h = (tt, h)

record WritesConstructor (c : ConstructorView) (r : List Lexeme) : Type 0 where
  rest : AreOfText r
  formed : IsConstructor c

declared : {exotic : Bool} {s r : List Lexeme} {c : ConstructorView} → Declared standard exotic s c r → AreOfText s
    → WritesConstructor c r
declared (a_declaration x t is ps) h =
    let g = tags t h.1 in
    let w = items is g.1 in
    let p = params ps w.rest.1.1 in
    record {
      rest = p.rest.1;
      formed = record {
        name = heads x h.0;
        tag = g.0;
        items = w.formed;
        item_count = w.counted;
        item_levels = w.shallow;
        type_name = w.rest.1.0;
        params = p.formed;
        param_count = p.counted;
        param_levels = p.shallow;
      };
    }

declaration : {s r : List Lexeme} {c : ConstructorView} → Declaration standard s c r → AreOfText s
    → WritesConstructor c r
declaration (of_ordinary d) h = declared d h
declaration (of_exotic d) h = declared d h.1

declarations : {s : List Lexeme} {cs : SchemaView} → Declarations standard s cs → AreOfText s → AreConstructors cs
declarations no_declaration h = tt
declarations (one_more d ds) h =
    let w = declaration d h in
    (w.formed, declarations ds w.rest)

pub within_limits : (ls : List Lexeme) (s : SchemaView) → Declarations standard ls s → AreOfText ls → WithinCounts s
    → IsWithinLimits s
within_limits ls s d h counted = record { counts = counted; constructors = declarations d h }

pub word_within : (ls : List Lexeme) (e : ExprView) → TypeWord standard ls e → AreOfText ls → IsWordWithinLimits e
word_within ls e d h = let w = sum d h in record { expression = w.formed; levels = w.shallow }
