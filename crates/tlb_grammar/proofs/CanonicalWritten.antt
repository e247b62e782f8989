-- The lexemes of a canonical text are derived from the tree by the productions.
use Rattle.std.proofs.Common.{ℕ, zero, suc, max, ◌≤◌, Bool, true, false, List, [], ◌∷◌, Option, Some, None, arith}
use Rattle.nat_solver.specs.declared.compare.Op.{Op}
use Rattle.nat_solver.specs.declared.compare.Op.TheVariants.{Eq, Lt, Le, Gt, Ge}
use Rattle.tlb_syntax.specs.declared.tree.ParamKind.{ParamKind}
use Rattle.tlb_syntax.specs.declared.tree.ParamKind.TheVariants.{Nat, Ty}
use Rattle.tlb_syntax.specs.declared.sign.Sign.{Sign}
use Rattle.tlb_syntax.specs.declared.sign.Sign.TheVariants.{HashHash, HashLess, HashLessEqual, OpenParen, CloseParen}
use Rattle.tlb_syntax.specs.Lexeme.{Lexeme, sign}
use Rattle.tlb_syntax.specs.Tree.{ExprView, ExprList, ItemView, ItemList, TypeView, TagView, ConstructorView, lit, named, nat32, bits, below, up_to, plus, star, out, ref, group, no_exprs, an_expr, plain, when, when_bit, implicit, check, explicit, no_items, an_item, computed, given}
use Rattle.tlb_syntax.specs.Written.{bounds}
use Rattle.tlb_syntax.specs.Grammar.{Count, Bounds, Spends, freely, one_less, Compares, equal, less, less_equal, greater, greater_equal, Heads, by_name, by_blank, Tagged, tagged, untagged, Term, Terms, Apply, Sum, Typed, AnItem, Items, Params, Declared, Declaration, Declarations, a_number, a_name, a_hash, an_output, a_reference, a_paren, a_record, no_terms, a_term, of_name, of_bits, of_below, of_up_to, of_term, one_factor, two_factors, a_sum, no_addend, an_addend, always, on_number, on_bit, of_numbers, of_types, a_check, a_field, no_item, one_item, no_param, a_param, a_declaration, of_ordinary, of_exotic, no_declaration, one_more}
use Rattle.tlb_grammar.specs.Canonical.{expr_levels, exprs_levels, type_levels, item_levels, items_levels, constructor_levels}
use Rattle.tlb_grammar.proofs.CanonicalTrees.{HasOne, exprs_count, items_count, IsExpr, AreExprs, IsType, IsItem, AreItems, IsConstructor, head, comparing, marked, expr_before, exprs_before, type_before, item_before, items_before, exotic_before, constructor_before}

-- so many are within the count
abbrev pub Within : Count → ℕ → Type 0
Within None n = Unit {0}
Within (Some k) n = n ≤ k

-- at most 255 items of a record and 8 parameters of a result, and so many open levels
abbrev pub leveled : Count → Bounds
leveled top = bounds top (Some 255) (Some 8)

opened : (d : Count) (n : ℕ) → Within d (suc n) → (left : Count) × Spends d left × Within left n
opened None n h = (None, freely, tt)
opened (Some zero) n h = absurd (omega arith)
opened (Some (suc k)) n h = (Some k, one_less, omega arith)

in_left : (d : Count) (a b : ℕ) → Within d (max a b) → Within d a
in_left None a b h = tt
in_left (Some k) a b h = omega arith

in_right : (d : Count) (a b : ℕ) → Within d (max a b) → Within d b
in_right None a b h = tt
in_right (Some k) a b h = omega arith

sum_term : {m : Bounds} {d : Count} {s r : List Lexeme} {e : ExprView} → Term m d s e r → Sum m d s e r
sum_term t = a_sum (one_factor (of_term t)) no_addend

only_term : {m : Bounds} {d : Count} {s r : List Lexeme} {e : ExprView} → Terms m d s (an_expr e no_exprs) r
    → Term m d s e r
only_term (a_term t no_terms) = t

-- what holds of one term's list holds of a list that has one
alone : {m : Bounds} {d : Count} {s r : List Lexeme} (P : ExprList → Type 0)
    → ((e : ExprView) → Term m d s e r → P (an_expr e no_exprs)) → (es : ExprList) → HasOne es → Terms m d s es r → P es
alone P f no_exprs one t = absurd one
alone P f (an_expr e no_exprs) one t = f e (only_term t)
alone P f (an_expr e (an_expr g es)) one t = absurd one

-- the terms after a name or a `##`, `#<` or `#<=` in parentheses
abbrev Inner : Count → ExprList → List Lexeme → Type 0
Inner top es r = (left : Count) → Within left (exprs_levels es) → Terms (leveled top) left
    (exprs_before es (sign CloseParen ∷ r)) es (sign CloseParen ∷ r)

named_term : (x : List ℕ) (es : ExprList) (top d : Count) (r : List Lexeme) → Within d (expr_levels (named x es))
    → Inner top es r → Term (leveled top) d (expr_before (named x es) r) (named x es) r
named_term x no_exprs top d r w f = a_name
named_term x (an_expr e es) top d r w f =
    let o = opened d (exprs_levels (an_expr e es)) w in
    a_paren o.1 (a_sum (one_factor (of_name (f o.0 o.2))) no_addend)

-- one term in parentheses after a symbol that takes one
alone_term : (k : Sign) (make : ExprList → ExprView) (top : Count)
    → ((d : Count) (s r : List Lexeme) (e : ExprView) → Term (leveled top) d s e r
    → Apply (leveled top) d (sign k ∷ s) (make (an_expr e no_exprs)) r)
    → (es : ExprList) (d : Count) (r : List Lexeme) → HasOne es → Within d (suc (exprs_levels es)) → Inner top es r
    → Term (leveled top) d (sign OpenParen ∷ sign k ∷ exprs_before es (sign CloseParen ∷ r)) (make es) r
alone_term k make top apply es d r one w f =
    let o = opened d (exprs_levels es) w in
    let shut = sign CloseParen ∷ r in
    let terms = exprs_before es shut in
    let P : ExprList → Type 0 = λ z. Apply (leveled top) o.0 (sign k ∷ terms) (make z) shut in
    a_paren o.1 (a_sum (one_factor (alone P (λ e t. apply o.0 terms shut e t) es one (f o.0 o.2))) no_addend)

compared : (op : Op) → Compares (comparing op) op
compared Eq = equal
compared Lt = less
compared Le = less_equal
compared Gt = greater
compared Ge = greater_equal

headed : (x : Option (List ℕ)) → Heads (head x) x
headed (Some x) = by_name
headed None = by_blank

implicit_item : (x : List ℕ) (k : ParamKind) (m : Bounds) (d : Count) (r : List Lexeme)
    → AnItem m d (item_before (implicit x k) r) (implicit x k) r
implicit_item x Nat m d r = of_numbers
implicit_item x Ty m d r = of_types

mutual
  pub term_written : (e : ExprView) (top d : Count) (r : List Lexeme) → IsExpr e → Within d (expr_levels e)
      → Term (leveled top) d (expr_before e r) e r
  term_written (lit n) top d r p w = a_number
  term_written (named x es) top d r p w =
      named_term x es top d r w (λ left h. terms_written es top left (sign CloseParen ∷ r) p.1 h)
  term_written nat32 top d r p w = a_hash
  term_written (bits es) top d r p w =
      alone_term HashHash bits top (λ d s r e t. of_bits t) es d r p.0 w
      (λ left h. terms_written es top left (sign CloseParen ∷ r) p.1 h)
  term_written (below es) top d r p w =
      alone_term HashLess below top (λ d s r e t. of_below t) es d r p.0 w
      (λ left h. terms_written es top left (sign CloseParen ∷ r) p.1 h)
  term_written (up_to es) top d r p w =
      alone_term HashLessEqual up_to top (λ d s r e t. of_up_to t) es d r p.0 w
      (λ left h. terms_written es top left (sign CloseParen ∷ r) p.1 h)
  term_written (plus a b) top d r p w =
      let o = opened d (max (expr_levels a) (expr_levels b)) w in
      let s = term_written a top o.0 _ p.0 (in_left o.0 (expr_levels a) (expr_levels b) o.2) in
      let t = term_written b top o.0 _ p.1 (in_right o.0 (expr_levels a) (expr_levels b) o.2) in
      a_paren o.1 (a_sum (one_factor (of_term s)) (an_addend (one_factor (of_term t)) no_addend))
  term_written (star a b) top d r p w =
      let o = opened d (max (expr_levels a) (expr_levels b)) w in
      let s = term_written a top o.0 _ p.0 (in_left o.0 (expr_levels a) (expr_levels b) o.2) in
      let t = term_written b top o.0 _ p.1 (in_right o.0 (expr_levels a) (expr_levels b) o.2) in
      a_paren o.1 (a_sum (two_factors (of_term s) (of_term t)) no_addend)
  term_written (out e) top d r p w = let o = opened d (expr_levels e) w in
      an_output o.1 (term_written e top o.0 r p o.2)
  term_written (ref e) top d r p w = let o = opened d (expr_levels e) w in
      a_reference o.1 (term_written e top o.0 r p o.2)
  term_written (group is) top d r p w = let o = opened d (items_levels is) w in
      a_record o.1 (items_written is top o.0 (Some 255) _ p.1 o.2 p.0)

  pub terms_written : (es : ExprList) (top d : Count) (r : List Lexeme) → AreExprs es → Within d (exprs_levels es)
      → Terms (leveled top) d (exprs_before es r) es r
  terms_written no_exprs top d r p w = no_terms
  terms_written (an_expr e es) top d r p w =
      a_term (term_written e top d (exprs_before es r) p.0 (in_left d (expr_levels e) (exprs_levels es) w))
      (terms_written es top d r p.1 (in_right d (expr_levels e) (exprs_levels es) w))

  pub type_written : (t : TypeView) (top d : Count) (r : List Lexeme) → IsType t → Within d (type_levels t)
      → Typed (leveled top) d (type_before t r) t r
  type_written (plain e) top d r p w = always (term_written e top d r p w)
  type_written (when c e) top d r p w =
      on_number (term_written c top d _ p.0 (in_left d (expr_levels c) (expr_levels e) w))
      (term_written e top d r p.1 (in_right d (expr_levels c) (expr_levels e) w))
  type_written (when_bit c k e) top d r p w =
      on_bit p.0 (term_written c top d _ p.1 (in_left d (expr_levels c) (expr_levels e) w))
      (term_written e top d r p.2 (in_right d (expr_levels c) (expr_levels e) w))

  pub item_written : (i : ItemView) (top d : Count) (r : List Lexeme) → IsItem i → Within d (item_levels i)
      → AnItem (leveled top) d (item_before i r) i r
  item_written (implicit x k) top d r p w = implicit_item x k (leveled top) d r
  item_written (check a op b) top d r p w =
      a_check (compared op) (sum_term (term_written a top d _ p.0 (in_left d (expr_levels a) (expr_levels b) w)))
      (sum_term (term_written b top d _ p.1 (in_right d (expr_levels a) (expr_levels b) w)))
  item_written (explicit x t) top d r p w = a_field (headed x) (type_written t top d r p.1 w)

  pub items_written : (is : ItemList) (top d k : Count) (r : List Lexeme) → AreItems is → Within d (items_levels is)
      → Within k (items_count is) → Items (leveled top) d k (items_before is r) is r
  items_written no_items top d k r p w short = no_item
  items_written (an_item i is) top d k r p w short =
      let o = opened k (items_count is) short in
      one_item o.1 (item_written i top d (items_before is r) p.0 (in_left d (item_levels i) (items_levels is) w))
      (items_written is top d o.0 r p.1 (in_right d (item_levels i) (items_levels is) w) o.2)

params_written : (es : ExprList) (top k : Count) (r : List Lexeme) → AreExprs es → Within top (exprs_levels es)
    → Within k (exprs_count es) → Params (leveled top) k (exprs_before es r) es r
params_written no_exprs top k r p w short = no_param
params_written (an_expr e es) top k r p w short =
    let o = opened k (exprs_count es) short in
    a_param o.1 (term_written e top top (exprs_before es r) p.0 (in_left top (expr_levels e) (exprs_levels es) w))
    (params_written es top o.0 r p.1 (in_right top (expr_levels e) (exprs_levels es) w) o.2)

tag_written : (t : TagView) (r : List Lexeme) → Tagged (marked t r) t r
tag_written computed r = untagged
tag_written (given b) r = tagged

as_declaration : (exotic : Bool) {m : Bounds} {s : List Lexeme} {c : ConstructorView} {r : List Lexeme}
    → Declared m exotic s c r → Declaration m (exotic_before exotic s) c r
as_declaration false d = of_ordinary d
as_declaration true d = of_exotic d

declaration_written : (c : ConstructorView) (top : Count) (r : List Lexeme) → IsConstructor c
    → Within top (constructor_levels c) → Declaration (leveled top) (constructor_before c r) c r
declaration_written c top r p w =
    let i = in_left top (items_levels c.items) (exprs_levels c.params) w in
    let q = in_right top (items_levels c.items) (exprs_levels c.params) w in
    as_declaration c.exotic (a_declaration (headed c.name) (tag_written c.tag _)
    (items_written c.items top top (Some 255) _ p.items i p.item_count)
    (params_written c.params top (Some 8) _ p.params q p.param_count))

-- the lexemes of the canonical text and a semicolon derive the constructor
pub canonical_written : (c : ConstructorView) (top : Count) → IsConstructor c → Within top (constructor_levels c)
    → Declarations (leveled top) (constructor_before c []) (c ∷ [])
canonical_written c top p w = one_more (declaration_written c top [] p w) no_declaration
