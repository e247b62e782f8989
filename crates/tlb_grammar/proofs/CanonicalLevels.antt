-- The levels that lexemes open, reported by the lexemes alone: no derivation opens fewer, and a canonical text opens so
-- many.
use Rattle.std.proofs.Common.{◌≡◌, ◌≤◌, ◌+◌, suc, max, sym, refl, subst, Bool, true, false, ℕ, List, [], ◌∷◌, length, Option, Some, None, arith}
use Rattle.nat_solver.specs.declared.compare.Op.{Op}
use Rattle.nat_solver.specs.declared.compare.Op.TheVariants.{Eq, Lt, Le, Gt, Ge}
use Rattle.tlb_syntax.specs.declared.tree.ParamKind.{ParamKind}
use Rattle.tlb_syntax.specs.declared.tree.ParamKind.TheVariants.{Nat, Ty}
use Rattle.tlb_syntax.specs.declared.sign.Sign.{Sign}
use Rattle.tlb_syntax.specs.declared.sign.Sign.TheVariants.{Hash, HashHash, HashLess, HashLessEqual, Colon, Semicolon, Equal, OpenParen, CloseParen, OpenBrace, CloseBrace, OpenBracket, CloseBracket, Caret, Tilde, Question, Dot, Asterisk, Plus, Bang}
use Rattle.tlb_syntax.specs.Lexeme.{Lexeme, word, blank, number, tag, sign, other}
use Rattle.tlb_syntax.specs.Tree.{ExprView, ExprList, ItemView, ItemList, TypeView, TagView, ConstructorView, SchemaView, lit, named, nat32, bits, below, up_to, plus, star, out, ref, group, no_exprs, an_expr, plain, when, when_bit, implicit, check, explicit, no_items, an_item, computed, given}
use Rattle.tlb_syntax.specs.Written.{standard}
use Rattle.tlb_syntax.specs.Grammar.{Count, Bounds, Spends, freely, one_less, Compares, equal, less, less_equal, greater, greater_equal, Heads, by_name, by_blank, Tagged, tagged, untagged, Term, Terms, Apply, Product, Sum, Addends, Typed, AnItem, Items, Params, Declared, Declaration, Declarations, a_number, a_name, a_hash, an_output, a_reference, a_paren, a_record, no_terms, a_term, of_name, of_bits, of_below, of_up_to, of_term, one_factor, two_factors, a_sum, no_addend, an_addend, always, on_number, on_bit, of_numbers, of_types, a_check, a_field, a_bare_field, no_item, one_item, no_param, a_param, a_declaration, of_ordinary, of_exotic, no_declaration, one_more}
use Rattle.tlb_grammar.specs.Canonical.{expr_levels, exprs_levels, type_levels, item_levels, items_levels, constructor_levels}
use Rattle.tlb_grammar.proofs.CanonicalTrees.{head, comparing, kind_lexeme, marked, expr_before, exprs_before, type_before, item_before, items_before, exotic_before, constructor_before}

-- what is open: brackets until they are closed, and prefixes until their term ends
data Open : Type 0 where
  bracket : Open
  prefix : Open

-- after a term
abbrev term_ended : List Open → List Open
term_ended [] = []
term_ended (bracket ∷ st) = bracket ∷ st
term_ended (prefix ∷ st) = term_ended st

-- after a closing bracket
abbrev shut : List Open → List Open
shut [] = []
shut (o ∷ st) = term_ended st

abbrev by_sign : Sign → List Open → List Open
by_sign OpenParen st = bracket ∷ st
by_sign OpenBracket st = bracket ∷ st
by_sign Tilde st = prefix ∷ st
by_sign Caret st = prefix ∷ st
by_sign CloseParen st = shut st
by_sign CloseBracket st = shut st
by_sign Hash st = term_ended st
by_sign _ st = st

abbrev after : Lexeme → List Open → List Open
after (word x) st = term_ended st
after (number n) st = term_ended st
after (sign s) st = by_sign s st
after blank st = st
after (tag b) st = st
after other st = st

-- the most that is open at once
abbrev peak : List Open → List Lexeme → ℕ
peak st [] = length st
peak st (l ∷ ls) = max (length st) (peak (after l st) ls)

record Fits (n : ℕ) (st : List Open) (ls : List Lexeme) : Type 0 where
  most : peak st ls ≤ n

-- ---- derivations

-- what is open and may still be opened is at most n
abbrev Room : Count → List Open → ℕ → Type 0
Room None st n = ⊥
Room (Some k) st n = length st + k ≤ n

inside : {d left : Count} → Spends d left → (o : Open) (st : List Open) (n : ℕ) → Room d st n → Room left (o ∷ st) n
inside freely o st n h = absurd h
inside one_less o st n h = omega arith

within : (d : Count) (st : List Open) (n : ℕ) → Room d st n → length st ≤ n
within None st n h = absurd h
within (Some k) st n h = omega arith

next : {l : Lexeme} {ls : List Lexeme} (d : Count) (st : List Open) (n : ℕ) → Room d st n → Fits n (after l st) ls
    → Fits n st (l ∷ ls)
next d st n h p = let le = within d st n h in let more = p.most in record { most = omega arith }

-- no term stands open
abbrev IsBase : List Open → Type 0
IsBase st = term_ended st ≡ st

along : (st to : List Open) {ls : List Lexeme} {n : ℕ} → to ≡ st → Fits n st ls → Fits n to ls
along st to {ls} {n} e p = let P : List Open → Type 0 = λ z. Fits n z ls in subst P (sym e) p

based : (st : List Open) {ls : List Lexeme} {n : ℕ} → IsBase st → Fits n st ls → Fits n (term_ended st) ls
based st b p = along st (term_ended st) b p

compared_peak : {c : Sign} {op : Op} → Compares c op → (st : List Open) → by_sign c st ≡ st
compared_peak equal st = refl
compared_peak less st = refl
compared_peak less_equal st = refl
compared_peak greater st = refl
compared_peak greater_equal st = refl

headed_peak : {h : Lexeme} {x : Option (List ℕ)} → Heads h x → (st : List Open) → IsBase st → after h st ≡ st
headed_peak by_name st b = b
headed_peak by_blank st b = refl

mutual
  term_peak : {m : Bounds} {d : Count} {s : List Lexeme} {e : ExprView} {r : List Lexeme} → Term m d s e r
      → (n : ℕ) (st : List Open) → Room d st n → Fits n (term_ended st) r → Fits n st s
  term_peak {d = d} a_number n st h p = next d st n h p
  term_peak {d = d} a_name n st h p = next d st n h p
  term_peak {d = d} a_hash n st h p = next d st n h p
  term_peak {d = d} (an_output sp t) n st h p = next d st n h (term_peak t n (prefix ∷ st) (inside sp prefix st n h) p)
  term_peak {d = d} (a_reference sp t) n st h p =
      next d st n h (term_peak t n (prefix ∷ st) (inside sp prefix st n h) p)
  term_peak {d = d} (a_paren {left = left} sp t) n st h p =
      let k = inside sp bracket st n h in
      next d st n h (sum_peak t n (bracket ∷ st) refl k (next left (bracket ∷ st) n k p))
  term_peak {d = d} (a_record {left = left} sp t) n st h p =
      let k = inside sp bracket st n h in
      next d st n h (items_peak t n (bracket ∷ st) refl k (next left (bracket ∷ st) n k p))

  terms_peak : {m : Bounds} {d : Count} {s : List Lexeme} {es : ExprList} {r : List Lexeme} → Terms m d s es r
      → (n : ℕ) (st : List Open) → IsBase st → Room d st n → Fits n st r → Fits n st s
  terms_peak no_terms n st b h p = p
  terms_peak (a_term t u) n st b h p = term_peak t n st h (based st b (terms_peak u n st b h p))

  apply_peak : {m : Bounds} {d : Count} {s : List Lexeme} {e : ExprView} {r : List Lexeme} → Apply m d s e r
      → (n : ℕ) (st : List Open) → IsBase st → Room d st n → Fits n st r → Fits n st s
  apply_peak {d = d} (of_name t) n st b h p = next d st n h (based st b (terms_peak t n st b h p))
  apply_peak {d = d} (of_bits t) n st b h p = next d st n h (term_peak t n st h (based st b p))
  apply_peak {d = d} (of_below t) n st b h p = next d st n h (term_peak t n st h (based st b p))
  apply_peak {d = d} (of_up_to t) n st b h p = next d st n h (term_peak t n st h (based st b p))
  apply_peak (of_term t) n st b h p = term_peak t n st h (based st b p)

  product_peak : {m : Bounds} {d : Count} {s : List Lexeme} {e : ExprView} {r : List Lexeme} → Product m d s e r
      → (n : ℕ) (st : List Open) → IsBase st → Room d st n → Fits n st r → Fits n st s
  product_peak (one_factor t) n st b h p = apply_peak t n st b h p
  product_peak {d = d} (two_factors t u) n st b h p = apply_peak t n st b h (next d st n h (apply_peak u n st b h p))

  sum_peak : {m : Bounds} {d : Count} {s : List Lexeme} {e : ExprView} {r : List Lexeme} → Sum m d s e r
      → (n : ℕ) (st : List Open) → IsBase st → Room d st n → Fits n st r → Fits n st s
  sum_peak (a_sum t u) n st b h p = product_peak t n st b h (addends_peak u n st b h p)

  addends_peak : {m : Bounds} {d : Count} {a : ExprView} {s : List Lexeme} {e : ExprView} {r : List Lexeme}
      → Addends m d a s e r → (n : ℕ) (st : List Open) → IsBase st → Room d st n → Fits n st r → Fits n st s
  addends_peak no_addend n st b h p = p
  addends_peak {d = d} (an_addend t u) n st b h p = next d st n h (product_peak t n st b h (addends_peak u n st b h p))

  type_peak : {m : Bounds} {d : Count} {s : List Lexeme} {t : TypeView} {r : List Lexeme} → Typed m d s t r
      → (n : ℕ) (st : List Open) → IsBase st → Room d st n → Fits n st r → Fits n st s
  type_peak (always t) n st b h p = term_peak t n st h (based st b p)
  type_peak {d = d} (on_number t u) n st b h p =
      term_peak t n st h (based st b (next d st n h (term_peak u n st h (based st b p))))
  type_peak {d = d} (on_bit le t u) n st b h p =
      term_peak t n st h (based st b
      (next d st n h (next d st n h (based st b (next d st n h (term_peak u n st h (based st b p)))))))

  item_peak : {m : Bounds} {d : Count} {s : List Lexeme} {i : ItemView} {r : List Lexeme} → AnItem m d s i r
      → (n : ℕ) (st : List Open) → IsBase st → Room d st n → Fits n st r → Fits n st s
  item_peak {d = d} of_numbers n st b h p =
      next d st n h (next d st n h (based st b (next d st n h (next d st n h (based st b (next d st n h p))))))
  item_peak {d = d} of_types n st b h p =
      next d st n h (next d st n h (based st b (next d st n h (next d st n h (based st b (next d st n h p))))))
  item_peak {d = d} (a_check {c = c} o t u) n st b h p =
      next d st n h (sum_peak t n st b h
      (next d st n h (along st (by_sign c st) (compared_peak o st) (sum_peak u n st b h (next d st n h p)))))
  item_peak {d = d} (a_field {h = l} o t) n st b h p =
      next d st n h (along st (after l st) (headed_peak o st b) (next d st n h (type_peak t n st b h p)))
  item_peak (a_bare_field t) n st b h p = type_peak t n st b h p

  items_peak : {m : Bounds} {d k : Count} {s : List Lexeme} {is : ItemList} {r : List Lexeme} → Items m d k s is r
      → (n : ℕ) (st : List Open) → IsBase st → Room d st n → Fits n st r → Fits n st s
  items_peak no_item n st b h p = p
  items_peak (one_item sp t u) n st b h p = item_peak t n st b h (items_peak u n st b h p)

params_peak : {m : Bounds} {k : Count} {s : List Lexeme} {es : ExprList} {r : List Lexeme} → Params m k s es r → (n : ℕ)
    → Room m.levels [] n → Fits n [] r → Fits n [] s
params_peak no_param n h p = p
params_peak (a_param sp t u) n h p = term_peak t n [] h (params_peak u n h p)

tag_peak : {s : List Lexeme} {t : TagView} {r : List Lexeme} → Tagged s t r → (n : ℕ) → Fits n [] r → Fits n [] s
tag_peak tagged n p = let most = p.most in record { most = omega arith }
tag_peak untagged n p = p

declared_peak : {m : Bounds} {exotic : Bool} {s : List Lexeme} {c : ConstructorView} {r : List Lexeme}
    → Declared m exotic s c r → (n : ℕ) → Room m.levels [] n → Fits n [] r → Fits n [] s
declared_peak {m = m} (a_declaration {h = l} o t is ps) n h p =
    next m.levels [] n h (along [] (after l []) (headed_peak o [] refl)
    (tag_peak t n (items_peak is n [] refl h
    (next m.levels [] n h (next m.levels [] n h (params_peak ps n h (next m.levels [] n h p)))))))

declaration_peak : {m : Bounds} {s : List Lexeme} {c : ConstructorView} {r : List Lexeme} → Declaration m s c r
    → (n : ℕ) → Room m.levels [] n → Fits n [] r → Fits n [] s
declaration_peak (of_ordinary d) n h p = declared_peak d n h p
declaration_peak {m = m} (of_exotic d) n h p = next m.levels [] n h (declared_peak d n h p)

-- no more than the bound is open at once
declarations_peak : {m : Bounds} {s : List Lexeme} {cs : SchemaView} → Declarations m s cs → (n : ℕ)
    → Room m.levels [] n → Fits n [] s
declarations_peak no_declaration n h = record { most = omega arith }
declarations_peak (one_more t u) n h = declaration_peak t n h (declarations_peak u n h)

-- ---- canonical texts

-- from these lexemes on so many more are open at once, and what is open leads to the others
record Reach (st to : List Open) (k : ℕ) (s r : List Lexeme) : Type 0 where
  own : length st + k ≤ peak st s
  rest : peak to r ≤ peak st s

open_now : (st : List Open) (ls : List Lexeme) → length st ≤ peak st ls
open_now st [] = omega arith
open_now st (l ∷ ls) = omega arith

later : (st : List Open) (l : Lexeme) (ls : List Lexeme) → peak (after l st) ls ≤ peak st (l ∷ ls)
later st l ls = omega arith

leaf : (l : Lexeme) (st : List Open) (r : List Lexeme) → Reach st (after l st) 0 (l ∷ r) r
leaf l st r = let now = open_now st (l ∷ r) in record { own = omega arith; rest = later st l r }

none_reach : (st : List Open) (r : List Lexeme) → Reach st st 0 r r
none_reach st r = let now = open_now st r in record { own = omega arith; rest = omega arith }

into : (st to too : List Open) {k : ℕ} {s r : List Lexeme} → to ≡ too → Reach st to k s r → Reach st too k s r
into st to too {k} {s} {r} e p = let P : List Open → Type 0 = λ z. Reach st z k s r in subst P e p

from : (st too to : List Open) {k : ℕ} {s r : List Lexeme} → st ≡ too → Reach too to k s r → Reach st to k s r
from st too to {k} {s} {r} e p = let P : List Open → Type 0 = λ z. Reach z to k s r in subst P (sym e) p

-- a lexeme that opens and closes nothing
skip : {l : Lexeme} {st to : List Open} {k : ℕ} {s r : List Lexeme} → after l st ≡ st → Reach st to k s r
    → Reach st to k (l ∷ s) r
skip {l} {st} {to} {k} {s} {r} e p =
    let q = from (after l st) st to e p in
    let le = later st l s in
    let own = p.own in
    let rest = q.rest in
    let P : List Open → Type 0 = λ z. length st + k ≤ peak z s in
    let mine : length st + k ≤ peak (after l st) s = subst P (sym e) own in
    record { own = omega arith; rest = omega arith }

upto : {l : Lexeme} {st : List Open} {k : ℕ} {s r : List Lexeme} → after l st ≡ st → Reach st st k s (l ∷ r)
    → Reach st st k s r
upto {l} {st} {k} {s} {r} e p =
    let P : List Open → Type 0 = λ z. peak z r ≤ peak st (l ∷ r) in
    let le : peak st r ≤ peak st (l ∷ r) = subst P e (later st l r) in
    let rest = p.rest in
    record { own = p.own; rest = omega arith }

chain : {st to : List Open} {a b : ℕ} {s mid r : List Lexeme} → Reach st st a s mid → Reach st to b mid r
    → Reach st to (max a b) s r
chain p q =
    let one = p.own in
    let two = p.rest in
    let three = q.own in
    let four = q.rest in
    record { own = omega arith; rest = omega arith }

in_paren : {st : List Open} {k : ℕ} {s r : List Lexeme} → Reach (bracket ∷ st) (bracket ∷ st) k s (sign CloseParen ∷ r)
    → Reach st (term_ended st) (suc k) (sign OpenParen ∷ s) r
in_paren {st} {k} {s} {r} p =
    let own = p.own in
    let rest = p.rest in
    let first = later st (sign OpenParen) s in
    let last = later (bracket ∷ st) (sign CloseParen) r in
    record { own = omega arith; rest = omega arith }

in_record : {st : List Open} {k : ℕ} {s r : List Lexeme}
    → Reach (bracket ∷ st) (bracket ∷ st) k s (sign CloseBracket ∷ r)
    → Reach st (term_ended st) (suc k) (sign OpenBracket ∷ s) r
in_record {st} {k} {s} {r} p =
    let own = p.own in
    let rest = p.rest in
    let first = later st (sign OpenBracket) s in
    let last = later (bracket ∷ st) (sign CloseBracket) r in
    record { own = omega arith; rest = omega arith }

prefixed : {o : Sign} {st : List Open} {k : ℕ} {s r : List Lexeme} → by_sign o st ≡ prefix ∷ st
    → Reach (prefix ∷ st) (term_ended st) k s r → Reach st (term_ended st) (suc k) (sign o ∷ s) r
prefixed {o} {st} {k} {s} {r} e p =
    let P : List Open → Type 0 = λ z. peak z s ≤ peak st (sign o ∷ s) in
    let first : peak (prefix ∷ st) s ≤ peak st (sign o ∷ s) = subst P e (later st (sign o) s) in
    let own = p.own in
    let rest = p.rest in
    record { own = omega arith; rest = omega arith }

-- the terms after a name or a `##`, `#<` or `#<=` in parentheses
abbrev TermEnded : List Open → ExprList → List Lexeme → Type 0
TermEnded st es r = Reach (bracket ∷ st) (bracket ∷ st) (exprs_levels es) (exprs_before es (sign CloseParen ∷ r))
    (sign CloseParen ∷ r)

named_reach : (x : List ℕ) (es : ExprList) (st : List Open) (r : List Lexeme) → TermEnded st es r
    → Reach st (term_ended st) (expr_levels (named x es)) (expr_before (named x es) r) r
named_reach x no_exprs st r p = leaf (word x) st r
named_reach x (an_expr e es) st r p = in_paren (skip {l = word x} refl p)

comparing_same : (op : Op) (st : List Open) → by_sign (comparing op) st ≡ st
comparing_same Eq st = refl
comparing_same Lt st = refl
comparing_same Le st = refl
comparing_same Gt st = refl
comparing_same Ge st = refl

kind_same : (k : ParamKind) (st : List Open) → IsBase st → after (kind_lexeme k) st ≡ st
kind_same Nat st b = b
kind_same Ty st b = b

head_same : (x : Option (List ℕ)) (st : List Open) → IsBase st → after (head x) st ≡ st
head_same (Some x) st b = b
head_same None st b = refl

mutual
  expr_reach : (e : ExprView) (st : List Open) (r : List Lexeme)
      → Reach st (term_ended st) (expr_levels e) (expr_before e r) r
  expr_reach (lit n) st r = leaf (number (Some n)) st r
  expr_reach (named x es) st r = named_reach x es st r (exprs_reach es (bracket ∷ st) (sign CloseParen ∷ r) refl)
  expr_reach nat32 st r = leaf (sign Hash) st r
  expr_reach (bits es) st r =
      in_paren (skip {l = sign HashHash} refl (exprs_reach es (bracket ∷ st) (sign CloseParen ∷ r) refl))
  expr_reach (below es) st r =
      in_paren (skip {l = sign HashLess} refl (exprs_reach es (bracket ∷ st) (sign CloseParen ∷ r) refl))
  expr_reach (up_to es) st r =
      in_paren (skip {l = sign HashLessEqual} refl (exprs_reach es (bracket ∷ st) (sign CloseParen ∷ r) refl))
  expr_reach (plus a b) st r =
      in_paren (chain (expr_reach a (bracket ∷ st) (sign Plus ∷ expr_before b (sign CloseParen ∷ r)))
      (skip {l = sign Plus} refl (expr_reach b (bracket ∷ st) (sign CloseParen ∷ r))))
  expr_reach (star a b) st r =
      in_paren (chain (expr_reach a (bracket ∷ st) (sign Asterisk ∷ expr_before b (sign CloseParen ∷ r)))
      (skip {l = sign Asterisk} refl (expr_reach b (bracket ∷ st) (sign CloseParen ∷ r))))
  expr_reach (out e) st r = prefixed {o = Tilde} refl (expr_reach e (prefix ∷ st) r)
  expr_reach (ref e) st r = prefixed {o = Caret} refl (expr_reach e (prefix ∷ st) r)
  expr_reach (group is) st r = in_record (items_reach is (bracket ∷ st) (sign CloseBracket ∷ r) refl)

  exprs_reach : (es : ExprList) (st : List Open) (r : List Lexeme) → IsBase st
      → Reach st st (exprs_levels es) (exprs_before es r) r
  exprs_reach no_exprs st r b = none_reach st r
  exprs_reach (an_expr e es) st r b =
      chain (into st (term_ended st) st b (expr_reach e st (exprs_before es r))) (exprs_reach es st r b)

  type_reach : (t : TypeView) (st : List Open) (r : List Lexeme) → IsBase st
      → Reach st st (type_levels t) (type_before t r) r
  type_reach (plain e) st r b = into st (term_ended st) st b (expr_reach e st r)
  type_reach (when c e) st r b =
      chain (into st (term_ended st) st b (expr_reach c st (sign Question ∷ expr_before e r)))
      (skip {l = sign Question} refl (into st (term_ended st) st b (expr_reach e st r)))
  type_reach (when_bit c k e) st r b =
      chain (into st (term_ended st) st b (expr_reach c st (sign Dot ∷ number (Some k) ∷ sign Question ∷ expr_before e r)))
      (skip {l = sign Dot} refl
      (skip {l = number (Some k)} b (skip {l = sign Question} refl (into st (term_ended st) st b (expr_reach e st r)))))

  item_reach : (i : ItemView) (st : List Open) (r : List Lexeme) → IsBase st
      → Reach st st (item_levels i) (item_before i r) r
  item_reach (implicit x k) st r b =
      skip {l = sign OpenBrace} refl
      (skip {l = word x} b (skip {l = sign Colon} refl
      (skip {l = kind_lexeme k} (kind_same k st b) (skip {l = sign CloseBrace} refl (none_reach st r)))))
  item_reach (check a op c) st r b =
      skip {l = sign OpenBrace} refl
      (chain (into st (term_ended st) st b
      (expr_reach a st (sign (comparing op) ∷ expr_before c (sign CloseBrace ∷ r))))
      (skip {l = sign (comparing op)} (comparing_same op st)
      (upto {l = sign CloseBrace} refl (into st (term_ended st) st b (expr_reach c st (sign CloseBrace ∷ r))))))
  item_reach (explicit x t) st r b =
      skip {l = head x} (head_same x st b) (skip {l = sign Colon} refl (type_reach t st r b))

  items_reach : (is : ItemList) (st : List Open) (r : List Lexeme) → IsBase st
      → Reach st st (items_levels is) (items_before is r) r
  items_reach no_items st r b = none_reach st r
  items_reach (an_item i is) st r b = chain (item_reach i st (items_before is r) b) (items_reach is st r b)

tag_reach : (t : TagView) {k : ℕ} {s r : List Lexeme} → Reach [] [] k s r → Reach [] [] k (marked t s) r
tag_reach computed p = p
tag_reach (given b) p = skip {l = tag (Some b)} refl p

exotic_reach : (b : Bool) {k : ℕ} {s r : List Lexeme} → Reach [] [] k s r → Reach [] [] k (exotic_before b s) r
exotic_reach false p = p
exotic_reach true p = skip {l = sign Bang} refl p

constructor_reach : (c : ConstructorView) (r : List Lexeme)
    → Reach [] [] (constructor_levels c) (constructor_before c r) (sign Semicolon ∷ r)
constructor_reach c r =
    exotic_reach c.exotic (skip {l = head c.name} (head_same c.name [] refl)
    (tag_reach c.tag (chain
    (items_reach c.items [] (sign Equal ∷ word c.result ∷ exprs_before c.params (sign Semicolon ∷ r)) refl)
    (skip {l = sign Equal} refl (skip {l = word c.result} refl (exprs_reach c.params [] (sign Semicolon ∷ r) refl))))))

-- what derives the lexemes of a canonical text has room for its levels
pub levels_within : (c : ConstructorView) (s : SchemaView) → Declarations standard (constructor_before c []) s
    → constructor_levels c ≤ 64
levels_within c s d =
    let most = (declarations_peak d 64 (omega arith)).most in
    let own = (constructor_reach c []).own in
    omega arith
