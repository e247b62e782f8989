-- The productions of the schema language, as relations between lexemes, a tree, and the lexemes that are left.
-- Source: the TON documentation on the TL-B language.
--
-- Each production speaks of bounds m on sizes, and of the levels d that may still be opened: each `(`, `[`, `^` and `~`
-- opens one.
use Rattle.std.specs.Prelude.{ℕ, Bool, true, false, suc, ◌≤◌, List, [], ◌∷◌, codes, Option, Some, None}
use Rattle.nat_solver.specs.declared.compare.Op.{Op}
use Rattle.nat_solver.specs.declared.compare.Op.TheVariants.{Eq, Lt, Le, Gt, Ge}
use Rattle.tlb_syntax.specs.declared.tree.ParamKind.TheVariants.{Nat, Ty}
use Rattle.tlb_syntax.specs.declared.sign.Sign.{Sign}
use Rattle.tlb_syntax.specs.declared.sign.Sign.TheVariants.{Hash, HashHash, HashLess, HashLessEqual, Colon, Semicolon}
use Rattle.tlb_syntax.specs.declared.sign.Sign.TheVariants.{Equal, OpenParen, CloseParen, OpenBrace, CloseBrace}
use Rattle.tlb_syntax.specs.declared.sign.Sign.TheVariants.{OpenBracket, CloseBracket, Caret, Tilde, Question, Dot}
use Rattle.tlb_syntax.specs.declared.sign.Sign.TheVariants.{Asterisk, Plus, Less, LessEqual, Greater, GreaterEqual}
use Rattle.tlb_syntax.specs.declared.sign.Sign.TheVariants.{Bang}
use Rattle.tlb_syntax.specs.Lexeme.{Lexeme, word, blank, number, tag, sign}
use Rattle.tlb_syntax.specs.Tree.{ExprView, ExprList, ItemView, ItemList, TypeView, TagView, ConstructorView}
use Rattle.tlb_syntax.specs.Tree.{SchemaView, lit, named, nat32, bits, below, up_to, plus, star, out, ref, group}
use Rattle.tlb_syntax.specs.Tree.{no_exprs, an_expr, plain, when, when_bit, implicit, check, explicit, no_items}
use Rattle.tlb_syntax.specs.Tree.{an_item, computed, given}

-- how many more may come; none: any number
abbrev pub Count : Type 0
Count = Option ℕ

-- one of so many comes, and so many may come after it
pub data Spends : Count → Count → Type 0 where
  freely : Spends None None
  one_less : {n : ℕ} → Spends (Some (suc n)) (Some n)

-- open levels, items in a record, and parameters in a result
pub record Bounds : Type 0 where
  pub levels : Count
  pub items : Count
  pub params : Count

-- the symbols that compare
pub data Compares : Sign → Op → Type 0 where
  equal : Compares Equal Eq
  less : Compares Less Lt
  less_equal : Compares LessEqual Le
  greater : Compares Greater Gt
  greater_equal : Compares GreaterEqual Ge

-- a name, or `_`
pub data Heads : Lexeme → Option (List ℕ) → Type 0 where
  by_name : {x : List ℕ} → Heads (word x) (Some x)
  by_blank : Heads blank None

-- the first tag, if there is one
pub data Tagged : List Lexeme → TagView → List Lexeme → Type 0 where
  tagged : {b : List ℕ} {s : List Lexeme} → Tagged (tag (Some b) ∷ s) (given b) s
  untagged : {s : List Lexeme} → Tagged s computed s

mutual
  -- term = number | name | "#" | "~" term | "^" term | "(" sum ")" | "[" { item } "]"
  pub data Term (m : Bounds) : Count → List Lexeme → ExprView → List Lexeme → Type 0 where
    a_number : {d : Count} {n : ℕ} {r : List Lexeme} → Term m d (number (Some n) ∷ r) (lit n) r
    a_name : {d : Count} {x : List ℕ} {r : List Lexeme} → Term m d (word x ∷ r) (named x no_exprs) r
    a_hash : {d : Count} {r : List Lexeme} → Term m d (sign Hash ∷ r) nat32 r
    an_output : {d left : Count} {s r : List Lexeme} {e : ExprView} → Spends d left → Term m left s e r
        → Term m d (sign Tilde ∷ s) (out e) r
    a_reference : {d left : Count} {s r : List Lexeme} {e : ExprView} → Spends d left → Term m left s e r
        → Term m d (sign Caret ∷ s) (ref e) r
    a_paren : {d left : Count} {s r : List Lexeme} {e : ExprView} → Spends d left
        → Sum m left s e (sign CloseParen ∷ r) → Term m d (sign OpenParen ∷ s) e r
    a_record : {d left : Count} {s r : List Lexeme} {is : ItemList} → Spends d left
        → Items m left m.items s is (sign CloseBracket ∷ r) → Term m d (sign OpenBracket ∷ s) (group is) r

  -- { term }
  pub data Terms (m : Bounds) : Count → List Lexeme → ExprList → List Lexeme → Type 0 where
    no_terms : {d : Count} {r : List Lexeme} → Terms m d r no_exprs r
    a_term : {d : Count} {s mid r : List Lexeme} {e : ExprView} {es : ExprList} → Term m d s e mid
        → Terms m d mid es r → Terms m d s (an_expr e es) r

  -- apply = name { term } | ("##" | "#<" | "#<=") term | term
  pub data Apply (m : Bounds) : Count → List Lexeme → ExprView → List Lexeme → Type 0 where
    of_name : {d : Count} {x : List ℕ} {s r : List Lexeme} {es : ExprList} → Terms m d s es r
        → Apply m d (word x ∷ s) (named x es) r
    of_bits : {d : Count} {s r : List Lexeme} {e : ExprView} → Term m d s e r
        → Apply m d (sign HashHash ∷ s) (bits (an_expr e no_exprs)) r
    of_below : {d : Count} {s r : List Lexeme} {e : ExprView} → Term m d s e r
        → Apply m d (sign HashLess ∷ s) (below (an_expr e no_exprs)) r
    of_up_to : {d : Count} {s r : List Lexeme} {e : ExprView} → Term m d s e r
        → Apply m d (sign HashLessEqual ∷ s) (up_to (an_expr e no_exprs)) r
    of_term : {d : Count} {s r : List Lexeme} {e : ExprView} → Term m d s e r → Apply m d s e r

  -- star = apply [ "*" apply ]
  pub data Product (m : Bounds) : Count → List Lexeme → ExprView → List Lexeme → Type 0 where
    one_factor : {d : Count} {s r : List Lexeme} {e : ExprView} → Apply m d s e r → Product m d s e r
    two_factors : {d : Count} {s mid r : List Lexeme} {a b : ExprView} → Apply m d s a (sign Asterisk ∷ mid)
        → Apply m d mid b r → Product m d s (star a b) r

  -- sum = star { "+" star }
  pub data Sum (m : Bounds) : Count → List Lexeme → ExprView → List Lexeme → Type 0 where
    a_sum : {d : Count} {s mid r : List Lexeme} {a e : ExprView} → Product m d s a mid → Addends m d a mid e r
        → Sum m d s e r

  -- what follows in a sum, joined to the left
  pub data Addends (m : Bounds) : Count → ExprView → List Lexeme → ExprView → List Lexeme → Type 0 where
    no_addend : {d : Count} {a : ExprView} {r : List Lexeme} → Addends m d a r a r
    an_addend : {d : Count} {s mid r : List Lexeme} {a b e : ExprView} → Product m d s b mid
        → Addends m d (plus a b) mid e r → Addends m d a (sign Plus ∷ s) e r

  -- fieldtype = term | term "?" term | term "." number "?" term
  pub data Typed (m : Bounds) : Count → List Lexeme → TypeView → List Lexeme → Type 0 where
    always : {d : Count} {s r : List Lexeme} {e : ExprView} → Term m d s e r → Typed m d s (plain e) r
    on_number : {d : Count} {s mid r : List Lexeme} {c e : ExprView} → Term m d s c (sign Question ∷ mid)
        → Term m d mid e r → Typed m d s (when c e) r
    on_bit : {d : Count} {k : ℕ} {s mid r : List Lexeme} {c e : ExprView} → k ≤ 31
        → Term m d s c (sign Dot ∷ number (Some k) ∷ sign Question ∷ mid) → Term m d mid e r
        → Typed m d s (when_bit c k e) r

  -- item = "{" name ":" ("#" | "Type") "}" | "{" sum op sum "}" | [ (name | "_") ":" ] fieldtype
  pub data AnItem (m : Bounds) : Count → List Lexeme → ItemView → List Lexeme → Type 0 where
    of_numbers : {d : Count} {x : List ℕ} {r : List Lexeme}
        → AnItem m d (sign OpenBrace ∷ word x ∷ sign Colon ∷ sign Hash ∷ sign CloseBrace ∷ r) (implicit x Nat) r
    of_types : {d : Count} {x : List ℕ} {r : List Lexeme}
        → AnItem m d (sign OpenBrace ∷ word x ∷ sign Colon ∷ word (codes "Type") ∷ sign CloseBrace
        ∷ r) (implicit x Ty) r
    a_check : {d : Count} {s mid r : List Lexeme} {a b : ExprView} {c : Sign} {op : Op} → Compares c op
        → Sum m d s a (sign c ∷ mid) → Sum m d mid b (sign CloseBrace ∷ r)
        → AnItem m d (sign OpenBrace ∷ s) (check a op b) r
    a_field : {d : Count} {s r : List Lexeme} {h : Lexeme} {x : Option (List ℕ)} {t : TypeView} → Heads h x
        → Typed m d s t r → AnItem m d (h ∷ sign Colon ∷ s) (explicit x t) r
    a_bare_field : {d : Count} {s r : List Lexeme} {t : TypeView} → Typed m d s t r → AnItem m d s (explicit None t) r

  -- { item }, of which k may come
  pub data Items (m : Bounds) : Count → Count → List Lexeme → ItemList → List Lexeme → Type 0 where
    no_item : {d k : Count} {r : List Lexeme} → Items m d k r no_items r
    one_item : {d k left : Count} {s mid r : List Lexeme} {i : ItemView} {is : ItemList} → Spends k left
        → AnItem m d s i mid → Items m d left mid is r → Items m d k s (an_item i is) r

-- the parameters of a result, of which k may come
pub data Params (m : Bounds) : Count → List Lexeme → ExprList → List Lexeme → Type 0 where
  no_param : {k : Count} {r : List Lexeme} → Params m k r no_exprs r
  a_param : {k left : Count} {s mid r : List Lexeme} {e : ExprView} {es : ExprList} → Spends k left
      → Term m m.levels s e mid → Params m left mid es r → Params m k s (an_expr e es) r

-- (name | "_") [tag] { item } "=" name { term } ";", of exotic cells or not
pub data Declared (m : Bounds) (exotic : Bool) : List Lexeme → ConstructorView → List Lexeme → Type 0 where
  a_declaration : {h : Lexeme} {s after_tag after_items r : List Lexeme} {x : Option (List ℕ)} {t : TagView}
      {is : ItemList} {y : List ℕ} {es : ExprList} → Heads h x → Tagged s t after_tag
      → Items m m.levels m.items after_tag is (sign Equal ∷ word y ∷ after_items)
      → Params m m.params after_items es (sign Semicolon ∷ r)
      → Declared m exotic (h ∷ s) (record { exotic = exotic; name = x; tag = t; items = is; result = y; params = es }) r

-- declaration = ["!"] (name | "_") [tag] { item } "=" name { term } ";"
pub data Declaration (m : Bounds) : List Lexeme → ConstructorView → List Lexeme → Type 0 where
  of_ordinary : {s r : List Lexeme} {c : ConstructorView} → Declared m false s c r → Declaration m s c r
  of_exotic : {s r : List Lexeme} {c : ConstructorView} → Declared m true s c r → Declaration m (sign Bang ∷ s) c r

-- schema = { declaration }
pub data Declarations (m : Bounds) : List Lexeme → SchemaView → Type 0 where
  no_declaration : Declarations m [] []
  one_more : {s mid : List Lexeme} {c : ConstructorView} {cs : SchemaView} → Declaration m s c mid
      → Declarations m mid cs → Declarations m s (c ∷ cs)

-- typeword = sum
abbrev pub TypeWord : Bounds → List Lexeme → ExprView → Type 0
TypeWord m s e = Sum m m.levels s e []
