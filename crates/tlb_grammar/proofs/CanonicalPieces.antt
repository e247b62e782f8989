-- The canonical text of a tree that texts write is made of tokens and single spaces.
use Rattle.std.proofs.Common.{◌≡◌, ◌≤◌, ◌<◌, ◌+◌, ◌-◌, ◌^◌, sym, ap, refl, subst, ◌∙◌, rules, Bool, false, ℕ, true, List, [], ◌∷◌, ◌++◌, map, length, Option, Some, None, if◌then◌else◌, append_assoc, arith, nat_lt, not, codes}
use Rattle.std.specs.Prelude.{decimal}
use Rattle.std.specs.List.{list_all}
use Rattle.std.proofs.lemmas.Fmt.{digits_decimal, decimal_nonempty, digits_value-decimal}
use Rattle.std.proofs.lemmas.Str.Parse.{IsNumeralModel, numerals_by_fold}
use Rattle.nat_solver.specs.declared.compare.Op.{Op}
use Rattle.nat_solver.specs.declared.compare.Op.TheVariants.{Eq, Lt, Le, Gt, Ge}
use Rattle.bit_slice.specs.Bits.{AreBits}
use Rattle.tlb_lexer.specs.declared.TokenKind.{TokenKind}
use Rattle.tlb_lexer.specs.declared.TokenKind.TheVariants as kinds
use Rattle.tlb_lexer.specs.declared.bytes.Class.TheVariants as classes
use Rattle.tlb_lexer.specs.Bytes.{is_digit, is_bit}
use Rattle.tlb_lexer.specs.Spelling.{spells, is_number, is_underscore, are_bits}
use Rattle.tlb_lexer.specs.Tokenization.{Longest, longest_name}
use Rattle.tlb_lexer.specs.Stretch.{class}
use Rattle.tlb_syntax.specs.declared.tree.ParamKind.{ParamKind}
use Rattle.tlb_syntax.specs.declared.tree.ParamKind.TheVariants.{Nat, Ty}
use Rattle.tlb_syntax.specs.declared.sign.Sign.{Sign}
use Rattle.tlb_syntax.specs.declared.sign.Sign.TheVariants.{Hash, HashHash, HashLess, HashLessEqual, Colon, Semicolon, Equal, OpenParen, CloseParen, OpenBrace, CloseBrace, OpenBracket, CloseBracket, Caret, Tilde, Question, Dot, Asterisk, Plus, Less, LessEqual, Greater, GreaterEqual, Bang}
use Rattle.tlb_syntax.specs.Lexeme.{Lexeme, word, blank, number, tag, sign, meaning, decimal_onto, number_of, binary_bits, at_most_1023}
use Rattle.tlb_syntax.specs.Tree.{ExprView, ExprList, ItemView, ItemList, TypeView, TagView, ConstructorView, lit, named, nat32, bits, below, up_to, plus, star, out, ref, group, no_exprs, an_expr, plain, when, when_bit, implicit, check, explicit, no_items, an_item, computed, given}
use Rattle.tlb_syntax.specs.Text.{exotic_text, name_text, kind_text, op_text, tag_text, expr_text, spaced, type_text, item_text, spaced_items, constructor_text}
use Rattle.tlb_grammar.proofs.Symbols.{or_right}
use Rattle.tlb_grammar.proofs.Pieces.{both, Pieces, no_piece, a_space, a_token}
use Rattle.tlb_grammar.proofs.PiecesLongest.{is_inner, stops, longest_before}
use Rattle.tlb_grammar.proofs.CanonicalTrees.{IsWord, IsMark, IsWordOrBlank, IsTag, IsExpr, AreExprs, IsType, IsItem, AreItems, IsConstructor, head, comparing, kind_lexeme, marked, expr_before, exprs_before, type_before, item_before, items_before, exotic_before, constructor_before}

-- ---- parts of texts, with what puts their lexemes in prefix

-- before any text of pieces
record Free (xs : List ℕ) (f : List Lexeme → List Lexeme) : Type 0 where
  goes : (text : List ℕ) (ls : List Lexeme) → Pieces text ls → Pieces (xs ++ text) (f ls)

-- before a text that ends a token
pub record Part (xs : List ℕ) (f : List Lexeme → List Lexeme) : Type 0 where
  pub goes : (text : List ℕ) (ls : List Lexeme) → stops text ≡ true → Pieces text ls → Pieces (xs ++ text) (f ls)

-- before a text that ends a token, it ends a token
record Ends (xs : List ℕ) : Type 0 where
  ends : (text : List ℕ) → stops text ≡ true → stops (xs ++ text) ≡ true

-- before any text of pieces, and it ends a token
record Breaks (xs : List ℕ) (f : List Lexeme → List Lexeme) : Type 0 where
  free : Free xs f
  stop : (text : List ℕ) → stops (xs ++ text) ≡ true

regroup : (xs ys text : List ℕ) (ls : List Lexeme) → Pieces (xs ++ (ys ++ text)) ls → Pieces (xs ++ ys ++ text) ls
regroup xs ys text ls p = let P : List ℕ → Type 0 = λ zs. Pieces zs ls in subst P (sym (append_assoc xs ys text)) p

free_then : {xs ys : List ℕ} {f g : List Lexeme → List Lexeme} → Free xs f → Part ys g
    → Part (xs ++ ys) (λ ls. f (g ls))
free_then {xs} {ys} {f} {g} p q =
    record {
      goes = λ text ls ends r. regroup xs ys text (f (g ls))
          (p.goes (ys ++ text) (g ls) (q.goes text ls ends r));
    }

part_then : {xs ys : List ℕ} {f g : List Lexeme → List Lexeme} → Part xs f → Ends ys → Part ys g
    → Part (xs ++ ys) (λ ls. f (g ls))
part_then {xs} {ys} {f} {g} p e q =
    record {
      goes = λ text ls ends r. regroup xs ys text (f (g ls))
          (p.goes (ys ++ text) (g ls) (e.ends text ends) (q.goes text ls ends r));
    }

-- a part that is ended
broken : {xs ys : List ℕ} {f g : List Lexeme → List Lexeme} → Part xs f → Breaks ys g
    → Free (xs ++ ys) (λ ls. f (g ls))
broken {xs} {ys} {f} {g} p q =
    record {
      goes = λ text ls r. regroup xs ys text (f (g ls))
          (p.goes (ys ++ text) (g ls) (q.stop text) (q.free.goes text ls r));
    }

closed : {xs ys : List ℕ} {f g : List Lexeme → List Lexeme} → Part xs f → Breaks ys g
    → Part (xs ++ ys) (λ ls. f (g ls))
closed p q = let r = broken p q in record { goes = λ text ls ends s. r.goes text ls s }

nothing : Part [] (λ ls. ls)
nothing = record { goes = λ text ls ends p. p }

-- a symbol that begins no longer one is a token, whatever follows
abbrev pub SignsStandAlone : Type 0
SignsStandAlone = (b : ℕ) (bs : List ℕ) → class b ≡ classes.Sign → Longest kinds.Symbol 1 (b ∷ bs)

module _ (sign_longest : SignsStandAlone) where
  -- ---- tokens

  space : Breaks (codes " ") (λ ls. ls)
  space = record { free = record { goes = λ text ls p. a_space p }; stop = λ text. refl }

  -- a symbol of one byte that begins no longer one
  mark : (b : ℕ) (s : Sign) → class b ≡ classes.Sign → meaning kinds.Symbol (b ∷ []) ≡ sign s
      → Free (b ∷ []) (λ ls. sign s ∷ ls)
  mark b s is e = record { goes = goes }
    where
      symbol_name : kinds.Symbol ≡ kinds.Name → ⊥
      symbol_name e = cc

      goes : (text : List ℕ) (ls : List Lexeme) → Pieces text ls → Pieces (b ∷ text) (sign s ∷ ls)
      goes text ls p =
          let P : Lexeme → Type 0 = λ l. Pieces (b ∷ text) (l ∷ ls) in
          subst P e (a_token kinds.Symbol (b ∷ []) text (sign_longest b text is) (λ k. absurd (symbol_name k)) p)

  token : (kind : TokenKind) (bytes : List ℕ) (l : Lexeme) → spells kind bytes ≡ true
      → (kind ≡ kinds.Name → length bytes ≤ longest_name) → meaning kind bytes ≡ l → Part bytes (λ ls. l ∷ ls)
  token kind bytes l sp short e = record { goes = goes }
    where
      goes : (text : List ℕ) (ls : List Lexeme) → stops text ≡ true → Pieces text ls → Pieces (bytes ++ text) (l ∷ ls)
      goes text ls ends p =
          let P : Lexeme → Type 0 = λ k. Pieces (bytes ++ text) (k ∷ ls) in
          subst P e (a_token kind bytes text (longest_before kind bytes text sp ends) short p)

  symbol_short : (bytes : List ℕ) → kinds.Symbol ≡ kinds.Name → length bytes ≤ longest_name
  symbol_short bytes e = cc

  number_short : (bytes : List ℕ) → kinds.Number ≡ kinds.Name → length bytes ≤ longest_name
  number_short bytes e = cc

  blank_short : (bytes : List ℕ) → kinds.Blank ≡ kinds.Name → length bytes ≤ longest_name
  blank_short bytes e = cc

  tag_short : (bytes : List ℕ) → kinds.BinaryTag ≡ kinds.Name → length bytes ≤ longest_name
  tag_short bytes e = cc

  symbol : (bytes : List ℕ) (s : Sign) → spells kinds.Symbol bytes ≡ true → meaning kinds.Symbol bytes ≡ sign s
      → Part bytes (λ ls. sign s ∷ ls)
  symbol bytes s sp e = token kinds.Symbol bytes (sign s) sp (symbol_short bytes) e

  word_part : (x : List ℕ) → IsWord x → Part x (λ ls. word x ∷ ls)
  word_part x w = token kinds.Name x (word x) w.spelled (λ e. w.short) refl

  head_part : (x : Option (List ℕ)) → IsWordOrBlank x → Part (name_text x) (λ ls. head x ∷ ls)
  head_part (Some x) w = word_part x w
  head_part None w = token kinds.Blank (codes "_") blank refl (blank_short (codes "_")) refl

  -- ---- numbers

  own : IsNumeralModel (λ ds. list_all is_digit ds ≡ true) (decimal_onto 0)
  own = numerals_by_fold _ (search rules) decimal_onto (search rules)

  digits_spell : (ds : List ℕ) → 0 < length ds → list_all is_digit ds ≡ true → is_number ds ≡ true
  digits_spell [] some all = absurd (omega arith)
  digits_spell (d ∷ ds) some all = all

  below_limit : (n : ℕ) → n < 2 ^ 32 → (if nat_lt n (2 ^ 32) then Some n else None) ≡ Some n
  below_limit n h = grind arith

  number_read : (n : ℕ) → n < 2 ^ 32 → number_of (decimal n) ≡ Some n
  number_read n h =
      let value : decimal_onto 0 (decimal n) ≡ n = digits_value-decimal own n (omega arith) in
      ap (λ k. if nat_lt k (2 ^ 32) then Some k else None) value ∙ below_limit n h

  number_part : (n : ℕ) → n < 2 ^ 32 → Part (decimal n) (λ ls. number (Some n) ∷ ls)
  number_part n h =
      token kinds.Number (decimal n) (number (Some n))
      (digits_spell (decimal n) (decimal_nonempty n (omega arith)) (digits_decimal own n (omega arith)))
      (number_short (decimal n)) (ap number (number_read n h))

  -- ---- tags

  not_underscore : (b : ℕ) (bs : List ℕ) → b < 2 → is_underscore (map (λ d. 48 + d) (b ∷ bs)) ≡ false
  not_underscore b [] h = grind arith
  not_underscore b (c ∷ bs) h = refl

  read_back : (bs : List ℕ) → map (λ d. d - 48) (map (λ d. 48 + d) bs) ≡ bs
  read_back [] = refl
  read_back (b ∷ bs) = both (λ x xs. x ∷ xs) (omega arith) (read_back bs)

  short_bits : (bs : List ℕ) → length bs ≤ 1023 → at_most_1023 bs ≡ Some bs
  short_bits bs h = grind arith

  bit_digit : (b : ℕ) → b < 2 → is_bit (48 + b) ≡ true
  bit_digit b h = grind arith

  bits_digits : (bs : List ℕ) → AreBits bs → list_all is_bit (map (λ d. 48 + d) bs) ≡ true
  bits_digits [] h = refl
  bits_digits (b ∷ bs) h = let one = bit_digit b h.0 in rw one (bits_digits bs h.1)

  bits_spelled : (b : ℕ) (bs : List ℕ) → AreBits (b ∷ bs)
      → spells kinds.BinaryTag (codes "$" ++ map (λ d. 48 + d) (b ∷ bs)) ≡ true
  bits_spelled b bs h =
      or_right (is_underscore (map (λ d. 48 + d) (b ∷ bs))) (are_bits (map (λ d. 48 + d) (b ∷ bs)))
      (bits_digits (b ∷ bs) h)

  bits_read : (b : ℕ) (bs : List ℕ) → IsMark (b ∷ bs) → binary_bits (map (λ d. 48 + d) (b ∷ bs)) ≡ Some (b ∷ bs)
  bits_read b bs h =
      ap (λ t. if t then Some [] else at_most_1023 (map (λ d. d - 48) (map (λ d. 48 + d) (b ∷ bs))))
      (not_underscore b bs h.bits.0)
      ∙ ap at_most_1023 (read_back (b ∷ bs)) ∙ short_bits (b ∷ bs) h.short

  tag_part : (t : TagView) → IsTag t → Part (tag_text t) (marked t)
  tag_part computed h = nothing
  tag_part (given []) h = token kinds.BinaryTag (codes "$_") (tag (Some [])) refl (tag_short (codes "$_")) refl
  tag_part (given (b ∷ bs)) h =
      token kinds.BinaryTag (codes "$" ++ map (λ d. 48 + d) (b ∷ bs)) (tag (Some (b ∷ bs))) (bits_spelled b bs h.bits)
      (tag_short (codes "$" ++ map (λ d. 48 + d) (b ∷ bs))) (ap tag (bits_read b bs h))

  tag_ends : (t : TagView) → Ends (tag_text t)
  tag_ends computed = record { ends = λ text e. e }
  tag_ends (given []) = record { ends = λ text e. refl }
  tag_ends (given (b ∷ bs)) = record { ends = λ text e. refl }

  -- ---- expressions and items

  op_part : (op : Op) → Part (op_text op) (λ ls. sign (comparing op) ∷ ls)
  op_part Eq = symbol (codes "=") Equal refl refl
  op_part Lt = symbol (codes "<") Less refl refl
  op_part Le = symbol (codes "<=") LessEqual refl refl
  op_part Gt = symbol (codes ">") Greater refl refl
  op_part Ge = symbol (codes ">=") GreaterEqual refl refl

  kind_part : (k : ParamKind) → Part (kind_text k) (λ ls. kind_lexeme k ∷ ls)
  kind_part Nat = symbol (codes "#") Hash refl refl
  kind_part Ty = word_part (codes "Type") (record { spelled = refl; short = omega arith })

  spaced_ends : (es : ExprList) → Ends (spaced es)
  spaced_ends no_exprs = record { ends = λ text e. e }
  spaced_ends (an_expr e es) = record { ends = λ text e. refl }

  items_end : (is : ItemList) → Ends (spaced_items is)
  items_end no_items = record { ends = λ text e. e }
  items_end (an_item i is) = record { ends = λ text e. refl }

  breaking : (b : ℕ) (s : Sign) → class b ≡ classes.Sign → meaning kinds.Symbol (b ∷ []) ≡ sign s
      → not (is_inner b) ≡ true → Breaks (b ∷ []) (λ ls. sign s ∷ ls)
  breaking b s is e stop = record { free = mark b s is e; stop = λ text. stop }

  open_paren : Breaks (codes "(") (λ ls. sign OpenParen ∷ ls)
  open_paren = breaking 40 OpenParen refl refl refl

  close_paren : Breaks (codes ")") (λ ls. sign CloseParen ∷ ls)
  close_paren = breaking 41 CloseParen refl refl refl

  open_brace : Breaks (codes "{") (λ ls. sign OpenBrace ∷ ls)
  open_brace = breaking 123 OpenBrace refl refl refl

  close_brace : Breaks (codes "}") (λ ls. sign CloseBrace ∷ ls)
  close_brace = breaking 125 CloseBrace refl refl refl

  colon : Breaks (codes ":") (λ ls. sign Colon ∷ ls)
  colon = breaking 58 Colon refl refl refl

  question : Breaks (codes "?") (λ ls. sign Question ∷ ls)
  question = breaking 63 Question refl refl refl

  dot : Breaks (codes ".") (λ ls. sign Dot ∷ ls)
  dot = breaking 46 Dot refl refl refl

  semicolon : Breaks (codes ";") (λ ls. sign Semicolon ∷ ls)
  semicolon = breaking 59 Semicolon refl refl refl

  -- a bracket after a space
  close_bracket : Breaks (codes " ]") (λ ls. sign CloseBracket ∷ ls)
  close_bracket =
      let m = mark 93 CloseBracket refl refl in
      record { free = record { goes = λ text ls p. a_space (m.goes text ls p) }; stop = λ text. refl }

  -- a symbol between spaces
  between : (b : ℕ) (s : Sign) → class b ≡ classes.Sign → meaning kinds.Symbol (b ∷ []) ≡ sign s
      → Breaks (32 ∷ b ∷ 32 ∷ []) (λ ls. sign s ∷ ls)
  between b s is e =
      let m = mark b s is e in
      record { free = record { goes = λ text ls p. a_space (m.goes (32 ∷ text) ls (a_space p)) }; stop = λ text. refl }

  in_parens : (x : List ℕ) (l : Lexeme) (es : ExprList) → Part x (λ ls. l ∷ ls) → Part (spaced es) (exprs_before es)
      → Part (codes "(" ++ x ++ spaced es ++ codes ")")
      (λ ls. sign OpenParen ∷ l ∷ exprs_before es (sign CloseParen ∷ ls))
  in_parens x l es p q = closed (part_then (free_then open_paren.free p) (spaced_ends es) q) close_paren

  named_part : (x : List ℕ) (es : ExprList) → IsWord x → Part (spaced es) (exprs_before es)
      → Part (expr_text (named x es)) (expr_before (named x es))
  named_part x no_exprs w q = word_part x w
  named_part x (an_expr e es) w q = in_parens x (word x) (an_expr e es) (word_part x w) q

  two_terms : {xs ys : List ℕ} {f g : List Lexeme → List Lexeme} (b : ℕ) (s : Sign) → class b ≡ classes.Sign
      → meaning kinds.Symbol (b ∷ []) ≡ sign s → Part xs f → Part ys g
      → Part (codes "(" ++ xs ++ (32 ∷ b ∷ 32 ∷ []) ++ ys ++ codes ")")
      (λ ls. sign OpenParen ∷ f (sign s ∷ g (sign CloseParen ∷ ls)))
  two_terms b s is e p q = closed (free_then (broken (free_then open_paren.free p) (between b s is e)) q) close_paren

  mutual
    expr_part : (e : ExprView) → IsExpr e → Part (expr_text e) (expr_before e)
    expr_part (lit n) p = number_part n p
    expr_part (named x es) p = named_part x es p.0 (exprs_part es p.1)
    expr_part nat32 p = symbol (codes "#") Hash refl refl
    expr_part (bits es) p =
        in_parens (codes "##") (sign HashHash) es (symbol (codes "##") HashHash refl refl) (exprs_part es p.1)
    expr_part (below es) p =
        in_parens (codes "#<") (sign HashLess) es (symbol (codes "#<") HashLess refl refl) (exprs_part es p.1)
    expr_part (up_to es) p =
        in_parens (codes "#<=") (sign HashLessEqual) es (symbol (codes "#<=") HashLessEqual refl refl) (exprs_part es p.1)
    expr_part (plus a b) p = two_terms 43 Plus refl refl (expr_part a p.0) (expr_part b p.1)
    expr_part (star a b) p = two_terms 42 Asterisk refl refl (expr_part a p.0) (expr_part b p.1)
    expr_part (out e) p = free_then (mark 126 Tilde refl refl) (expr_part e p)
    expr_part (ref e) p = free_then (mark 94 Caret refl refl) (expr_part e p)
    expr_part (group is) p = closed (free_then (mark 91 OpenBracket refl refl) (items_part is p.1)) close_bracket

    exprs_part : (es : ExprList) → AreExprs es → Part (spaced es) (exprs_before es)
    exprs_part no_exprs p = nothing
    exprs_part (an_expr e es) p =
        part_then (free_then space.free (expr_part e p.0)) (spaced_ends es) (exprs_part es p.1)

    type_part : (t : TypeView) → IsType t → Part (type_text t) (type_before t)
    type_part (plain e) p = expr_part e p
    type_part (when c e) p = free_then (broken (expr_part c p.0) question) (expr_part e p.1)
    type_part (when_bit c k e) p =
        let tested = free_then (broken (expr_part c p.1) dot) (number_part k (omega (arith, p.0))) in
        free_then (broken tested question) (expr_part e p.2)

    item_part : (i : ItemView) → IsItem i → Part (item_text i) (item_before i)
    item_part (implicit x k) p =
        let name = free_then open_brace.free (word_part x p) in
        closed (free_then (broken name colon) (kind_part k)) close_brace
    item_part (check a op b) p =
        let left = free_then open_brace.free (expr_part a p.0) in
        let with_op = free_then (broken left space) (op_part op) in
        closed (free_then (broken with_op space) (expr_part b p.1)) close_brace
    item_part (explicit x t) p = free_then (broken (head_part x p.0) colon) (type_part t p.1)

    items_part : (is : ItemList) → AreItems is → Part (spaced_items is) (items_before is)
    items_part no_items p = nothing
    items_part (an_item i is) p =
        part_then (free_then space.free (item_part i p.0)) (items_end is) (items_part is p.1)

  -- ---- constructors

  abbrev unended : ConstructorView → List Lexeme → List Lexeme
  unended c ls = exotic_before c.exotic
      (head c.name ∷ marked c.tag (items_before c.items (sign Equal ∷ word c.result ∷ exprs_before c.params ls)))

  exotic_free : (b : Bool) → Free (exotic_text b) (exotic_before b)
  exotic_free true = mark 33 Bang refl refl
  exotic_free false = record { goes = λ text ls p. p }

  constructor_part : (c : ConstructorView) → IsConstructor c → Part (constructor_text c) (unended c)
  constructor_part c p =
      let marked_name = part_then (free_then (exotic_free c.exotic) (head_part c.name p.name)) (tag_ends c.tag) (tag_part c.tag p.tag) in
      let with_items = part_then marked_name (items_end c.items) (items_part c.items p.items) in
      let with_result = free_then (broken with_items (between 61 Equal refl refl)) (word_part c.result p.result) in
      part_then with_result (spaced_ends c.params) (exprs_part c.params p.params)

  -- the canonical text and a semicolon are made of these pieces
  pub canonical_pieces : (c : ConstructorView) → IsConstructor c
      → Pieces (constructor_text c ++ codes ";") (constructor_before c [])
  canonical_pieces c p =
      (constructor_part c p).goes (codes ";") (sign Semicolon ∷ []) refl (semicolon.free.goes [] [] no_piece)
