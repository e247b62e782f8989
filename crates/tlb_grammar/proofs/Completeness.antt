-- What is written is built so: one function for each production.
use Rattle.std.proofs.Common.{◌≡◌, ℕ, Bool, List, [], ◌∷◌, ◌++◌, map, Option, Some, None, refl, sym, ap, ◌∙◌, subst, append_assoc}
use Rattle.std.specs.Prelude.{codes}
use Rattle.std.proofs.lemmas.List.{append-nil}
use Rattle.tlb_syntax.specs.declared.sign.Sign.{Sign}
use Rattle.tlb_syntax.specs.declared.sign.Sign.TheVariants.{Hash, Colon, CloseBrace}
use Rattle.tlb_syntax.specs.declared.tree.ParamKind.TheVariants.{Nat, Ty}
use Rattle.tlb_syntax.specs.declared.tree.Expr.{Expr}
use Rattle.tlb_syntax.specs.declared.tree.Expr.TheVariants as exprs
use Rattle.tlb_syntax.specs.declared.tree.FieldType.{FieldType}
use Rattle.tlb_syntax.specs.declared.tree.FieldType.TheVariants as types
use Rattle.tlb_syntax.specs.declared.tree.Item.{Item}
use Rattle.tlb_syntax.specs.declared.tree.Item.TheVariants.{Implicit, Check, Explicit}
use Rattle.tlb_syntax.specs.declared.tree.Tag.{Tag}
use Rattle.tlb_syntax.specs.declared.tree.Tag.TheVariants.{Computed, Given}
use Rattle.tlb_syntax.specs.declared.tree.Constructor.{Constructor}
use Rattle.tlb_syntax.specs.Lexeme.{Lexeme, word, sign}
use Rattle.tlb_syntax.specs.Tree.{ExprView, ExprList, ItemView, ItemList, TypeView, TagView, ConstructorView, SchemaView, named, bits, below, up_to, plus, star, out, ref, group, no_exprs, an_expr, plain, when, when_bit, check, explicit, an_item, nested}
use Rattle.tlb_syntax.specs.View as view
use Rattle.tlb_grammar.proofs.Views.{lit_seen, named_seen, nat32_seen, bits_seen, below_seen, up_to_seen, sum_seen, star_seen, out_seen, ref_seen, group_seen, plain_seen, when_seen, when_bit_seen, implicit_seen, check_seen, explicit_seen}
use Rattle.tlb_syntax.specs.Grammar.{Count, Bounds, Tagged, tagged, untagged, Term, Terms, Apply, Product, Sum, Addends, Typed, AnItem, Items, Params, Declared, Declaration, Declarations, TypeWord, a_number, a_name, a_hash, an_output, a_reference, a_paren, a_record, no_terms, a_term, of_name, of_bits, of_below, of_up_to, of_term, one_factor, two_factors, a_sum, no_addend, an_addend, always, on_number, on_bit, of_numbers, of_types, a_check, a_field, a_bare_field, no_item, one_item, no_param, a_param, a_declaration, of_ordinary, of_exotic, no_declaration, one_more}
use Rattle.tlb_grammar.specs.declared.state.OpenSum.{OpenSum}
use Rattle.tlb_grammar.specs.declared.state.Width.{Width}
use Rattle.tlb_grammar.specs.declared.state.Guard.TheVariants as guards
use Rattle.tlb_grammar.specs.declared.state.Heading.{Heading}
use Rattle.tlb_grammar.specs.declared.state.ParserState.{ParserState}
use Rattle.tlb_grammar.specs.declared.state.ParserState.TheVariants as modes
use Rattle.tlb_grammar.specs.declared.state.Frame.{Frame}
use Rattle.tlb_grammar.specs.declared.state.Frame.TheVariants as frames
use Rattle.tlb_grammar.proofs.BuilderSteps.{Reaches, both, AfterOperand, AfterFirstTerm, BetweenItems, star_goes, plus_goes, paren_goes, left_goes, right_goes, question_goes, dot_goes, typed_after, brace_goes, head_goes, bracket_goes, equal_goes, begins, type_begins, argument_goes, param_goes, field_goes, number_goes, word_goes, hash_goes, tilde_goes, caret_goes, open_paren_goes, open_bracket_goes, out_given, ref_given, operand_given, argument_given, width_given, field_given, guarded_given, param_given, Opens, operand_goes, bare_goes, name_operand_goes, name_item_goes, Widens, width_goes, numbers_goes, types_goes, start_goes, tag_goes, semicolon_goes, goes, mode_of, named_operand, other_operand, first_term, first_name, after_items, by_bits, by_below, by_up_to, number_opens, hash_opens, tilde_opens, caret_opens, paren_opens, bracket_opens, gives, Naming, at_start, at_mark, bang_goes}
use Rattle.tlb_grammar.specs.Builder as builder
use Rattle.tlb_grammar.specs.declared.state.Terms.{Terms as SumTerms}
use Rattle.tlb_grammar.specs.declared.state.Terms.TheVariants.{Zero, One, Several}
use Rattle.tlb_grammar.specs.Builder.{State, at, run, no_sum, factored, times, with_term, added, whole, closed, limited, with_item, with_field, with_result}

-- ---- what a production builds

record TermBuilt (s : List Lexeme) (e : ExprView) (r : List Lexeme) : Type 0 where
  value : Expr
  same : view.expr value ≡ e
  runs : (under : List Frame) (cs : List Constructor)
      → run (at modes.Term under cs) s ≡ goes (builder.given value under cs) r

record TermsBuilt (s : List Lexeme) (es : ExprList) (r : List Lexeme) : Type 0 where
  values : List Expr
  same : view.exprs values ≡ es
  runs : (sum : OpenSum) (x : List ℕ) (before : List Expr) (under : List Frame) (cs : List Constructor)
      → run (at (modes.Applied sum x before) under cs) s ≡ run (at (modes.Applied sum x (before ++ values)) under cs) r

record OperandBuilt (s : List Lexeme) (e : ExprView) (r : List Lexeme) : Type 0 where
  value : Expr
  same : view.expr value ≡ e
  reach : (sum : OpenSum) → Reaches (mode_of (modes.Apply sum)) s (AfterOperand sum value) r

abbrev sum_at : SumTerms → Option Expr → OpenSum
sum_at terms factor = record { terms = terms; factor = factor }

record ProductBuilt (s : List Lexeme) (e : ExprView) (r : List Lexeme) : Type 0 where
  factor : Option Expr
  value : Expr
  same : view.expr (factored factor value) ≡ e
  reach : (terms : SumTerms)
      → Reaches (mode_of (modes.Apply (sum_at terms None))) s (AfterOperand (sum_at terms factor) value) r

-- from these states a sum
record SumBuilt (from : List Frame → List Constructor
    → State) (s : List Lexeme) (e : ExprView) (r : List Lexeme) : Type 0 where
  sum : OpenSum
  value : Expr
  same : view.expr (closed sum value) ≡ e
  reach : Reaches from s (AfterOperand sum value) r

-- the first term of a field
record FirstBuilt (done : List Item) (name : Option (List ℕ)) (from : List Frame → List Constructor
    → State) (s : List Lexeme) (e : ExprView) (r : List Lexeme) : Type 0 where
  value : Expr
  same : view.expr value ≡ e
  reach : Reaches from s (AfterFirstTerm done name value) r

-- the type of a field
record TypedBuilt (done : List Item) (name : Option (List ℕ)) (from : List Frame → List Constructor
    → State) (s : List Lexeme) (t : TypeView) (r : List Lexeme) : Type 0 where
  value : FieldType
  same : view.field_type value ≡ t
  reach : Reaches from s (BetweenItems (with_field done name value)) r

record ItemBuilt (done : List Item) (mode : ParserState) (s : List Lexeme) (i : ItemView)
    (r : List Lexeme) : Type 0 where
  value : Item
  same : view.item value ≡ i
  reach : Reaches (mode_of mode) s (BetweenItems (with_item done value)) r

record ItemsBuilt (done : List Item) (mode : ParserState) (s : List Lexeme) (is : ItemList)
    (r : List Lexeme) : Type 0 where
  values : List Item
  same : view.items values ≡ is
  reach : Reaches (mode_of mode) s (BetweenItems (done ++ values)) r

-- ---- steps of the productions

-- states that do the same on the lexemes lead to the same
led : {from other : List Frame → List Constructor → State} {s t : List Lexeme} {P : ParserState
    → Type 0} {r : List Lexeme}
    → ((under : List Frame) (cs : List Constructor) → run (from under cs) s ≡ run (other under cs) t)
    → Reaches other t P r → Reaches from s P r
led e a = record { next = a.next; state = a.state; runs = λ under cs. e under cs ∙ a.runs under cs }

-- after a term that is an operand
operand : {s : List Lexeme} {e : ExprView} {r : List Lexeme} → Opens s → TermBuilt s e r → OperandBuilt s e r
operand {r = r} o b = record {
  value = b.value;
  same = b.same;
  reach = λ sum. record {
    next = modes.Operated sum b.value;
    state = other_operand;
    runs = λ under cs. operand_goes o sum under cs ∙ b.runs (frames.Operand sum ∷ under) cs ∙ gives r (operand_given b.value sum under cs);
  };
}

operand_of : {m : Bounds} {d : Count} {s : List Lexeme} {e : ExprView} {r : List Lexeme} → Term m d s e r
    → TermBuilt s e r → OperandBuilt s e r
operand_of a_number b = operand number_opens b
operand_of (a_name {x = x} {r = r}) b = record {
  value = exprs.Named x [];
  same = named_seen x [];
  reach = λ sum. record { next = modes.Applied sum x []; state = named_operand; runs = name_operand_goes x r sum };
}
operand_of a_hash b = operand hash_opens b
operand_of (an_output x y) b = operand tilde_opens b
operand_of (a_reference x y) b = operand caret_opens b
operand_of (a_paren x y) b = operand paren_opens b
operand_of (a_record x y) b = operand bracket_opens b

-- after the first term of a field with a name, or `_`
named_first : {s : List Lexeme} {e : ExprView} {r : List Lexeme} (done : List Item) (name : Option (List ℕ))
    → TermBuilt s e r
    → FirstBuilt done name (λ under cs. at modes.Term (frames.Field done name ∷ under) cs) s e r
named_first {r = r} done name b = record {
  value = b.value;
  same = b.same;
  reach = record { next = modes.Typed done name b.value; state = first_term; runs = λ under cs. b.runs (frames.Field done name ∷ under) cs ∙ gives r (field_given b.value done name under cs) };
}

-- after the first term of another field
bare : {s : List Lexeme} {e : ExprView} {r : List Lexeme} (done : List Item) → Opens s → TermBuilt s e r
    → FirstBuilt done None (mode_of (modes.Items done)) s e r
bare done o b = let f = named_first done None b in record { value = f.value; same = f.same; reach = led (bare_goes o done) f.reach }

bare_first : {m : Bounds} {d : Count} {s : List Lexeme} {e : ExprView} {r : List Lexeme} (done : List Item)
    → Term m d s e r → TermBuilt s e r → FirstBuilt done None (mode_of (modes.Items done)) s e r
bare_first done a_number b = bare done number_opens b
bare_first done (a_name {x = x} {r = r}) b = record {
  value = exprs.Named x [];
  same = named_seen x [];
  reach = record { next = modes.ItemName done x; state = first_name; runs = name_item_goes x r done };
}
bare_first done a_hash b = bare done hash_opens b
bare_first done (an_output x y) b = bare done tilde_opens b
bare_first done (a_reference x y) b = bare done caret_opens b
bare_first done (a_paren x y) b = bare done paren_opens b
bare_first done (a_record x y) b = bare done bracket_opens b

-- after the argument of a `##`, `#<` or `#<=`
limited_built : {s : List Lexeme} {e : ExprView} {r : List Lexeme} {c : Sign} {w : Width} → TermBuilt s e r
    → (build : ExprList → ExprView) → ((v : Expr) → view.expr (limited w v) ≡ build (an_expr (view.expr v) no_exprs))
    → Widens c w → OperandBuilt (sign c ∷ s) (build (an_expr e no_exprs)) r
limited_built {s = s} {r = r} {w = w} b build seen widens = record {
  value = limited w b.value;
  same = seen b.value ∙ ap (λ z. build (an_expr z no_exprs)) b.same;
  reach = λ sum. record {
    next = modes.Operated sum (limited w b.value);
    state = other_operand;
    runs = λ under cs. width_goes widens s sum under cs ∙ b.runs (frames.Width sum w ∷ under) cs ∙ gives r (width_given b.value sum w under cs);
  };
}

-- one term more
nested_last : (t : ExprView) (us : List Expr) (u : Expr)
    → nested t (map view.expr (us ++ u ∷ [])) ≡ plus (nested t (map view.expr us)) (view.expr u)
nested_last t [] u = refl
nested_last t (v ∷ us) u = nested_last (plus t (view.expr v)) us u

whole_last : (ts : SumTerms) (t u : Expr)
    → view.expr (whole (with_term ts t) u) ≡ plus (view.expr (whole ts t)) (view.expr u)
whole_last Zero t u = sum_seen t u []
whole_last (One a) t u = sum_seen a t (u ∷ []) ∙ ap (λ z. plus z (view.expr u)) (sym (sum_seen a t []))
whole_last (Several a b es) t u =
    sum_seen a b ((es ++ t ∷ []) ++ u ∷ []) ∙ nested_last (plus (view.expr a) (view.expr b)) (es ++ t ∷ []) u
    ∙ ap (λ z. plus z (view.expr u)) (sym (sum_seen a b (es ++ t ∷ [])))

-- an operand after the sum so far
plus_last : (sum : OpenSum) (t : Expr) (factor : Option Expr) (u : Expr) (a b : ExprView)
    → view.expr (closed sum t) ≡ a → view.expr (factored factor u) ≡ b
    → view.expr (closed (sum_at (added sum t).terms factor) u) ≡ plus a b
plus_last sum t factor u a b p q =
    whole_last sum.terms (factored sum.factor t) (factored factor u) ∙ ap (λ z. plus z (view.expr (factored factor u))) p ∙ ap (λ z. plus a z) q

mutual
  term_built : {m : Bounds} {d : Count} {s : List Lexeme} {e : ExprView} {r : List Lexeme} → Term m d s e r
      → TermBuilt s e r
  term_built (a_number {n = n} {r = r}) = record { value = exprs.Lit n; same = lit_seen n; runs = number_goes n r }
  term_built (a_name {x = x} {r = r}) = record { value = exprs.Named x []; same = named_seen x []; runs = word_goes x r }
  term_built (a_hash {r = r}) = record { value = exprs.Nat32; same = nat32_seen; runs = hash_goes r }
  term_built (an_output {s = s} {r = r} x y) =
      let b = term_built y in
      record {
        value = exprs.Out b.value;
        same = out_seen b.value ∙ ap out b.same;
        runs = λ under cs. tilde_goes s under cs ∙ b.runs (frames.Out ∷ under) cs ∙ gives r (out_given b.value under cs);
      }
  term_built (a_reference {s = s} {r = r} x y) =
      let b = term_built y in
      record {
        value = exprs.Ref b.value;
        same = ref_seen b.value ∙ ap ref b.same;
        runs = λ under cs. caret_goes s under cs ∙ b.runs (frames.Ref ∷ under) cs ∙ gives r (ref_given b.value under cs);
      }
  term_built (a_paren {s = s} {r = r} x y) =
      let b = sum_built y in
      record { value = closed b.sum b.value; same = b.same; runs = λ under cs. open_paren_goes s under cs ∙ b.reach.runs (frames.Paren ∷ under) cs ∙ paren_goes b.reach.state r under cs }
  term_built (a_record {s = s} {r = r} x y) =
      let b = items_built y [] (modes.Items []) after_items in
      record {
        value = exprs.Group b.values;
        same = group_seen b.values ∙ ap group b.same;
        runs = λ under cs. open_bracket_goes s under cs ∙ b.reach.runs (frames.Record ∷ under) cs ∙ bracket_goes b.reach.state r under cs;
      }

  terms_built : {m : Bounds} {d : Count} {s : List Lexeme} {es : ExprList} {r : List Lexeme} → Terms m d s es r
      → TermsBuilt s es r
  terms_built (no_terms {r = r}) = record { values = []; same = refl; runs = λ sum x before under cs. ap (λ z. run (at (modes.Applied sum x z) under cs) r) (sym (append-nil before)) }
  terms_built (a_term {mid = mid} {r = r} x y) =
      let b = term_built x in
      let c = terms_built y in
      record {
        values = b.value ∷ c.values;
        same = both an_expr b.same c.same;
        runs = λ sum name before under cs.
            argument_goes (begins x) sum name before under cs ∙ b.runs (frames.Argument sum name before ∷ under) cs
            ∙ gives mid (argument_given b.value sum name before under cs) ∙ c.runs sum name (before ++ b.value ∷ []) under cs
            ∙ ap (λ z. run (at (modes.Applied sum name z) under cs) r) (append_assoc before (b.value ∷ []) c.values);
      }

  operand_built : {m : Bounds} {d : Count} {s : List Lexeme} {e : ExprView} {r : List Lexeme} → Apply m d s e r
      → OperandBuilt s e r
  operand_built (of_name {x = x} {s = s} y) =
      let b = terms_built y in
      record {
        value = exprs.Named x b.values;
        same = named_seen x b.values ∙ ap (named x) b.same;
        reach = λ sum. record { next = modes.Applied sum x b.values; state = named_operand; runs = λ under cs. name_operand_goes x s sum under cs ∙ b.runs sum x [] under cs };
      }
  operand_built (of_bits x) = limited_built (term_built x) bits (λ v. bits_seen (v ∷ [])) by_bits
  operand_built (of_below x) = limited_built (term_built x) below (λ v. below_seen (v ∷ [])) by_below
  operand_built (of_up_to x) = limited_built (term_built x) up_to (λ v. up_to_seen (v ∷ [])) by_up_to
  operand_built (of_term x) = operand_of x (term_built x)

  product_built : {m : Bounds} {d : Count} {s : List Lexeme} {e : ExprView} {r : List Lexeme} → Product m d s e r
      → ProductBuilt s e r
  product_built (one_factor x) =
      let b = operand_built x in
      record { factor = None; value = b.value; same = b.same; reach = λ terms. b.reach (sum_at terms None) }
  product_built (two_factors {mid = mid} x y) =
      let a = operand_built x in
      let b = operand_built y in
      record {
        factor = Some a.value;
        value = b.value;
        same = star_seen a.value b.value ∙ both star a.same b.same;
        reach = λ terms.
            let prefix = a.reach (sum_at terms None) in
            led (λ under cs. prefix.runs under cs ∙ star_goes prefix.state mid under cs) (b.reach (sum_at terms (Some a.value)));
      }

  sum_built : {m : Bounds} {d : Count} {s : List Lexeme} {e : ExprView} {r : List Lexeme} → Sum m d s e r
      → SumBuilt (mode_of (modes.Apply no_sum)) s e r
  sum_built (a_sum x y) =
      let a = product_built x in
      let prefix = a.reach Zero in
      let b = addends_built y (sum_at Zero a.factor) a.value prefix.next a.same prefix.state in
      record { sum = b.sum; value = b.value; same = b.same; reach = led prefix.runs b.reach }

  addends_built : {m : Bounds} {d : Count} {a : ExprView} {s : List Lexeme} {e : ExprView} {r : List Lexeme}
      → Addends m d a s e r
      → (sum : OpenSum) (value : Expr) (mode : ParserState) → view.expr (closed sum value) ≡ a
      → AfterOperand sum value mode → SumBuilt (mode_of mode) s e r
  addends_built no_addend sum value mode same h = record { sum = sum; value = value; same = same; reach = record { next = mode; state = h; runs = λ under cs. refl } }
  addends_built (an_addend {s = s} {a = a} {b = b} x y) sum value mode same h =
      let p = product_built x in
      let prefix = p.reach (added sum value).terms in
      let rest = addends_built y (sum_at (added sum value).terms p.factor) p.value prefix.next (plus_last sum value p.factor p.value a b same p.same) prefix.state in
      record { sum = rest.sum; value = rest.value; same = rest.same; reach = led (λ under cs. plus_goes h s under cs ∙ prefix.runs under cs) rest.reach }

  typed_built : {m : Bounds} {d : Count} {s : List Lexeme} {t : TypeView} {r : List Lexeme} → Typed m d s t r
      → (done : List Item) (name : Option (List ℕ)) (from : List Frame → List Constructor → State)
      → ((e : ExprView) (mid : List Lexeme) → Term m d s e mid → TermBuilt s e mid
      → FirstBuilt done name from s e mid) → TypedBuilt done name from s t r
  typed_built (always x) done name from first =
      let a = first _ _ x (term_built x) in
      record {
        value = types.Plain a.value;
        same = plain_seen a.value ∙ ap plain a.same;
        reach = record { next = a.reach.next; state = typed_after a.reach.state; runs = a.reach.runs };
      }
  typed_built (on_number {mid = mid} {r = r} x y) done name from first =
      let a = first _ _ x (term_built x) in
      let b = term_built y in
      record {
        value = types.If a.value b.value;
        same = when_seen a.value b.value ∙ both when a.same b.same;
        reach = record {
          next = modes.Items (with_field done name (types.If a.value b.value));
          state = after_items;
          runs = λ under cs. a.reach.runs under cs ∙ question_goes a.reach.state mid under cs ∙ b.runs (frames.Guarded done name (guards.Number a.value) ∷ under) cs ∙ gives r (guarded_given b.value done name (guards.Number a.value) under cs);
        };
      }
  typed_built (on_bit {k = k} {mid = mid} {r = r} h x y) done name from first =
      let a = first _ _ x (term_built x) in
      let b = term_built y in
      record {
        value = types.IfBit a.value k b.value;
        same = when_bit_seen a.value k b.value ∙ both (λ v w. when_bit v k w) a.same b.same;
        reach = record {
          next = modes.Items (with_field done name (types.IfBit a.value k b.value));
          state = after_items;
          runs = λ under cs. a.reach.runs under cs ∙ dot_goes a.reach.state k mid under cs ∙ b.runs (frames.Guarded done name (guards.Bit a.value k) ∷ under) cs ∙ gives r (guarded_given b.value done name (guards.Bit a.value k) under cs);
        };
      }

  item_built : {m : Bounds} {d : Count} {s : List Lexeme} {i : ItemView} {r : List Lexeme} → AnItem m d s i r
      → (done : List Item) (mode : ParserState) → BetweenItems done mode → ItemBuilt done mode s i r
  item_built (of_numbers {x = x} {r = r}) done mode h = record {
    value = Implicit x Nat;
    same = implicit_seen x Nat;
    reach = record { next = modes.Items (with_item done (Implicit x Nat)); state = after_items; runs = λ under cs. brace_goes h (word x ∷ sign Colon ∷ sign Hash ∷ sign CloseBrace ∷ r) under cs ∙ numbers_goes x r done under cs };
  }
  item_built (of_types {x = x} {r = r}) done mode h = record {
    value = Implicit x Ty;
    same = implicit_seen x Ty;
    reach = record { next = modes.Items (with_item done (Implicit x Ty)); state = after_items; runs = λ under cs. brace_goes h (word x ∷ sign Colon ∷ word (codes "Type") ∷ sign CloseBrace ∷ r) under cs ∙ types_goes x r done under cs };
  }
  item_built (a_check {s = s} {mid = mid} {r = r} {op = op} c x y) done mode h =
      let a = sum_built x in
      let b = sum_built y in
      let left = closed a.sum a.value in
      let right = closed b.sum b.value in
      record {
        value = Check left op right;
        same = check_seen left right op ∙ both (λ v w. check v op w) a.same b.same;
        reach = record {
          next = modes.Items (with_item done (Check left op right));
          state = after_items;
          runs = λ under cs.
              brace_goes h s under cs ∙ a.reach.runs (frames.Left done ∷ under) cs ∙ left_goes a.reach.state c mid done under cs
              ∙ b.reach.runs (frames.Right done left op ∷ under) cs ∙ right_goes b.reach.state r done left op under cs;
        };
      }
  item_built (a_field {s = s} {x = x} n y) done mode h =
      let b = typed_built y done x (λ under cs. at modes.Term (frames.Field done x ∷ under) cs) (λ e mid t c. named_first done x c) in
      record { value = Explicit x b.value; same = explicit_seen x b.value ∙ ap (explicit x) b.same; reach = led (head_goes h n s) b.reach }
  item_built (a_bare_field y) done mode h =
      let b = typed_built y done None (mode_of (modes.Items done)) (λ e mid t c. bare_first done t c) in
      record { value = Explicit None b.value; same = explicit_seen None b.value ∙ ap (explicit None) b.same; reach = led (field_goes (type_begins y) h) b.reach }

  items_built : {m : Bounds} {d k : Count} {s : List Lexeme} {is : ItemList} {r : List Lexeme} → Items m d k s is r
      → (done : List Item) (mode : ParserState) → BetweenItems done mode → ItemsBuilt done mode s is r
  items_built no_item done mode h =
      let P : List Item → Type 0 = λ z. BetweenItems z mode in
      record { values = []; same = refl; reach = record { next = mode; state = subst P (sym (append-nil done)) h; runs = λ under cs. refl } }
  items_built (one_item x y z) done mode h =
      let a = item_built y done mode h in
      let b = items_built z (with_item done a.value) a.reach.next a.reach.state in
      let P : List Item → Type 0 = λ w. BetweenItems w b.reach.next in
      record {
        values = a.value ∷ b.values;
        same = both an_item a.same b.same;
        reach = record { next = b.reach.next; state = subst P (append_assoc done (a.value ∷ []) b.values) b.reach.state; runs = λ under cs. a.reach.runs under cs ∙ b.reach.runs under cs };
      }

-- ---- declarations

abbrev with_params : Constructor → List Expr → Constructor
with_params c es = record { exotic = c.exotic; name = c.name; tag = c.tag; items = c.items; result = c.result; params = c.params ++ es }

record ParamsBuilt (c : Constructor) (s : List Lexeme) (es : ExprList) (r : List Lexeme) : Type 0 where
  values : List Expr
  same : view.exprs values ≡ es
  runs : (under : List Frame) (cs : List Constructor)
      → run (at (modes.Params c) under cs) s ≡ run (at (modes.Params (with_params c values)) under cs) r

params_built : {m : Bounds} {k : Count} {s : List Lexeme} {es : ExprList} {r : List Lexeme} → Params m k s es r
    → (c : Constructor) → ParamsBuilt c s es r
params_built (no_param {r = r}) c = record { values = []; same = refl; runs = λ under cs. ap (λ z. run (at (modes.Params (record c { params = z })) under cs) r) (sym (append-nil c.params)) }
params_built (a_param {mid = mid} {r = r} x y z) c =
    let a = term_built y in
    let b = params_built z (builder.with_param c a.value) in
    record {
      values = a.value ∷ b.values;
      same = both an_expr a.same b.same;
      runs = λ under cs.
          param_goes (begins y) c under cs ∙ a.runs (frames.Param c ∷ under) cs ∙ gives mid (param_given a.value c under cs) ∙ b.runs under cs
          ∙ ap (λ w. run (at (modes.Params (record c { params = w })) under cs) r) (append_assoc c.params (a.value ∷ []) b.values);
    }

record TagBuilt (s : List Lexeme) (t : TagView) (r : List Lexeme) : Type 0 where
  mark : Tag
  same : view.tag mark ≡ t
  runs : (exotic : Bool) (name : Option (List ℕ)) (under : List Frame) (cs : List Constructor)
      → run (at (modes.Items []) (frames.Declaration (builder.untagged exotic name) ∷ under) cs) s
      ≡ run (at (modes.Items []) (frames.Declaration (record { exotic = exotic; name = name; tag = mark }) ∷ under) cs) r

tag_built : {s : List Lexeme} {t : TagView} {r : List Lexeme} → Tagged s t r → TagBuilt s t r
tag_built (tagged {b = b} {s = s}) = record { mark = Given b; same = refl; runs = tag_goes b s }
tag_built untagged = record { mark = Computed; same = refl; runs = λ exotic name under cs. refl }

record DeclarationBuilt (mode : ParserState) (s : List Lexeme) (c : ConstructorView) (r : List Lexeme) : Type 0 where
  value : Constructor
  same : view.constructor value ≡ c
  runs : (cs : List Constructor) → run (at mode [] cs) s ≡ run (at modes.Start [] (cs ++ value ∷ [])) r

declared_built : {m : Bounds} {exotic : Bool} {mode : ParserState} {s : List Lexeme} {c : ConstructorView}
    {r : List Lexeme} → Naming exotic mode → Declared m exotic s c r → DeclarationBuilt mode s c r
declared_built {exotic = exotic} n (a_declaration {s = s} {after_items = rest} {r = r} {x = x} {y = y} h t is ps) =
    let mark = tag_built t in
    let items = items_built is [] (modes.Items []) after_items in
    let heading : Heading = record { exotic = exotic; name = x; tag = mark.mark } in
    let head = with_result heading items.values y in
    let params = params_built ps head in
    record {
      value = with_params head params.values;
      same = λ i. record { exotic = exotic; name = x; tag = mark.same i; items = items.same i; result = y; params = params.same i };
      runs = λ cs.
          start_goes n h s [] cs ∙ mark.runs exotic x [] cs ∙ items.reach.runs (frames.Declaration heading ∷ []) cs
          ∙ equal_goes items.reach.state heading y rest [] cs ∙ params.runs [] cs ∙ semicolon_goes r (with_params head params.values) [] cs;
    }

declaration_built : {m : Bounds} {s : List Lexeme} {c : ConstructorView} {r : List Lexeme} → Declaration m s c r
    → DeclarationBuilt modes.Start s c r
declaration_built (of_ordinary d) = declared_built at_start d
declaration_built (of_exotic {s = s} d) =
    let b = declared_built at_mark d in
    record { value = b.value; same = b.same; runs = λ cs. bang_goes s [] cs ∙ b.runs cs }

record SchemaBuilt (s : List Lexeme) (t : SchemaView) : Type 0 where
  values : List Constructor
  same : map view.constructor values ≡ t
  runs : (cs : List Constructor) → run (at modes.Start [] cs) s ≡ Some (at modes.Start [] (cs ++ values))

schema_from : {m : Bounds} {s : List Lexeme} {t : SchemaView} → Declarations m s t → SchemaBuilt s t
schema_from no_declaration = record { values = []; same = refl; runs = λ cs. ap (λ z. Some (at modes.Start [] z)) (sym (append-nil cs)) }
schema_from (one_more x y) =
    let a = declaration_built x in
    let b = schema_from y in
    record {
      values = a.value ∷ b.values;
      same = both (λ c cs. c ∷ cs) a.same b.same;
      runs = λ cs. a.runs cs ∙ b.runs (cs ++ a.value ∷ []) ∙ ap (λ z. Some (at modes.Start [] z)) (append_assoc cs (a.value ∷ []) b.values);
    }

-- ---- whole texts

-- the declarations that are built, where some are written
pub record Built {X Y : Type 0} (found : Option X) (seen : X → Y) (t : Y) : Type 0 where
  pub value : X
  pub is : found ≡ Some value
  pub same : seen value ≡ t

pub schema_built : (m : Bounds) (ls : List Lexeme) (t : SchemaView) → Declarations m ls t
    → Built (builder.built_schema ls) (map view.constructor) t
schema_built m ls t w = let b = schema_from w in record { value = b.values; is = ap (builder.ended builder.schema_end) (b.runs []); same = b.same }

word_ends : {sum : OpenSum} {e : Expr} {mode : ParserState} → AfterOperand sum e mode
    → builder.word_end (at mode [] []) ≡ Some (closed sum e)
word_ends named_operand = refl
word_ends other_operand = refl

pub word_built : (m : Bounds) (ls : List Lexeme) (e : ExprView) → TypeWord m ls e
    → Built (builder.built_word ls) view.expr e
word_built m ls e w =
    let b = sum_built w in
    record { value = closed b.sum b.value; is = ap (builder.ended builder.word_end) (b.reach.runs [] []) ∙ word_ends b.reach.state; same = b.same }

some_one : {X : Type 0} (x y : X) → Some x ≡ Some y → x ≡ y
some_one x y e = cc

-- what is built is one
one_built : {X Y : Type 0} {found : Option X} {seen : X → Y} {s t : Y} → Built found seen s → Built found seen t → s ≡ t
one_built {seen = seen} a b = sym a.same ∙ ap seen (some_one a.value b.value (sym a.is ∙ b.is)) ∙ b.same

pub schema_once : (m : Bounds) (ls : List Lexeme) (s t : SchemaView) → Declarations m ls s → Declarations m ls t → s ≡ t
schema_once m ls s t v w = one_built (schema_built m ls s v) (schema_built m ls t w)

pub word_once : (m : Bounds) (ls : List Lexeme) (e f : ExprView) → TypeWord m ls e → TypeWord m ls f → e ≡ f
word_once m ls e f v w = one_built (word_built m ls e v) (word_built m ls f w)
