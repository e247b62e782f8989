-- The verdicts of sums of numbers.
use Rattle.std.proofs.Common.{◌≡◌, ap, sym, ◌∙◌, refl, ℕ, List, [], ◌∷◌, ◌++◌, map, Bool, true, false, ◌||◌}
use Rattle.std.specs.Prelude.{Option, Some, None, Result, Err, if◌then◌else◌}
use Rattle.tlb_syntax.specs.declared.tree.Expr.{Expr}
use Rattle.tlb_syntax.specs.declared.tree.Expr.TheVariants.{Sum}
use Rattle.tlb_syntax.specs.View.{expr, exprs}
use Rattle.kind_terms.specs.ViewLaws.{seen_sum}
use Rattle.tlb_syntax.specs.Tree.{ExprView, plus, exprs_of, nested}
use Rattle.kind_terms.specs.Closed.{closed, exceeds}
use Rattle.field_path.specs.declared.part.Part.{Part}
use Rattle.kind_terms.specs.Params.{greatest}
use Rattle.kind_terms.specs.Scopes.{Scope}
use Rattle.kind_terms.specs.Words.{Word}
use Rattle.kind_declarations.specs.declared.error.Cause.TheVariants.{TooWide}
use Rattle.kind_declarations.specs.declared.error.Fault.{Fault}
use Rattle.kind_rules.specs.ExpectedKinds.{a_number}
use Rattle.kind_declarations.specs.Nodes.{ItemContext, Judged, a_use, expr_nodes}
use Rattle.kind_declarations.specs.Faults.{FaultAt, Judges, causes, fault_at, first, verdict}
use Rattle.kind_declarations.specs.Parts.{number_nodes}
use Rattle.kind_rules.specs.Sums.{is_past_total, is_sum_past}
use Rattle.kind_declarations.proofs.NumberNodes.{append_none}
use Rattle.kind_declarations.proofs.Verdicts.{append_assoc, or_else, fault_of, judged_from, passed_then, refused_then, verdict_node}

first_if : {X : Type 0} (b : Bool) (x : X) → first (if b then x ∷ [] else []) ≡ (if b then Some x else None)
first_if true x = refl
first_if false x = refl

cause_of_plus : (s : Scope) (n : ℕ) (q : Option Word) (x y : ExprView)
    → first (causes (a_use (record { scope = s; expected = a_number n q; at = plus x y })))
    ≡ (if exceeds n (closed (plus x y)) then Some TooWide else None)
cause_of_plus s n q x y = first_if (exceeds n (closed (plus x y))) TooWide

-- the fault of a sum at the path, or what is found after
abbrev pub wide_or : List Part → Bool → Option FaultAt → Option FaultAt
wide_or p true x = Some (fault_at p TooWide)
wide_or p false x = x

wide_first : (p : List Part) (b : Bool) (x : Option FaultAt)
    → or_else (fault_of p (if b then Some TooWide else None)) x ≡ wide_or p b x
wide_first p true x = refl
wide_first p false x = refl

wide_twice : (p : List Part) (b c : Bool) (x : Option FaultAt) → wide_or p c (wide_or p b x) ≡ wide_or p (b || c) x
wide_twice p true true x = refl
wide_twice p true false x = refl
wide_twice p false true x = refl
wide_twice p false false x = refl

module _ (a : ItemContext) (q : Option Word) where
  plus_verdict : (n : ℕ) (x y : ExprView)
      → verdict (expr_nodes (plus x y) a (Some (a_number n q)))
      ≡ wide_or a.path (exceeds n (closed (plus x y)))
      (verdict (expr_nodes x a (Some (a_number greatest q)) ++ expr_nodes y a (Some (a_number greatest q))))
  plus_verdict n x y =
      let rest = expr_nodes x a (Some (a_number greatest q)) ++ expr_nodes y a (Some (a_number greatest q)) in
      verdict_node a.path (a_use (record { scope = a.scope; expected = a_number n q; at = plus x y })) rest
      ∙ ap (λ c. or_else (fault_of a.path c) (verdict rest)) (cause_of_plus a.scope n q x y)
      ∙ wide_first a.path (exceeds n (closed (plus x y))) (verdict rest)

  -- the nodes after a sum of two terms at the beginning of a longer sum
  after_plus : (x y : ExprView) (us : List ExprView)
      → verdict (expr_nodes (plus x y) a (Some (a_number greatest q)) ++ number_nodes (exprs_of us) a q)
      ≡ wide_or a.path (exceeds greatest (closed (plus x y)))
      (verdict (expr_nodes x a (Some (a_number greatest q)) ++ (expr_nodes y a (Some (a_number greatest q)) ++ number_nodes (exprs_of us) a q)))
  after_plus x y us =
      let first_nodes = expr_nodes x a (Some (a_number greatest q)) in
      let second_nodes = expr_nodes y a (Some (a_number greatest q)) in
      let more = number_nodes (exprs_of us) a q in
      verdict_node a.path (a_use (record { scope = a.scope; expected = a_number greatest q; at = plus x y })) ((first_nodes ++ second_nodes) ++ more)
      ∙ ap (λ js. or_else (fault_of a.path (first (causes (a_use (record { scope = a.scope; expected = a_number greatest q; at = plus x y }))))) (verdict js)) (append_assoc first_nodes second_nodes more)
      ∙ ap (λ c. or_else (fault_of a.path c) (verdict (first_nodes ++ (second_nodes ++ more)))) (cause_of_plus a.scope greatest q x y)
      ∙ wide_first a.path (exceeds greatest (closed (plus x y))) (verdict (first_nodes ++ (second_nodes ++ more)))

  nested_verdict : (n : ℕ) (x y : ExprView) (us : List ExprView)
      → verdict (expr_nodes (nested (plus x y) us) a (Some (a_number n q)))
      ≡ wide_or a.path (is_past_total n (closed (plus x y)) us)
      (verdict (expr_nodes x a (Some (a_number greatest q)) ++ (expr_nodes y a (Some (a_number greatest q)) ++ number_nodes (exprs_of us) a q)))
  nested_verdict n x y [] =
      plus_verdict n x y
      ∙ ap (λ js. wide_or a.path (exceeds n (closed (plus x y))) (verdict (expr_nodes x a (Some (a_number greatest q)) ++ js)))
      (sym (append_none (expr_nodes y a (Some (a_number greatest q)))))
  nested_verdict n x y (v ∷ vs) =
      nested_verdict n (plus x y) v vs
      ∙ ap (wide_or a.path (is_past_total n (closed (plus (plus x y) v)) vs)) (after_plus x y (v ∷ vs))
      ∙ wide_twice a.path (exceeds greatest (closed (plus x y))) (is_past_total n (closed (plus (plus x y) v)) vs)
      (verdict (expr_nodes x a (Some (a_number greatest q)) ++ (expr_nodes y a (Some (a_number greatest q)) ++ number_nodes (exprs_of (v ∷ vs)) a q)))

  seen_verdict : (n : ℕ) (e x y : Expr) (es : List Expr) → e ≡ Sum x y es
      → verdict (expr_nodes (expr e) a (Some (a_number n q)))
      ≡ wide_or a.path (is_sum_past n (expr x) (expr y) (map expr es))
      (verdict (expr_nodes (expr x) a (Some (a_number greatest q)) ++ (expr_nodes (expr y) a (Some (a_number greatest q)) ++ number_nodes (exprs es) a q)))
  seen_verdict n e x y es is =
      ap (λ v. verdict (expr_nodes v a (Some (a_number n q)))) (seen_sum e x y es is) ∙ nested_verdict n (expr x) (expr y) (map expr es)

  -- the terms, as the judge has them
  same_sum : (e x y l r : Expr) (es us : List Expr) → e ≡ Sum x y es → l ≡ x → r ≡ y → us ≡ es → e ≡ Sum l r us
  same_sum e x y l r es us is left right rest =
      is ∙ ap (λ z. Sum z y es) (sym left) ∙ ap (λ z. Sum l z es) (sym right) ∙ ap (Sum l r) (sym rest)

  abbrev pub term_nodes : Expr → Expr → List Expr → List Judged
  term_nodes x y es =
      expr_nodes (expr x) a (Some (a_number greatest q)) ++ (expr_nodes (expr y) a (Some (a_number greatest q)) ++ number_nodes (exprs es) a q)

  pub sum_past : (n : ℕ) (e x y l r : Expr) (es us : List Expr) (b : Bool) → e ≡ Sum x y es → l ≡ x → r ≡ y → us ≡ es
      → b ≡ is_sum_past n (expr l) (expr r) (map expr us) → b ≡ true
      → verdict (expr_nodes (expr e) a (Some (a_number n q))) ≡ Some (fault_at a.path TooWide)
  sum_past n e x y l r es us b is left right rest past met =
      seen_verdict n e l r us (same_sum e x y l r es us is left right rest)
      ∙ ap (λ c. wide_or a.path c (verdict (term_nodes l r us))) (sym past ∙ met)

  sum_within : (n : ℕ) (e x y l r : Expr) (es us : List Expr) (b : Bool) → e ≡ Sum x y es → l ≡ x → r ≡ y → us ≡ es
      → b ≡ is_sum_past n (expr l) (expr r) (map expr us) → b ≡ false
      → verdict (expr_nodes (expr e) a (Some (a_number n q))) ≡ verdict (term_nodes l r us)
  sum_within n e x y l r es us b is left right rest past none =
      seen_verdict n e l r us (same_sum e x y l r es us is left right rest)
      ∙ ap (λ c. wide_or a.path c (verdict (term_nodes l r us))) (sym past ∙ none)

  pub sum_judged : (n : ℕ) (e x y l r m k : Expr) (es us vs : List Expr) (b : Bool) (p : List Part) (res : Result (Unit {0}) Fault)
      → e ≡ Sum x y es → l ≡ x → r ≡ y → us ≡ es → b ≡ is_sum_past n (expr l) (expr r) (map expr us) → b ≡ false
      → m ≡ x → k ≡ y → vs ≡ es → Judges (term_nodes m k vs) p res → Judges (expr_nodes (expr e) a (Some (a_number n q))) p res
  sum_judged n e x y l r m k es us vs b p res is left right rest past none one two more j =
      judged_from _ _ p res
      (sym (sum_within n e x y l r es us b is left right rest past none
      ∙ ap (λ z. verdict (term_nodes z r us)) (left ∙ sym one)
      ∙ ap (λ z. verdict (term_nodes m z us)) (right ∙ sym two)
      ∙ ap (λ z. verdict (term_nodes m k z)) (rest ∙ sym more))) j

  pub first_refused : (n : ℕ) (e x y l r m : Expr) (es us : List Expr) (b : Bool) (p : List Part) (f : Fault)
      → e ≡ Sum x y es → l ≡ x → r ≡ y → us ≡ es → b ≡ is_sum_past n (expr l) (expr r) (map expr us) → b ≡ false
      → m ≡ x → Judges (expr_nodes (expr m) a (Some (a_number greatest q))) p (Err f)
      → Judges (expr_nodes (expr e) a (Some (a_number n q))) p (Err f)
  first_refused n e x y l r m es us b p f is left right rest past none one j =
      sum_judged n e x y l r m y es us es b p (Err f) is left right rest past none one refl refl
      (refused_then (expr_nodes (expr m) a (Some (a_number greatest q)))
      (expr_nodes (expr y) a (Some (a_number greatest q)) ++ number_nodes (exprs es) a q) p f j)

  pub second_refused : (n : ℕ) (e x y l r m k : Expr) (es us : List Expr) (b : Bool) (p : List Part) (f : Fault)
      → e ≡ Sum x y es → l ≡ x → r ≡ y → us ≡ es → b ≡ is_sum_past n (expr l) (expr r) (map expr us) → b ≡ false
      → m ≡ x → k ≡ y → verdict (expr_nodes (expr m) a (Some (a_number greatest q))) ≡ None
      → Judges (expr_nodes (expr k) a (Some (a_number greatest q))) p (Err f)
      → Judges (expr_nodes (expr e) a (Some (a_number n q))) p (Err f)
  second_refused n e x y l r m k es us b p f is left right rest past none one two passed j =
      sum_judged n e x y l r m k es us es b p (Err f) is left right rest past none one two refl
      (passed_then (expr_nodes (expr m) a (Some (a_number greatest q)))
      (expr_nodes (expr k) a (Some (a_number greatest q)) ++ number_nodes (exprs es) a q) p (Err f) passed
      (refused_then (expr_nodes (expr k) a (Some (a_number greatest q))) (number_nodes (exprs es) a q) p f j))
