-- Headings without a fault.
use Rattle.std.proofs.Common.{◌≡◌, ◌≤◌, ◌<◌, ap, sym, ◌∙◌, refl, ℕ, suc, List, [], ◌∷◌, ◌++◌, drop, length, Bool, true, false, not, cond}
use Rattle.std.proofs.Common.{◌&&◌, subst, arith}
use Rattle.std.specs.Prelude.{Option, Some, None, slice_get, nat_lt}
use Rattle.std.proofs.lemmas.Bool.{false≢true, ltb-true, lt-ltb}
use Rattle.std.proofs.lemmas.List.{drop_all}
use Rattle.std.proofs.lemmas.Option.{slice_get_past, slice_get_within, get_or_from_slice_get}
use Rattle.std.proofs.Math.Seq.{drop-cons}
use Rattle.tlb_syntax.specs.Tree.{ExprView, ExprList, ItemList, SchemaView, no_exprs, an_expr}
use Rattle.kind_terms.specs.declared.kind.TermKind.{TermKind}
use Rattle.kind_terms.specs.Params.{has_kind, inputs, is_same_kind, kind_of, kinds, kinds_of_exprs, variable_of}
use Rattle.kind_terms.specs.Types.{count}
use Rattle.kind_declarations.specs.declared.error.Cause.{Cause}
use Rattle.kind_declarations.specs.declared.error.Cause.TheVariants.{Reserved, TwiceNamed, Arity, KindMismatch, NotLinear}
use Rattle.kind_declarations.specs.Faults.{causes}
use Rattle.kind_declarations.specs.Headings.{Heading, Param, differs, differs_at, fixed, is_constructor_twice, is_fewer}
use Rattle.kind_declarations.specs.Headings.{is_input_twice, is_no_param, is_other_param, is_reserved, is_variable_among, lacks_params}
use Rattle.kind_declarations.specs.Nodes.{Judged, a_heading, a_param, heading_nodes, joined, judged, param_nodes, params_end}
use Rattle.kind_declarations.specs.Nodes.{result_path}
use Rattle.kinded_schema.specs.Kinded.{Agree, AreOnce, AreSameKinds, HaveKinds, IsHeading}
use Rattle.kinded_schema.specs.CleanLaws.{IsClean, and_right_false, clean_first, clean_parts, not_false}

not_here : (b : Bool) (c : Cause) (cs : List Cause) → cond b (c ∷ cs) cs ≡ [] → (b ≡ false) × (cs ≡ [])
not_here true c cs h = cc
not_here false c cs h = (refl, h)

-- ---- parameters

pub record IsParam (p : Param) : Type 0 where
  pub other : is_other_param p ≡ false
  pub none : is_no_param p ≡ false
  pub twice : is_input_twice p ≡ false

param_clean : (p : Param) → causes (a_param p) ≡ [] → IsParam p
param_clean p h =
    let a = not_here (is_other_param p) Arity _ h in
    let b = not_here (is_no_param p) KindMismatch _ a.1 in
    let c = not_here (is_input_twice p) NotLinear [] b.1 in
    record { other = a.0; none = b.0; twice = c.0 }

-- each parameter after those before it
abbrev pub AreParams : Heading → ExprList → ExprList → Type 0
AreParams r before no_exprs = Unit {0}
AreParams r before (an_expr e es) =
    IsParam (record { of = r; before = before; at = e }) × AreParams r (joined before e) es

params_clean : (r : Heading) (before es : ExprList) → IsClean (param_nodes r before es) → AreParams r before es
params_clean r before no_exprs h = tt
params_clean r before (an_expr e es) h =
    let p : Param = record { of = r; before = before; at = e } in
    let parts = clean_first (judged result_path (a_param p)) (param_nodes r (joined before e) es) h in
    (param_clean p parts.0, params_clean r (joined before e) es parts.1)

have_kinds : (r : Heading) (before es : ExprList) → AreParams r before es → HaveKinds r.this.items es
have_kinds r before no_exprs h = tt
have_kinds r before (an_expr e es) h =
    (not_false (has_kind (kind_of r.this.items e)) h.0.none, have_kinds r (joined before e) es h.1)

are_once : (r : Heading) (before es : ExprList) → AreParams r before es → AreOnce before es
are_once r before no_exprs h = tt
are_once r before (an_expr e es) h = (h.0.twice, are_once r (joined before e) es h.1)

-- ---- kinds that are fixed

count_joined : (before : ExprList) (e : ExprView) → count (joined before e) ≡ suc (count before)
count_joined no_exprs e = refl
count_joined (an_expr f fs) e = ap suc (count_joined fs e)

-- expressions and further ones
abbrev all_of : ExprList → ExprList → ExprList
all_of no_exprs es = es
all_of (an_expr f fs) es = an_expr f (all_of fs es)

all_alone : (before : ExprList) → count (all_of before no_exprs) ≡ count before
all_alone no_exprs = refl
all_alone (an_expr f fs) = ap suc (all_alone fs)

at_most : (m n : ℕ) → nat_lt m n ≡ false → n ≤ m
at_most m n h = grind (arith, lt-ltb m n, h)

count_over : (before es : ExprList) (e : ExprView) → count (all_of (joined before e) es) ≡ count (all_of before (an_expr e es))
count_over no_exprs es e = refl
count_over (an_expr f fs) es e = ap suc (count_over fs es e)

same_here : (ks : List TermKind) (i : ℕ) (found : Option TermKind) (k : TermKind) → slice_get ks i ≡ found
    → has_kind k ≡ true → differs found k ≡ false
    → (first : TermKind) × (drop i ks ≡ first ∷ drop (suc i) ks) × (is_same_kind first k ≡ true)
same_here ks i None k is has h = cc
same_here ks i (Some first) k is has h =
    let lt = slice_get_within ks i first is in
    let there = get_or_from_slice_get ks i first first is in (
      first,
      drop-cons ks i first lt ∙ ap (λ z. z ∷ drop (suc i) ks) there,
      not_false (is_same_kind first k) (and_right_false (has_kind k) (not (is_same_kind first k)) h has),
    )

same_from : (r : Heading) (ks : List TermKind) (before es : ExprList) → fixed r ≡ Some ks → AreParams r before es
    → nat_lt (count (all_of before es)) (length ks) ≡ false
    → AreSameKinds (drop (count before) ks) (kinds_of_exprs r.this.items es)
same_from r ks before no_exprs is h few =
    let end : length ks ≤ count before = at_most (count before) (length ks) (sym (ap (λ n. nat_lt n (length ks)) (all_alone before)) ∙ few) in
    subst (λ l. AreSameKinds l []) (sym (drop_all (count before) ks end)) tt
same_from r ks before (an_expr e es) is h few =
    let k = kind_of r.this.items e in
    let found = same_here ks (count before) (slice_get ks (count before)) k refl (not_false (has_kind k) h.0.none)
    (sym (ap (λ o. differs_at o (count before) k) is) ∙ h.0.other) in
    let P : ℕ → Type 0 = λ n. AreSameKinds (drop n ks) (kinds_of_exprs r.this.items es) in
    let rest = subst P (count_joined before e)
    (same_from r ks (joined before e) es is h.1 (ap (λ n. nat_lt n (length ks)) (count_over before es e) ∙ few)) in
    subst (λ l. AreSameKinds l (kinds_of_exprs r.this.items (an_expr e es))) (sym found.1) (found.2, rest)

agreed : (r : Heading) (o : Option (List TermKind)) → fixed r ≡ o → AreParams r no_exprs r.this.params
    → is_fewer o (count r.this.params) ≡ false → Agree o (kinds r.this)
agreed r None is h few = tt
agreed r (Some ks) is h few = same_from r ks no_exprs r.this.params is h few

-- ---- headings

pub heading_clean : (r : Heading) → IsClean (heading_nodes r) → IsHeading r
heading_clean r h =
    let end = judged result_path (params_end r) ∷ [] in
    let here = clean_first (judged result_path (a_heading r)) (param_nodes r no_exprs r.this.params ++ end) h in
    let a = not_here (is_reserved r) Reserved _ here.0 in
    let b = not_here (is_constructor_twice r) TwiceNamed [] a.1 in
    let both = clean_parts (param_nodes r no_exprs r.this.params) end here.1 in
    let params = params_clean r no_exprs r.this.params both.0 in
    let c = not_here (lacks_params r) Arity [] (clean_first (judged result_path (params_end r)) [] both.1).0 in
    record {
      free = a.0;
      new = b.0;
      parameters = have_kinds r no_exprs r.this.params params;
      agree = agreed r (fixed r) refl params c.0;
      once = are_once r no_exprs r.this.params params;
    }
