-- Values, first parts without one, and what is known of an expression.
use Rattle.std.proofs.Common.{◌≡◌, ◌≢◌, ◌↔◌, ℕ, ◌+◌, ◌*◌, ◌^◌, List, [], ◌∷◌, ◌++◌, inl, inr, Option, Some, None, Result, Ok, Err, true, false, refl, sym, ap, ◌∙◌, subst}
use Rattle.std.proofs.lemmas.Bool.{cases_lt}
use Rattle.nat_solver.specs.Number.{Expr, lit, var, sought, plus, times, Numbers, number_at, within, within_any, sum_within, times_within, value, exact_sum, exact_times, number, parts, unknowns, is_empty, lacks, first_lacking, Exceeds, Unset, refused_variable, refusal, number_or, answer}
use Rattle.nat_solver.specs.Plain.{Known, bounded, of_variable, both, scaled, known_number}
use Rattle.nat_solver.proofs.Sums.{bounded_fits, bounded_over}
use Rattle.nat_solver.specs.declared.evaluate.NatError.{NatError}
use Rattle.nat_solver.specs.declared.evaluate.NatError.TheVariants.{Overflow, Unknown, NoSolution}
pub use Rattle.nat_solver.specs.ValueLaws.{within_fits, within_over, within_some, SumOf, sum_parts, TimesOf}
pub use Rattle.nat_solver.specs.ValueLaws.{times_parts, any_parts, number_from_value, no_unknown_from_value, or_else}
pub use Rattle.nat_solver.specs.ValueLaws.{first_append, none_append, alone_has, alone_lacks, valued_has, unknown_has}
pub use Rattle.nat_solver.specs.ValueLaws.{known_lacks, none_from_value}

-- the refusal that a first part without a value asks for
abbrev pub Refused : Option Expr → Numbers → NatError → Type 0
Refused first env Overflow = Exceeds first env
Refused first env (Unknown v) = Unset first env v
Refused first env NoSolution = ⊥

pub refused_first : (f : NatError) (first second : Option Expr) (env : Numbers) → Refused first env f → Refused (or_else first second) env f
refused_first Overflow None second env r = absurd r
refused_first Overflow (Some e) second env r = r
refused_first (Unknown v) None second env r = let e = r.0 in cc
refused_first (Unknown v) (Some e) second env r = r
refused_first NoSolution first second env r = absurd r

pub refused_left : (f : NatError) (xs ys : List Expr) (env : Numbers) → Refused (first_lacking xs env) env f → Refused (first_lacking (xs ++ ys) env) env f
refused_left f xs ys env r =
    let P : Option Expr → Type 0 = λ o. Refused o env f in
    subst P (sym (first_append (lacks env) xs ys)) (refused_first f (first_lacking xs env) (first_lacking ys env) env r)

pub refused_right : (f : NatError) (xs ys : List Expr) (env : Numbers) → first_lacking xs env ≡ None → Refused (first_lacking ys env) env f → Refused (first_lacking (xs ++ ys) env) env f
refused_right f xs ys env none r =
    let P : Option Expr → Type 0 = λ o. Refused o env f in
    subst P (sym (none_append xs ys env none)) r

-- what is known of an expression: its value and no unknown, an unknown, or a refusal
abbrev pub Judged : Expr → Numbers → Known → Type 0
Judged e env (Ok (Some n)) = (value e env ≡ Some n) × (unknowns e ≡ []) × (first_lacking (parts e) env ≡ None)
Judged e env (Ok None) = (value e env ≡ None) × (is_empty (unknowns e) ≡ false) × (first_lacking (parts e) env ≡ None)
Judged e env (Err f) = Refused (first_lacking (parts e) env) env f

pub judged_none : (e : Expr) (env : Numbers) (n : Option ℕ) → Judged e env (Ok n) → first_lacking (parts e) env ≡ None
judged_none e env (Some n) j = j.2
judged_none e env None j = j.2

judged_whole : (e : Expr) (env : Numbers) (n : ℕ) → first_lacking (parts e) env ≡ first_lacking (e ∷ []) env → unknowns e ≡ [] → number e env ≡ Some n → value e env ≡ within n → Judged e env (bounded n)
judged_whole e env n alone known exact valued =
    elim (cases_lt n (2 ^ 32)) [
      | inl h ↦
          let v : value e env ≡ Some n = valued ∙ within_fits n h in
          subst (Judged e env) (sym (bounded_fits n h)) (v, known, none_from_value e env n v)
      | inr h ↦
          let first : first_lacking (parts e) env ≡ Some e = alone ∙ alone_lacks e env (known_lacks e env known (valued ∙ within_over n h)) in
          let P : Option Expr → Type 0 = λ o. Exceeds o env in
          subst (Judged e env) (sym (bounded_over n h)) (subst P (sym first) (n, exact, h))
    ]

judged_variable : (v : ℕ) (env : Numbers) (n : Option ℕ) → number_at env v ≡ n → Judged (var v) env (of_variable v n)
judged_variable v env (Some n) e = judged_whole (var v) env n refl refl e (ap within_any e)
judged_variable v env None e = (alone_lacks (var v) env (known_lacks (var v) env refl (ap within_any e)), e)

first_plus : (a b : Expr) (env : Numbers) → first_lacking (parts a) env ≡ None → first_lacking (parts b) env ≡ None → first_lacking (parts (plus a b)) env ≡ first_lacking (plus a b ∷ []) env
first_plus a b env none_a none_b = none_append (parts a) _ env none_a ∙ none_append (parts b) _ env none_b

empty_left : (xs ys : List ℕ) → is_empty xs ≡ false → is_empty (xs ++ ys) ≡ false
empty_left [] ys e = cc
empty_left (x ∷ xs) ys e = refl

empty_right : (xs ys : List ℕ) → is_empty ys ≡ false → is_empty (xs ++ ys) ≡ false
empty_right [] ys e = e
empty_right (x ∷ xs) ys e = refl

judged_plus : (a b : Expr) (env : Numbers) (x y : Known) → Judged a env x → Judged b env y → Judged (plus a b) env (both x y)
judged_plus a b env (Err f) y j k = refused_left f (parts a) _ env j
judged_plus a b env (Ok m) (Err f) j k = refused_right f (parts a) _ env (judged_none a env m j) (refused_left f (parts b) _ env k)
judged_plus a b env (Ok (Some m)) (Ok (Some n)) j k =
    judged_whole (plus a b) env (m + n) (first_plus a b env j.2 k.2) (λ i. j.1 i ++ k.1 i)
    (λ i. exact_sum (number_from_value a env m j.0 i) (number_from_value b env n k.0 i)) (λ i. sum_within (j.0 i) (k.0 i))
judged_plus a b env (Ok (Some m)) (Ok None) j k =
    let u : is_empty (unknowns (plus a b)) ≡ false = empty_right (unknowns a) (unknowns b) k.1 in
    (λ i. sum_within (j.0 i) (k.0 i), u, first_plus a b env j.2 k.2 ∙ alone_has (plus a b) env (unknown_has (plus a b) env u))
judged_plus a b env (Ok None) (Ok n) j k =
    let u : is_empty (unknowns (plus a b)) ≡ false = empty_left (unknowns a) (unknowns b) j.1 in
    (ap (λ o. sum_within o (value b env)) j.0, u, first_plus a b env j.2 (judged_none b env n k) ∙ alone_has (plus a b) env (unknown_has (plus a b) env u))

judged_times : (k : ℕ) (a : Expr) (env : Numbers) (x : Known) → Judged a env x → Judged (times k a) env (scaled k x)
judged_times k a env (Err f) j = refused_left f (parts a) _ env j
judged_times k a env (Ok (Some n)) j =
    judged_whole (times k a) env (k * n) (none_append (parts a) _ env j.2) j.1
    (ap (exact_times k) (number_from_value a env n j.0)) (ap (times_within k) j.0)
judged_times k a env (Ok None) j =
    (ap (times_within k) j.0, j.1, none_append (parts a) _ env j.2 ∙ alone_has (times k a) env (unknown_has (times k a) env j.1))

pub judged : (e : Expr) (env : Numbers) → Judged e env (known_number e env)
judged (lit n) env = judged_whole (lit n) env n refl refl refl refl
judged (var v) env = judged_variable v env (number_at env v) refl
judged (sought v) env = (refl, refl, refl)
judged (plus a b) env = judged_plus a b env (known_number a env) (known_number b env) (judged a env) (judged b env)
judged (times k a) env = judged_times k a env (known_number a env) (judged a env)

-- the clauses of a call on its refusals
pub record Tells {A : Type 0} (first : Option Expr) (env : Numbers) (r : Result A NatError) : Type 0 where
  pub overflow : (r ≡ Err Overflow) ↔ Exceeds first env
  pub unknown : (v : ℕ) → (r ≡ Err (Unknown v)) ↔ Unset first env v

pub tells_given : {A : Type 0} (first : Option Expr) (env : Numbers) (x : A) → first ≡ None → Tells {A = A} first env (Ok x)
tells_given first env x none =
    let P : Option Expr → Type 0 = λ o. Exceeds o env in
    record {
      overflow = (λ e. cc, λ h. absurd (subst P none h));
      unknown = λ v. (λ e. cc, λ h. let same : first ≡ Some (var v) = h.0 in cc);
    }

pub tells_unsolved : {A : Type 0} (first : Option Expr) (env : Numbers) → first ≡ None → Tells {A = A} first env (Err NoSolution)
tells_unsolved first env none =
    let P : Option Expr → Type 0 = λ o. Exceeds o env in
    record {
      overflow = (λ e. cc, λ h. absurd (subst P none h));
      unknown = λ v. (λ e. cc, λ h. let same : first ≡ Some (var v) = h.0 in cc);
    }

not_both : (first : Option Expr) (env : Numbers) (v : ℕ) → Exceeds first env → Unset first env v → ⊥
not_both None env v h u = absurd h
not_both (Some e) env v h u =
    let P : Option Expr → Type 0 = λ o. Exceeds o env in
    let large : Exceeds (Some (var v)) env = subst P u.0 h in
    let is : number_at env v ≡ Some large.0 = large.1 in
    let unset : number_at env v ≡ None = u.1 in cc

pub tells_refused : {A : Type 0} (first : Option Expr) (env : Numbers) (f : NatError) → Refused first env f → Tells {A = A} first env (Err f)
tells_refused first env Overflow r = record {
  overflow = (λ e. r, λ h. refl);
  unknown = λ v. (λ e. cc, λ u. absurd (not_both first env v r u));
}
tells_refused first env (Unknown w) r = record {
  overflow = (λ e. cc, λ h. absurd (not_both first env w h r));
  unknown = λ v. (λ e. let same : w ≡ v = cc in let P : ℕ → Type 0 = Unset first env in subst P same r, λ u. let a : first ≡ Some (var w) = r.0 in let b : first ≡ Some (var v) = u.0 in let same : w ≡ v = cc in ap (λ x. Err (Unknown x)) same);
}
tells_refused first env NoSolution r = absurd r

-- a refusal is what `answer` tells
pub refusal_is : (f : NatError) (first : Option Expr) (env : Numbers) → Refused first env f → refusal first env ≡ f
refusal_is Overflow None env r = absurd r
refusal_is Overflow (Some (lit n)) env r = refl
refusal_is Overflow (Some (var v)) env r = ap (refused_variable v) r.1
refusal_is Overflow (Some (sought v)) env r = refl
refusal_is Overflow (Some (plus a b)) env r = refl
refusal_is Overflow (Some (times k a)) env r = refl
refusal_is (Unknown v) first env r = ap (λ o. refusal o env) r.0 ∙ ap (refused_variable v) r.1
refusal_is NoSolution first env r = absurd r

pub refused_has_none : (e : Expr) (env : Numbers) (f : NatError) (n : ℕ) → Refused (first_lacking (parts e) env) env f → value e env ≡ Some n → ⊥
refused_has_none e env f n r v =
    let P : Option Expr → Type 0 = λ o. Refused o env f in
    none_refused f (subst P (none_from_value e env n v) r)
  where
    none_refused : (g : NatError) → Refused None env g → ⊥
    none_refused Overflow h = absurd h
    none_refused (Unknown v) h = let same = h.0 in cc
    none_refused NoSolution h = absurd h

pub refused_value : (e : Expr) (env : Numbers) (f : NatError) → Refused (first_lacking (parts e) env) env f → value e env ≡ None
refused_value e env f r = cases (value e env) refl
  where
    cases : (o : Option ℕ) → value e env ≡ o → o ≡ None
    cases None same = refl
    cases (Some n) same = absurd (refused_has_none e env f n r same)

pub answer_given : (e : Expr) (env : Numbers) (n : ℕ) → value e env ≡ Some n → Ok n ≡ answer e env
answer_given e env n v = sym (ap (λ o. number_or o (refusal (first_lacking (parts e) env) env)) v)

pub answer_refused : (e : Expr) (env : Numbers) (f : NatError) → Refused (first_lacking (parts e) env) env f → Err f ≡ answer e env
answer_refused e env f r =
    sym (ap (λ o. number_or o (refusal (first_lacking (parts e) env) env)) (refused_value e env f r) ∙ ap Err (refusal_is f _ env r))

pub judged_as : (e : Expr) (env : Numbers) (k : Known) → k ≡ known_number e env → Judged e env k
judged_as e env k is = subst (Judged e env) (sym is) (judged e env)

-- the clauses of an evaluation
pub record Evaluates (e : Expr) (env : Numbers) (r : Result ℕ NatError) : Type 0 where
  pub is : r ≡ answer e env
  pub valued : (n : ℕ) → (r ≡ Ok n) ↔ (value e env ≡ Some n)
  pub tells : Tells {A = ℕ} (first_lacking (parts e) env) env r
  pub solved : r ≢ Err NoSolution

pub evaluates_given : (e : Expr) (env : Numbers) (n : ℕ) → Ok (Some n) ≡ known_number e env → Evaluates e env (Ok n)
evaluates_given e env n known =
    let j : Judged e env (Ok (Some n)) = judged_as e env (Ok (Some n)) known in
    let v : value e env ≡ Some n = j.0 in
    record {
      is = answer_given e env n v;
      valued = λ m. (λ same. let s : n ≡ m = cc in v ∙ ap Some s, λ w. let s : n ≡ m = cc in ap Ok s);
      tells = tells_given {A = ℕ} (first_lacking (parts e) env) env n j.2;
      solved = λ same. cc;
    }

pub evaluates_refused : (e : Expr) (env : Numbers) (f : NatError) → Err f ≡ known_number e env → Evaluates e env (Err f)
evaluates_refused e env f known =
    let r : Refused (first_lacking (parts e) env) env f = judged_as e env (Err f) known in
    record {
      is = answer_refused e env f r;
      valued = λ m. (λ same. cc, λ w. absurd (refused_has_none e env f m r w));
      tells = tells_refused {A = ℕ} (first_lacking (parts e) env) env f r;
      solved = λ same. not_unsolved f r same;
    }
  where
    not_unsolved : (g : NatError) → Refused (first_lacking (parts e) env) env g → ◌≡◌ {A = Result ℕ NatError} (Err g) (Err NoSolution) → ⊥
    not_unsolved Overflow h same = cc
    not_unsolved (Unknown v) h same = cc
    not_unsolved NoSolution h same = absurd h

-- without an unknown an expression is never known to have one
pub never_unknown : (e : Expr) (env : Numbers) → unknowns e ≡ [] → Ok None ≡ known_number e env → ⊥
never_unknown e env none known =
    let j : Judged e env (Ok None) = judged_as e env (Ok None) known in
    let u : is_empty (unknowns e) ≡ false = j.1 in
    let w : is_empty (unknowns e) ≡ true = ap is_empty none in cc

-- what an answer says
pub value_from_answer : (e : Expr) (env : Numbers) (n : ℕ) → Ok n ≡ answer e env → value e env ≡ Some n
value_from_answer e env n is = cases (value e env) is
  where
    cases : (o : Option ℕ) → Ok n ≡ number_or o (refusal (first_lacking (parts e) env) env) → o ≡ Some n
    cases (Some m) same = let s : m ≡ n = cc in ap Some s
    cases None same = cc

pub refused_from_answer : (e : Expr) (env : Numbers) (f : NatError) → unknowns e ≡ [] → Err f ≡ answer e env → Refused (first_lacking (parts e) env) env f
refused_from_answer e env f none is = cases (known_number e env) refl
  where
    cases : (k : Known) → k ≡ known_number e env → Refused (first_lacking (parts e) env) env f
    cases (Ok (Some n)) known = let same : Ok n ≡ answer e env = (evaluates_given e env n known).is in let a : ◌≡◌ {A = Result ℕ NatError} (Ok n) (Err f) = same ∙ sym is in cc
    cases (Ok None) known = absurd (never_unknown e env none known)
    cases (Err g) known =
        let same : Err g ≡ answer e env = (evaluates_refused e env g known).is in
        let a : ◌≡◌ {A = Result ℕ NatError} (Err g) (Err f) = same ∙ sym is in
        let s : g ≡ f = cc in
        let P : NatError → Type 0 = Refused (first_lacking (parts e) env) env in
        subst P s (judged_as e env (Err g) known)

pub refused_not_unsolved : {A : Type 0} (f : NatError) (first : Option Expr) (env : Numbers) → Refused first env f → ◌≡◌ {A = Result A NatError} (Err f) (Err NoSolution) → ⊥
refused_not_unsolved Overflow first env h same = cc
refused_not_unsolved (Unknown v) first env h same = cc
refused_not_unsolved NoSolution first env h same = absurd h

-- in two sides with values no part lacks one
pub none_from_values : (a b : Expr) (env : Numbers) (m n : ℕ) → value a env ≡ Some m → value b env ≡ Some n → first_lacking (parts a ++ parts b) env ≡ None
none_from_values a b env m n v w = none_append (parts a) (parts b) env (none_from_value a env m v) ∙ none_from_value b env n w
