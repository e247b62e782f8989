-- Equations: which side holds the unknown, and what solves them.
use Rattle.std.proofs.Common.{◌≡◌, ◌↔◌, ℕ, List, [], ◌∷◌, ◌++◌, Option, Some, None, Result, Ok, Err, false, refl, sym, ap, ◌∙◌, subst}
use Rattle.std.specs.Option.{ok_or}
use Rattle.nat_solver.specs.Number.{Expr, Numbers, value, parts, unknowns, cancelled, is_empty, first_lacking, put, Solves, OneUnknown, solution}
use Rattle.nat_solver.specs.Plain.{known_number}
use Rattle.nat_solver.specs.declared.evaluate.NatError.{NatError}
use Rattle.nat_solver.specs.declared.evaluate.NatError.TheVariants.{NoSolution}
use Rattle.nat_solver.proofs.Values.{none_append, Refused, refused_left, refused_right, refused_not_unsolved, Judged, judged_as, judged_none, Tells, tells_given, tells_unsolved, tells_refused, refusal_is}
use Rattle.nat_solver.specs.SolutionLaws.{none_from_solved, solution_complete, solution_none, solution_first}
use Rattle.nat_solver.proofs.Solving.{put_known, Holder, none_refused, append_nil, nil_left, nil_right}

-- the clauses of `solve`
pub record SolvedBy (left right : Expr) (env : Numbers) (r : Result ℕ NatError) : Type 0 where
  pub answer : r ≡ solution left right env
  pub solved : (x : ℕ) → (r ≡ Ok x) ↔ Solves left right env x
  pub tells : Tells {A = ℕ} (first_lacking (parts left ++ parts right) env) env r
  pub unsolved : (r ≡ Err NoSolution) ↔ ((first_lacking (parts left ++ parts right) env ≡ None) × ((x : ℕ) → Solves left right env x → ⊥))

refused_solution : (left right : Expr) (env : Numbers) (f : NatError) → Refused (first_lacking (parts left ++ parts right) env) env f
    → solution left right env ≡ Err f
refused_solution left right env f r = cases (first_lacking (parts left ++ parts right) env) refl
  where
    cases : (o : Option Expr) → first_lacking (parts left ++ parts right) env ≡ o → solution left right env ≡ Err f
    cases None is = absurd (none_refused f env _ is r)
    cases (Some e) is =
        let P : Option Expr → Type 0 = λ o. Refused o env f in
        solution_first left right env e is ∙ ap Err (refusal_is f (Some e) env (subst P is r))

pub solved_refused : (left right : Expr) (env : Numbers) (f : NatError) → Refused (first_lacking (parts left ++ parts right) env) env f → SolvedBy left right env (Err f)
solved_refused left right env f r =
    let first = first_lacking (parts left ++ parts right) env in
    record {
      answer = sym (refused_solution left right env f r);
      solved = λ x. (λ e. cc, λ s. absurd (none_refused f env first (none_from_solved left right env x s) r));
      tells = tells_refused {A = ℕ} first env f r;
      unsolved = (λ e. absurd (refused_not_unsolved {A = ℕ} f first env r e), λ h. absurd (none_refused f env first h.0 r));
    }

pub solved_found : (left right : Expr) (env : Numbers) (v : ℕ) → OneUnknown left right v → (found : Option ℕ) (r : Result ℕ NatError) → first_lacking (parts left ++ parts right) env ≡ None → ((x : ℕ) → (found ≡ Some x) ↔ Solves left right env x)
    → r ≡ ok_or found NoSolution → SolvedBy left right env r
solved_found left right env v one (Some y) r none gives is =
    let P : Result ℕ NatError → Type 0 = SolvedBy left right env in
    subst P (sym is) (record {
      answer = sym (solution_complete left right env v y one ((gives y).0 refl));
      solved = λ x. (λ e. let s : y ≡ x = cc in (gives x).0 (ap Some s), λ s. let e : Some y ≡ Some x = (gives x).1 s in let t : y ≡ x = cc in ap Ok t);
      tells = tells_given {A = ℕ} (first_lacking (parts left ++ parts right) env) env y none;
      unsolved = (λ e. cc, λ h. absurd (h.1 y ((gives y).0 refl)));
    })
solved_found left right env v one None r none gives is =
    let P : Result ℕ NatError → Type 0 = SolvedBy left right env in
    subst P (sym is) (record {
      answer = sym (solution_none left right env none (λ x s. let t : None ≡ Some x = (gives x).1 s in cc));
      solved = λ x. (λ e. cc, λ s. let e : None ≡ Some x = (gives x).1 s in cc);
      tells = tells_unsolved {A = ℕ} (first_lacking (parts left ++ parts right) env) env none;
      unsolved = (λ e. (none, λ x s. let t : None ≡ Some x = (gives x).1 s in cc), λ h. refl);
    })

-- the refusals of the left side, and of the right one
pub refused_by_left : (left right : Expr) (env : Numbers) (f : NatError) → Err f ≡ known_number left env → SolvedBy left right env (Err f)
refused_by_left left right env f known =
    solved_refused left right env f (refused_left f (parts left) (parts right) env (judged_as left env (Err f) known))

pub refused_by_right : (left right : Expr) (env : Numbers) (n : Option ℕ) (f : NatError) → Ok n ≡ known_number left env → Err f ≡ known_number right env → SolvedBy left right env (Err f)
refused_by_right left right env n f known refused =
    solved_refused left right env f (refused_right f (parts left) (parts right) env (judged_none left env n (judged_as left env (Ok n) known)) (judged_as right env (Err f) refused))

pub none_lacks : (left right : Expr) (env : Numbers) (m n : Option ℕ) → Ok m ≡ known_number left env → Ok n ≡ known_number right env → first_lacking (parts left ++ parts right) env ≡ None
none_lacks left right env m n a b =
    none_append (parts left) (parts right) env (judged_none left env m (judged_as left env (Ok m) a)) ∙ judged_none right env n (judged_as right env (Ok n) b)

-- the unknown stands on the right, or on the left
pub holder_right : (left right : Expr) (env : Numbers) (v n : ℕ) (m : Option ℕ) → OneUnknown left right v → Ok (Some n) ≡ known_number left env → Ok m ≡ known_number right env → Holder right env v
holder_right left right env v n m one a b =
    let j : Judged left env (Ok (Some n)) = judged_as left env (Ok (Some n)) a in
    record {
      only = sym (ap (λ us. us ++ unknowns right) j.1) ∙ one.only;
      counts = nil_right (cancelled left) (cancelled right) one.counts;
      valued = judged_none right env m (judged_as right env (Ok m) b);
    }

pub holder_left : (left right : Expr) (env : Numbers) (v n : ℕ) (m : Option ℕ) → OneUnknown left right v → Ok m ≡ known_number left env → Ok (Some n) ≡ known_number right env → Holder left env v
holder_left left right env v n m one a b =
    let j : Judged right env (Ok (Some n)) = judged_as right env (Ok (Some n)) b in
    record {
      only = sym (append_nil (unknowns left)) ∙ sym (ap (λ us. unknowns left ++ us) j.1) ∙ one.only;
      counts = nil_left (cancelled left) (cancelled right) one.counts;
      valued = judged_none left env m (judged_as left env (Ok m) a);
    }

pub solves_right : (left right : Expr) (env : Numbers) (n x : ℕ) → Ok (Some n) ≡ known_number left env → (value (put x right) env ≡ Some n) ↔ Solves left right env x
solves_right left right env n x a =
    let j : Judged left env (Ok (Some n)) = judged_as left env (Ok (Some n)) a in
    let v : value (put x left) env ≡ Some n = ap (λ f. value f env) (put_known x left j.1) ∙ j.0 in
    (λ s. (n, v, s), λ s. let p : value (put x left) env ≡ Some s.0 = s.1 in let t : s.0 ≡ n = cc in s.2 ∙ ap Some t)

pub solves_left : (left right : Expr) (env : Numbers) (n x : ℕ) → Ok (Some n) ≡ known_number right env → (value (put x left) env ≡ Some n) ↔ Solves left right env x
solves_left left right env n x b =
    let j : Judged right env (Ok (Some n)) = judged_as right env (Ok (Some n)) b in
    let v : value (put x right) env ≡ Some n = ap (λ f. value f env) (put_known x right j.1) ∙ j.0 in
    (λ s. (n, s, v), λ s. let p : value (put x right) env ≡ Some s.0 = s.2 in let t : s.0 ≡ n = cc in s.1 ∙ ap Some t)

-- both sides can't hold it
pub one_side : (left right : Expr) (env : Numbers) (v : ℕ) → OneUnknown left right v → Ok None ≡ known_number left env → Ok None ≡ known_number right env → ⊥
one_side left right env v one a b =
    let j : Judged left env (Ok None) = judged_as left env (Ok None) a in
    let k : Judged right env (Ok None) = judged_as right env (Ok None) b in
    two (unknowns left) (unknowns right) j.1 k.1 one.only
  where
    two : (us ws : List ℕ) → is_empty us ≡ false → is_empty ws ≡ false → us ++ ws ≡ v ∷ [] → ⊥
    two [] ws e f o = cc
    two (u ∷ us) [] e f o = cc
    two (u ∷ us) (w ∷ ws) e f o = let t : us ++ w ∷ ws ≡ [] = cc in longer us t
      where
        longer : (zs : List ℕ) → zs ++ w ∷ ws ≡ [] → ⊥
        longer [] t = cc
        longer (z ∷ zs) t = cc
