-- Schemas in which nothing is refused.
use Rattle.std.proofs.Common.{◌≡◌, ℕ, List, [], ◌∷◌, ◌++◌, Some, None, Bool, true, false, not, ◌||◌, map}
use Rattle.std.proofs.Common.{refl, sym, ap, ◌∙◌, cond}
use Rattle.std.specs.Prelude.{All, bytes_eq}
use Rattle.std.proofs.lemmas.List.Elements.{All-cons, All-nil, All-head, All-tail, All-filter}
use Rattle.std.proofs.lemmas.Slice.Eq.{bytes_eq-Decides}
use Rattle.tlb_syntax.specs.Tree.{ConstructorView, SchemaView, no_exprs}
use Rattle.kind_terms.specs.declared.words.WordClass.{WordClass}
use Rattle.kind_terms.specs.declared.words.WordClass.TheVariants.{TypeWord, Any, Cell, Sized, Numbered, Hashmap}
use Rattle.kind_terms.specs.declared.words.WordClass.TheVariants.{HashmapE, HashmapNode, Free}
use Rattle.kind_terms.specs.Words.{Word, is_among}
use Rattle.kind_terms.specs.Classes.{is_dictionary, name_class, word_class}
use Rattle.kind_terms.specs.Dictionaries.{of_type}
use Rattle.kind_terms.specs.Types.{has_exprs}
use Rattle.kind_declarations.specs.Faults.{faults}
use Rattle.kind_declarations.specs.Nodes.{heading_nodes, constructor_nodes, param_nodes}
use Rattle.tlb_guard.specs.Empty.{found}
use Rattle.tlb_guard.specs.DeclaredTypes.{is_declared_class, distinct, result_of}
use Rattle.tlb_kinds.specs.Refusals.{IsKinded, kept_of, ordinary, refusals, refusals_within, of_headings, of_contents}
use Rattle.tlb_kinds.specs.Refusals.{of_guard}
use Rattle.tlb_kinds.specs.Spots.{heading, refusal_at, refusals_at}
use Rattle.core_form.specs.Core.{Declaration}
use Rattle.schema_core.specs.Names.{Names, meaning, type_by, declared_by}
use Rattle.schema_core.specs.Cores.{cores_after, declaration_of}
use Rattle.schema_core.specs.PlainLaws.{core_is_plain}
use Rattle.schema_core.specs.BoundLaws.{core_is_within}
use Rattle.kinded_core.specs.Clean.{AreClean}
use Rattle.kinded_core.specs.CleanLaws.{clean_both, clean_nodes, append_none, map_none}
use Rattle.kinded_core.specs.ResultLaws.{HaveKinds, have_kinds}
use Rattle.kinded_core.specs.ConstructorLaws.{constructor_determined, constructor_parameters}
use Rattle.kinded_core.specs.Resolved.{IsResolved}
use Rattle.kinded_core.specs.Laws.{KindedIsResolved, GuardAgrees, DeclaredAgree, is_there, is_declared}

-- ---- what isn't refused

-- of its heading nothing is refused, so each parameter is one
abbrev IsHeaded : ConstructorView → Type 0
IsHeaded c = HaveKinds c.items c.params

abbrev IsJudgedClean : SchemaView → ConstructorView → Type 0
IsJudgedClean types c = AreClean (constructor_nodes types c)

headed : (before s : SchemaView) → of_headings before s ≡ [] → All IsHeaded s
headed before [] h = All-nil IsHeaded
headed before (c ∷ cs) h =
    let p = append_none (refusals_at (heading before c) (heading_nodes (heading before c)))
    (of_headings (before ++ c ∷ []) cs) h in
    let js = clean_nodes (heading_nodes (heading before c))
    (map_none (refusal_at (heading before c)) (faults (heading_nodes (heading before c))) p.0) in
    All-cons IsHeaded c cs (have_kinds (heading before c) no_exprs c.params
    (clean_both (param_nodes (heading before c) no_exprs c.params) _ js.1).0)
    (headed (before ++ c ∷ []) cs p.1)

judged : (types before s : SchemaView) → of_contents types before s ≡ [] → All (IsJudgedClean types) s
judged types before [] h = All-nil (IsJudgedClean types)
judged types before (c ∷ cs) h =
    let p = append_none (refusals_at (heading before c) (constructor_nodes types c))
    (of_contents types (before ++ c ∷ []) cs) h in
    All-cons (IsJudgedClean types) c cs
    (clean_nodes (constructor_nodes types c)
    (map_none (refusal_at (heading before c)) (faults (constructor_nodes types c)) p.0))
    (judged types (before ++ c ∷ []) cs p.1)

resolved : (types : SchemaView) (tag : ConstructorView → List ℕ) (before s : SchemaView) → All IsHeaded s
    → All (IsJudgedClean types) s
    → All (λ (d : Declaration). IsResolved d.core) (cores_after types tag before s)
resolved types tag before [] h j = All-nil (λ (d : Declaration). IsResolved d.core)
resolved types tag before (c ∷ cs) h j =
    All-cons (λ (d : Declaration). IsResolved d.core) (declaration_of types (tag c) before c)
    (cores_after types tag (before ++ c ∷ []) cs)
    (record {
      plain = core_is_plain types (tag c) c;
      within = core_is_within types (tag c) c;
      determined = constructor_determined types (tag c) c (All-head (IsJudgedClean types) c cs j)
          (All-head IsHeaded c cs h);
      parameters = constructor_parameters types (tag c) c (All-head (IsJudgedClean types) c cs j)
          (All-head IsHeaded c cs h);
    })
    (resolved types tag (before ++ c ∷ []) cs (All-tail IsHeaded c cs h) (All-tail (IsJudgedClean types) c cs j))

-- the two parts of what is refused
both_none : (s : SchemaView) → IsKinded s → (of_headings [] (ordinary s) ≡ [])
    × (of_contents (kept_of s) [] (kept_of s) ≡ [])
unfolding refusals refusals_within
both_none s k =
    let p = append_none (of_headings [] (ordinary s)) _ k in
    let q = append_none (of_contents (kept_of s) [] (kept_of s)) (of_guard (kept_of s)) p.1 in (p.0, q.0)

pub kinded_is_resolved : KindedIsResolved
kinded_is_resolved s tag k =
    let p = both_none s k in
    resolved (kept_of s) tag [] (kept_of s)
    (All-filter (λ (c : ConstructorView). not (is_dictionary c.result)) IsHeaded (ordinary s)
    (headed [] (ordinary s) p.0))
    (judged (kept_of s) [] (kept_of s) p.1)

-- ---- names, as the guard reads them

bytes_eq_turned : (x y : Word) → bytes_eq x y ≡ bytes_eq y x
bytes_eq_turned x y = cases (bytes_eq x y) (bytes_eq y x) refl refl
  where
    cases : (a b : Bool) → bytes_eq x y ≡ a → bytes_eq y x ≡ b → a ≡ b
    cases true true i j = refl
    cases false false i j = refl
    cases true false i j =
        let bad : true ≡ false = sym ((bytes_eq-Decides y x).1 (sym ((bytes_eq-Decides x y).0 i))) ∙ j in cc
    cases false true i j =
        let bad : true ≡ false = sym ((bytes_eq-Decides x y).1 (sym ((bytes_eq-Decides y x).0 j))) ∙ i in cc

found_is : (names : Names) (x : Word) → found (map (λ e. e.0) names) x ≡ is_there (meaning names x)
found_is [] x = refl
found_is (e ∷ es) x = cases (bytes_eq x e.0) (bytes_eq e.0 x) (bytes_eq_turned x e.0) (found_is es x)
  where
    cases : (a b : Bool) → a ≡ b → found (map (λ e. e.0) es) x ≡ is_there (meaning es x)
        → cond (a || is_among (map (λ e. e.0) es) x) (Some tt) None ≡ is_there (cond b (Some e.1) (meaning es x))
    cases true true i h = refl
    cases false false i h = h
    cases true false i h = cc
    cases false true i h = cc

pub guard_agrees : GuardAgrees
guard_agrees names x es = ap (λ o. name_class o x (has_exprs es)) (found_is names x)

-- a word is among distinct ones where it is among all
among_distinct : (xs : List Word) (x : Word) → is_among (distinct xs) x ≡ is_among xs x
among_distinct [] x = refl
among_distinct (y ∷ ys) x = cases (is_among ys y) refl (among_distinct ys x)
  where
    among : (b : Bool) → bytes_eq x y ≡ b → is_among ys y ≡ true → is_among ys x ≡ (b || is_among ys x)
    among false i h = refl
    among true i h = ap (is_among ys) ((bytes_eq-Decides x y).0 i) ∙ h

    cases : (b : Bool) → is_among ys y ≡ b → is_among (distinct ys) x ≡ is_among ys x
        → is_among (cond b (distinct ys) (y ∷ distinct ys)) x ≡ (bytes_eq x y || is_among ys x)
    cases true i h = h ∙ among (bytes_eq x y) refl i
    cases false i h = ap (λ b. bytes_eq x y || b) h

-- a type is declared where there is a declaration of it
declared_there : (s : SchemaView) (x : Word) → is_among (map result_of s) x ≡ is_declared (declared_by (of_type s x))
declared_there [] x = refl
declared_there (c ∷ cs) x = cases (bytes_eq x c.result) (bytes_eq c.result x) (bytes_eq_turned x c.result)
    (declared_there cs x)
  where
    cases : (a b : Bool) → a ≡ b → is_among (map result_of cs) x ≡ is_declared (declared_by (of_type cs x))
        → (a || is_among (map result_of cs) x) ≡ is_declared (declared_by (cond b (c ∷ of_type cs x) (of_type cs x)))
    cases true true i h = refl
    cases false false i h = h
    cases true false i h = cc
    cases false true i h = cc

pub declared_agree : DeclaredAgree
declared_agree types x = cases (word_class x)
  where
    cases : (w : WordClass) → is_declared_class types x w ≡ is_declared (type_by types x w)
    cases TypeWord = refl
    cases Any = refl
    cases Cell = refl
    cases (Sized f) = refl
    cases (Numbered f) = refl
    cases Hashmap = refl
    cases HashmapE = refl
    cases HashmapNode = refl
    cases Free = among_distinct (map result_of types) x ∙ declared_there types x
