-- Lists and records that are built spell the value.
use Rattle.std.proofs.Common.{◌≡◌, ℕ, zero, suc, ◌+◌, Bool, true, false, ◌&&◌, ◌||◌, cond, List, [], ◌∷◌, length, Option, Some, None, Result, Ok, Err, refl, sym, ap, ◌∙◌, subst, ◌⊎◌, arith, nat_eq, inl, inr}
use Rattle.std.specs.Prelude.{bytes_eq}
use Rattle.std.proofs.lemmas.Bool.{ltb-true, leb-true, eqb-true}
use Rattle.std.proofs.lemmas.Slice.Eq.{bytes_eq-Decides}
use Rattle.cell_nodes.specs.declared.tree.Mode.{Mode}
use Rattle.hashmap_tree.specs.Entries.{Slice, Then}
use Rattle.typed_value.specs.Values.{Plains, record_of, list_of, no_vals, a_val, parts}
use Rattle.core_form.specs.Core.{Word, Items, no_items, an_item, check, solve, field, sets, field_names, Declaration, CoreSchema}
use Rattle.core_form.specs.Closed.{Closed, ClosedArgs}
use Rattle.core_form.specs.Closed as closed
use Rattle.core_form.specs.Fit.{fit}
use Rattle.core_form.specs.Scope.{Scope, value_in, values_in, with_number, bind}
use Rattle.nat_solver.specs.Number.{Compares, comparison}
use Rattle.nat_solver.specs.declared.compare.Op.{Op}
use Rattle.nat_solver.specs.declared.compare.Op.TheVariants.{Eq, Lt, Le, Gt, Ge}
use Rattle.spelling.specs.Slices.{nothing, only_bits}
use Rattle.spelling.specs.Goals.{at_type, at_field, Shape, typed, fields_here}
use Rattle.spelling.specs.Places.{Spot, Place, start, item_of, field_of, result_of, tag_of}
use Rattle.spelling.specs.PlainReader.{known, reported, sought_number, Choice, first}
use Rattle.spelling.specs.Spells.{Each, Repeats, Fields, Meets}
use Rattle.spelling_laws.specs.FitLaws.{fit_sound}
use Rattle.spelling_laws.specs.SolvingLaws.{sought_sound}
use Rattle.spelling_laws.specs.StepLaws.{bind_ok, known_ok, reported_ok, only_ok, both}
use Rattle.building.specs.Buildable.{IsBuildable}
use Rattle.building.specs.Growing.{Grown}
use Rattle.building.specs.Laid.{ends_fields, ends_items}
use Rattle.building.specs.PlainBuilder.{Made, Maker, put, turn, make_items, count, grew, Step, step, make_fields, same_words, has_fields, candidate, choose, make_inside, make_declared, record_at, list_at}
use Rattle.building_laws.specs.CompleteLaws.{check_ends, solve_ends, ended, candidate_is}
use Rattle.building_laws.specs.GoesLaws.{Goes, goes_as, goes_then, goes_none, was_put, goes_put, made_same, bits_held}
use Rattle.building_laws.specs.MoveLaws.{made, or_assoc, took_same}
use Rattle.building_laws.specs.SoundLaws.{Keeps, AllSound, ShapeSound, IsSpelledAt}

-- ---- lists

ItemsSound : Mode → CoreSchema → Plains → Closed → Grown → Grown → Type 0
ItemsSound mode schema vs t b x =
    (e : Bool) × Goes (λ s r. (d : Repeats (Each mode schema vs) (count vs) t s r) × (ends_items mode schema vs (count vs) t s r d ≡ e)) e b x
    × Keeps b x

grown_same : (x y : Grown) → (◌≡◌ {A = Result Grown Place} (Ok x) (Ok y)) → x ≡ y
grown_same x y e = cc

items_sound : (mode : Mode) (schema : CoreSchema) (R : Maker) (vs : Plains) → AllSound mode schema R vs → (h : Spot)
    (t : Closed) (q : ℕ) (b x : Grown) → make_items R h t q vs b ≡ Ok x → ItemsSound mode schema vs t b x
unfolding ItemsSound
items_sound mode schema R no_vals sound h t q b x e =
    let P : Grown → Type 0 = λ z. ItemsSound mode schema no_vals t b z in
    subst P (grown_same b x e) (false, goes_none _ b (λ s. ((refl, refl), refl)), λ z. z)
items_sound mode schema R (a_val v vs) sound h t q b x e =
    let k = bind_ok (turn R h t q v b) _ x e in
    let m = bind_ok (R h (at_type t) q v b) _ k.0 k.1 in
    let g = only_ok (grew b m.0.1) _ (Ok m.0) k.0 m.2 in
    let same : m.0 ≡ k.0 = made_one m.0 k.0 g.1 in
    let one = sound.0 h (at_type t) q b m.0.0 m.0.1 tt m.1 in
    let M : Made → Type 0 = λ z. make_items R h t (q + parts v) vs z.1 ≡ Ok x in
    let more = items_sound mode schema R vs sound.1 h t (q + parts v) m.0.1 x (subst M (sym same) k.2) in (
      one.0 || more.0,
      record {
        laid = λ w r u done.
            let y = more.1.laid w r u done in
            let z = one.1.laid w y.0 y.1 y.2 in
            (z.0, z.1, z.2, ((count vs, m.0.0, y.0, suc_is (count vs), z.3.0, took_same w z.0 y.0 b m.0.1 z.1 y.1 ∙ g.0, y.3.0), (λ i. z.3.1 i || y.3.1 i)));
        shut = more.1.shut ∙ ap (λ z. z || more.0) one.1.shut ∙ or_assoc b.shut one.0 more.0;
      },
      λ z. more.2 (one.2 z),
    )
  where
    made_one : (a c : Made) → (◌≡◌ {A = Result Made Place} (Ok a) (Ok c)) → a ≡ c
    made_one a c e = cc

    suc_is : (n : ℕ) → suc n ≡ n + 1
    suc_is n = omega arith

pub list_sound : (mode : Mode) (schema : CoreSchema) (R : Maker) (vs : Plains) → AllSound mode schema R vs → (h : Spot)
    (c : Shape) (q : ℕ) (b : Grown) (outs : List ℕ) (x : Grown) → list_at R h c q vs b ≡ Ok (made outs x)
    → ShapeSound mode schema (list_of vs) c b outs x
unfolding ItemsSound
list_sound mode schema R vs sound h (typed (closed.repeat n t)) q b outs x e =
    let k = only_ok (nat_eq (count vs) n) _ _ (made outs x) e in
    let long : count vs ≡ n = eqb-true (count vs) n k.0 in
    let m = bind_ok (make_items R h t q vs b) _ (made outs x) k.1 in
    let same = made_same [] outs m.0 x m.2 in
    let i = items_sound mode schema R vs sound h t q b m.0 m.1 in
    let P : Grown → Type 0 = λ z. ShapeSound mode schema (list_of vs) (typed (closed.repeat n t)) b outs z in
    let N : ℕ → Type 0 = λ n. ShapeSound mode schema (list_of vs) (typed (closed.repeat n t)) b outs m.0 in
    subst P same.1 (subst N long (i.0, goes_as _ _ i.0 b m.0 i.1 (λ s r d. ((sym same.0, d.0), d.1)), i.2))
list_sound mode schema R vs sound h _ q b outs x e = cc

-- ---- records

pub compares_of : (op : Op) (m n : ℕ) → comparison op m n ≡ true → Compares op m n
compares_of Eq m n e = eqb-true m n e
compares_of Lt m n e = ltb-true m n e
compares_of Le m n e = leb-true m n e
compares_of Gt m n e = ltb-true n m e
compares_of Ge m n e = leb-true n m e

abbrev pub FieldsSound : Mode → CoreSchema → Plains → Items → Scope → Grown → Scope → Grown → Type 0
FieldsSound mode schema vs is scope b end x =
    (e : Bool) × Goes (λ s r. (f : Fields is (Each mode schema vs) scope s end r) × (ends_fields mode schema vs is scope s end r f ≡ e)) e b x
    × Keeps b x

ended_same : (end other : Scope) (b x : Grown) → (◌≡◌ {A = Result (Scope × Grown) Place} (Ok (ended end b)) (Ok (ended other x)))
    → (end ≡ other) × (b ≡ x)
ended_same end other b x e =
    let k = one (ended end b) (ended other x) e in (ap (λ (z : Scope × Grown). z.0) k, ap (λ (z : Scope × Grown). z.1) k)
  where
    one : (a c : Scope × Grown) → (◌≡◌ {A = Result (Scope × Grown) Place} (Ok a) (Ok c)) → a ≡ c
    one a c e = cc

step_one : (a c : Step) → (◌≡◌ {A = Result Step Place} (Ok a) (Ok c)) → a ≡ c
step_one a c e = cc

fields_sound : (mode : Mode) (schema : CoreSchema) (R : Maker) (h : Spot) (is : Items) (vs : Plains)
    → AllSound mode schema R vs → (scope : Scope) (q : ℕ) (b : Grown) (end : Scope) (x : Grown)
    → make_fields R h is scope q vs b ≡ Ok (ended end x) → FieldsSound mode schema vs is scope b end x
fields_sound mode schema R h no_items no_vals sound scope q b end x e =
    let same = ended_same scope end b x e in
    let P : Grown → Type 0 = λ z. FieldsSound mode schema no_vals no_items scope b end z in
    subst P same.1 (false, goes_none _ b (λ s. ((sym same.0, refl), refl)), λ z. z)
fields_sound mode schema R h no_items (a_val v vs) sound scope q b end x e = cc
fields_sound mode schema R h (an_item (check a op c i) is) vs sound scope q b end x e =
    let k = bind_ok (step R h (check a op c i) scope q vs b) _ (ended end x) e in
    let m = bind_ok (known (item_of h i) (value_in a scope)) _ k.0 k.1 in
    let n = bind_ok (known (item_of h i) (value_in c scope)) _ k.0 m.2 in
    let g = only_ok (comparison op m.0 n.0) _ _ k.0 n.2 in
    let same = step_one _ k.0 g.1 in
    let M : Step → Type 0 = λ z. make_fields R h is z.scope z.begun z.due z.grown ≡ Ok (ended end x) in
    let more = fields_sound mode schema R h is vs sound scope q b end x (subst M (sym same) k.2) in (
      more.0,
      goes_as _ _ more.0 b x more.1 (λ s r f. ((m.0, n.0, known_ok (item_of h i) (value_in a scope) m.0 m.1, known_ok (item_of h i) (value_in c scope) n.0 n.1, compares_of op m.0 n.0 g.0, f.0), check_ends mode schema vs is a c op i scope s end r (m.0, n.0, known_ok (item_of h i) (value_in a scope) m.0 m.1, known_ok (item_of h i) (value_in c scope) n.0 n.1, compares_of op m.0 n.0 g.0, f.0) ∙ f.1)),
      more.2,
    )
fields_sound mode schema R h (an_item (solve v a c i) is) vs sound scope q b end x e =
    let k = bind_ok (step R h (solve v a c i) scope q vs b) _ (ended end x) e in
    let m = bind_ok (reported (item_of h i) (sought_number a c scope.numbers)) _ k.0 k.1 in
    let same = step_one _ k.0 m.2 in
    let M : Step → Type 0 = λ z. make_fields R h is z.scope z.begun z.due z.grown ≡ Ok (ended end x) in
    let more = fields_sound mode schema R h is vs sound (with_number v m.0 scope) q b end x (subst M (sym same) k.2) in
    let solves = sought_sound a c scope.numbers m.0 (reported_ok (item_of h i) (sought_number a c scope.numbers) m.0 m.1) in (
      more.0,
      goes_as _ _ more.0 b x more.1 (λ s r f. ((m.0, solves, f.0), solve_ends mode schema vs is a c v i scope s end r (m.0, solves, f.0) ∙ f.1)),
      more.2,
    )
fields_sound mode schema R h (an_item (field y slot c t) is) no_vals sound scope q b end x e = cc
fields_sound mode schema R h (an_item (field y slot c t) is) (a_val v vs) sound scope q b end x e =
    let g = at_field c t scope in
    let k = bind_ok (step R h (field y slot c t) scope q (a_val v vs) b) _ (ended end x) e in
    let m = bind_ok (R (field_of h y) g q v b) _ k.0 k.1 in
    let same = step_one _ k.0 m.2 in
    let M : Step → Type 0 = λ z. make_fields R h is z.scope z.begun z.due z.grown ≡ Ok (ended end x) in
    let one = sound.0 (field_of h y) g q b m.0.0 m.0.1 tt m.1 in
    let more = fields_sound mode schema R h is vs sound.1 (bind (sets slot t) m.0.0 scope) (q + parts v) m.0.1 end x (subst M (sym same) k.2) in (
      one.0 || more.0,
      goes_then _ _ _ one.0 more.0 b m.0.1 x one.1 more.1 (λ s middle r d f. ((m.0.0, middle, d.0, f.0), (λ i. d.1 i || f.1 i))),
      λ z. more.2 (one.2 z),
    )

pub same_is : (xs ys : List Word) → same_words xs ys ≡ true → xs ≡ ys
same_is [] [] e = refl
same_is [] (y ∷ ys) e = cc
same_is (x ∷ xs) [] e = cc
same_is (x ∷ xs) (y ∷ ys) e =
    let k = both (bytes_eq x y) (same_words xs ys) e in
    λ i. (bytes_eq-Decides x y).0 k.0 i ∷ same_is xs ys k.1 i

names_are : (names : List Word) (vs : Plains) (is : Items) → has_fields names vs is ≡ true → names ≡ field_names is
names_are names vs is e =
    same_is names (field_names is) (both (same_words names (field_names is)) (nat_eq (count vs) (length names)) e).0

err_ok : {A : Type 0} {p : Place} {x : A} → (◌≡◌ {A = Result A Place} (Err p) (Ok x)) → ⊥
err_ok e = cc

-- the chosen constructor stands there
chosen_from : (c : Declaration) (o : Option Scope) (later : Option Choice) (d : Declaration) (scope : Scope)
    → first c o later ≡ Some (d, scope) → ((o ≡ Some scope) × (c ≡ d)) ⊎ (later ≡ Some (d, scope))
chosen_from c (Some z) later d scope e = inl (ap Some (ap (λ (y : Choice). y.1) (some_one (c, z) (d, scope) e)), ap (λ (y : Choice). y.0) (some_one (c, z) (d, scope) e))
  where
    some_one : (a k : Choice) → (◌≡◌ {A = Option Choice} (Some a) (Some k)) → a ≡ k
    some_one a k e = cc
chosen_from c None later d scope e = inr e

fit_of : (type name : Word) (args : ClosedArgs) (c : Declaration) (scope : Scope)
    → candidate type name args c ≡ Some scope → fit c.core args ≡ Some scope
fit_of type name args c scope e = go (bytes_eq c.of_type type && bytes_eq c.shown name) e
  where
    go : (t : Bool) → cond t (fit c.core args) None ≡ Some scope → fit c.core args ≡ Some scope
    go true e = e
    go false e = cc

pub choose_is : (type name : Word) (args : ClosedArgs) (schema : CoreSchema) (d : Declaration) (scope : Scope)
    → choose schema type name args ≡ Some (d, scope) → (at : ℕ) × Meets schema type name args at d scope
choose_is type name args [] d scope e = cc
choose_is type name args (c ∷ cs) d scope e = go (chosen_from c (candidate type name args c) (choose cs type name args) d scope e) (choose_is type name args cs d scope)
  where
    go : ((candidate type name args c ≡ Some scope) × (c ≡ d)) ⊎ (choose cs type name args ≡ Some (d, scope))
        → (choose cs type name args ≡ Some (d, scope) → (at : ℕ) × Meets cs type name args at d scope) → (at : ℕ) × Meets (c ∷ cs) type name args at d scope
    go (inl k) ih =
        let same = candidate_is type name args c scope k.0 in
        let P : Declaration → Type 0 = λ z. Meets (c ∷ cs) type name args zero z scope in
        (zero, subst P k.1 (record { there = refl; of_type = same.0; shown = same.1; fitting = fit_sound c.core args scope (fit_of type name args c scope k.0) }))
    go (inr k) ih =
        let m = ih k in
        (suc m.0, record { there = m.1.there; of_type = m.1.of_type; shown = m.1.shown; fitting = m.1.fitting })

-- the tag and the items of a constructor that stands there
inside_sound : (mode : Mode) (schema : CoreSchema) → IsBuildable schema → (R : Maker) (name : Word)
    (names : List Word) (vs : Plains) → AllSound mode schema R vs → (type : Word) (args : ClosedArgs) (q : ℕ)
    (b : Grown) (outs : List ℕ) (x : Grown) (c : Declaration) (scope : Scope) (at : ℕ)
    → Meets schema type name args at c scope → names ≡ field_names c.core.items
    → make_inside R c scope q vs b ≡ Ok (made outs x)
    → ShapeSound mode schema (record_of (Some name) names vs) (typed (closed.named type args)) b outs x
inside_sound mode schema ok R name names vs sound type args q b outs x c scope at there names_is e =
    let tag = c.core.tag in
    let g = bind_ok (put (tag_of (start c)) (only_bits tag) false false b) _ (made outs x) e in
    let p = was_put (tag_of (start c)) (only_bits tag) false false b g.0 g.1 in
    let m = bind_ok (make_fields R (start c) c.core.items scope q vs g.0) _ (made outs x) g.2 in
    let end = m.0.0 in
    let o = bind_ok (known (result_of (start c)) (values_in c.core.outputs end)) _ (made outs x) m.2 in
    let same = made_same o.0 outs m.0.1 x o.2 in
    let given = known_ok (result_of (start c)) (values_in c.core.outputs end) o.0 o.1 ∙ ap Some same.0 in
    let fields = fields_sound mode schema R (start c) c.core.items vs sound scope q g.0 end m.0.1 m.1 in
    let F : Slice → Slice → Type 0 = λ s r. Then s (only_bits tag) r × (false ≡ true → r ≡ nothing) in
    let G : Slice → Slice → Type 0 = λ s r. (f : Fields c.core.items (Each mode schema vs) scope s end r) × (ends_fields mode schema vs c.core.items scope s end r f ≡ fields.0) in
    let H : Slice → Slice → Type 0 = IsSpelledAt mode schema (record_of (Some name) names vs) (typed (closed.named type args)) outs fields.0 in
    let goes : Goes H fields.0 b m.0.1 = goes_then F G H false fields.0 b g.0 m.0.1 (goes_put (only_bits tag) false false b g.0 p) fields.1 (λ s middle r t d. ((at, c, scope, middle, end, there, names_is, t.0, d.0, given), d.1)) in
    let keeps : Keeps b m.0.1 = λ z. fields.2 (bits_held tag b g.0 p (ok.tags at c there.there) z) in
    let P : Grown → Type 0 = λ z. Goes H fields.0 b z × Keeps b z in
    let both_of = subst P same.1 (goes, keeps) in
    (fields.0, both_of.0, both_of.1)

declared_sound : (mode : Mode) (schema : CoreSchema) → IsBuildable schema → (R : Maker) (name : Word)
    (names : List Word) (vs : Plains) → AllSound mode schema R vs → (h : Spot) (type : Word) (args : ClosedArgs) (q : ℕ)
    (b : Grown) (outs : List ℕ) (x : Grown) → (o : Option Choice) → choose schema type name args ≡ o
    → make_declared R h o q names vs b ≡ Ok (made outs x)
    → ShapeSound mode schema (record_of (Some name) names vs) (typed (closed.named type args)) b outs x
declared_sound mode schema ok R name names vs sound h type args q b outs x None f e = absurd (err_ok e)
declared_sound mode schema ok R name names vs sound h type args q b outs x (Some z) f e =
    let there = choose_is type name args schema z.0 z.1 f in
    let k = only_ok (has_fields names vs z.0.core.items) _ (make_inside R z.0 z.1 q vs b) (made outs x) e in
    inside_sound mode schema ok R name names vs sound type args q b outs x z.0 z.1 there.0 there.1 (names_are names vs z.0.core.items k.0) k.1

pub record_sound : (mode : Mode) (schema : CoreSchema) → IsBuildable schema → (R : Maker) (name : Word)
    (names : List Word) (vs : Plains) → AllSound mode schema R vs → (h : Spot) (c : Shape) (q : ℕ) (b : Grown)
    (outs : List ℕ) (x : Grown) → record_at schema R h c q (Some name) names vs b ≡ Ok (made outs x)
    → ShapeSound mode schema (record_of (Some name) names vs) c b outs x
record_sound mode schema ok R name names vs sound h (typed (closed.named type args)) q b outs x e =
    declared_sound mode schema ok R name names vs sound h type args q b outs x (choose schema type name args) refl e
record_sound mode schema ok R name names vs sound h _ q b outs x e = cc

pub inner_sound : (mode : Mode) (schema : CoreSchema) (R : Maker) (names : List Word) (vs : Plains)
    → AllSound mode schema R vs → (h : Spot) (c : Shape) (q : ℕ) (b : Grown) (outs : List ℕ) (x : Grown)
    → record_at schema R h c q None names vs b ≡ Ok (made outs x)
    → ShapeSound mode schema (record_of None names vs) c b outs x
inner_sound mode schema R names vs sound h (fields_here is scope) q b outs x e =
    let k = only_ok (has_fields names vs is) _ _ (made outs x) e in
    let names_is = names_are names vs is k.0 in
    let m = bind_ok (make_fields R h is scope q vs b) _ (made outs x) k.1 in
    let same = made_same [] outs m.0.1 x m.2 in
    let fields = fields_sound mode schema R h is vs sound scope q b m.0.0 m.0.1 m.1 in
    let P : Grown → Type 0 = λ z. ShapeSound mode schema (record_of None names vs) (fields_here is scope) b outs z in
    subst P same.1 (fields.0, goes_as _ _ fields.0 b m.0.1 fields.1 (λ s r d. ((sym same.0, names_is, m.0.0, d.0), d.1)), fields.2)
inner_sound mode schema R names vs sound h (typed (closed.named type args)) q b outs x e = cc
inner_sound mode schema R names vs sound h _ q b outs x e = cc
