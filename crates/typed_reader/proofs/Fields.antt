-- A record's operations one after the other.
use Rattle.std.proofs.Common.{◌≡◌, ℕ, suc, ◌+◌, ◌<◌, ◌≤◌, List, [], ◌∷◌, ◌++◌, map, Option, Some, None, Result, Ok, Err, refl}
use Rattle.std.proofs.Common.{ap, sym, ◌∙◌, subst, arith, drop, drop-cons, get_or, length}
use Rattle.std.specs.Prelude.{option_to_list, option_map}
use Rattle.std.proofs.lemmas.List.{drop_all}
use Rattle.core_form.specs.Core.{Condition, Item, Ty, Word, check, solve, field, field_names}
use Rattle.core_form.specs.Scope.{Scope, value_in}
use Rattle.flat_form.specs.Stands.{bit_of, expr_at, items_in, name_at, slot_of, type_at}
use Rattle.flat_form.specs.declared.lists.Flat.{Flat}
use Rattle.flat_form.specs.declared.lists.PlanOp.{PlanOp}
use Rattle.flat_form.specs.declared.lists.PlanOp.TheVariants.{Check, Solve, When, Field}
use Rattle.flat_form.specs.Sound.{OpsAreSound}
use Rattle.hashmap_tree.specs.Entries.{Slice}
use Rattle.plan_reading.specs.Shaped.{GovernIsSound, governed}
use Rattle.plan_reading.specs.Stops.{Stops}
use Rattle.plan_reading.specs.declared.stop.StopError.{StopError}
use Rattle.nat_solver.specs.Number.{comparison}
use Rattle.plan_reading.specs.Gives.{unchanged}
use Rattle.spelling.specs.Goals.{at_field}
use Rattle.spelling.specs.declared.Cause.TheVariants.{Constraint}
use Rattle.spelling.specs.Places.{Place, Spot, at_root, field_of, item_of, stuck}
use Rattle.spelling.specs.PlainReader.{◌>>=◌, Got, Reader, Step, known, prepend, read_fields, reported, sought_number, step}
use Rattle.spelling_laws.specs.StepLaws.{bind_ok, ok_one, only_ok}
use Rattle.typed_value.specs.Values.{Plain, Plains, Val, Vals, no_vals, a_val, parts, parts_in}
use Rattle.typed_value.specs.View.{names_in, pair_of, vals_in, vals_of}
use Rattle.typed_value.specs.declared.value.Value.{Value}
use Rattle.typed_reader.specs.Turns.{Turned, alone, turn}
use Rattle.typed_reader.specs.View.{given, named_by}
use Rattle.plan_reading.specs.StopLaws.{stops_then}
use Rattle.typed_reader.proofs.Steps.{goes_on, stops_same}

-- ---- one operation

abbrev after_step : Reader → Spot → Flat → List PlanOp → Step → Option Condition → Result Got Place
after_step R h f ops x c =
    read_fields R h (items_in f (type_at f) c ops) x.scope x.begun x.left
    >>= (λ more. Ok (let got : Got = (prepend x.gives more.0, more.1, more.2) in got))

alone_on : {B : Type 0} (r : Result Step Place) (k : Turned → Result B Place)
    → (alone r >>= k) ≡ (r >>= (λ x. k (x, None)))
alone_on (Ok x) k = refl
alone_on (Err e) k = refl

same_got : (r : Result Got Place) → (r >>= (λ more. Ok (let got : Got = (prepend [] more.0, more.1, more.2) in got))) ≡ r
same_got (Ok x) = refl
same_got (Err e) = refl

pub turn_first : (R : Reader) (h : Spot) (f : Flat) (c : Option Condition) (op : PlanOp) (ops : List PlanOp) (scope : Scope)
    (q : ℕ) (s : Slice)
    → read_fields R h (items_in f (type_at f) c (op ∷ ops)) scope q s
    ≡ (turn R h f c op scope q s >>= (λ x. after_step R h f ops x.0 x.1))
turn_first R h f c (Check a op b i) ops scope q s =
    sym (alone_on (step R h (check (expr_at f a) op (expr_at f b) i) scope q s) (λ x. after_step R h f ops x.0 x.1))
turn_first R h f c (Solve v a b i) ops scope q s =
    sym (alone_on (step R h (solve v (expr_at f a) (expr_at f b) i) scope q s) (λ x. after_step R h f ops x.0 x.1))
turn_first R h f c (When e k) ops scope q s =
    sym (same_got (read_fields R h
    (items_in f (type_at f) (Some (record { number = expr_at f e; bit = bit_of k })) ops) scope q s))
turn_first R h f c (Field x t v) ops scope q s =
    sym (alone_on (step R h (field (name_at f x) (slot_of v) c (type_at f t)) scope q s)
    (λ x. after_step R h f ops x.0 x.1))

-- ---- so far

-- the record's fields, of which these values stand before
abbrev pub with_first : List Plain → Result Got Place → Result Got Place
with_first vs r = r >>= (λ more. Ok (let got : Got = (prepend vs more.0, more.1, more.2) in got))

prepend_more : (vs ws : List Plain) (xs : Plains) → prepend (vs ++ ws) xs ≡ prepend vs (prepend ws xs)
prepend_more [] ws xs = refl
prepend_more (v ∷ vs) ws xs = ap (a_val v) (prepend_more vs ws xs)

first_twice : (vs ws : List Plain) (r : Result Got Place) → with_first vs (with_first ws r) ≡ with_first (vs ++ ws) r
first_twice vs ws (Ok x) = λ i. Ok (sym (prepend_more vs ws x.0) i, x.1, x.2)
first_twice vs ws (Err e) = refl

pub none_first : (r : Result Got Place) → with_first [] r ≡ r
none_first r = same_got r

-- after one more operation
pub turn_more : (R : Reader) (h : Spot) (f : Flat) (c : Option Condition) (op : PlanOp) (ops : List PlanOp) (scope : Scope)
    (q : ℕ) (s : Slice) (vs : List Plain) (whole : Result Got Place) (x : Turned)
    → whole ≡ with_first vs (read_fields R h (items_in f (type_at f) c (op ∷ ops)) scope q s)
    → turn R h f c op scope q s ≡ Ok x
    → whole ≡ with_first (vs ++ x.0.gives)
    (read_fields R h (items_in f (type_at f) x.1 ops) x.0.scope x.0.begun x.0.left)
turn_more R h f c op ops scope q s vs whole x so_far turned =
    so_far ∙ ap (with_first vs) (turn_first R h f c op ops scope q s
    ∙ goes_on (turn R h f c op scope q s) (λ x. after_step R h f ops x.0 x.1) x turned)
    ∙ first_twice vs x.0.gives (read_fields R h (items_in f (type_at f) x.1 ops) x.0.scope x.0.begun x.0.left)

pub turn_stops : (R : Reader) (h : Spot) (f : Flat) (c : Option Condition) (op : PlanOp) (ops : List PlanOp) (scope : Scope)
    (q : ℕ) (s : Slice) (vs : List Plain) (whole : Result Got Place) (e : StopError)
    → whole ≡ with_first vs (read_fields R h (items_in f (type_at f) c (op ∷ ops)) scope q s)
    → Stops h e (turn R h f c op scope q s) → Stops h e whole
turn_stops R h f c op ops scope q s vs whole e so_far stop =
    stops_same h e whole (with_first vs (read_fields R h (items_in f (type_at f) c (op ∷ ops)) scope q s)) so_far
    (stops_then h e _ _ (stops_same h e _ _ (turn_first R h f c op ops scope q s)
    (stops_then h e _ (λ x. after_step R h f ops x.0 x.1) stop)))

-- ---- the loop

-- the values of fields
abbrev pub only_values : List (List ℕ × Plain) → List Plain
only_values [] = []
only_values (p ∷ ps) = p.1 ∷ only_values ps

-- what the fields and the operations that are left make of the whole
pub record SoFar (R : Reader) (f : Flat) (ops : List PlanOp) (start : Scope) (from : ℕ) (whole : Slice)
    (ps : List (List ℕ × Plain)) (c : Option (ℕ × ℕ)) (rest : List PlanOp) (scope : Scope) (q : ℕ) (s : Slice) : Type 0 where
  pub sound : OpsAreSound f (length f.types) rest
  pub condition : GovernIsSound f c
  pub so_far : (h : Spot) → read_fields R h (items_in f (type_at f) None ops) start from whole
      ≡ with_first (only_values ps) (read_fields R h (items_in f (type_at f) (governed f c) rest) scope q s)
  pub names : field_names (items_in f (type_at f) None ops)
      ≡ names_in ps ++ field_names (items_in f (type_at f) (governed f c) rest)
  pub counts : q ≡ from + parts_in (vals_in ps)

pub none_yet : (R : Reader) (f : Flat) (ops : List PlanOp) (start : Scope) (from : ℕ) (whole : Slice)
    → OpsAreSound f (length f.types) ops → SoFar R f ops start from whole [] None ops start from whole
none_yet R f ops start from whole sound = record {
  sound = sound;
  condition = tt;
  so_far = λ h. sym (none_first (read_fields R h (items_in f (type_at f) None ops) start from whole));
  names = refl;
  counts = omega arith;
}

-- ---- what a field adds

values_more : (ps : List (List ℕ × Plain)) (x : Option (List ℕ × Value))
    → only_values (ps ++ option_to_list (option_map pair_of x)) ≡ only_values ps ++ given x
values_more [] None = refl
values_more [] (Some p) = refl
values_more (p ∷ ps) x = ap (λ vs. p.1 ∷ vs) (values_more ps x)

list_assoc : {A : Type 0} (a b c : List A) → a ++ (b ++ c) ≡ (a ++ b) ++ c
list_assoc [] b c = refl
list_assoc (x ∷ a) b c = ap (λ z. x ∷ z) (list_assoc a b c)

names_more : (ps : List (List ℕ × Plain)) (x : Option (List ℕ × Value))
    → names_in (ps ++ option_to_list (option_map pair_of x)) ≡ names_in ps ++ option_to_list (option_map (λ p. p.0) x)
names_more [] None = refl
names_more [] (Some p) = refl
names_more (p ∷ ps) x = ap (λ ns. p.0 ∷ ns) (names_more ps x)

parts_more : (ps : List (List ℕ × Plain)) (x : Option (List ℕ × Value))
    → parts_in (vals_in (ps ++ option_to_list (option_map pair_of x))) ≡ parts_in (vals_in ps) + parts_in (vals_of (given x))
parts_more [] None = omega arith
parts_more [] (Some p) = omega arith
parts_more (p ∷ ps) x = let more = parts_more ps x in omega (arith, more)

names_same : (f : Flat) (c d : Option Condition) (ops : List PlanOp)
    → field_names (items_in f (type_at f) c ops) ≡ field_names (items_in f (type_at f) d ops)
names_same f c d [] = refl
names_same f c d (Check a op b i ∷ ops) = refl
names_same f c d (Solve v a b i ∷ ops) = refl
names_same f c d (When e k ∷ ops) = refl
names_same f c d (Field x t v ∷ ops) = refl

turn_names : (f : Flat) (c d : Option Condition) (op : PlanOp) (ops : List PlanOp)
    → field_names (items_in f (type_at f) c (op ∷ ops))
    ≡ option_to_list (named_by f op) ++ field_names (items_in f (type_at f) d ops)
turn_names f c d (Check a op b i) ops = names_same f None d ops
turn_names f c d (Solve v a b i) ops = names_same f None d ops
turn_names f c d (When e k) ops = names_same f (Some (record { number = expr_at f e; bit = bit_of k })) d ops
turn_names f c d (Field x t v) ops = ap (λ ns. name_at f x ∷ ns) (names_same f None d ops)

-- ---- the parts that an operation begins

abbrev Counted : ℕ → Step → Type 0
Counted q x = x.begun ≡ q + parts_in (vals_of x.gives)

alone_counts : (r : Result Step Place) (x : Turned) → alone r ≡ Ok x → r ≡ Ok x.0
alone_counts (Ok y) x e =
    let same : (◌≡◌ {A = Turned} (y, None) x) = ok_one (y, None) x (Ok x) e in ap (λ (z : Turned). Ok z.0) same
alone_counts (Err p) x e = cc

step_counts : (R : Reader) (h : Spot) (i : Item) (scope : Scope) (q : ℕ) (s : Slice) (x : Step)
    → step R h i scope q s ≡ Ok x → Counted q x
step_counts R h (check a op b i) scope q s x e =
    let v = bind_ok (known (item_of h i) (value_in a scope)) _ x e in
    let w = bind_ok (known (item_of h i) (value_in b scope)) _ x v.2 in
    let g = only_ok {A = Step} (comparison op v.0 w.0) (stuck (item_of h i) Constraint)
    (Ok (record { gives = []; scope = scope; begun = q; left = s })) x w.2 in
    subst (Counted q) (ok_one _ _ (Ok x) g.1) (omega arith)
step_counts R h (solve u a b i) scope q s x e =
    let k = bind_ok (reported (item_of h i) (sought_number a b scope.numbers)) _ x e in
    subst (Counted q) (ok_one _ _ (Ok x) k.2) (omega arith)
step_counts R h (field y slot c t) scope q s x e =
    let v = bind_ok (R (field_of h y) (at_field c t scope) q s) _ x e in
    subst (Counted q) (ok_one _ _ (Ok x) v.2) (omega arith)

turn_counts : (R : Reader) (h : Spot) (f : Flat) (c : Option Condition) (op : PlanOp) (scope : Scope) (q : ℕ) (s : Slice)
    (x : Turned) → turn R h f c op scope q s ≡ Ok x → Counted q x.0
turn_counts R h f c (Check a op b i) scope q s x e =
    step_counts R h (check (expr_at f a) op (expr_at f b) i) scope q s x.0 (alone_counts _ x e)
turn_counts R h f c (Solve v a b i) scope q s x e =
    step_counts R h (solve v (expr_at f a) (expr_at f b) i) scope q s x.0 (alone_counts _ x e)
turn_counts R h f c (When n k) scope q s x e =
    let y : Turned = (unchanged scope q s, Some (record { number = expr_at f n; bit = bit_of k })) in
    subst (λ (z : Turned). Counted q z.0) (ok_one y x (Ok x) e) (omega arith)
turn_counts R h f c (Field y t v) scope q s x e =
    step_counts R h (field (name_at f y) (slot_of v) c (type_at f t)) scope q s x.0 (alone_counts _ x e)

-- ---- one more operation, and the end

pub one_more : (R : Reader) (f : Flat) (ops : List PlanOp) (start : Scope) (from : ℕ) (whole : Slice)
    (ps : List (List ℕ × Plain)) (c : Option (ℕ × ℕ)) (op : PlanOp) (rest : List PlanOp) (scope : Scope) (q : ℕ) (s : Slice)
    (x : Option (List ℕ × Value)) (d : Option (ℕ × ℕ)) (after : Scope) (k : ℕ) (left : Slice) (qs : List (List ℕ × Plain))
    → SoFar R f ops start from whole ps c (op ∷ rest) scope q s
    → ((h : Spot) → turn R h f (governed f c) op scope q s
    ≡ Ok (record { gives = given x; scope = after; begun = k; left = left }, governed f d))
    → option_map (λ p. p.0) x ≡ named_by f op
    → GovernIsSound f d
    → qs ≡ ps ++ option_to_list (option_map pair_of x)
    → SoFar R f ops start from whole qs d rest after k left
one_more R f ops start from whole ps c op rest scope q s x d after k left qs b turned name sound same =
    let y : Turned = (record { gives = given x; scope = after; begun = k; left = left }, governed f d) in
    let counted : Counted q y.0 = turn_counts R at_root f (governed f c) op scope q s y (turned at_root) in
    let more = parts_more ps x in
    let before = b.counts in
    let T : List (List ℕ × Plain) → Type 0 = λ zs. SoFar R f ops start from whole zs d rest after k left in
    subst T (sym same) (record {
      sound = b.sound.1;
      condition = sound;
      so_far = λ h. turn_more R h f (governed f c) op rest scope q s (only_values ps)
          (read_fields R h (items_in f (type_at f) None ops) start from whole) y (b.so_far h) (turned h)
          ∙ ap (λ vs. with_first vs (read_fields R h (items_in f (type_at f) (governed f d) rest) after k left))
          (sym (values_more ps x));
      names = b.names ∙ ap (λ ns. names_in ps ++ ns) (turn_names f (governed f c) (governed f d) op rest)
          ∙ list_assoc (names_in ps) (option_to_list (named_by f op)) (field_names (items_in f (type_at f) (governed f d) rest))
          ∙ ap (λ ns. ns ++ field_names (items_in f (type_at f) (governed f d) rest))
          (ap (λ o. names_in ps ++ option_to_list o) (sym name) ∙ sym (names_more ps x));
      counts = omega (arith, counted, more, before);
    })

pub one_stops : (R : Reader) (f : Flat) (ops : List PlanOp) (start : Scope) (from : ℕ) (whole : Slice)
    (ps : List (List ℕ × Plain)) (c : Option (ℕ × ℕ)) (op : PlanOp) (rest : List PlanOp) (scope : Scope) (q : ℕ) (s : Slice)
    (h : Spot) (e : StopError)
    → SoFar R f ops start from whole ps c (op ∷ rest) scope q s
    → Stops h e (turn R h f (governed f c) op scope q s)
    → Stops h e (read_fields R h (items_in f (type_at f) None ops) start from whole)
one_stops R f ops start from whole ps c op rest scope q s h e b stop =
    turn_stops R h f (governed f c) op rest scope q s (only_values ps)
    (read_fields R h (items_in f (type_at f) None ops) start from whole) e (b.so_far h) stop

all_values : (ps : List (List ℕ × Plain)) → prepend (only_values ps) no_vals ≡ vals_in ps
all_values [] = refl
all_values (p ∷ ps) = ap (a_val p.1) (all_values ps)

nothing_after : (ns : List Word) → ns ++ [] ≡ ns
nothing_after [] = refl
nothing_after (n ∷ ns) = ap (λ z. n ∷ z) (nothing_after ns)

pub all_read : (R : Reader) (f : Flat) (ops : List PlanOp) (start : Scope) (from : ℕ) (whole : Slice)
    (ps : List (List ℕ × Plain)) (c : Option (ℕ × ℕ)) (scope : Scope) (q : ℕ) (s : Slice)
    → SoFar R f ops start from whole ps c [] scope q s → (h : Spot)
    → read_fields R h (items_in f (type_at f) None ops) start from whole
    ≡ Ok (let got : Got = (vals_in ps, scope, s) in got)
all_read R f ops start from whole ps c scope q s b h =
    b.so_far h ∙ ap (λ vs. Ok (let got : Got = (vs, scope, s) in got)) (all_values ps)

pub all_named : (R : Reader) (f : Flat) (ops : List PlanOp) (start : Scope) (from : ℕ) (whole : Slice)
    (ps : List (List ℕ × Plain)) (c : Option (ℕ × ℕ)) (scope : Scope) (q : ℕ) (s : Slice)
    → SoFar R f ops start from whole ps c [] scope q s
    → names_in ps ≡ field_names (items_in f (type_at f) None ops)
all_named R f ops start from whole ps c scope q s b = sym (b.names ∙ nothing_after (names_in ps))

-- ---- at a number of an operation

pub at_op : (R : Reader) (f : Flat) (ops : List PlanOp) (start : Scope) (from : ℕ) (whole : Slice)
    (ps : List (List ℕ × Plain)) (c : Option (ℕ × ℕ)) (op : PlanOp) (k : ℕ) (scope : Scope) (q : ℕ) (s : Slice)
    → k < length ops → op ≡ get_or ops k op
    → SoFar R f ops start from whole ps c (drop k ops) scope q s
    → SoFar R f ops start from whole ps c (op ∷ drop (k + 1) ops) scope q s
at_op R f ops start from whole ps c op k scope q s within at b =
    let next : suc k ≡ k + 1 = omega arith in
    let T : List PlanOp → Type 0 = λ rest. SoFar R f ops start from whole ps c rest scope q s in
    subst T (drop-cons ops k op within ∙ ap (λ z. z ∷ drop (suc k) ops) (sym at) ∙ ap (λ n. op ∷ drop n ops) next) b

pub at_end : (R : Reader) (f : Flat) (ops : List PlanOp) (start : Scope) (from : ℕ) (whole : Slice)
    (ps : List (List ℕ × Plain)) (c : Option (ℕ × ℕ)) (k : ℕ) (scope : Scope) (q : ℕ) (s : Slice)
    → length ops ≤ k
    → SoFar R f ops start from whole ps c (drop k ops) scope q s
    → SoFar R f ops start from whole ps c [] scope q s
at_end R f ops start from whole ps c k scope q s after b =
    let T : List PlanOp → Type 0 = λ rest. SoFar R f ops start from whole ps c rest scope q s in
    subst T (drop_all k ops after) b

pub at_index : (R : Reader) (f : Flat) (ops : List PlanOp) (start : Scope) (from : ℕ) (whole : Slice)
    (ps : List (List ℕ × Plain)) (c : Option (ℕ × ℕ)) (d : PlanOp) (k : ℕ) (scope : Scope) (q : ℕ) (s : Slice)
    → k < length ops
    → SoFar R f ops start from whole ps c (drop k ops) scope q s
    → SoFar R f ops start from whole ps c (get_or ops k d ∷ drop (k + 1) ops) scope q s
at_index R f ops start from whole ps c d k scope q s within b =
    let next : suc k ≡ k + 1 = omega arith in
    let T : List PlanOp → Type 0 = λ rest. SoFar R f ops start from whole ps c rest scope q s in
    subst T (drop-cons ops k d within ∙ ap (λ n. get_or ops k d ∷ drop n ops) next) b
