-- The numbers of types, and the kinds at places.
use Rattle.std.proofs.Common.{◌≡◌, ◌≢◌, ℕ, zero, suc, ◌+◌, ◌<◌, ◌≤◌, Bool, true, false, not, List, [], ◌∷◌, ◌++◌, length, map, take, drop, length-append, length-take-le, refl, sym, ap, ◌∙◌, subst, arith}
use Rattle.std.specs.List.{prefix_len}
use Rattle.std.specs.Option.{option_or}
use Rattle.std.specs.Prelude.{◌&&◌, ◌||◌, is_some, cond, Option, Some, None, option_map, slice_get, slice_index_or, nat_lt, max, bytes_eq, position, MatchOption}
use Rattle.std.proofs.lemmas.Grind.{common_steps}
use Rattle.std.proofs.lemmas.Bool.{false≢true}
use Rattle.std.proofs.lemmas.Bool.Decides.{nat_tests}
use Rattle.std.proofs.lemmas.Slice.Eq.{bytes_eq-Decides}
use Rattle.std.proofs.lemmas.List.{at_drop_more, length-map, map-append}
use Rattle.tlb_syntax.specs.declared.tree.Constructor.{Constructor}
use Rattle.tlb_syntax.specs.declared.tree.Expr.{Expr}
use Rattle.tlb_syntax.specs.Tree.{ConstructorView, SchemaView, ItemList}
use Rattle.tlb_syntax.specs.View.{constructor, expr, exprs}
use Rattle.kind_terms.specs.Words.{Word, is_among}
use Rattle.kind_terms.specs.Classes.{is_free}
use Rattle.kind_terms.specs.Params.{kind_of, kinds, kinds_of_exprs}
use Rattle.kind_terms.specs.Types.{count, has_exprs}
use Rattle.kind_terms.specs.Dictionaries.{of_type}
use Rattle.tlb_guard.proofs.Rounds.{same_truth}
use Rattle.tlb_guard.specs.DeclaredTypes.{declared_types, distinct, parameter_kinds, is_declared_type, result_of, kinds_of_type}
use Rattle.tlb_guard.specs.Numbering.{number_of, place_of, views, width, word_at}

-- ---- places

at_first : (b : Bool) (n m : ℕ) → cond (nat_lt (cond (not b) (1 + n) 0) (suc m)) (Some (cond (not b) (1 + n) 0)) None ≡ cond b (Some 0) (option_map suc (cond (nat_lt n m) (Some n) None))
at_first true n m = grind (arith, nat_tests)
at_first false n m = later (nat_lt n m) refl
  where
    later : (b : Bool) → nat_lt n m ≡ b → cond (nat_lt (1 + n) (suc m)) (Some (1 + n)) None ≡ option_map suc (cond b (Some n) None)
    later true e = grind (arith, nat_tests)
    later false e = grind (arith, nat_tests)

pub position-cons : {X : Type 0} (p : X → Bool) (x : X) (xs : List X) → position p (x ∷ xs) ≡ cond (p x) (Some 0) (option_map suc (position p xs))
position-cons p x xs = at_first (p x) (prefix_len (λ y. not (p y)) xs) (length xs)

place_at : (x : Word) (c : ConstructorView) (cs : SchemaView) (b : Bool) → bytes_eq c.result x ≡ b → (o : Option ℕ) (n : ℕ)
    → ((m : ℕ) → o ≡ Some m → (m < length cs) × (word_at cs m ≡ x))
    → cond b (Some 0) (option_map suc o) ≡ Some n → (n < suc (length cs)) × (word_at (c ∷ cs) n ≡ x)
place_at x c cs true is o zero rest e = (omega arith, (bytes_eq-Decides c.result x).0 is)
place_at x c cs true is o (suc n) rest e = absurd (cc)
place_at x c cs false is (Some m) n rest e =
    let same : suc m ≡ n = cc in
    let r = rest m refl in
    let P : ℕ → Type 0 = λ k. (k < suc (length cs)) × (word_at (c ∷ cs) k ≡ x) in
    subst P same (omega (arith, r.0), r.1)
place_at x c cs false is None n rest e = absurd (cc)

-- the place of a word is that of a constructor of this type
pub place_word : (s : SchemaView) (x : Word) (n : ℕ) → place_of s x ≡ Some n → (n < length s) × (word_at s n ≡ x)
place_word [] x n e = absurd (cc)
place_word (c ∷ cs) x n e =
    place_at x c cs (bytes_eq c.result x) refl (place_of cs x) n (place_word cs x) (sym (position-cons (λ (d : ConstructorView). bytes_eq d.result x) c cs) ∙ e)

parameter_kinds_at : (x : Word) (c : ConstructorView) (cs : SchemaView) (b : Bool) → (o : Option ℕ) (n : ℕ)
    → ((m : ℕ) → o ≡ Some m → option_map kinds (slice_get cs m) ≡ Some (kinds_of_type cs x))
    → cond b (Some 0) (option_map suc o) ≡ Some n
    → option_map kinds (slice_get (c ∷ cs) n) ≡ Some (parameter_kinds (cond b (c ∷ of_type cs x) (of_type cs x)))
parameter_kinds_at x c cs true o zero rest e = refl
parameter_kinds_at x c cs true o (suc n) rest e = absurd (cc)
parameter_kinds_at x c cs false (Some m) n rest e =
    let same : suc m ≡ n = cc in
    let P : ℕ → Type 0 = λ k. option_map kinds (slice_get (c ∷ cs) k) ≡ Some (kinds_of_type cs x) in
    subst P same (rest m refl)
parameter_kinds_at x c cs false None n rest e = absurd (cc)

-- the constructor at the place of a type fixes its parameters
pub kinds_at_place : (s : SchemaView) (x : Word) (n : ℕ) → place_of s x ≡ Some n → option_map kinds (slice_get s n) ≡ Some (kinds_of_type s x)
kinds_at_place [] x n e = absurd (cc)
kinds_at_place (c ∷ cs) x n e =
    parameter_kinds_at x c cs (bytes_eq c.result x) (place_of cs x) n (kinds_at_place cs x) (sym (position-cons (λ (d : ConstructorView). bytes_eq d.result x) c cs) ∙ e)

-- a constructor of a type gives it a place
place_there : (c : ConstructorView) (cs : SchemaView) (x : Word) (b : Bool) (o : Option ℕ) → bytes_eq c.result x ≡ b → place_of cs x ≡ o → place_of (c ∷ cs) x ≡ cond b (Some 0) (option_map suc o)
place_there c cs x b o is at = position-cons (λ (d : ConstructorView). bytes_eq d.result x) c cs ∙ cc

place_among : (c : ConstructorView) (cs : SchemaView) (x : Word) (b : Bool) → bytes_eq c.result x ≡ b → (k : ℕ) (d : ConstructorView)
    → ((j : ℕ) → j < length cs → (slice_index_or cs j d).result ≡ x → (m : ℕ) × (place_of cs x ≡ Some m))
    → k < suc (length cs) → (slice_index_or (c ∷ cs) k d).result ≡ x → (m : ℕ) × (place_of (c ∷ cs) x ≡ Some m)
place_among c cs x true is k d rest below h = (0, place_there c cs x true (place_of cs x) is refl)
place_among c cs x false is zero d rest below h = absurd (false≢true (sym is ∙ (bytes_eq-Decides c.result x).1 h))
place_among c cs x false is (suc k) d rest below h =
    let r = rest k (omega (arith, below)) h in (suc r.0, place_there c cs x false (Some r.0) is r.1)

pub some_place : (s : SchemaView) (x : Word) (n : ℕ) (d : ConstructorView) → n < length s → (slice_index_or s n d).result ≡ x → (m : ℕ) × (place_of s x ≡ Some m)
some_place [] x n d lt e = absurd (omega (arith, lt))
some_place (c ∷ cs) x n d lt e =
    place_among c cs x (bytes_eq c.result x) refl n d (λ j below h. some_place cs x j d below h) lt e

-- ---- names of types

among_distinct : (x y : Word) (ys : List Word) (b a : Bool) → is_among ys y ≡ b → bytes_eq x y ≡ a → is_among (distinct ys) x ≡ is_among ys x
    → is_among (cond b (distinct ys) (y ∷ distinct ys)) x ≡ (bytes_eq x y || is_among ys x)
among_distinct x y ys true true there same rest =
    rest ∙ ap (is_among ys) ((bytes_eq-Decides x y).0 same) ∙ there ∙ sym (ap (λ z. z || is_among ys x) same)
among_distinct x y ys true false there same rest = rest ∙ sym (ap (λ z. z || is_among ys x) same)
among_distinct x y ys false a there same rest = ap (λ z. bytes_eq x y || z) rest

distinct_among : (x : Word) (ys : List Word) → is_among (distinct ys) x ≡ is_among ys x
distinct_among x [] = refl
distinct_among x (y ∷ ys) = among_distinct x y ys (is_among ys y) (bytes_eq x y) refl refl (distinct_among x ys)

either_order : (x y : Word) → bytes_eq x y ≡ bytes_eq y x
either_order x y =
    same_truth (bytes_eq x y) (bytes_eq y x)
    (λ e. (bytes_eq-Decides y x).1 (sym ((bytes_eq-Decides x y).0 e)))
    (λ e. (bytes_eq-Decides x y).1 (sym ((bytes_eq-Decides y x).0 e)))

some_at : (b : Bool) (o : Option ℕ) → is_some (cond b (Some 0) (option_map suc o)) ≡ (b || is_some o)
some_at true o = refl
some_at false None = refl
some_at false (Some n) = refl

among_results : (x : Word) (s : SchemaView) → is_among (map result_of s) x ≡ is_some (place_of s x)
among_results x [] = refl
among_results x (c ∷ cs) =
    ap (λ b. b || is_among (map result_of cs) x) (either_order x c.result)
    ∙ ap (λ b. bytes_eq c.result x || b) (among_results x cs)
    ∙ sym (some_at (bytes_eq c.result x) (place_of cs x))
    ∙ sym (ap is_some (position-cons (λ (d : ConstructorView). bytes_eq d.result x) c cs))

pub among_declared : (x : Word) (s : SchemaView) → is_among (declared_types s) x ≡ is_some (place_of s x)
among_declared x s = distinct_among x (map result_of s) ∙ among_results x s

named_at : (b : Bool) (o : Option ℕ) (n : ℕ) → Some n ≡ cond b o None → (o ≡ Some n) × ((b && is_some o) ≡ true)
named_at false o n e = absurd (cc)
named_at true (Some m) n e = (sym e, refl)
named_at true None n e = absurd (cc)

unnamed_at : (b : Bool) (o : Option ℕ) → None ≡ cond b o None → (b && is_some o) ≡ false
unnamed_at false o e = refl
unnamed_at true (Some m) e = absurd (cc)
unnamed_at true None e = refl

-- a type by its name has its place
pub number_place : (s : SchemaView) (x : Word) (n : ℕ) → Some n ≡ number_of s x → place_of s x ≡ Some n
number_place s x n e = (named_at (is_free x) (place_of s x) n e).0

pub number_declared : (s : SchemaView) (x : Word) (n : ℕ) → Some n ≡ number_of s x → is_declared_type s x ≡ true
number_declared s x n e =
    ap (λ b. is_free x && b) (among_declared x s) ∙ (named_at (is_free x) (place_of s x) n e).1

pub number_none : (s : SchemaView) (x : Word) → None ≡ number_of s x → is_declared_type s x ≡ false
number_none s x e =
    ap (λ b. is_free x && b) (among_declared x s) ∙ unnamed_at (is_free x) (place_of s x) e

pub own_number : (s : SchemaView) (x : Word) (n : ℕ) → Some n ≡ number_of s x → place_of s (word_at s n) ≡ Some n
own_number s x n e =
    let place = number_place s x n e in ap (place_of s) (place_word s x n place).1 ∙ place

-- ---- parameters

pub count_of : (es : List Expr) → count (exprs es) ≡ length es
count_of [] = refl
count_of (e ∷ es) = ap suc (count_of es)

pub width_at : (cs : List Constructor) (i : ℕ) (c : Constructor) → i < length cs → c ≡ slice_index_or cs i c
    → width (views (drop i cs)) ≡ max (length c.params) (width (views (drop (i + 1) cs)))
width_at cs i c lt is =
    at_drop_more (λ ds. width (views ds)) cs i c lt
    ∙ ap (λ d. max (count (exprs d.params)) (width (views (drop (i + 1) cs)))) (sym is)
    ∙ ap (λ n. max n (width (views (drop (i + 1) cs)))) (count_of c.params)

pub kind_at : (is : ItemList) (es : List Expr) (n : ℕ) → slice_get (kinds_of_exprs is (exprs es)) n ≡ option_map (λ e. kind_of is (expr e)) (slice_get es n)
kind_at is [] n = refl
kind_at is (e ∷ es) zero = refl
kind_at is (e ∷ es) (suc n) = kind_at is es n

pub has_exprs_some : (es : List Expr) → es ≢ [] → has_exprs (exprs es) ≡ true
has_exprs_some [] n = absurd (n refl)
has_exprs_some (e ∷ es) n = refl

pub width_step : (cs : List Constructor) (i : ℕ) (c : Constructor) (w v n : ℕ) → i < length cs → c ≡ slice_index_or cs i c → v ≡ max w (length c.params)
    → max w (width (views (drop i cs))) ≡ n → max v (width (views (drop (i + 1) cs))) ≡ n
width_step cs i c w v n lt is more before = let e = width_at cs i c lt is in omega (arith, e, more, before)

-- a list that has lost its last item
pub popped : {X : Type 0} (old new : List X) (o : Option X) → MatchOption o ((old ≡ []) × (new ≡ [])) (λ last. old ≡ new ++ last ∷ []) → 0 < length old
    → (length old ≡ length new + 1) × (new ≡ take (length new) old)
popped old new None h some = absurd (let e = ap length h.0 in omega (arith, e, some))
popped old new (Some x) h some =
    let a : length (new ++ x ∷ []) ≡ length new + 1 = length-append new (x ∷ []) in
    (ap length h ∙ a, sym (ap (take (length new)) h ∙ take_of_append new (x ∷ [])))
  where
    take_of_append : {X : Type 0} (xs ys : List X) → take (length xs) (xs ++ ys) ≡ xs
    take_of_append xs ys = grind (arith, common_steps)

pub taken : {X : Type 0} (m n : ℕ) (xs : List X) → m ≤ n → take m (take n xs) ≡ take m xs
taken m n xs le = grind (arith, common_steps)

pub left_scope : {X : Type 0} (first old new : List X) (o : Option X) (count : ℕ) → MatchOption o ((old ≡ []) × (new ≡ [])) (λ last. old ≡ new ++ last ∷ [])
    → old ≡ take (length old) first → count < length old → (count ≤ length new) × (new ≡ take (length new) first)
left_scope first old new o count h prefix lt =
    let p = popped old new o h (omega (arith, lt)) in
    let shorter : length new ≤ length old = omega (arith, p.0) in
    (omega (arith, p.0, lt), p.1 ∙ ap (take (length new)) prefix ∙ taken (length new) (length old) first shorter)

-- ---- one word more

push_at : (b : Bool) (o q : Option ℕ) → cond b (Some 0) (option_map suc (option_or o q)) ≡ option_or (cond b (Some 0) (option_map suc o)) (option_map suc q)
push_at true o q = refl
push_at false None q = refl
push_at false (Some n) q = refl

suc_at : (b : Bool) (n : ℕ) → option_map suc (cond b (Some n) None) ≡ cond b (Some (suc n)) None
suc_at true n = refl
suc_at false n = refl

-- the place of a word, where there is one constructor more
place_push : (x : Word) (s : SchemaView) (c : ConstructorView) → place_of (s ++ c ∷ []) x ≡ option_or (place_of s x) (cond (bytes_eq c.result x) (Some (length s)) None)
place_push x [] c = position-cons (λ (d : ConstructorView). bytes_eq d.result x) c []
place_push x (d ∷ ds) c =
    let p = λ (z : ConstructorView). bytes_eq z.result x in
    position-cons p d (ds ++ c ∷ [])
    ∙ ap (λ o. cond (p d) (Some 0) (option_map suc o)) (place_push x ds c)
    ∙ push_at (p d) (place_of ds x) (cond (p c) (Some (length ds)) None)
    ∙ ap (option_or (cond (p d) (Some 0) (option_map suc (place_of ds x)))) (suc_at (p c) (length ds))
    ∙ ap (λ o. option_or o (cond (p c) (Some (suc (length ds))) None)) (sym (position-cons p d ds))

pub place_more : (cs : List Constructor) (i : ℕ) (c : Constructor) (x : Word) → i < length cs → c ≡ slice_index_or cs i c
    → place_of (views (take (i + 1) cs)) x ≡ option_or (place_of (views (take i cs)) x) (cond (bytes_eq c.result x) (Some i) None)
place_more cs i c x lt is =
    let more : take (i + 1) cs ≡ take i cs ++ c ∷ [] = grind (arith, common_steps) in
    let size : length (views (take i cs)) ≡ i = length-map (take i cs) constructor ∙ length-take-le i cs (omega (arith, lt)) in
    ap (λ z. place_of (views z) x) more
    ∙ ap (λ z. place_of z x) (map-append constructor (take i cs) (c ∷ []))
    ∙ place_push x (views (take i cs)) (constructor c)
    ∙ ap (λ n. option_or (place_of (views (take i cs)) x) (cond (bytes_eq c.result x) (Some n) None)) size

known_at : (get : Word → Option ℕ) (word x : Word) (n : ℕ) (b : Bool) (o : Option ℕ) → bytes_eq word x ≡ b → get x ≡ o → is_some (get word) ≡ true
    → o ≡ option_or o (cond b (Some n) None)
known_at get word x n true None is at some =
    let same : word ≡ x = (bytes_eq-Decides word x).0 is in
    absurd (false≢true (sym (ap is_some (ap get same ∙ at)) ∙ some))
known_at get word x n true (Some m) is at some = refl
known_at get word x n false None is at some = refl
known_at get word x n false (Some m) is at some = refl

pub known_word : (get : Word → Option ℕ) (word x : Word) (n : ℕ) → is_some (get word) ≡ true → get x ≡ option_or (get x) (cond (bytes_eq word x) (Some n) None)
known_word get word x n some = known_at get word x n (bytes_eq word x) (get x) refl refl some

new_at : (get : Word → Option ℕ) (word x : Word) (n : ℕ) (b : Bool) (o : Option ℕ) → bytes_eq word x ≡ b → get x ≡ o → is_some (get word) ≡ false
    → cond b (Some n) o ≡ option_or o (cond b (Some n) None)
new_at get word x n true None is at none = refl
new_at get word x n true (Some m) is at none =
    let same : word ≡ x = (bytes_eq-Decides word x).0 is in
    absurd (false≢true (sym none ∙ ap is_some (ap get same ∙ at)))
new_at get word x n false None is at none = refl
new_at get word x n false (Some m) is at none = refl

pub new_word : (get : Word → Option ℕ) (word x : Word) (n : ℕ) → is_some (get word) ≡ false → cond (bytes_eq word x) (Some n) (get x) ≡ option_or (get x) (cond (bytes_eq word x) (Some n) None)
new_word get word x n none = new_at get word x n (bytes_eq word x) (get x) refl refl none
