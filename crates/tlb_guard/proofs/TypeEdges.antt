-- Edges between types, by words and by numbers.
use Rattle.std.proofs.Common.{◌≡◌, ℕ, zero, suc, ◌+◌, ◌<◌, ◌⊎◌, inl, inr, Bool, true, false, Option, None, Some, List, [], ◌∷◌, ◌++◌, length, map, refl, sym, ap, ◌∙◌, subst, arith}
use Rattle.std.specs.Prelude.{◌==◌, ◌&&◌, ◌||◌, cond, All, slice_index_or, find, option_map, bytes_eq}
use Rattle.std.specs.List.{list_any, Any}
use Rattle.std.specs.Option.{option_or}
use Rattle.std.proofs.Math.Path.{fun_ext}
use Rattle.std.proofs.lemmas.Bool.{false≢true, eqb-true, eq-eqb, or_cases, or_left, or_right, and_parts, and_from}
use Rattle.std.proofs.lemmas.List.{length-map}
use Rattle.std.proofs.lemmas.List.Folds.{Any-from_list_any, list_any_at, list_any-append, find-append}
use Rattle.std.proofs.lemmas.Slice.Eq.{bytes_eq-Decides}
use Rattle.tlb_syntax.specs.Tree.{ConstructorView, SchemaView}
use Rattle.kind_terms.specs.Words.{Word, is_among}
use Rattle.kind_terms.specs.Dictionaries.{of_type}
use Rattle.tlb_guard.specs.declared.rules.Rule.{Rule}
use Rattle.tlb_guard.specs.declared.edges.Edge.{Edge}
use Rattle.tlb_guard.specs.Rounds.{Test, round}
use Rattle.tlb_guard.specs.Facts.{gives, holds}
use Rattle.tlb_guard.specs.Numbering.{passes, place_of, types_in, parameters_in, word_at}
use Rattle.tlb_guard.specs.DeclaredTypes.{Parameter, declared_types, result_of, type_count}
use Rattle.tlb_guard.specs.Exposed.{ExposedTerm, a_type, a_variable, is_type, Known, Exposed, exposed_by, exposed_parameters, known}
use Rattle.tlb_guard.specs.Empty.{may_take_nothing}
use Rattle.tlb_guard.specs.Views.{knowing}
use Rattle.tlb_guard.specs.Cycles.{is_edge, back_rules, is_reached, is_on_cycle, leads_back, first_unguarded_item, ItemIndex, item_index, or_else, first_from}
use Rattle.tlb_guard.specs.Edges.{IsNumbered, TypeEdge, back_rule, edge_to, edges_by, edges_from, is_round_trip, index_by, reaching, type_edge}
use Rattle.tlb_guard.proofs.Rounds.{IsMember, same_truth}
use Rattle.tlb_guard.proofs.Lists.{among_distinct}
use Rattle.tlb_guard.proofs.Numberings.{place_word}
use Rattle.tlb_guard.proofs.ReachedTypes.{back_mono, back_within}
use Rattle.tlb_guard.proofs.LeastRounds.{given, gives_by, head_of, last_seen}
use Rattle.tlb_guard.proofs.RoundTrips.{leads_into, any_back}

-- ---- the first that leads back

abbrev pub at_of : TypeEdge → ItemIndex
at_of t = t.at

abbrev pub is_trip : Known → TypeEdge → Bool
is_trip k t = is_on_cycle k t.from t.to

abbrev item_of : Exposed → ℕ
item_of e = e.item

first_or : (a b : Option TypeEdge) → option_map at_of (option_or a b) ≡ or_else (option_map at_of a) (option_map at_of b)
first_or None b = refl
first_or (Some t) b = refl

at_type : (b : Bool) (x y : Word) (n item : ℕ) (rest : Option TypeEdge) (others : Option Exposed)
    → option_map at_of rest ≡ option_map (item_index n) (option_map item_of others)
    → option_map at_of (cond b (Some (record { from = x; to = y; at = item_index n item })) rest)
    ≡ option_map (item_index n) (option_map item_of (cond b (Some (record { item = item; term = a_type y })) others))
at_type true x y n item rest others e = refl
at_type false x y n item rest others e = e

at_term : (k : Known) (x : Word) (n item : ℕ) (f : ExposedTerm) (rest : List TypeEdge) (others : Option Exposed)
    → option_map at_of (find (is_trip k) rest) ≡ option_map (item_index n) (option_map item_of others)
    → option_map at_of (find (is_trip k) (edge_to x n item f ++ rest))
    ≡ option_map (item_index n) (option_map item_of (cond (leads_back k x f) (Some (record { item = item; term = f })) others))
at_term k x n item (a_type y) rest others e = at_type (is_on_cycle k x y) x y n item (find (is_trip k) rest) others e
at_term k x n item (a_variable y) rest others e = e

by_first : (k : Known) (x : Word) (n : ℕ) (es : List Exposed)
    → option_map at_of (find (is_trip k) (edges_by x n es))
    ≡ option_map (item_index n) (option_map item_of (find (λ (e : Exposed). leads_back k x e.term) es))
by_first k x n [] = refl
by_first k x n (e ∷ es) =
    at_term k x n e.item e.term (edges_by x n es) (find (λ (z : Exposed). leads_back k x z.term) es) (by_first k x n es)

pub from_first : (k : Known) (n : ℕ) (s : SchemaView) → option_map at_of (find (is_trip k) (edges_from k n s)) ≡ first_from k n s
from_first k n [] = refl
from_first k n (c ∷ cs) =
    ap (option_map at_of) (find-append (is_trip k) (edges_by c.result n (exposed_by k c)) (edges_from k (n + 1) cs))
    ∙ first_or (find (is_trip k) (edges_by c.result n (exposed_by k c))) (find (is_trip k) (edges_from k (n + 1) cs))
    ∙ ap (λ z. or_else z (option_map at_of (find (is_trip k) (edges_from k (n + 1) cs)))) (by_first k c.result n (exposed_by k c))
    ∙ ap (or_else (option_map (item_index n) (first_unguarded_item k c))) (from_first k (n + 1) cs)

-- ---- whether there is an edge

-- the edge is between these types
abbrev pub joins : Word → Word → TypeEdge → Bool
joins x y t = bytes_eq t.from x && bytes_eq t.to y

and_false : (b : Bool) → (b && false) ≡ false
and_false true = refl
and_false false = refl

or_and : (b t r : Bool) → ((b && t) || (b && r)) ≡ (b && (t || r))
or_and true t r = refl
or_and false t r = refl

term_joins : (x y z : Word) (n item : ℕ) (f : ExposedTerm) (rest : List TypeEdge) (others : Bool)
    → list_any (joins x y) rest ≡ (bytes_eq z x && others)
    → list_any (joins x y) (edge_to z n item f ++ rest) ≡ (bytes_eq z x && (is_type y f || others))
term_joins x y z n item (a_type w) rest others e =
    ap (λ b. (bytes_eq z x && bytes_eq w y) || b) e ∙ or_and (bytes_eq z x) (bytes_eq w y) others
term_joins x y z n item (a_variable w) rest others e = e

by_joins : (x y z : Word) (n : ℕ) (es : List Exposed)
    → list_any (joins x y) (edges_by z n es) ≡ (bytes_eq z x && list_any (λ (e : Exposed). is_type y e.term) es)
by_joins x y z n [] = sym (and_false (bytes_eq z x))
by_joins x y z n (e ∷ es) =
    term_joins x y z n e.item e.term (edges_by z n es) (list_any (λ (d : Exposed). is_type y d.term) es) (by_joins x y z n es)

of_joins : (k : Known) (y : Word) (b : Bool) (c : ConstructorView) (cs : SchemaView) (a r : Bool)
    → r ≡ list_any (λ (d : ConstructorView). list_any (λ (e : Exposed). is_type y e.term) (exposed_by k d)) cs
    → a ≡ list_any (λ (e : Exposed). is_type y e.term) (exposed_by k c)
    → ((b && a) || r) ≡ list_any (λ (d : ConstructorView). list_any (λ (e : Exposed). is_type y e.term) (exposed_by k d)) (cond b (c ∷ cs) cs)
of_joins k y true c cs a r rest is = ap (λ z. z || r) is ∙ ap (λ z. list_any (λ (e : Exposed). is_type y e.term) (exposed_by k c) || z) rest
of_joins k y false c cs a r rest is = rest

pub from_joins : (k : Known) (x y : Word) (n : ℕ) (s : SchemaView)
    → list_any (joins x y) (edges_from k n s)
    ≡ list_any (λ (c : ConstructorView). list_any (λ (e : Exposed). is_type y e.term) (exposed_by k c)) (of_type s x)
from_joins k x y n [] = refl
from_joins k x y n (c ∷ cs) =
    list_any-append (joins x y) (edges_by c.result n (exposed_by k c)) (edges_from k (n + 1) cs)
    ∙ ap (λ b. b || list_any (joins x y) (edges_from k (n + 1) cs)) (by_joins x y c.result n (exposed_by k c))
    ∙ of_joins k y (bytes_eq c.result x) c (of_type cs x) (list_any (λ (e : Exposed). is_type y e.term) (exposed_by k c))
    (list_any (joins x y) (edges_from k (n + 1) cs)) (from_joins k x y (n + 1) cs) refl

-- ---- words and numbers

-- words of one number are one
pub same_place : (s : SchemaView) (x y : Word) (n : ℕ) → place_of s x ≡ Some n → place_of s y ≡ Some n → x ≡ y
same_place s x y n e f = sym (place_word s x n e).1 ∙ (place_word s y n f).1

among_place : (s : SchemaView) (n : ℕ) → n < length s → is_among (map result_of s) (word_at s n) ≡ true
among_place [] n lt = absurd (omega (arith, lt))
among_place (c ∷ cs) zero lt = or_left (bytes_eq c.result c.result) (is_among (map result_of cs) c.result) ((bytes_eq-Decides c.result c.result).1 refl)
among_place (c ∷ cs) (suc n) lt =
    or_right (bytes_eq (word_at cs n) c.result) (is_among (map result_of cs) (word_at cs n)) (among_place cs n (omega (arith, lt)))

-- a type with a number is a declared one
pub place_declared : (s : SchemaView) (x : Word) (n : ℕ) → place_of s x ≡ Some n → IsMember (declared_types s) x
place_declared s x n e =
    let h = place_word s x n e in
    let P : Word → Type 0 = λ z. is_among (map result_of s) z ≡ true in
    among_distinct x (map result_of s) (subst P h.1 (among_place s n h.0))

any_member : {A : Type 0} (q : A → Bool) (xs : List A) (x : A) → IsMember xs x → q x ≡ true → list_any q xs ≡ true
any_member q [] x h e = absurd h
any_member q (y ∷ ys) x (inl is) e = or_left (q y) (list_any q ys) (ap q is ∙ e)
any_member q (y ∷ ys) x (inr h) e = or_right (q y) (list_any q ys) (any_member q ys x h e)

-- ---- what is reached, by numbers

module _ (k : Known) (edges : List Edge) (are : map (type_edge k.types) edges ≡ edges_from k 0 k.types) (numbered : All (IsNumbered k.types) edges)
    (end : Word) (m : ℕ) (at_end : place_of k.types end ≡ Some m) where
  abbrev rules : List Rule
  rules = map back_rule edges

  any_edge : (x y : Word) → list_any (joins x y) (map (type_edge k.types) edges) ≡ is_edge k x y
  any_edge x y = ap (list_any (joins x y)) are ∙ from_joins k x y 0 k.types

  any_mapped : (q : TypeEdge → Bool) (es : List Edge) → list_any q (map (type_edge k.types) es) ≡ list_any (λ e. q (type_edge k.types e)) es
  any_mapped q [] = refl
  any_mapped q (e ∷ es) = ap (λ b. q (type_edge k.types e) || b) (any_mapped q es)

  abbrev between : Word → Word → Edge → Bool
  between x y e = joins x y (type_edge k.types e)

  -- a set of numbers gives the head of an edge into it
  gives_edge : (p : Test ℕ) (n : ℕ) (a : Any (λ (e : Edge). ((e.from ≡ n) × (p e.to ≡ true))) edges) → gives rules (m ∷ []) p n ≡ true
  gives_edge p n a =
      or_right (list_any (λ s. s == n) (m ∷ [])) (list_any (gives_by p n) rules)
      (any_back p n edges ∙ list_any_at (leads_into p n) edges a.0 a.1 a.2
      (let e = a.1 in
      let P : Edge → Type 0 = λ z. leads_into p n z ≡ true in
      subst P (sym a.3) (and_from (e.from == n) (p e.to && true) (eq-eqb e.from n a.4.0) (and_from (p e.to) true a.4.1 refl))))

  seen_some : (p : Test ℕ) (x : Word) (n : ℕ) → place_of k.types x ≡ Some n → types_in k.types p x ≡ p n
  seen_some p x n e = ap (passes p) e

  passed : (p : Test ℕ) (o : Option ℕ) → passes p o ≡ true → (n : ℕ) × (o ≡ Some n) × (p n ≡ true)
  passed p None e = absurd (false≢true e)
  passed p (Some n) e = (n, refl, e)

  edge_at : (x y : Word) → is_edge k x y ≡ true → Any (λ (e : Edge). ((place_of k.types x ≡ Some e.from) × (place_of k.types y ≡ Some e.to))) edges
  edge_at x y h =
      let a = Any-from_list_any (between x y) edges (sym (any_mapped (joins x y) edges) ∙ any_edge x y ∙ h) in
      let e = a.1 in
      let parts = and_parts (bytes_eq (word_at k.types e.from) x) (bytes_eq (word_at k.types e.to) y) a.4 in
      let N : Edge → Type 0 = IsNumbered k.types in
      let is : IsNumbered k.types e = subst N a.3 (numbered a.0 e a.2) in
      let P : Word → Type 0 = λ z. place_of k.types z ≡ Some e.from in
      let Q : Word → Type 0 = λ z. place_of k.types z ≡ Some e.to in (
        a.0,
        e,
        a.2,
        a.3,
        (subst P ((bytes_eq-Decides (word_at k.types e.from) x).0 parts.0) is.0, subst Q ((bytes_eq-Decides (word_at k.types e.to) y).0 parts.1) is.1),
      )

  to_numbers : (p : Test ℕ) (x : Word) → back_rules k end (types_in k.types p) x ≡ true → types_in k.types (gives rules (m ∷ []) p) x ≡ true
  to_numbers p x h =
      by_cases (or_cases (bytes_eq x end) (list_any (λ y. is_edge k x y && types_in k.types p y) (declared_types k.types)) h)
    where
      by_edge : (y : Word) → (is_edge k x y && types_in k.types p y) ≡ true → types_in k.types (gives rules (m ∷ []) p) x ≡ true
      by_edge y b =
          let parts = and_parts (is_edge k x y) (types_in k.types p y) b in
          let e = edge_at x y parts.0 in
          let to : p e.1.to ≡ true = sym (seen_some p y e.1.to e.4.1) ∙ parts.1 in
          seen_some (gives rules (m ∷ []) p) x e.1.from e.4.0 ∙ gives_edge p e.1.from (e.0, e.1, e.2, e.3, (refl, to))

      by_cases : (bytes_eq x end ≡ true) ⊎ (list_any (λ y. is_edge k x y && types_in k.types p y) (declared_types k.types) ≡ true)
          → types_in k.types (gives rules (m ∷ []) p) x ≡ true
      by_cases (inl e) =
          let P : Word → Type 0 = λ z. types_in k.types (gives rules (m ∷ []) p) z ≡ true in
          subst P (sym ((bytes_eq-Decides x end).0 e))
          (seen_some (gives rules (m ∷ []) p) end m at_end
          ∙ or_left (list_any (λ s. s == m) (m ∷ [])) (list_any (gives_by p m) rules) (or_left (m == m) false (eq-eqb m m refl)))
      by_cases (inr a) =
          let y = Any-from_list_any (λ y. is_edge k x y && types_in k.types p y) (declared_types k.types) a in by_edge y.1 y.4

  from_numbers : (p : Test ℕ) (x : Word) → types_in k.types (gives rules (m ∷ []) p) x ≡ true → back_rules k end (types_in k.types p) x ≡ true
  from_numbers p x h = at_number (passed (gives rules (m ∷ []) p) (place_of k.types x) h)
    where
      at_seed : (n : ℕ) → place_of k.types x ≡ Some n → ((m == n) ≡ true) ⊎ (false ≡ true) → back_rules k end (types_in k.types p) x ≡ true
      at_seed n at (inl e) =
          let M : ℕ → Type 0 = λ z. place_of k.types end ≡ Some z in
          or_left (bytes_eq x end) (list_any (λ y. is_edge k x y && types_in k.types p y) (declared_types k.types))
          ((bytes_eq-Decides x end).1 (same_place k.types x end n at (subst M (eqb-true m n e) at_end)))
      at_seed n at (inr e) = absurd (false≢true e)

      at_edge : (n : ℕ) → place_of k.types x ≡ Some n → Any (λ (e : Edge). leads_into p n e ≡ true) edges → back_rules k end (types_in k.types p) x ≡ true
      at_edge n at a =
          let e = a.1 in
          let parts = and_parts (e.from == n) (p e.to && true) a.4 in
          let N : Edge → Type 0 = IsNumbered k.types in
          let is : IsNumbered k.types e = subst N a.3 (numbered a.0 e a.2) in
          let y = word_at k.types e.to in
          let F : ℕ → Type 0 = λ z. place_of k.types (word_at k.types e.from) ≡ Some z in
          let x_is : word_at k.types e.from ≡ x = same_place k.types (word_at k.types e.from) x n (subst F (eqb-true e.from n parts.0) is.0) at in
          let J : Edge → Type 0 = λ z. between x y z ≡ true in
          let joined : between x y e ≡ true =
          and_from (bytes_eq (word_at k.types e.from) x) (bytes_eq y y) ((bytes_eq-Decides (word_at k.types e.from) x).1 x_is) ((bytes_eq-Decides y y).1 refl) in
          let edge : is_edge k x y ≡ true =
          sym (any_edge x y) ∙ any_mapped (joins x y) edges ∙ list_any_at (between x y) edges a.0 e a.2 (subst J (sym a.3) joined) in
          let to : types_in k.types p y ≡ true = seen_some p y e.to is.1 ∙ (and_parts (p e.to) true parts.1).0 in
          or_right (bytes_eq x end) (list_any (λ z. is_edge k x z && types_in k.types p z) (declared_types k.types))
          (any_member (λ z. is_edge k x z && types_in k.types p z) (declared_types k.types) y (place_declared k.types y e.to is.1)
          (and_from (is_edge k x y) (types_in k.types p y) edge to))

      at_number : (n : ℕ) × (place_of k.types x ≡ Some n) × (gives rules (m ∷ []) p n ≡ true) → back_rules k end (types_in k.types p) x ≡ true
      at_number a = by_cases (or_cases (list_any (λ s. s == a.0) (m ∷ [])) (list_any (gives_by p a.0) rules) a.2)
        where
          by_cases : (list_any (λ s. s == a.0) (m ∷ []) ≡ true) ⊎ (list_any (gives_by p a.0) rules ≡ true) → back_rules k end (types_in k.types p) x ≡ true
          by_cases (inl e) = at_seed a.0 a.1 (or_cases (m == a.0) false e)
          by_cases (inr e) = at_edge a.0 a.1 (Any-from_list_any (leads_into p a.0) edges (sym (any_back p a.0 edges) ∙ e))

  -- one use of the rules over words is one over numbers
  pub back_tied : (p : Test ℕ) (x : Word) → back_rules k end (types_in k.types p) x ≡ types_in k.types (gives rules (m ∷ []) p) x
  back_tied p x =
      same_truth (back_rules k end (types_in k.types p) x) (types_in k.types (gives rules (m ∷ []) p) x) (to_numbers p x) (from_numbers p x)

  rounds : length (given rules (m ∷ [])) ≡ suc (length edges)
  rounds = let a = length-map rules head_of in let b = length-map edges back_rule in omega (arith, a, b)

  -- what is reached over words is what is over numbers
  pub reached_tied : (from : Word) (n : ℕ) → place_of k.types from ≡ Some n → is_reached k (type_count k.types) from end ≡ reaching edges m n
  unfolding reaching
  reached_tied from n at =
      sym (last_seen (back_rules k end) (back_mono k end) (place_of k.types) rules (m ∷ []) back_tied (end ∷ declared_types k.types) (back_within k end) from)
      ∙ seen_some (round (gives rules (m ∷ [])) (length (given rules (m ∷ [])))) from n at
      ∙ ap (λ z. round (gives rules (m ∷ [])) z n) rounds

-- ---- the first edge on a cycle

find_map : {A B : Type 0} (f : A → B) (q : B → Bool) (p : A → Bool) (xs : List A) → All (λ x. q (f x) ≡ p x) xs → find q (map f xs) ≡ option_map f (find p xs)
find_map f q p [] all = refl
find_map {A = A} {B = B} f q p (x ∷ xs) all =
    at_test (q (f x)) (p x) (f x) x (find q (map f xs)) (find p xs) (all 0 x (omega arith)) refl
    (find_map f q p xs (λ k d lt. all (suc k) d (omega (arith, lt))))
  where
    at_test : (a b : Bool) (y : B) (z : A) (ys : Option B) (zs : Option A) → a ≡ b → y ≡ f z → ys ≡ option_map f zs → cond a (Some y) ys ≡ option_map f (cond b (Some z) zs)
    at_test a true y z ys zs e is rest = ap (λ t. cond t (Some y) ys) e ∙ ap Some is
    at_test a false y z ys zs e is rest = ap (λ t. cond t (Some y) ys) e ∙ rest

place_of_edge : (s : SchemaView) (o : Option Edge) → option_map at_of (option_map (type_edge s) o) ≡ option_map index_by (option_map (λ (e : Edge). e.at) o)
place_of_edge s None = refl
place_of_edge s (Some e) = refl

pub first_tied : (k : Known) (edges : List Edge) → map (type_edge k.types) edges ≡ edges_from k 0 k.types → All (IsNumbered k.types) edges
    → option_map index_by (option_map (λ (e : Edge). e.at) (find (is_round_trip edges) edges)) ≡ first_from k 0 k.types
first_tied k edges are numbered =
    let test : All (λ (e : Edge). is_trip k (type_edge k.types e) ≡ is_round_trip edges e) edges =
    λ j d lt.
    (let e = slice_index_or edges j d in
    let is = numbered j d lt in
    reached_tied k edges are numbered (word_at k.types e.from) e.from is.0 (word_at k.types e.to) e.to is.1) in
    sym (place_of_edge k.types (find (is_round_trip edges) edges))
    ∙ ap (option_map at_of) (sym (find_map (type_edge k.types) (is_trip k) (is_round_trip edges) edges test) ∙ ap (find (is_trip k)) are)
    ∙ from_first k 0 k.types

-- ---- what is known

pub known_is : (s : SchemaView) (empty exposed : List Bool) → ((x : Word) → types_in s (holds empty) x ≡ may_take_nothing s x)
    → ((p : Parameter) → parameters_in s (holds exposed) p ≡ exposed_parameters s p) → knowing s empty (holds exposed) ≡ known s
known_is s empty exposed f g =
    let a : types_in s (holds empty) ≡ may_take_nothing s = fun_ext f in
    let b : parameters_in s (holds exposed) ≡ exposed_parameters s = fun_ext g in
    ap (λ z. made z (parameters_in s (holds exposed))) a ∙ ap (made (may_take_nothing s)) b
  where
    made : Test Word → Test Parameter → Known
    made e p = record { types = s; empty = e; exposed = p }
