-- A reference, by what it leads to.
use Rattle.std.proofs.Common.{◌≡◌, ℕ, suc, ◌+◌, true, false, zero, List, [], ◌∷◌, ◌++◌, Some, None, refl, sym, ap}
use Rattle.std.proofs.Common.{◌∙◌, subst, arith, Result, Ok, Err}
use Rattle.std.specs.Prelude.{OnOk, IsErrOf}
use Rattle.cell_nodes.specs.Constructed.{stub}
use Rattle.cell_nodes.specs.declared.tree.Mode.TheVariants.{Whole}
use Rattle.cell_nodes.specs.declared.tree.Tree.{Tree}
use Rattle.core_form.specs.Closed.{Closed}
use Rattle.core_form.specs.Closed as closed
use Rattle.core_form.specs.Core.{CoreSchema, Items}
use Rattle.core_form.specs.Scope.{Scope}
use Rattle.hashmap_tree.specs.Entries.{Slice, Then}
use Rattle.spelling.specs.Goals.{Goal, at_fields, fields_under, typed, under_ref}
use Rattle.spelling.specs.Slices.{only_ref}
use Rattle.spelling.specs.Spells.{Holds}
use Rattle.typed_value.specs.Values.{Plain, levels}
use Rattle.typed_value.specs.Values as values
use Rattle.pruning.specs.Cut.{cell_with}
use Rattle.pruning.specs.Laid.{Laid, number, bit_string, record_of, absent, list_of, ref_to, ref_to_raw, no_map, plain}
use Rattle.pruning.specs.Laid.{map_under, map_here, rest, trees}
use Rattle.pruning.specs.SpellsLaid.{SpellsLaid, SpellsLaidShape}
use Rattle.pruning_laws.specs.CleanLaws.{IsClean, AllClean}
use Rattle.pruning_laws.specs.FilledLaws.{IsFilled, takes}
use Rattle.pruned_proof.specs.Walks.{Fails, Fills, Gives, Is, Lies, Moves, held_in, is_raw}
use Rattle.pruned_proof.specs.Wanted.{Rests, is_nothing, is_whole, cut_for}
use Rattle.pruned_proof.specs.declared.cutting.CutError.{CutError}
use Rattle.pruned_proof.specs.declared.cutting.CutError.TheVariants.{Unread, NoMemory}
use Rattle.pruned_proof.specs.declared.cutting.Cutting.{Cutting}
use Rattle.pruned_proof.proofs.Pruned.{cut_whole, hidden_at, kept_at, opened_at}

-- ---- answers

pub still : {A : Type 0} (P : A → Type 0) (r : Result A CutError) (e : CutError) → r ≡ Err e → Fails e → Gives P r
still {A = A} P r e is f = let R : Result A CutError → Type 0 = λ z. Gives P z in subst R (sym is) f

pub gives_as : {A : Type 0} (P Q : A → Type 0) (r : Result A CutError) → ((x : A) → P x → Q x) → Gives P r → Gives Q r
gives_as P Q (Ok x) f g = f x g
gives_as P Q (Err e) f g = g

tail_of : List Tree → List Tree
tail_of [] = []
tail_of (t ∷ ts) = ts

pub rest_same : (a b : Tree) (xs ys : List Tree) → a ∷ xs ≡ b ∷ ys → xs ≡ ys
unfolding tail_of
rest_same a b xs ys e = ap tail_of e

-- a cell is put in the place of the reference that was taken
pub one_put : {A : Type 0} (old mid new : Cutting) (x : Tree) (r : Result A CutError) (after made : List Tree)
    → mid.made.items ≡ old.made.items → OnOk r (new.made.items ≡ mid.made.items ++ x ∷ [])
    → new.left ≡ mid.left → (IsErrOf r Unread → ⊥) → mid.left ≡ after → made ≡ x ∷ [] → Gives (λ z. Moves made after old new) r
one_put old mid new x (Ok z) after made before put left err then is = (left ∙ then, put ∙ (λ i. before i ++ sym is i))
one_put old mid new x (Err NoMemory) after made before put left err then is = tt
one_put old mid new x (Err Unread) after made before put left err then is = absurd (err refl)

-- no reference is left
pub none_left : {A B : Type 0} (P : A → Type 0) (r : Result A CutError) (e : CutError) (left after : List Tree) (c : Tree)
    → r ≡ Err e → (IsErrOf {T = B} (Err e) Unread → left ≡ []) → left ≡ c ∷ after → Gives P r
none_left P r Unread left after c is none there = let f = sym (none refl) ∙ there in absurd (cc)
none_left {A = A} P r NoMemory left after c is none there =
    let R : Result A CutError → Type 0 = λ z. Gives P z in subst R (sym is) tt

-- ---- what a reference leads to

first_or : Tree → List Tree → Tree
first_or c [] = c
first_or c (t ∷ ts) = t

pub first_same : (a b : Tree) (xs ys : List Tree) → a ∷ xs ≡ b ∷ ys → a ≡ b
unfolding first_or
first_same a b xs ys e = ap (first_or a) e

pub clean-first : (c : Tree) (left after : List Tree) → AllClean left → left ≡ c ∷ after → IsClean c
clean-first c left after clean there = let P : List Tree → Type 0 = AllClean in (subst P there clean).0

-- of a value that is a reference: to a cell as it is, or to the cell of a value
pub data LeadsTo (schema : CoreSchema) (g : Goal) (v : Plain) (n : ℕ) : Laid → Tree → Type 0 where
  as_it_is : (c : Tree) → v ≡ values.raw c → LeadsTo schema g v n (ref_to_raw c) c
  to_value : (c : Tree) (d : Laid) → Is d v n → Fills schema g d c → c ≡ cell_with c (trees d) → IsFilled d
      → LeadsTo schema g v n (ref_to c d) c

pub record Led (schema : CoreSchema) (g : Goal) (v : Plain) (n : ℕ) (d : Laid) (left after : List Tree) : Type 0 where
  pub child : Tree
  pub there : left ≡ child ∷ after
  pub leads : LeadsTo schema g v n d child

inner_value : (a b : Plain) → values.ref_to tt a ≡ values.ref_to tt b → a ≡ b
inner_value a b e = cc

is_inside : (c : Tree) (d : Laid) (v : Plain) (n : ℕ) → Is (ref_to c d) (values.ref_to tt v) (n + 1) → Is d v n
is_inside c d v n is = let deep = is.deep in record { value = inner_value (plain d) v is.value; deep = omega (arith, deep) }

led_to : (schema : CoreSchema) (g : Goal) (v : Plain) (n : ℕ) (c e : Tree) (d : Laid) (left : List Tree) (before after : Slice)
    → Is (ref_to c d) (values.ref_to tt v) (n + 1) → before.refs ≡ left → AllClean left
    → before.refs ≡ c ∷ after.refs → Then before (only_ref e) after → Holds Whole (SpellsLaid schema d) g e
    → c ≡ cell_with c (trees d) → IsFilled d → Led schema g v n (ref_to c d) left after.refs
led_to schema g v n c e d left before after is refs clean there then holds full filled =
    let same = first_same e c after.refs after.refs (sym then.refs ∙ there) in
    let H : Tree → Type 0 = λ z. Holds Whole (SpellsLaid schema d) g z in
    let at = sym refs ∙ there in
    record {
      child = c;
      there = at;
      leads = to_value c d (is_inside c d v n is)
          (record { clean = clean-first c left after.refs clean at; holds = subst H same holds }) full filled;
    }

pub led : (schema : CoreSchema) (d : Laid) (t : Closed) (v : Plain) (n : ℕ) (left : List Tree) (outs : List ℕ) (after : Slice)
    → Is d (values.ref_to tt v) (n + 1) → Lies (SpellsLaidShape schema d (typed (closed.ref t))) left outs after
    → Led schema (under_ref t) v n d left after.refs
led schema (number negative size) t v n left outs after is l = absurd l.spelled
led schema (bit_string bits) t v n left outs after is l = absurd l.spelled
led schema (record_of (Some name) names ds) t v n left outs after is l = absurd l.spelled
led schema (record_of None names ds) t v n left outs after is l = absurd l.spelled
led schema absent t v n left outs after is l = absurd l.spelled
led schema (list_of ds) t v n left outs after is l = absurd l.spelled
led schema (ref_to c d) t v n left outs after is l =
    let x = takes schema (ref_to c d) (typed (closed.ref t)) l.before outs after l.spelled in
    led_to schema (under_ref t) v n c l.spelled.0 d left l.before after is l.refs l.clean x.refs l.spelled.2 l.spelled.3
    x.is_filled.0 x.is_filled.1
led schema (ref_to_raw c) closed.whole v n left outs after is l = record {
  child = c;
  there = sym l.refs ∙ l.spelled.1.refs;
  leads = as_it_is c (sym (inner_value (values.raw c) v is.value));
}
led schema (ref_to_raw c) _ v n left outs after is l = absurd l.spelled
led schema no_map t v n left outs after is l = absurd l.spelled
led schema (map_under c e) t v n left outs after is l = absurd l.spelled
led schema (map_here e) t v n left outs after is l = absurd l.spelled
led schema (rest s) t v n left outs after is l = absurd l.spelled

pub not_raw : (d : Laid) → is_raw (plain d) ≡ false
not_raw (number negative size) = refl
not_raw (bit_string bits) = refl
not_raw (record_of name names ds) = refl
not_raw absent = refl
not_raw (list_of ds) = refl
not_raw (ref_to c d) = refl
not_raw (ref_to_raw c) = refl
not_raw no_map = refl
not_raw (map_under c e) = refl
not_raw (map_here e) = refl
not_raw (rest s) = refl

-- a reference under the `^` of a record leads to a value
pub record UnderLed (schema : CoreSchema) (is : Items) (scope : Scope) (v : Plain) (n : ℕ) (d : Laid) (left after : List Tree)
    : Type 0 where
  pub inner : Plain
  pub less : ℕ
  pub is_ref : v ≡ values.ref_to tt inner
  pub levels : n ≡ less + 1
  pub value : is_raw inner ≡ false
  pub leads : Led schema (at_fields is scope) inner less d left after

pub led_fields : (schema : CoreSchema) (d : Laid) (is : Items) (scope : Scope) (v : Plain) (n : ℕ) (left : List Tree)
    (outs : List ℕ) (after : Slice) → Is d v n → Lies (SpellsLaidShape schema d (fields_under is scope)) left outs after
    → UnderLed schema is scope v n d left after.refs
led_fields schema (number negative size) is scope v n left outs after i l = absurd l.spelled
led_fields schema (bit_string bits) is scope v n left outs after i l = absurd l.spelled
led_fields schema (record_of (Some name) names ds) is scope v n left outs after i l = absurd l.spelled
led_fields schema (record_of None names ds) is scope v n left outs after i l = absurd l.spelled
led_fields schema absent is scope v n left outs after i l = absurd l.spelled
led_fields schema (list_of ds) is scope v n left outs after i l = absurd l.spelled
led_fields schema (ref_to c d) is scope v zero left outs after i l =
    let deep = i.deep in
    let same = ap levels (sym i.value) in
    absurd (omega (arith, deep, same))
led_fields schema (ref_to c d) is scope v (suc m) left outs after i l =
    let x = takes schema (ref_to c d) (fields_under is scope) l.before outs after l.spelled in
    let deep = i.deep in
    let same = ap levels (sym i.value) in
    let inside : Is (ref_to c d) (values.ref_to tt (plain d)) (m + 1) =
    record { value = refl; deep = omega (arith, deep, same) } in
    record {
      inner = plain d;
      less = m;
      is_ref = sym i.value;
      levels = omega arith;
      value = not_raw d;
      leads = led_to schema (at_fields is scope) (plain d) m c l.spelled.0 d left l.before after inside l.refs l.clean x.refs
          l.spelled.2 l.spelled.3 x.is_filled.0 x.is_filled.1;
    }
led_fields schema (ref_to_raw c) is scope v n left outs after i l = absurd l.spelled
led_fields schema no_map is scope v n left outs after i l = absurd l.spelled
led_fields schema (map_under c e) is scope v n left outs after i l = absurd l.spelled
led_fields schema (map_here e) is scope v n left outs after i l = absurd l.spelled
led_fields schema (rest s) is scope v n left outs after i l = absurd l.spelled

-- the value that the program holds
pub is_held : (d : Laid) (u v w : Plain) (m n : ℕ) → Is d u m → w ≡ values.ref_to tt u → Some v ≡ held_in w → n ≡ m + 1
    → Is d v n
is_held d u v w m n is ref held more =
    let same : u ≡ v = inside (held ∙ ap held_in ref) in
    let deep = is.deep in
    let lower = ap levels same in
    record { value = is.value ∙ same; deep = omega (arith, deep, lower, more) }
  where
    inside : Some v ≡ Some u → u ≡ v
    inside e = cc

-- the same by the reference that was taken
pub record LedAt (schema : CoreSchema) (g : Goal) (v : Plain) (n : ℕ) (d : Laid) (c : Tree) (mid after : List Tree) : Type 0
  where
    pub rest : mid ≡ after
    pub leads : LeadsTo schema g v n d c

pub led_at : (schema : CoreSchema) (g : Goal) (v : Plain) (n : ℕ) (d : Laid) (left mid after : List Tree) (c : Tree)
    → Led schema g v n d left after → left ≡ c ∷ mid → LedAt schema g v n d c mid after
led_at schema g v n d left mid after c x taken =
    let both = sym taken ∙ x.there in
    let P : Tree → Type 0 = LeadsTo schema g v n d in
    record { rest = rest_same c x.child mid after both; leads = subst P (sym (first_same c x.child mid after both)) x.leads }

-- ---- what stands in its place

pub led_hidden : (schema : CoreSchema) (g : Goal) (v : Plain) (n : ℕ) (d : Laid) (c : Tree) (k : Rests)
    → LeadsTo schema g v n d c → is_nothing k ≡ true → cut_for k d ≡ stub c 0 ∷ []
led_hidden schema g v n d c [] (as_it_is c' raw) e = refl
led_hidden schema g v n d c (path ∷ k) (as_it_is c' raw) e = absurd (cc)
led_hidden schema g v n d c k (to_value c' d' is fills full filled) e =
    ap (λ (t : Tree). t ∷ []) (hidden_at k c' (cut_for k d') e)

pub led_kept : (schema : CoreSchema) (g : Goal) (v : Plain) (n : ℕ) (d : Laid) (c : Tree) (k : Rests)
    → LeadsTo schema g v n d c → is_whole k ≡ true → cut_for k d ≡ c ∷ []
led_kept schema g v n d c [] (as_it_is c' raw) e = absurd (cc)
led_kept schema g v n d c (path ∷ k) (as_it_is c' raw) e = refl
led_kept schema g v n d c k (to_value c' d' is fills full filled) e =
    ap (λ (t : Tree). t ∷ []) (kept_at k c' (trees d') (cut_for k d') e full (cut_whole k e d' filled))

pub led_raw : (schema : CoreSchema) (g : Goal) (v : Plain) (n : ℕ) (d : Laid) (c : Tree) (k : Rests)
    → LeadsTo schema g v n d c → is_raw v ≡ true → is_nothing k ≡ false → cut_for k d ≡ c ∷ []
led_raw schema g v n d c [] (as_it_is c' raw) r e = absurd (cc)
led_raw schema g v n d c (path ∷ k) (as_it_is c' raw) r e = refl
led_raw schema g v n d c k (to_value c' d' is fills full filled) r e =
    let f : false ≡ true = sym (not_raw d') ∙ ap is_raw is.value ∙ r in absurd (cc)

pub record Opened (schema : CoreSchema) (g : Goal) (v : Plain) (n : ℕ) (d : Laid) (c : Tree) (k : Rests) : Type 0 where
  pub inner : Laid
  pub is : Is inner v n
  pub fills : Fills schema g inner c
  pub full : c ≡ cell_with c (trees inner)
  pub filled : IsFilled inner
  pub made : cut_for k d ≡ cell_with c (cut_for k inner) ∷ []

pub led_opened : (schema : CoreSchema) (g : Goal) (v : Plain) (n : ℕ) (d : Laid) (c : Tree) (k : Rests)
    → LeadsTo schema g v n d c → is_raw v ≡ false → is_nothing k ≡ false → Opened schema g v n d c k
led_opened schema g v n d c k (as_it_is c' raw) r e = let f : false ≡ true = sym r ∙ ap is_raw raw in absurd (cc)
led_opened schema g v n d c k (to_value c' d' is fills full filled) r e = record {
  inner = d';
  is = is;
  fills = fills;
  full = full;
  filled = filled;
  made = ap (λ (t : Tree). t ∷ []) (opened_at k c' (cut_for k d') e);
}
