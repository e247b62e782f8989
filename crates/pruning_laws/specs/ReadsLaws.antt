-- A laid value with parts hidden: the references that it then takes prune those that it takes, and spell it with these
-- parts hidden.
use Rattle.std.proofs.Common.{◌≡◌, inl, inr, ℕ, suc, ◌+◌, Bool, true, ◌||◌, ◌≤◌, nat_lt, List, [], ◌∷◌, ◌++◌, length}
use Rattle.std.proofs.Common.{Some, None, Ok, refl, sym, ap, ◌∙◌, subst, arith, append_assoc, length-append}
use Rattle.std.proofs.lemmas.List.{append-nil, nil_from_length}
use Rattle.cell_nodes.specs.Constructed.{stub}
use Rattle.cell_nodes.specs.Equations.{out-tree_of}
use Rattle.cell_nodes.specs.Prunes.{Prunes, hidden as is_hidden, ordinary, AllPrune, none, more}
use Rattle.cell_nodes.specs.Tree.{tree_of}
use Rattle.cell_nodes.specs.declared.tree.Kind.TheVariants.{Ordinary}
use Rattle.cell_nodes.specs.declared.tree.Hidden.{Hidden}
use Rattle.cell_nodes.specs.declared.tree.Mode.TheVariants.{Whole, Partial}
use Rattle.cell_nodes.specs.declared.tree.Tree.{Tree, out-Tree}
use Rattle.hashmap_tree.specs.Dict.{unseen, DictTree, one, two, Branch, open_edge, hidden_edge}
use Rattle.hashmap_tree.specs.Entries.{Slice, leaf, hidden, Entries, cell_of, Then, under, fork}
use Rattle.hashmap_tree.specs.First.{forked}
use Rattle.typed_value.specs.Values.{Plain, Plains, PlainPairs, no_vals, a_val, no_pairs, a_pair}
use Rattle.typed_value.specs.Values as values
use Rattle.core_form.specs.Core.{Items, CoreSchema, no_items, an_item, check, solve, field, sets}
use Rattle.core_form.specs.Closed.{Closed, ClosedArgs}
use Rattle.core_form.specs.Closed as closed
use Rattle.core_form.specs.Scope.{Scope, with_number, bind}
use Rattle.spelling.specs.Slices.{nothing, only_bits, only_ref, took}
use Rattle.spelling.specs.Goals.{Row, natural, integer, string, no_row, row, Goal, at_type, at_field, at_cell, Shape}
use Rattle.spelling.specs.Goals.{typed, fields_here, fields_under, left_out, as_cell, at_fields, under_ref, shape_of}
use Rattle.spelling.specs.Spells.{Repeats, Fields, SpellsNumber, SpellsString, SpellsShape, Spells, Each, EachPair}
use Rattle.spelling.specs.Spells.{Holds, EntriesHold, no_entries, some_entries}
use Rattle.pruning.specs.Laid.{Laid, number, bit_string, record_of, absent, list_of, ref_to, ref_to_raw, no_map}
use Rattle.pruning.specs.Laid.{map_under, map_here, rest, Laids, no_laids, a_laid, LaidEdge, a_leaf, a_fork}
use Rattle.pruning.specs.Laid.{below}
use Rattle.pruning.specs.SpellsLaid.{BeginsWith, EdgeCell, SpellsLaidShape, SpellsLaid, EachLaid, SpellsEdge}
use Rattle.pruning.specs.Blanked.{hidden_of}
use Rattle.pruning.specs.Cut.{cell_with}
use Rattle.pruning_laws.specs.CleanLaws.{IsClean, AllClean, clean-right, clean-below, stub-hides}
use Rattle.pruning_laws.specs.ContentsLaws.{contents_below, contents_join, hidden-under, hidden-append}
use Rattle.pruning_laws.specs.Cuts.{Parts, below_parts, fork_part, map_with, ForRest, ForRaw, CutsCell, Cuts, CutsAll}
use Rattle.pruning_laws.specs.Cuts.{CutsEdge}

-- ---- lists of trees

abbrev pub with_refs : Slice → List Tree → Slice
with_refs s refs = record { bits = s.bits; refs = refs }

pub all-append : (ts ps us qs : List Tree) → AllPrune ts ps 0 → AllPrune us qs 0 → AllPrune (ts ++ us) (ps ++ qs) 0
all-append ts ps us qs (none _) b = b
all-append ts ps us qs (more t p ts2 ps2 _ a all) b =
    more t p (ts2 ++ us) (ps2 ++ qs) 0 a (all-append ts2 ps2 us qs all b)

pub all-length : (ts ps : List Tree) → AllPrune ts ps 0 → length ps ≡ length ts
all-length ts ps (none _) = refl
all-length ts ps (more t p ts2 ps2 _ a all) = ap suc (all-length ts2 ps2 all)

-- ---- what goes on

-- the references that were taken, that the others prune them, and what is spelled before other references
pub record Goes (taken : List Tree → Type 0) (ps : List Tree) (before after : Slice) : Type 0 where
  pub front : List Tree
  pub parts : before.refs ≡ front ++ after.refs
  pub prune : AllPrune front ps 0
  pub spells : (rs : List Tree) → length rs ≡ length after.refs → taken rs

-- what may stand for rests and for cells as they are prunes them
pub record Trusts (K : ForRest) (R : ForRaw) : Type 0 where
  pub rests : (ts ps : List Tree) → AllClean ts → K ts ps → AllPrune ts ps 0
  pub raws : (c p : Tree) → IsClean c → R c p → Prunes c p 0 × (unseen Partial p ≡ None)

abbrev pub GoingShape : CoreSchema → Shape → List Tree → Plain → Slice → List ℕ → Slice → Type 0
GoingShape schema c ps w s outs after =
    Goes (λ rs. SpellsShape Partial schema w c (with_refs s (ps ++ rs)) outs (with_refs after rs)) ps s after

abbrev pub Going : CoreSchema → Goal → List Tree → Plain → Slice → List ℕ → Slice → Type 0
Going schema g ps w s outs after =
    Goes (λ rs. Spells Partial schema w g (with_refs s (ps ++ rs)) outs (with_refs after rs)) ps s after

abbrev pub Reads : CoreSchema → ForRest → ForRaw → Laid → Type 0
Reads schema K R d =
    (c : Shape) (s : Slice) (outs : List ℕ) (after : Slice) (ps : List Tree) (w : Plain) → AllClean s.refs
    → SpellsLaidShape schema d c s outs after → Cuts K R d ps w → GoingShape schema c ps w s outs after

abbrev pub AllRead : CoreSchema → ForRest → ForRaw → Laids → Type 0
AllRead schema K R no_laids = Unit {0}
AllRead schema K R (a_laid d ds) = Reads schema K R d × AllRead schema K R ds

at_goal : (schema : CoreSchema) (K : ForRest) (R : ForRaw) (d : Laid) → Reads schema K R d → (g : Goal) (s : Slice)
    (outs : List ℕ) (after : Slice) (ps : List Tree) (w : Plain) → AllClean s.refs → SpellsLaid schema d g s outs after
    → Cuts K R d ps w → Going schema g ps w s outs after
at_goal schema K R d reads g s outs after ps w clean e cuts =
    let x = reads e.0 s outs after ps w clean e.2 cuts in
    record { front = x.front; parts = x.parts; prune = x.prune; spells = λ rs l. (e.0, e.1, x.spells rs l) }

-- the references after those that were taken
clean-after : (taken : List Tree → Type 0) (ps : List Tree) (s after : Slice) → Goes taken ps s after → AllClean s.refs
    → AllClean after.refs
clean-after taken ps s after x clean =
    let P : List Tree → Type 0 = AllClean in
    clean-right x.front after.refs (subst P x.parts clean)

-- as many references are left as before
counts : (ps rs ts us vs : List Tree) → AllPrune ts ps 0 → us ≡ ts ++ vs → length rs ≡ length vs
    → length (ps ++ rs) ≡ length us
counts ps rs ts us vs a e l =
    let p = all-length ts ps a in
    let q = length-append ps rs in
    let r = length-append ts vs in
    let s : length us ≡ length (ts ++ vs) = ap length e in
    omega (arith, p, q, r, s, l)

takes : (s mid : Slice) (a b : List Tree) → length a ≡ length s.refs → length b ≡ length mid.refs → took s mid ≡ true
    → took (with_refs s a) (with_refs mid b) ≡ true
takes s mid a b x y h = (λ i. nat_lt (length mid.bits) (length s.bits) || nat_lt (y i) (x i)) ∙ h

-- ---- numbers and bit strings

number_goes : (negative : Bool) (size : ℕ) (r : Row) (s : Slice) (outs : List ℕ) (after : Slice)
    → SpellsNumber negative size r s outs after
    → Goes (λ rs. SpellsNumber negative size r (with_refs s rs) outs (with_refs after rs)) [] s after
number_goes negative size (natural width bound named) s outs after e = record {
  front = [];
  parts = e.3.refs;
  prune = none 0;
  spells = λ rs l. (e.0, e.1, e.2, record { bits = e.3.bits; refs = refl });
}
number_goes negative size (integer width) s outs after e = record {
  front = [];
  parts = e.4.refs;
  prune = none 0;
  spells = λ rs l. (e.0, e.1, e.2, e.3, record { bits = e.4.bits; refs = refl });
}
number_goes negative size (string width) s outs after e = absurd e
number_goes negative size no_row s outs after e = absurd e

string_goes : (bits : List ℕ) (r : Row) (s : Slice) (outs : List ℕ) (after : Slice) → SpellsString bits r s outs after
    → Goes (λ rs. SpellsString bits r (with_refs s rs) outs (with_refs after rs)) [] s after
string_goes bits (string width) s outs after e = record {
  front = [];
  parts = e.2.refs;
  prune = none 0;
  spells = λ rs l. (e.0, e.1, record { bits = e.2.bits; refs = refl });
}
string_goes bits (natural width bound named) s outs after e = absurd e
string_goes bits (integer width) s outs after e = absurd e
string_goes bits no_row s outs after e = absurd e

-- ---- lists and records

-- the cuts of values one after the other
abbrev AllGoing : (Plains → Slice → Slice → Type 0) → List Tree → Plains → Slice → Slice → Type 0
AllGoing M ps ws s after = Goes (λ rs. M ws (with_refs s (ps ++ rs)) (with_refs after rs)) ps s after

no_more_go : (M : Plains → Slice → Slice → Type 0) (ps : List Tree) (ws : Plains) (s after : Slice) → ps ≡ [] → ws ≡
    no_vals → after ≡ s → ((s after : Slice) → after ≡ s → M no_vals s after) → AllGoing M ps ws s after
no_more_go M ps ws s after e f same holds =
    let P : List Tree → Type 0 = λ ps. AllGoing M ps ws s after in
    let Q : Plains → Type 0 = λ ws. AllGoing M [] ws s after in
    subst P (sym e) (subst Q (sym f) (record {
      front = [];
      parts = ap (λ (z : Slice). z.refs) (sym same);
      prune = none 0;
      spells = λ rs l. holds (with_refs s rs) (with_refs after rs) (λ i. with_refs (same i) rs);
    }))

-- one more value, and then the others
one_more_go : (M N : Plains → Slice → Slice → Type 0) (V : Plain → Slice → Slice → Type 0) (ps qs rs : List Tree)
    (u : Plain) (ws us : Plains) (s middle after : Slice) → ps ≡ qs ++ rs → ws ≡ a_val u us
    → (x : Goes (λ os. V u (with_refs s (qs ++ os)) (with_refs middle os)) qs s middle) → AllGoing N rs us middle after
    → ((a b : List Tree) (end : Slice) → length a ≡ length s.refs → length b ≡ length middle.refs
    → V u (with_refs s a) (with_refs middle b) → N us (with_refs middle b) end → M (a_val u us) (with_refs s a) end)
    → AllGoing M ps ws s after
one_more_go M N V ps qs rs u ws us s middle after e f x y holds =
    let P : List Tree → Type 0 = λ ps. AllGoing M ps ws s after in
    let Q : Plains → Type 0 = λ ws. AllGoing M (qs ++ rs) ws s after in
    subst P (sym e) (subst Q (sym f) (record {
      front = x.front ++ y.front;
      parts = x.parts ∙ ap (λ (l : List Tree). x.front ++ l) y.parts ∙ sym (append_assoc x.front y.front after.refs);
      prune = all-append x.front qs y.front rs x.prune y.prune;
      spells = λ os l.
          let mid : length (rs ++ os) ≡ length middle.refs = counts rs os y.front middle.refs after.refs y.prune
          y.parts l in
          let start : length (qs ++ (rs ++ os)) ≡ length s.refs = counts qs (rs ++ os) x.front s.refs middle.refs
          x.prune x.parts mid in
          let T : List Tree → Type 0 = λ l. M (a_val u us) (with_refs s l) (with_refs after os) in
          subst T (sym (append_assoc qs rs os))
          (holds (qs ++ (rs ++ os)) (rs ++ os) (with_refs after os) start mid (x.spells (rs ++ os) mid)
          (y.spells os l));
    }))

repeat_reads : (schema : CoreSchema) (K : ForRest) (R : ForRaw) (ds : Laids) → AllRead schema K R ds → (k : ℕ)
    (t : Closed) (s after : Slice) (ps : List Tree) (ws : Plains) → AllClean s.refs
    → Repeats (EachLaid schema ds) k t s after → CutsAll K R ds ps ws
    → AllGoing (λ ws a b. Repeats (Each Partial schema ws) k t a b) ps ws s after
repeat_reads schema K R no_laids reads k t s after ps ws clean r c =
    no_more_go (λ ws a b. Repeats (Each Partial schema ws) k t a b) ps ws s after c.0 c.1 r.1 (λ a b e. (r.0, e))
repeat_reads schema K R (a_laid d ds) reads k t s after ps ws clean r c =
    let x = at_goal schema K R d reads.0 (at_type t) s r.1 r.2 c.0 c.2 clean r.4 c.6 in
    let y = repeat_reads schema K R ds reads.1 r.0 t r.2 after c.1 c.3 (clean-after _ c.0 s r.2 x clean) r.6 c.7 in
    one_more_go (λ ws a b. Repeats (Each Partial schema ws) k t a b)
    (λ ws a b. Repeats (Each Partial schema ws) r.0 t a b)
    (λ u a b. Spells Partial schema u (at_type t) a r.1 b) ps c.0 c.1 c.2 ws c.3 s r.2 after c.4 c.5 x y
    (λ a b end la lb v more. (r.0, r.1, with_refs r.2 b, r.3, v, takes s r.2 a b la lb r.5, more))

fields_read : (schema : CoreSchema) (K : ForRest) (R : ForRaw) (is : Items) (ds : Laids) → AllRead schema K R ds
    → (scope : Scope) (s : Slice) (end : Scope) (after : Slice) (ps : List Tree) (ws : Plains) → AllClean s.refs
    → Fields is (EachLaid schema ds) scope s end after → CutsAll K R ds ps ws
    → AllGoing (λ ws a b. Fields is (Each Partial schema ws) scope a end b) ps ws s after
fields_read schema K R no_items no_laids reads scope s end after ps ws clean f c =
    no_more_go (λ ws a b. Fields no_items (Each Partial schema ws) scope a end b) ps ws s after c.0 c.1 f.1
    (λ a b e. (f.0, e))
fields_read schema K R no_items (a_laid d ds) reads scope s end after ps ws clean f c = absurd f
fields_read schema K R (an_item (check a op b i) is) ds reads scope s end after ps ws clean f c =
    let r = fields_read schema K R is ds reads scope s end after ps ws clean f.5 c in
    record {
      front = r.front;
      parts = r.parts;
      prune = r.prune;
      spells = λ rs l. (f.0, f.1, f.2, f.3, f.4, r.spells rs l);
    }
fields_read schema K R (an_item (solve v a b i) is) ds reads scope s end after ps ws clean f c =
    let r = fields_read schema K R is ds reads (with_number v f.0 scope) s end after ps ws clean f.2 c in
    record { front = r.front; parts = r.parts; prune = r.prune; spells = λ rs l. (f.0, f.1, r.spells rs l) }
fields_read schema K R (an_item (field y slot e t) is) no_laids reads scope s end after ps ws clean f c = absurd f
fields_read schema K R (an_item (field g slot e t) is) (a_laid d ds) reads scope s end after ps ws clean f c =
    let x = at_goal schema K R d reads.0 (at_field e t scope) s f.0 f.1 c.0 c.2 clean f.2 c.6 in
    let y = fields_read schema K R is ds reads.1 (bind (sets slot t) f.0 scope) f.1 end after c.1 c.3
    (clean-after _ c.0 s f.1 x clean) f.3 c.7 in
    one_more_go (λ ws a b. Fields (an_item (field g slot e t) is) (Each Partial schema ws) scope a end b)
    (λ ws a b. Fields is (Each Partial schema ws) (bind (sets slot t) f.0 scope) a end b)
    (λ u a b. Spells Partial schema u (at_field e t scope) a f.0 b) ps c.0 c.1 c.2 ws c.3 s f.1 after c.4 c.5 x y
    (λ a b end la lb v more. (f.0, with_refs f.1 b, v, more))

-- ---- cells

pub bits-cell : (c : Tree) (s : Slice) → c ≡ cell_of s → (out-Tree c).bits ≡ s.bits
bits-cell c s e = ap (λ (c : Tree). (out-Tree c).bits) e ∙ (λ i. (out-tree_of Ordinary s.bits s.refs i).bits)

cell-same : (c : Tree) (s : Slice) (qs : List Tree) → c ≡ cell_of s → cell_with c qs ≡ cell_of (with_refs s qs)
cell-same c s qs e = ap (λ (b : List ℕ). tree_of Ordinary b qs) (bits-cell c s e)

clean-cell : (c : Tree) (s : Slice) → c ≡ cell_of s → IsClean c → AllClean s.refs
clean-cell c s e h = let P : Tree → Type 0 = IsClean in clean-below s.bits s.refs (subst P e h)

-- what a cell holds with other references
pub record Opened (taken : Slice → Type 0) (c : Tree) (s : Slice) (qs : List Tree) : Type 0 where
  pub prunes : Prunes c (cell_with c qs) 0
  pub cell : cell_with c qs ≡ cell_of (with_refs s qs)
  pub spells : taken (with_refs s qs)

cell_prunes : (c : Tree) (s : Slice) (qs : List Tree) → c ≡ cell_of s → AllPrune s.refs qs 0
    → Prunes c (cell_with c qs) 0
cell_prunes c s qs e a =
    let P : Tree → Type 0 = λ c. Prunes c (cell_of (with_refs s qs)) 0 in
    let Q : Tree → Type 0 = λ p. Prunes c p 0 in
    subst Q (sym (cell-same c s qs e)) (subst P (sym e) (ordinary s.bits s.refs qs 0 a))

cell_opens : (taken : Slice → Type 0) (before : List Tree → Type 0) (c : Tree) (s : Slice) (qs : List Tree)
    → c ≡ cell_of s → Goes before qs s nothing → (before [] → taken (with_refs s (qs ++ []))) → Opened taken c s qs
cell_opens taken before c s qs e x all =
    let S : List Tree → Type 0 = λ os. AllPrune os qs 0 in
    let T : List Tree → Type 0 = λ l. taken (with_refs s l) in
    let same : x.front ≡ s.refs = sym (append-nil x.front) ∙ sym x.parts in
    record {
      prunes = cell_prunes c s qs e (subst S same x.prune);
      cell = cell-same c s qs e;
      spells = subst T (append-nil qs) (all (x.spells [] refl));
    }

pub record Held (schema : CoreSchema) (g : Goal) (c : Tree) (qs : List Tree) (u : Plain) : Type 0 where
  pub prunes : Prunes c (cell_with c qs) 0
  pub holds : Holds Partial (Spells Partial schema u) g (cell_with c qs)

pub no_cell : (schema : CoreSchema) (d : Laid) (s : Slice) (outs : List ℕ) (after : Slice)
    → SpellsLaidShape schema d as_cell s outs after → ⊥
no_cell schema (number negative size) s outs after e = e
no_cell schema (bit_string bits) s outs after e = e
no_cell schema (record_of (Some name) names ds) s outs after e = e
no_cell schema (record_of None names ds) s outs after e = e
no_cell schema absent s outs after e = e
no_cell schema (list_of ds) s outs after e = e
no_cell schema (ref_to c d) s outs after e = e
no_cell schema (ref_to_raw c) s outs after e = e
no_cell schema no_map s outs after e = e
no_cell schema (map_under c e) s outs after h = h
no_cell schema (map_here e) s outs after h = h
no_cell schema (rest r) s outs after e = e

pub ok_cell : (c : Shape) → shape_of at_cell ≡ Ok c → as_cell ≡ c
ok_cell c h = cc

pub holds_go : (schema : CoreSchema) (K : ForRest) (R : ForRaw) (d : Laid) → Reads schema K R d → (g : Goal) (c : Tree)
    → IsClean c → Holds Whole (SpellsLaid schema d) g c → (qs : List Tree) (u : Plain) → Cuts K R d qs u
    → Held schema g c qs u
holds_go schema K R d reads at_cell c clean k qs u cuts =
    let P : Shape → Type 0 = λ x. SpellsLaidShape schema d x (only_ref c) k.0 nothing in
    absurd (no_cell schema d (only_ref c) k.0 nothing (subst P (sym (ok_cell k.2.0 k.2.1)) k.2.2))
holds_go schema K R d reads (at_type t) c clean k qs u cuts =
    let x = at_goal schema K R d reads (at_type t) k.0 k.1 nothing qs u (clean-cell c k.0 k.2 clean) k.3 cuts in
    let y = cell_opens (λ z. Spells Partial schema u (at_type t) z k.1 nothing)
    (λ rs. Spells Partial schema u (at_type t) (with_refs k.0 (qs ++ rs)) k.1 (with_refs nothing rs)) c k.0 qs k.2 x
    (λ h. h) in
    record { prunes = y.prunes; holds = (with_refs k.0 qs, k.1, y.cell, y.spells) }
holds_go schema K R d reads (at_field e t scope) c clean k qs u cuts =
    let x = at_goal schema K R d reads (at_field e t scope) k.0 k.1 nothing qs u (clean-cell c k.0 k.2 clean) k.3
    cuts in
    let y = cell_opens (λ z. Spells Partial schema u (at_field e t scope) z k.1 nothing)
    (λ rs. Spells Partial schema u (at_field e t scope) (with_refs k.0 (qs ++ rs)) k.1 (with_refs nothing rs)) c k.0
    qs k.2 x (λ h. h) in
    record { prunes = y.prunes; holds = (with_refs k.0 qs, k.1, y.cell, y.spells) }

-- ---- references

no_level : 0 ≤ 2
no_level = omega arith

pub one_prunes : (c p : Tree) → Prunes c p 0 → AllPrune (c ∷ []) (p ∷ []) 0
one_prunes c p a = more c p [] [] 0 a (none 0)

-- one reference goes for another
one_goes : (F : Slice → Slice → Type 0) (c p : Tree) (s after : Slice) → Then s (only_ref c) after → Prunes c p 0
    → ((a b : Slice) → Then a (only_ref p) b → F a b)
    → Goes (λ rs. F (with_refs s (p ∷ rs)) (with_refs after rs)) (p ∷ []) s after
one_goes F c p s after e a f = record {
  front = c ∷ [];
  parts = e.refs;
  prune = one_prunes c p a;
  spells = λ rs l. f (with_refs s (p ∷ rs)) (with_refs after rs) (record { bits = e.bits; refs = refl });
}

first_of : Tree → List Tree → Tree
first_of c [] = c
first_of c (t ∷ ts) = t

same_first : (s after : Slice) (c e : Tree) → Then s (only_ref c) after → BeginsWith e s → c ≡ e
unfolding first_of
same_first s after c e t b = ap (first_of c) (sym t.refs ∙ b.1)

-- the cell of a reference is clean
clean-first : (s after : Slice) (c : Tree) → Then s (only_ref c) after → AllClean s.refs → IsClean c
clean-first s after c t h = let P : List Tree → Type 0 = AllClean in (subst P t.refs h).0

-- the two shapes of a reference to a cell that holds a value
abbrev IsRefTo : Shape → Goal → Type 0
IsRefTo c g =
    ((h : Hidden) (s : Slice) (outs : List ℕ) (after : Slice) (p : Tree) → outs ≡ [] → Then s (only_ref p) after
    → unseen Partial p ≡ Some h → (schema : CoreSchema) → SpellsShape Partial schema (values.unknown h) c s outs after)
    × ((schema : CoreSchema) (u : Plain) (s : Slice) (outs : List ℕ) (after : Slice) (p : Tree) → outs ≡ [] → Then s
    (only_ref p) after
    → Holds Partial (Spells Partial schema u) g p → SpellsShape Partial schema (values.ref_to tt u) c s outs after)

ref_reads : (schema : CoreSchema) (K : ForRest) (R : ForRaw) (e : Tree) (d : Laid) → Reads schema K R d → (c : Shape)
    (g : Goal) → IsRefTo c g → (s : Slice) (outs : List ℕ) (after : Slice) (ps : List Tree) (w : Plain)
    → AllClean s.refs → (f : Tree) → outs ≡ [] → Then s (only_ref f) after → Holds Whole (SpellsLaid schema d) g f
    → BeginsWith e s → Cuts K R (ref_to e d) ps w → GoingShape schema c ps w s outs after
ref_reads schema K R e d reads c g is s outs after ps w clean f o t k b cuts = go e (same_first s after f e t b) cuts
  where
    go : (e : Tree) → f ≡ e → Cuts K R (ref_to e d) ps w → GoingShape schema c ps w s outs after
    go e same (inl h) =
        let T : Tree → Type 0 = λ x. Then s (only_ref x) after in
        let there = subst T same t in
        let good = clean-first s after e there clean in
        let P : List Tree → Type 0 = λ ps. GoingShape schema c ps w s outs after in
        let Q : Plain → Type 0 = λ w. GoingShape schema c (stub e 0 ∷ []) w s outs after in
        subst P (sym h.0) (subst Q (sym h.1)
        (one_goes (λ a b. SpellsShape Partial schema (values.unknown (hidden_of e)) c a outs b) e (stub e 0) s after
        there
        (is_hidden e 0 no_level) (λ a b u. is.0 (hidden_of e) a outs b (stub e 0) o u (stub-hides e good.good) schema)))
    go e same (inr h) =
        let T : Tree → Type 0 = λ x. Then s (only_ref x) after in
        let H : Tree → Type 0 = λ x. Holds Whole (SpellsLaid schema d) g x in
        let there = subst T same t in
        let good = clean-first s after e there clean in
        let x = holds_go schema K R d reads g e good (subst H same k) h.0 h.1 h.4 in
        let P : List Tree → Type 0 = λ ps. GoingShape schema c ps w s outs after in
        let Q : Plain → Type 0 = λ w. GoingShape schema c (cell_with e h.0 ∷ []) w s outs after in
        subst P (sym h.2) (subst Q (sym h.3)
        (one_goes (λ a b. SpellsShape Partial schema (values.ref_to tt h.1) c a outs b) e (cell_with e h.0) s after
        there
        x.prunes (λ a b u. is.1 schema h.1 a outs b (cell_with e h.0) o u x.holds)))

raw_reads : (schema : CoreSchema) (K : ForRest) (R : ForRaw) → Trusts K R → (e : Tree) (s : Slice) (outs : List ℕ)
    (after : Slice) (ps : List Tree) (w : Plain) → AllClean s.refs → outs ≡ [] → Then s (only_ref e) after
    → Cuts K R (ref_to_raw e) ps w → GoingShape schema (typed (closed.ref closed.whole)) ps w s outs after
raw_reads schema K R trust e s outs after ps w clean o t (inl h) =
    let good = clean-first s after e t clean in
    let c : Shape = typed (closed.ref closed.whole) in
    let P : List Tree → Type 0 = λ ps. GoingShape schema c ps w s outs after in
    let Q : Plain → Type 0 = λ w. GoingShape schema c (stub e 0 ∷ []) w s outs after in
    subst P (sym h.0) (subst Q (sym h.1)
    (one_goes (λ a b. SpellsShape Partial schema (values.unknown (hidden_of e)) c a outs b) e (stub e 0) s after t
    (is_hidden e 0 no_level) (λ a b u. (stub e 0, o, u, stub-hides e good.good))))
raw_reads schema K R trust e s outs after ps w clean o t (inr h) =
    let good = clean-first s after e t clean in
    let x = trust.raws e h.0 good h.3 in
    let c : Shape = typed (closed.ref closed.whole) in
    let P : List Tree → Type 0 = λ ps. GoingShape schema c ps w s outs after in
    let Q : Plain → Type 0 = λ w. GoingShape schema c (h.0 ∷ []) w s outs after in
    subst P (sym h.1) (subst Q (sym h.2)
    (one_goes (λ a b. SpellsShape Partial schema (values.ref_to tt (values.raw h.0)) c a outs b) e h.0 s after t x.0
    (λ a b u. (h.0, o, u, ([], x.1, (as_cell, refl, (refl, record { bits = refl; refs = refl }))), tt))))

-- ---- dictionaries

abbrev Hold : CoreSchema → Parts → Closed → Entries → Type 0
Hold schema x t es = EntriesHold (EachPair Partial schema x.pairs) x.unknown t es

fork_hold : (schema : CoreSchema) (l : List ℕ) (A B : Parts) (zs os : Entries) (t : Closed) → Hold schema A t zs
    → Hold schema B t os → Hold schema (fork_part l A B) t (fork l zs os)
fork_hold schema l A B zs os t h k = (
  contents_join Partial schema (under (l ++ 0 ∷ []) zs) (under (l ++ 1 ∷ []) os) (below (l ++ 0 ∷ []) A.pairs)
      (below (l ++ 1 ∷ []) B.pairs) t (contents_below Partial schema (l ++ 0 ∷ []) zs A.pairs t h.0)
      (contents_below Partial schema (l ++ 1 ∷ []) os B.pairs t k.0),
  hidden-append (under (l ++ 0 ∷ []) zs) (under (l ++ 1 ∷ []) os)
      ∙ (λ i. (hidden-under (l ++ 0 ∷ []) zs ∙ ap (below_parts (l ++ 0 ∷ [])) h.1) i
      ++ (hidden-under (l ++ 1 ∷ []) os ∙ ap (below_parts (l ++ 1 ∷ [])) k.1) i),
)

-- the cell of an edge, hidden or with other references
pub record BranchGoes (schema : CoreSchema) (m : ℕ) (t : Closed) (c p : Tree) (x : Parts) : Type 0 where
  pub entries : Entries
  pub branch : Branch Partial m entries p
  pub hold : Hold schema x t entries
  pub prunes : Prunes c p 0

pub record TreeGoes (schema : CoreSchema) (m : ℕ) (t : Closed) (s : Slice) (ps : List Tree) (x : Parts) : Type 0 where
  pub entries : Entries
  pub tree : DictTree Partial m entries (with_refs s ps)
  pub hold : Hold schema x t entries
  pub prunes : AllPrune s.refs ps 0

abbrev pub TreeReads : CoreSchema → ForRest → ForRaw → LaidEdge → Type 0
TreeReads schema K R e =
    (m : ℕ) (t : Closed) (s : Slice) (ps : List Tree) (x : Parts) → AllClean s.refs → SpellsEdge schema e m t s nothing
    → CutsEdge K R e ps x → TreeGoes schema m t s ps x

branch_reads : (schema : CoreSchema) (K : ForRest) (R : ForRaw) (e : LaidEdge) → TreeReads schema K R e → (m : ℕ)
    (t : Closed) (c p : Tree) (x : Parts) → IsClean c → EdgeCell (SpellsEdge schema e) m t c
    → CutsCell (CutsEdge K R e) c p x → BranchGoes schema m t c p x
branch_reads schema K R e tree m t c p x clean k (inl h) =
    let P : Tree → Type 0 = λ p. BranchGoes schema m t c p x in
    let Q : Parts → Type 0 = λ x. BranchGoes schema m t c (stub c 0) x in
    subst P (sym h.0) (subst Q (sym h.1) (record {
      entries = ([], hidden (hidden_of c)) ∷ [];
      branch = hidden_edge Partial m _ (stub c 0) (hidden_of c) (stub-hides c clean.good) refl;
      hold = (refl, refl);
      prunes = is_hidden c 0 no_level;
    }))
branch_reads schema K R e tree m t c p x clean k (inr h) =
    let y = tree m t k.0 h.0 x (clean-cell c k.0 k.1 clean) k.2 h.2 in
    let P : Tree → Type 0 = λ p. BranchGoes schema m t c p x in
    subst P (sym h.1) (record {
      entries = y.entries;
      branch = open_edge Partial m y.entries (cell_with c h.0) (with_refs k.0 h.0) (cell-same c k.0 h.0 k.1) y.tree;
      hold = y.hold;
      prunes = cell_prunes c k.0 h.0 k.1 y.prunes;
    })

two_prune : (z o y u : Tree) → Prunes z y 0 → Prunes o u 0 → AllPrune (z ∷ (o ∷ [])) (y ∷ (u ∷ [])) 0
two_prune z o y u a b = more z y (o ∷ []) (u ∷ []) 0 a (one_prunes o u b)

leaf_tree : (schema : CoreSchema) (K : ForRest) (R : ForRaw) (l : List ℕ) (d : Laid) → Reads schema K R d
    → TreeReads schema K R (a_leaf l d)
leaf_tree schema K R l d reads m t s ps x clean k c =
    let P : List Tree → Type 0 = AllClean in
    let y = at_goal schema K R d reads (at_type t) k.0 k.1 nothing ps c.0 (subst P k.2.refs clean) k.3 c.2 in
    let S : List Tree → Type 0 = λ os. AllPrune os ps 0 in
    let same : y.front ≡ s.refs = sym (append-nil y.front) ∙ sym y.parts ∙ sym k.2.refs in
    let T : List Tree → Type 0 = λ r. Spells Partial schema c.0 (at_type t) (with_refs k.0 r) k.1 nothing in
    let Q : Parts → Type 0 = λ x. TreeGoes schema m t s ps x in
    subst Q (sym c.1) (record {
      entries = (l, leaf (with_refs k.0 ps)) ∷ [];
      tree = one Partial m _ (with_refs s ps) l (with_refs k.0 ps) refl k.2.long k.2.label refl;
      hold = ((k.1, refl, subst T (append-nil ps) (y.spells [] refl), refl), refl);
      prunes = subst S same y.prune;
    })

-- the parts of a fork
pub record ForkGoes (schema : CoreSchema) (n : ℕ) (t : Closed) (l : List ℕ) (z o : Tree) (s after : Slice)
    (ps : List Tree) (x : Parts) : Type 0 where
  pub first : Tree
  pub second : Tree
  pub less : ℕ
  pub zeros : Entries
  pub ones : Entries
  pub long : n ≡ length l + suc less
  pub refs : s.refs ≡ z ∷ (o ∷ after.refs)
  pub are : ps ≡ first ∷ (second ∷ [])
  pub left : Branch Partial less zeros first
  pub right : Branch Partial less ones second
  pub hold : Hold schema x t (fork l zeros ones)
  pub prune : AllPrune (z ∷ (o ∷ [])) ps 0

fork_reads : (schema : CoreSchema) (K : ForRest) (R : ForRaw) (l : List ℕ) (z : Tree) (a : LaidEdge) (o : Tree)
    (b : LaidEdge) → TreeReads schema K R a → TreeReads schema K R b → (n : ℕ) (t : Closed) (s after : Slice)
    (ps : List Tree) (x : Parts) → AllClean s.refs → SpellsEdge schema (a_fork l z a o b) n t s after
    → CutsEdge K R (a_fork l z a o b) ps x → ForkGoes schema n t l z o s after ps x
fork_reads schema K R l z a o b left right n t s after ps x clean k c =
    let P : List Tree → Type 0 = AllClean in
    let both = subst P k.3 clean in
    let A = branch_reads schema K R a left k.0 t z c.0 c.2 both.0 k.4 c.6 in
    let B = branch_reads schema K R b right k.0 t o c.1 c.3 both.1.0 k.5 c.7 in
    let Q : Parts → Type 0 = λ x. ForkGoes schema n t l z o s after ps x in
    let S : List Tree → Type 0 = λ ps. ForkGoes schema n t l z o s after ps (fork_part l c.2 c.3) in
    subst Q (sym c.5) (subst S (sym c.4) (record {
      first = c.0;
      second = c.1;
      less = k.0;
      zeros = A.entries;
      ones = B.entries;
      long = k.1;
      refs = k.3;
      are = refl;
      left = A.branch;
      right = B.branch;
      hold = fork_hold schema l c.2 c.3 A.entries B.entries t A.hold B.hold;
      prune = two_prune z o c.0 c.1 A.prunes B.prunes;
    }))

fork_tree : (schema : CoreSchema) (K : ForRest) (R : ForRaw) (l : List ℕ) (z : Tree) (a : LaidEdge) (o : Tree)
    (b : LaidEdge) → TreeReads schema K R a → TreeReads schema K R b → TreeReads schema K R (a_fork l z a o b)
fork_tree schema K R l z a o b left right n t s ps x clean k c =
    let y = fork_reads schema K R l z a o b left right n t s nothing ps x clean k c in
    let S : List Tree → Type 0 = λ os. AllPrune os ps 0 in
    record {
      entries = fork l y.zeros y.ones;
      tree = two Partial n _ (with_refs s ps) l y.less y.zeros y.ones y.first y.second refl y.long k.2 y.are y.left
          y.right;
      hold = y.hold;
      prunes = subst S (sym y.refs) y.prune;
    }

-- the first edge in place
abbrev HereGoes : CoreSchema → ℕ → Closed → List Tree → Plain → Slice → List ℕ → Slice → Type 0
HereGoes schema n t ps w s outs after = GoingShape schema (typed (closed.dict n t)) ps w s outs after

leaf_here : (schema : CoreSchema) (K : ForRest) (R : ForRaw) (l : List ℕ) (d : Laid) → Reads schema K R d → (n : ℕ)
    (t : Closed) (s : Slice) (outs : List ℕ) (after : Slice) (ps : List Tree) (x : Parts) → AllClean s.refs → outs ≡ []
    → SpellsEdge schema (a_leaf l d) n t s after → CutsEdge K R (a_leaf l d) ps x
    → HereGoes schema n t ps (map_with x) s outs after
leaf_here schema K R l d reads n t s outs after ps x clean o k c =
    let P : List Tree → Type 0 = AllClean in
    let y = at_goal schema K R d reads (at_type t) k.0 k.1 after ps c.0 (subst P k.2.refs clean) k.3 c.2 in
    let Q : Parts → Type 0 = λ x. HereGoes schema n t ps (map_with x) s outs after in
    subst Q (sym c.1) (record {
      front = y.front;
      parts = k.2.refs ∙ y.parts;
      prune = y.prune;
      spells = λ rs e. (
        o,
        inl (with_refs k.0 (ps ++ rs), k.1, record { long = k.2.long; label = k.2.label; refs = refl }, y.spells rs e),
        tt,
      );
    })

fork_here : (schema : CoreSchema) (K : ForRest) (R : ForRaw) (l : List ℕ) (z : Tree) (a : LaidEdge) (o : Tree)
    (b : LaidEdge) → TreeReads schema K R a → TreeReads schema K R b → (n : ℕ) (t : Closed) (s : Slice)
    (outs : List ℕ) (after : Slice) (ps : List Tree) (x : Parts) → AllClean s.refs → outs ≡ []
    → SpellsEdge schema (a_fork l z a o b) n t s after → CutsEdge K R (a_fork l z a o b) ps x
    → HereGoes schema n t ps (map_with x) s outs after
fork_here schema K R l z a o b left right n t s outs after ps x clean oo k c =
    let y = fork_reads schema K R l z a o b left right n t s after ps x clean k c in
    record {
      front = z ∷ (o ∷ []);
      parts = y.refs;
      prune = y.prune;
      spells = λ rs e. (
        oo,
        inr (
          fork l y.zeros y.ones,
          forked l y.less y.zeros y.ones y.first y.second refl y.long k.2 (ap (λ (q : List Tree). q ++ rs) y.are)
              y.left y.right,
          y.hold,
        ),
        tt,
      );
    }

under_reads : (schema : CoreSchema) (K : ForRest) (R : ForRaw) (c : Tree) (e : LaidEdge) → TreeReads schema K R e
    → (n : ℕ) (t : Closed) (s : Slice) (outs : List ℕ) (after : Slice) (ps : List Tree) (w : Plain) → AllClean s.refs
    → outs ≡ [] → Then s (record { bits = 1 ∷ []; refs = c ∷ [] }) after → EdgeCell (SpellsEdge schema e) n t c
    → Cuts K R (map_under c e) ps w → GoingShape schema (typed (closed.dict_e n t)) ps w s outs after
under_reads schema K R c e tree n t s outs after ps w clean o b k h =
    let P : List Tree → Type 0 = AllClean in
    let y = branch_reads schema K R e tree n t c h.0 h.1 (subst P b.refs clean).0 k h.4 in
    let Q : List Tree → Type 0 = λ ps. GoingShape schema (typed (closed.dict_e n t)) ps w s outs after in
    let W : Plain → Type 0 = λ w. GoingShape schema (typed (closed.dict_e n t)) (h.0 ∷ []) w s outs after in
    subst Q (sym h.2) (subst W (sym h.3) (record {
      front = c ∷ [];
      parts = b.refs;
      prune = one_prunes c h.0 y.prunes;
      spells = λ rs l. (o, some_entries h.0 y.entries (record { bits = b.bits; refs = refl }) y.branch y.hold, tt);
    }))

none_reads : (schema : CoreSchema) (n : ℕ) (t : Closed) (s : Slice) (outs : List ℕ) (after : Slice) → outs ≡ []
    → Then s (only_bits (0 ∷ [])) after
    → GoingShape schema (typed (closed.dict_e n t)) [] (values.map_of tt no_pairs []) s outs after
none_reads schema n t s outs after o b = record {
  front = [];
  parts = b.refs;
  prune = none 0;
  spells = λ rs l. (o, no_entries tt refl (record { bits = b.bits; refs = refl }), tt);
}

-- ---- what is left of a cell

rest_reads : (schema : CoreSchema) (K : ForRest) (R : ForRaw) → Trusts K R → (r : values.Slice) (s : Slice)
    (outs : List ℕ) (after : Slice) (ps : List Tree) → AllClean s.refs → outs ≡ []
    → r ≡ record { bits = s.bits; refs = s.refs } → after ≡ nothing → K r.refs ps
    → GoingShape schema (typed closed.whole) ps (values.rest (record { bits = r.bits; refs = ps })) s outs after
rest_reads schema K R trust r s outs after ps clean o same end k =
    let C : List Tree → Type 0 = AllClean in
    let refs : r.refs ≡ s.refs = ap (λ (x : values.Slice). x.refs) same in
    let none_after : after.refs ≡ [] = ap (λ (x : Slice). x.refs) end in
    record {
      front = r.refs;
      parts = sym refs ∙ sym (append-nil r.refs) ∙ ap (λ (l : List Tree). r.refs ++ l) (sym none_after);
      prune = trust.rests r.refs ps (subst C (sym refs) clean) k;
      spells = λ rs l.
          let z : rs ≡ [] = nil_from_length rs (l ∙ ap length none_after) in (
            o,
            (λ i. record {
              bits = (same i).bits;
              refs = (sym (append-nil ps) ∙ ap (λ (x : List Tree). ps ++ x) (sym z)) i;
            }),
            (λ i. record { bits = (end i).bits; refs = z i }),
          );
    }

-- ---- all values

record_reads : (schema : CoreSchema) (K : ForRest) (R : ForRaw) (name : List ℕ) (names : List (List ℕ)) (ds : Laids)
    → AllRead schema K R ds → (x : List ℕ) (args : ClosedArgs) (s : Slice) (outs : List ℕ)
    (after : Slice) (ps : List Tree) (ws : Plains) → AllClean s.refs
    → SpellsLaidShape schema (record_of (Some name) names ds) (typed (closed.named x args)) s outs after
    → CutsAll K R ds ps ws
    → GoingShape schema (typed (closed.named x args)) ps (values.record_of (Some name) names ws) s outs after
record_reads schema K R name names ds reads x args s outs after ps ws clean e c =
    let P : List Tree → Type 0 = AllClean in
    let y = fields_read schema K R e.1.core.items ds reads e.2 e.3 e.4 after ps ws (subst P e.7.refs clean) e.8 c in
    record {
      front = y.front;
      parts = e.7.refs ∙ y.parts;
      prune = y.prune;
      spells = λ rs l. (
        e.0,
        e.1,
        e.2,
        with_refs e.3 (ps ++ rs),
        e.4,
        e.5,
        e.6,
        record { bits = e.7.bits; refs = refl },
        y.spells rs l,
        e.9,
      );
    }

inner_reads : (schema : CoreSchema) (K : ForRest) (R : ForRaw) (names : List (List ℕ)) (ds : Laids)
    → AllRead schema K R ds → (is : Items) (scope : Scope) (s : Slice) (outs : List ℕ) (after : Slice)
    (ps : List Tree) (ws : Plains) → AllClean s.refs
    → SpellsLaidShape schema (record_of None names ds) (fields_here is scope) s outs after → CutsAll K R ds ps ws
    → GoingShape schema (fields_here is scope) ps (values.record_of None names ws) s outs after
inner_reads schema K R names ds reads is scope s outs after ps ws clean e c =
    let y = fields_read schema K R is ds reads scope s e.2 after ps ws clean e.3 c in
    record { front = y.front; parts = y.parts; prune = y.prune; spells = λ rs l. (e.0, e.1, e.2, y.spells rs l) }

list_reads : (schema : CoreSchema) (K : ForRest) (R : ForRaw) (ds : Laids) → AllRead schema K R ds → (n : ℕ)
    (t : Closed) (s : Slice) (outs : List ℕ) (after : Slice) (ps : List Tree) (ws : Plains) → AllClean s.refs
    → SpellsLaidShape schema (list_of ds) (typed (closed.repeat n t)) s outs after → CutsAll K R ds ps ws
    → GoingShape schema (typed (closed.repeat n t)) ps (values.list_of ws) s outs after
list_reads schema K R ds reads n t s outs after ps ws clean e c =
    let y = repeat_reads schema K R ds reads n t s after ps ws clean e.1 c in
    record { front = y.front; parts = y.parts; prune = y.prune; spells = λ rs l. (e.0, y.spells rs l) }

-- a value that takes no reference
small_reads : (schema : CoreSchema) (v : Plain) (c : Shape) (s : Slice) (outs : List ℕ) (after : Slice) (ps : List Tree)
    (w : Plain) → ps ≡ [] → w ≡ v → GoingShape schema c [] v s outs after → GoingShape schema c ps w s outs after
small_reads schema v c s outs after ps w e f x =
    let P : List Tree → Type 0 = λ ps. GoingShape schema c ps w s outs after in
    let Q : Plain → Type 0 = λ w. GoingShape schema c [] w s outs after in
    subst P (sym e) (subst Q (sym f) x)

number_reads : (schema : CoreSchema) (negative : Bool) (size : ℕ) (c : Shape) (s : Slice) (outs : List ℕ)
    (after : Slice) → SpellsLaidShape schema (number negative size) c s outs after
    → GoingShape schema c [] (values.number negative size) s outs after
number_reads schema negative size (typed t) s outs after e = number_goes negative size (row t) s outs after e
number_reads schema negative size _ s outs after e = absurd e

string_reads : (schema : CoreSchema) (bits : List ℕ) (c : Shape) (s : Slice) (outs : List ℕ) (after : Slice)
    → SpellsLaidShape schema (bit_string bits) c s outs after → GoingShape schema c [] (values.bit_string bits) s outs after
string_reads schema bits (typed t) s outs after e = string_goes bits (row t) s outs after e
string_reads schema bits _ s outs after e = absurd e

absent_reads : (schema : CoreSchema) (c : Shape) (s : Slice) (outs : List ℕ) (after : Slice)
    → SpellsLaidShape schema absent c s outs after → GoingShape schema c [] values.absent s outs after
absent_reads schema left_out s outs after e = record {
  front = [];
  parts = ap (λ (z : Slice). z.refs) (sym e.1);
  prune = none 0;
  spells = λ rs l. (e.0, (λ i. with_refs (e.1 i) rs));
}
absent_reads schema _ s outs after e = absurd e

mutual
  pub reads : (schema : CoreSchema) (K : ForRest) (R : ForRaw) → Trusts K R → (d : Laid) → Reads schema K R d
  reads schema K R trust (number negative size) c s outs after ps w clean e cuts =
      small_reads schema (values.number negative size) c s outs after ps w cuts.0 cuts.1
      (number_reads schema negative size c s outs after e)
  reads schema K R trust (bit_string bits) c s outs after ps w clean e cuts =
      small_reads schema (values.bit_string bits) c s outs after ps w cuts.0 cuts.1
      (string_reads schema bits c s outs after e)
  reads schema K R trust absent c s outs after ps w clean e cuts =
      small_reads schema values.absent c s outs after ps w cuts.0 cuts.1 (absent_reads schema c s outs after e)
  reads schema K R trust (record_of (Some name) names ds) (typed (closed.named x args)) s outs after ps w clean e cuts =
      let Q : Plain → Type 0 = λ w. GoingShape schema (typed (closed.named x args)) ps w s outs after in
      subst Q (sym cuts.1)
      (record_reads schema K R name names ds (read_all schema K R trust ds) x args s outs after ps cuts.0 clean e
      cuts.2)
  reads schema K R trust (record_of (Some name) names ds) _ s outs after ps w clean e cuts = absurd e
  reads schema K R trust (record_of None names ds) (fields_here is scope) s outs after ps w clean e cuts =
      let Q : Plain → Type 0 = λ w. GoingShape schema (fields_here is scope) ps w s outs after in
      subst Q (sym cuts.1)
      (inner_reads schema K R names ds (read_all schema K R trust ds) is scope s outs after ps cuts.0 clean e cuts.2)
  reads schema K R trust (record_of None names ds) _ s outs after ps w clean e cuts = absurd e
  reads schema K R trust (list_of ds) (typed (closed.repeat n t)) s outs after ps w clean e cuts =
      let Q : Plain → Type 0 = λ w. GoingShape schema (typed (closed.repeat n t)) ps w s outs after in
      subst Q (sym cuts.1)
      (list_reads schema K R ds (read_all schema K R trust ds) n t s outs after ps cuts.0 clean e cuts.2)
  reads schema K R trust (list_of ds) _ s outs after ps w clean e cuts = absurd e
  reads schema K R trust (ref_to a d) (typed (closed.ref t)) s outs after ps w clean e cuts =
      ref_reads schema K R a d (reads schema K R trust d) (typed (closed.ref t)) (under_ref t)
      ((λ h s outs after p o u k schema. (p, o, u, k)), (λ schema v s outs after p o u k. (p, o, u, k, tt)))
      s outs after ps w clean e.0 e.1 e.2 e.3 e.4 cuts
  reads schema K R trust (ref_to a d) (fields_under is scope) s outs after ps w clean e cuts =
      ref_reads schema K R a d (reads schema K R trust d) (fields_under is scope) (at_fields is scope)
      ((λ h s outs after p o u k schema. (p, o, u, k)), (λ schema v s outs after p o u k. (p, o, u, k, tt)))
      s outs after ps w clean e.0 e.1 e.2 e.3 e.4 cuts
  reads schema K R trust (ref_to a d) _ s outs after ps w clean e cuts = absurd e
  reads schema K R trust (ref_to_raw a) (typed (closed.ref closed.whole)) s outs after ps w clean e cuts =
      raw_reads schema K R trust a s outs after ps w clean e.0 e.1 cuts
  reads schema K R trust (ref_to_raw a) _ s outs after ps w clean e cuts = absurd e
  reads schema K R trust no_map (typed (closed.dict_e n t)) s outs after ps w clean e cuts =
      small_reads schema (values.map_of tt no_pairs []) (typed (closed.dict_e n t)) s outs after ps w cuts.0 cuts.1
      (none_reads schema n t s outs after e.0 e.1)
  reads schema K R trust no_map _ s outs after ps w clean e cuts = absurd e
  reads schema K R trust (map_under a x) (typed (closed.dict_e n t)) s outs after ps w clean e cuts =
      under_reads schema K R a x (tree_reads schema K R trust x) n t s outs after ps w clean e.0 e.1 e.2 cuts
  reads schema K R trust (map_under a x) _ s outs after ps w clean e cuts = absurd e
  reads schema K R trust (map_here x) (typed (closed.dict n t)) s outs after ps w clean e cuts =
      let Q : Plain → Type 0 = λ w. GoingShape schema (typed (closed.dict n t)) ps w s outs after in
      subst Q (sym cuts.1) (here_reads schema K R trust x n t s outs after ps cuts.0 clean e.0 e.1 cuts.2)
  reads schema K R trust (map_here x) _ s outs after ps w clean e cuts = absurd e
  reads schema K R trust (rest r) (typed closed.whole) s outs after ps w clean e cuts =
      let Q : Plain → Type 0 = λ w. GoingShape schema (typed closed.whole) ps w s outs after in
      subst Q (sym cuts.1) (rest_reads schema K R trust r s outs after ps clean e.0 e.1 e.2 cuts.0)
  reads schema K R trust (rest r) _ s outs after ps w clean e cuts = absurd e

  read_all : (schema : CoreSchema) (K : ForRest) (R : ForRaw) → Trusts K R → (ds : Laids) → AllRead schema K R ds
  read_all schema K R trust no_laids = tt
  read_all schema K R trust (a_laid d ds) = (reads schema K R trust d, read_all schema K R trust ds)

  tree_reads : (schema : CoreSchema) (K : ForRest) (R : ForRaw) → Trusts K R → (e : LaidEdge) → TreeReads schema K R e
  tree_reads schema K R trust (a_leaf l d) = leaf_tree schema K R l d (reads schema K R trust d)
  tree_reads schema K R trust (a_fork l z a o b) =
      fork_tree schema K R l z a o b (tree_reads schema K R trust a) (tree_reads schema K R trust b)

  here_reads : (schema : CoreSchema) (K : ForRest) (R : ForRaw) → Trusts K R → (e : LaidEdge) (n : ℕ) (t : Closed)
      (s : Slice) (outs : List ℕ) (after : Slice) (ps : List Tree) (x : Parts) → AllClean s.refs → outs ≡ []
      → SpellsEdge schema e n t s after → CutsEdge K R e ps x → HereGoes schema n t ps (map_with x) s outs after
  here_reads schema K R trust (a_leaf l d) n t s outs after ps x clean o k c =
      leaf_here schema K R l d (reads schema K R trust d) n t s outs after ps x clean o k c
  here_reads schema K R trust (a_fork l z a o b) n t s outs after ps x clean oo k c =
      fork_here schema K R l z a o b (tree_reads schema K R trust a) (tree_reads schema K R trust b) n t s outs after
      ps x
      clean oo k c
