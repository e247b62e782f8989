-- A slice has at most one laid value at a goal, and a root cell at most one at a type.
use Rattle.std.proofs.Common.{◌≡◌, ℕ, Bool, List, ◌∷◌, length, Option, Some, None, Result}
use Rattle.std.proofs.Common.{Ok, refl, sym, ap, ◌∙◌, subst, arith}
use Rattle.std.specs.Prelude.{slice_get}
use Rattle.cell_nodes.specs.declared.tree.Mode.TheVariants.{Whole}
use Rattle.cell_nodes.specs.declared.tree.Tree.{Tree}
use Rattle.core_form.specs.Core.{Word, Items, Declaration, CoreSchema, no_items, an_item, check, solve, field, sets}
use Rattle.core_form.specs.Closed.{Closed, ClosedArgs}
use Rattle.core_form.specs.Closed as closed
use Rattle.core_form.specs.Fit.{fit}
use Rattle.core_form.specs.Scope.{Scope, with_number, bind}
use Rattle.hashmap_labels.specs.Labels.{IsLabel}
use Rattle.hashmap_labels.specs.Reading.{read_label}
use Rattle.hashmap_labels.specs.declared.labels.LabelError.{LabelError}
use Rattle.hashmap_tree.specs.CellLaws.{content-cell_of, label_complete}
use Rattle.hashmap_tree.specs.Dict.{forms_of}
use Rattle.hashmap_tree.specs.Entries.{Slice, content, cell_of, Then}
use Rattle.spelling.specs.Acceptable.{IsAcceptable, Seeks}
use Rattle.spelling.specs.Slices.{nothing, only_ref}
use Rattle.spelling.specs.Goals.{Goal, at_type, at_field, at_cell, Shape, typed, fields_here, fields_under}
use Rattle.spelling.specs.Goals.{at_fields, under_ref, shape_of}
use Rattle.spelling.specs.Spells.{Repeats, Fields, Holds}
use Rattle.spelling.specs.Stuck.{Enters}
use Rattle.spelling.specs.PlainReader.{Found, sought_number, after_tag}
use Rattle.spelling.specs.declared.Cause.{Cause}
use Rattle.spelling_laws.specs.CompleteLaws.{after_begun}
use Rattle.spelling_laws.specs.EnterLaws.{one_constructor}
use Rattle.spelling_laws.specs.FitLaws.{fit_complete}
use Rattle.spelling_laws.specs.LeadsLaws.{leads_hold}
use Rattle.spelling_laws.specs.OutcomeLaws.{one_spelling_at}
use Rattle.spelling_laws.specs.ProperLaws.{Proper, ProperShape, proper_under, proper_shape}
use Rattle.spelling_laws.specs.SolvingLaws.{sought_complete}
use Rattle.typed_value.specs.Values.{Plain, Plains}
use Rattle.typed_value.specs.Values as values
use Rattle.pruning.specs.Laid.{Laid, number, bit_string, record_of, absent, list_of, ref_to, ref_to_raw, no_map}
use Rattle.pruning.specs.Laid.{map_under, map_here, rest, Laids, no_laids, a_laid, LaidEdge, a_leaf, a_fork, plain}
use Rattle.pruning.specs.Laid.{plain_all}
use Rattle.pruning.specs.SpellsLaid.{BeginsWith, EdgeCell, SpellsLaidShape, SpellsLaid, EachLaid, SpellsEdge, LaidRoot}
use Rattle.pruning.specs.SpellsLaid.{as_it_is, laid, IsLaidRoot}
use Rattle.pruning_laws.specs.LaidLaws.{same_first}
use Rattle.pruning_laws.specs.ReadsLaws.{no_cell, ok_cell}
use Rattle.proof_laws.specs.LaidReadsLaws.{at_goal, fields_plainly, spelled_plainly, all_plainly}
use Rattle.proof_laws.specs.Laws.{OneLaid}

-- ---- what two laid values of one slice have in common

pub record Same (d e : Laid) (x y : List ℕ) (a b : Slice) : Type 0 where
  pub value : plain d ≡ plain e
  pub outs : x ≡ y
  pub left : a ≡ b

found_same : (d e : Laid) (x y : List ℕ) (a b : Slice) → (◌≡◌ {A = Found} (plain d, x, a) (plain e, y, b))
    → Same d e x y a b
found_same d e x y a b h = record {
  value = ap (λ (z : Found). z.0) h;
  outs = ap (λ (z : Found). z.1) h;
  left = ap (λ (z : Found). z.2) h;
}

same_at : (schema : CoreSchema) → IsAcceptable schema → (d e : Laid) (g : Goal) → Proper g → (s : Slice) (x y : List ℕ)
    (a b : Slice) → SpellsLaid schema d g s x a → SpellsLaid schema e g s y b → Same d e x y a b
same_at schema ok d e g proper s x y a b f h =
    found_same d e x y a b
    (one_spelling_at Whole schema ok g proper s (plain d) (plain e) x y a b
    (at_goal schema d (spelled_plainly schema d) g s x a f) (at_goal schema e (spelled_plainly schema e) g s y b h))

-- there is no other laid value of the slice
abbrev Alone : CoreSchema → Laid → Type 0
Alone schema d =
    (e : Laid) (c : Shape) → ProperShape c → (s : Slice) (x y : List ℕ) (a b : Slice)
    → SpellsLaidShape schema d c s x a → SpellsLaidShape schema e c s y b → plain d ≡ plain e → d ≡ e

abbrev AllAlone : CoreSchema → Laids → Type 0
AllAlone schema no_laids = Unit {0}
AllAlone schema (a_laid d ds) = Alone schema d × AllAlone schema ds

ok_shape : (r : Result Shape Cause) (c e : Shape) → r ≡ Ok c → r ≡ Ok e → e ≡ c
ok_shape r c e h k = cc

alone_at : (schema : CoreSchema) → IsAcceptable schema → (d : Laid) → Alone schema d → (e : Laid) (g : Goal) → Proper g
    → (s : Slice) (x y : List ℕ) (a b : Slice) → SpellsLaid schema d g s x a → SpellsLaid schema e g s y b → d ≡ e
alone_at schema ok d alone e g proper s x y a b f h =
    let P : Shape → Type 0 = λ c. SpellsLaidShape schema e c s y b in
    let k = same_at schema ok d e g proper s x y a b f h in
    alone e f.0 (proper_shape g f.0 proper f.1) s x y a b f.2
    (subst P (ok_shape (shape_of g) f.0 h.0 f.1 h.1) h.2) k.value

-- ---- lists and records

repeat_alone : (schema : CoreSchema) → IsAcceptable schema → (ds : Laids) → AllAlone schema ds → (es : Laids) (k m : ℕ)
    → k ≡ m → (t : Closed) (s a b : Slice) → Repeats (EachLaid schema ds) k t s a → Repeats (EachLaid schema es) m t s b
    → ds ≡ es
repeat_alone schema ok no_laids alone no_laids k m n t s a b r q = refl
repeat_alone schema ok no_laids alone (a_laid e es) k m n t s a b r q =
    let x = r.0 in
    let y = q.3 in
    absurd (omega (arith, n, x, y))
repeat_alone schema ok (a_laid d ds) alone no_laids k m n t s a b r q =
    let x = q.0 in
    let y = r.3 in
    absurd (omega (arith, n, x, y))
repeat_alone schema ok (a_laid d ds) alone (a_laid e es) k m n t s a b r q =
    let u = same_at schema ok d e (at_type t) tt s r.1 q.1 r.2 q.2 r.4 q.4 in
    let first = alone_at schema ok d alone.0 e (at_type t) tt s r.1 q.1 r.2 q.2 r.4 q.4 in
    let x = r.3 in
    let y = q.3 in
    let less : r.0 ≡ q.0 = omega (arith, n, x, y) in
    let P : Slice → Type 0 = λ z. Repeats (EachLaid schema es) q.0 t z b in
    let others = repeat_alone schema ok ds alone.1 es r.0 q.0 less t r.2 a b r.6 (subst P (sym u.left) q.6) in
    λ i. a_laid (first i) (others i)

ok_number : (r : Result ℕ Cause) (m n : ℕ) → r ≡ Ok m → r ≡ Ok n → n ≡ m
ok_number r m n h k = cc

fields_alone : (schema : CoreSchema) → IsAcceptable schema → (is : Items) → Seeks is → (ds : Laids)
    → AllAlone schema ds → (es : Laids) (scope : Scope) (s : Slice) (x y : Scope) (a b : Slice)
    → Fields is (EachLaid schema ds) scope s x a → Fields is (EachLaid schema es) scope s y b → ds ≡ es
fields_alone schema ok no_items seeks no_laids alone no_laids scope s x y a b f h = refl
fields_alone schema ok no_items seeks no_laids alone (a_laid e es) scope s x y a b f h = absurd h
fields_alone schema ok no_items seeks (a_laid d ds) alone es scope s x y a b f h = absurd f
fields_alone schema ok (an_item (check p op q i) is) seeks ds alone es scope s x y a b f h =
    fields_alone schema ok is seeks ds alone es scope s x y a b f.5 h.5
fields_alone schema ok (an_item (solve v p q i) is) seeks ds alone es scope s x y a b f h =
    let same = ok_number (sought_number p q scope.numbers) f.0 h.0
    (sought_complete p q scope.numbers v f.0 seeks.0 f.1) (sought_complete p q scope.numbers v h.0 seeks.0 h.1) in
    let P : ℕ → Type 0 = λ n. Fields is (EachLaid schema es) (with_number v n scope) s y b in
    fields_alone schema ok is seeks.1 ds alone es (with_number v f.0 scope) s x y a b f.2 (subst P same h.2)
fields_alone schema ok (an_item (field w slot c t) is) seeks no_laids alone es scope s x y a b f h = absurd f
fields_alone schema ok (an_item (field w slot c t) is) seeks (a_laid d ds) alone no_laids scope s x y a b f h =
    absurd h
fields_alone schema ok (an_item (field w slot c t) is) seeks (a_laid d ds) alone (a_laid e es) scope s x y a b f h =
    let u = same_at schema ok d e (at_field c t scope) seeks.0 s f.0 h.0 f.1 h.1 f.2 h.2 in
    let first = alone_at schema ok d alone.0 e (at_field c t scope) seeks.0 s f.0 h.0 f.1 h.1 f.2 h.2 in
    let P : List ℕ → Type 0 = λ o. Fields is (EachLaid schema es) (bind (sets slot t) o scope) h.1 y b in
    let Q : Slice → Type 0 = λ z. Fields is (EachLaid schema es) (bind (sets slot t) f.0 scope) z y b in
    let others = fields_alone schema ok is seeks.1 ds alone.1 es (bind (sets slot t) f.0 scope) f.1 x y a b f.3
    (subst Q (sym u.left) (subst P (sym u.outs) h.3)) in
    λ i. a_laid (first i) (others i)

-- ---- declared types

abbrev Declared : CoreSchema → Word → List Word → Laids → Word → ClosedArgs → Slice → List ℕ → Slice → Type 0
Declared schema name names ds x args s outs after =
    SpellsLaidShape schema (record_of (Some name) names ds) (typed (closed.named x args)) s outs after

-- the constructor of a declared type can be entered
entered : (schema : CoreSchema) → IsAcceptable schema → (name : Word) (names : List Word) (ds : Laids) (x : Word)
    (args : ClosedArgs) (s : Slice) (outs : List ℕ) (after : Slice) (e : Declared schema name names ds x args s outs
    after)
    → Enters schema x args s.bits e.0 e.1 e.2
entered schema ok name names ds x args s outs after e =
    let f = fields_plainly schema e.1.core.items ds (all_plainly schema ds) e.2 e.3 e.4 after e.8 in
    record {
      meets = record { there = e.5.there; of_type = e.5.of_type; shown = refl; fitting = e.5.fitting };
      begins = leads_hold Whole schema ok x args name names (plain_all ds) s outs after
          (e.0, e.1, e.2, e.3, e.4, e.5, e.6, e.7, f, e.9);
    }

some_declaration : (o : Option Declaration) (c e : Declaration) → o ≡ Some c → o ≡ Some e → e ≡ c
some_declaration o c e h k = cc

some_scope : (o : Option Scope) (a b : Scope) → o ≡ Some a → o ≡ Some b → b ≡ a
some_scope o a b h k = cc

declared_alone : (schema : CoreSchema) → IsAcceptable schema → (name other : Word) (names others : List Word)
    (ds : Laids) → AllAlone schema ds → (es : Laids) (t : Word) (args : ClosedArgs) (s : Slice) (x y : List ℕ)
    (a b : Slice) → Declared schema name names ds t args s x a → Declared schema other others es t args s y b → ds ≡ es
declared_alone schema ok name other names others ds alone es t args s x y a b f h =
    let n = entered schema ok name names ds t args s x a f in
    let m = entered schema ok other others es t args s y b h in
    let place : h.0 ≡ f.0 = one_constructor schema ok t args s.bits h.0 f.0 h.1 f.1 h.2 f.2 m n in
    let there : slice_get schema f.0 ≡ Some h.1 = ap (slice_get schema) (sym place) ∙ h.5.there in
    let c : h.1 ≡ f.1 = some_declaration (slice_get schema f.0) f.1 h.1 f.5.there there in
    let fits : fit f.1.core args ≡ Some h.2 =
    ap (λ (z : Declaration). fit z.core args) (sym c) ∙ fit_complete h.1.core args h.2 h.5.fitting in
    let scope : h.2 ≡ f.2 = some_scope (fit f.1.core args) f.2 h.2 (fit_complete f.1.core args f.2 f.5.fitting) fits in
    let middle : h.3 ≡ f.3 =
    sym (after_begun h.1.core.tag s h.3 h.7) ∙ ap (λ (z : Declaration). after_tag z.core.tag s) c
    ∙ after_begun f.1.core.tag s f.3 f.7 in
    let P : Declaration → Type 0 = λ z. Fields z.core.items (EachLaid schema es) h.2 h.3 h.4 b in
    let Q : Scope → Type 0 = λ z. Fields f.1.core.items (EachLaid schema es) z h.3 h.4 b in
    let R : Slice → Type 0 = λ z. Fields f.1.core.items (EachLaid schema es) f.2 z h.4 b in
    fields_alone schema ok f.1.core.items (ok.seeks f.0 f.1 f.5.there) ds alone es f.2 f.3 f.4 h.4 a b f.8
    (subst R middle (subst Q scope (subst P c h.8)))

-- ---- references

cell_same : (s z : Slice) (c : Tree) → c ≡ cell_of s → c ≡ cell_of z → z ≡ s
cell_same s z c e f = sym (content-cell_of z) ∙ ap content (sym f ∙ e) ∙ content-cell_of s

holds_alone : (schema : CoreSchema) → IsAcceptable schema → (d : Laid) → Alone schema d → (e : Laid) (g : Goal)
    → Proper g → (c : Tree) → Holds Whole (SpellsLaid schema d) g c → Holds Whole (SpellsLaid schema e) g c → d ≡ e
holds_alone schema ok d alone e at_cell proper c k h =
    alone_at schema ok d alone e at_cell proper (only_ref c) k.0 h.0 nothing nothing k.2 h.2
holds_alone schema ok d alone e (at_type t) proper c k h =
    let P : Slice → Type 0 = λ z. SpellsLaid schema e (at_type t) z h.1 nothing in
    alone_at schema ok d alone e (at_type t) proper k.0 k.1 h.1 nothing nothing k.3
    (subst P (cell_same k.0 h.0 c k.2 h.2) h.3)
holds_alone schema ok d alone e (at_field x t scope) proper c k h =
    let P : Slice → Type 0 = λ z. SpellsLaid schema e (at_field x t scope) z h.1 nothing in
    alone_at schema ok d alone e (at_field x t scope) proper k.0 k.1 h.1 nothing nothing k.3
    (subst P (cell_same k.0 h.0 c k.2 h.2) h.3)

never_held : (schema : CoreSchema) (d : Laid) (c : Tree) → Holds Whole (SpellsLaid schema d) at_cell c → ⊥
never_held schema d c k =
    let P : Shape → Type 0 = λ x. SpellsLaidShape schema d x (only_ref c) k.0 nothing in
    no_cell schema d (only_ref c) k.0 nothing (subst P (sym (ok_cell k.2.0 k.2.1)) k.2.2)

head_same : (ts us : List Tree) (c e : Tree) → c ∷ ts ≡ e ∷ us → c ≡ e
head_same ts us c e h = cc

begins_same : (s : Slice) (c e : Tree) → BeginsWith c s → BeginsWith e s → c ≡ e
begins_same s c e b k = head_same b.0 k.0 c e (sym b.1 ∙ k.1)

child_alone : (schema : CoreSchema) → IsAcceptable schema → (d : Laid) → Alone schema d → (e : Laid) (g : Goal)
    → Proper g → (s a b : Slice) (u v : Tree) → Then s (only_ref u) a → Then s (only_ref v) b
    → Holds Whole (SpellsLaid schema d) g u → Holds Whole (SpellsLaid schema e) g v → d ≡ e
child_alone schema ok d alone e g proper s a b u v x y k h =
    let P : Tree → Type 0 = λ z. Holds Whole (SpellsLaid schema e) g z in
    holds_alone schema ok d alone e g proper u k (subst P (sym (same_first s a b u v x y)) h)

-- ---- dictionaries

abbrev EdgeAlone : CoreSchema → LaidEdge → Type 0
EdgeAlone schema e =
    (f : LaidEdge) (n : ℕ) (t : Closed) (s a b : Slice) → SpellsEdge schema e n t s a → SpellsEdge schema f n t s b
    → e ≡ f

pub record SameLabel (l k x y : List ℕ) : Type 0 where
  pub bits : k ≡ l
  pub rest : y ≡ x

ok_label : (r : Result (List ℕ × List ℕ) LabelError) (l k x y : List ℕ) → r ≡ Ok (l, x) → r ≡ Ok (k, y)
    → SameLabel l k x y
ok_label r l k x y h m = go (sym m ∙ h)
  where
    pair : (u v : List ℕ × List ℕ) → (◌≡◌ {A = Result (List ℕ × List ℕ) LabelError} (Ok u) (Ok v)) → u ≡ v
    pair u v e = cc

    go : (◌≡◌ {A = Result (List ℕ × List ℕ) LabelError} (Ok (k, y)) (Ok (l, x))) → SameLabel l k x y
    go e =
        let p = pair (k, y) (l, x) e in
        record {
          bits = ap (λ (z : List ℕ × List ℕ). z.0) p;
          rest = ap (λ (z : List ℕ × List ℕ). z.1) p;
        }

one_label : (n : ℕ) (s l k x y : List ℕ) → IsLabel (forms_of Whole) n l s x → IsLabel (forms_of Whole) n k s y
    → SameLabel l k x y
one_label n s l k x y e f =
    ok_label (read_label (forms_of Whole) n s) l k x y (label_complete Whole n s l x e) (label_complete Whole n s k y f)

edge_cell_alone : (schema : CoreSchema) (e : LaidEdge) → EdgeAlone schema e → (f : LaidEdge) (n : ℕ) (t : Closed)
    (c : Tree) → EdgeCell (SpellsEdge schema e) n t c → EdgeCell (SpellsEdge schema f) n t c → e ≡ f
edge_cell_alone schema e alone f n t c k h =
    let P : Slice → Type 0 = λ z. SpellsEdge schema f n t z nothing in
    alone f n t k.0 nothing nothing k.2 (subst P (cell_same k.0 h.0 c k.1 h.1) h.2)

leaf_alone : (schema : CoreSchema) → IsAcceptable schema → (l : List ℕ) (d : Laid) → Alone schema d
    → EdgeAlone schema (a_leaf l d)
leaf_alone schema ok l d alone (a_leaf k e) n t s a b x y =
    let same = one_label n s.bits l k x.0.bits y.0.bits x.2.label y.2.label in
    let middle : y.0 ≡ x.0 = λ i. record { bits = same.rest i; refs = (sym y.2.refs ∙ x.2.refs) i } in
    let P : Slice → Type 0 = λ z. SpellsLaid schema e (at_type t) z y.1 b in
    let inside = alone_at schema ok d alone e (at_type t) tt x.0 x.1 y.1 a b x.3 (subst P middle y.3) in
    λ i. a_leaf ((sym same.bits) i) (inside i)
leaf_alone schema ok l d alone (a_fork k z f o g) n t s a b x y =
    let same = one_label n s.bits l k x.0.bits b.bits x.2.label y.2 in
    let u = ap length same.bits in
    let v = x.2.long in
    let w = y.1 in
    absurd (omega (arith, u, v, w))

pub record SameTwo (z o y u : Tree) : Type 0 where
  pub first : y ≡ z
  pub second : u ≡ o

two_same : (z o y u : Tree) (ts us : List Tree) → z ∷ (o ∷ ts) ≡ y ∷ (u ∷ us) → SameTwo z o y u
two_same z o y u ts us e = record { first = cc; second = cc }

fork_alone : (schema : CoreSchema) (l : List ℕ) (z : Tree) (p : LaidEdge) (o : Tree) (q : LaidEdge)
    → EdgeAlone schema p → EdgeAlone schema q → EdgeAlone schema (a_fork l z p o q)
fork_alone schema l z p o q left right (a_leaf k e) n t s a b x y =
    let same = one_label n s.bits l k a.bits y.0.bits x.2 y.2.label in
    let u = ap length same.bits in
    let v = y.2.long in
    let w = x.1 in
    absurd (omega (arith, u, v, w))
fork_alone schema l z p o q left right (a_fork k y f u g) n t s a b v w =
    let same = one_label n s.bits l k a.bits b.bits v.2 w.2 in
    let two = two_same z o y u a.refs b.refs (sym v.3 ∙ w.3) in
    let size = ap length same.bits in
    let long = v.1 in
    let other = w.1 in
    let less : w.0 ≡ v.0 = omega (arith, size, long, other) in
    let FM : ℕ → Type 0 = λ m. EdgeCell (SpellsEdge schema f) m t y in
    let FT : Tree → Type 0 = λ c. EdgeCell (SpellsEdge schema f) v.0 t c in
    let GM : ℕ → Type 0 = λ m. EdgeCell (SpellsEdge schema g) m t u in
    let GT : Tree → Type 0 = λ c. EdgeCell (SpellsEdge schema g) v.0 t c in
    let zeros = edge_cell_alone schema p left f v.0 t z v.4 (subst FT two.first (subst FM less w.4)) in
    let ones = edge_cell_alone schema q right g v.0 t o v.5 (subst GT two.second (subst GM less w.5)) in
    λ i. a_fork ((sym same.bits) i) ((sym two.first) i) (zeros i) ((sym two.second) i) (ones i)

-- ---- all values

of_number : (negative : Bool) (size : ℕ) (e : Laid) → (◌≡◌ {A = Plain} (values.number negative size) (plain e))
    → number negative size ≡ e
of_number n k (number m l) h = cc
of_number n k _ h = absurd (cc)

of_string : (bits : List ℕ) (e : Laid) → (◌≡◌ {A = Plain} (values.bit_string bits) (plain e)) → bit_string bits ≡ e
of_string bits (bit_string cs) h = cc
of_string bits _ h = absurd (cc)

of_absent : (e : Laid) → (◌≡◌ {A = Plain} values.absent (plain e)) → absent ≡ e
of_absent absent h = refl
of_absent _ h = absurd (cc)

of_rest : (r : values.Slice) (e : Laid) → (◌≡◌ {A = Plain} (values.rest r) (plain e)) → rest r ≡ e
of_rest r (rest q) h = cc
of_rest r _ h = absurd (cc)

-- of a bit 0 and a bit 1 at most one stands first
not_both : (xs ys zs : List ℕ) → xs ≡ 0 ∷ ys → xs ≡ 1 ∷ zs → ⊥
not_both xs ys zs e f = absurd (let h : 0 ∷ ys ≡ 1 ∷ zs = sym e ∙ f in cc)

record_same : (name other : Option Word) (names others : List Word) (ds es : Laids)
    → (◌≡◌ {A = Plain} (values.record_of name names (plain_all ds)) (values.record_of other others (plain_all es)))
    → ds ≡ es → record_of name names ds ≡ record_of other others es
record_same name other names others ds es h e = cc

mutual
  pub alone : (schema : CoreSchema) → IsAcceptable schema → (d : Laid) → Alone schema d
  alone schema ok (number n k) e c proper s x y a b f h same = of_number n k e same
  alone schema ok (bit_string bits) e c proper s x y a b f h same = of_string bits e same
  alone schema ok absent e c proper s x y a b f h same = of_absent e same
  alone schema ok (rest r) e c proper s x y a b f h same = of_rest r e same
  alone schema ok (list_of ds) (list_of es) (typed (closed.repeat n t)) proper s x y a b f h same =
      ap list_of (repeat_alone schema ok ds (all_alone schema ok ds) es n n refl t s a b f.1 h.1)
  alone schema ok (list_of ds) (list_of es) _ proper s x y a b f h same = absurd f
  alone schema ok (list_of ds) _ c proper s x y a b f h same = absurd (cc)
  alone schema ok (record_of (Some name) names ds) (record_of (Some other) others es) (typed (closed.named w args))
      proper s x y a b f h same =
      record_same (Some name) (Some other) names others ds es same
      (declared_alone schema ok name other names others ds (all_alone schema ok ds) es w args s x y a b f h)
  alone schema ok (record_of (Some name) names ds) (record_of (Some other) others es) _ proper s x y a b f h same =
      absurd f
  alone schema ok (record_of (Some name) names ds) _ c proper s x y a b f h same = absurd (cc)
  alone schema ok (record_of None names ds) (record_of None others es) (fields_here is scope) proper s x y a b f h
      same =
      record_same None None names others ds es same
      (fields_alone schema ok is proper ds (all_alone schema ok ds) es scope s f.2 h.2 a b f.3 h.3)
  alone schema ok (record_of None names ds) (record_of None others es) _ proper s x y a b f h same = absurd f
  alone schema ok (record_of None names ds) _ c proper s x y a b f h same = absurd (cc)
  alone schema ok (ref_to u d) (ref_to v e) (typed (closed.ref t)) proper s x y a b f h same =
      let inside = child_alone schema ok d (alone schema ok d) e (under_ref t) (proper_under t) s a b f.0 h.0 f.2 h.2
      f.3 h.3 in
      let cell = begins_same s u v f.4 h.4 in
      λ i. ref_to (cell i) (inside i)
  alone schema ok (ref_to u d) (ref_to v e) (fields_under is scope) proper s x y a b f h same =
      let inside = child_alone schema ok d (alone schema ok d) e (at_fields is scope) proper s a b f.0 h.0 f.2 h.2
      f.3 h.3 in
      let cell = begins_same s u v f.4 h.4 in
      λ i. ref_to (cell i) (inside i)
  alone schema ok (ref_to u d) (ref_to v e) _ proper s x y a b f h same = absurd f
  alone schema ok (ref_to u d) (ref_to_raw v) (typed (closed.ref closed.whole)) proper s x y a b f h same =
      absurd (never_held schema d f.0 f.3)
  alone schema ok (ref_to u d) (ref_to_raw v) _ proper s x y a b f h same = absurd h
  alone schema ok (ref_to u d) _ c proper s x y a b f h same = absurd (cc)
  alone schema ok (ref_to_raw u) (ref_to_raw v) (typed (closed.ref closed.whole)) proper s x y a b f h same =
      ap ref_to_raw (same_first s a b u v f.1 h.1)
  alone schema ok (ref_to_raw u) (ref_to_raw v) _ proper s x y a b f h same = absurd f
  alone schema ok (ref_to_raw u) (ref_to v e) (typed (closed.ref closed.whole)) proper s x y a b f h same =
      absurd (never_held schema e h.0 h.3)
  alone schema ok (ref_to_raw u) (ref_to v e) _ proper s x y a b f h same = absurd f
  alone schema ok (ref_to_raw u) _ c proper s x y a b f h same = absurd (cc)
  alone schema ok no_map no_map c proper s x y a b f h same = refl
  alone schema ok no_map (map_under v e) (typed (closed.dict_e n t)) proper s x y a b f h same =
      absurd (not_both s.bits a.bits b.bits f.1.bits h.1.bits)
  alone schema ok no_map (map_under v e) _ proper s x y a b f h same = absurd f
  alone schema ok no_map (map_here e) (typed (closed.dict_e n t)) proper s x y a b f h same = absurd h
  alone schema ok no_map (map_here e) _ proper s x y a b f h same = absurd f
  alone schema ok no_map _ c proper s x y a b f h same = absurd (cc)
  alone schema ok (map_under u d) no_map (typed (closed.dict_e n t)) proper s x y a b f h same =
      absurd (not_both s.bits b.bits a.bits h.1.bits f.1.bits)
  alone schema ok (map_under u d) no_map _ proper s x y a b f h same = absurd f
  alone schema ok (map_under u d) (map_under v e) (typed (closed.dict_e n t)) proper s x y a b f h same =
      let cell : v ≡ u = head_same b.refs a.refs v u (sym h.1.refs ∙ f.1.refs) in
      let P : Tree → Type 0 = λ c. EdgeCell (SpellsEdge schema e) n t c in
      let inside = edge_cell_alone schema d (edge_alone schema ok d) e n t u f.2 (subst P cell h.2) in
      λ i. map_under ((sym cell) i) (inside i)
  alone schema ok (map_under u d) (map_under v e) _ proper s x y a b f h same = absurd f
  alone schema ok (map_under u d) (map_here e) (typed (closed.dict_e n t)) proper s x y a b f h same = absurd h
  alone schema ok (map_under u d) (map_here e) _ proper s x y a b f h same = absurd f
  alone schema ok (map_under u d) _ c proper s x y a b f h same = absurd (cc)
  alone schema ok (map_here d) (map_here e) (typed (closed.dict n t)) proper s x y a b f h same =
      ap map_here (edge_alone schema ok d e n t s a b f.1 h.1)
  alone schema ok (map_here d) (map_here e) _ proper s x y a b f h same = absurd f
  alone schema ok (map_here d) no_map (typed (closed.dict n t)) proper s x y a b f h same = absurd h
  alone schema ok (map_here d) no_map _ proper s x y a b f h same = absurd f
  alone schema ok (map_here d) (map_under v e) (typed (closed.dict n t)) proper s x y a b f h same = absurd h
  alone schema ok (map_here d) (map_under v e) _ proper s x y a b f h same = absurd f
  alone schema ok (map_here d) _ c proper s x y a b f h same = absurd (cc)

  all_alone : (schema : CoreSchema) → IsAcceptable schema → (ds : Laids) → AllAlone schema ds
  all_alone schema ok no_laids = tt
  all_alone schema ok (a_laid d ds) = (alone schema ok d, all_alone schema ok ds)

  edge_alone : (schema : CoreSchema) → IsAcceptable schema → (e : LaidEdge) → EdgeAlone schema e
  edge_alone schema ok (a_leaf l d) = leaf_alone schema ok l d (alone schema ok d)
  edge_alone schema ok (a_fork l z a o b) =
      fork_alone schema l z a o b (edge_alone schema ok a) (edge_alone schema ok b)

-- ---- the root

pub one_laid : (schema : CoreSchema) → IsAcceptable schema → (t : Closed) (c : Tree) (r q : LaidRoot)
    → IsLaidRoot schema t c r → IsLaidRoot schema t c q → r ≡ q
one_laid schema ok t c (as_it_is x) (as_it_is y) f h = ap as_it_is (f.1 ∙ sym h.1)
one_laid schema ok t c (as_it_is x) (laid d) f h =
    let P : Goal → Type 0 = λ g. Holds Whole (SpellsLaid schema d) g c in
    absurd (never_held schema d c (subst P f.0 h))
one_laid schema ok t c (laid d) (as_it_is y) f h =
    let P : Goal → Type 0 = λ g. Holds Whole (SpellsLaid schema d) g c in
    absurd (never_held schema d c (subst P h.0 f))
one_laid schema ok t c (laid d) (laid e) f h =
    ap laid (holds_alone schema ok d (alone schema ok d) e (under_ref t) (proper_under t) c f h)

pub one_laid_reading : OneLaid
one_laid_reading schema ok t c r q f h = one_laid schema ok t c r q f.lies h.lies
