-- A content has one list of entries, and entries have one content.
use Rattle.std.proofs.Common.{◌≡◌, ℕ, suc, ◌+◌, true, false, cond, List, [], ◌∷◌, ◌++◌, length, Option, Some, None, Ok, refl, sym, ap, ◌∙◌, subst, arith, nat_eq, length-append}
use Rattle.std.proofs.lemmas.List.{append-nil}
use Rattle.std.proofs.lemmas.Bool.{eq-eqb}
use Rattle.cell_nodes.specs.Good.{IsGood, good, AllGood, more}
use Rattle.cell_nodes.specs.declared.tree.Hidden.{Hidden}
use Rattle.cell_nodes.specs.declared.tree.Mode.{Mode}
use Rattle.cell_nodes.specs.declared.tree.Tree.{Tree}
use Rattle.hashmap_labels.specs.Labels.{IsLabel}
use Rattle.hashmap_labels.specs.SpellingLaws.{one_spelling}
use Rattle.hashmap_labels.specs.declared.forms.Forms.{Forms}
use Rattle.hashmap_labels.specs.declared.forms.Forms.TheVariants.{Required}
use Rattle.hashmap_tree.specs.CellLaws.{content-cell_of}
use Rattle.hashmap_tree.specs.CompleteLaws.{walk_complete}
use Rattle.hashmap_tree.specs.Dict.{forms_of, DictTree, one, two, Branch, open_edge, hidden_edge}
use Rattle.hashmap_tree.specs.Entries.{Slice, content, cell_of, Part, leaf, hidden, Entries, under, fork}
use Rattle.hashmap_tree.specs.HiddenLaws.{hidden_once}
use Rattle.hashmap_tree.specs.StepLaws.{ok_one}

-- ---- one list of entries, in each mode

pub entries_once : (mode : Mode) (n : ℕ) (es fs : Entries) (s : Slice) → DictTree mode n es s → DictTree mode n fs s
    → es ≡ fs
entries_once mode n es fs s a b =
    ok_one es fs (Ok es) (sym (walk_complete (n + 1) mode n es s (omega arith) a) ∙ walk_complete (n + 1) mode n fs s (omega arith) b)

-- ---- one content

same_head : (a : ℕ) → nat_eq a a ≡ true
same_head a = eq-eqb a a refl

-- the longest common prefix of two keys
common : List ℕ → List ℕ → List ℕ
common [] b = []
common (x ∷ a) [] = []
common (x ∷ a) (y ∷ b) = cond (nat_eq x y) (x ∷ common a b) []

common-fork : (p a b : List ℕ) → common (p ++ 0 ∷ [] ++ a) (p ++ 1 ∷ [] ++ b) ≡ p
unfolding common
common-fork [] a b = refl
common-fork (x ∷ p) a b = ap (λ t. cond t (x ∷ common (p ++ 0 ∷ [] ++ a) (p ++ 1 ∷ [] ++ b)) []) (same_head x) ∙ ap (λ l. x ∷ l) (common-fork p a b)

first_key : Entries → List ℕ
first_key [] = []
first_key (e ∷ es) = e.0

last_key : List ℕ → Entries → List ℕ
last_key k [] = k
last_key k (e ∷ es) = last_key e.0 es

-- a key without this prefix
without : List ℕ → List ℕ → Option (List ℕ)
without [] k = Some k
without (x ∷ p) [] = None
without (x ∷ p) (y ∷ k) = cond (nat_eq x y) (without p k) None

kept : Option (List ℕ) → Part → Entries → Entries
kept None c es = es
kept (Some k) c es = (k, c) ∷ es

-- those whose key has this prefix, without it
pub side : List ℕ → Entries → Entries
side p [] = []
side p (e ∷ es) = kept (without p e.0) e.1 (side p es)

without-prefix : (p k : List ℕ) → without p (p ++ k) ≡ Some k
unfolding without
without-prefix [] k = refl
without-prefix (x ∷ p) k = ap (λ t. cond t (without p (p ++ k)) None) (same_head x) ∙ without-prefix p k

without-other : (p : List ℕ) (a b : ℕ) (k : List ℕ) → nat_eq a b ≡ false
    → without (p ++ a ∷ []) (p ++ b ∷ [] ++ k) ≡ None
unfolding without
without-other [] a b k h = ap (λ t. cond t (Some k) None) h
without-other (x ∷ p) a b k h = ap (λ t. cond t (without (p ++ a ∷ []) (p ++ b ∷ [] ++ k)) None) (same_head x) ∙ without-other p a b k h

side-same : (p : List ℕ) (es rest : Entries) → side p (under p es ++ rest) ≡ es ++ side p rest
unfolding side kept
side-same p [] rest = refl
side-same p (e ∷ es) rest = (λ i. kept (without-prefix p e.0 i) e.1 (side-same p es rest i))

side-other : (p : List ℕ) (a b : ℕ) (es rest : Entries) → nat_eq a b ≡ false
    → side (p ++ a ∷ []) (under (p ++ b ∷ []) es ++ rest) ≡ side (p ++ a ∷ []) rest
unfolding side kept
side-other p a b [] rest h = refl
side-other p a b (e ∷ es) rest h = (λ i. kept (without-other p a b e.0 h i) e.1 (side-other p a b es rest h i))

pub side-zero : (p : List ℕ) (zs os : Entries) → side (p ++ 0 ∷ []) (fork p zs os) ≡ zs
unfolding side
side-zero p zs os =
    side-same (p ++ 0 ∷ []) zs (under (p ++ 1 ∷ []) os)
    ∙ ap (λ l. zs ++ l) (ap (side (p ++ 0 ∷ [])) (sym (append-nil (under (p ++ 1 ∷ []) os))) ∙ side-other p 0 1 os [] refl ∙ nil (p ++ 0 ∷ [])) ∙ append-nil zs
  where
    nil : (p : List ℕ) → side p [] ≡ []
    nil p = refl

pub side-one : (p : List ℕ) (zs os : Entries) → side (p ++ 1 ∷ []) (fork p zs os) ≡ os
unfolding side
side-one p zs os =
    side-other p 1 0 zs (under (p ++ 1 ∷ []) os) refl
    ∙ ap (side (p ++ 1 ∷ [])) (sym (append-nil (under (p ++ 1 ∷ []) os))) ∙ side-same (p ++ 1 ∷ []) os [] ∙ ap (λ l. os ++ l) (nil (p ++ 1 ∷ [])) ∙ append-nil os
  where
    nil : (p : List ℕ) → side p [] ≡ []
    nil p = refl

-- there is an entry
abbrev pub Some_entry : Entries → Type 0
Some_entry es = (e : List ℕ × Part) × (fs : Entries) × (es ≡ e ∷ fs)

last-append : (k : List ℕ) (ds : Entries) (q : List ℕ) (e : List ℕ × Part) (es : Entries)
    → (r : List ℕ) × (last_key k (ds ++ under q (e ∷ es)) ≡ q ++ r)
unfolding last_key
last-append k [] q e [] = (e.0, refl)
last-append k [] q e (f ∷ es) = last-append (q ++ e.0) [] q f es
last-append k (d ∷ ds) q e es = last-append d.0 ds q e es

-- the label of a fork, from its entries
pub label_of : Entries → List ℕ
label_of es = common (first_key es) (last_key [] es)

pub fork-label : (p : List ℕ) (zs os : Entries) → Some_entry zs → Some_entry os → label_of (fork p zs os) ≡ p
unfolding label_of first_key
fork-label p zs os z o =
    let shape : fork p zs os ≡ fork p (z.0 ∷ z.1) (o.0 ∷ o.1) = λ i. fork p (z.2 i) (o.2 i) in
    let l = last-append [] (under (p ++ 0 ∷ []) (z.0 ∷ z.1)) (p ++ 1 ∷ []) o.0 o.1 in
    ap (λ es. common (first_key es) (last_key [] es)) shape ∙ ap (common (p ++ 0 ∷ [] ++ z.0.0)) l.1 ∙ common-fork p z.0.0 l.0

mutual
  pub some_entry : (mode : Mode) (n : ℕ) (es : Entries) (s : Slice) → DictTree mode n es s → Some_entry es
  some_entry mode n es s (one _ _ _ _ k c same len l r) = ((k, leaf c), [], same)
  some_entry mode n es s (two _ _ _ _ p m zs os z o same len l r dz do_) =
      let k = some_below mode m zs z dz in
      ((p ++ 0 ∷ [] ++ k.0.0, k.0.1), under (p ++ 0 ∷ []) k.1 ++ under (p ++ 1 ∷ []) os, same ∙ ap (λ zs. fork p zs os) k.2)

  pub some_below : (mode : Mode) (m : ℕ) (es : Entries) (t : Tree) → Branch mode m es t → Some_entry es
  some_below mode m es t (open_edge _ _ _ _ s same d) = some_entry mode m es s d
  some_below mode m es t (hidden_edge _ _ _ _ h u same) = (_, [], same)

-- the parts of a fork, from its entries
pub record SameFork (p : List ℕ) (m : ℕ) (zs os : Entries) (p2 : List ℕ) (m2 : ℕ) (zs2 os2 : Entries) : Type 0 where
  pub label : p ≡ p2
  pub less : m ≡ m2
  pub zeros : zs ≡ zs2
  pub ones : os ≡ os2

pub same-fork : (n : ℕ) (p : List ℕ) (m : ℕ) (zs os : Entries) (p2 : List ℕ) (m2 : ℕ) (zs2 os2 : Entries)
    → Some_entry zs → Some_entry os → Some_entry zs2 → Some_entry os2 → n ≡ length p + suc m → n ≡ length p2 + suc m2
    → fork p zs os ≡ fork p2 zs2 os2 → SameFork p m zs os p2 m2 zs2 os2
same-fork n p m zs os p2 m2 zs2 os2 sz so sz2 so2 len len2 e =
    let label : p ≡ p2 = sym (fork-label p zs os sz so) ∙ ap label_of e ∙ fork-label p2 zs2 os2 sz2 so2 in
    let longs : length p ≡ length p2 = ap length label in record {
      label = label;
      less = omega (arith, len, len2, longs);
      zeros = sym (side-zero p zs os) ∙ (λ i. side (label i ++ 0 ∷ []) (e i)) ∙ side-zero p2 zs2 os2;
      ones = sym (side-one p zs os) ∙ (λ i. side (label i ++ 1 ∷ []) (e i)) ∙ side-one p2 zs2 os2;
    }

-- a fork has two entries
pub two_entries : (p : List ℕ) (zs os : Entries) (e : List ℕ × Part) → Some_entry zs → Some_entry os
    → fork p zs os ≡ e ∷ [] → ⊥
two_entries p zs os e z o h =
    let shape : fork p zs os ≡ fork p (z.0 ∷ z.1) (o.0 ∷ o.1) = λ i. fork p (z.2 i) (o.2 i) in
    let l : length (fork p (z.0 ∷ z.1) (o.0 ∷ o.1)) ≡ 1 = ap length (sym shape ∙ h) in
    let m = length-append (under (p ++ 0 ∷ []) z.1) (under (p ++ 1 ∷ []) (o.0 ∷ o.1)) in
    omega (arith, l, m)

held : Slice → Part → Slice
held d (leaf c) = c
held d (hidden h) = d

first_held : Slice → Entries → Slice
first_held d [] = d
first_held d (e ∷ es) = held d e.1

pub parts : (k k2 : List ℕ) (c c2 : Slice) → (◌≡◌ {A = Entries} ((k, leaf c) ∷ []) ((k2, leaf c2) ∷ []))
    → (k ≡ k2) × (c ≡ c2)
unfolding first_key first_held held
parts k k2 c c2 e = (ap first_key e, ap (first_held c) e)

concealed : Part → Option Hidden
concealed (leaf c) = None
concealed (hidden h) = Some h

first_concealed : Entries → Option Hidden
first_concealed [] = None
first_concealed (e ∷ es) = concealed e.1

-- a hidden part alone has no content
pub hidden-no_tree : (mode : Mode) (m : ℕ) (es : Entries) (s : Slice) (h : Hidden) → es ≡ ([], hidden h) ∷ []
    → DictTree mode m es s → ⊥
unfolding first_concealed concealed
hidden-no_tree mode m es s h e (one _ _ _ _ k c same len l r) = let f = ap first_concealed (sym same ∙ e) in cc
hidden-no_tree mode m es s h e (two _ _ _ _ p k zs os z o same len l r dz do_) =
    two_entries p zs os ([], hidden h) (some_below mode k zs z dz) (some_below mode k os o do_) (sym same ∙ e)

pub same-hidden : (h k : Hidden) → (◌≡◌ {A = Entries} (([], hidden h) ∷ []) (([], hidden k) ∷ []))
    → (◌≡◌ {A = Option Hidden} (Some h) (Some k))
unfolding first_concealed concealed
same-hidden h k e = ap first_concealed e

good-content : (c : Tree) (s : Slice) → c ≡ cell_of s → IsGood c → AllGood s.refs
good-content c s same (good _ w all) =
    let P : Slice → Type 0 = λ t. AllGood t.refs in
    subst P (ap content same ∙ content-cell_of s) all

pub good-both : (refs : List Tree) (z o : Tree) → refs ≡ z ∷ (o ∷ []) → AllGood refs → IsGood z × IsGood o
good-both refs z o e g = let P : List Tree → Type 0 = λ ts. AllGood ts in go (subst P e g)
  where
    last : AllGood (o ∷ []) → IsGood o
    last (more _ _ a rest) = a

    go : AllGood (z ∷ (o ∷ [])) → IsGood z × IsGood o
    go (more _ _ a rest) = (a, last rest)

label_once : (mode : Mode) → forms_of mode ≡ Required → (n : ℕ) (bits s t rest : List ℕ)
    → IsLabel (forms_of mode) n bits s rest → IsLabel (forms_of mode) n bits t rest → s ≡ t
label_once mode w n bits s t rest a b =
    let P : List ℕ → Forms → Type 0 = λ x f. IsLabel f n bits x rest in
    one_spelling n bits s t rest (subst (P s) w a) (subst (P t) w b)

mutual
  pub tree_once : (mode : Mode) → forms_of mode ≡ Required → (n : ℕ) (es : Entries) (s t : Slice) → AllGood s.refs
      → AllGood t.refs → DictTree mode n es s → DictTree mode n es t → s ≡ t
  tree_once mode w n es s t gs gt (one _ _ _ _ k c same len l r) (one _ _ _ _ k2 c2 same2 len2 l2 r2) =
      let e : (◌≡◌ {A = Entries} ((k, leaf c) ∷ []) ((k2, leaf c2) ∷ [])) = sym same ∙ same2 in
      let q = parts k k2 c c2 e in
      let P : List ℕ → Type 0 = λ k. IsLabel (forms_of mode) n k s.bits c.bits in
      let Q : Slice → Type 0 = λ c. IsLabel (forms_of mode) n k2 s.bits c.bits in
      let bits : s.bits ≡ t.bits = label_once mode w n k2 s.bits t.bits c2.bits (subst Q q.1 (subst P q.0 l)) l2 in
      let refs : s.refs ≡ t.refs = r ∙ ap (λ (c : Slice). c.refs) q.1 ∙ sym r2 in
      λ i. record { bits = bits i; refs = refs i }
  tree_once mode w n es s t gs gt (one _ _ _ _ k c same len l r) (two _ _ _ _ p m zs os z o same2 len2 l2 r2 dz do_) =
      absurd (two_entries p zs os (k, leaf c) (some_below mode m zs z dz) (some_below mode m os o do_) (sym same2 ∙ same))
  tree_once mode w n es s t gs gt (two _ _ _ _ p m zs os z o same2 len2 l2 r2 dz do_) (one _ _ _ _ k c same len l r) =
      absurd (two_entries p zs os (k, leaf c) (some_below mode m zs z dz) (some_below mode m os o do_) (sym same2 ∙ same))
  tree_once mode w n es s t gs gt (two _ _ _ _ p m zs os z o same len l r dz do_) (two _ _ _ _ p2 m2 zs2 os2 z2 o2 same2 len2 l2 r2 dz2 do2) =
      let e : fork p zs os ≡ fork p2 zs2 os2 = sym same ∙ same2 in
      let f = same-fork n p m zs os p2 m2 zs2 os2 (some_below mode m zs z dz) (some_below mode m os o do_) (some_below mode m2 zs2 z2 dz2) (some_below mode m2 os2 o2 do2) len len2 e in
      let label : p ≡ p2 = f.label in
      let zeros : zs ≡ zs2 = f.zeros in
      let ones : os ≡ os2 = f.ones in
      let deep : m ≡ m2 = f.less in
      let P : ℕ → Type 0 = λ m. Branch mode m zs2 z2 in
      let Q : Entries → Type 0 = λ es. Branch mode m es z2 in
      let R : ℕ → Type 0 = λ m. Branch mode m os2 o2 in
      let S : Entries → Type 0 = λ es. Branch mode m es o2 in
      let g = good-both s.refs z o r gs in
      let h = good-both t.refs z2 o2 r2 gt in
      let left : z ≡ z2 = branch_once mode w m zs z z2 g.0 h.0 dz (subst Q (sym zeros) (subst P (sym deep) dz2)) in
      let right : o ≡ o2 = branch_once mode w m os o o2 g.1 h.1 do_ (subst S (sym ones) (subst R (sym deep) do2)) in
      let T : List ℕ → Type 0 = λ p. IsLabel (forms_of mode) n p s.bits [] in
      let bits : s.bits ≡ t.bits = label_once mode w n p2 s.bits t.bits [] (subst T label l) l2 in
      let refs : s.refs ≡ t.refs = r ∙ (λ i. left i ∷ (right i ∷ [])) ∙ sym r2 in
      λ i. record { bits = bits i; refs = refs i }

  pub branch_once : (mode : Mode) → forms_of mode ≡ Required → (m : ℕ) (es : Entries) (t u : Tree) → IsGood t
      → IsGood u → Branch mode m es t → Branch mode m es u → t ≡ u
  branch_once mode w m es t u gt gu (open_edge _ _ _ _ s same d) (open_edge _ _ _ _ s2 same2 d2) =
      same ∙ ap cell_of (tree_once mode w m es s s2 (good-content t s same gt) (good-content u s2 same2 gu) d d2) ∙ sym same2
  branch_once mode w m es t u gt gu (hidden_edge _ _ _ _ h un same) (open_edge _ _ _ _ s2 same2 d2) = absurd (hidden-no_tree mode m es s2 h same d2)
  branch_once mode w m es t u gt gu (open_edge _ _ _ _ s same d) (hidden_edge _ _ _ _ h un same2) = absurd (hidden-no_tree mode m es s h same2 d)
  branch_once mode w m es t u gt gu (hidden_edge _ _ _ _ h un same) (hidden_edge _ _ _ _ k un2 same2) =
      hidden_once mode t u h gt gu un (un2 ∙ sym (same-hidden h k (sym same ∙ same2)))
