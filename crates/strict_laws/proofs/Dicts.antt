-- A dictionary's tree in mode Lax, with its labels in their required forms and its contents no longer.
use Rattle.std.proofs.Common.{◌≡◌, inr, ℕ, suc, ◌+◌, ◌<◌, List, [], ◌∷◌, ◌++◌, length, refl, sym, ap, ◌∙◌, subst, arith}
use Rattle.cell_nodes.specs.Good.{IsGood, AllGood}
use Rattle.cell_nodes.specs.GoodParts.{all_good-head, all_good-tail}
use Rattle.cell_nodes.specs.declared.tree.Mode.TheVariants.{Whole, Lax}
use Rattle.cell_nodes.specs.declared.tree.Tree.{Tree}
use Rattle.hashmap_labels.specs.Labels.{IsLabel}
use Rattle.hashmap_labels.specs.declared.forms.Forms.TheVariants.{Every}
use Rattle.hashmap_tree.specs.Dict.{DictTree, one, two, Branch, open_edge, hidden_edge}
use Rattle.hashmap_tree.specs.Entries.{Slice, cell_of, Part, leaf, hidden, Entries, under, fork}
use Rattle.hashmap_tree.specs.First.{LeafEdge, Fork, forked}
use Rattle.hashmap_tree.specs.OnceLaws.{good-both}
use Rattle.strict_laws.proofs.Less.{Less, AllLess, Fine, Shorter, less_cell, good_fine}
use Rattle.strict_laws.proofs.Labels.{relabel, label_parts}
use Rattle.strict_laws.proofs.Steps.{MovesAlike, Stretch, Tightened}

-- ---- entries with the same keys whose contents are no longer

abbrev pub PartLess : Part → Part → Type 0
PartLess (leaf c) (leaf d) = Shorter c d
PartLess (leaf c) (hidden h) = ⊥
PartLess (hidden g) (leaf d) = ⊥
PartLess (hidden g) (hidden h) = g ≡ h

abbrev pub EntriesLess : Entries → Entries → Type 0
EntriesLess [] [] = Unit {0}
EntriesLess [] (e ∷ es) = ⊥
EntriesLess (u ∷ us) [] = ⊥
EntriesLess (u ∷ us) (e ∷ es) = (u.0 ≡ e.0) × PartLess u.1 e.1 × EntriesLess us es

-- contents of bits and good trees, and no hidden parts
abbrev pub PartFine : Part → Type 0
PartFine (leaf c) = Fine c
PartFine (hidden h) = ⊥

abbrev pub AllFine : Entries → Type 0
AllFine [] = Unit {0}
AllFine (e ∷ es) = PartFine e.1 × AllFine es

fine_under : (p : List ℕ) (es : Entries) → AllFine es → AllFine (under p es)
fine_under p [] h = tt
fine_under p (e ∷ es) h = (h.0, fine_under p es h.1)

fine_append : (ds es : Entries) → AllFine ds → AllFine es → AllFine (ds ++ es)
fine_append [] es h k = k
fine_append (d ∷ ds) es h k = (h.0, fine_append ds es h.1 k)

fine_fork : (p : List ℕ) (zs os : Entries) → AllFine zs → AllFine os → AllFine (fork p zs os)
fine_fork p zs os h k =
    let zeros = fine_under (p ++ 0 ∷ []) zs h in
    let ones = fine_under (p ++ 1 ∷ []) os k in
    fine_append (under (p ++ 0 ∷ []) zs) (under (p ++ 1 ∷ []) os) zeros ones

-- ---- taken apart

-- one leaf
less_one : (us : Entries) (k : List ℕ) (c : Slice) → EntriesLess us ((k, leaf c) ∷ [])
    → (d : Slice) × (us ≡ (k, leaf d) ∷ []) × Shorter d c
less_one [] k c h = absurd h
less_one ((j, leaf d) ∷ []) k c h = (d, ap (λ (z : List ℕ). (let l : Entries = (z, leaf d) ∷ [] in l)) h.0, h.1)
less_one ((j, hidden g) ∷ []) k c h = absurd h.1
less_one (u ∷ v ∷ us) k c h = absurd h.2

-- entries under bits
less_under : (p : List ℕ) (us es : Entries) → EntriesLess us (under p es)
    → (ws : Entries) × (us ≡ under p ws) × EntriesLess ws es
less_under p [] [] h = ([], refl, tt)
less_under p [] (e ∷ es) h = absurd h
less_under p (u ∷ us) [] h = absurd h
less_under p (u ∷ us) (e ∷ es) h =
    let r = less_under p us es h.2 in
    ((e.0, u.1) ∷ r.0, (λ i. (h.0 i, u.1) ∷ r.1 i), (refl, h.1, r.2))

-- two lists
less_append : (us ds es : Entries) → EntriesLess us (ds ++ es)
    → (vs : Entries) × (ws : Entries) × (us ≡ vs ++ ws) × EntriesLess vs ds × EntriesLess ws es
less_append us [] es h = ([], us, refl, tt, h)
less_append [] (d ∷ ds) es h = absurd h
less_append (u ∷ us) (d ∷ ds) es h =
    let r = less_append us ds es h.2 in
    (u ∷ r.0, r.1, ap (λ (l : Entries). u ∷ l) r.2, (h.0, h.1, r.3), r.4)

-- the two parts of a fork
pub record ForkLess (p : List ℕ) (us zs os : Entries) : Type 0 where
  pub zeros : Entries
  pub ones : Entries
  pub same : us ≡ fork p zeros ones
  pub less_zeros : EntriesLess zeros zs
  pub less_ones : EntriesLess ones os

less_fork : (p : List ℕ) (us zs os : Entries) → EntriesLess us (fork p zs os) → ForkLess p us zs os
less_fork p us zs os h =
    let r = less_append us (under (p ++ 0 ∷ []) zs) (under (p ++ 1 ∷ []) os) h in
    let z = less_under (p ++ 0 ∷ []) r.0 zs r.3 in
    let o = less_under (p ++ 1 ∷ []) r.1 os r.4 in record {
      zeros = z.0;
      ones = o.0;
      same = r.2 ∙ (λ i. z.1 i ++ o.1 i);
      less_zeros = z.2;
      less_ones = o.2;
    }

-- ---- the contents of leaves are fine

cell_fine : (c : Tree) (s : Slice) → c ≡ cell_of s → IsGood c → Fine s
cell_fine c s e g = let P : Tree → Type 0 = λ t. IsGood t in good_fine s (subst P e g)

after_label : (n : ℕ) (l : List ℕ) (s c : Slice) → IsLabel Every n l s.bits c.bits → s.refs ≡ c.refs → Fine s → Fine c
after_label n l s c label refs fine =
    let R : List Tree → Type 0 = λ ts. AllGood ts in record {
      bits = (label_parts n l s.bits c.bits label fine.bits).1;
      refs = subst R refs fine.refs;
    }

mutual
  pub tree_fine : (n : ℕ) (es : Entries) (s : Slice) → DictTree Lax n es s → Fine s → AllFine es
  tree_fine n es s (one _ _ _ _ k c same long label refs) fine =
      let P : Entries → Type 0 = λ l. AllFine l in
      subst P (sym same) (after_label n k s c label refs fine, tt)
  tree_fine n es s (two _ _ _ _ p m zs os z o same long label refs dz do_) fine =
      let P : Entries → Type 0 = λ l. AllFine l in
      let g = good-both s.refs z o refs fine.refs in
      subst P (sym same) (fine_fork p zs os (branch_fine m zs z dz g.0) (branch_fine m os o do_ g.1))

  pub branch_fine : (n : ℕ) (es : Entries) (c : Tree) → Branch Lax n es c → IsGood c → AllFine es
  branch_fine n es c (open_edge _ _ _ _ s same d) g = tree_fine n es s d (cell_fine c s same g)
  branch_fine n es c (hidden_edge _ _ _ _ h u same) g = cc

-- ---- with required labels

-- an edge of such entries that is no longer
abbrev pub Shortened : ℕ → Entries → Slice → Type 0
Shortened n us s = (t : Slice) × DictTree Whole n us t × Shorter t s

abbrev pub ShortenedCell : ℕ → Entries → Tree → Type 0
ShortenedCell n us c = (d : Tree) × Branch Whole n us d × Less d c

less_of : (c : Tree) (s t : Slice) → c ≡ cell_of s → IsGood c → Shorter t s → Less (cell_of t) c
less_of c s t e g h =
    let P : Tree → Type 0 = λ x. IsGood x in
    let L : Tree → Type 0 = λ x. Less (cell_of t) x in
    subst L (sym e) (less_cell t s (subst P e g) h)

shorten_leaf : (n : ℕ) (us : Entries) (s c d : Slice) (k : List ℕ) → us ≡ (k, leaf d) ∷ [] → length k ≡ n
    → IsLabel Every n k s.bits c.bits → s.refs ≡ c.refs → Fine s → Shorter d c → Shortened n us s
shorten_leaf n us s c d k same long label refs fine h =
    let r = relabel n k s.bits c.bits d.bits label fine.bits h.bits h.short in
    let t : Slice = record { bits = r.start; refs = d.refs } in
    let R : List Tree → Type 0 = λ ts. AllLess d.refs ts in (
      t,
      one Whole n us t k d same long r.label refl,
      record { bits = r.bits; short = r.short; refs = subst R (sym refs) h.refs },
    )

shorten_fork : (n : ℕ) (us : Entries) (s : Slice) (p : List ℕ) (m : ℕ) (vs ws : Entries) (z o : Tree)
    → us ≡ fork p vs ws → n ≡ length p + suc m → IsLabel Every n p s.bits [] → s.refs ≡ z ∷ (o ∷ []) → Fine s
    → ShortenedCell m vs z → ShortenedCell m ws o → Shortened n us s
shorten_fork n us s p m vs ws z o same long label refs fine a b =
    let r = relabel n p s.bits [] [] label fine.bits tt (omega arith) in
    let t : Slice = record { bits = r.start; refs = a.0 ∷ (b.0 ∷ []) } in
    let R : List Tree → Type 0 = λ ts. AllLess (a.0 ∷ (b.0 ∷ [])) ts in
    let both : AllLess (a.0 ∷ (b.0 ∷ [])) (z ∷ (o ∷ [])) = (a.2, (b.2, tt)) in (
      t,
      two Whole n us t p m vs ws a.0 b.0 same long r.label refl a.1 b.1,
      record { bits = r.bits; short = r.short; refs = subst R (sym refs) both },
    )

mutual
  pub shorten : (n : ℕ) (es : Entries) (s : Slice) → DictTree Lax n es s → Fine s → (us : Entries)
      → EntriesLess us es → Shortened n us s
  shorten n es s (one _ _ _ _ k c same long label refs) fine us less =
      let P : Entries → Type 0 = λ l. EntriesLess us l in
      let h = less_one us k c (subst P same less) in
      shorten_leaf n us s c h.0 k h.1 long label refs fine h.2
  shorten n es s (two _ _ _ _ p m zs os z o same long label refs dz do_) fine us less =
      let P : Entries → Type 0 = λ l. EntriesLess us l in
      let f = less_fork p us zs os (subst P same less) in
      let g = good-both s.refs z o refs fine.refs in
      shorten_fork n us s p m f.zeros f.ones z o f.same long label refs fine
      (shorten_cell m zs z dz g.0 f.zeros f.less_zeros) (shorten_cell m os o do_ g.1 f.ones f.less_ones)

  pub shorten_cell : (n : ℕ) (es : Entries) (c : Tree) → Branch Lax n es c → IsGood c → (us : Entries)
      → EntriesLess us es → ShortenedCell n us c
  shorten_cell n es c (open_edge _ _ _ _ s same d) g us less =
      let r = shorten n es s d (cell_fine c s same g) us less in
      (cell_of r.0, open_edge Whole n us (cell_of r.0) r.0 refl r.1, less_of c s r.0 same g r.2)
  shorten_cell n es c (hidden_edge _ _ _ _ h u same) g us less = cc

-- ---- the first edge in place

pub leaf_tightened : (n : ℕ) (k : List ℕ) (before middle : Slice) → LeafEdge Lax n k before middle → Fine before
    → Tightened (λ b a. LeafEdge Whole n k b a) before middle
leaf_tightened n k before middle e fine = record {
  fine = after_label n k before middle e.label e.refs fine;
  strict = λ end h.
      let r = relabel n k before.bits middle.bits end.bits e.label fine.bits h.bits h.short in
      let R : List Tree → Type 0 = λ ts. AllLess end.refs ts in
      let refs = ap (length {A = Tree}) e.refs in
      let a = r.takes in
      let b = r.takes_now in record {
        start = record { bits = r.start; refs = end.refs };
        spelled = record { long = e.long; label = r.label; refs = refl };
        shorter = record { bits = r.bits; short = r.short; refs = subst R (sym e.refs) h.refs };
        alike = inr (omega (arith, a, refs), omega (arith, b));
      };
}

-- what a fork leaves, and its contents
pub fork_fine : (n : ℕ) (es : Entries) (before after : Slice) → Fork Lax n es before after → Fine before
    → AllFine es × Fine after
fork_fine n es before after (forked p m zs os z o same long label refs dz do_) fine =
    let P : Entries → Type 0 = λ l. AllFine l in
    let R : List Tree → Type 0 = λ ts. AllGood ts in
    let g : AllGood (z ∷ (o ∷ after.refs)) = subst R refs fine.refs in
    let gz = all_good-head z (o ∷ after.refs) g in
    let t = all_good-tail z (o ∷ after.refs) g in
    let go = all_good-head o after.refs t in (
      subst P (sym same) (fine_fork p zs os (branch_fine m zs z dz gz) (branch_fine m os o do_ go)),
      record {
        bits = (label_parts n p before.bits after.bits label fine.bits).1;
        refs = all_good-tail o after.refs t;
      },
    )

fork_moves : (before after start end : Slice) (z o x y : Tree) → before.refs ≡ z ∷ (o ∷ after.refs)
    → start.refs ≡ x ∷ (y ∷ end.refs) → length after.bits < length before.bits → length end.bits < length start.bits
    → MovesAlike before after start end
fork_moves before after start end z o x y e f a b =
    let r = ap (length {A = Tree}) e in
    let s = ap (length {A = Tree}) f in
    inr (omega (arith, r, a), omega (arith, s, b))

pub fork_tightened : (n : ℕ) (es us : Entries) (before after : Slice) → Fork Lax n es before after → Fine before
    → EntriesLess us es → Tightened (λ b a. Fork Whole n us b a) before after
fork_tightened n es us before after e fine less = record {
  fine = (fork_fine n es before after e fine).1;
  strict = go e;
}
  where
    go : Fork Lax n es before after → (end : Slice) → Shorter end after
        → Stretch (λ b a. Fork Whole n us b a) before after end
    go (forked p m zs os z o same long label refs dz do_) end h =
        let P : Entries → Type 0 = λ l. EntriesLess us l in
        let R : List Tree → Type 0 = λ ts. AllGood ts in
        let f = less_fork p us zs os (subst P same less) in
        let g : AllGood (z ∷ (o ∷ after.refs)) = subst R refs fine.refs in
        let gz = all_good-head z (o ∷ after.refs) g in
        let t = all_good-tail z (o ∷ after.refs) g in
        let gone = all_good-head o after.refs t in
        let a = shorten_cell m zs z dz gz f.zeros f.less_zeros in
        let b = shorten_cell m os o do_ gone f.ones f.less_ones in
        let r = relabel n p before.bits after.bits end.bits label fine.bits h.bits h.short in
        let start : Slice = record { bits = r.start; refs = a.0 ∷ (b.0 ∷ end.refs) } in
        let L : List Tree → Type 0 = λ ts. AllLess start.refs ts in
        let both : AllLess start.refs (z ∷ (o ∷ after.refs)) = (a.2, (b.2, h.refs)) in record {
          start = start;
          spelled = forked p m f.zeros f.ones a.0 b.0 f.same long r.label refl a.1 b.1;
          shorter = record { bits = r.bits; short = r.short; refs = subst L (sym refs) both };
          alike = fork_moves before after start end z o a.0 b.0 refs refl r.takes r.takes_now;
        }
