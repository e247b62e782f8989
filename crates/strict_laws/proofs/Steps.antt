-- What is taken of a slice, in mode Lax and then in mode Whole of a slice that is no longer.
use Rattle.std.proofs.Common.{◌≡◌, ◌⊎◌, inl, inr, ℕ, ◌+◌, ◌<◌, ◌≤◌, Bool, true, false, ◌||◌, nat_lt, List, [], ◌∷◌, ◌++◌, length}
use Rattle.std.proofs.Common.{refl, sym, ap, ◌∙◌, subst, arith, length-append}
use Rattle.std.proofs.lemmas.Bool.{ltb-true, ltb-false}
use Rattle.bit_slice.specs.Bits.{AreBits}
use Rattle.bit_slice.specs.BitLists.{AreBits-append}
use Rattle.cell_nodes.specs.Good.{IsGood, AllGood}
use Rattle.cell_nodes.specs.GoodParts.{all_good-head, all_good-tail}
use Rattle.cell_nodes.specs.declared.tree.Tree.{Tree}
use Rattle.hashmap_tree.specs.Entries.{Slice, Then}
use Rattle.spelling.specs.Slices.{nothing, only_bits, only_ref, took}
use Rattle.strict_laws.proofs.Less.{Less, AllLess, Fine, Shorter}

-- how many bits and references there are
abbrev pub weight : Slice → ℕ
weight s = length s.bits + length s.refs

-- nothing is taken of either slice, or something of both
abbrev pub MovesAlike : Slice → Slice → Slice → Slice → Type 0
MovesAlike before after start end =
    ((before ≡ after) × (start ≡ end)) ⊎ ((weight after < weight before) × (weight end < weight start))

-- what leaves this end, of a slice that is no longer than the other
pub record Stretch (W : Slice → Slice → Type 0) (before after end : Slice) : Type 0 where
  pub start : Slice
  pub spelled : W start end
  pub shorter : Shorter start before
  pub alike : MovesAlike before after start end

-- the rest is bits and good trees, and before each shorter rest there is a shorter slice that leaves it
pub record Tightened (W : Slice → Slice → Type 0) (before after : Slice) : Type 0 where
  pub fine : Fine after
  pub strict : (end : Slice) → Shorter end after → Stretch W before after end

-- ---- put together

moves_then : (a b c x y z : Slice) → MovesAlike a b x y → MovesAlike b c y z → MovesAlike a c x z
moves_then a b c x y z (inl p) (inl q) = inl (p.0 ∙ q.0, p.1 ∙ q.1)
moves_then a b c x y z (inl p) (inr q) =
    let A : Slice → Type 0 = λ s. weight c < weight s in
    let X : Slice → Type 0 = λ s. weight z < weight s in
    inr (subst A (sym p.0) q.0, subst X (sym p.1) q.1)
moves_then a b c x y z (inr p) (inl q) =
    let A : Slice → Type 0 = λ s. weight s < weight a in
    let X : Slice → Type 0 = λ s. weight s < weight x in
    inr (subst A q.0 p.0, subst X q.1 p.1)
moves_then a b c x y z (inr p) (inr q) =
    let p0 = p.0 in let p1 = p.1 in let q0 = q.0 in let q1 = q.1 in
    inr (omega (arith, p0, q0), omega (arith, p1, q1))

pub tightened_then : {V W : Slice → Slice → Type 0} {before middle after : Slice} → Tightened V before middle
    → Tightened W middle after → Tightened (λ b a. (m : Slice) × V b m × W m a) before after
tightened_then {before = before} {middle = middle} {after = after} first second = record {
  fine = second.fine;
  strict = λ end h.
      let w = second.strict end h in
      let v = first.strict w.start w.shorter in record {
        start = v.start;
        spelled = (w.start, v.spelled, w.spelled);
        shorter = v.shorter;
        alike = moves_then before middle after v.start w.start end v.alike w.alike;
      };
}

-- what follows from what is spelled
pub tightened_as : {V W : Slice → Slice → Type 0} {before after : Slice} → Tightened V before after
    → ((b a : Slice) → V b a → W b a) → Tightened W before after
tightened_as r f = record {
  fine = r.fine;
  strict = λ end h.
      let v = r.strict end h in
      record { start = v.start; spelled = f v.start end v.spelled; shorter = v.shorter; alike = v.alike };
}

-- ---- nothing is taken

pub tightened_none : (before after : Slice) → after ≡ before → Fine before → Tightened (λ b a. a ≡ b) before after
tightened_none before after e fine =
    let P : Slice → Type 0 = λ s. Fine s in record {
      fine = subst P (sym e) fine;
      strict = λ end h.
          let Q : Slice → Type 0 = λ s. Shorter end s in
          record { start = end; spelled = refl; shorter = subst Q e h; alike = inl (sym e, refl) };
    }

-- ---- bits are taken

pub bits_parts : (a b : List ℕ) → AreBits (a ++ b) → AreBits a × AreBits b
bits_parts [] b h = (tt, h)
bits_parts (x ∷ a) b h = let r = bits_parts a b h.1 in ((h.0, r.0), r.1)

pub bits_fine : (bits : List ℕ) (before after : Slice) → Then before (only_bits bits) after → Fine before
    → AreBits bits × Fine after
bits_fine bits before after e fine =
    let B : List ℕ → Type 0 = λ l. AreBits l in
    let R : List Tree → Type 0 = λ l. AllGood l in
    let p = bits_parts bits after.bits (subst B e.bits fine.bits) in
    (p.0, record { bits = p.1; refs = subst R e.refs fine.refs })

bits_alike : (bits : List ℕ) (before after end : Slice) → Then before (only_bits bits) after
    → MovesAlike before after (record { bits = bits ++ end.bits; refs = end.refs }) end
bits_alike [] before after end e = inl ((λ i. record { bits = e.bits i; refs = e.refs i }), refl)
bits_alike (x ∷ bits) before after end e =
    let l = ap (length {A = ℕ}) e.bits in
    let r = ap (length {A = Tree}) e.refs in
    let k = length-append bits after.bits in
    let j = length-append bits end.bits in
    inr (omega (arith, l, r, k), omega (arith, j))

pub tightened_bits : (bits : List ℕ) (before after : Slice) → Then before (only_bits bits) after → Fine before
    → Tightened (λ b a. Then b (only_bits bits) a) before after
tightened_bits bits before after e fine =
    let f = bits_fine bits before after e fine in
    let l = ap (length {A = ℕ}) e.bits in
    let k = length-append bits after.bits in record {
      fine = f.1;
      strict = λ end h.
          let R : List Tree → Type 0 = λ ts. AllLess end.refs ts in
          let j = length-append bits end.bits in
          let less = h.short in record {
            start = record { bits = bits ++ end.bits; refs = end.refs };
            spelled = record { bits = refl; refs = refl };
            shorter = record {
              bits = AreBits-append bits end.bits f.0 h.bits;
              short = omega (arith, l, k, j, less);
              refs = subst R (sym e.refs) h.refs;
            };
            alike = bits_alike bits before after end e;
          };
    }

-- ---- bits and a reference are taken

abbrev pub bits_and_ref : List ℕ → Tree → Slice
bits_and_ref bits c = record { bits = bits; refs = c ∷ [] }

-- the bits, and a reference to some tree of which P holds
abbrev pub RefWith : (Tree → Type 0) → List ℕ → Slice → Slice → Type 0
RefWith P bits b a = (d : Tree) × Then b (bits_and_ref bits d) a × P d

pub ref_fine : (bits : List ℕ) (c : Tree) (before after : Slice) → Then before (bits_and_ref bits c) after → Fine before
    → AreBits bits × IsGood c × Fine after
ref_fine bits c before after e fine =
    let B : List ℕ → Type 0 = λ l. AreBits l in
    let R : List Tree → Type 0 = λ l. AllGood l in
    let p = bits_parts bits after.bits (subst B e.bits fine.bits) in
    let g : AllGood (c ∷ after.refs) = subst R e.refs fine.refs in
    (p.0, all_good-head c after.refs g, record { bits = p.1; refs = all_good-tail c after.refs g })

pub tightened_ref : (P : Tree → Type 0) (bits : List ℕ) (c d : Tree) (before after : Slice)
    → Then before (bits_and_ref bits c) after → Fine before → P d → Less d c
    → Tightened (RefWith P bits) before after
tightened_ref P bits c d before after e fine p less =
    let f = ref_fine bits c before after e fine in
    let l = ap (length {A = ℕ}) e.bits in
    let r = ap (length {A = Tree}) e.refs in
    let k = length-append bits after.bits in record {
      fine = f.2;
      strict = λ end h.
          let R : List Tree → Type 0 = λ ts. AllLess (d ∷ end.refs) ts in
          let j = length-append bits end.bits in
          let short = h.short in
          let both : AllLess (d ∷ end.refs) (c ∷ after.refs) = (less, h.refs) in record {
            start = record { bits = bits ++ end.bits; refs = d ∷ end.refs };
            spelled = (d, record { bits = refl; refs = refl }, p);
            shorter = record {
              bits = AreBits-append bits end.bits f.0 h.bits;
              short = omega (arith, l, k, j, short);
              refs = subst R (sym e.refs) both;
            };
            alike = inr (omega (arith, l, r, k), omega (arith, j));
          };
    }

-- ---- what is as long as nothing, or as one reference

nil_bits : (l : List ℕ) → length l ≤ 0 → l ≡ []
nil_bits [] h = refl
nil_bits (x ∷ l) h = absurd (omega (arith, h))

nil_refs : (ts : List Tree) → AllLess ts [] → ts ≡ []
nil_refs [] h = refl
nil_refs (t ∷ ts) h = absurd h

pub only_nothing : (s : Slice) → Shorter s nothing → s ≡ nothing
only_nothing s h = λ i. record { bits = nil_bits s.bits h.short i; refs = nil_refs s.refs h.refs i }

pub shorter_nothing : Shorter nothing nothing
shorter_nothing = record { bits = tt; short = omega arith; refs = tt }

one_ref : (ts : List Tree) (c : Tree) → AllLess ts (c ∷ []) → (d : Tree) × (ts ≡ d ∷ []) × Less d c
one_ref [] c h = absurd h
one_ref (d ∷ []) c h = (d, refl, h.0)
one_ref (d ∷ e ∷ ts) c h = absurd h.1

pub only_one : (s : Slice) (c : Tree) → Shorter s (only_ref c) → (d : Tree) × (s ≡ only_ref d) × Less d c
only_one s c h =
    let r = one_ref s.refs c h.refs in
    (r.0, (λ i. record { bits = nil_bits s.bits h.short i; refs = r.1 i }), r.2)

-- ---- whether something was taken

never_took : (s : Slice) → took s s ≡ true → ⊥
never_took s e = go (nat_lt (length s.bits) (length s.bits)) (nat_lt (length s.refs) (length s.refs)) refl refl e
  where
    go : (a b : Bool) → nat_lt (length s.bits) (length s.bits) ≡ a → nat_lt (length s.refs) (length s.refs) ≡ b
        → (a || b) ≡ true → ⊥
    go true b f g e = let l = ltb-true (length s.bits) (length s.bits) f in omega (arith, l)
    go false true f g e = let l = ltb-true (length s.refs) (length s.refs) g in omega (arith, l)
    go false false f g e = cc

took_less : (start end : Slice) → weight end < weight start → took start end ≡ true
took_less start end h =
    go (nat_lt (length end.bits) (length start.bits)) (nat_lt (length end.refs) (length start.refs)) refl refl
  where
    go : (a b : Bool) → nat_lt (length end.bits) (length start.bits) ≡ a
        → nat_lt (length end.refs) (length start.refs) ≡ b → (a || b) ≡ true
    go true b f g = refl
    go false true f g = refl
    go false false f g =
        let l = ltb-false (length end.bits) (length start.bits) f in
        let r = ltb-false (length end.refs) (length start.refs) g in
        absurd (omega (arith, h, l, r))

pub takes_alike : (before after start end : Slice) → MovesAlike before after start end → took before after ≡ true
    → took start end ≡ true
takes_alike before after start end (inl p) e =
    let T : Slice → Type 0 = λ s. took before s ≡ true in absurd (never_took before (subst T (sym p.0) e))
takes_alike before after start end (inr p) e = took_less start end p.1
