-- A content that is put, part by part, until it is the whole of a cell.
use Rattle.std.proofs.Common.{◌≡◌, ◌<◌, ◌≤◌, ℕ, ◌+◌, Bool, true, false, not, ◌&&◌, ◌||◌, List, [], ◌∷◌, ◌++◌, length, Ok, refl, sym, ap, ◌∙◌, subst, arith, nat_lt, append_assoc, length-append}
use Rattle.std.proofs.lemmas.List.{append-nil, nil_from_length}
use Rattle.std.proofs.lemmas.Bool.{ltb-true, ltb-false, lt-ltb, le-ltb}
use Rattle.bit_slice.specs.Bits.{AreBits}
use Rattle.cell_nodes.specs.Good.{IsGood, AllGood}
use Rattle.cell_nodes.specs.GoodParts.{good-sound, all_good-head, all_good-tail}
use Rattle.cell_nodes.specs.HeldLaws.{AreBelow}
use Rattle.cell_nodes.specs.Tree.{deepest}
use Rattle.cell_nodes.specs.declared.tree.Tree.{Tree}
use Rattle.hashmap_tree.specs.CellLaws.{content-cell_of}
use Rattle.hashmap_tree.specs.Entries.{Slice, cell_of, Then}
use Rattle.hashmap_tree.specs.Exceeds.{IsWithin}
use Rattle.hashmap_tree.specs.ExceedsLaws.{good-within}
use Rattle.spelling.specs.Places.{Spot}
use Rattle.spelling.specs.Slices.{nothing, is_nothing, took}
use Rattle.spelling_laws.specs.StepLaws.{bind_on, reported_on, when_false}
use Rattle.building.specs.Growing.{Grown, join, is_over, is_deep, some_deep, lay}
use Rattle.building.specs.PlainBuilder.{Made, put, put_alone, put_bits, grew}

-- ---- slices

pub slice_eta : (s t : Slice) → s.bits ≡ t.bits → s.refs ≡ t.refs → s ≡ t
slice_eta s t e f = λ i. record { bits = e i; refs = f i }

pub then_whole : (s : Slice) → Then s s nothing
then_whole s = record { bits = sym (append-nil s.bits); refs = sym (append-nil s.refs) }

pub then_all : (w s : Slice) → Then w s nothing → s ≡ w
then_all w s t = slice_eta s w (sym (append-nil s.bits) ∙ sym t.bits) (sym (append-nil s.refs) ∙ sym t.refs)

pub join_then : (w b s x r : Slice) → Then w b s → Then s x r → Then w (join b x) r
join_then w b s x r t k = record {
  bits = t.bits ∙ ap (λ z. b.bits ++ z) k.bits ∙ sym (append_assoc b.bits x.bits r.bits);
  refs = t.refs ∙ ap (λ z. b.refs ++ z) k.refs ∙ sym (append_assoc b.refs x.refs r.refs);
}

-- nothing is nothing and nothing more
pub then_nothing : (s x r : Slice) → s ≡ nothing → Then s x r → (x ≡ nothing) × (r ≡ nothing)
then_nothing s x r e t =
    let bits : length x.bits + length r.bits ≡ 0 = sym (length-append x.bits r.bits) ∙ ap length (sym t.bits) ∙ ap (λ (z : Slice). length z.bits) e in
    let refs : length x.refs + length r.refs ≡ 0 = sym (length-append x.refs r.refs) ∙ ap length (sym t.refs) ∙ ap (λ (z : Slice). length z.refs) e in
    (both_nil x (omega (arith, bits)) (omega (arith, refs)), both_nil r (omega (arith, bits)) (omega (arith, refs)))
  where
    both_nil : (z : Slice) → length z.bits ≡ 0 → length z.refs ≡ 0 → z ≡ nothing
    both_nil z e f = λ i. record { bits = (nil_from_length z.bits e) i; refs = (nil_from_length z.refs f) i }

-- ---- contents within the limits

-- bits and references that a cell may hold
pub record IsHeld (s : Slice) : Type 0 where
  pub within : IsWithin s
  pub bits : AreBits s.bits

pub bits_after : (xs ys : List ℕ) → AreBits (xs ++ ys) → AreBits ys
bits_after [] ys h = h
bits_after (x ∷ xs) ys h = bits_after xs ys h.1

pub bits_before : (xs ys : List ℕ) → AreBits (xs ++ ys) → AreBits xs
bits_before [] ys h = tt
bits_before (x ∷ xs) ys h = (h.0, bits_before xs ys h.1)

pub good_after : (xs ys : List Tree) → AllGood (xs ++ ys) → AllGood ys
good_after [] ys g = g
good_after (x ∷ xs) ys g = good_after xs ys (all_good-tail x (xs ++ ys) g)

pub below_after : (xs ys : List Tree) → AreBelow (xs ++ ys) → AreBelow ys
below_after [] ys h = h
below_after (x ∷ xs) ys h = below_after xs ys h.1

pub good_at : (xs : List Tree) (c : Tree) (zs : List Tree) → AllGood (xs ++ c ∷ zs) → IsGood c
good_at [] c zs g = all_good-head c zs g
good_at (x ∷ xs) c zs g = good_at xs c zs (all_good-tail x (xs ++ c ∷ zs) g)

pub below_at : (xs : List Tree) (c : Tree) (zs : List Tree) → AreBelow (xs ++ c ∷ zs) → deepest c < 1024
below_at [] c zs h = h.0
below_at (x ∷ xs) c zs h = below_at xs c zs h.1

-- what is left of it
pub held_after : (w x r : Slice) → Then w x r → IsHeld w → IsHeld r
held_after w x r t h =
    let G : List Tree → Type 0 = AllGood in
    let B : List Tree → Type 0 = AreBelow in
    let A : List ℕ → Type 0 = AreBits in
    let bits = ap length t.bits ∙ length-append x.bits r.bits in
    let refs = ap length t.refs ∙ length-append x.refs r.refs in
    let few = h.within.few in
    let short = h.within.short in record {
      within = record {
        short = omega (arith, bits, short);
        few = omega (arith, refs, few);
        good = good_after x.refs r.refs (subst G t.refs h.within.good);
        below = below_after x.refs r.refs (subst B t.refs h.within.below);
      };
      bits = bits_after x.bits r.bits (subst A t.bits h.bits);
    }

pub good_held : (s : Slice) → IsGood (cell_of s) → IsHeld s
good_held s g =
    let P : Slice → Type 0 = λ c. AreBits c.bits in
    record { within = good-within s g; bits = subst P (content-cell_of s) (good-sound (cell_of s) g).bits }

-- ---- one content that reaches another

-- so far the whole is held; the rest of it is due
pub record Stands (w : Slice) (b : Grown) (s : Slice) : Type 0 where
  pub at : Then w b.held s
  pub free : b.shut ≡ true → s ≡ nothing

-- a content that reaches what is due next, from an answer; it is said whether a rest ends it
abbrev pub Reaches : {A : Type 0} → Slice → Slice → Bool → Grown → (Grown → A) → A → Type 0
Reaches w r e b answer got = (g : Grown) × (got ≡ answer g) × Stands w g r × (g.shut ≡ (b.shut || e))

abbrev pub made : List ℕ → Grown → Made
made outs g = (outs, g)

pub or_assoc : (a b c : Bool) → ((a || b) || c) ≡ (a || (b || c))
or_assoc true b c = refl
or_assoc false b c = refl

pub or_false : (a : Bool) → a ≡ (a || false)
or_false true = refl
or_false false = refl

pub not_deep : (c : Tree) → deepest c < 1024 → is_deep c ≡ false
not_deep c h = le-ltb 1023 (deepest c) (omega (arith, h))

pub none_deep : (xs ys zs : List Tree) → AreBelow (xs ++ (ys ++ zs)) → some_deep ys ≡ false
none_deep [] [] zs h = refl
none_deep [] (y ∷ ys) zs h = λ i. not_deep y h.0 i || none_deep [] ys zs h.1 i
none_deep (x ∷ xs) ys zs h = none_deep xs ys zs h.1

is_free : (t : Bool) (x : Slice) → (t ≡ true → x ≡ nothing) → (t && not (is_nothing x)) ≡ false
is_free true x f = ap (λ z. not (is_nothing z)) (f refl)
is_free false x f = refl

lay_on : (x : Slice) (deep last : Bool) (b : Grown) → (b.shut ≡ true → x ≡ nothing)
    → length b.held.bits + length x.bits ≤ 1023 → length b.held.refs + length x.refs ≤ 4 → deep ≡ false
    → lay x deep last b ≡ Ok (record { held = join b.held x; shut = b.shut || last })
lay_on x deep last b free short few flat =
    when_false (b.shut && not (is_nothing x)) _ _ (is_free b.shut x free)
    ∙ when_false (is_over b.held x) _ _ (λ i. le-ltb 1023 (length b.held.bits + length x.bits) short i || le-ltb 4 (length b.held.refs + length x.refs) few i)
    ∙ when_false deep _ _ flat

pub put_on : (h : Spot) (x : Slice) (deep last : Bool) (b : Grown) (w s r : Slice) → IsHeld w → Stands w b s → Then s x r
    → deep ≡ false → (last ≡ true → r ≡ nothing) → Reaches w r last b Ok (put h x deep last b)
put_on h x deep last b w s r held st t flat end =
    let g : Grown = record { held = join b.held x; shut = b.shut || last } in
    let at = join_then w b.held s x r st.at t in
    let bits : length w.bits ≡ length b.held.bits + length x.bits + length r.bits = ap length at.bits ∙ length-append (b.held.bits ++ x.bits) r.bits ∙ ap (λ z. z + length r.bits) (length-append b.held.bits x.bits) in
    let refs : length w.refs ≡ length b.held.refs + length x.refs + length r.refs = ap length at.refs ∙ length-append (b.held.refs ++ x.refs) r.refs ∙ ap (λ z. z + length r.refs) (length-append b.held.refs x.refs) in
    let short = held.within.short in
    let few = held.within.few in
    let free : b.shut ≡ true → x ≡ nothing = λ e. (then_nothing s x r (st.free e) t).0 in (
      g,
      reported_on h (lay x deep last b) g (lay_on x deep last b free (omega (arith, bits, short)) (omega (arith, refs, few)) flat),
      record { at = at; free = ending b.shut last (λ e. (then_nothing s x r (st.free e) t).1) end },
      refl,
    )
  where
    ending : (a e : Bool) → (a ≡ true → r ≡ nothing) → (e ≡ true → r ≡ nothing) → (a || e) ≡ true → r ≡ nothing
    ending true e f k i = f refl
    ending false e f k i = k i

pub alone_on : (h : Spot) (x : Slice) (deep last : Bool) (b : Grown) (w s r : Slice) (outs : List ℕ) → IsHeld w
    → Stands w b s → outs ≡ [] → Then s x r → deep ≡ false → (last ≡ true → r ≡ nothing)
    → Reaches w r last b (λ g. Ok (made outs g)) (put_alone h x deep last b)
alone_on h x deep last b w s r outs held st e t flat end =
    let p = put_on h x deep last b w s r held st t flat end in (
      p.0,
      bind_on (put h x deep last b) _ p.0 (Ok (made outs p.0)) p.1 (ap (λ z. Ok (made z p.0)) (sym e)),
      p.2,
      p.3,
    )

pub no_end : (r : Slice) → false ≡ true → r ≡ nothing
no_end r e = cc

pub bits_on : (h : Spot) (bits given outs : List ℕ) (b : Grown) (w s r : Slice) → IsHeld w → Stands w b s
    → outs ≡ given → Then s (record { bits = bits; refs = [] }) r
    → Reaches w r false b (λ g. Ok (made outs g)) (put_bits h bits given b)
bits_on h bits given outs b w s r held st e t =
    let x : Slice = record { bits = bits; refs = [] } in
    let p = put_on h x false false b w s r held st t refl (no_end r) in (
      p.0,
      bind_on (put h x false false b) _ p.0 (Ok (made outs p.0)) p.1 (ap (λ z. Ok (made z p.0)) (sym e)),
      p.2,
      p.3,
    )

-- the reference of a cell that stands there
pub ref_below : (b : Grown) (w s r : Slice) (c : Tree) → IsHeld w → Stands w b s → s.refs ≡ c ∷ r.refs
    → IsGood c × (deepest c < 1024)
ref_below b w s r c held st e =
    let G : List Tree → Type 0 = AllGood in
    let B : List Tree → Type 0 = AreBelow in
    let same : w.refs ≡ b.held.refs ++ c ∷ r.refs = st.at.refs ∙ ap (λ z. b.held.refs ++ z) e in
    (good_at b.held.refs c r.refs (subst G same held.within.good), below_at b.held.refs c r.refs (subst B same held.within.below))

-- ---- what is taken of what is due is what is put

less_same : (m r b s : ℕ) → m + r ≡ b + s → nat_lt r s ≡ nat_lt b m
less_same m r b s e = go (nat_lt b m) refl
  where
    go : (t : Bool) → nat_lt b m ≡ t → nat_lt r s ≡ t
    go true h = let k = ltb-true b m h in lt-ltb r s (omega (arith, e, k))
    go false h = let k = ltb-false b m h in le-ltb r s (omega (arith, e, k))

lengths : {A : Type 0} (w b s m r : List A) → w ≡ b ++ s → w ≡ m ++ r → length m + length r ≡ length b + length s
lengths w b s m r e f = sym (length-append m r) ∙ ap length (sym f ∙ e) ∙ length-append b s

pub took_same : (w s r : Slice) (b m : Grown) → Then w b.held s → Then w m.held r → took s r ≡ grew b m
took_same w s r b m t k =
    let x = less_same (length m.held.bits) (length r.bits) (length b.held.bits) (length s.bits) (lengths w.bits b.held.bits s.bits m.held.bits r.bits t.bits k.bits) in
    let y = less_same (length m.held.refs) (length r.refs) (length b.held.refs) (length s.refs) (lengths w.refs b.held.refs s.refs m.held.refs r.refs t.refs k.refs) in
    λ i. x i || y i
