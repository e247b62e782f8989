-- One item more: what stands against it, in the order of causes.
use Rattle.std.proofs.Common.{◌≡◌, ◌⊎◌, inl, inr, ℕ, ◌+◌, ◌-◌, ◌≤◌, Bool, true, false, cond, not, ◌&&◌, ◌||◌, nat_eq, nat_lt, [], ◌∷◌, ◌++◌, length, Result, Ok, Err, refl, sym, ap, ◌∙◌, arith}
use Rattle.std.proofs.lemmas.Bool.{le-ltb, lt-ltb, ltb-false, ltb-true}
use Rattle.bit_slice.specs.Bits.{spelled}
use Rattle.cell_nodes.specs.declared.tree.Hidden.{Hidden}
use Rattle.cell_nodes.specs.declared.tree.Mode.{Mode}
use Rattle.cell_nodes.specs.declared.tree.Mode.TheVariants.{Lax, Whole}
use Rattle.hashmap_tree.specs.Entries.{Slice}
use Rattle.spelling.specs.Places.{Place, Spot, stuck}
use Rattle.spelling.specs.PlainReader.{reported}
use Rattle.spelling.specs.declared.Cause.TheVariants.{AfterRest, Full, Shape, TooDeep}
use Rattle.building.specs.Growing.{Grown}
use Rattle.building.specs.PlainBuilder.{make_hidden, put}
use Rattle.plan_building.specs.View.{grown, laid}
use Rattle.plan_building.specs.declared.growing.Growing.{Growing}

-- more than what is left of a limit
pub past_limit : (limit have more : ℕ) → have ≤ limit → nat_lt (limit - have) more ≡ nat_lt limit (have + more)
past_limit limit have more le = go (nat_lt limit (have + more)) refl
  where
    go : (t : Bool) → nat_lt limit (have + more) ≡ t → nat_lt (limit - have) more ≡ t
    go true e = let lt = ltb-true limit (have + more) e in lt-ltb (limit - have) more (omega (arith, lt, le))
    go false e = let ge = ltb-false limit (have + more) e in le-ltb (limit - have) more (omega (arith, ge, le))

-- whether an item of so many bits and references follows a rest, and whether there is no room for it
abbrev follows : Grown → ℕ → ℕ → Bool
follows b n m = b.shut && not (nat_eq n 0 && nat_eq m 0)

abbrev exceeds : Grown → ℕ → ℕ → Bool
exceeds b n m = nat_lt 1023 (length b.held.bits + n) || nat_lt 4 (length b.held.refs + m)

abbrev judged : Spot → Slice → Bool → Grown → Bool → Bool → Bool → Result Grown Place
judged h x last b first second third =
    reported h (cond first (Err AfterRest) (cond second (Err Full) (cond third (Err TooDeep) (Ok (laid x last b)))))

put_is : (h : Spot) (x : Slice) (deep last : Bool) (b : Grown) (n m : ℕ) → n ≡ length x.bits → m ≡ length x.refs
    → put h x deep last b ≡ judged h x last b (follows b n m) (exceeds b n m) deep
put_is h x deep last b n m e f = λ i. judged h x last b (follows b (sym e i) (sym f i)) (exceeds b (sym e i) (sym f i)) deep

pub put_shut : (h : Spot) (x : Slice) (deep last : Bool) (b : Grown) (n m : ℕ) → n ≡ length x.bits → m ≡ length x.refs
    → (b.shut && not (nat_eq n 0 && nat_eq m 0)) ≡ true → put h x deep last b ≡ Err (stuck h AfterRest)
put_shut h x deep last b n m e f s =
    put_is h x deep last b n m e f ∙ ap (λ t. judged h x last b t (exceeds b n m) deep) s

pub put_full : (h : Spot) (x : Slice) (deep last : Bool) (b : Grown) (n m : ℕ) → n ≡ length x.bits → m ≡ length x.refs
    → (b.shut && not (nat_eq n 0 && nat_eq m 0)) ≡ false
    → (nat_lt 1023 (length b.held.bits + n) || nat_lt 4 (length b.held.refs + m)) ≡ true
    → put h x deep last b ≡ Err (stuck h Full)
put_full h x deep last b n m e f s o =
    put_is h x deep last b n m e f ∙ (λ i. judged h x last b (s i) (o i) deep)

pub put_deep : (h : Spot) (x : Slice) (deep last : Bool) (b : Grown) (n m : ℕ) → n ≡ length x.bits → m ≡ length x.refs
    → (b.shut && not (nat_eq n 0 && nat_eq m 0)) ≡ false
    → (nat_lt 1023 (length b.held.bits + n) || nat_lt 4 (length b.held.refs + m)) ≡ false → deep ≡ true
    → put h x deep last b ≡ Err (stuck h TooDeep)
put_deep h x deep last b n m e f s o d =
    put_is h x deep last b n m e f ∙ (λ i. judged h x last b (s i) (o i) (d i))

pub put_on : (h : Spot) (x : Slice) (deep last : Bool) (b : Grown) (n m : ℕ) → n ≡ length x.bits → m ≡ length x.refs
    → (b.shut && not (nat_eq n 0 && nat_eq m 0)) ≡ false
    → (nat_lt 1023 (length b.held.bits + n) || nat_lt 4 (length b.held.refs + m)) ≡ false → deep ≡ false
    → put h x deep last b ≡ Ok (laid x last b)
put_on h x deep last b n m e f s o d =
    put_is h x deep last b n m e f ∙ (λ i. judged h x last b (s i) (o i) (d i))

-- ---- what is held after it

same_shut : (s : Bool) → (s || false) ≡ s
same_shut true = refl
same_shut false = refl

-- an item after which something may follow
pub laid_more : (x : Slice) (old new : Growing) → new.cell.bits ≡ old.cell.bits ++ x.bits
    → new.cell.refs ≡ old.cell.refs ++ x.refs → new.shut ≡ old.shut
    → (◌≡◌ {A = Result Grown Place} (Ok (laid x false (grown old))) (Ok (grown new)))
laid_more x old new e f g = λ i.
    Ok (record { held = record { bits = sym e i; refs = sym f i }; shut = (same_shut old.shut ∙ sym g) i })

pub laid_last : (x : Slice) (last : Bool) (old new : Growing) → new.cell.bits ≡ old.cell.bits ++ x.bits
    → new.cell.refs ≡ old.cell.refs ++ x.refs → new.shut ≡ (old.shut || last)
    → (◌≡◌ {A = Result Grown Place} (Ok (laid x last (grown old))) (Ok (grown new)))
laid_last x last old new e f g = λ i.
    Ok (record { held = record { bits = sym e i; refs = sym f i }; shut = sym g i })

pub or_true : (s : Bool) → true ≡ (s || true)
or_true true = refl
or_true false = refl

-- ---- hidden parts

pub no_hidden : (mode : Mode) (h : Spot) (x : Hidden) (b : Grown) → (mode ≡ Whole) ⊎ (mode ≡ Lax)
    → make_hidden mode h x b ≡ Err (stuck h Shape)
no_hidden mode h x b (inl e) = ap (λ m. make_hidden m h x b) e
no_hidden mode h x b (inr e) = ap (λ m. make_hidden m h x b) e

-- ---- single bits

pub zero_bit : spelled 1 0 ≡ 0 ∷ []
unfolding spelled
zero_bit = refl

pub one_bit : spelled 1 1 ≡ 1 ∷ []
unfolding spelled
one_bit = refl
