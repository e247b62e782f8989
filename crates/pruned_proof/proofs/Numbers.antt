-- The output of a number.
use Rattle.std.proofs.Common.{◌≡◌, ℕ, ◌<◌, ◌≤◌, ◌^◌, Bool, true, false, cond, List, [], ◌∷◌, Some, None, sym, arith, nat_le}
use Rattle.std.proofs.Common.{pow_mono}
use Rattle.std.proofs.lemmas.Bool.{leb-true}
use Rattle.std.proofs.lemmas.Option.{same_Some}
use Rattle.core_form.specs.Closed.{Closed}
use Rattle.core_form.specs.Closed as closed
use Rattle.hashmap_tree.specs.Entries.{Slice}
use Rattle.spelling.specs.Goals.{in_table, integer, natural, row, string}
use Rattle.spelling.specs.Spells.{SpellsNumber}
use Rattle.pruned_proof.specs.Walks.{most_own}

small-power : (n : ℕ) → n ≤ 32 → 2 ^ n ≤ 2 ^ 32
small-power n le = pow_mono {i = n} {j = 32} (omega (arith, le))

pub record Own (t : Closed) (m size : ℕ) (outs : List ℕ) : Type 0 where
  pub small : size ≤ m
  pub outputs : outs ≡ size ∷ []

own : (t : Closed) (m : ℕ) (negative : Bool) (size : ℕ) (outs : List ℕ) (before after : Slice) → most_own t ≡ Some m
    → in_table t ≡ true → SpellsNumber negative size (row t) before outs after → Own t m size outs
own closed.nat32 m negative size outs before after is wide s =
    let most = same_Some 4294967295 m is in
    let low = s.1 in
    record { small = omega (arith, most, low); outputs = s.2 }
own (closed.bits n) m negative size outs before after is wide s =
    let most = same_Some 4294967295 m is in
    let low = s.1 in
    let power = small-power n (leb-true n 32 wide) in
    record { small = omega (arith, most, low, power); outputs = s.2 }
own (closed.below n) m negative size outs before after is wide s =
    let most = same_Some n m is in
    let low = s.1 in
    record { small = omega (arith, most, low); outputs = s.2 }
own (closed.up_to n) m negative size outs before after is wide s =
    let most = same_Some n m is in
    let low = s.1 in
    record { small = omega (arith, most, low); outputs = s.2 }
own (closed.uint n) m negative size outs before after is wide s = absurd (cc)
own (closed.int n) m negative size outs before after is wide s = absurd (cc)
own (closed.bit_str n) m negative size outs before after is wide s = absurd s
own closed.whole m negative size outs before after is wide s = absurd s
own (closed.ref t) m negative size outs before after is wide s = absurd s
own (closed.repeat n t) m negative size outs before after is wide s = absurd s
own (closed.dict n t) m negative size outs before after is wide s = absurd s
own (closed.dict_e n t) m negative size outs before after is wide s = absurd s
own (closed.named x args) m negative size outs before after is wide s = absurd s

pub own_small : (t : Closed) (m : ℕ) (negative : Bool) (size : ℕ) (outs : List ℕ) (before after : Slice)
    → Some m ≡ most_own t → in_table t ≡ true → SpellsNumber negative size (row t) before outs after → m < size → ⊥
own_small t m negative size outs before after is wide s large =
    let x = own t m negative size outs before after (sym is) wide s in
    let small = x.small in
    omega (arith, small, large)

pub own_is : (t : Closed) (m : ℕ) (negative : Bool) (size : ℕ) (outs : List ℕ) (before after : Slice)
    → Some m ≡ most_own t → in_table t ≡ true → SpellsNumber negative size (row t) before outs after → size ∷ [] ≡ outs
own_is t m negative size outs before after is wide s = sym (own t m negative size outs before after (sym is) wide s).outputs

no-uint : (b : Bool) (n : ℕ) (negative : Bool) (size : ℕ) (outs : List ℕ) (before after : Slice)
    → SpellsNumber negative size (cond b (natural n (2 ^ n) false) (string n)) before outs after → [] ≡ outs
no-uint true n negative size outs before after s = sym s.2
no-uint false n negative size outs before after s = absurd s

no-int : (b : Bool) (n : ℕ) (negative : Bool) (size : ℕ) (outs : List ℕ) (before after : Slice)
    → SpellsNumber negative size (cond b (integer n) (string n)) before outs after → [] ≡ outs
no-int true n negative size outs before after s = sym s.3
no-int false n negative size outs before after s = absurd s

pub own_none : (t : Closed) (negative : Bool) (size : ℕ) (outs : List ℕ) (before after : Slice) → None ≡ most_own t
    → SpellsNumber negative size (row t) before outs after → [] ≡ outs
own_none closed.nat32 negative size outs before after is s = absurd (cc)
own_none (closed.bits n) negative size outs before after is s = absurd (cc)
own_none (closed.below n) negative size outs before after is s = absurd (cc)
own_none (closed.up_to n) negative size outs before after is s = absurd (cc)
own_none (closed.uint n) negative size outs before after is s = no-uint (nat_le n 128) n negative size outs before after s
own_none (closed.int n) negative size outs before after is s = no-int (nat_le n 128) n negative size outs before after s
own_none (closed.bit_str n) negative size outs before after is s = absurd s
own_none closed.whole negative size outs before after is s = absurd s
own_none (closed.ref t) negative size outs before after is s = absurd s
own_none (closed.repeat n t) negative size outs before after is s = absurd s
own_none (closed.dict n t) negative size outs before after is s = absurd s
own_none (closed.dict_e n t) negative size outs before after is s = absurd s
own_none (closed.named x args) negative size outs before after is s = absurd s
