-- White space at the end of a text.
use Rattle.std.proofs.Common.{◌≡◌, ℕ, zero, suc, ◌-◌, ◌<◌, ◌≤◌, Bool, true, false, ◌&&◌, List, [], ◌∷◌, length, get_or, take, refl, subst, arith}
use Rattle.std.specs.Prelude.{nat_lt}
use Rattle.std.proofs.lemmas.Bool.Decides.{nat_tests}
use Rattle.bag_cells.specs.Form.{is_white, trimmed}
use Rattle.bag_cells.specs.Known.{ends_white}

trimmed-white : (text : List ℕ) (n : ℕ) → n < length text → is_white (get_or text n 0) ≡ true → trimmed (take (suc n) text) ≡ trimmed (take n text)
unfolding trimmed
trimmed-white [] n h w = absurd (omega arith)
trimmed-white (b ∷ bs) zero h w = rw w refl
trimmed-white (b ∷ bs) (suc n) h w = rw (trimmed-white bs n (omega arith) w) refl

trimmed-kept : (text : List ℕ) (n : ℕ) → n < length text → is_white (get_or text n 0) ≡ false → trimmed (take (suc n) text) ≡ take (suc n) text
unfolding trimmed
trimmed-kept [] n h w = absurd (omega arith)
trimmed-kept (b ∷ bs) zero h w = rw w refl
trimmed-kept (b ∷ []) (suc n) h w = absurd (omega arith)
trimmed-kept (b ∷ c ∷ cs) (suc n) h w = rw (trimmed-kept (c ∷ cs) n (omega arith) w) refl

and_first : (a b : Bool) → (a && b) ≡ true → a ≡ true
and_first true b h = refl
and_first false b h = absurd (cc)

and_second : (a b : Bool) → (a && b) ≡ true → b ≡ true
and_second true b h = h
and_second false b h = absurd (cc)

and_not : (a b : Bool) → a ≡ true → (a && b) ≡ false → b ≡ false
and_not true b h k = k
and_not false b h k = absurd (cc)

lt_true : (m n : ℕ) → nat_lt m n ≡ true → m < n
lt_true m n h = grind (arith, nat_tests)

lt_by : (m n : ℕ) → m < n → nat_lt m n ≡ true
lt_by m n h = grind (arith, nat_tests)

pub trimmed_less : (text : List ℕ) (stop : ℕ) → stop ≤ length text → ends_white text stop ≡ true → trimmed (take stop text) ≡ trimmed (take (stop - 1) text)
trimmed_less text stop h w =
    let some : 0 < stop = lt_true 0 stop (and_first (nat_lt 0 stop) (is_white (get_or text (stop - 1) 0)) w) in
    let whole : suc (stop - 1) ≡ stop = omega arith in
    subst (λ (m : ℕ). trimmed (take m text) ≡ trimmed (take (stop - 1) text)) whole
    (trimmed-white text (stop - 1) (omega arith) (and_second (nat_lt 0 stop) (is_white (get_or text (stop - 1) 0)) w))

done_at : (text : List ℕ) (stop : ℕ) → stop ≤ length text → 0 < stop → ends_white text stop ≡ false → trimmed (take stop text) ≡ take stop text
done_at text stop h some w =
    let whole : suc (stop - 1) ≡ stop = omega arith in
    subst (λ (m : ℕ). trimmed (take m text) ≡ take m text) whole
    (trimmed-kept text (stop - 1) (omega arith) (and_not (nat_lt 0 stop) (is_white (get_or text (stop - 1) 0)) (lt_by 0 stop some) w))

pub trimmed_done : (text : List ℕ) (stop : ℕ) → stop ≤ length text → ends_white text stop ≡ false → trimmed (take stop text) ≡ take stop text
unfolding trimmed
trimmed_done text zero h w = refl
trimmed_done text (suc n) h w = done_at text (suc n) h (omega arith) w
