-- Counts that rise by at most so many, and files that are opened one after the other.
use Rattle.std.proofs.Common.{◌≡◌, ◌≤◌, ◌<◌, ◌+◌, ◌*◌, ◌/◌, ◌∙◌, ap, sym, subst, suc, zero, refl, arith, min, ℕ, List, [], ◌∷◌, Option, None, Some}
use Rattle.tlb_edge.specs.Causes.{counted, counted_once, last}
use Rattle.tlb_files.specs.Counts.{FileName, Counts, counted_times, AreGiven, last_of, most_reads, RoseAtMost, Opens}

pub RoseAtMost-same : (n : ℕ) (count : Option ℕ) → RoseAtMost n count count
RoseAtMost-same n None = refl
RoseAtMost-same n (Some count) = omega arith

-- one call more
pub RoseAtMost-once : (n m : ℕ) (before mid now : Option ℕ) → RoseAtMost n before mid → now ≡ counted_once mid → n + 1 ≤ m → RoseAtMost m before now
RoseAtMost-once n m None mid now rose once more = once ∙ ap counted_once rose
RoseAtMost-once n m (Some before) None now rose once more = absurd rose
RoseAtMost-once n m (Some before) (Some mid) now rose once more =
    let fits : counted mid 1 ≤ before + m = omega (arith, rose, more) in rw once fits

pub RoseAtMost-more : (n m : ℕ) (before now : Option ℕ) → RoseAtMost n before now → n ≤ m → RoseAtMost m before now
RoseAtMost-more n m None now rose more = rose
RoseAtMost-more n m (Some before) None rose more = absurd rose
RoseAtMost-more n m (Some before) (Some now) rose more = omega (arith, rose, more)

pub RoseAtMost-trans : (n m : ℕ) (before mid now : Option ℕ) → RoseAtMost n before mid → RoseAtMost m mid now → RoseAtMost (n + m) before now
RoseAtMost-trans n m None None now first second = second
RoseAtMost-trans n m None (Some mid) now first second = absurd (some-none mid first)
  where
    some-none : (mid : ℕ) → Some mid ≡ None → ⊥
    some-none mid is = grind arith
RoseAtMost-trans n m (Some before) None now first second = absurd first
RoseAtMost-trans n m (Some before) (Some mid) None first second = absurd second
RoseAtMost-trans n m (Some before) (Some mid) (Some now) first second = omega (arith, first, second)

-- no file more
pub Opens-none : (files : List FileName) (now : Counts) → Opens files 0 now now
Opens-none files now = record { gave = []; each_once = refl; are_given = tt; opens = refl; given = refl; reads = RoseAtMost-same 0 now.reads }

times-more : (before mid now count : ℕ) → mid ≡ counted before 1 → now ≡ counted_times mid count → now ≡ counted_times before (suc count)
times-more before mid now zero first same = same ∙ first
times-more before mid now (suc n) first same = omega (arith, first, same)

-- a file more
pub Opens-file : (file : FileName) (files : List FileName) (count : ℕ) (before mid now : Counts) → mid.opens ≡ counted before.opens 1 →
    mid.given ≤ file.limit + 1 → RoseAtMost (mid.given + 1) before.reads mid.reads → Opens files count mid now → Opens (file ∷ files) (suc count) before now
Opens-file file files count before mid now opened given reads o = record {
  gave = mid.given ∷ o.gave;
  each_once = ap suc o.each_once;
  are_given = (given, o.are_given);
  opens = times-more before.opens mid.opens now.opens count opened o.opens;
  given = o.given;
  reads = RoseAtMost-trans (mid.given + 1) (most_reads o.gave) before.reads mid.reads now.reads reads o.reads;
}

-- a file more, after others
pub Opens-after : (files rest : List FileName) (file : FileName) (place : ℕ) (first before mid : Counts) →
    ((count : ℕ) (end : Counts) → Opens (file ∷ rest) count before end → Opens files (place + count) first end) →
    mid.opens ≡ counted before.opens 1 → mid.given ≤ file.limit + 1 → RoseAtMost (mid.given + 1) before.reads mid.reads →
    (count : ℕ) (end : Counts) → Opens rest count mid end → Opens files (place + 1 + count) first end
Opens-after files rest file place first before mid others opened given reads count end o =
    let same : place + suc count ≡ place + 1 + count = omega arith in
    let P : ℕ → Type 0 = λ n. Opens files n first end in
    subst P same (others (suc count) end (Opens-file file rest count before mid end opened given reads o))
