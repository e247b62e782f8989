-- A word that a slot takes is short, and so is a schema.
use Rattle.std.proofs.Common.{◌≡◌, ◌≤◌, ◌<◌, ◌+◌, ◌-◌, ◌∙◌, ap, sym, refl, subst, zero, suc, drop, take, arith, ℕ, Bool, true, false, List, [], ◌∷◌, length, ◌&&◌}
use Rattle.std.specs.Prelude.{nat_lt, not, if◌then◌else◌, min, replicate}
use Rattle.tlb_edge.specs.Files.{Name}
use Rattle.tlb_files.specs.Contents.{AreShort}
use Rattle.cli_commands.specs.Command.{at}
use Rattle.cli_commands.specs.Commands.{slots_of}
use Rattle.cli_commands.specs.Forms.{are_taken, files_in}
use Rattle.cli_commands.specs.Prove.{prove_slots}
use Rattle.cli_commands.specs.Slots.{takes}
use Rattle.cli_commands.specs.Views.{view_slots}
use Rattle.cli_commands.specs.declared.commands.Verb.{Verb}
use Rattle.cli_commands.specs.declared.commands.Verb.TheVariants.{Prove}
use Rattle.cli_commands.specs.declared.slot.Slot.{Slot}
use Rattle.cli_commands.specs.declared.slot.Slot.TheVariants.{Schema, TypeWord, Bag, RootHash, Path}

first-of : (a b : Bool) → (a && b) ≡ true → a ≡ true
first-of true b is = cc
first-of false b is = cc

rest-of : (a b : Bool) → (a && b) ≡ true → b ≡ true
rest-of true b is = is
rest-of false b is = cc

taken-short : (slot : Slot) (word : Name) → takes slot word ≡ true → length word ≤ 1048576
taken-short slot word is = cases (nat_lt 1048576 (length word)) refl (first-of _ _ is)
  where
    cases : (b : Bool) → nat_lt 1048576 (length word) ≡ b → not b ≡ true → length word ≤ 1048576
    cases true e h = cc
    cases false e h = grind (arith, e)

pub short-at : (slots : List Slot) (words : List Name) (n : ℕ) → are_taken slots words ≡ true → length (at words n) ≤ 1048576
short-at [] [] n is = omega arith
short-at [] (word ∷ words) n is = cc
short-at (slot ∷ slots) [] n is = cc
short-at (slot ∷ slots) (word ∷ words) zero is = taken-short slot word (first-of _ _ is)
short-at (slot ∷ slots) (word ∷ words) (suc n) is = short-at slots words n (rest-of _ _ is)

-- the bytes of the file in a first slot of a schema are short
pub schema-short : (slots : List Slot) (words : List Name) (contents : List (List ℕ))
    → AreShort (files_in (Schema ∷ slots) words) contents → length (at contents 0) ≤ 1048576
schema-short slots [] [] short = omega arith
schema-short slots [] (bytes ∷ contents) short = absurd short
schema-short slots (word ∷ words) [] short = absurd short
schema-short slots (word ∷ words) (bytes ∷ contents) short = short.0

-- that of a command of which a first slot is a schema's
pub schema-of : (verb same : Verb) (slots : List Slot) (words : List Name) (contents : List (List ℕ)) → verb ≡ same
    → slots_of same words ≡ Schema ∷ slots → AreShort (files_in (slots_of verb words) words) contents
    → length (at contents 0) ≤ 1048576
schema-of verb same slots words contents is first short =
    let P : Verb → Type 0 = λ v. AreShort (files_in (slots_of v words) words) contents in
    let Q : List Slot → Type 0 = λ s. AreShort (files_in s words) contents in
    schema-short slots words contents (subst Q first (subst P is short))

-- the first slot of `view` is a schema's, with a root hash and without
pub view-first : (count : ℕ) → (slots : List Slot) × (view_slots count ≡ Schema ∷ slots)
view-first count = go (nat_lt 3 count)
  where
    go : (more : Bool) → (slots : List Slot)
        × ((if more then Schema ∷ TypeWord ∷ Bag ∷ RootHash ∷ [] else Schema ∷ TypeWord ∷ Bag ∷ []) ≡ Schema ∷ slots)
    go true = (TypeWord ∷ Bag ∷ RootHash ∷ [], refl)
    go false = (TypeWord ∷ Bag ∷ [], refl)

-- the slots of `view` where there are more than three words, and where there are not
abbrev with_root : List Slot
with_root = Schema ∷ TypeWord ∷ Bag ∷ RootHash ∷ []

abbrev without_root : List Slot
without_root = Schema ∷ TypeWord ∷ Bag ∷ []

pub view-long : (n m : ℕ) → m ≡ n → 3 < n → view_slots m ≡ with_root
view-long n m same more = go (nat_lt 3 m) refl
  where
    go : (b : Bool) → nat_lt 3 m ≡ b → (if b then with_root else without_root) ≡ with_root
    go true e = refl
    go false e = absurd (grind (arith, e, same, more))

pub view-short : (n m : ℕ) → m ≡ n → n ≤ 3 → view_slots m ≡ without_root
view-short n m same few = go (nat_lt 3 m) refl
  where
    go : (b : Bool) → nat_lt 3 m ≡ b → (if b then with_root else without_root) ≡ without_root
    go true e = absurd (grind (arith, e, same, few))
    go false e = refl

-- ---- paths

taken-count : (slots : List Slot) (words : List Name) → are_taken slots words ≡ true → length slots ≡ length words
taken-count [] [] is = refl
taken-count [] (word ∷ words) is = absurd (cc)
taken-count (slot ∷ slots) [] is = absurd (cc)
taken-count (slot ∷ slots) (word ∷ words) is = ap suc (taken-count slots words (rest-of _ _ is))

count-replicate : (k : ℕ) (slot : Slot) → length (replicate k slot) ≡ k
count-replicate zero slot = refl
count-replicate (suc k) slot = ap suc (count-replicate k slot)

count-drop : (words : List Name) → length (drop 3 words) ≡ length words - 3
count-drop [] = refl
count-drop (a ∷ []) = refl
count-drop (a ∷ b ∷ []) = refl
count-drop (a ∷ b ∷ c ∷ words) = omega arith

-- there are at most 64 paths
pub few-paths : (verb : Verb) (words : List Name) → verb ≡ Prove → are_taken (slots_of verb words) words ≡ true
    → length (drop 3 words) ≤ 64
few-paths verb words is taken =
    let P : Verb → Type 0 = λ v. are_taken (slots_of v words) words ≡ true in
    let count = taken-count (prove_slots (length words)) words (subst P is taken) in
    let paths = count-replicate (min (length words - 3) 64) Path in
    let few : min (length words - 3) 64 ≤ 64 = grind arith in
    omega (arith, count, paths, few, count-drop words)

take-replicate : (k m : ℕ) (slot : Slot) → k ≤ m → take k (replicate m slot) ≡ replicate k slot
take-replicate zero m slot few = refl
take-replicate (suc k) zero slot few = absurd (omega (arith, few))
take-replicate (suc k) (suc m) slot few = ap (λ l. slot ∷ l) (take-replicate k m slot (omega (arith, few)))

-- the first of the longest slots are the slots of so many words
pub prove-taken : (most count : ℕ) → most ≡ min (count - 3) 64 + 3
    → take most (Schema ∷ TypeWord ∷ Bag ∷ replicate 64 Path) ≡ prove_slots count
prove-taken most count is =
    let few : min (count - 3) 64 ≤ 64 = grind arith in
    let three : most ≡ suc (suc (suc (min (count - 3) 64))) = is ∙ omega arith in
    let P : ℕ → Type 0 = λ n. take n (Schema ∷ TypeWord ∷ Bag ∷ replicate 64 Path) ≡ prove_slots count in
    subst P (sym three) (ap (λ l. Schema ∷ TypeWord ∷ Bag ∷ l) (take-replicate (min (count - 3) 64) 64 Path few))
