-- The names of an accepted schema, and the names that its core forms show.
use Rattle.std.proofs.Common.{◌≡◌, ℕ, zero, suc, ◌+◌, ◌<◌, ◌^◌, ap, subst, refl, arith, List, [], ◌∷◌, ◌++◌, get_or, Option, Some, None, Bool, true, false, ◌||◌, ◌==◌, cond, slice_get}
use Rattle.std.specs.Prelude.{codes, decimal, filter, if◌then◌else◌}
use Rattle.std.specs.Char.{is_ascii_alphabetic}
use Rattle.std.specs.List.{list_all}
use Rattle.std.proofs.lemmas.Bool.{and_parts, or_parts}
use Rattle.std.proofs.lemmas.Bool.Decides.{nat_tests}
use Rattle.std.proofs.lemmas.Fmt.{first_decimal}
use Rattle.bit_slice.specs.Names as names
use Rattle.bit_slice.specs.Names.{IsName, is_count}
use Rattle.value_text.specs.LexemeWalksLaws.{DecimalForm, decimal_form, is_zero, counted}
use Rattle.value_text.specs.Writes.{IsRecordName}
use Rattle.tlb_lexer.specs.Bytes as bytes
use Rattle.tlb_syntax.specs.Limits.{IsWord, IsWordOrNone}
use Rattle.tlb_syntax.specs.Tree.{ConstructorView, SchemaView}
use Rattle.kind_terms.specs.Positions.{shown}
use Rattle.kind_terms.specs.Words.{Word, x_alone}
use Rattle.kind_declarations.specs.Faults.{faults}
use Rattle.kind_declarations.specs.Headings.{is_reserved, is_word}
use Rattle.kind_declarations.specs.Nodes.{heading_nodes}
use Rattle.kind_declarations.specs.declared.error.Cause.TheVariants.{Reserved}
use Rattle.kind_terms.specs.Classes.{is_built_in}
use Rattle.kinded_core.specs.Clean.{AreClean}
use Rattle.kinded_core.specs.CleanLaws.{clean_nodes, append_none, map_none}
use Rattle.schema_core.specs.Cores.{shown_name}
use Rattle.tlb_kinds.specs.Refusals.{IsKinded, kept_of, ordinary, refusals, of_headings}
use Rattle.tlb_kinds.specs.Spots.{heading, refusal_at}

-- ---- words are names

letter-same : (b : ℕ) → bytes.is_letter b ≡ true → is_ascii_alphabetic b ≡ true
letter-same b h = grind (arith, nat_tests)

byte-same : (b : ℕ) → bytes.is_name_byte b ≡ true → names.is_name_byte b ≡ true
byte-same b h = grind (arith, nat_tests)

bytes-same : (bs : List ℕ) → list_all bytes.is_name_byte bs ≡ true → list_all names.is_name_byte bs ≡ true
bytes-same [] h = refl
bytes-same (b ∷ bs) h =
    let p = and_parts (bytes.is_name_byte b) (list_all bytes.is_name_byte bs) h in
    rw (byte-same b p.0) (bytes-same bs p.1)

pub word-name : (x : List ℕ) → IsWord x → IsName x
word-name [] h = let s = h.spelled in cc
word-name (b ∷ bs) h =
    let p = and_parts (bytes.is_letter b) (list_all bytes.is_name_byte bs) h.spelled in
    rw (letter-same b p.0, bytes-same bs p.1) refl

-- ---- `_` and a number is a name

counted-by : (n : ℕ) (ds : List ℕ) → 48 < get_or ds 0 0 → DecimalForm ds → is_count ds ≡ true
counted-by n ds h (is_zero e) = let z = ap (λ (x : List ℕ). get_or x 0 0) e in absurd (omega (arith, z))
counted-by n ds h (counted c some) = c

decimal-count : (n : ℕ) → 0 < n → n < 2 ^ 64 → is_count (decimal n) ≡ true
decimal-count n some few = counted-by n (decimal n) (first_decimal n some few) (decimal_form n (omega arith))

pub number-name : (n : ℕ) → 0 < n → n < 2 ^ 64 → IsName (codes "_" ++ decimal n)
number-name n some few = rw (decimal-count n some few) refl

unnamed-by : (n : ℕ) (b : Bool) → 0 < n → n < 2 ^ 64 → IsName (if b then codes "_" else codes "_" ++ decimal n)
unnamed-by n true some few = refl
unnamed-by n false some few = number-name n some few

pub shown-name : (x : Option Word) (unnamed : ℕ) → IsWordOrNone x → unnamed + 1 < 2 ^ 64 → IsName (shown x unnamed)
shown-name (Some x) unnamed h few = word-name x h
shown-name None unnamed h few = unnamed-by (unnamed + 1) (unnamed + 1 == 1) (omega arith) few

-- ---- no constructor is called x

pub record-name : (x : Option Word) (n : ℕ) → IsWordOrNone x → is_word x x_alone ≡ false → 0 < n → n < 2 ^ 64
    → IsRecordName (Some (shown_name x n))
record-name (Some x) n h other some few = (word-name x h, rw other refl)
record-name None n h other some few = (number-name n some few, refl)

abbrev AllOther : SchemaView → Type 0
AllOther [] = Unit {0}
AllOther (c ∷ cs) = (is_word c.name x_alone ≡ false) × AllOther cs

headings-other : (before cs : SchemaView) → of_headings before cs ≡ [] → AllOther cs
headings-other before [] h = tt
headings-other before (c ∷ cs) h =
    let here = heading before c in
    let p = append_none _ (of_headings (before ++ c ∷ []) cs) h in
    let clean : AreClean (heading_nodes here) =
    clean_nodes (heading_nodes here) (map_none (refusal_at here) (faults (heading_nodes here)) p.0) in
    let alone : is_reserved here ≡ false = clean.0 Reserved in
    let a = or_parts (is_built_in c.result || is_word c.name x_alone) _ alone in
    let b = or_parts (is_built_in c.result) (is_word c.name x_alone) a.0 in
    (b.1, headings-other (before ++ c ∷ []) cs p.1)

other-filtered : (test : ConstructorView → Bool) (cs : SchemaView) → AllOther cs → AllOther (filter test cs)
other-filtered test [] h = tt
other-filtered test (c ∷ cs) h = by_test (test c) (other-filtered test cs h.1)
  where
    by_test : (b : Bool) → AllOther (filter test cs) → AllOther (cond b (c ∷ filter test cs) (filter test cs))
    by_test true rest = (h.0, rest)
    by_test false rest = rest

kept-other : (s : SchemaView) → IsKinded s → AllOther (kept_of s)
unfolding refusals
kept-other s k =
    let p = append_none (of_headings [] (ordinary s)) _ k in
    other-filtered _ (ordinary s) (headings-other [] (ordinary s) p.0)

other-at : (cs : SchemaView) (i : ℕ) (c : ConstructorView) → AllOther cs → slice_get cs i ≡ Some c
    → is_word c.name x_alone ≡ false
other-at [] i c h e = absurd (grind arith)
other-at (d ∷ cs) zero c h e =
    let same : d ≡ c = cc in
    let P : ConstructorView → Type 0 = λ x. is_word x.name x_alone ≡ false in
    subst P same h.0
other-at (d ∷ cs) (suc i) c h e = other-at cs i c h.1 e

pub not-called_x : (s : SchemaView) → IsKinded s → (i : ℕ) (c : ConstructorView) → slice_get (kept_of s) i ≡ Some c
    → is_word c.name x_alone ≡ false
not-called_x s k i c e = other-at (kept_of s) i c (kept-other s k) e
