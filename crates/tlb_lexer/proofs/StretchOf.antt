-- What stands before a text by its first byte, and that a text always has something in prefix.
use Rattle.std.proofs.Common.{◌≡◌, ◌≤◌, ◌<◌, ◌+◌, ◌-◌, suc, zero, ◌∙◌, sym, ap, refl, subst, ℕ, Bool, true, false, ◌||◌, List, [], ◌∷◌, length, take, drop, arith, inl, inr, ◌⊎◌, nat_lt, nat_eq, ◌==◌, codes, get_or}
use Rattle.std.specs.List.{prefix_len, starts_with}
use Rattle.std.proofs.lemmas.List.{take_all, length-drop}
use Rattle.std.proofs.lemmas.Slice.Eq.{bytes_eq-Decides}
use Rattle.std.proofs.lemmas.Bool.{eqb-true, ltb-false, ltb-true}
use Rattle.tlb_lexer.specs.declared.TokenKind.{TokenKind}
use Rattle.tlb_lexer.specs.declared.TokenKind.TheVariants.{Name, Blank, Number, BinaryTag, HexTag, Symbol}
use Rattle.tlb_lexer.specs.declared.bytes.Class.{Class}
use Rattle.tlb_lexer.specs.declared.bytes.Class.TheVariants.{White, Letter, Digit, Underscore, Dollar, NumberSign, Slash, Angle, Sign, Other}
use Rattle.tlb_lexer.specs.declared.scan.Stretch.{Stretch}
use Rattle.tlb_lexer.specs.declared.scan.Stretch.TheVariants.{Gap, Spelled, LongName, OpenComment, Nothing}
use Rattle.tlb_lexer.specs.Bytes.{is_bit, is_name_byte, is_digit, is_hex_digit, is_in_line}
use Rattle.tlb_lexer.specs.Spelling.{spells, is_underscore, are_bits, is_binary_tag}
use Rattle.tlb_lexer.specs.Tokenization.{OccursAt, OccursFirstAt, IsGap, white, line, block, IsOpenComment, longest_name}
use Rattle.tlb_lexer.specs.Stretch.{class, IsFirstStretch, hash_symbol_len}
use Rattle.tlb_lexer.proofs.ListPrefix.{and_parts, or_parts, clash, too_far}
use Rattle.tlb_lexer.proofs.Classes.{tells, class_white, opens_with, not_empty, kind_by, IsTokenClass}
use Rattle.tlb_lexer.proofs.LongestTokens.{name_longest, number_longest, blank_longest, bits_longest, empty_binary_longest, starts_one, closes_hex, closes_at, closed_longest, hex_longest, hash_longest, not_hexy, two_longest, angle_longest, sign_longest, all_bits}

-- a test of a mark, and the mark
pub occurs_if : (mark xs : List ℕ) → starts_with nat_eq xs mark ≡ true → take (length mark) xs ≡ mark
occurs_if mark xs e = sym ((bytes_eq-Decides mark (take (length mark) xs)).0 e)

pub test_of : (mark xs : List ℕ) → take (length mark) xs ≡ mark → starts_with nat_eq xs mark ≡ true
test_of mark xs e = (bytes_eq-Decides mark (take (length mark) xs)).1 (sym e)

pub occurs_two : (x y b : ℕ) (bs : List ℕ) → OccursAt (x ∷ y ∷ []) 0 (b ∷ bs)
    → (b ≡ x) × ((cs : List ℕ) × (bs ≡ y ∷ cs))
occurs_two x y b [] e = cc
occurs_two x y b (c ∷ cs) e =
    let first : b ≡ x = cc in
    let second : c ≡ y = cc in
    (first, (cs, ap (λ z. z ∷ cs) second))

pub nothing_before : (x y place : ℕ) → OccursAt (x ∷ y ∷ []) place [] → ⊥
nothing_before x y zero e = cc
nothing_before x y (suc place) e = cc

pub rest_whole : (i : ℕ) (xs : List ℕ) → take (length xs - i) (drop i xs) ≡ drop i xs
rest_whole i xs = take_all (length xs - i) (drop i xs) (omega (arith, length-drop i xs))

-- gaps
pub white_begins : (b : ℕ) (bs : List ℕ) → class b ≡ White → IsFirstStretch (b ∷ bs) (Gap 1)
white_begins b bs is = white (record { byte = b; rest = bs; whole = refl; white = tells b White is; size = refl })

opens_by : (y b : ℕ) (bs : List ℕ) → class b ≡ Slash → starts_with nat_eq bs (y ∷ []) ≡ true
    → OccursAt (47 ∷ y ∷ []) 0 (b ∷ bs)
opens_by y b bs is starts =
    let k = starts_one y bs starts in
    let same : b ≡ 47 = tells b Slash is in
    rw (same, k.1) refl

pub line_begins : (b : ℕ) (bs : List ℕ) → class b ≡ Slash → starts_with nat_eq bs (codes "/") ≡ true
    → IsFirstStretch (b ∷ bs) (Gap (2 + prefix_len is_in_line (drop 1 bs)))
line_begins b bs is starts = line (record { opens = opens_by 47 b bs is starts; size = refl })

pub block_opens : (b : ℕ) (bs : List ℕ) → class b ≡ Slash → starts_with nat_eq bs (codes "*") ≡ true
    → OccursAt (codes "/*") 0 (b ∷ bs)
block_opens b bs is starts = opens_by 42 b bs is starts

-- what a gap begins with
pub data GapFirst (b : ℕ) (bs : List ℕ) : Type 0 where
  first_white : class b ≡ White → GapFirst b bs
  first_slash : class b ≡ Slash
      → (starts_with nat_eq bs (codes "/") ≡ true) ⊎ (starts_with nat_eq bs (codes "*") ≡ true) → GapFirst b bs

second_test : (y : ℕ) (bs cs : List ℕ) → bs ≡ y ∷ cs → nat_eq y y ≡ true → starts_with nat_eq bs (y ∷ []) ≡ true
second_test y bs cs e t = rw (e, t) refl

pub gap_first : (n b : ℕ) (bs : List ℕ) → IsGap n (b ∷ bs) → GapFirst b bs
gap_first n b bs (white w) =
    let same : b ≡ w.byte = let e = w.whole in cc in
    first_white (class_white b (rw same w.white))
gap_first n b bs (line l) =
    let k = occurs_two 47 47 b bs l.opens in
    first_slash (ap class k.0) (inl (second_test 47 bs k.1.0 k.1.1 refl))
gap_first n b bs (block l) =
    let k = occurs_two 47 42 b bs l.opens in
    first_slash (ap class k.0) (inr (second_test 42 bs k.1.0 k.1.1 refl))

pub open_first : (b : ℕ) (bs : List ℕ) → IsOpenComment (b ∷ bs)
    → (class b ≡ Slash) × (starts_with nat_eq bs (codes "*") ≡ true)
open_first b bs o =
    let k = occurs_two 47 42 b bs o.opens in
    (ap class k.0, second_test 42 bs k.1.0 k.1.1 refl)

-- nothing
no_kind : (k : Class) (b : ℕ) (bs : List ℕ) → class b ≡ k → (IsTokenClass k → ⊥) → (kind : TokenKind) (n : ℕ)
    → n ≤ length (b ∷ bs) → spells kind (take n (b ∷ bs)) ≡ true → ⊥
no_kind k b bs is none kind zero le e = not_empty kind e
no_kind k b bs is none kind (suc n) le e = let o = opens_with kind b (take n bs) e in none (subst IsTokenClass is o.1)

pub other_begins : (b : ℕ) (bs : List ℕ) → class b ≡ Other → IsFirstStretch (b ∷ bs) Nothing
other_begins b bs is = record {
  not_ended = omega arith;
  no_gap = λ n g. elim (gap_first n b bs g) [
    | first_white w ↦ let k : White ≡ Other = sym w ∙ is in cc
    | first_slash s t ↦ let k : Slash ≡ Other = sym s ∙ is in cc
  ];
  no_token = no_kind Other b bs is (λ h. h);
  no_comment = λ o. let k : Slash ≡ Other = sym (open_first b bs o).0 ∙ is in cc;
}

pub slash_begins : (b : ℕ) (bs : List ℕ) → class b ≡ Slash → starts_with nat_eq bs (codes "/") ≡ false
    → starts_with nat_eq bs (codes "*") ≡ false → IsFirstStretch (b ∷ bs) Nothing
slash_begins b bs is no_line no_block = record {
  not_ended = omega arith;
  no_gap = λ n g. elim (gap_first n b bs g) [
    | first_white w ↦ let k : White ≡ Slash = sym w ∙ is in cc
    | first_slash s t ↦ elim t [ inl x ↦ clash _ x no_line | inr x ↦ clash _ x no_block ]
  ];
  no_token = no_kind Slash b bs is (λ h. h);
  no_comment = λ o. clash _ (open_first b bs o).1 no_block;
}

underscore_prefix : (bs : List ℕ) (m : ℕ) → is_underscore (take m bs) ≡ true → starts_with nat_eq bs (codes "_") ≡ true
underscore_prefix [] zero e = cc
underscore_prefix [] (suc m) e = cc
underscore_prefix (c ∷ cs) zero e = cc
underscore_prefix (c ∷ cs) (suc zero) e = let same : c ≡ 95 = eqb-true c 95 e in rw same refl
underscore_prefix (c ∷ []) (suc (suc m)) e = let same : c ≡ 95 = eqb-true c 95 e in rw same refl
underscore_prefix (c ∷ d ∷ cs) (suc (suc m)) e = cc

some_taken : (bs : List ℕ) (m : ℕ) → are_bits (take m bs) ≡ true → 0 < m
some_taken bs zero e = cc
some_taken bs (suc m) e = omega arith

dollar_tokens : (b : ℕ) (bs : List ℕ) → class b ≡ Dollar → prefix_len is_bit bs ≡ 0
    → starts_with nat_eq bs (codes "_") ≡ false → (kind : TokenKind) (n : ℕ) → n ≤ length (b ∷ bs)
    → spells kind (take n (b ∷ bs)) ≡ true → ⊥
dollar_tokens b bs is none starts kind zero le e = not_empty kind e
dollar_tokens b bs is none starts kind (suc m) le e =
    let o = opens_with kind b (take m bs) e in
    let same : kind ≡ BinaryTag = o.0 ∙ ap (λ x. kind_by x (take m bs)) is in
    let P : TokenKind → Type 0 = λ x. spells x (b ∷ take m bs) ≡ true in
    let tag : is_binary_tag (b ∷ take m bs) ≡ true = subst P same e in
    let p = and_parts (b == 36) (is_underscore (take m bs) || are_bits (take m bs)) tag in
    elim (or_parts (is_underscore (take m bs)) (are_bits (take m bs)) p.1) [
      | inl h ↦ clash _ (underscore_prefix bs m h) starts
      | inr h ↦ let some = some_taken bs m h in too_far is_bit bs m (omega arith) (omega arith) (all_bits (take m bs) h)
    ]

pub dollar_begins : (b : ℕ) (bs : List ℕ) → class b ≡ Dollar → prefix_len is_bit bs ≡ 0
    → starts_with nat_eq bs (codes "_") ≡ false → IsFirstStretch (b ∷ bs) Nothing
dollar_begins b bs is none starts = record {
  not_ended = omega arith;
  no_gap = λ n g. elim (gap_first n b bs g) [
    | first_white w ↦ let k : White ≡ Dollar = sym w ∙ is in cc
    | first_slash s t ↦ let k : Slash ≡ Dollar = sym s ∙ is in cc
  ];
  no_token = dollar_tokens b bs is none starts;
  no_comment = λ o. let k : Slash ≡ Dollar = sym (open_first b bs o).0 ∙ is in cc;
}

-- whether and where a mark of two bytes stands first
pub search_mark : (x y : ℕ) (body : List ℕ)
    → ((n : ℕ) × OccursFirstAt (x ∷ y ∷ []) n body) ⊎ ((n : ℕ) → OccursAt (x ∷ y ∷ []) n body → ⊥)
search_mark x y [] = inr (nothing_before x y)
search_mark x y (c ∷ cs) =
    elim (starts_with nat_eq (c ∷ cs) (x ∷ y ∷ [])) as (λ t. starts_with nat_eq (c ∷ cs) (x ∷ y ∷ []) ≡ t → ((n : ℕ)
    × OccursFirstAt (x ∷ y ∷ []) n (c ∷ cs)) ⊎ ((n : ℕ) → OccursAt (x ∷ y ∷ []) n (c ∷ cs) → ⊥)) [
      | true ↦ λ e. inl (0, record { occurs = occurs_if (x ∷ y ∷ []) (c ∷ cs) e; first = λ m lt s. omega arith })
      | false ↦ λ e. elim (search_mark x y cs) [
        | inl found ↦ inl (suc found.0, record { occurs = found.1.occurs; first = not_earlier found.0 found.1.first e })
        | inr never ↦ inr (not_there never e)
      ]
    ] refl
  where
    not_earlier : (n : ℕ) → ((m : ℕ) → m < n → OccursAt (x ∷ y ∷ []) m cs → ⊥)
        → starts_with nat_eq (c ∷ cs) (x ∷ y ∷ []) ≡ false → (m : ℕ) → m < suc n → OccursAt (x ∷ y ∷ []) m (c ∷ cs) → ⊥
    not_earlier n f e zero lt s = clash _ (test_of (x ∷ y ∷ []) (c ∷ cs) s) e
    not_earlier n f e (suc m) lt s = f m (omega arith) s

    not_there : ((m : ℕ) → OccursAt (x ∷ y ∷ []) m cs → ⊥) → starts_with nat_eq (c ∷ cs) (x ∷ y ∷ []) ≡ false
        → (m : ℕ) → OccursAt (x ∷ y ∷ []) m (c ∷ cs) → ⊥
    not_there f e zero s = clash _ (test_of (x ∷ y ∷ []) (c ∷ cs) s) e
    not_there f e (suc m) s = f m s

-- each form of stretch, as the scanners find it
pub block_begins : (text body : List ℕ) (place : ℕ) → OccursAt (codes "/*") 0 text → drop 2 text ≡ body
    → OccursFirstAt (codes "*/") place body → IsFirstStretch text (Gap (place + 4))
block_begins text body place opens e found =
    let P : List ℕ → Type 0 = λ x. OccursFirstAt (codes "*/") place x in
    block (record { opens = opens; place = place; closes = subst P (sym e) found; size = refl })

pub open_begins : (text body : List ℕ) → OccursAt (codes "/*") 0 text → drop 2 text ≡ body
    → ((n : ℕ) → OccursAt (codes "*/") n body → ⊥) → IsFirstStretch text OpenComment
open_begins text body opens e never =
    let P : List ℕ → Type 0 = λ x. (n : ℕ) → OccursAt (codes "*/") n x → ⊥ in
    record { opens = opens; never = subst P (sym e) never }

found_name : (b : ℕ) (bs : List ℕ) → class b ≡ Letter → (p : Stretch) × IsFirstStretch (b ∷ bs) p
found_name b bs is =
    let n = 1 + prefix_len is_name_byte bs in
    elim (nat_lt longest_name n) as (λ t. nat_lt longest_name n ≡ t → (p : Stretch) × IsFirstStretch (b ∷ bs) p) [
      | true ↦ λ e. (LongName, (n, name_longest b bs is, ltb-true longest_name n e))
      | false ↦ λ e. (Spelled Name n, (name_longest b bs is, λ _. let k = ltb-false longest_name n e in omega arith))
    ] refl

found_binary : (b : ℕ) (bs : List ℕ) → class b ≡ Dollar → (p : Stretch) × IsFirstStretch (b ∷ bs) p
found_binary b bs is =
    elim (nat_lt 0 (prefix_len is_bit bs)) as (λ t. nat_lt 0 (prefix_len is_bit bs) ≡ t → (p : Stretch)
    × IsFirstStretch (b ∷ bs) p) [
      | true ↦ λ e. (Spelled BinaryTag (1 + prefix_len is_bit bs), (bits_longest b bs is (ltb-true 0 _ e), λ x. cc))
      | false ↦ λ e. let none : prefix_len is_bit bs ≡ 0 = let k = ltb-false 0 (prefix_len is_bit bs) e in omega arith in
          elim (starts_with nat_eq bs (codes "_")) as (λ t. starts_with nat_eq bs (codes "_") ≡ t → (p : Stretch)
          × IsFirstStretch (b ∷ bs) p) [
            | true ↦ λ f. (Spelled BinaryTag 2, (empty_binary_longest b bs is none f, λ x. cc))
            | false ↦ λ f. (Nothing, dollar_begins b bs is none f)
          ] refl
    ] refl

found_hash : (b : ℕ) (bs : List ℕ) → class b ≡ NumberSign → (p : Stretch) × IsFirstStretch (b ∷ bs) p
found_hash b bs is =
    elim (closes_hex bs) as (λ t. closes_hex bs ≡ t → (p : Stretch) × IsFirstStretch (b ∷ bs) p) [
      | true ↦ λ e. (Spelled HexTag (prefix_len is_hex_digit bs + 2), (closed_longest b bs is e, λ x. cc))
      | false ↦ λ e.
          elim (nat_lt 0 (prefix_len is_hex_digit bs)) as (λ t. nat_lt 0 (prefix_len is_hex_digit bs) ≡ t → (p : Stretch) × IsFirstStretch (b ∷ bs) p) [
            | true ↦ λ f. (Spelled HexTag (prefix_len is_hex_digit bs + 1), (hex_longest b bs is (ltb-true 0 _ f) e, λ x. cc))
            | false ↦ λ f. let none : prefix_len is_hex_digit bs ≡ 0 = let k = ltb-false 0 (prefix_len is_hex_digit bs) f in omega arith in
                (Spelled Symbol (hash_symbol_len bs), (hash_longest b bs is (not_hexy bs none e), λ x. cc))
          ] refl
    ] refl

found_slash : (b : ℕ) (bs : List ℕ) → class b ≡ Slash → (p : Stretch) × IsFirstStretch (b ∷ bs) p
found_slash b bs is =
    elim (starts_with nat_eq bs (codes "/")) as (λ t. starts_with nat_eq bs (codes "/") ≡ t → (p : Stretch)
    × IsFirstStretch (b ∷ bs) p) [
      | true ↦ λ e. (Gap (2 + prefix_len is_in_line (drop 1 bs)), line_begins b bs is e)
      | false ↦ λ e.
          elim (starts_with nat_eq bs (codes "*")) as (λ t. starts_with nat_eq bs (codes "*") ≡ t → (p : Stretch)
          × IsFirstStretch (b ∷ bs) p) [
            | true ↦ λ f. elim (search_mark 42 47 (drop 1 bs)) [
              | inl x ↦ (Gap (x.0 + 4), block_begins (b ∷ bs) (drop 1 bs) x.0 (block_opens b bs is f) refl x.1)
              | inr x ↦ (OpenComment, open_begins (b ∷ bs) (drop 1 bs) (block_opens b bs is f) refl x)
            ]
            | false ↦ λ f. (Nothing, slash_begins b bs is e f)
          ] refl
    ] refl

found_angle : (b : ℕ) (bs : List ℕ) → class b ≡ Angle → (p : Stretch) × IsFirstStretch (b ∷ bs) p
found_angle b bs is =
    elim (starts_with nat_eq bs (codes "=")) as (λ t. starts_with nat_eq bs (codes "=") ≡ t → (p : Stretch) × IsFirstStretch (b ∷ bs) p) [
      | true ↦ λ e. (Spelled Symbol 2, (two_longest b bs is e, λ x. cc))
      | false ↦ λ e. (Spelled Symbol 1, (angle_longest b bs is e, λ x. cc))
    ] refl

found_by : (k : Class) (b : ℕ) (bs : List ℕ) → class b ≡ k → (p : Stretch) × IsFirstStretch (b ∷ bs) p
found_by White b bs is = (Gap 1, white_begins b bs is)
found_by Letter b bs is = found_name b bs is
found_by Digit b bs is = (Spelled Number (1 + prefix_len is_digit bs), (number_longest b bs is, λ x. cc))
found_by Underscore b bs is = (Spelled Blank 1, (blank_longest b bs is, λ x. cc))
found_by Dollar b bs is = found_binary b bs is
found_by NumberSign b bs is = found_hash b bs is
found_by Slash b bs is = found_slash b bs is
found_by Angle b bs is = found_angle b bs is
found_by Sign b bs is = (Spelled Symbol 1, (sign_longest b bs is, λ x. cc))
found_by Other b bs is = (Nothing, other_begins b bs is)

-- something stands before each text that has not ended
pub found_in : (b : ℕ) (bs : List ℕ) → (p : Stretch) × IsFirstStretch (b ∷ bs) p
found_in b bs = found_by (class b) b bs refl

pub closes_is : (bs : List ℕ) (n : ℕ) (r : Bool) → n ≡ prefix_len is_hex_digit bs
    → r ≡ starts_with nat_eq (take (length bs - n) (drop n bs)) (codes "_") → closes_hex bs ≡ r
closes_is bs n r e f =
    sym (closes_at bs) ∙ ap (λ k. starts_with nat_eq (drop k bs) (codes "_")) (sym e) ∙ ap (λ xs. starts_with nat_eq xs (codes "_")) (sym (rest_whole n bs)) ∙ sym f

pub stretch_of_bytes : (text : List ℕ) (p : Stretch) → 0 < length text
    → IsFirstStretch (get_or text 0 0 ∷ take (length text - 1) (drop 1 text)) p → IsFirstStretch text p
stretch_of_bytes [] p some x = absurd (omega arith)
stretch_of_bytes (b ∷ bs) p some x =
    let P : List ℕ → Type 0 = λ xs. IsFirstStretch (b ∷ xs) p in
    subst P (rest_whole 1 (b ∷ bs)) x
