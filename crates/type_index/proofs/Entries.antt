-- One more declaration among those found by their types.
use Rattle.std.proofs.Common.{◌≡◌, ℕ, ◌+◌, ap, sym, ◌∙◌, subst, List, [], ◌∷◌, ◌++◌, refl, Bool, true, false, cond, Option, Some}
use Rattle.std.proofs.Common.{None, bytes_eq, length, arith}
use Rattle.std.specs.BTreeMap.{BTreeMap, UpdatesBy, get_by}
use Rattle.std.specs.Map.{update, lookup, IsKeyTest, AreApart, KeepsOthers}
use Rattle.std.specs.Cmp.{eq_by_cmp_equiv}
use Rattle.std.specs.Cmp.Lexicographic.{slice_cmp, bytes_decides, nat_list_cmp_total, nat_list_eq_equiv}
use Rattle.std.specs.Ordering.{is_eq, nat_cmp}
use Rattle.std.specs.Global.{Vec}
use Rattle.std.proofs.lemmas.Bool.{cases_Bool, cond-true, cond-false}
use Rattle.std.proofs.lemmas.Map.Text.{is_eq-slice_cmp}
use Rattle.std.proofs.lemmas.List.Elements.{filter-append}
use Rattle.std.proofs.lemmas.List.{append-nil}
use Rattle.tlb_syntax.specs.Tree.{ConstructorView, SchemaView}
use Rattle.kind_terms.specs.declared.kind.TermKind.{TermKind}
use Rattle.kind_terms.specs.Params.{kinds}
use Rattle.kind_terms.specs.Words.{Word}
use Rattle.kind_terms.specs.Dictionaries.{of_type}
use Rattle.kind_terms.specs.Types.{first_kinds}
use Rattle.type_index.specs.declared.index.TypeEntry.{TypeEntry}
use Rattle.type_index.specs.Index.{AreEntries, constructors_in, kinds_in, find_word, places_after, places_of}

-- ---- a map that bytes look up

abbrev Found : Type 0
Found = BTreeMap (Vec ℕ) TypeEntry

same_word : (x y : Word) → bytes_eq x y ≡ true → x ≡ y
same_word x y = (bytes_decides x y).0

apart : (bs cs ks : List ℕ) → bytes_eq bs cs ≡ false → bytes_eq bs ks ≡ true → bytes_eq cs ks ≡ false
apart bs cs ks n y = nat_list_eq_equiv.symm cs ks ∙ sym (nat_list_eq_equiv.congr bs ks cs y) ∙ n

apart_in_order : (bs cs ks : List ℕ) → bytes_eq bs cs ≡ false → is_eq (slice_cmp nat_cmp bs ks) ≡ true
    → is_eq (slice_cmp nat_cmp cs ks) ≡ false
apart_in_order bs cs ks n y = is_eq-slice_cmp cs ks ∙ apart bs cs ks n (sym (is_eq-slice_cmp bs ks) ∙ y)

other_entries : {K X : Type 0} (eq : K → K → Bool) (test : K → Bool) (old new : List (K × X)) → KeepsOthers eq test old new
    → (other : K → Bool) → IsKeyTest eq other → AreApart test other → lookup other new ≡ lookup other old
unfolding KeepsOthers
other_entries eq test old new h = h

-- what is found after a change at the bytes bs
found_after : (bs : List ℕ) (m n : Found) (w : Option TypeEntry)
    → UpdatesBy (λ x y. slice_cmp nat_cmp x.items y.items) (λ k. slice_cmp nat_cmp bs k.items) m n w
    → (cs : List ℕ) → find_word n cs ≡ update bytes_eq (find_word m) bs w cs
found_after bs m n w h cs = cases (bytes_eq bs cs) refl
  where
    cases : (b : Bool) → bytes_eq bs cs ≡ b → find_word n cs ≡ cond b w (find_word m cs)
    cases true e = ap (find_word n) (sym (same_word bs cs e)) ∙ h.1
    cases false e =
        other_entries _ _ _ _ h.3 _
        (λ x y. (eq_by_cmp_equiv nat_list_cmp_total).congr cs x.items y.items)
        (λ k. apart_in_order bs cs k.items e)

-- ---- one more declaration

of_type-push : (s : SchemaView) (c : ConstructorView) (x : Word)
    → of_type (s ++ c ∷ []) x ≡ of_type s x ++ cond (bytes_eq c.result x) (c ∷ []) []
of_type-push s c x = filter-append (λ (d : ConstructorView). bytes_eq d.result x) s (c ∷ [])

places-push : (n : ℕ) (s : SchemaView) (c : ConstructorView) (x : Word)
    → places_after n (s ++ c ∷ []) x ≡ places_after n s x ++ cond (bytes_eq c.result x) ((n + length s) ∷ []) []
places-push n [] c x = let e : n ≡ n + 0 = omega arith in ap (λ k. cond (bytes_eq c.result x) (k ∷ []) []) e
places-push n (d ∷ s) c x = cases (bytes_eq d.result x) (places-push (n + 1) s c x)
  where
    tail : List ℕ
    tail = places_after (n + 1) (s ++ c ∷ []) x

    more : List ℕ
    more = cond (bytes_eq c.result x) ((n + length (d ∷ s)) ∷ []) []

    moved : (b : Bool) → cond b ((n + 1 + length s) ∷ []) [] ≡ cond b ((n + length (d ∷ s)) ∷ []) []
    moved b =
        let e : n + 1 + length s ≡ n + length (d ∷ s) = omega arith in ap (λ k. cond b (k ∷ []) []) e

    cases : (b : Bool) → tail ≡ places_after (n + 1) s x ++ cond (bytes_eq c.result x) ((n + 1 + length s) ∷ []) []
        → cond b (n ∷ tail) tail ≡ cond b (n ∷ places_after (n + 1) s x) (places_after (n + 1) s x) ++ more
    cases true e = ap (λ l. n ∷ l) (e ∙ ap (λ l. places_after (n + 1) s x ++ l) (moved (bytes_eq c.result x)))
    cases false e = e ∙ ap (λ l. places_after (n + 1) s x ++ l) (moved (bytes_eq c.result x))

first_kinds-push : (ks : List TermKind) (s : SchemaView) (c : ConstructorView) → Some ks ≡ first_kinds s
    → Some ks ≡ first_kinds (s ++ c ∷ [])
first_kinds-push ks [] c h = cc
first_kinds-push ks (d ∷ s) c h = h

-- where the words of the type of the declaration find this entry now, and other words what they found
entered : (m n : Found) (s : SchemaView) (c : ConstructorView) (e : TypeEntry)
    → ((x : Word) → find_word n x ≡ update bytes_eq (find_word m) c.result (Some e) x)
    → Some e.kinds ≡ first_kinds (of_type s c.result ++ c ∷ [])
    → e.constructors ≡ places_of s c.result ++ length s ∷ []
    → AreEntries m s → AreEntries n (s ++ c ∷ [])
entered m n s c e is kinds_are places_are old = record {
  kinds = λ x. kinds_at x (bytes_eq c.result x) refl ∙ ap first_kinds (sym (of_type-push s c x));
  constructors = λ x. places_at x (bytes_eq c.result x) refl ∙ sym (places-push 0 s c x ∙ from_0 x (bytes_eq c.result x));
}
  where
    from_0 : (x : Word) (b : Bool)
        → places_of s x ++ cond b ((0 + length s) ∷ []) [] ≡ places_of s x ++ cond b (length s ∷ []) []
    from_0 x b =
        let e : 0 + length s ≡ length s = omega arith in ap (λ k. places_of s x ++ cond b (k ∷ []) []) e

    kinds_at : (x : Word) (b : Bool) → bytes_eq c.result x ≡ b
        → kinds_in (find_word n x) ≡ first_kinds (of_type s x ++ cond b (c ∷ []) [])
    kinds_at x true h =
        ap kinds_in (is x ∙ ap (λ k. cond k (Some e) (find_word m x)) h) ∙ kinds_are
        ∙ ap (λ (y : Word). first_kinds (of_type s y ++ c ∷ [])) (same_word c.result x h)
    kinds_at x false h =
        ap kinds_in (is x ∙ ap (λ k. cond k (Some e) (find_word m x)) h) ∙ old.kinds x
        ∙ ap first_kinds (sym (append-nil (of_type s x)))

    places_at : (x : Word) (b : Bool) → bytes_eq c.result x ≡ b
        → constructors_in (find_word n x) ≡ places_of s x ++ cond b (length s ∷ []) []
    places_at x true h =
        ap constructors_in (is x ∙ ap (λ k. cond k (Some e) (find_word m x)) h) ∙ places_are
        ∙ ap (λ (y : Word). places_of s y ++ length s ∷ []) (same_word c.result x h)
    places_at x false h =
        ap constructors_in (is x ∙ ap (λ k. cond k (Some e) (find_word m x)) h) ∙ old.constructors x
        ∙ sym (append-nil (places_of s x))

-- a type without declarations has no places
no_places : (n : ℕ) (s : SchemaView) (x : Word) → of_type s x ≡ [] → places_after n s x ≡ []
no_places n [] x h = refl
no_places n (d ∷ s) x h = cases (bytes_eq d.result x) h (no_places (n + 1) s x)
  where
    cases : (b : Bool) → cond b (d ∷ of_type s x) (of_type s x) ≡ [] → (of_type s x ≡ [] → places_after (n + 1) s x ≡ [])
        → cond b (n ∷ places_after (n + 1) s x) (places_after (n + 1) s x) ≡ []
    cases true g rest = cc
    cases false g rest = rest g

-- the first declaration of its type
pub first_entered : (m n : Found) (s : SchemaView) (c : ConstructorView) (number : ℕ) (e : TypeEntry) → length s ≡ number
    → e.kinds ≡ kinds c → e.constructors ≡ number ∷ []
    → UpdatesBy (λ x y. slice_cmp nat_cmp x.items y.items) (λ k. slice_cmp nat_cmp c.result k.items) m n (Some e)
    → of_type s c.result ≡ [] → AreEntries m s → AreEntries n (s ++ c ∷ [])
first_entered m n s c number e size ks cs updates none old =
    entered m n s c e (found_after c.result m n (Some e) updates)
    (ap Some ks ∙ ap (λ (ds : SchemaView). first_kinds (ds ++ c ∷ [])) (sym none))
    (cs ∙ ap (λ k. k ∷ []) (sym size) ∙ ap (λ l. l ++ length s ∷ []) (sym (no_places 0 s c.result none))) old

-- one more declaration of a type that has some
pub more_entered : (m n : Found) (s : SchemaView) (c : ConstructorView) (number : ℕ) (was e : TypeEntry) → length s ≡ number
    → e.kinds ≡ was.kinds → e.constructors ≡ was.constructors ++ number ∷ [] → find_word m c.result ≡ Some was
    → UpdatesBy (λ x y. slice_cmp nat_cmp x.items y.items) (λ k. slice_cmp nat_cmp c.result k.items) m n (Some e)
    → AreEntries m s → AreEntries n (s ++ c ∷ [])
more_entered m n s c number was e size ks cs found updates old =
    let kinds_are : Some was.kinds ≡ first_kinds (of_type s c.result) = ap kinds_in (sym found) ∙ old.kinds c.result in
    let places_are : was.constructors ≡ places_of s c.result = ap constructors_in (sym found) ∙ old.constructors c.result in
    entered m n s c e (found_after c.result m n (Some e) updates)
    (ap Some ks ∙ first_kinds-push was.kinds (of_type s c.result) c kinds_are)
    (cs ∙ ap (λ l. l ++ number ∷ []) places_are ∙ ap (λ k. places_of s c.result ++ k ∷ []) (sym size)) old

pub no_entries : (m : Found) → m.entries ≡ [] → AreEntries m []
no_entries m e = record {
  kinds = λ x. ap (λ es. kinds_in (lookup (λ k. is_eq (slice_cmp nat_cmp x k.items)) es)) e;
  constructors = λ x. ap (λ es. constructors_in (lookup (λ k. is_eq (slice_cmp nat_cmp x k.items)) es)) e;
}
