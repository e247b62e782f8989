-- One more declaration among those found by their types.
use Rattle.std.proofs.Common.{◌≡◌, ℕ, ap, sym, ◌∙◌, List, [], ◌∷◌, ◌++◌, map, refl, Bool, true, false, cond, Some, bytes_eq}
use Rattle.std.specs.Borrow.{Bor}
use Rattle.std.specs.HashMap.{HashMap}
use Rattle.std.specs.Map.{update}
use Rattle.std.proofs.lemmas.List.Elements.{filter-append}
use Rattle.std.proofs.lemmas.List.{append-nil, map-append}
use Rattle.std.proofs.lemmas.Slice.Eq.{bytes_eq-Decides}
use Rattle.tlb_syntax.specs.declared.tree.Constructor.{Constructor}
use Rattle.tlb_syntax.specs.Tree.{ConstructorView, SchemaView}
use Rattle.tlb_syntax.specs.View.{constructor}
use Rattle.kind_terms.specs.declared.kind.TermKind.{TermKind}
use Rattle.kind_terms.specs.declared.types.Declared.{Declared}
use Rattle.kind_terms.specs.Params.{kinds}
use Rattle.kind_terms.specs.Words.{Word}
use Rattle.kind_terms.specs.Dictionaries.{of_type}
use Rattle.kind_terms.specs.Types.{first_kinds}
use Rattle.kind_terms.specs.TypeIndex.{IsTypeIndex, constructors_in, find_word, kinds_in}

pub of_type-push : (s : SchemaView) (c : ConstructorView) (x : Word)
    → of_type (s ++ c ∷ []) x ≡ of_type s x ++ cond (bytes_eq c.result x) (c ∷ []) []
of_type-push s c x = filter-append (λ (d : ConstructorView). bytes_eq d.result x) s (c ∷ [])

same_word : (x y : Word) → bytes_eq x y ≡ true → x ≡ y
same_word x y = (bytes_eq-Decides x y).0

constructors_at : {S : Type 0} (m n : HashMap (Bor (List ℕ)) Declared S) (s : SchemaView) (c : ConstructorView) (d : Declared) (x : Word) (b : Bool)
    → (b ≡ true → c.result ≡ x) → find_word n x ≡ cond b (Some d) (find_word m x)
    → constructors_in (Some d) ≡ of_type s c.result ++ c ∷ [] → constructors_in (find_word m x) ≡ of_type s x
    → constructors_in (find_word n x) ≡ of_type s x ++ cond b (c ∷ []) []
constructors_at m n s c d x true same is here there =
    ap constructors_in is ∙ here ∙ ap (λ (y : Word). of_type s y ++ c ∷ []) (same refl)
constructors_at m n s c d x false same is here there = ap constructors_in is ∙ there ∙ sym (append-nil (of_type s x))

kinds_at : {S : Type 0} (m n : HashMap (Bor (List ℕ)) Declared S) (s : SchemaView) (c : ConstructorView) (d : Declared) (x : Word) (b : Bool)
    → (b ≡ true → c.result ≡ x) → find_word n x ≡ cond b (Some d) (find_word m x)
    → kinds_in (Some d) ≡ first_kinds (of_type s c.result ++ c ∷ []) → kinds_in (find_word m x) ≡ first_kinds (of_type s x)
    → kinds_in (find_word n x) ≡ first_kinds (of_type s x ++ cond b (c ∷ []) [])
kinds_at m n s c d x true same is here there =
    ap kinds_in is ∙ here ∙ ap (λ (y : Word). first_kinds (of_type s y ++ c ∷ [])) (same refl)
kinds_at m n s c d x false same is here there = ap kinds_in is ∙ there ∙ ap first_kinds (sym (append-nil (of_type s x)))

-- where the words of the type of the declaration stand for what is found now, and other words for what they stood for
pub are_found-push : {S : Type 0} (m n : HashMap (Bor (List ℕ)) Declared S) (s : SchemaView) (c : ConstructorView) (d : Declared)
    → ((x : Word) → find_word n x ≡ update bytes_eq (find_word m) c.result (Some d) x)
    → constructors_in (Some d) ≡ of_type s c.result ++ c ∷ [] → kinds_in (Some d) ≡ first_kinds (of_type s c.result ++ c ∷ [])
    → IsTypeIndex m s → IsTypeIndex n (s ++ c ∷ [])
are_found-push m n s c d is here kinds_here old = record {
  constructors = λ x. constructors_at m n s c d x (bytes_eq c.result x) (same_word c.result x) (is x) here (old.constructors x) ∙ sym (of_type-push s c x);
  kinds = λ x. kinds_at m n s c d x (bytes_eq c.result x) (same_word c.result x) (is x) kinds_here (old.kinds x) ∙ ap first_kinds (sym (of_type-push s c x));
}

first_kinds-push : (k : List TermKind) (s : SchemaView) (c : ConstructorView) → Some k ≡ first_kinds s → Some k ≡ first_kinds (s ++ c ∷ [])
first_kinds-push k [] c h = cc
first_kinds-push k (d ∷ s) c h = h

-- the first declaration of its type
pub first_found : {S : Type 0} (m n : HashMap (Bor (List ℕ)) Declared S) (s : SchemaView) (c : Bor Constructor) (ks : List TermKind) (cs : List (Bor Constructor))
    → ks ≡ kinds (constructor c.now) → cs ≡ c ∷ []
    → ((x : Word) → find_word n x ≡ update bytes_eq (find_word m) c.now.result (Some (record { kinds = ks; constructors = cs })) x)
    → of_type s c.now.result ≡ [] → IsTypeIndex m s → IsTypeIndex n (s ++ constructor c.now ∷ [])
first_found m n s c ks cs same_kinds same is none old =
    are_found-push m n s (constructor c.now) (record { kinds = ks; constructors = cs }) is
    (ap (map (λ (b : Bor Constructor). constructor b.now)) same ∙ ap (λ (ds : SchemaView). ds ++ constructor c.now ∷ []) (sym none))
    (ap Some same_kinds ∙ ap (λ (ds : SchemaView). first_kinds (ds ++ constructor c.now ∷ [])) (sym none)) old

-- one more declaration of a type that has some
pub more_found : {S : Type 0} (m n : HashMap (Bor (List ℕ)) Declared S) (s : SchemaView) (c : Bor Constructor) (d : Declared) (cs : List (Bor Constructor))
    → cs ≡ d.constructors ++ c ∷ [] → find_word m c.now.result ≡ Some d
    → ((x : Word) → find_word n x ≡ update bytes_eq (find_word m) c.now.result (Some (record { kinds = d.kinds; constructors = cs })) x)
    → IsTypeIndex m s → IsTypeIndex n (s ++ constructor c.now ∷ [])
more_found m n s c d cs same was is old =
    let here : constructors_in (Some d) ≡ of_type s c.now.result = ap constructors_in (sym was) ∙ old.constructors c.now.result in
    let kinds_here : Some d.kinds ≡ first_kinds (of_type s c.now.result) = ap kinds_in (sym was) ∙ old.kinds c.now.result in
    are_found-push m n s (constructor c.now) (record { kinds = d.kinds; constructors = cs }) is
    (ap (map (λ (b : Bor Constructor). constructor b.now)) same
    ∙ map-append (λ (b : Bor Constructor). constructor b.now) d.constructors (c ∷ [])
    ∙ ap (λ (ds : SchemaView). ds ++ constructor c.now ∷ []) here)
    (first_kinds-push d.kinds (of_type s c.now.result) (constructor c.now) kinds_here) old
