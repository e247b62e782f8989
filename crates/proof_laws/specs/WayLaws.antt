-- Spots on the way of a path: which of the spots of a value are, by where they stand.
use Rattle.std.specs.Prelude.{filter, bytes_eq}
use Rattle.std.proofs.Common.{◌≡◌, ℕ, suc, Bool, true, false, cond, ◌&&◌, ◌||◌, nat_eq}
use Rattle.std.proofs.Common.{List, [], ◌∷◌, ◌++◌, Option, Some, None, refl, ap, ◌∙◌, arith}
use Rattle.std.proofs.Common.{append_assoc}
use Rattle.std.proofs.lemmas.Bool.{eqb-true}
use Rattle.std.proofs.lemmas.Slice.Eq.{bytes_eq-Decides}
use Rattle.schema_leads.specs.Leads.{begins}
use Rattle.typed_value.specs.Paths.{Stride, named, item, keyed}
use Rattle.pruning.specs.Cut.{Choice}
use Rattle.pruning.specs.Names.{NotAmong}
use Rattle.pruning.specs.Spots.{Spot, same_stride, is_prefix, takes_key, enters}
use Rattle.pruning_laws.specs.KeyLaws.{begins-same, begins-other, same-bytes, bytes-other, stripped}
use Rattle.pruning_laws.specs.PlaceLaws.{All, chosen-append, stride-self, among-apart, all-map, InFields}
use Rattle.pruning_laws.specs.PlaceLaws.{InItems, InValues, AtEdges}
use Rattle.proof_laws.specs.Ways.{on_way, some_on_way}

-- ---- spots that are hidden and stand on the way

abbrev pub met : Choice → List Stride → List Spot → Bool
met f path xs = some_on_way path (filter f xs)

or-assoc : (a b c : Bool) → (a || (b || c)) ≡ ((a || b) || c)
or-assoc true b c = refl
or-assoc false b c = refl

pub or-false : (b : Bool) → (b || false) ≡ b
or-false true = refl
or-false false = refl

way-append : (path : List Stride) (xs ys : List Spot)
    → some_on_way path (xs ++ ys) ≡ (some_on_way path xs || some_on_way path ys)
way-append path [] ys = refl
way-append path (x ∷ xs) ys =
    ap (λ (b : Bool). on_way path x x.prefix || b) (way-append path xs ys)
    ∙ or-assoc (on_way path x x.prefix) (some_on_way path xs) (some_on_way path ys)

pub met-append : (f : Choice) (path : List Stride) (xs ys : List Spot)
    → met f path (xs ++ ys) ≡ (met f path xs || met f path ys)
met-append f path xs ys =
    ap (some_on_way path) (chosen-append f xs ys) ∙ way-append path (filter f xs) (filter f ys)

-- a spot off the way
abbrev pub OffWay : List Stride → Spot → Type 0
OffWay path x = on_way path x x.prefix ≡ false

pub met-none : (f : Choice) (path : List Stride) (xs : List Spot) → All (OffWay path) xs → met f path xs ≡ false
met-none f path [] off = refl
met-none f path (x ∷ xs) off = go (f x) (met-none f path xs off.1)
  where
    go : (b : Bool) → met f path xs ≡ false → some_on_way path (cond b (x ∷ filter f xs) (filter f xs)) ≡ false
    go true h = λ i. off.0 i || h i
    go false h = h

-- a spot on the way, and others
pub met-first : (f : Choice) (path : List Stride) (x : Spot) (xs : List Spot) → on_way path x x.prefix ≡ true
    → met f path (x ∷ xs) ≡ (f x || met f path xs)
met-first f path x xs on = go (f x)
  where
    go : (b : Bool) → some_on_way path (cond b (x ∷ filter f xs) (filter f xs)) ≡ (b || met f path xs)
    go true = ap (λ (b : Bool). b || met f path xs) on
    go false = refl

pub met-off : (f : Choice) (path : List Stride) (x : Spot) (xs : List Spot) → OffWay path x
    → met f path (x ∷ xs) ≡ met f path xs
met-off f path x xs off = go (f x)
  where
    go : (b : Bool) → some_on_way path (cond b (x ∷ filter f xs) (filter f xs)) ≡ met f path xs
    go true = ap (λ (b : Bool). b || met f path xs) off
    go false = refl

-- ---- paths that begin alike

prefix-same : (m a b : List Stride) → is_prefix (m ++ a) (m ++ b) ≡ is_prefix a b
prefix-same [] a b = refl
prefix-same (s ∷ m) a b = λ i. stride-self s i && prefix-same m a b i

enters-same : (q : List ℕ) (m a b : List Stride) → enters q (m ++ a) (m ++ b) ≡ enters q a b
enters-same q [] a b = refl
enters-same q (s ∷ m) a b = λ i. stride-self s i && enters-same q m a b i

pub enters-here : (q : List ℕ) (m b : List Stride) → enters q m (m ++ b) ≡ takes_key q b
enters-here q [] b = refl
enters-here q (s ∷ m) b = λ i. stride-self s i && enters-here q m b i

-- a path that ends, or goes on with another step
abbrev pub GoesElsewhere : Stride → List Stride → Type 0
GoesElsewhere s [] = Unit {0}
GoesElsewhere s (t ∷ steps) = same_stride s t ≡ false

prefix-elsewhere : (s : Stride) (a b : List Stride) → GoesElsewhere s b → is_prefix (s ∷ a) b ≡ false
prefix-elsewhere s a [] h = refl
prefix-elsewhere s a (t ∷ b) h = ap (λ (x : Bool). x && is_prefix a b) h

enters-elsewhere : (q : List ℕ) (s : Stride) (a b : List Stride) → GoesElsewhere s b → enters q (s ∷ a) b ≡ false
enters-elsewhere q s a [] h = refl
enters-elsewhere q s a (t ∷ b) h = ap (λ (x : Bool). x && enters q a b) h

-- a spot at another step
pub step-off : (m : List Stride) (s : Stride) (a b : List Stride) (x : Spot) → x.path ≡ m ++ s ∷ a → GoesElsewhere s b
    → OffWay (m ++ b) x
step-off m s a b x e h = go x.prefix
  where
    go : (p : Option (List ℕ)) → on_way (m ++ b) x p ≡ false
    go None =
        ap (λ (z : List Stride). is_prefix z (m ++ b)) e ∙ prefix-same m (s ∷ a) b ∙ prefix-elsewhere s a b h
    go (Some q) =
        ap (λ (z : List Stride). enters q z (m ++ b)) e ∙ enters-same q m (s ∷ a) b ∙ enters-elsewhere q s a b h

-- an edge of a dictionary is on the way of its map's path and a key that it leads to
pub edge-way : (m : List Stride) (q : List ℕ) (b : List Stride) (x : Spot) → x.path ≡ m → x.prefix ≡ Some q
    → on_way (m ++ b) x x.prefix ≡ takes_key q b
edge-way m q b x e p =
    ap (on_way (m ++ b) x) p ∙ ap (λ (z : List Stride). enters q z (m ++ b)) e ∙ enters-here q m b

-- ---- steps that differ

bool-false : (b : Bool) → (b ≡ true → ⊥) → b ≡ false
bool-false true h = absurd (h refl)
bool-false false h = refl

pub other-bytes : (x y : List ℕ) → (x ≡ y → ⊥) → bytes_eq x y ≡ false
other-bytes x y h = bool-false (bytes_eq x y) (λ e. h ((bytes_eq-Decides x y).0 e))

pub other-number : (i j : ℕ) → (i ≡ j → ⊥) → nat_eq i j ≡ false
other-number i j h = bool-false (nat_eq i j) (λ e. h (eqb-true i j e))

-- ---- where spots are

pub fields-off : (m : List Stride) (x : List ℕ) (names : List (List ℕ)) (b : List Stride) (xs : List Spot)
    → NotAmong x names → All (InFields m names) xs → All (OffWay (m ++ named x ∷ b)) xs
fields-off m x names b xs apart =
    all-map (InFields m names) (OffWay (m ++ named x ∷ b)) (λ z h.
    step-off m (named h.0) h.1 (named x ∷ b) z h.2 (other-bytes h.0 x (among-apart x h.0 names apart h.3))) xs

pub items-off : (m : List Stride) (i : ℕ) (b : List Stride) (xs : List Spot) → All (InItems m (suc i)) xs
    → All (OffWay (m ++ item i ∷ b)) xs
items-off m i b xs =
    all-map (InItems m (suc i)) (OffWay (m ++ item i ∷ b)) (λ z h.
    step-off m (item h.0) h.1 (item i ∷ b) z h.2
    (other-number h.0 i (λ e. let l = h.3 in absurd (omega (arith, e, l))))) xs

pub values-off : (m : List Stride) (q p key : List ℕ) (b : List Stride) (xs : List Spot) → stripped p key ≡ None
    → All (InValues m (q ++ p)) xs → All (OffWay (m ++ keyed (q ++ key) ∷ b)) xs
values-off m q p key b xs apart =
    all-map (InValues m (q ++ p)) (OffWay (m ++ keyed (q ++ key) ∷ b)) (λ z h.
    step-off m (keyed ((q ++ p) ++ h.0)) h.1 (keyed (q ++ key) ∷ b) z h.2
    (ap (λ (k : List ℕ). bytes_eq k (q ++ key)) (append_assoc q p h.0) ∙ same-bytes q (p ++ h.0) key
    ∙ bytes-other p h.0 key apart)) xs

pub edges-off : (m : List Stride) (k : ℕ) (q p key : List ℕ) (b : List Stride) (xs : List Spot) → stripped p key ≡ None
    → All (AtEdges m k (q ++ p)) xs → All (OffWay (m ++ keyed (q ++ key) ∷ b)) xs
edges-off m k q p key b xs apart =
    all-map (AtEdges m k (q ++ p)) (OffWay (m ++ keyed (q ++ key) ∷ b)) (λ z h.
    edge-way m ((q ++ p) ++ h.2.0) (keyed (q ++ key) ∷ b) z h.0 h.2.1
    ∙ ap (λ (l : List ℕ). begins l (q ++ key)) (append_assoc q p h.2.0) ∙ begins-same q (p ++ h.2.0) key
    ∙ begins-other p h.2.0 key apart) xs

-- a step that is no key, or none at all
abbrev pub IsNoKey : List Stride → Type 0
IsNoKey [] = Unit {0}
IsNoKey (named x ∷ b) = Unit {0}
IsNoKey (item i ∷ b) = Unit {0}
IsNoKey (keyed k ∷ b) = ⊥

key-elsewhere : (k : List ℕ) (b : List Stride) → IsNoKey b → GoesElsewhere (keyed k) b
key-elsewhere k [] h = tt
key-elsewhere k (named x ∷ b) h = refl
key-elsewhere k (item i ∷ b) h = refl
key-elsewhere k (keyed l ∷ b) h = absurd h

no-key : (q : List ℕ) (b : List Stride) → IsNoKey b → takes_key q b ≡ false
no-key q [] h = refl
no-key q (named x ∷ b) h = refl
no-key q (item i ∷ b) h = refl
no-key q (keyed l ∷ b) h = absurd h

pub values-no_key : (m : List Stride) (q : List ℕ) (b : List Stride) (xs : List Spot) → IsNoKey b
    → All (InValues m q) xs → All (OffWay (m ++ b)) xs
values-no_key m q b xs none =
    all-map (InValues m q) (OffWay (m ++ b)) (λ z h.
    step-off m (keyed (q ++ h.0)) h.1 b z h.2 (key-elsewhere (q ++ h.0) b none)) xs

pub edges-no_key : (m : List Stride) (k : ℕ) (q : List ℕ) (b : List Stride) (xs : List Spot) → IsNoKey b
    → All (AtEdges m k q) xs → All (OffWay (m ++ b)) xs
edges-no_key m k q b xs none =
    all-map (AtEdges m k q) (OffWay (m ++ b)) (λ z h.
    edge-way m (q ++ h.2.0) b z h.0 h.2.1 ∙ no-key (q ++ h.2.0) b none) xs

pub edge-off : (m : List Stride) (q : List ℕ) (b : List Stride) (x : Spot) → IsNoKey b → x.path ≡ m → x.prefix ≡ Some q
    → OffWay (m ++ b) x
edge-off m q b x none e p = edge-way m q b x e p ∙ no-key q b none
