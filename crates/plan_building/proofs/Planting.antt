-- What `plant` answers, beside what the plain builder plants.
use Rattle.std.proofs.Common.{◌≡◌, ℕ, ◌<◌, Bool, true, false, cond, nat_lt, List, [], ◌∷◌, length, map, Result, Ok, Err, refl, sym, ap, ◌∙◌, subst, arith}
use Rattle.bit_slice.specs.Bits.{AreBits}
use Rattle.cell_nodes.specs.Constructed.{pruned_of}
use Rattle.cell_nodes.specs.Held.{Held}
use Rattle.cell_nodes.specs.declared.tree.Hidden.{Hidden}
use Rattle.cell_nodes.specs.declared.tree.Mode.TheVariants.{Partial}
use Rattle.cell_nodes.specs.declared.tree.Tree.{Tree}
use Rattle.hashmap_tree.specs.Dict.{DictTree}
use Rattle.hashmap_tree.specs.Entries.{Slice, Entries, cell_of}
use Rattle.hashmap_tree.specs.Exceeds.{Excess, Exceeds, IsWithin, first_key}
use Rattle.hashmap_tree.specs.Merged.{merged}
use Rattle.hashmap_tree.specs.MergedLaws.{merged-parts}
use Rattle.hashmap_tree.specs.OnceLaws.{Some_entry}
use Rattle.hashmap_tree.specs.Order.{AreInOrder}
use Rattle.hashmap_tree.specs.Plants.{IsHiddenAlone, held_of, leaf_of}
use Rattle.plan_reading.specs.Stops.{Stops}
use Rattle.plan_reading.specs.declared.stop.StopError.{StopError}
use Rattle.plan_reading.specs.declared.stop.StopError.TheVariants.{NoMemory, Stuck}
use Rattle.spelling.specs.Places.{Place, Spot, stuck}
use Rattle.spelling.specs.PlainReader.{◌>>=◌}
use Rattle.spelling.specs.declared.Cause.TheVariants.{AfterRest}
use Rattle.building.specs.Buildable.{AreHashes}
use Rattle.building.specs.Growing.{Grown, is_deep}
use Rattle.building.specs.PlainBuilder.{Made, cause_of, plant_here, plant_root, planted, put_alone, put_bits, put_edge, put_root}
use Rattle.building.specs.Planting.{Top, edge_of, planting, tops}
use Rattle.building_laws.specs.DictLaws.{hashed_of, plant_root_open}
use Rattle.building_laws.specs.MapStandsLaws.{exceeds_edge}
use Rattle.building_laws.specs.PlantLaws.{AreHashed, bind_to, planted_edge, tree_planted}
use Rattle.plan_building.specs.Sides.{judged}
use Rattle.plan_building.specs.StopsLaws.{goes_on, stops_at, stops_on, stops_same, stops_where}
use Rattle.plan_building.proofs.Halving.{not_alone}
use Rattle.plan_building.proofs.PlantSteps.{planting_err, planting_ok}

pub planted_tree : (n : ℕ) (es : Entries) (b : Held) → DictTree Partial n es (held_of b) → IsWithin (held_of b)
    → AreBits b.bits → AreHashed Partial es → planting n es ≡ Ok (held_of b)
planted_tree n es b d w bits hashed =
    let k = tree_planted Partial refl n es (held_of b) d (record { within = w; bits = bits }) hashed in
    bind_to (tops n [] es) _ k.top (Ok (held_of b)) k.tops_on (planted_edge n (first_key es) es (held_of b) k w.short)

pub planted_not : (n : ℕ) (es : Entries) (f : Excess) → AreInOrder n es → AreHashed Partial es → Exceeds n es f
    → planting n es ≡ Err f
planted_not n es f order hashed e = exceeds_edge n es f order hashed e

pub hashed_merged : (xs : List (List ℕ × Slice)) (us : List (List ℕ × Hidden)) → AreHashes us
    → AreHashed Partial (merged xs us)
hashed_merged xs us hashes =
    let P : List (List ℕ × Hidden) → Type 0 = AreHashes in
    hashed_of Partial (merged xs us) (subst P (sym (merged-parts xs us).1) hashes)

-- ---- the first edge in place

abbrev edge_or : Spot → ℕ → List ℕ → Bool → Grown → Bool → Top → Result Made Place
edge_or h n key last b shut top =
    cond shut (Err (stuck h AfterRest)) (planted h (edge_of n key top) >>= λ s. put_alone h s false last b)

pub here_open : (h : Spot) (n : ℕ) (es : Entries) (last : Bool) (b : Grown) → b.shut ≡ false
    → plant_here h n es last b ≡ (planted h (planting n es) >>= λ s. put_alone h s false last b)
here_open h n es last b e =
    ap (λ t. planted h (tops n [] es) >>= edge_or h n (first_key es) last b t) e ∙ go (tops n [] es) refl
  where
    go : (r : Result Top Excess) → tops n [] es ≡ r
        → (planted h r >>= edge_or h n (first_key es) last b false)
        ≡ (planted h (planting n es) >>= λ s. put_alone h s false last b)
    go (Ok top) t = ap (λ r. planted h r >>= λ s. put_alone h s false last b) (sym (planting_ok n es top t))
    go (Err f) t = ap (λ r. planted h r >>= λ s. put_alone h s false last b) (sym (planting_err n es f t))

pub here_shut : (h : Spot) (n : ℕ) (es : Entries) (last : Bool) (b : Grown) (top : Top) → b.shut ≡ true
    → tops n [] es ≡ Ok top → plant_here h n es last b ≡ Err (stuck h AfterRest)
here_shut h n es last b top e t =
    ap (λ r. planted h r >>= λ x. put_edge h n (first_key es) x last b) t
    ∙ ap (λ u. edge_or h n (first_key es) last b u top) e

pub here_below : (h : Spot) (n : ℕ) (es : Entries) (last : Bool) (b : Grown) (f : Excess) → tops n [] es ≡ Err f
    → plant_here h n es last b ≡ Err (stuck h (cause_of f))
here_below h n es last b f t = ap (λ r. planted h r >>= λ x. put_edge h n (first_key es) x last b) t

-- ---- what is judged of the parts of an edge

judged_is : {A : Type 0} (h : Spot) (r : Result A Excess) → judged h r ≡ (planted h r >>= λ _. Ok tt)
judged_is h (Ok x) = refl
judged_is h (Err f) = refl

pub judged_stop : {A : Type 0} (h : Spot) (e : StopError) (r : Result A Excess) → Stops h e (planted h r)
    → Stops h e (judged h r)
judged_stop h e r s = stops_same h e _ _ (judged_is h r) (stops_on h e (planted h r) _ s)

pub judged_ok : {A : Type 0} (h : Spot) (r : Result A Excess) (x : A) → planted h r ≡ Ok x → judged h r ≡ Ok tt
judged_ok h r x e = judged_is h r ∙ goes_on (planted h r) _ x e

never_stops : {A : Type 0} (h : Spot) (e : StopError) (r : Result A Place)
    → Stops {Y = Unit {0}} h e (Ok tt) → Stops h e r
never_stops h (Stuck s) r i = cc
never_stops h NoMemory r i = tt

-- where a part stops, the edge in place does
pub here_stop : (h : Spot) (n : ℕ) (es : Entries) (last : Bool) (b : Grown) (e : StopError)
    → Stops h e (judged h (tops n [] es)) → Stops h e (plant_here h n es last b)
here_stop h n es last b e stop = go (tops n [] es) refl stop
  where
    go : (r : Result Top Excess) → tops n [] es ≡ r → Stops h e (judged h r) → Stops h e (plant_here h n es last b)
    go (Ok top) t s = never_stops h e (plant_here h n es last b) s
    go (Err f) t s =
        stops_where h e (stuck h (cause_of f)) (plant_here h n es last b) (here_below h n es last b f t)
        (stops_at {A = Unit {0}} h e (stuck h (cause_of f)) (Err (stuck h (cause_of f))) refl s)

-- where the parts are planted, what follows a rest stops it
pub here_rest : (h : Spot) (n : ℕ) (es : Entries) (last : Bool) (b : Grown) → b.shut ≡ true
    → judged h (tops n [] es) ≡ Ok tt → plant_here h n es last b ≡ Err (stuck h AfterRest)
here_rest h n es last b shut ok = go (tops n [] es) refl ok
  where
    go : (r : Result Top Excess) → tops n [] es ≡ r → judged h r ≡ Ok tt → plant_here h n es last b ≡ Err (stuck h AfterRest)
    go (Ok top) t i = here_shut h n es last b top shut t
    go (Err f) t i = cc

-- ---- a dictionary that may be empty

pub root_none : (h : Spot) (n : ℕ) (es : Entries) (b : Grown) → length es ≡ 0
    → plant_root h n es b ≡ put_bits h (0 ∷ []) [] b
root_none h n [] b e = refl
root_none h n (f ∷ es) b e = absurd (omega (arith, e))

pub root_alone : (h : Spot) (n : ℕ) (xs : List (List ℕ × Slice)) (us : List (List ℕ × Hidden)) (x : Hidden) (b : Grown)
    → (xs ≡ []) × (us ≡ ([], x) ∷ [])
    → plant_root h n (merged xs us) b ≡ put_root h (pruned_of x.hash x.depth) (nat_lt 1023 x.depth) b
root_alone h n xs us x b e = λ i. plant_root h n (merged (e.0 i) (e.1 i)) b

some_entry_of : (es : Entries) → 0 < length es → Some_entry es
some_entry_of [] l = absurd (omega (arith, l))
some_entry_of (e ∷ es) l = (e, es, refl)

pub root_is : (h : Spot) (n : ℕ) (es : Entries) (b : Grown) → AreInOrder n es → 0 < length es → (IsHiddenAlone es → ⊥)
    → plant_root h n es b ≡ (planted h (planting n es) >>= λ s. put_root h (cell_of s) (is_deep (cell_of s)) b)
root_is h n es b order some alone = plant_root_open h n es b (some_entry_of es some) (not_alone n es order alone)

pub root_put : (h : Spot) (n : ℕ) (es : Entries) (b : Grown) (s : Slice) (cell : Tree) → AreInOrder n es → 0 < length es
    → (IsHiddenAlone es → ⊥) → planted h (planting n es) ≡ Ok s → cell ≡ cell_of s
    → plant_root h n es b ≡ put_root h cell (is_deep cell) b
root_put h n es b s cell order some alone e same =
    root_is h n es b order some alone ∙ goes_on (planted h (planting n es)) _ s e
    ∙ ap (λ c. put_root h c (is_deep c) b) (sym same)

-- ---- the calls, of which the entries are the same

pub here_parts_stop : (h : Spot) (n : ℕ) (fs es : Entries) (last : Bool) (b : Grown) (e : StopError) → fs ≡ es
    → Stops h e (judged h (tops n [] fs)) → Stops h e (plant_here h n es last b)
here_parts_stop h n fs es last b e same stop =
    stops_same h e _ _ (ap (λ l. plant_here h n l last b) (sym same)) (here_stop h n fs last b e stop)

pub here_parts_rest : (h : Spot) (n : ℕ) (fs es : Entries) (last : Bool) (b : Grown) → fs ≡ es → b.shut ≡ true
    → judged h (tops n [] fs) ≡ Ok tt → plant_here h n es last b ≡ Err (stuck h AfterRest)
here_parts_rest h n fs es last b same shut ok =
    ap (λ l. plant_here h n l last b) (sym same) ∙ here_rest h n fs last b shut ok

pub here_planted_stop : (h : Spot) (n : ℕ) (fs es : Entries) (last : Bool) (b : Grown) (e : StopError) → fs ≡ es
    → b.shut ≡ false → Stops h e (planted h (planting n fs)) → Stops h e (plant_here h n es last b)
here_planted_stop h n fs es last b e same shut stop =
    stops_same h e _ _ (ap (λ l. plant_here h n l last b) (sym same) ∙ here_open h n fs last b shut)
    (stops_on h e (planted h (planting n fs)) _ stop)

pub here_put : (h : Spot) (n : ℕ) (fs es : Entries) (last this : Bool) (b : Grown) (s : Slice) → fs ≡ es
    → b.shut ≡ false → planted h (planting n fs) ≡ Ok s → this ≡ last
    → plant_here h n es last b ≡ put_alone h s false this b
here_put h n fs es last this b s same shut ok e =
    ap (λ l. plant_here h n l last b) (sym same) ∙ here_open h n fs last b shut
    ∙ goes_on (planted h (planting n fs)) _ s ok ∙ ap (λ t. put_alone h s false t b) (sym e)

pub root_planted_stop : (h : Spot) (n : ℕ) (fs es : Entries) (b : Grown) (e : StopError) → fs ≡ es → AreInOrder n fs
    → 0 < length fs → (IsHiddenAlone fs → ⊥) → Stops h e (planted h (planting n fs)) → Stops h e (plant_root h n es b)
root_planted_stop h n fs es b e same order some alone stop =
    stops_same h e _ _ (ap (λ l. plant_root h n l b) (sym same) ∙ root_is h n fs b order some alone)
    (stops_on h e (planted h (planting n fs)) _ stop)

pub root_put_of : (h : Spot) (n : ℕ) (fs es : Entries) (b : Grown) (s : Slice) (cell : Tree) → fs ≡ es → AreInOrder n fs
    → 0 < length fs → (IsHiddenAlone fs → ⊥) → planted h (planting n fs) ≡ Ok s → cell ≡ cell_of s
    → plant_root h n es b ≡ put_root h cell (is_deep cell) b
root_put_of h n fs es b s cell e order some alone ok same =
    ap (λ l. plant_root h n l b) (sym e) ∙ root_put h n fs b s cell order some alone ok same

pub root_alone_of : (h : Spot) (n : ℕ) (cells slice : List (List ℕ × Held)) (us : List (List ℕ × Hidden)) (es : Entries)
    (x : Hidden) (b : Grown) → merged (map leaf_of cells) us ≡ es → slice ≡ cells
    → (map leaf_of slice ≡ []) × (us ≡ ([], x) ∷ [])
    → plant_root h n es b ≡ put_root h (pruned_of x.hash x.depth) (nat_lt 1023 x.depth) b
root_alone_of h n cells slice us es x b e f alone =
    ap (λ l. plant_root h n l b) (sym e) ∙ ap (λ l. plant_root h n (merged (map leaf_of l) us) b) (sym f)
    ∙ root_alone h n (map leaf_of slice) us x b alone
