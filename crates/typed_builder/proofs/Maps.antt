-- A dictionary: which keys fit, the contents of its leaves, and its tree.
use Rattle.std.proofs.Common.{◌≡◌, ℕ, ◌+◌, Bool, true, false, cond, List, [], ◌∷◌, Option, Some, None, Result, Ok, Err}
use Rattle.std.proofs.Common.{refl, ap, sym, ◌∙◌, subst}
use Rattle.cell_nodes.specs.declared.tree.Hidden.{Hidden}
use Rattle.cell_nodes.specs.declared.tree.Mode.{Mode}
use Rattle.core_form.specs.Closed.{Closed}
use Rattle.hashmap_tree.specs.Entries.{Entries}
use Rattle.plan_reading.specs.StopLaws.{stops_at, stops_then}
use Rattle.plan_reading.specs.Stops.{Gives, Stops, StopsAt}
use Rattle.plan_reading.specs.declared.stop.StopError.{StopError}
use Rattle.spelling.specs.Goals.{Goal, at_type}
use Rattle.spelling.specs.Places.{Place, Spot, stuck}
use Rattle.spelling.specs.PlainReader.{◌>>=◌}
use Rattle.spelling.specs.declared.Cause.TheVariants.{Shape}
use Rattle.spelling_laws.specs.StepLaws.{bind_ok, ok_one, when_true, when_false}
use Rattle.typed_value.specs.Values.{Plain, PlainPairs, a_pair, no_pairs, parts}
use Rattle.building.specs.Growing.{Grown, empty}
use Rattle.building.specs.MapTests.{FitEdge, FitRoot, fits_edge, fits_root, outline}
use Rattle.building.specs.PlainBuilder.{Leaves, Made, Maker, entries_of, is_last, make_dict, make_dict_e, make_leaves}
use Rattle.building.specs.PlainBuilder.{plant_here, plant_root}
use Rattle.building.specs.Unfit.{LaidLeaves, Lays}
use Rattle.building_laws.specs.DictStandsLaws.{edge_is, laid_outline, root_is}
use Rattle.typed_builder.proofs.Steps.{goes_on, stops_same}

abbrev Unknowns : Type 0
Unknowns = List (List ℕ × Hidden)

-- ---- the contents have the keys of the map

abbrev any : Lays
any g q v b outs x = Unit {0}

leaves_laid : (R : Maker) (h : Spot) (t : Closed) (q : ℕ) (ps : PlainPairs) (xs : Leaves) → make_leaves R h t q ps ≡ Ok
    xs
    → LaidLeaves any t q ps xs
leaves_laid R h t q no_pairs xs e = sym (ok_one [] xs (Ok xs) e)
leaves_laid R h t q (a_pair k v ps) xs e =
    let x = bind_ok (R h (at_type t) q v empty) _ xs e in
    let y = bind_ok (make_leaves R h t (q + parts v) ps) _ xs x.2 in
    here x.0 y.0 (leaves_laid R h t (q + parts v) ps y.0 y.1) xs (ok_one _ xs (Ok xs) y.2)
  where
    here : (m : Made) (ys : Leaves) → LaidLeaves any t (q + parts v) ps ys → (xs : Leaves) → (k, m.1) ∷ ys ≡ xs
        → LaidLeaves any t q (a_pair k v ps) xs
    here m ys l xs e = subst (LaidLeaves any t q (a_pair k v ps)) e ([], refl, tt, l)

pub fit_edge : (mode : Mode) (R : Maker) (h : Spot) (n : ℕ) (t : Closed) (q : ℕ) (ps : PlainPairs) (us : Unknowns)
    (xs : Leaves) → fits_edge mode n (outline ps us) ≡ true → make_leaves R h t q ps ≡ Ok xs
    → FitEdge mode n (entries_of xs us)
fit_edge mode R h n t q ps us xs fits made =
    edge_is mode n (entries_of xs us)
    (ap (fits_edge mode n) (sym (laid_outline any ps us t q xs (leaves_laid R h t q ps xs made))) ∙ fits)

pub fit_root : (mode : Mode) (R : Maker) (h : Spot) (n : ℕ) (t : Closed) (q : ℕ) (ps : PlainPairs) (us : Unknowns)
    (xs : Leaves) → fits_root mode n (outline ps us) ≡ true → make_leaves R h t q ps ≡ Ok xs
    → FitRoot mode n (entries_of xs us)
fit_root mode R h n t q ps us xs fits made =
    root_is mode n (entries_of xs us)
    (ap (fits_root mode n) (sym (laid_outline any ps us t q xs (leaves_laid R h t q ps xs made))) ∙ fits)

-- ---- Hashmap

abbrev edge_then : Spot → ℕ → Unknowns → Grown → Leaves → Result Made Place
edge_then h n us b xs = plant_here h n (entries_of xs us) (is_last xs us) b

pub dict_not : (mode : Mode) (R : Maker) (h : Spot) (n : ℕ) (t : Closed) (q : ℕ) (ps : PlainPairs) (us : Unknowns)
    (b : Grown) → fits_edge mode n (outline ps us) ≡ false → make_dict mode R h n t q ps us b ≡ Err (stuck h Shape)
dict_not mode R h n t q ps us b fits = when_false {A = Result Made Place} (fits_edge mode n (outline ps us)) _ _ fits

dict_is : (mode : Mode) (R : Maker) (h : Spot) (n : ℕ) (t : Closed) (q : ℕ) (ps : PlainPairs) (us : Unknowns)
    (b : Grown) → fits_edge mode n (outline ps us) ≡ true
    → make_dict mode R h n t q ps us b ≡ (make_leaves R h t q ps >>= edge_then h n us b)
dict_is mode R h n t q ps us b fits = when_true {A = Result Made Place} (fits_edge mode n (outline ps us)) _ _ fits

pub dict_stops : (mode : Mode) (R : Maker) (h : Spot) (n : ℕ) (t : Closed) (q : ℕ) (ps : PlainPairs) (us : Unknowns)
    (b : Grown) (e : StopError) → fits_edge mode n (outline ps us) ≡ true → Stops h e (make_leaves R h t q ps)
    → Stops h e (make_dict mode R h n t q ps us b)
dict_stops mode R h n t q ps us b e fits stop =
    stops_same h e _ _ (dict_is mode R h n t q ps us b fits)
    (stops_then h e (make_leaves R h t q ps) (edge_then h n us b) stop)

pub dict_on : (mode : Mode) (R : Maker) (h : Spot) (n : ℕ) (t : Closed) (q : ℕ) (ps : PlainPairs) (us : Unknowns)
    (b : Grown) (xs : Leaves) → fits_edge mode n (outline ps us) ≡ true → make_leaves R h t q ps ≡ Ok xs
    → make_dict mode R h n t q ps us b ≡ plant_here h n (entries_of xs us) (is_last xs us) b
dict_on mode R h n t q ps us b xs fits made =
    dict_is mode R h n t q ps us b fits ∙ goes_on (make_leaves R h t q ps) (edge_then h n us b) xs made

-- ---- HashmapE

abbrev root_then : Spot → ℕ → Unknowns → Grown → Leaves → Result Made Place
root_then h n us b xs = plant_root h n (entries_of xs us) b

pub dict_e_not : (mode : Mode) (R : Maker) (h : Spot) (n : ℕ) (t : Closed) (q : ℕ) (ps : PlainPairs) (us : Unknowns)
    (b : Grown) → fits_root mode n (outline ps us) ≡ false → make_dict_e mode R h n t q ps us b ≡ Err (stuck h Shape)
dict_e_not mode R h n t q ps us b fits = when_false {A = Result Made Place} (fits_root mode n (outline ps us)) _ _ fits

dict_e_is : (mode : Mode) (R : Maker) (h : Spot) (n : ℕ) (t : Closed) (q : ℕ) (ps : PlainPairs) (us : Unknowns)
    (b : Grown) → fits_root mode n (outline ps us) ≡ true
    → make_dict_e mode R h n t q ps us b ≡ (make_leaves R h t q ps >>= root_then h n us b)
dict_e_is mode R h n t q ps us b fits = when_true {A = Result Made Place} (fits_root mode n (outline ps us)) _ _ fits

pub dict_e_stops : (mode : Mode) (R : Maker) (h : Spot) (n : ℕ) (t : Closed) (q : ℕ) (ps : PlainPairs) (us : Unknowns)
    (b : Grown) (e : StopError) → fits_root mode n (outline ps us) ≡ true → Stops h e (make_leaves R h t q ps)
    → Stops h e (make_dict_e mode R h n t q ps us b)
dict_e_stops mode R h n t q ps us b e fits stop =
    stops_same h e _ _ (dict_e_is mode R h n t q ps us b fits)
    (stops_then h e (make_leaves R h t q ps) (root_then h n us b) stop)

pub dict_e_on : (mode : Mode) (R : Maker) (h : Spot) (n : ℕ) (t : Closed) (q : ℕ) (ps : PlainPairs) (us : Unknowns)
    (b : Grown) (xs : Leaves) → fits_root mode n (outline ps us) ≡ true → make_leaves R h t q ps ≡ Ok xs
    → make_dict_e mode R h n t q ps us b ≡ plant_root h n (entries_of xs us) b
dict_e_on mode R h n t q ps us b xs fits made =
    dict_e_is mode R h n t q ps us b fits ∙ goes_on (make_leaves R h t q ps) (root_then h n us b) xs made
