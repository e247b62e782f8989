-- Each content spells at most one value, and each root has one reading or is stuck at one place.
use Rattle.std.proofs.Common.{◌≡◌, ℕ, ◌+◌, ◌≤◌, max, List, Result, Ok, Err, refl, sym, ◌∙◌, ◌⊎◌, inl, inr, arith, lit<}
use Rattle.std.proofs.Math.Nat.{le-max_left, le-max_right}
use Rattle.cell_nodes.specs.declared.tree.Mode.{Mode}
use Rattle.hashmap_tree.specs.Entries.{Slice}
use Rattle.typed_value.specs.Values.{Plain, levels, parts, most_levels, most_parts}
use Rattle.core_form.specs.Core.{CoreSchema}
use Rattle.spelling.specs.Acceptable.{IsAcceptable}
use Rattle.spelling.specs.Goals.{Goal, at_type}
use Rattle.spelling.specs.Spells.{Spells, Reading}
use Rattle.spelling.specs.Places.{Place, at_root}
use Rattle.spelling.specs.PlainReader.{Found, read}
use Rattle.spelling.specs.Stuck.{Stuck}
use Rattle.spelling_laws.specs.Laws.{ReaderIsSound, ReaderIsComplete, ReaderStops, StuckStops, ReadIsExact, OneSpelling, ReadOrStuck}
use Rattle.spelling_laws.specs.ProperLaws.{Proper}
use Rattle.spelling_laws.specs.SoundLaws.{root_spelled}
use Rattle.spelling_laws.specs.CountLaws.{root_counted_at}
use Rattle.spelling_laws.specs.CompleteLaws.{complete, root_complete}
use Rattle.spelling_laws.specs.RefusedLaws.{root_refused_at}
use Rattle.spelling_laws.specs.StandsLaws.{root_stands_at}

pub reader_is_sound : ReaderIsSound
reader_is_sound mode schema t c v e =
    let k = root_counted_at most_levels most_parts mode schema t c v (lit< tt) (lit< tt) e in
    record { root = root_spelled most_levels most_parts mode schema t c v e; deep = k.0; large = k.1 }

pub reader_is_complete : ReaderIsComplete
reader_is_complete mode schema ok t c v r =
    root_complete mode schema ok v most_levels most_parts r.deep r.large t c r.root

pub reader_stops : ReaderStops
reader_stops mode schema ok t c p e = root_refused_at most_levels most_parts mode schema ok t c p e

pub stuck_stops : StuckStops
stuck_stops mode schema ok t c p k = root_stands_at most_levels most_parts mode schema ok t c p k

pub read_is_exact : ReadIsExact
read_is_exact mode schema ok t c = record {
  readings = λ v. (reader_is_sound mode schema t c v, reader_is_complete mode schema ok t c v);
  places = λ p. (reader_stops mode schema ok t c p, stuck_stops mode schema ok t c p);
}

-- at any goal whose equations seek their unknowns
pub one_spelling_at : (mode : Mode) (schema : CoreSchema) → IsAcceptable schema → (g : Goal) → Proper g → (s : Slice)
    (v w : Plain) (x y : List ℕ) (a b : Slice) → Spells mode schema v g s x a → Spells mode schema w g s y b
    → (◌≡◌ {A = Found} (v, x, a) (w, y, b))
one_spelling_at mode schema ok g proper s v w x y a b e f =
    let n = max (levels v) (levels w) in
    let m = max (parts v) (parts w) in
    let first : 0 + parts v ≤ m = omega (arith, le-max_left (parts v) (parts w)) in
    let second : 0 + parts w ≤ m = omega (arith, le-max_right (parts v) (parts w)) in
    same (sym (complete mode schema ok v n m (le-max_left (levels v) (levels w)) at_root g 0 s x a proper first e) ∙ complete mode schema ok w n m (le-max_right (levels v) (levels w)) at_root g 0 s y b proper second f)
  where
    same : {x y : Found} → (◌≡◌ {A = Result Found Place} (Ok x) (Ok y)) → x ≡ y
    same e = cc

pub one_spelling : OneSpelling
one_spelling mode schema ok t s v w x y a b e f = one_spelling_at mode schema ok (at_type t) tt s v w x y a b e f

pub read_or_stuck : ReadOrStuck
read_or_stuck mode schema ok t c = record {
  some = go (read mode schema t c) refl;
  not_both = λ v p r k. clash (read mode schema t c) v p (reader_is_complete mode schema ok t c v r) (stuck_stops mode schema ok t c p k);
  one_reading = λ v w r k. one (read mode schema t c) v w (reader_is_complete mode schema ok t c v r) (reader_is_complete mode schema ok t c w k);
  one_place = λ p r k l. place (read mode schema t c) p r (stuck_stops mode schema ok t c p k) (stuck_stops mode schema ok t c r l);
}
  where
    go : (r : Result Plain Place) → read mode schema t c ≡ r
        → ((v : Plain) × Reading mode schema t c v) ⊎ ((p : Place) × Stuck mode schema t c p)
    go (Ok v) e = inl (v, reader_is_sound mode schema t c v e)
    go (Err p) e = inr (p, reader_stops mode schema ok t c p e)

    clash : (r : Result Plain Place) (v : Plain) (p : Place) → r ≡ Ok v → r ≡ Err p → ⊥
    clash r v p e f = cc

    one : (r : Result Plain Place) (v w : Plain) → r ≡ Ok v → r ≡ Ok w → v ≡ w
    one r v w e f = cc

    place : (r : Result Plain Place) (p q : Place) → r ≡ Err p → r ≡ Err q → p ≡ q
    place r p q e f = cc
