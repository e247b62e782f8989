-- The values of a dictionary's leaves one after the other.
use Rattle.std.proofs.Common.{◌≡◌, ℕ, ◌+◌, List, [], ◌∷◌, ◌++◌, Result, Ok, Err, refl, ap, sym, ◌∙◌, arith}
use Rattle.core_form.specs.Closed.{Closed}
use Rattle.hashmap_tree.specs.Entries.{Slice}
use Rattle.plan_reading.specs.StopLaws.{stops_then}
use Rattle.plan_reading.specs.Stops.{Stops}
use Rattle.plan_reading.specs.declared.stop.StopError.{StopError}
use Rattle.spelling.specs.Goals.{at_type}
use Rattle.spelling.specs.Places.{Place, Spot}
use Rattle.spelling.specs.PlainReader.{◌>>=◌, Reader, leaf_values, whole_of}
use Rattle.typed_value.specs.Values.{Plain, PlainPairs, a_pair, no_pairs, parts, parts_by}
use Rattle.typed_value.specs.View.{pairs_of}
use Rattle.typed_reader.proofs.Steps.{goes_on, stops_same}

-- these pairs, and then others
abbrev pub before : List (List ℕ × Plain) → PlainPairs → PlainPairs
before [] more = more
before (p ∷ ps) more = a_pair p.0 p.1 (before ps more)

abbrev pub pairs_first : List (List ℕ × Plain) → Result PlainPairs Place → Result PlainPairs Place
pairs_first ps r = r >>= (λ more. Ok (before ps more))

before_one : (ps : List (List ℕ × Plain)) (k : List ℕ) (v : Plain) (more : PlainPairs)
    → before ps (a_pair k v more) ≡ before (ps ++ (k, v) ∷ []) more
before_one [] k v more = refl
before_one (p ∷ ps) k v more = ap (a_pair p.0 p.1) (before_one ps k v more)

pair_later : (ps : List (List ℕ × Plain)) (k : List ℕ) (v : Plain) (r : Result PlainPairs Place)
    → pairs_first ps (r >>= (λ more. Ok (a_pair k v more))) ≡ pairs_first (ps ++ (k, v) ∷ []) r
pair_later ps k v (Ok more) = ap Ok (before_one ps k v more)
pair_later ps k v (Err p) = refl

none_first : (r : Result PlainPairs Place) → pairs_first [] r ≡ r
none_first (Ok x) = refl
none_first (Err p) = refl

-- what the pairs that are read and the leaves that are left make of the whole
pub record Paired (R : Reader) (t : Closed) (leaves : List (List ℕ × Slice)) (from : ℕ) (ps : List (List ℕ × Plain))
    (rest : List (List ℕ × Slice)) (q : ℕ) : Type 0 where
  pub so_far : (h : Spot) → leaf_values R h t from leaves ≡ pairs_first ps (leaf_values R h t q rest)
  pub counts : q ≡ from + parts_by (pairs_of ps)

pub none_paired : (R : Reader) (t : Closed) (leaves : List (List ℕ × Slice)) (from : ℕ) → Paired R t leaves from [] leaves from
none_paired R t leaves from = record {
  so_far = λ h. sym (none_first (leaf_values R h t from leaves));
  counts = omega arith;
}

parts_one : (ps : List (List ℕ × Plain)) (k : List ℕ) (v : Plain)
    → parts_by (pairs_of (ps ++ (k, v) ∷ [])) ≡ parts_by (pairs_of ps) + parts v
parts_one [] k v = omega arith
parts_one (p ∷ ps) k v = let more = parts_one ps k v in omega (arith, more)

pub one_paired : (R : Reader) (t : Closed) (leaves : List (List ℕ × Slice)) (from : ℕ) (ps : List (List ℕ × Plain))
    (key : List ℕ) (content : Slice) (rest : List (List ℕ × Slice)) (q : ℕ) (v : Plain) (k : ℕ)
    → Paired R t leaves from ps ((key, content) ∷ rest) q
    → ((h : Spot) → whole_of R h (at_type t) q content ≡ Ok v)
    → k ≡ q + parts v
    → Paired R t leaves from (ps ++ (key, v) ∷ []) rest k
one_paired R t leaves from ps key content rest q v k b read count_of =
    let counted = b.counts in
    let more = parts_one ps key v in
    record {
      so_far = λ h. b.so_far h ∙ ap (pairs_first ps)
          (goes_on (whole_of R h (at_type t) q content)
          (λ v. leaf_values R h t (q + parts v) rest >>= (λ more. Ok (a_pair key v more))) v (read h))
          ∙ pair_later ps key v (leaf_values R h t (q + parts v) rest)
          ∙ ap (λ n. pairs_first (ps ++ (key, v) ∷ []) (leaf_values R h t n rest)) (sym count_of);
      counts = omega (arith, counted, more, count_of);
    }

pub leaf_stops : (R : Reader) (t : Closed) (leaves : List (List ℕ × Slice)) (from : ℕ) (ps : List (List ℕ × Plain))
    (key : List ℕ) (content : Slice) (rest : List (List ℕ × Slice)) (q : ℕ) (h : Spot) (e : StopError)
    → Paired R t leaves from ps ((key, content) ∷ rest) q
    → Stops h e (whole_of R h (at_type t) q content)
    → Stops h e (leaf_values R h t from leaves)
leaf_stops R t leaves from ps key content rest q h e b stop =
    stops_same h e (leaf_values R h t from leaves) (pairs_first ps (leaf_values R h t q ((key, content) ∷ rest))) (b.so_far h)
    (stops_then h e (leaf_values R h t q ((key, content) ∷ rest)) (λ more. Ok (before ps more))
    (stops_then h e (whole_of R h (at_type t) q content)
    (λ v. leaf_values R h t (q + parts v) rest >>= (λ more. Ok (a_pair key v more))) stop))

all_before : (ps : List (List ℕ × Plain)) → before ps no_pairs ≡ pairs_of ps
all_before [] = refl
all_before (p ∷ ps) = ap (a_pair p.0 p.1) (all_before ps)

pub all_paired : (R : Reader) (t : Closed) (leaves : List (List ℕ × Slice)) (from : ℕ) (ps : List (List ℕ × Plain))
    (q : ℕ) (h : Spot) → Paired R t leaves from ps [] q → leaf_values R h t from leaves ≡ Ok (pairs_of ps)
all_paired R t leaves from ps q h b = b.so_far h ∙ ap Ok (all_before ps)
