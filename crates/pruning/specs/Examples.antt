-- Worked examples, computed: the spots of small values, what chosen paths keep of them, and what is known then.
use Rattle.std.specs.Prelude.{◌≡◌, ℕ, false, true, List, [], ◌∷◌, Some, None, codes, refl}
use Rattle.cell_nodes.specs.Constructed.{stub}
use Rattle.cell_nodes.specs.declared.tree.Tree.{Tree}
use Rattle.typed_value.specs.Paths.{Stride, named, keyed}
use Rattle.typed_value.specs.Values.{Plain, no_vals, a_val, no_pairs, a_pair}
use Rattle.typed_value.specs.Values as values
use Rattle.pruning.specs.declared.Knowledge.TheVariants.{Known, KnownAbsent, NotKnown}
use Rattle.pruning.specs.Blanked.{hidden_of, Blanked}
use Rattle.pruning.specs.Cut.{cell_with, cut}
use Rattle.pruning.specs.Knowing.{known, names_absence}
use Rattle.pruning.specs.Laid.{Laid, number, record_of, ref_to, ref_to_raw, map_under, no_laids, a_laid, a_leaf}
use Rattle.pruning.specs.Laid.{a_fork, plain}
use Rattle.pruning.specs.Spots.{Spot, at_root, spots, unless_kept, unkept}

-- what a chosen path shows of a value
abbrev shown : List (List Stride) → Laid → Plain
shown paths d = Blanked (plain d) (unkept paths (spots at_root d))

abbrev at_name : List ℕ → List Stride
at_name x = named x ∷ []

-- ---- references

-- two$_ a:^U b:^U = Two; u$_ v:uint8 = U;
-- two{a:^u{v:5},b:^u{v:5}}, where c is the cell of u{v:5}
abbrev five : Laid
five = record_of (Some (codes "u")) (codes "v" ∷ []) (a_laid (number false 5) no_laids)

abbrev two : Tree → Laid
two c =
    record_of (Some (codes "two")) (codes "a" ∷ codes "b" ∷ [])
    (a_laid (ref_to c five) (a_laid (ref_to c five) no_laids))

pub two_has_spots : (c : Tree) → (◌≡◌ {A = List Spot} (spots at_root (two c)) (
    record { position = 0 ∷ []; path = at_name (codes "a"); around = 0; prefix = None; tree = c }
    ∷ record { position = 1 ∷ []; path = at_name (codes "b"); around = 0; prefix = None; tree = c } ∷ []
    ))
two_has_spots c = refl

-- /a shows two{a:^u{v:5},b:?H.D}, and the second reference goes for a pruned branch
pub two_shows_a : (c : Tree) → shown (at_name (codes "a") ∷ []) (two c)
    ≡ values.record_of (Some (codes "two")) (codes "a" ∷ codes "b" ∷ [])
    (a_val (values.ref_to tt (plain five)) (a_val (values.unknown (hidden_of c)) no_vals))
two_shows_a c = refl

pub two_cut : (c : Tree)
    → cut (unless_kept (at_name (codes "a") ∷ [])) at_root (two c) ≡ cell_with c [] ∷ (stub c 0 ∷ [])
two_cut c = refl

-- without a step a path shows all
pub two_shows_all : (c : Tree) → shown ([] ∷ []) (two c) ≡ plain (two c)
two_shows_all c = refl

-- nil$0 = L; cons$1 next:^L = L;
-- cons{next:^cons{next:^nil{}}} without a path is cons{next:?H.D}: what is below a hidden reference isn't looked at
abbrev cons : Tree → Laid → Laid
cons c d = record_of (Some (codes "cons")) (codes "next" ∷ []) (a_laid (ref_to c d) no_laids)

abbrev nil : Laid
nil = record_of (Some (codes "nil")) [] no_laids

pub chain_hidden : (c e : Tree) → shown [] (cons c (cons e nil))
    ≡ values.record_of (Some (codes "cons")) (codes "next" ∷ []) (a_val (values.unknown (hidden_of c)) no_vals)
chain_hidden c e = refl

-- message{info:i{value:7},init:just{value:^(..)},body:right{value:^(..)}}: /info/value hides both cells as they are
abbrev inside : List ℕ → Laid → Laid
inside x d = record_of (Some x) (codes "value" ∷ []) (a_laid d no_laids)

abbrev message : Tree → Tree → Laid
message c b =
    record_of (Some (codes "message")) (codes "info" ∷ codes "init" ∷ codes "body" ∷ [])
    (a_laid (inside (codes "i") (number false 7))
    (a_laid (inside (codes "just") (ref_to_raw c)) (a_laid (inside (codes "right") (ref_to_raw b)) no_laids)))

abbrev with_value : List ℕ → Plain → Plain
with_value x v = values.record_of (Some x) (codes "value" ∷ []) (a_val v no_vals)

pub message_hidden : (c b : Tree) → shown ((named (codes "info") ∷ (named (codes "value") ∷ [])) ∷ []) (message c b)
    ≡ values.record_of (Some (codes "message")) (codes "info" ∷ codes "init" ∷ codes "body" ∷ [])
    (a_val (with_value (codes "i") (values.number false 7))
    (a_val (with_value (codes "just") (values.unknown (hidden_of c)))
    (a_val (with_value (codes "right") (values.unknown (hidden_of b))) no_vals)))
message_hidden c b = refl

-- ---- dictionaries

-- HashmapE 2 uint8: <00:1,01:2,10:3,11:4>, by the cells of its edges
abbrev four : Tree → Tree → Tree → Tree → Tree → Tree → Tree → Laid
four c z o zz zo oz oo =
    map_under c (
    a_fork [] z (a_fork [] zz (a_leaf [] (number false 1)) zo (a_leaf [] (number false 2)))
    o (a_fork [] oz (a_leaf [] (number false 3)) oo (a_leaf [] (number false 4))))

abbrev at_key : List ℕ → List Stride
at_key k = keyed k ∷ []

-- the key 01 shows <00?H.D,01:2,1?H.D>: of the edges at 1, 10 and 11 the outermost is hidden
pub four_shows_01 : (c z o zz zo oz oo : Tree) → shown (at_key (0 ∷ (1 ∷ [])) ∷ []) (four c z o zz zo oz oo)
    ≡ values.map_of tt (a_pair (0 ∷ (1 ∷ [])) (values.number false 2) no_pairs)
    ((0 ∷ (0 ∷ []), hidden_of zz) ∷ ((1 ∷ [], hidden_of o) ∷ []))
four_shows_01 c z o zz zo oz oo = refl

-- without a path the whole map is hidden, at the empty prefix
pub four_hidden : (c z o zz zo oz oo : Tree) → shown [] (four c z o zz zo oz oo)
    ≡ values.map_of tt no_pairs (([], hidden_of c) ∷ [])
four_hidden c z o zz zo oz oo = refl

-- <00:1,11:4>: the absent key 01 shows <00:1,1?H.D>
abbrev ends : Tree → Tree → Tree → Laid
ends c z o = map_under c (a_fork [] z (a_leaf (0 ∷ []) (number false 1)) o (a_leaf (1 ∷ []) (number false 4)))

abbrev key_01 : List (List Stride)
key_01 = at_key (0 ∷ (1 ∷ [])) ∷ []

pub ends_shown : (c z o : Tree) → shown key_01 (ends c z o)
    ≡ values.map_of tt (a_pair (0 ∷ (0 ∷ [])) (values.number false 1) no_pairs) ((1 ∷ [], hidden_of o) ∷ [])
ends_shown c z o = refl

pub absence_named : (c z o : Tree) → names_absence (plain (ends c z o)) (at_key (0 ∷ (1 ∷ []))) ≡ true
absence_named c z o = refl

pub absence_known : (c z o : Tree) → known (shown key_01 (ends c z o)) (at_key (0 ∷ (1 ∷ []))) ≡ KnownAbsent
absence_known c z o = refl

pub other_hidden : (c z o : Tree) → known (shown key_01 (ends c z o)) (at_key (1 ∷ (1 ∷ []))) ≡ NotKnown
other_hidden c z o = refl

pub first_known : (c z o : Tree) → known (shown key_01 (ends c z o)) (at_key (0 ∷ (0 ∷ []))) ≡ Known
first_known c z o = refl

-- a key of another width is absent too, and showing it keeps the edges whose prefix begins it
pub short_key_known : (c z o : Tree) → known (shown (at_key (0 ∷ []) ∷ []) (ends c z o)) (at_key (0 ∷ [])) ≡ KnownAbsent
short_key_known c z o = refl

-- ---- absence

-- a key of <00:1,11:4>, behind one reference and behind two
pub behind_one : (c z o : Tree) → names_absence (values.ref_to tt (plain (ends c z o))) (at_key (0 ∷ (1 ∷ []))) ≡ true
behind_one c z o = refl

pub behind_two : (c z o : Tree)
    → names_absence (values.ref_to tt (values.ref_to tt (plain (ends c z o)))) (at_key (0 ∷ (1 ∷ []))) ≡ true
behind_two c z o = refl

-- m{value:^<00:1,11:4>}: the steps before the key lead to the map
pub behind_steps : (b c z o : Tree)
    → names_absence (plain (inside (codes "m") (ref_to b (ends c z o)))) (named (codes "value") ∷ at_key (0 ∷ (1 ∷ [])))
    ≡ true
behind_steps b c z o = refl

-- a shorter and a longer key than those of the map
pub short_key_named : (c z o : Tree) → names_absence (plain (ends c z o)) (at_key (0 ∷ [])) ≡ true
short_key_named c z o = refl

pub long_key_named : (c z o : Tree) → names_absence (plain (ends c z o)) (at_key (0 ∷ (0 ∷ (0 ∷ [])))) ≡ true
long_key_named c z o = refl

-- no absence: a path that goes on after an absent key, a present key, a name that a record lacks, and no step
pub past_absence : (c z o : Tree)
    → names_absence (plain (ends c z o)) (keyed (0 ∷ (1 ∷ [])) ∷ at_name (codes "v")) ≡ false
past_absence c z o = refl

pub present_key : (c z o : Tree) → names_absence (plain (ends c z o)) (at_key (0 ∷ (0 ∷ []))) ≡ false
present_key c z o = refl

pub present_behind_one : (c z o : Tree)
    → names_absence (values.ref_to tt (plain (ends c z o))) (at_key (1 ∷ (1 ∷ []))) ≡ false
present_behind_one c z o = refl

pub lacked_name : (c : Tree) → names_absence (plain (two c)) (at_name (codes "z")) ≡ false
lacked_name c = refl

pub no_step : (c z o : Tree) → names_absence (plain (ends c z o)) [] ≡ false
no_step c z o = refl
