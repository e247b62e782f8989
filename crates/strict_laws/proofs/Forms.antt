-- What each form of a value takes in mode Lax, and then in mode Whole of a slice that is no longer.
use Rattle.std.proofs.Common.{◌≡◌, inl, inr, ℕ, zero, suc, Bool, true, List, [], ◌∷◌, length, refl, sym, subst, arith}
use Rattle.bit_slice.specs.Bits.{spelled, signed_spelled}
use Rattle.cell_nodes.specs.Good.{IsGood, AllGood, none, more}
use Rattle.cell_nodes.specs.declared.tree.Hidden.{Hidden}
use Rattle.cell_nodes.specs.declared.tree.Mode.TheVariants.{Whole, Lax}
use Rattle.cell_nodes.specs.declared.tree.Tree.{Tree}
use Rattle.core_form.specs.Core.{Word, Items, no_items, an_item, check, solve, field, sets, CoreSchema}
use Rattle.core_form.specs.Closed.{Closed}
use Rattle.core_form.specs.Closed as closed
use Rattle.core_form.specs.Scope.{Scope, with_number, bind}
use Rattle.hashmap_tree.specs.Entries.{Slice, cell_of, Then}
use Rattle.spelling.specs.Goals.{Row, natural, integer, string, no_row, row, Goal, at_type, at_field, at_cell, Shape, typed}
use Rattle.spelling.specs.Goals.{fields_here, fields_under, left_out, as_cell, at_fields, under_ref}
use Rattle.spelling.specs.Slices.{nothing, only_ref, took}
use Rattle.spelling.specs.Spells.{Meaning, Meanings, no_meanings, a_meaning, Keyed, no_keyed, a_keyed, SpellsNumber, SpellsString}
use Rattle.spelling.specs.Spells.{AtRow, Fields, SpellsDeclared, SpellsInner, SpellsAbsent, Repeats, SpellsList, Holds}
use Rattle.spelling.specs.Spells.{SpellsChild, SpellsRef, SpellsUnknown, SpellsRaw, SpellsRest, ByShape}
use Rattle.typed_value.specs.Values as values
use Rattle.strict_laws.proofs.Less.{Less, Fine, Shorter, less_self, less_cell, good_fine, shorter_self}
use Rattle.strict_laws.proofs.Steps.{weight, MovesAlike, Tightened, tightened_then, tightened_as, tightened_none, tightened_bits}
use Rattle.strict_laws.proofs.Steps.{tightened_ref, ref_fine, only_nothing, shorter_nothing, only_one, takes_alike}

-- ---- meanings

-- what is spelled by the first is spelled by the second, of a slice that is no longer
abbrev pub Tightens : Meaning → Meaning → Type 0
Tightens L W =
    (g : Goal) (before : Slice) (outs : List ℕ) (after : Slice) → L g before outs after → Fine before
    → Tightened (λ b a. W g b outs a) before after

abbrev pub TightensAll : Meanings → Meanings → Type 0
TightensAll no_meanings no_meanings = Unit {0}
TightensAll no_meanings (a_meaning W Ws) = ⊥
TightensAll (a_meaning L Ls) no_meanings = ⊥
TightensAll (a_meaning L Ls) (a_meaning W Ws) = Tightens L W × TightensAll Ls Ws

abbrev pub TightensBy : Keyed → Keyed → Type 0
TightensBy no_keyed no_keyed = Unit {0}
TightensBy no_keyed (a_keyed j W Ws) = ⊥
TightensBy (a_keyed k L Ls) no_keyed = ⊥
TightensBy (a_keyed k L Ls) (a_keyed j W Ws) = (k ≡ j) × Tightens L W × TightensBy Ls Ws

-- a closing, likewise
abbrev pub TightensAt : (Shape → Slice → List ℕ → Slice → Type 0) → (Shape → Slice → List ℕ → Slice → Type 0) → Type 0
TightensAt F G =
    (c : Shape) (before : Slice) (outs : List ℕ) (after : Slice) → F c before outs after → Fine before
    → Tightened (λ b a. G c b outs a) before after

pub by_shape : (F G : Shape → Slice → List ℕ → Slice → Type 0) → TightensAt F G → Tightens (ByShape F) (ByShape G)
by_shape F G f g before outs after e fine =
    tightened_as (f e.0 before outs after e.2 fine) (λ b a k. (e.0, e.1, k))

-- ---- numbers and bit strings

number_row : (negative : Bool) (size : ℕ) (r : Row) (before : Slice) (outs : List ℕ) (after : Slice)
    → SpellsNumber negative size r before outs after → Fine before
    → Tightened (λ b a. SpellsNumber negative size r b outs a) before after
number_row negative size (natural width bound named) before outs after e fine =
    let bits = spelled width size in
    tightened_as (tightened_bits bits before after e.3 fine) (λ b a k. (e.0, e.1, e.2, k))
number_row negative size (integer width) before outs after e fine =
    let bits = signed_spelled width e.0 in
    tightened_as (tightened_bits bits before after e.4 fine) (λ b a k. (e.0, e.1, e.2, e.3, k))
number_row negative size (string width) before outs after e fine = absurd e
number_row negative size no_row before outs after e fine = absurd e

pub number_tightened : (negative : Bool) (size : ℕ)
    → TightensAt (AtRow (SpellsNumber negative size)) (AtRow (SpellsNumber negative size))
number_tightened negative size (typed t) before outs after e fine = number_row negative size (row t) before outs after e fine
number_tightened negative size _ before outs after e fine = absurd e

string_row : (bits : List ℕ) (r : Row) (before : Slice) (outs : List ℕ) (after : Slice)
    → SpellsString bits r before outs after → Fine before
    → Tightened (λ b a. SpellsString bits r b outs a) before after
string_row bits (string width) before outs after e fine =
    tightened_as (tightened_bits bits before after e.2 fine) (λ b a k. (e.0, e.1, k))
string_row bits (natural width bound named) before outs after e fine = absurd e
string_row bits (integer width) before outs after e fine = absurd e
string_row bits no_row before outs after e fine = absurd e

pub string_tightened : (bits : List ℕ) → TightensAt (AtRow (SpellsString bits)) (AtRow (SpellsString bits))
string_tightened bits (typed t) before outs after e fine = string_row bits (row t) before outs after e fine
string_tightened bits _ before outs after e fine = absurd e

-- ---- records

pub fields_tightened : (is : Items) (Ls Ws : Meanings) → TightensAll Ls Ws → (scope : Scope) (before : Slice) (end : Scope)
    (after : Slice) → Fields is Ls scope before end after → Fine before
    → Tightened (λ b a. Fields is Ws scope b end a) before after
fields_tightened no_items no_meanings no_meanings r scope before end after e fine =
    tightened_as (tightened_none before after e.1 fine) (λ b a k. (e.0, k))
fields_tightened no_items no_meanings (a_meaning W Ws) r scope before end after e fine = absurd r
fields_tightened no_items (a_meaning L Ls) Ws r scope before end after e fine = absurd e
fields_tightened (an_item (check x op y i) is) Ls Ws r scope before end after e fine =
    tightened_as (fields_tightened is Ls Ws r scope before end after e.5 fine) (λ b a k. (e.0, e.1, e.2, e.3, e.4, k))
fields_tightened (an_item (solve v x y i) is) Ls Ws r scope before end after e fine =
    let inner = with_number v e.0 scope in
    tightened_as (fields_tightened is Ls Ws r inner before end after e.2 fine) (λ b a k. (e.0, e.1, k))
fields_tightened (an_item (field x slot c t) is) no_meanings Ws r scope before end after e fine = absurd e
fields_tightened (an_item (field x slot c t) is) (a_meaning L Ls) no_meanings r scope before end after e fine = absurd r
fields_tightened (an_item (field x slot c t) is) (a_meaning L Ls) (a_meaning W Ws) r scope before end after e fine =
    let inner = bind (sets slot t) e.0 scope in
    let one = r.0 (at_field c t scope) before e.0 e.1 e.2 fine in
    let others = fields_tightened is Ls Ws r.1 inner e.1 end after e.3 one.fine in
    tightened_as (tightened_then one others) (λ b a k. (e.0, k.0, k.1, k.2))

pub declared_tightened : (schema : CoreSchema) (name : Word) (names : List Word) (Ls Ws : Meanings) → TightensAll Ls Ws
    → TightensAt (SpellsDeclared schema name names Ls) (SpellsDeclared schema name names Ws)
declared_tightened schema name names Ls Ws r (typed (closed.named type args)) before outs after e fine =
    let tag = tightened_bits e.1.core.tag before e.3 e.7 fine in
    let items = fields_tightened e.1.core.items Ls Ws r e.2 e.3 e.4 after e.8 tag.fine in
    tightened_as (tightened_then tag items) (λ b a k. (e.0, e.1, e.2, k.0, e.4, e.5, e.6, k.1, k.2, e.9))
declared_tightened schema name names Ls Ws r _ before outs after e fine = absurd e

pub inner_tightened : (names : List Word) (Ls Ws : Meanings) → TightensAll Ls Ws
    → TightensAt (SpellsInner names Ls) (SpellsInner names Ws)
inner_tightened names Ls Ws r (fields_here is scope) before outs after e fine =
    tightened_as (fields_tightened is Ls Ws r scope before e.2 after e.3 fine) (λ b a k. (e.0, e.1, e.2, k))
inner_tightened names Ls Ws r _ before outs after e fine = absurd e

pub absent_tightened : TightensAt SpellsAbsent SpellsAbsent
absent_tightened left_out before outs after e fine =
    tightened_as (tightened_none before after e.1 fine) (λ b a k. (e.0, k))
absent_tightened _ before outs after e fine = absurd e

-- ---- repetitions

-- an item that takes something
takes_tightened : {V : Slice → Slice → Type 0} {before after : Slice} → took before after ≡ true
    → Tightened V before after → Tightened (λ b a. V b a × (took b a ≡ true)) before after
takes_tightened {before = before} {after = after} t r = record {
  fine = r.fine;
  strict = λ end h.
      let k = r.strict end h in record {
        start = k.start;
        spelled = (k.spelled, takes_alike before after k.start end k.alike t);
        shorter = k.shorter;
        alike = k.alike;
      };
}

repeats_tightened : (Ls Ws : Meanings) → TightensAll Ls Ws → (n : ℕ) (t : Closed) (before after : Slice)
    → Repeats Ls n t before after → Fine before → Tightened (λ b a. Repeats Ws n t b a) before after
repeats_tightened no_meanings no_meanings r n t before after e fine =
    tightened_as (tightened_none before after e.1 fine) (λ b a k. (e.0, k))
repeats_tightened no_meanings (a_meaning W Ws) r n t before after e fine = absurd r
repeats_tightened (a_meaning L Ls) no_meanings r n t before after e fine = absurd r
repeats_tightened (a_meaning L Ls) (a_meaning W Ws) r n t before after e fine =
    let one = r.0 (at_type t) before e.1 e.2 e.4 fine in
    let others = repeats_tightened Ls Ws r.1 e.0 t e.2 after e.6 one.fine in
    tightened_as (tightened_then (takes_tightened e.5 one) others) (λ b a k. (e.0, e.1, k.0, e.3, k.1.0, k.1.1, k.2))

pub list_tightened : (Ls Ws : Meanings) → TightensAll Ls Ws → TightensAt (SpellsList Ls) (SpellsList Ws)
list_tightened Ls Ws r (typed (closed.repeat n t)) before outs after e fine =
    tightened_as (repeats_tightened Ls Ws r n t before after e.1 fine) (λ b a k. (e.0, k))
list_tightened Ls Ws r _ before outs after e fine = absurd e

-- ---- references

-- the cell of a reference that holds the same in mode Whole
abbrev pub HeldLess : Meaning → Goal → Tree → Type 0
HeldLess W g c = (d : Tree) × Holds Whole W g d × Less d c

-- what takes all of a good cell's content
whole_cell : (V : Slice → Slice → Type 0) (c : Tree) (s : Slice) → c ≡ cell_of s → IsGood c
    → (Fine s → Tightened V s nothing) → (t : Slice) × V t nothing × Less (cell_of t) c
whole_cell V c s same g f =
    let G : Tree → Type 0 = λ x. IsGood x in
    let gs = subst G same g in
    let k = (f (good_fine s gs)).strict nothing shorter_nothing in
    let L : Tree → Type 0 = λ x. Less (cell_of k.start) x in
    (k.start, k.spelled, subst L (sym same) (less_cell k.start s gs k.shorter))

pub holds_tightened : (L W : Meaning) → Tightens L W → (g : Goal) (c : Tree) → Holds Lax L g c → IsGood c → HeldLess W g c
holds_tightened L W r at_cell c e g =
    let fine : Fine (only_ref c) = record { bits = tt; refs = one_good c g } in
    let k = (r at_cell (only_ref c) e.0 nothing e.2 fine).strict nothing shorter_nothing in
    let one = only_one k.start c k.shorter in
    let P : Slice → Type 0 = λ s. W at_cell s e.0 nothing in
    (one.0, (e.0, refl, subst P one.1 k.spelled), one.2)
  where
    one_good : (c : Tree) → IsGood c → AllGood (c ∷ [])
    one_good c g = more c [] g none
holds_tightened L W r (at_type t) c e g =
    let V : Slice → Slice → Type 0 = λ b a. W (at_type t) b e.1 a in
    let k = whole_cell V c e.0 e.2 g (r (at_type t) e.0 e.1 nothing e.3) in
    (cell_of k.0, (k.0, e.1, refl, k.1), k.2)
holds_tightened L W r (at_field x t scope) c e g =
    let V : Slice → Slice → Type 0 = λ b a. W (at_field x t scope) b e.1 a in
    let k = whole_cell V c e.0 e.2 g (r (at_field x t scope) e.0 e.1 nothing e.3) in
    (cell_of k.0, (k.0, e.1, refl, k.1), k.2)

abbrev pub anywhere : Slice → Type 0
anywhere s = Unit {0}

child_tightened : (L W : Meaning) → Tightens L W → (g : Goal) (before : Slice) (outs : List ℕ) (after : Slice)
    → SpellsChild anywhere Lax L g before outs after → Fine before
    → Tightened (λ b a. SpellsChild anywhere Whole W g b outs a) before after
child_tightened L W r g before outs after e fine =
    let P : Tree → Type 0 = λ d. Holds Whole W g d in
    let k = holds_tightened L W r g e.0 e.3 (ref_fine [] e.0 before after e.2 fine).1 in
    tightened_as (tightened_ref P [] e.0 k.0 before after e.2 fine k.1 k.2) (λ b a x. (x.0, e.1, x.1, x.2, tt))

pub ref_tightened : (L W : Meaning) → Tightens L W → TightensAt (SpellsRef anywhere Lax L) (SpellsRef anywhere Whole W)
ref_tightened L W r (typed (closed.ref t)) before outs after e fine =
    child_tightened L W r (under_ref t) before outs after e fine
ref_tightened L W r (fields_under is scope) before outs after e fine =
    child_tightened L W r (at_fields is scope) before outs after e fine
ref_tightened L W r _ before outs after e fine = absurd e

-- no cell is hidden in mode Lax
pub unknown_tightened : (h : Hidden) → TightensAt (SpellsUnknown Lax h) (SpellsUnknown Whole h)
unknown_tightened h (typed (closed.ref t)) before outs after e fine = let seen = e.3 in cc
unknown_tightened h (fields_under is scope) before outs after e fine = let seen = e.3 in cc
unknown_tightened h _ before outs after e fine = absurd e

pub raw_tightened : (c : Tree) → TightensAt (SpellsRaw c) (SpellsRaw c)
raw_tightened c as_cell before outs after e fine =
    let P : Tree → Type 0 = λ d. d ≡ c in
    let less = less_self c (ref_fine [] c before after e.1 fine).1 in
    tightened_as (tightened_ref P [] c c before after e.1 fine refl less)
    (λ b a x. (e.0, subst (λ (d : Tree). Then b (only_ref d) a) x.2 x.1))
raw_tightened c _ before outs after e fine = absurd e

-- all that is left: the end is nothing too
rest_alike : (s : Slice) → MovesAlike s nothing s nothing
rest_alike s = go (weight s) refl
  where
    nil : (l : List ℕ) → length l ≡ 0 → l ≡ []
    nil [] h = refl
    nil (x ∷ l) h = absurd (omega (arith, h))

    nil_trees : (l : List Tree) → length l ≡ 0 → l ≡ []
    nil_trees [] h = refl
    nil_trees (x ∷ l) h = absurd (omega (arith, h))

    go : (n : ℕ) → weight s ≡ n → MovesAlike s nothing s nothing
    go zero e =
        let b = nil s.bits (omega (arith, e)) in
        let r = nil_trees s.refs (omega (arith, e)) in
        let same : s ≡ nothing = λ i. record { bits = b i; refs = r i } in inl (same, same)
    go (suc n) e = inr (omega (arith, e), omega (arith, e))

pub rest_tightened : (s : values.Slice) → TightensAt (SpellsRest s) (SpellsRest s)
rest_tightened s (typed closed.whole) before outs after e fine =
    let F : Slice → Type 0 = λ x. Fine x in
    let empty : Fine nothing = record { bits = tt; refs = none } in record {
      fine = subst F (sym e.2) empty;
      strict = λ end h.
          let S : Slice → Type 0 = λ x. Shorter end x in
          let last = only_nothing end (subst S e.2 h) in
          let M : Slice → Type 0 = λ x. MovesAlike before x before nothing in
          let N : Slice → Type 0 = λ x. MovesAlike before after before x in record {
            start = before;
            spelled = (e.0, e.1, last);
            shorter = shorter_self before fine;
            alike = subst N (sym last) (subst M (sym e.2) (rest_alike before));
          };
    }
rest_tightened s _ before outs after e fine = absurd e
