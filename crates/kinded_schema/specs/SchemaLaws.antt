-- A schema without a refusal is in order.
use Rattle.std.proofs.Common.{◌≡◌, ◌<◌, ◌≤◌, ◌+◌, ap, sym, ◌∙◌, refl, ℕ, zero, suc, List, [], ◌∷◌, ◌++◌, length, Bool, true, false}
use Rattle.std.proofs.Common.{not, cond, arith}
use Rattle.std.specs.Prelude.{Option, Some, None, option_map, filter, All}
use Rattle.tlb_syntax.specs.Tree.{ConstructorView, SchemaView}
use Rattle.kind_terms.specs.Classes.{is_dictionary}
use Rattle.kind_terms.specs.Dictionaries.{without_dictionaries}
use Rattle.kind_terms.specs.Params.{inputs}
use Rattle.kind_terms.specs.Positions.{first_position}
use Rattle.kind_terms.specs.Scopes.{made_known}
use Rattle.kind_declarations.specs.Faults.{faults}
use Rattle.kind_declarations.specs.Headings.{Heading}
use Rattle.kind_declarations.specs.Nodes.{Judged, at_result, constructor_nodes, first, heading_nodes, output_nodes}
use Rattle.kind_declarations.specs.Nodes.{record_and_outputs, record_endings, record_nodes}
use Rattle.tlb_guard.specs.Cycles.{ItemIndex, first_from, first_unguarded, first_unguarded_item, item_index, or_else}
use Rattle.tlb_guard.specs.Exposed.{Known, known}
use Rattle.tlb_kinds.specs.Kept.{IsKept}
use Rattle.tlb_kinds.specs.Refusals.{kept_of, of_contents, of_guard, of_headings, of_place, ordinary, refusals}
use Rattle.tlb_kinds.specs.Refusals.{refusals_within, unguarded_at}
use Rattle.tlb_kinds.specs.Spots.{heading, refusal_at, refusals_at}
use Rattle.kinded_schema.specs.Kinded.{AreDeclarations, IsContent, IsInOrder}
use Rattle.kinded_schema.specs.CleanLaws.{IsClean, clean_parts, none_left, none_mapped}
use Rattle.kinded_schema.specs.EndLaws.{items_known, outputs_clean}
use Rattle.kinded_schema.specs.HeadingLaws.{heading_clean}
use Rattle.kinded_schema.specs.TypeLaws.{items_clean}

-- ---- declarations

pub content_clean : (types : SchemaView) (c : ConstructorView) → IsClean (constructor_nodes types c) → IsContent types c
content_clean types c h =
    let ends = record_endings c.items types (first_position []) (made_known types (inputs c.params) c.items) in
    let both = clean_parts (record_and_outputs types c) ends h in
    let parts = clean_parts (record_nodes c.items (first types c)) (output_nodes c.params (at_result types c)) both.0 in
    record {
      items = items_clean c.items (first types c) (λ x found. cc) parts.0;
      outputs = outputs_clean c.params (at_result types c) parts.1;
      known = items_known c.items types (first_position []) (made_known types (inputs c.params) c.items) both.1;
    }

unrefused : (h : Heading) (js : List Judged) → refusals_at h js ≡ [] → IsClean js
unrefused h js none = none_mapped (refusal_at h) (faults js) none

pub declarations_clean : (types cs before : SchemaView) → of_headings before cs ≡ [] → of_contents types before cs ≡ []
    → AreDeclarations types before cs
declarations_clean types [] before headings contents = tt
declarations_clean types (c ∷ cs) before headings contents =
    let h = heading before c in
    let over = none_left (refusals_at h (heading_nodes h)) (of_headings (before ++ c ∷ []) cs) headings in
    let under = none_left (refusals_at h (constructor_nodes types c)) (of_contents types (before ++ c ∷ []) cs) contents in (
      record {
        heading = heading_clean h (unrefused h (heading_nodes h) over.0);
        content = content_clean types c (unrefused h (constructor_nodes types c) under.0);
      },
      declarations_clean types cs (before ++ c ∷ []) over.1 under.1,
    )

-- ---- the guard

abbrev constructor_or : ℕ → Option ItemIndex → ℕ
constructor_or m None = m
constructor_or m (Some p) = p.constructor

index_here : (m : ℕ) (o : Option ℕ) (q : ItemIndex) → option_map (item_index m) o ≡ Some q → q.constructor ≡ m
index_here m None q h = cc
index_here m (Some i) q h = sym (ap (constructor_or m) h)

abbrev IsBetween : ℕ → ℕ → ℕ → Type 0
IsBetween n size m = (n ≤ m) × (m < n + size)

one_of : (o later : Option ItemIndex) (n size : ℕ) (p : ItemIndex) → ((q : ItemIndex) → o ≡ Some q → q.constructor ≡ n)
    → (later ≡ Some p → IsBetween (n + 1) size p.constructor) → or_else o later ≡ Some p
    → IsBetween n (suc size) p.constructor
one_of None later n size p here there h = let found = there h in (omega (arith, found.0), omega (arith, found.1))
one_of (Some q) later n size p here there h = let same = here p h in (omega (arith, same), omega (arith, same))

-- an index of one of the declarations
found_within : (k : Known) (n : ℕ) (s : SchemaView) (p : ItemIndex) → first_from k n s ≡ Some p
    → IsBetween n (length s) p.constructor
found_within k n [] p is = cc
found_within k n (c ∷ cs) p is =
    let o = first_unguarded_item k c in
    one_of (option_map (item_index n) o) (first_from k (n + 1) cs) n (length cs) p (index_here n o)
    (found_within k (n + 1) cs p) is

some_refusal : (s before : SchemaView) (n item : ℕ) → n < length s → unguarded_at before s n item ≡ [] → ⊥
some_refusal [] before n item lt none = absurd (omega (arith, lt))
some_refusal (c ∷ cs) before zero item lt none = cc
some_refusal (c ∷ cs) before (suc n) item lt none = some_refusal cs (before ++ c ∷ []) n item (omega (arith, lt)) none

none_found : (s : SchemaView) (o : Option ItemIndex) → first_unguarded s ≡ o → of_place s o ≡ [] → o ≡ None
unfolding first_unguarded
none_found s None is none = refl
none_found s (Some p) is none =
    let within = found_within (known s) 0 s p is in
    absurd (some_refusal s [] p.constructor p.item (omega (arith, within.1)) none)

pub guard_clean : (s : SchemaView) → of_guard s ≡ [] → first_unguarded s ≡ None
guard_clean s none = none_found s (first_unguarded s) refl none

-- ---- the whole schema

module _ (out : ConstructorView → Bool) where
  stays_one : (b : Bool) (c : ConstructorView) (cs : SchemaView) → b ≡ false → cond (not b) (c ∷ cs) cs ≡ c ∷ cs
  stays_one true c cs h = cc
  stays_one false c cs h = refl

  all_stay : (s : SchemaView) → All (λ c. out c ≡ false) s → filter (λ (c : ConstructorView). not (out c)) s ≡ s
  all_stay [] all = refl
  all_stay (c ∷ cs) all =
      ap (λ z. cond (not (out c)) (c ∷ z) z) (all_stay cs (λ k d lt. all (suc k) d (omega (arith, lt))))
      ∙ stays_one (out c) c cs (all 0 c (omega arith))

pub kept_is_whole : (s : SchemaView) → IsKept s → (ordinary s ≡ s) × (kept_of s ≡ s)
kept_is_whole s kept =
    let first = all_stay (λ c. c.exotic) s kept.ordinary in
    let second = all_stay (λ c. is_dictionary c.result) s kept.no_dictionaries in
    (first, ap without_dictionaries first ∙ second)

-- no refusal of it, by its parts
pub record IsUnrefused (s : SchemaView) : Type 0 where
  pub headings : of_headings [] s ≡ []
  pub contents : of_contents s [] s ≡ []
  pub guard : of_guard s ≡ []

pub kept_is_unrefused : (s : SchemaView) → IsKept s → IsUnrefused s
unfolding refusals refusals_within
kept_is_unrefused s kept =
    let same = kept_is_whole s kept in
    let parts = none_left (of_headings [] (ordinary s)) (refusals_within (kept_of s)) kept.kinded in
    let within : of_contents s [] s ++ of_guard s ≡ [] = sym (ap refusals_within same.1) ∙ parts.1 in
    let both = none_left (of_contents s [] s) (of_guard s) within in
    record {
      headings = sym (ap (of_headings []) same.0) ∙ parts.0;
      contents = both.0;
      guard = both.1;
    }

pub kept_in_order : (s : SchemaView) → IsKept s → IsInOrder s
kept_in_order s kept =
    let none = kept_is_unrefused s kept in
    record {
      declarations = declarations_clean s s [] none.headings none.contents;
      guarded = guard_clean s none.guard;
    }
