-- A value of some form lies at a type of that form alone.
use Rattle.std.proofs.Common.{◌≡◌, ℕ, Bool, true, false, ◌||◌, ◌⊎◌, inl, inr, List, Option, Some, None, refl, sym, ap, ◌∙◌, subst, is_some}
use Rattle.std.proofs.lemmas.Option.{none-some, same_Some}
use Rattle.cell_nodes.specs.declared.tree.Hidden.{Hidden}
use Rattle.cell_nodes.specs.declared.tree.Tree.{Tree}
use Rattle.core_form.specs.Closed.{Closed, ClosedArgs}
use Rattle.core_form.specs.Closed as closed
use Rattle.core_form.specs.Core.{CoreSchema, Word}
use Rattle.hashmap_tree.specs.Entries.{Slice}
use Rattle.spelling.specs.Goals.{at_type, typed}
use Rattle.typed_value.specs.Values.{Plain, PlainPairs, Plains}
use Rattle.typed_value.specs.Values as values
use Rattle.pruning.specs.Laid.{Laid, number, bit_string, record_of, absent, list_of, ref_to, ref_to_raw, no_map, plain}
use Rattle.pruning.specs.Laid.{map_under, map_here, rest}
use Rattle.pruning.specs.SpellsLaid.{SpellsLaid, SpellsLaidShape}
use Rattle.pruned_proof.specs.Walks.{Is, Lies, mapped_here, mapped_under, named_as, referred, repeated}
use Rattle.typed_value.specs.View.{value}
use Rattle.typed_value.specs.declared.value.Value.{Value}
use Rattle.typed_value.specs.declared.value.Value.TheVariants.{Absent, Raw, Unknown}
use Rattle.pruned_proof.proofs.Seen.{is_absent, is_raw, is_unknown}
use Rattle.pruned_proof.proofs.Typed.{AtType, type_lies}

-- whether a type is of the value's form
abbrev stands : Plain → Closed → Bool
stands (values.number negative size) t = true
stands (values.bit_string bits) t = true
stands (values.record_of name names vs) t = is_some (named_as t)
stands values.absent t = false
stands (values.list_of vs) t = is_some (repeated t)
stands (values.ref_to a v) t = is_some (referred t)
stands (values.unknown h) t = false
stands (values.map_of a ps us) t = is_some (mapped_here t) || is_some (mapped_under t)
stands (values.raw c) t = false
stands (values.rest s) t = true

together : (schema : CoreSchema) (d : Laid) (t : Closed) (left : List Tree) (outs : List ℕ) (after : Slice)
    → Lies (SpellsLaidShape schema d (typed t)) left outs after → stands (plain d) t ≡ true
together schema (number negative size) t left outs after l = refl
together schema (bit_string bits) t left outs after l = refl
together schema (record_of (Some name) names ds) (closed.named x args) left outs after l = refl
together schema (record_of (Some name) names ds) _ left outs after l = absurd l.spelled
together schema (record_of None names ds) t left outs after l = absurd l.spelled
together schema absent t left outs after l = absurd l.spelled
together schema (list_of ds) (closed.repeat n t) left outs after l = refl
together schema (list_of ds) _ left outs after l = absurd l.spelled
together schema (ref_to c d) (closed.ref t) left outs after l = refl
together schema (ref_to c d) _ left outs after l = absurd l.spelled
together schema (ref_to_raw c) (closed.ref t) left outs after l = refl
together schema (ref_to_raw c) _ left outs after l = absurd l.spelled
together schema no_map (closed.dict_e n t) left outs after l = refl
together schema no_map _ left outs after l = absurd l.spelled
together schema (map_under c e) (closed.dict_e n t) left outs after l = refl
together schema (map_under c e) _ left outs after l = absurd l.spelled
together schema (map_here e) (closed.dict n t) left outs after l = refl
together schema (map_here e) _ left outs after l = absurd l.spelled
together schema (rest s) t left outs after l = refl

module _ (schema : CoreSchema) (d : Laid) (t : Closed) (most : ℕ) (left : List Tree) (outs : List ℕ) (after : Slice)
    (l : Lies (SpellsLaid schema d (at_type t)) left outs after) where
  fits : (v : Plain) → Is d v most → stands v t ≡ true
  fits v is = subst (λ z. stands z t ≡ true) is.value (together schema d t left outs after (type_lies schema d t left outs after l).lies)

  -- these forms stand at no type
  no_absent : Is d values.absent most → ⊥
  no_absent is = let e = fits values.absent is in absurd (cc)

  no_unknown : (h : Hidden) → Is d (values.unknown h) most → ⊥
  no_unknown h is = let e = fits (values.unknown h) is in absurd (cc)

  no_raw : (c : Tree) → Is d (values.raw c) most → ⊥
  no_raw c is = let e = fits (values.raw c) is in absurd (cc)

  pub no_bare : (v : Value) → (v ≡ Absent) ⊎ (((h : Hidden) × (v ≡ Unknown h)) ⊎ ((c : Tree) × (v ≡ Raw c)))
      → Is d (value v) most → ⊥
  no_bare v (inl e) is = no_absent (is_absent d v most e is)
  no_bare v (inr (inl x)) is = no_unknown x.0 (is_unknown d v most x.0 x.1 is)
  no_bare v (inr (inr x)) is = no_raw x.0 (is_raw d v most x.0 x.1 is)

  -- and these at a type of their own form
  pub no_reference : (v : Plain) → Is d (values.ref_to tt v) most → None ≡ referred t → ⊥
  no_reference v is none = let e = ap is_some none ∙ fits (values.ref_to tt v) is in absurd (cc)

  pub no_repetition : (vs : Plains) → Is d (values.list_of vs) most → None ≡ repeated t → ⊥
  no_repetition vs is none = let e = ap is_some none ∙ fits (values.list_of vs) is in absurd (cc)

  abbrev nothing : Option (ℕ × Closed)
  nothing = None

  pub no_map_there : (ps : PlainPairs) (us : List (List ℕ × Hidden)) → Is d (values.map_of tt ps us) most → mapped_here t ≡ None
      → None ≡ mapped_under t → ⊥
  no_map_there ps us is none nor =
      let e = ap (λ (z : Option (ℕ × Closed)). is_some z || is_some nothing) (sym none)
      ∙ ap (λ (z : Option (ℕ × Closed)). is_some (mapped_here t) || is_some z) nor ∙ fits (values.map_of tt ps us) is in
      absurd (cc)

  pub no_declared : (name : Option Word) (names : List Word) (vs : Plains) → Is d (values.record_of name names vs) most
      → None ≡ named_as t → ⊥
  no_declared name names vs is none = let e = ap is_some none ∙ fits (values.record_of name names vs) is in absurd (cc)

  at_form : (form : Closed) → t ≡ form → AtType schema d form left outs after
  at_form form same = subst (λ z. AtType schema d z left outs after) same (type_lies schema d t left outs after l)

  pub at_reference : (inner : Closed) → Some inner ≡ referred t → AtType schema d (closed.ref inner) left outs after
  at_reference inner found = at_form (closed.ref inner) (go t found)
    where
      go : (u : Closed) → Some inner ≡ referred u → u ≡ closed.ref inner
      go (closed.ref u) e = ap closed.ref (sym (same_Some inner u e))
      go _ e = absurd (none-some inner (sym e))

  pub at_repetition : (n : ℕ) (inner : Closed) → Some (n, inner) ≡ repeated t
      → AtType schema d (closed.repeat n inner) left outs after
  at_repetition n inner found = at_form (closed.repeat n inner) (go t found)
    where
      go : (u : Closed) → Some (n, inner) ≡ repeated u → u ≡ closed.repeat n inner
      go (closed.repeat m u) e = ap (λ z. closed.repeat z.0 z.1) (sym (same_Some (n, inner) (m, u) e))
      go _ e = absurd (none-some (n, inner) (sym e))

  pub at_map_here : (n : ℕ) (inner : Closed) → Some (n, inner) ≡ mapped_here t
      → AtType schema d (closed.dict n inner) left outs after
  at_map_here n inner found = at_form (closed.dict n inner) (go t found)
    where
      go : (u : Closed) → Some (n, inner) ≡ mapped_here u → u ≡ closed.dict n inner
      go (closed.dict m u) e = ap (λ z. closed.dict z.0 z.1) (sym (same_Some (n, inner) (m, u) e))
      go _ e = absurd (none-some (n, inner) (sym e))

  pub at_map_under : (n : ℕ) (inner : Closed) → Some (n, inner) ≡ mapped_under t
      → AtType schema d (closed.dict_e n inner) left outs after
  at_map_under n inner found = at_form (closed.dict_e n inner) (go t found)
    where
      go : (u : Closed) → Some (n, inner) ≡ mapped_under u → u ≡ closed.dict_e n inner
      go (closed.dict_e m u) e = ap (λ z. closed.dict_e z.0 z.1) (sym (same_Some (n, inner) (m, u) e))
      go _ e = absurd (none-some (n, inner) (sym e))

  pub at_declared : (name : Word) (args : ClosedArgs) → Some (name, args) ≡ named_as t
      → AtType schema d (closed.named name args) left outs after
  at_declared name args found = at_form (closed.named name args) (go t found)
    where
      go : (u : Closed) → Some (name, args) ≡ named_as u → u ≡ closed.named name args
      go (closed.named x xs) e = ap (λ z. closed.named z.0 z.1) (sym (same_Some (name, args) (x, xs) e))
      go _ e = absurd (none-some (name, args) (sym e))
