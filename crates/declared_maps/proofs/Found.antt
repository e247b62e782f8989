-- Which constructors the types of the lines have.
use Rattle.std.proofs.Common.{◌≡◌, ℕ, zero, suc, Bool, true, false, cond, [], ◌∷◌, Some, slice_get, refl, sym, ap, ◌∙◌, subst, ◌⊎◌, inl, inr}
use Rattle.std.specs.Prelude.{bytes_eq}
use Rattle.std.proofs.lemmas.Slice.Eq.{bytes_eq-Decides}
use Rattle.core_form.specs.Core.{Word, Declaration, CoreSchema}
use Rattle.schema_leads.specs.Leads.{of_type_named}
use Rattle.schema_leads.specs.Tags.{cores}
use Rattle.declared_maps.specs.Lines.{bit, unary, hm_label, hm, hm_node, hm_e, lines, HasLines}
use Rattle.declared_maps.specs.LineCores.{bit_core, zero_core, succ_core, short_core, long_core, same_core, edge_core, leaf_core, fork_core, empty_core, root_core, line_cores, lines_have_cores}

pub some_same : {A : Type 0} (x y : A) → Some x ≡ Some y → x ≡ y
some_same x y e = cc

-- one of the declarations
abbrev pub In : Declaration → CoreSchema → Type 0
In d [] = ⊥
In d (c ∷ cs) = (d ≡ c) ⊎ In d cs

abbrev Place : Declaration → CoreSchema → Type 0
Place d schema = (at : ℕ) × (slice_get schema at ≡ Some d)

among : (schema : CoreSchema) (x : Word) (at : ℕ) (d : Declaration) → slice_get schema at ≡ Some d → d.of_type ≡ x
    → In d (of_type_named schema x)
among [] x at d e of = cc
among (c ∷ cs) x zero d e of = here (bytes_eq c.of_type x) ((bytes_eq-Decides c.of_type x).1 (ap (λ (z : Declaration). z.of_type) same ∙ of))
  where
    same : c ≡ d
    same = some_same c d e

    here : (b : Bool) → b ≡ true → In d (cond b (c ∷ of_type_named cs x) (of_type_named cs x))
    here true e = inl (sym same)
    here false e = cc
among (c ∷ cs) x (suc at) d e of = there (bytes_eq c.of_type x) (among cs x at d e of)
  where
    there : (b : Bool) → In d (of_type_named cs x) → In d (cond b (c ∷ of_type_named cs x) (of_type_named cs x))
    there true h = inr h
    there false h = h

placed : (schema : CoreSchema) (x : Word) (d : Declaration) → In d (of_type_named schema x) → Place d schema
placed [] x d h = absurd h
placed (c ∷ cs) x d h = go (bytes_eq c.of_type x) (λ k. placed cs x d k) h
  where
    later : Place d cs → Place d (c ∷ cs)
    later p = (suc p.0, p.1)

    go : (b : Bool) → (In d (of_type_named cs x) → Place d cs) → In d (cond b (c ∷ of_type_named cs x) (of_type_named cs x))
        → Place d (c ∷ cs)
    go true ih (inl e) = (0, ap Some (sym e))
    go true ih (inr h) = later (ih h)
    go false ih h = later (ih h)

-- those of the lines, by type
abbrev Named : CoreSchema → Word → CoreSchema → Type 0
Named schema x ds = of_type_named schema x ≡ ds

line_named : (x : Word) (ds : CoreSchema) → Named line_cores x ds → Named (cores lines) x ds
line_named x ds e = ap (λ (z : CoreSchema). of_type_named z x) lines_have_cores ∙ e

pub bit_named : (schema : CoreSchema) → HasLines schema → Named schema bit (bit_core ∷ [])
bit_named schema has = has bit refl ∙ line_named bit (bit_core ∷ []) refl

pub unary_named : (schema : CoreSchema) → HasLines schema → Named schema unary (zero_core ∷ succ_core ∷ [])
unary_named schema has = has unary refl ∙ line_named unary (zero_core ∷ succ_core ∷ []) refl

pub label_named : (schema : CoreSchema) → HasLines schema
    → Named schema hm_label (short_core ∷ long_core ∷ same_core ∷ [])
label_named schema has = has hm_label refl ∙ line_named hm_label (short_core ∷ long_core ∷ same_core ∷ []) refl

pub edge_named : (schema : CoreSchema) → HasLines schema → Named schema hm (edge_core ∷ [])
edge_named schema has = has hm refl ∙ line_named hm (edge_core ∷ []) refl

pub node_named : (schema : CoreSchema) → HasLines schema → Named schema hm_node (leaf_core ∷ fork_core ∷ [])
node_named schema has = has hm_node refl ∙ line_named hm_node (leaf_core ∷ fork_core ∷ []) refl

pub root_named : (schema : CoreSchema) → HasLines schema → Named schema hm_e (empty_core ∷ root_core ∷ [])
root_named schema has = has hm_e refl ∙ line_named hm_e (empty_core ∷ root_core ∷ []) refl

-- a constructor of a type is one of these, and each of these has a place
pub one_of : (schema : CoreSchema) (x : Word) (ds : CoreSchema) → Named schema x ds → (at : ℕ) (d : Declaration)
    → slice_get schema at ≡ Some d → d.of_type ≡ x → In d ds
one_of schema x ds e at d there of = let P : CoreSchema → Type 0 = In d in subst P e (among schema x at d there of)

pub place_of : (schema : CoreSchema) (x : Word) (ds : CoreSchema) → Named schema x ds → (d : Declaration) → In d ds
    → Place d schema
place_of schema x ds e d h = let P : CoreSchema → Type 0 = In d in placed schema x d (subst P (sym e) h)
