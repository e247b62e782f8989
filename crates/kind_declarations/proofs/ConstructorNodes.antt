-- The nodes of a constructor.
use Rattle.std.proofs.Common.{◌≡◌, ap, sym, ◌∙◌, refl, subst, List, [], ◌∷◌, ◌++◌, map}
use Rattle.std.specs.Prelude.{None, Result, Err}
use Rattle.std.proofs.lemmas.List.{map-append}
use Rattle.tlb_syntax.specs.declared.tree.Constructor.{Constructor}
use Rattle.tlb_syntax.specs.declared.tree.Expr.{Expr}
use Rattle.tlb_syntax.specs.declared.tree.Item.{Item}
use Rattle.tlb_syntax.specs.View.{constructor, exprs, items}
use Rattle.tlb_syntax.specs.Tree.{ConstructorView, SchemaView}
use Rattle.field_path.specs.declared.part.Part.{Part}
use Rattle.field_path.specs.declared.part.Part.TheVariants as places
use Rattle.kind_terms.specs.Params.{inputs}
use Rattle.kind_terms.specs.Words.{Word}
use Rattle.kind_terms.specs.Scopes.{Scope, at_end, made_known}
use Rattle.kind_declarations.specs.declared.error.Fault.{Fault}
use Rattle.kind_declarations.specs.declared.scope.Scope.{Scope as State}
use Rattle.kind_terms.specs.declared.shown.Shown.{Shown}
use Rattle.kind_terms.specs.declared.shown.Shown.TheVariants as parts
use Rattle.kind_declarations.specs.Nodes.{Judged, constructor_nodes, output_nodes, record_and_outputs, record_endings, record_nodes}
use Rattle.kind_terms.specs.Positions.{first_position}
use Rattle.kind_declarations.specs.Faults.{Judges, verdict}
use Rattle.kind_declarations.specs.Views.{Follows, all_by, first_by, path_by, scope_by, scope_of, words}
use Rattle.kind_terms.specs.Views.{part_by}
use Rattle.kind_declarations.proofs.OutputNodes.{outputs_alike}
use Rattle.kind_declarations.proofs.Verdicts.{judged_from, passed_then, refused_then}

-- ---- its items, then its outputs

items_there : (s : State) (c : Constructor) (list : List Item) → list ≡ c.items
    → record_nodes (items list) (first_by s) ≡ record_nodes (items c.items) (first_by s)
items_there s c list same = ap (λ x. record_nodes (items x) (first_by s)) same

pub all_refused : (s : State) (c : Constructor) (list : List Item) (p : List Part) (f : Fault) → list ≡ c.items
    → Judges (record_nodes (items list) (first_by s)) p (Err f) → Judges (all_by s (constructor c)) p (Err f)
all_refused s c list p f same j =
    refused_then (record_nodes (items c.items) (first_by s)) _ p f
    (judged_from _ _ p (Err f) (ap verdict (items_there s c list same)) j)

outputs_there : (s t : State) (c : Constructor) (list : List Item) (ps : List Expr) (q : List Shown) → list ≡ c.items → ps ≡ c.params
    → q ≡ t.path ++ parts.Result ∷ [] → Follows s t → scope_by t ≡ at_end (scope_by s) (items list)
    → output_nodes (exprs ps) (record { path = map part_by q; scope = scope_by t; fields = words t.fields })
    ≡ output_nodes (exprs c.params) (record { path = path_by s ++ places.Result ∷ []; scope = at_end (scope_by s) (items c.items); fields = [] })
outputs_there s t c list ps q same params pushed follows scope =
    let path : map part_by q ≡ path_by s ++ places.Result ∷ [] =
    ap (map part_by) pushed ∙ map-append part_by t.path (parts.Result ∷ [])
    ∙ ap (λ (v : State). map part_by v.path ++ places.Result ∷ []) follows.same in
    ap (λ x. output_nodes (exprs x) (record { path = map part_by q; scope = scope_by t; fields = words t.fields })) params
    ∙ outputs_alike (map part_by q) (scope_by t) (words t.fields) [] (exprs c.params)
    ∙ ap (λ x. output_nodes (exprs c.params) (record { path = x; scope = scope_by t; fields = [] })) path
    ∙ ap (λ x. output_nodes (exprs c.params) (record { path = path_by s ++ places.Result ∷ []; scope = x; fields = [] }))
    (scope ∙ ap (λ x. at_end (scope_by s) (items x)) same)

pub all_outputs : (s t : State) (c : Constructor) (list : List Item) (ps : List Expr) (q : List Shown) (p : List Part) (r : Result (Unit {0}) Fault)
    → list ≡ c.items → ps ≡ c.params → q ≡ t.path ++ parts.Result ∷ [] → Follows s t → scope_by t ≡ at_end (scope_by s) (items list)
    → verdict (record_nodes (items list) (first_by s)) ≡ None
    → Judges (output_nodes (exprs ps) (record { path = map part_by q; scope = scope_by t; fields = words t.fields })) p r
    → Judges (all_by s (constructor c)) p r
all_outputs s t c list ps q p r same params pushed follows scope passed j =
    passed_then (record_nodes (items c.items) (first_by s)) _ p r
    (sym (ap verdict (items_there s c list same)) ∙ passed)
    (judged_from _ _ p r (ap verdict (outputs_there s t c list ps q same params pushed follows scope)) j)

-- ---- at the beginning

no_bindings : (types : SchemaView) (inputs : List Word)
    → scope_of types [] 0 inputs [] ≡ record { types = types; around = []; own = []; inputs = inputs; known = [] }
unfolding scope_of
no_bindings types inputs = refl

nodes_from : ConstructorView → List Part → Scope → List Word → List Judged
nodes_from c path scope fields =
    record_nodes c.items (record { place = first_position path; scope = scope; fields = fields; inner = [] })
    ++ output_nodes c.params (record { path = path ++ places.Result ∷ []; scope = at_end scope c.items; fields = [] })

all_from : (s : State) (c : ConstructorView) → all_by s c ≡ nodes_from c (path_by s) (scope_by s) (words s.fields)
unfolding nodes_from
all_from s c = refl

all_here : (types : SchemaView) (c : ConstructorView)
    → nodes_from c [] (record { types = types; around = []; own = []; inputs = inputs c.params; known = [] }) []
    ≡ record_and_outputs types c
unfolding nodes_from
all_here types c = refl

pub all_first : (s : State) (types : SchemaView) (c : ConstructorView) → map constructor s.types.now ≡ types → s.path ≡ [] → s.bindings ≡ []
    → s.around ≡ 0 → words s.inputs.now ≡ inputs c.params → s.known ≡ [] → s.fields ≡ []
    → all_by s c ≡ record_and_outputs types c
all_first s types c same path bindings around given known fields =
    all_from s c
    ∙ ap (λ p. nodes_from c (map part_by p) (scope_by s) (words s.fields)) path
    ∙ ap (λ f. nodes_from c [] (scope_by s) (words f)) fields
    ∙ ap (λ t. nodes_from c [] (scope_of t s.bindings s.around (words s.inputs.now) (words s.known)) []) same
    ∙ ap (λ e. nodes_from c [] (scope_of types e s.around (words s.inputs.now) (words s.known)) []) bindings
    ∙ ap (λ a. nodes_from c [] (scope_of types [] a (words s.inputs.now) (words s.known)) []) around
    ∙ ap (λ g. nodes_from c [] (scope_of types [] 0 g (words s.known)) []) given
    ∙ ap (λ k. nodes_from c [] (scope_of types [] 0 (inputs c.params) (words k)) []) known
    ∙ ap (λ x. nodes_from c [] x []) (no_bindings types (inputs c.params))
    ∙ all_here types c

pub all_judged : (s : State) (types : SchemaView) (c : ConstructorView) (p q : List Part) (r : Result (Unit {0}) Fault)
    → map constructor s.types.now ≡ types → s.path ≡ [] → s.bindings ≡ []
    → s.around ≡ 0 → words s.inputs.now ≡ inputs c.params → s.known ≡ [] → s.fields ≡ [] → p ≡ q
    → Judges (all_by s c) p r → Judges (record_and_outputs types c) q r
all_judged s types c p q r same path bindings around given known fields there j =
    subst (λ x. Judges (record_and_outputs types c) x r) there
    (judged_from _ _ p r (ap verdict (all_first s types c same path bindings around given known fields)) j)

-- ---- the whole constructor

pub endings_judged : (types : SchemaView) (c : Constructor) (list : List Item) (q : List Shown) (given : List Word) (p : List Part)
    (r : Result (Unit {0}) Fault) → list ≡ c.items → q ≡ [] → given ≡ inputs (exprs c.params)
    → verdict (record_and_outputs types (constructor c)) ≡ None
    → Judges (record_endings (items list) types (first_position (map part_by q)) (made_known types given (items list))) p r
    → Judges (constructor_nodes types (constructor c)) p r
endings_judged types c list q given p r same path inputs_are passed j =
    passed_then (record_and_outputs types (constructor c)) _ p r passed
    (judged_from _ _ p r
    (ap (λ x. verdict (record_endings (items x) types (first_position (map part_by q)) (made_known types given (items x)))) same
    ∙ ap (λ x. verdict (record_endings (items c.items) types (first_position (map part_by x)) (made_known types given (items c.items)))) path
    ∙ ap (λ x. verdict (record_endings (items c.items) types (first_position []) (made_known types x (items c.items)))) inputs_are)
    j)
