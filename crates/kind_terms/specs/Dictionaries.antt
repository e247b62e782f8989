-- The declarations that the types of dictionaries may have.
-- Source: these lines restate those of block.tlb.
use Rattle.std.specs.Prelude.{ℕ, List, [], ◌∷◌, ◌++◌, Bool, false, not, Option, Some, None, codes, bytes_eq, slice_get}
use Rattle.std.specs.Prelude.{length, filter, if◌then◌else◌}
use Rattle.tlb_syntax.specs.Tree.{ConstructorView, SchemaView}
use Rattle.kind_terms.specs.Words.{Word, hashmap, hashmap_e, hashmap_node}
use Rattle.kind_terms.specs.Classes.{is_dictionary}
use Rattle.tlb_syntax.specs.Text.{constructor_text}

abbrev pub hashmap_lines : List (List ℕ)
hashmap_lines =
    (codes "hm_edge$_ {n:#} {X:Type} {l:#} {m:#} label:(HmLabel ~l n) {n = (~m + l)} "
    ++ codes "node:(HashmapNode m X) = Hashmap n X") ∷ []

abbrev pub hashmap_node_lines : List (List ℕ)
hashmap_node_lines =
    codes "hmn_leaf$_ {X:Type} value:X = HashmapNode 0 X"
    ∷ codes "hmn_fork$_ {n:#} {X:Type} left:^(Hashmap n X) right:^(Hashmap n X) = HashmapNode (n + 1) X" ∷ []

abbrev pub hashmap_e_lines : List (List ℕ)
hashmap_e_lines =
    codes "hme_empty$0 {n:#} {X:Type} = HashmapE n X"
    ∷ codes "hme_root$1 {n:#} {X:Type} root:^(Hashmap n X) = HashmapE n X" ∷ []

-- the canonical texts of the declarations of such a type
abbrev pub lines_of : Word → List (List ℕ)
lines_of x =
    if bytes_eq x hashmap then hashmap_lines
    else if bytes_eq x hashmap_node then hashmap_node_lines
    else if bytes_eq x hashmap_e then hashmap_e_lines
    else []

-- the declarations of the type
abbrev pub of_type : SchemaView → Word → SchemaView
of_type s x = filter (λ (c : ConstructorView). bytes_eq c.result x) s

abbrev pub is_line : Option (List ℕ) → ConstructorView → Bool
is_line None c = false
is_line (Some text) c = bytes_eq (constructor_text c) text

-- whether the declaration of the type of a dictionary is the line of its number, where these of its type come before it
unfoldable pub is_allowed : SchemaView → ConstructorView → Bool
is_allowed earlier c = is_line (slice_get (lines_of c.result) (length earlier)) c

-- the schema without the declarations of dictionaries, which are passed over
abbrev pub without_dictionaries : SchemaView → SchemaView
without_dictionaries s = filter (λ (c : ConstructorView). not (is_dictionary c.result)) s
