-- The lines of Bit, Unary, HmLabel, Hashmap, HashmapNode and HashmapE as ordinary declarations of a schema, in order.
-- The types of dictionaries are built in, so the lines declare Hm for Hashmap, HmNode for HashmapNode and HmE for
-- HashmapE.
--
-- Source: the TON documentation on the TL-B language and on hashmaps; TVM whitepaper, section 3.3.
use Rattle.std.specs.Prelude.{ℕ, ◌≡◌, List, [], ◌∷◌, true, false, Some, None, codes, slice_get}
use Rattle.nat_solver.specs.declared.compare.Op.TheVariants.{Eq, Le}
use Rattle.tlb_syntax.specs.declared.tree.ParamKind.TheVariants.{Nat, Ty}
use Rattle.tlb_syntax.specs.Tree.{ExprView, ItemView, ConstructorView, SchemaView, lit, named, bits, up_to, plus}
use Rattle.tlb_syntax.specs.Tree.{star, out, ref, no_exprs, implicit, check, explicit, given, exprs_of, items_of}
use Rattle.tlb_syntax.specs.Tree as syntax
use Rattle.kind_terms.specs.Words.{Word, is_among}
use Rattle.core_form.specs.Core.{CoreSchema}
use Rattle.schema_leads.specs.Leads.{of_type_named}
use Rattle.schema_leads.specs.Tags.{cores}

-- ---- the types

abbrev pub bit : Word
bit = codes "Bit"

abbrev pub unary : Word
unary = codes "Unary"

abbrev pub hm_label : Word
hm_label = codes "HmLabel"

abbrev pub hm : Word
hm = codes "Hm"

abbrev pub hm_node : Word
hm_node = codes "HmNode"

abbrev pub hm_e : Word
hm_e = codes "HmE"

abbrev pub line_types : List Word
line_types = bit ∷ unary ∷ hm_label ∷ hm ∷ hm_node ∷ hm_e ∷ []

-- ---- shorthands

-- a name without arguments, and one with them
abbrev pub word : List ℕ → ExprView
word x = named x no_exprs

abbrev pub applied : List ℕ → List ExprView → ExprView
applied x es = named x (exprs_of es)

-- a named field of this type
abbrev pub field : List ℕ → ExprView → ItemView
field x e = explicit (Some x) (syntax.plain e)

-- a line of this name, tag, items, type and parameters
abbrev pub line : List ℕ → List ℕ → List ItemView → Word → List ExprView → ConstructorView
line name tag items type params = record {
  exotic = false;
  name = Some name;
  tag = given tag;
  items = items_of items;
  result = type;
  params = exprs_of params;
}

-- {n:#} and {X:Type}
abbrev pub number_field : List ℕ → ItemView
number_field x = implicit x Nat

abbrev pub type_field : List ℕ → ItemView
type_field x = implicit x Ty

-- n and X, as arguments
abbrev pub of_n : List ExprView
of_n = word (codes "n") ∷ word (codes "X") ∷ []

-- ---- the lines

-- bit$_ (## 1) = Bit;
abbrev pub bit_line : ConstructorView
bit_line = line (codes "bit") [] (explicit None (syntax.plain (bits (exprs_of (lit 1 ∷ [])))) ∷ []) bit []

-- unary_zero$0 = Unary ~0;
abbrev pub unary_zero : ConstructorView
unary_zero = line (codes "unary_zero") (0 ∷ []) [] unary (out (lit 0) ∷ [])

-- unary_succ$1 {n:#} x:(Unary ~n) = Unary ~(n + 1);
abbrev pub unary_succ : ConstructorView
unary_succ =
    line (codes "unary_succ") (1 ∷ [])
    (number_field (codes "n") ∷ field (codes "x") (applied unary (out (word (codes "n")) ∷ [])) ∷ [])
    unary (out (plus (word (codes "n")) (lit 1)) ∷ [])

-- hml_short$0 {m:#} {n:#} len:(Unary ~n) {n <= m} s:(n * Bit) = HmLabel ~n m;
abbrev pub hml_short : ConstructorView
hml_short =
    line (codes "hml_short") (0 ∷ [])
    (number_field (codes "m") ∷ number_field (codes "n")
    ∷ field (codes "len") (applied unary (out (word (codes "n")) ∷ []))
    ∷ check (word (codes "n")) Le (word (codes "m"))
    ∷ field (codes "s") (star (word (codes "n")) (word bit)) ∷ [])
    hm_label (out (word (codes "n")) ∷ word (codes "m") ∷ [])

-- hml_long$10 {m:#} n:(#<= m) s:(n * Bit) = HmLabel ~n m;
abbrev pub hml_long : ConstructorView
hml_long =
    line (codes "hml_long") (1 ∷ 0 ∷ [])
    (number_field (codes "m") ∷ field (codes "n") (up_to (exprs_of (word (codes "m") ∷ [])))
    ∷ field (codes "s") (star (word (codes "n")) (word bit)) ∷ [])
    hm_label (out (word (codes "n")) ∷ word (codes "m") ∷ [])

-- hml_same$11 {m:#} v:Bit n:(#<= m) = HmLabel ~n m;
abbrev pub hml_same : ConstructorView
hml_same =
    line (codes "hml_same") (1 ∷ 1 ∷ [])
    (number_field (codes "m") ∷ field (codes "v") (word bit)
    ∷ field (codes "n") (up_to (exprs_of (word (codes "m") ∷ []))) ∷ [])
    hm_label (out (word (codes "n")) ∷ word (codes "m") ∷ [])

-- hm_edge#_ {n:#} {X:Type} {l:#} {m:#} label:(HmLabel ~l n) {n = (~m) + l} node:(HmNode m X) = Hm n X;
abbrev pub hm_edge : ConstructorView
hm_edge =
    line (codes "hm_edge") []
    (number_field (codes "n") ∷ type_field (codes "X") ∷ number_field (codes "l") ∷ number_field (codes "m")
    ∷ field (codes "label") (applied hm_label (out (word (codes "l")) ∷ word (codes "n") ∷ []))
    ∷ check (word (codes "n")) Eq (plus (out (word (codes "m"))) (word (codes "l")))
    ∷ field (codes "node") (applied hm_node (word (codes "m") ∷ word (codes "X") ∷ [])) ∷ [])
    hm of_n

-- hmn_leaf#_ {X:Type} value:X = HmNode 0 X;
abbrev pub hmn_leaf : ConstructorView
hmn_leaf =
    line (codes "hmn_leaf") [] (type_field (codes "X") ∷ field (codes "value") (word (codes "X")) ∷ [])
    hm_node (lit 0 ∷ word (codes "X") ∷ [])

-- hmn_fork#_ {n:#} {X:Type} left:^(Hm n X) right:^(Hm n X) = HmNode (n + 1) X;
abbrev pub hmn_fork : ConstructorView
hmn_fork =
    line (codes "hmn_fork") []
    (number_field (codes "n") ∷ type_field (codes "X")
    ∷ field (codes "left") (ref (applied hm of_n)) ∷ field (codes "right") (ref (applied hm of_n)) ∷ [])
    hm_node (plus (word (codes "n")) (lit 1) ∷ word (codes "X") ∷ [])

-- hme_empty$0 {n:#} {X:Type} = HmE n X;
abbrev pub hme_empty : ConstructorView
hme_empty = line (codes "hme_empty") (0 ∷ []) (number_field (codes "n") ∷ type_field (codes "X") ∷ []) hm_e of_n

-- hme_root$1 {n:#} {X:Type} root:^(Hm n X) = HmE n X;
abbrev pub hme_root : ConstructorView
hme_root =
    line (codes "hme_root") (1 ∷ [])
    (number_field (codes "n") ∷ type_field (codes "X") ∷ field (codes "root") (ref (applied hm of_n)) ∷ [])
    hm_e of_n

abbrev pub lines : SchemaView
lines =
    bit_line ∷ unary_zero ∷ unary_succ ∷ hml_short ∷ hml_long ∷ hml_same ∷ hm_edge ∷ hmn_leaf ∷ hmn_fork ∷ hme_empty
    ∷ hme_root ∷ []

-- ---- schemas with these lines

-- declarations of other types
abbrev pub AreOthers : SchemaView → Type 0
AreOthers rest = (i : ℕ) (c : ConstructorView) → slice_get rest i ≡ Some c → is_among line_types c.result ≡ false

-- the declarations of each type of the lines are the lines', at whatever places they stand
abbrev pub HasLines : CoreSchema → Type 0
HasLines schema = (x : Word) → is_among line_types x ≡ true → of_type_named schema x ≡ of_type_named (cores lines) x
