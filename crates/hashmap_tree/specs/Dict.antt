-- The tree of a dictionary.
--
-- Source: TVM whitepaper, section 3.3, and the TON documentation on hashmaps:
--
--   hm_edge#_ {n:#} {X:Type} {l:#} {m:#} label:(HmLabel ~l n) {n = (~m) + l} node:(HashmapNode m X) = Hashmap n X;
--   hmn_leaf#_ {X:Type} value:X = HashmapNode 0 X;
--   hmn_fork#_ {n:#} {X:Type} left:^(Hashmap n X) right:^(Hashmap n X) = HashmapNode (n + 1) X;
--   hme_empty$0 {n:#} {X:Type} = HashmapE n X;
--   hme_root$1 {n:#} {X:Type} root:^(Hashmap n X) = HashmapE n X;
--
-- A label stands in its required form in modes Whole and Partial, and in any form in mode Lax. In mode Partial a pruned
-- branch of mask 1 may stand for a referenced edge, and hides the part whose hash and depth it stores.
use Rattle.std.specs.Prelude.{◌≡◌, ℕ, suc, ◌+◌, List, [], ◌∷◌, length, Option, Some, None}
use Rattle.cell_nodes.specs.HiddenParts as parts
use Rattle.cell_nodes.specs.declared.tree.Hidden.{Hidden}
use Rattle.cell_nodes.specs.declared.tree.Mode.{Mode}
use Rattle.cell_nodes.specs.declared.tree.Mode.TheVariants.{Whole, Partial, Lax}
use Rattle.cell_nodes.specs.declared.tree.Tree.{Tree}
use Rattle.hashmap_labels.specs.Labels.{IsLabel}
use Rattle.hashmap_labels.specs.declared.forms.Forms.{Forms}
use Rattle.hashmap_labels.specs.declared.forms.Forms.TheVariants.{Required, Every}
use Rattle.hashmap_tree.specs.Entries.{Slice, cell_of, leaf, hidden, Entries, fork}

-- the forms that a label may have
abbrev pub forms_of : Mode → Forms
forms_of Whole = Required
forms_of Partial = Required
forms_of Lax = Every

-- what a cell hides
abbrev pub unseen : Mode → Tree → Option Hidden
unseen Whole c = None
unseen Partial c = parts.hidden c
unseen Lax c = None

mutual
  -- the content of an edge for keys of n bits: a label, and then a leaf's content or the two references of a fork
  pub data DictTree : Mode → ℕ → Entries → Slice → Type 0 where
    one : (mode : Mode) (n : ℕ) (es : Entries) (s : Slice) (k : List ℕ) (c : Slice)
        → es ≡ (k, leaf c) ∷ [] → length k ≡ n
        → IsLabel (forms_of mode) n k s.bits c.bits → s.refs ≡ c.refs → DictTree mode n es s
    two : (mode : Mode) (n : ℕ) (es : Entries) (s : Slice) (p : List ℕ) (m : ℕ) (zs os : Entries) (z o : Tree)
        → es ≡ fork p zs os → n ≡ length p + suc m
        → IsLabel (forms_of mode) n p s.bits [] → s.refs ≡ z ∷ (o ∷ [])
        → Branch mode m zs z → Branch mode m os o → DictTree mode n es s

  -- the cell of an edge, or a hidden part in its place
  pub data Branch : Mode → ℕ → Entries → Tree → Type 0 where
    open_edge : (mode : Mode) (m : ℕ) (es : Entries) (c : Tree) (s : Slice)
        → c ≡ cell_of s → DictTree mode m es s → Branch mode m es c
    hidden_edge : (mode : Mode) (m : ℕ) (es : Entries) (c : Tree) (h : Hidden)
        → unseen mode c ≡ Some h → es ≡ ([], hidden h) ∷ [] → Branch mode m es c

-- HashmapE: the bit 0 for no entries, or the bit 1 and a reference to their edge, and then what is left
pub data DictTreeE (mode : Mode) (n : ℕ) (es : Entries) (s after : Slice) : Type 0 where
  no_entries : es ≡ [] → s.bits ≡ 0 ∷ after.bits → s.refs ≡ after.refs → DictTreeE mode n es s after
  some_entries : (c : Tree) → s.bits ≡ 1 ∷ after.bits → s.refs ≡ c ∷ after.refs → Branch mode n es c
      → DictTreeE mode n es s after
