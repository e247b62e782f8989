-- Lemmas on texts that are written one after another.
use Rattle.std.specs.Prelude.{◌≡◌, ℕ, Bool, true, false, List, [], ◌∷◌, ◌++◌, map, if◌then◌else◌}
use Rattle.std.proofs.Common.{refl, sym, ◌∙◌, ap, append_assoc}
use Rattle.std.proofs.lemmas.List.{append-nil}
use Rattle.cell_nodes.specs.declared.tree.Tree.{Tree, out-Tree, fold_out-Tree}
use Rattle.value_text.specs.Tokens.{Token, mark, spelling, written}
use Rattle.value_text.specs.Text.{more, separated, cell, cell_step, tree_step}

pub written-append : (ts us : List Token) → written (ts ++ us) ≡ written ts ++ written us
written-append [] us = refl
written-append (t ∷ ts) us =
    ap (λ w. spelling t ++ w) (written-append ts us) ∙ sym (append_assoc (spelling t) (written ts) (written us))

-- what follows in a list with commas, by whether nothing stands before
abbrev pub separated_from : Bool → List (List Token) → List Token
separated_from true es = separated es
separated_from false es = more es

-- whether nothing stands before what follows these
abbrev pub first_after : Bool → List (List Token) → Bool
first_after is_first [] = is_first
first_after is_first (e ∷ es) = false

more-append : (es fs : List (List Token)) → more (es ++ fs) ≡ more es ++ more fs
more-append [] fs = refl
more-append (e ∷ es) fs =
    ap (λ w. mark 44 ∷ e ++ w) (more-append es fs) ∙ sym (append_assoc (mark 44 ∷ e) (more es) (more fs))

separated-empty : (b : Bool) (fs : List (List Token)) → separated_from b fs ≡ separated_from b [] ++ separated_from b fs
separated-empty true fs = refl
separated-empty false fs = refl

separated-append : (b : Bool) (es fs : List (List Token))
    → separated_from b (es ++ fs) ≡ separated_from b es ++ separated_from (first_after b es) fs
separated-append b [] fs = separated-empty b fs
separated-append true (e ∷ es) fs = ap (λ w. e ++ w) (more-append es fs) ∙ sym (append_assoc e (more es) (more fs))
separated-append false (e ∷ es) fs = more-append (e ∷ es) fs

-- the tokens of a cell, by its parts
pub cell-out : (t : Tree) → cell t ≡ cell_step (out-Tree t).kind (out-Tree t).bits (map cell (out-Tree t).children)
unfolding cell
cell-out t = fold_out-Tree (List Token) tree_step t

-- ---- texts that grow

-- an item behind its comma, and what follows it
pub put-item : (b : Bool) (t u v : List ℕ) (e : List Token) (es : List (List Token))
    → u ≡ t ++ (if b then [] else 44 ∷ []) → v ≡ u ++ written e
    → v ++ written (separated_from false es) ≡ t ++ written (separated_from b (e ∷ es))
put-item true t u v e es f g = rw (g, f) (simp (written-append, append_assoc, append-nil) refl)
put-item false t u v e es f g = rw (g, f) (simp (written-append, append_assoc) refl)

-- some items, and what follows them
pub put-some : (b c : Bool) (t u : List ℕ) (es fs : List (List Token))
    → c ≡ first_after b es → u ≡ t ++ written (separated_from b es)
    → u ++ written (separated_from c fs) ≡ t ++ written (separated_from b (es ++ fs))
put-some b c t u es fs f g =
    rw (f, g) (append_assoc t (written (separated_from b es)) (written (separated_from (first_after b es) fs))
    ∙ ap (λ w. t ++ w) (sym (written-append (separated_from b es) (separated_from (first_after b es) fs)))
    ∙ ap (λ w. t ++ written w) (sym (separated-append b es fs)))

-- some tokens behind others
pub put-then : (t u v : List ℕ) (ds es : List Token)
    → u ≡ t ++ written ds → v ≡ u ++ written es → v ≡ t ++ written (ds ++ es)
put-then t u v ds es f g =
    rw (g, f) (append_assoc t (written ds) (written es) ∙ ap (λ w. t ++ w) (sym (written-append ds es)))
