-- A cell has more cells than its children, and what is written of it.
use Rattle.std.proofs.Common.{◌≡◌, ℕ, ◌+◌, ◌*◌, ◌<◌, List, [], ◌∷◌, ◌++◌, map, arith, refl, append_assoc}
use Rattle.cell_nodes.specs.declared.tree.Tree.{Tree, out-Tree}
use Rattle.cell_nodes.specs.Tree.{total, unfolded}
use Rattle.cell_nodes.specs.Equations.{unfolded-out, one_le-unfolded}
use Rattle.value_text.specs.Tokens.{Token, mark, bits, spelling, written}
use Rattle.value_text.specs.TextLaws.{put-then}

pub down : (t : Tree) (cs : List Tree) → cs ≡ (out-Tree t).children → 2 * total (map unfolded cs) + 1 < 2 * unfolded t
down t cs e = rw (e) (omega (arith, unfolded-out t))

pub ruleset steps = (down, one_le-unfolded)

-- bits and tokens in parentheses
pub put-body : (t u v w x : List ℕ) (bs : List ℕ) (es : List Token) → u ≡ t ++ 40 ∷ [] → v ≡ u ++ spelling (bits bs) → w ≡ v ++ written es
    → x ≡ w ++ 41 ∷ [] → x ≡ t ++ written (mark 40 ∷ bits bs ∷ es ++ mark 41 ∷ [])
put-body t u v w x bs es f g h k =
    let one : v ≡ t ++ written (mark 40 ∷ bits bs ∷ []) = rw (g, f) (simp append_assoc refl) in
    let two : w ≡ t ++ written (mark 40 ∷ bits bs ∷ es) = put-then t v w (mark 40 ∷ bits bs ∷ []) es one h in
    put-then t w x (mark 40 ∷ bits bs ∷ es) (mark 41 ∷ []) two k
