-- The canonical texts of the lines, which the checker computes.
use Rattle.std.specs.Fmt.{digits}
use Rattle.std.specs.Prelude.{◌≡◌, [], ◌∷◌, codes, map, refl}
use Rattle.tlb_syntax.specs.Text.{constructor_text}
use Rattle.declared_maps.specs.Lines.{lines}

pub line_texts : map constructor_text lines
    ≡ codes "bit$_ _:(## 1) = Bit"
    ∷ codes "unary_zero$0 = Unary ~0"
    ∷ codes "unary_succ$1 {n:#} x:(Unary ~n) = Unary ~(n + 1)"
    ∷ codes "hml_short$0 {m:#} {n:#} len:(Unary ~n) {n <= m} s:(n * Bit) = HmLabel ~n m"
    ∷ codes "hml_long$10 {m:#} n:(#<= m) s:(n * Bit) = HmLabel ~n m"
    ∷ codes "hml_same$11 {m:#} v:Bit n:(#<= m) = HmLabel ~n m"
    ∷ codes "hm_edge$_ {n:#} {X:Type} {l:#} {m:#} label:(HmLabel ~l n) {n = (~m + l)} node:(HmNode m X) = Hm n X"
    ∷ codes "hmn_leaf$_ {X:Type} value:X = HmNode 0 X"
    ∷ codes "hmn_fork$_ {n:#} {X:Type} left:^(Hm n X) right:^(Hm n X) = HmNode (n + 1) X"
    ∷ codes "hme_empty$0 {n:#} {X:Type} = HmE n X"
    ∷ codes "hme_root$1 {n:#} {X:Type} root:^(Hm n X) = HmE n X" ∷ []
unfolding digits
line_texts = refl
