-- The steps go through the tokens of a cell.
use Rattle.std.proofs.Common.{◌≡◌, ℕ, suc, ◌+◌, ◌*◌, ◌≤◌, ◌==◌, Bool, true, false, ◌&&◌, nat_le, nat_lt, if◌then◌else◌, List, [], ◌∷◌, ◌++◌, map, length, Option, Some, None, Result, Ok, Err, refl, sym, ap, ◌∙◌, subst, arith, append_assoc, append-nil}
use Rattle.std.proofs.lemmas.Bool.Decides.{nat_tests}
use Rattle.cell_nodes.specs.Equations.{tree_of-out, unfolded-tree_of}
use Rattle.cell_nodes.specs.Good.{AllGood, IsGood, good, more, none}
use Rattle.cell_nodes.specs.Layout.{byte_of, exotic_kind, has_layout, pair_count, stored_mask}
use Rattle.cell_nodes.specs.Tree.{deepest, greatest, is_exotic, total, tree_of, unfolded}
use Rattle.cell_nodes.specs.declared.tree.Kind.{Kind}
use Rattle.cell_nodes.specs.declared.tree.Kind.TheVariants.{Ordinary, Pruned, Library, Proof, Update}
use Rattle.cell_nodes.specs.declared.tree.Tree.{Tree, out-Tree}
use Rattle.typed_value.specs.Values.{Slice}
use Rattle.value_text.specs.declared.lexeme.Sign.TheVariants.{OpenParen, Bang}
use Rattle.value_text.specs.declared.lexeme.Lexeme.TheVariants.{Sign as ASign}
use Rattle.value_text.specs.Text.{cell}
use Rattle.value_text.specs.Text as text
use Rattle.value_text.specs.Tokens.{mark, bits}
use Rattle.value_text.specs.Writes.{most_cells}
use Rattle.value_grammar.specs.declared.cause.Cause.{Cause}
use Rattle.value_grammar.specs.declared.cause.Cause.TheVariants.{DeepText, Range}
use Rattle.value_grammar.specs.Open.{Frame, Open, OpenCell, after_part, at, bang, bits_due, body_text, child_due, in_cell, paren_due, rest_child}
use Rattle.value_grammar.specs.Within.{cell_levels, closed, closed_exotic, closed_ordinary, limit_of, most_cell_levels}
use Rattle.value_grammar.specs.Steps.{begin_cell, counted, give_cell, give_closed, held_of, open_cell_of, step, unless_limit, with_child}
use Rattle.value_grammar.proofs.Texts.{cell_text}
use Rattle.value_grammar.proofs.Heights.{cell_levels-tree_of, one_le-levels}
use Rattle.value_grammar.proofs.Goes.{G, along, cons, cons_at, free, join, nothing, one, to, within}

-- ---- a cell that has its layout is made when it is closed

pruned_first : (bs : List ℕ) (n : ℕ) → (byte_of 0 bs == 1) ≡ false → has_layout Pruned bs n ≡ false
pruned_first bs n e = by_refs (n == 0) (byte_of 0 bs == 1) (nat_le 1 (stored_mask bs)) (nat_le (stored_mask bs) 7) (length bs == 16 + 272 * pair_count (stored_mask bs)) e
  where
    by_refs : (a b c d f : Bool) → b ≡ false → (a && b && c && d && f) ≡ false
    by_refs true false c d f g = refl
    by_refs true true c d f g = absurd (cc)
    by_refs false b c d f g = refl

third : (a b c : Bool) → (a && b && c) ≡ true → c ≡ true
third true true c e = e
third true false c e = absurd (cc)
third false b c e = absurd (cc)

third_not : (a b c : Bool) → c ≡ false → (a && b && c) ≡ false
third_not true true c e = e
third_not true false c e = refl
third_not false b c e = refl

other_byte : (b m n : ℕ) → (b == m) ≡ true → (m == n) ≡ false → (b == n) ≡ false
other_byte b m n e f = let s : b ≡ m = grind (arith, nat_tests) in ap (λ (x : ℕ). x == n) s ∙ f

exotic_of : (kind : Kind) (bs : List ℕ) (n : ℕ) → has_layout kind bs n ≡ true → is_exotic kind ≡ true → exotic_kind bs n ≡ Some kind
exotic_of Ordinary bs n h e = absurd (cc)
exotic_of Pruned bs n h e = ap (λ (b : Bool). if b then Some Pruned else (if has_layout Library bs n then Some Library
    else if has_layout Proof bs n then Some Proof else if has_layout Update bs n then Some Update else None)) h
exotic_of Library bs n h e =
    let two : (byte_of 0 bs == 2) ≡ true = third (length bs == 264) (n == 0) (byte_of 0 bs == 2) h in
    let p = pruned_first bs n (other_byte (byte_of 0 bs) 2 1 two refl) in
    (λ i. if p i then Some Pruned else (if h i then Some Library
    else if has_layout Proof bs n then Some Proof else if has_layout Update bs n then Some Update else None))
exotic_of Proof bs n h e =
    let three : (byte_of 0 bs == 3) ≡ true = third (length bs == 280) (n == 1) (byte_of 0 bs == 3) h in
    let p = pruned_first bs n (other_byte (byte_of 0 bs) 3 1 three refl) in
    let l : has_layout Library bs n ≡ false = third_not (length bs == 264) (n == 0) (byte_of 0 bs == 2) (other_byte (byte_of 0 bs) 3 2 three refl) in
    (λ i. if p i then Some Pruned else (if l i then Some Library
    else if h i then Some Proof else if has_layout Update bs n then Some Update else None))
exotic_of Update bs n h e =
    let four : (byte_of 0 bs == 4) ≡ true = third (length bs == 552) (n == 2) (byte_of 0 bs == 4) h in
    let p = pruned_first bs n (other_byte (byte_of 0 bs) 4 1 four refl) in
    let l : has_layout Library bs n ≡ false = third_not (length bs == 264) (n == 0) (byte_of 0 bs == 2) (other_byte (byte_of 0 bs) 4 2 four refl) in
    let f : has_layout Proof bs n ≡ false = third_not (length bs == 280) (n == 1) (byte_of 0 bs == 3) (other_byte (byte_of 0 bs) 4 3 four refl) in
    (λ i. if p i then Some Pruned else (if l i then Some Library else if f i then Some Proof else if h i then Some Update else None))

shallow_test : (n : ℕ) → n ≤ 1024 → nat_lt 1024 n ≡ false
shallow_test n h = grind (arith, nat_tests)

few_test : (n : ℕ) → n ≤ 4 → nat_lt 4 n ≡ false
few_test n h = grind (arith, nat_tests)

exotic_made : (kind : Kind) (bs : List ℕ) (cs : List Tree) (k : Option Kind) → k ≡ Some kind → deepest (tree_of kind bs cs) ≤ 1024
    → closed_exotic k bs cs ≡ Ok (tree_of kind bs cs)
exotic_made kind bs cs k e h =
    ap (λ (x : Option Kind). closed_exotic x bs cs) e
    ∙ ap (λ (b : Bool). if b then Err DeepText else Ok (tree_of kind bs cs)) (shallow_test (deepest (tree_of kind bs cs)) h)

ordinary_made : (bs : List ℕ) (cs : List Tree) → deepest (tree_of Ordinary bs cs) ≤ 1024 → length cs ≤ 4 → closed_ordinary bs cs ≡ Ok (tree_of Ordinary bs cs)
ordinary_made bs cs h f =
    let a = shallow_test (deepest (tree_of Ordinary bs cs)) h in
    let b = few_test (length cs) f in
    (λ i. if a i then Err DeepText else (if b i then Err Range else Ok (tree_of Ordinary bs cs)))

made : (kind : Kind) (p : ℕ) (bs : List ℕ) (cs : List Tree) → has_layout kind bs (length cs) ≡ true → deepest (tree_of kind bs cs) ≤ 1024 → length cs ≤ 4
    → closed (open_cell_of (is_exotic kind) p bs cs) ≡ Ok (tree_of kind bs cs)
made Ordinary p bs cs h d f = ordinary_made bs cs d f
made Pruned p bs cs h d f = exotic_made Pruned bs cs (exotic_kind bs (length cs)) (exotic_of Pruned bs (length cs) h refl) d
made Library p bs cs h d f = exotic_made Library bs cs (exotic_kind bs (length cs)) (exotic_of Library bs (length cs) h refl) d
made Proof p bs cs h d f = exotic_made Proof bs cs (exotic_kind bs (length cs)) (exotic_of Proof bs (length cs) h refl) d
made Update p bs cs h d f = exotic_made Update bs cs (exotic_kind bs (length cs)) (exotic_of Update bs (length cs) h refl) d

-- ---- where a cell begins

-- a `(`, where there is room for one more cell, and a `!` lead into a cell inside these
pub record Begins (o : Open) (x k : ℕ) (base : Option Slice) (ps : List OpenCell) (below : List Frame) (m : ℕ) : Type 0 where
  pub paren : k + 1 ≤ most_cells → (p : ℕ) → step (held_of o x k) (p, ASign OpenParen) ≡ Ok (held_of (at (in_cell base ps (bits_due false p)) below) m (k + 1))
  pub exotic : (p : ℕ) → step (held_of o x k) (p, ASign Bang) ≡ Ok (held_of (at (in_cell base ps paren_due) below) m k)

not_deep : (d : ℕ) (b : Bool) → d + 1 ≤ most_cell_levels → (nat_le most_cell_levels d && b) ≡ false
not_deep d b h = ap (λ (t : Bool). t && b) (within d most_cell_levels h)

pub child_begins : (base : Option Slice) (ps : List OpenCell) (q : OpenCell) (below : List Frame) (m k : ℕ) → suc (length ps) + 1 ≤ most_cell_levels
    → Begins (at (in_cell base ps (child_due q)) below) m k base (q ∷ ps) below m
child_begins base ps q below m k h =
    let d = not_deep (suc (length ps)) true h in
    let bang_free : limit_of m k (in_cell base ps (child_due q)) below (ASign Bang) ≡ None = free m k (in_cell base ps (child_due q)) below (ASign Bang) d refl refl refl in
    record {
      paren = λ f p.
          let c = within k most_cells f in
          let paren_free : limit_of m k (in_cell base ps (child_due q)) below (ASign OpenParen) ≡ None =
          free m k (in_cell base ps (child_due q)) below (ASign OpenParen) d c refl refl in
          (λ i. counted (unless_limit (paren_free i) p (begin_cell base (q ∷ ps) (ASign OpenParen) p below)) m (k + 1));
      exotic = λ p. (λ i. counted (unless_limit (bang_free i) p (begin_cell base (q ∷ ps) (ASign Bang) p below)) m k);
    }

pub rest_begins : (r : Slice) (below : List Frame) (m k : ℕ) → Begins (at (rest_child r) below) m k (Some r) [] below m
rest_begins r below m k = record {
  paren = λ f p.
      let c = within k most_cells f in
      let lim : limit_of m k (rest_child r) below (ASign OpenParen) ≡ None = free m k (rest_child r) below (ASign OpenParen) refl c refl refl in
      (λ i. counted (unless_limit (lim i) p (begin_cell (Some r) [] (ASign OpenParen) p below)) m (k + 1));
  exotic = λ p. refl;
}

pub paren_step : (base : Option Slice) (ps : List OpenCell) (below : List Frame) (m k : ℕ) → k + 1 ≤ most_cells → (p : ℕ)
    → step (held_of (at (in_cell base ps paren_due) below) m k) (p, ASign OpenParen) ≡ Ok (held_of (at (in_cell base ps (bits_due true p)) below) m (k + 1))
paren_step base ps below m k f p =
    let c = within k most_cells f in
    let lim : limit_of m k (in_cell base ps paren_due) below (ASign OpenParen) ≡ None = free m k (in_cell base ps paren_due) below (ASign OpenParen) refl c refl refl in
    (λ i. counted (unless_limit (lim i) p (Ok (at (in_cell base ps (bits_due true p)) below))) m (k + 1))

-- ---- cells

some_cells : (bs : List ℕ) (kind : Kind) (cs : List Tree) (k : ℕ) → k + unfolded (tree_of kind bs cs) ≤ most_cells → k + 1 + total (map unfolded cs) ≤ most_cells
some_cells bs kind cs k h = let e = unfolded-tree_of kind bs cs in omega (arith, e, h)

-- a whole body, in what is around it
body_end : (kind : Kind) (bs : List ℕ) (cs : List Tree) (p : ℕ) (base : Option Slice) (ps : List OpenCell) (below : List Frame) (m k : ℕ)
    → has_layout kind bs (length cs) ≡ true → deepest (tree_of kind bs cs) ≤ 1024 → length cs ≤ 4
    → G (at (in_cell base ps (after_part (open_cell_of (is_exotic kind) p bs cs))) below) m k (mark 41 ∷ []) (give_cell (tree_of kind bs cs) base ps below) m k
body_end kind bs cs p base ps below m k h d f =
    one (at (in_cell base ps (after_part (open_cell_of (is_exotic kind) p bs cs))) below) m k (mark 41) (give_cell (tree_of kind bs cs) base ps below) m k
    (λ x. ap (λ (r : Result Tree Cause). counted (give_closed r p base ps below) m k) (made kind p bs cs h d f))

-- the `(` and the bits, or a `!` before them
head_goes : (exotic : Bool) (bs : List ℕ) (cs : List Tree) (o : Open) (x k : ℕ) (base : Option Slice) (ps : List OpenCell) (below : List Frame) (m : ℕ) (q : Open)
    → Begins o x k base ps below m → k + 1 ≤ most_cells
    → ((p : ℕ) → G (at (in_cell base ps (after_part (open_cell_of exotic p bs []))) below) m (k + 1) (text.more (map cell cs) ++ mark 41 ∷ []) q m (k + 1 + total (map unfolded cs)))
    → G o x k ((bang exotic ++ body_text bs cs) ++ mark 41 ∷ []) q m (k + 1 + total (map unfolded cs))
head_goes false bs cs o x k base ps below m q b c f =
    cons_at o x k (mark 40) (bits bs ∷ text.more (map cell cs) ++ mark 41 ∷ []) q m (k + 1 + total (map unfolded cs)) (λ p. at (in_cell base ps (bits_due false p)) below) m (k + 1) (b.paren c)
    (λ p. cons (at (in_cell base ps (bits_due false p)) below) m (k + 1) (bits bs) (text.more (map cell cs) ++ mark 41 ∷ []) q m (k + 1 + total (map unfolded cs))
    (at (in_cell base ps (after_part (open_cell_of false p bs []))) below) m (k + 1) (λ y. refl) (f p))
head_goes true bs cs o x k base ps below m q b c f =
    cons o x k (mark 33) (mark 40 ∷ bits bs ∷ text.more (map cell cs) ++ mark 41 ∷ []) q m (k + 1 + total (map unfolded cs)) (at (in_cell base ps paren_due) below) m k b.exotic
    (cons_at (at (in_cell base ps paren_due) below) m k (mark 40) (bits bs ∷ text.more (map cell cs) ++ mark 41 ∷ []) q m (k + 1 + total (map unfolded cs))
    (λ p. at (in_cell base ps (bits_due true p)) below) m (k + 1) (paren_step base ps below m k c)
    (λ p. cons (at (in_cell base ps (bits_due true p)) below) m (k + 1) (bits bs) (text.more (map cell cs) ++ mark 41 ∷ []) q m (k + 1 + total (map unfolded cs))
    (at (in_cell base ps (after_part (open_cell_of true p bs []))) below) m (k + 1) (λ y. refl) (f p)))

mutual
  pub cell_goes : {t : Tree} → IsGood t → (o : Open) (x k : ℕ) (base : Option Slice) (ps : List OpenCell) (below : List Frame) (m : ℕ)
      → Begins o x k base ps below m → length ps + cell_levels t ≤ most_cell_levels → k + unfolded t ≤ most_cells
      → G o x k (cell t) (give_cell t base ps below) m (k + unfolded t)
  cell_goes (good t sound all) o x k base ps below m b h c =
      let kind : Kind = (out-Tree t).kind in
      let bs : List ℕ = (out-Tree t).bits in
      let cs : List Tree = (out-Tree t).children in
      let e = tree_of-out t in
      let D : Tree → Type 0 = λ y. length ps + cell_levels y ≤ most_cell_levels in
      let C : Tree → Type 0 = λ y. k + unfolded y ≤ most_cells in
      let S : Tree → Type 0 = λ y. deepest y ≤ 1024 in
      let P : Tree → Type 0 = λ y. G o x k (cell y) (give_cell y base ps below) m (k + unfolded y) in
      let levels = cell_levels-tree_of kind bs cs in
      let deep = subst D (sym e) h in
      let room : k + 1 + total (map unfolded cs) ≤ most_cells = some_cells bs kind cs k (subst C (sym e) c) in
      subst P e
      (to o x k (cell (tree_of kind bs cs)) (give_cell (tree_of kind bs cs) base ps below) (give_cell (tree_of kind bs cs) base ps below) m (k + 1 + total (map unfolded cs)) m
      (k + unfolded (tree_of kind bs cs)) refl refl (let u = unfolded-tree_of kind bs cs in omega (arith, u))
      (along o x k ((bang (is_exotic kind) ++ body_text bs cs) ++ mark 41 ∷ []) (cell (tree_of kind bs cs)) (give_cell (tree_of kind bs cs) base ps below) m (k + 1 + total (map unfolded cs))
      (sym (cell_text (is_exotic kind) kind bs cs refl))
      (head_goes (is_exotic kind) bs cs o x k base ps below m (give_cell (tree_of kind bs cs) base ps below) b (omega (arith, room))
      (λ p. join (at (in_cell base ps (after_part (open_cell_of (is_exotic kind) p bs []))) below) m (k + 1) (text.more (map cell cs))
      (at (in_cell base ps (after_part (open_cell_of (is_exotic kind) p bs cs))) below) m (k + 1 + total (map unfolded cs)) (mark 41 ∷ [])
      (give_cell (tree_of kind bs cs) base ps below) m (k + 1 + total (map unfolded cs))
      (children_go all [] (is_exotic kind) p bs base ps below m (k + 1) (omega (arith, levels, deep)) room)
      (body_end kind bs cs p base ps below m (k + 1 + total (map unfolded cs)) sound.layout (subst S (sym e) sound.shallow) sound.few)))))

  pub children_go : {cs : List Tree} → AllGood cs → (done : List Tree) (exotic : Bool) (p : ℕ) (bs : List ℕ) (base : Option Slice) (ps : List OpenCell) (below : List Frame) (m k : ℕ)
      → length ps + 1 + greatest (map cell_levels cs) ≤ most_cell_levels → k + total (map unfolded cs) ≤ most_cells
      → G (at (in_cell base ps (after_part (open_cell_of exotic p bs done))) below) m k (text.more (map cell cs))
      (at (in_cell base ps (after_part (open_cell_of exotic p bs (done ++ cs)))) below) m (k + total (map unfolded cs))
  children_go none done exotic p bs base ps below m k h c =
      to (at (in_cell base ps (after_part (open_cell_of exotic p bs done))) below) m k [] (at (in_cell base ps (after_part (open_cell_of exotic p bs done))) below)
      (at (in_cell base ps (after_part (open_cell_of exotic p bs (done ++ [])))) below) m k m (k + 0)
      (ap (λ (ts : List Tree). at (in_cell base ps (after_part (open_cell_of exotic p bs ts))) below) (sym (append-nil done))) refl (omega arith)
      (nothing (at (in_cell base ps (after_part (open_cell_of exotic p bs done))) below) m k)
  children_go (more t ts g gs) done exotic p bs base ps below m k h c =
      let q : OpenCell = open_cell_of exotic p bs done in
      let l = one_le-levels t in
      to (at (in_cell base ps (after_part q)) below) m k (text.more (map cell (t ∷ ts)))
      (at (in_cell base ps (after_part (open_cell_of exotic p bs ((done ++ t ∷ []) ++ ts)))) below) (at (in_cell base ps (after_part (open_cell_of exotic p bs (done ++ t ∷ ts)))) below)
      m (k + unfolded t + total (map unfolded ts)) m (k + total (map unfolded (t ∷ ts)))
      (ap (λ (us : List Tree). at (in_cell base ps (after_part (open_cell_of exotic p bs us))) below) (append_assoc done (t ∷ []) ts)) refl (omega arith)
      (cons (at (in_cell base ps (after_part q)) below) m k (mark 44) (cell t ++ text.more (map cell ts))
      (at (in_cell base ps (after_part (open_cell_of exotic p bs ((done ++ t ∷ []) ++ ts)))) below) m (k + unfolded t + total (map unfolded ts))
      (at (in_cell base ps (child_due q)) below) m k (λ x. refl)
      (join (at (in_cell base ps (child_due q)) below) m k (cell t) (at (in_cell base ps (after_part (with_child q t))) below) m (k + unfolded t) (text.more (map cell ts))
      (at (in_cell base ps (after_part (open_cell_of exotic p bs ((done ++ t ∷ []) ++ ts)))) below) m (k + unfolded t + total (map unfolded ts))
      (cell_goes g (at (in_cell base ps (child_due q)) below) m k base (q ∷ ps) below m
      (child_begins base ps q below m k (omega (arith, h, l))) (omega (arith, h)) (omega (arith, c)))
      (children_go gs (done ++ t ∷ []) exotic p bs base ps below m (k + unfolded t) (omega (arith, h)) (omega (arith, c)))))
