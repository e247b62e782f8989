-- The steps go through what has been written where a text stands within the limits.
use Rattle.std.proofs.Common.{◌≡◌, ℕ, zero, suc, ◌+◌, ◌≤◌, Bool, true, false, List, [], ◌∷◌, ◌++◌, map, length, Option, Some, None, refl, sym, ap, ◌∙◌, subst, arith, append_assoc, append-nil}
use Rattle.cell_nodes.specs.Good.{AllGood}
use Rattle.cell_nodes.specs.Tree.{greatest}
use Rattle.typed_value.specs.Values.{Slice, most_levels, most_parts}
use Rattle.value_text.specs.declared.lexeme.Sign.TheVariants.{Percent}
use Rattle.value_text.specs.declared.lexeme.Lexeme.TheVariants.{Sign as ASign}
use Rattle.value_text.specs.Text.{cell, more}
use Rattle.value_text.specs.Tokens.{Token, mark, bits, name}
use Rattle.value_text.specs.Writes.{most_cells}
use Rattle.value_grammar.specs.Open.{CellSpot, Frame, Open, OpenCell, Spot, after_entry, after_field, after_item, after_part, after_rest, around_cells, around_text, at, bang, base_cells, base_text, bits_due, body_text, cell_spot_cells, cell_spot_text, cells_begun, child_due, done, due, entry_due, entry_or_end, field_due, field_or_end, frames_cells, frames_parts, frames_text, in_cell, item, item_or_end, keyed, labelled, named, open_cell_text, paren_due, parts_begun, refs_cells, rest_bits, rest_child, rest_paren, so_far, spot_cells, spot_parts, spot_text}
use Rattle.value_grammar.specs.Within.{AroundWithin, BaseWithin, CellSpotWithin, IsWithin, NotFirst, OpenCellWithin, SpotWithin, cell_levels, most_cell_levels}
use Rattle.value_grammar.specs.Steps.{open_cell_of}
use Rattle.value_grammar.proofs.Goes.{G, due_step, join, nothing, one, to}
use Rattle.value_grammar.proofs.GoesCells.{Begins, child_begins, children_go, paren_step, rest_begins}
use Rattle.value_grammar.proofs.Values.{name_opens}
use Rattle.value_grammar.proofs.Maps.{due_begins, rest_body, value_goes}
use Rattle.value_grammar.proofs.Leads.{Leads, leads, leads_along, leads_cons, leads_from, leads_on, leads_to}
use Rattle.value_grammar.proofs.Sound.{entries_there}
use Rattle.value_grammar.proofs.Opens.{after_entry_goes, after_field_goes, after_item_goes, entry_due_goes, field_due_goes, frames_go, is_due, keyed_goes, labelled_goes, list_first, map_first, opening, opens, record_first}

-- ---- the same but for places

abbrev placed : OpenCell → ℕ → OpenCell
placed p place = open_cell_of p.exotic place p.bits p.refs

abbrev pub LikeCell : CellSpot → CellSpot → Type 0
LikeCell paren_due d = d ≡ paren_due
LikeCell (bits_due exotic place) d = (y : ℕ) × (d ≡ bits_due exotic y)
LikeCell (after_part p) d = (y : ℕ) × (d ≡ after_part (placed p y))
LikeCell (child_due p) d = (y : ℕ) × (d ≡ child_due (placed p y))

-- inside as many cells
abbrev pub Like : Spot → List Frame → Open → Type 0
Like (in_cell base ps c) below o = (qs : List OpenCell) × (d : CellSpot) × (length qs ≡ length ps) × LikeCell c d × (o ≡ at (in_cell base qs d) below)
Like spot below o = o ≡ at spot below

-- ---- what is left of a cell

rest_first : (below : List Frame) (m k : ℕ) → length below + 1 ≤ most_levels → m + 1 ≤ most_parts → G (opening below) m k (mark 37 ∷ []) (at rest_paren below) (m + 1) k
rest_first below m k l p =
    opens (mark 37) [] below m k (at rest_paren below) (m + 1) k (λ b y. refl)
    (one (at due below) m k (mark 37) (at rest_paren below) (m + 1) k (λ x. due_step (ASign Percent) x below m k false refl refl refl (λ e. absurd (cc)) l p))

rest_bits_go : (below : List Frame) (m k : ℕ) → length below + 1 ≤ most_levels → m + 1 ≤ most_parts → G (opening below) m k (mark 37 ∷ mark 40 ∷ []) (at rest_bits below) (m + 1) k
rest_bits_go below m k l p =
    join (opening below) m k (mark 37 ∷ []) (at rest_paren below) (m + 1) k (mark 40 ∷ []) (at rest_bits below) (m + 1) k (rest_first below m k l p)
    (one (at rest_paren below) (m + 1) k (mark 40) (at rest_bits below) (m + 1) k (λ x. refl))

after_rest_goes : (r : Slice) (below : List Frame) (m k : ℕ) → BaseWithin (Some r) → length below + 1 ≤ most_levels → m + 1 ≤ most_parts → k + refs_cells r.refs ≤ most_cells
    → G (opening below) m k (mark 37 ∷ body_text r.bits r.refs) (at (after_rest r) below) (m + 1) (k + refs_cells r.refs)
after_rest_goes r below m k w l p c =
    join (opening below) m k (mark 37 ∷ []) (at rest_paren below) (m + 1) k (body_text r.bits r.refs) (at (after_rest r) below) (m + 1) (k + refs_cells r.refs) (rest_first below m k l p)
    (rest_body r below (m + 1) k w.1 c)

rest_child_goes : (r : Slice) (below : List Frame) (m k : ℕ) → BaseWithin (Some r) → length below + 1 ≤ most_levels → m + 1 ≤ most_parts → k + refs_cells r.refs ≤ most_cells
    → G (opening below) m k (mark 37 ∷ body_text r.bits r.refs ++ mark 44 ∷ []) (at (rest_child r) below) (m + 1) (k + refs_cells r.refs)
rest_child_goes r below m k w l p c =
    let j : ℕ = k + refs_cells r.refs in
    join (opening below) m k (mark 37 ∷ body_text r.bits r.refs) (at (after_rest r) below) (m + 1) j (mark 44 ∷ []) (at (rest_child r) below) (m + 1) j (after_rest_goes r below m k w l p c)
    (one (at (after_rest r) below) (m + 1) j (mark 44) (at (rest_child r) below) (m + 1) j (λ x. refl))

-- ---- where a cell begins inside these

abbrev entrance : Option Slice → List OpenCell → List Frame → Open
entrance None [] below = opening below
entrance (Some r) [] below = at (rest_child r) below
entrance base (q ∷ qs) below = at (in_cell base qs (child_due q)) below

-- how many values have begun there: the cell that is a value begins one
abbrev entered : Option Slice → ℕ → ℕ → ℕ
entered None zero m = m
entered (Some r) zero m = m + 1
entered base (suc n) m = m + 1

opening_begins : (below : List Frame) (m k : ℕ) → length below + 1 ≤ most_levels → m + 1 ≤ most_parts → Begins (opening below) m k None [] below (m + 1)
opening_begins (item [] ∷ below) m k l p =
    let b = due_begins (item [] ∷ below) m k l p in
    record { paren = λ c x. b.paren c x; exotic = λ x. b.exotic x }
opening_begins below m k l p = due_begins below m k l p

entrance_begins : (base : Option Slice) (qs : List OpenCell) (below : List Frame) (m k : ℕ) → length below + 1 ≤ most_levels → m + 1 ≤ most_parts
    → length qs + 1 ≤ most_cell_levels → Begins (entrance base qs below) (entered base (length qs) m) k base qs below (m + 1)
entrance_begins None [] below m k l p h = opening_begins below m k l p
entrance_begins (Some r) [] below m k l p h = rest_begins r below (m + 1) k
entrance_begins None (q ∷ qs) below m k l p h = child_begins None qs q below (m + 1) k h
entrance_begins (Some r) (q ∷ qs) below m k l p h = child_begins (Some r) qs q below (m + 1) k h

-- ---- cells that are open

-- in a cell of these bits and references
abbrev InCell : Option Slice → List OpenCell → List Frame → OpenCell → Open → Type 0
InCell base qs below p o = (y : ℕ) × (o ≡ at (in_cell base qs (after_part (placed p y))) below)

body_leads : (p : OpenCell) (y : ℕ) (base : Option Slice) (qs : List OpenCell) (below : List Frame) (m k : ℕ) → AllGood p.refs
    → length qs + 1 + greatest (map cell_levels p.refs) ≤ most_cell_levels → k + 1 + refs_cells p.refs ≤ most_cells
    → Leads (at (in_cell base qs (bits_due p.exotic y)) below) m (k + 1) (bits p.bits ∷ more (map cell p.refs)) (InCell base qs below p) m (k + 1 + refs_cells p.refs)
body_leads p y base qs below m k g h c =
    leads_cons (at (in_cell base qs (bits_due p.exotic y)) below) m (k + 1) (bits p.bits) (more (map cell p.refs)) (InCell base qs below p) m (k + 1 + refs_cells p.refs)
    (λ x. at (in_cell base qs (after_part (open_cell_of p.exotic y p.bits []))) below) m (k + 1) (λ x. refl)
    (λ x. leads (at (in_cell base qs (after_part (open_cell_of p.exotic y p.bits []))) below) m (k + 1) (more (map cell p.refs))
    (at (in_cell base qs (after_part (placed p y))) below) m (k + 1 + refs_cells p.refs) (InCell base qs below p)
    (children_go g [] p.exotic y p.bits base qs below m (k + 1) h c) (y, refl))

head_leads : (exotic : Bool) (o : Open) (x k : ℕ) (base : Option Slice) (qs : List OpenCell) (below : List Frame) (m : ℕ) (us : List Token) (Q : Open → Type 0) (j : ℕ)
    → Begins o x k base qs below m → k + 1 ≤ most_cells → ((y : ℕ) → Leads (at (in_cell base qs (bits_due exotic y)) below) m (k + 1) us Q m j)
    → Leads o x k (bang exotic ++ mark 40 ∷ us) Q m j
head_leads false o x k base qs below m us Q j b c f =
    leads_cons o x k (mark 40) us Q m j (λ y. at (in_cell base qs (bits_due false y)) below) m (k + 1) (b.paren c) f
head_leads true o x k base qs below m us Q j b c f =
    leads_cons o x k (mark 33) (mark 40 ∷ us) Q m j (λ y. at (in_cell base qs paren_due) below) m k b.exotic
    (λ y. leads_cons (at (in_cell base qs paren_due) below) m k (mark 40) us Q m j (λ z. at (in_cell base qs (bits_due true z)) below) m (k + 1)
    (paren_step base qs below m k c) f)

cell_leads : (p : OpenCell) (o : Open) (x k : ℕ) (base : Option Slice) (qs : List OpenCell) (below : List Frame) (m : ℕ) → Begins o x k base qs below m
    → OpenCellWithin (length qs) p → k + (1 + refs_cells p.refs) ≤ most_cells
    → Leads o x k (bang p.exotic ++ body_text p.bits p.refs) (InCell base qs below p) m (k + (1 + refs_cells p.refs))
cell_leads p o x k base qs below m b w c =
    leads_to o x k (bang p.exotic ++ body_text p.bits p.refs) (InCell base qs below p) (InCell base qs below p) m (k + 1 + refs_cells p.refs) m (k + (1 + refs_cells p.refs))
    (λ q h. h) refl (omega arith)
    (head_leads p.exotic o x k base qs below m (bits p.bits ∷ more (map cell p.refs)) (InCell base qs below p) (k + 1 + refs_cells p.refs) b (omega (arith, c))
    (λ y. body_leads p y base qs below m k w.1 w.2 (omega (arith, c))))

-- a child is due in the cell
abbrev DueIn : Option Slice → List OpenCell → List Frame → OpenCell → Open → Type 0
DueIn base qs below p o = (y : ℕ) × (o ≡ at (in_cell base qs (child_due (placed p y))) below)

child_leads : (p : OpenCell) (o : Open) (x k : ℕ) (base : Option Slice) (qs : List OpenCell) (below : List Frame) (m : ℕ) → Begins o x k base qs below m
    → OpenCellWithin (length qs) p → k + (1 + refs_cells p.refs) ≤ most_cells
    → Leads o x k (open_cell_text p) (DueIn base qs below p) m (k + (1 + refs_cells p.refs))
child_leads p o x k base qs below m b w c =
    let j : ℕ = k + (1 + refs_cells p.refs) in
    leads_on o x k (bang p.exotic ++ body_text p.bits p.refs) (InCell base qs below p) m j (mark 44 ∷ []) (DueIn base qs below p) m j
    (cell_leads p o x k base qs below m b w c)
    (λ q h.
    leads_from q (at (in_cell base qs (after_part (placed p h.0))) below) m j (mark 44 ∷ []) (DueIn base qs below p) m j (sym h.1)
    (leads (at (in_cell base qs (after_part (placed p h.0))) below) m j (mark 44 ∷ []) (at (in_cell base qs (child_due (placed p h.0))) below) m j (DueIn base qs below p)
    (one (at (in_cell base qs (after_part (placed p h.0))) below) m j (mark 44) (at (in_cell base qs (child_due (placed p h.0))) below) m j (λ z. refl)) (h.0, refl)))

-- ---- the cells around

-- a cell may begin inside as many cells
abbrev Entrance : Option Slice → ℕ → List Frame → Open → Type 0
Entrance base n below o = (qs : List OpenCell) × (length qs ≡ n) × (o ≡ entrance base qs below)

base_leads : (base : Option Slice) (below : List Frame) (m k : ℕ) → BaseWithin base → length below + 1 ≤ most_levels → m + 1 ≤ most_parts → k + base_cells base ≤ most_cells
    → Leads (opening below) m k (base_text base) (Entrance base 0 below) (entered base 0 m) (k + base_cells base)
base_leads None below m k w l p c =
    leads_to (opening below) m k [] (Entrance None 0 below) (Entrance None 0 below) m k m (k + 0) (λ q h. h) refl (omega arith)
    (leads (opening below) m k [] (opening below) m k (Entrance None 0 below) (nothing (opening below) m k) ([], refl, refl))
base_leads (Some r) below m k w l p c =
    leads (opening below) m k (base_text (Some r)) (at (rest_child r) below) (m + 1) (k + refs_cells r.refs) (Entrance (Some r) 0 below)
    (rest_child_goes r below m k w l p c) ([], refl, refl)

entered_suc : (base : Option Slice) (n m : ℕ) → entered base (suc n) m ≡ m + 1
entered_suc None n m = refl
entered_suc (Some r) n m = refl

entrance_cons : (base : Option Slice) (q : OpenCell) (qs : List OpenCell) (below : List Frame) → at (in_cell base qs (child_due q)) below ≡ entrance base (q ∷ qs) below
entrance_cons None q qs below = refl
entrance_cons (Some r) q qs below = refl

begins_there : (o : Open) (base : Option Slice) (qs : List OpenCell) (n : ℕ) (below : List Frame) (m k : ℕ) → length qs ≡ n → o ≡ entrance base qs below → length below + 1 ≤ most_levels
    → m + 1 ≤ most_parts → n + 1 ≤ most_cell_levels → Begins o (entered base n m) k base qs below (m + 1)
begins_there o base qs n below m k e f l p h =
    let P : Open → Type 0 = λ x. Begins x (entered base n m) k base qs below (m + 1) in
    let Q : ℕ → Type 0 = λ x. Begins (entrance base qs below) (entered base x m) k base qs below (m + 1) in
    subst P (sym f) (subst Q e (entrance_begins base qs below m k l p (omega (arith, e, h))))

around_leads : (base : Option Slice) (ps : List OpenCell) (below : List Frame) (m k : ℕ) → BaseWithin base → AroundWithin ps → length below + 1 ≤ most_levels → m + 1 ≤ most_parts
    → k + base_cells base + around_cells ps ≤ most_cells
    → Leads (opening below) m k (base_text base ++ around_text ps) (Entrance base (length ps) below) (entered base (length ps) m) (k + base_cells base + around_cells ps)
around_leads base [] below m k w a l p c =
    leads_to (opening below) m k (base_text base ++ []) (Entrance base 0 below) (Entrance base 0 below) (entered base 0 m) (k + base_cells base) (entered base 0 m) (k + base_cells base + 0)
    (λ q h. h) refl (omega arith)
    (leads_along (opening below) m k (base_text base) (base_text base ++ []) (Entrance base 0 below) (entered base 0 m) (k + base_cells base) (sym (append-nil (base_text base)))
    (base_leads base below m k w l p (omega (arith, c))))
around_leads base (q ∷ ps) below m k w a l p c =
    let n : ℕ = length ps in
    let j : ℕ = k + base_cells base + around_cells ps in
    let x : ℕ = entered base n m in
    let levels = a.0.2 in
    leads_to (opening below) m k (base_text base ++ around_text (q ∷ ps)) (Entrance base (suc n) below) (Entrance base (suc n) below) (m + 1) (j + (1 + refs_cells q.refs))
    (entered base (suc n) m) (k + base_cells base + around_cells (q ∷ ps)) (λ o h. h) (sym (entered_suc base n m)) (omega arith)
    (leads_along (opening below) m k ((base_text base ++ around_text ps) ++ open_cell_text q) (base_text base ++ around_text (q ∷ ps)) (Entrance base (suc n) below) (m + 1)
    (j + (1 + refs_cells q.refs)) (append_assoc (base_text base) (around_text ps) (open_cell_text q))
    (leads_on (opening below) m k (base_text base ++ around_text ps) (Entrance base n below) x j (open_cell_text q) (Entrance base (suc n) below) (m + 1) (j + (1 + refs_cells q.refs))
    (around_leads base ps below m k w a.1 l p (omega (arith, c)))
    (λ o h. leads_to o x j (open_cell_text q) (DueIn base h.0 below q) (Entrance base (suc n) below) (m + 1) (j + (1 + refs_cells q.refs)) (m + 1) (j + (1 + refs_cells q.refs))
    (λ r d. (placed q d.0 ∷ h.0, ap suc h.1, d.1 ∙ entrance_cons base (placed q d.0) h.0 below)) refl refl
    (child_leads q o x j base h.0 below (m + 1) (begins_there o base h.0 n below m j h.1 h.2 l p (omega (arith, levels)))
    (let P : ℕ → Type 0 = λ y. OpenCellWithin y q in subst P (sym h.1) a.0) (omega (arith, c))))))

-- ---- in a cell

abbrev LikeIn : Option Slice → List OpenCell → List Frame → CellSpot → Open → Type 0
LikeIn base qs below c o = (d : CellSpot) × LikeCell c d × (o ≡ at (in_cell base qs d) below)

cell_spot_leads : (c : CellSpot) (o : Open) (x k : ℕ) (base : Option Slice) (qs : List OpenCell) (below : List Frame) (m : ℕ) → CellSpotWithin (length qs) c
    → Begins o x k base qs below m → k + cell_spot_cells c ≤ most_cells → Leads o x k (cell_spot_text c) (LikeIn base qs below c) m (k + cell_spot_cells c)
cell_spot_leads paren_due o x k base qs below m w b c =
    leads_to o x k (mark 33 ∷ []) (LikeIn base qs below paren_due) (LikeIn base qs below paren_due) m k m (k + 0) (λ q h. h) refl (omega arith)
    (leads o x k (mark 33 ∷ []) (at (in_cell base qs paren_due) below) m k (LikeIn base qs below paren_due)
    (one o x k (mark 33) (at (in_cell base qs paren_due) below) m k b.exotic) (paren_due, refl, refl))
cell_spot_leads (bits_due exotic place) o x k base qs below m w b c =
    head_leads exotic o x k base qs below m [] (LikeIn base qs below (bits_due exotic place)) (k + 1) b c
    (λ y. leads (at (in_cell base qs (bits_due exotic y)) below) m (k + 1) [] (at (in_cell base qs (bits_due exotic y)) below) m (k + 1) (LikeIn base qs below (bits_due exotic place))
    (nothing (at (in_cell base qs (bits_due exotic y)) below) m (k + 1)) (bits_due exotic y, (y, refl), refl))
cell_spot_leads (after_part p) o x k base qs below m w b c =
    leads_to o x k (bang p.exotic ++ body_text p.bits p.refs) (InCell base qs below p) (LikeIn base qs below (after_part p)) m (k + (1 + refs_cells p.refs)) m (k + (1 + refs_cells p.refs))
    (λ q h. (after_part (placed p h.0), (h.0, refl), h.1)) refl refl
    (cell_leads p o x k base qs below m b w c)
cell_spot_leads (child_due p) o x k base qs below m w b c =
    leads_to o x k (open_cell_text p) (DueIn base qs below p) (LikeIn base qs below (child_due p)) m (k + (1 + refs_cells p.refs)) m (k + (1 + refs_cells p.refs))
    (λ q h. (child_due (placed p h.0), (h.0, refl), h.1)) refl refl
    (child_leads p o x k base qs below m b w c)

in_cell_leads : (base : Option Slice) (ps : List OpenCell) (c : CellSpot) (below : List Frame) (m k : ℕ) → SpotWithin (length below) (in_cell base ps c) → m + 1 ≤ most_parts
    → k + spot_cells (in_cell base ps c) ≤ most_cells
    → Leads (opening below) m k (spot_text (in_cell base ps c)) (Like (in_cell base ps c) below) (m + 1) (k + spot_cells (in_cell base ps c))
in_cell_leads base ps c below m k w p h =
    let n : ℕ = length ps in
    let x : ℕ = entered base n m in
    let j : ℕ = k + base_cells base + around_cells ps in
    let l = w.3 in
    leads_to (opening below) m k ((base_text base ++ around_text ps) ++ cell_spot_text c) (Like (in_cell base ps c) below) (Like (in_cell base ps c) below) (m + 1) (j + cell_spot_cells c)
    (m + 1) (k + spot_cells (in_cell base ps c)) (λ q h. h) refl (omega arith)
    (leads_on (opening below) m k (base_text base ++ around_text ps) (Entrance base n below) x j (cell_spot_text c) (Like (in_cell base ps c) below) (m + 1) (j + cell_spot_cells c)
    (around_leads base ps below m k w.0 w.1 (omega (arith, l)) p (omega (arith, h)))
    (λ o e. leads_to o x j (cell_spot_text c) (LikeIn base e.0 below c) (Like (in_cell base ps c) below) (m + 1) (j + cell_spot_cells c) (m + 1) (j + cell_spot_cells c)
    (λ q d. (e.0, d.0, e.1, d.1, d.2)) refl refl
    (cell_spot_leads c o x j base e.0 below (m + 1) (let P : ℕ → Type 0 = λ y. CellSpotWithin y c in subst P (sym e.1) w.2)
    (begins_there o base e.0 n below m j e.1 e.2 (omega (arith, l)) p (one_more_level n c w.2)) (omega (arith, h)))))
  where
    one_more_level : (d : ℕ) (s : CellSpot) → CellSpotWithin d s → d + 1 ≤ most_cell_levels
    one_more_level d paren_due v = v
    one_more_level d (bits_due exotic place) v = v
    one_more_level d (after_part q) v = let r = v.2 in omega (arith, r)
    one_more_level d (child_due q) v = let r = v.2 in omega (arith, r)

-- ---- every spot

pub spot_leads : (spot : Spot) (below : List Frame) → SpotWithin (length below) spot → NotFirst spot below → (m k : ℕ) → m + spot_parts spot ≤ most_parts
    → k + spot_cells spot ≤ most_cells → Leads (opening below) m k (spot_text spot) (Like spot below) (m + spot_parts spot) (k + spot_cells spot)
spot_leads due below w f m k p c =
    leads_from (opening below) (at due below) m k [] (Like due below) (m + 0) (k + 0) (sym (is_due below f))
    (leads (at due below) m k [] (at due below) (m + 0) (k + 0) (Like due below)
    (to (at due below) m k [] (at due below) (at due below) m k (m + 0) (k + 0) refl (omega arith) (omega arith) (nothing (at due below) m k)) refl)
spot_leads item_or_end below w f m k p c =
    leads (opening below) m k (mark 91 ∷ []) (at item_or_end below) (m + 1) (k + 0) (Like item_or_end below)
    (to (opening below) m k (mark 91 ∷ []) (at item_or_end below) (at item_or_end below) (m + 1) k (m + 1) (k + 0) refl refl (omega arith) (list_first below m k (omega (arith, w)) p)) refl
spot_leads (after_item vs) below w f m k p c =
    leads (opening below) m k (spot_text (after_item vs)) (at (after_item vs) below) (m + spot_parts (after_item vs)) (k + spot_cells (after_item vs)) (Like (after_item vs) below)
    (after_item_goes vs below w.0 w.1 w.2 m k p c) refl
spot_leads (named n) below w f m k p c =
    let r = w.1 in
    leads (opening below) m k (name n ∷ []) (at (named n) below) (m + 1) (k + 0) (Like (named n) below)
    (to (opening below) m k (name n ∷ []) (at (named n) below) (at (named n) below) (m + 1) k (m + 1) (k + 0) refl refl (omega arith)
    (opens (name n) [] below m k (at (named n) below) (m + 1) k (λ b y. refl) (name_opens n below m k w.0 (omega (arith, r)) p))) refl
spot_leads (field_or_end n) below w f m k p c =
    let r = w.1 in
    leads (opening below) m k (spot_text (field_or_end n)) (at (field_or_end n) below) (m + 1) (k + 0) (Like (field_or_end n) below)
    (to (opening below) m k (spot_text (field_or_end n)) (at (field_or_end n) below) (at (field_or_end n) below) (m + 1) k (m + 1) (k + 0) refl refl (omega arith)
    (record_first n below m k w.0 (omega (arith, r)) p)) refl
spot_leads (field_due n fs) below w f m k p c =
    leads (opening below) m k (spot_text (field_due n fs)) (at (field_due n fs) below) (m + spot_parts (field_due n fs)) (k + spot_cells (field_due n fs)) (Like (field_due n fs) below)
    (field_due_goes n fs below w.0 w.1 m k p c) refl
spot_leads (labelled n fs x) below w f m k p c =
    leads (opening below) m k (spot_text (labelled n fs x)) (at (labelled n fs x) below) (m + spot_parts (labelled n fs x)) (k + spot_cells (labelled n fs x)) (Like (labelled n fs x) below)
    (labelled_goes n fs x below w.1 m k p c) refl
spot_leads (after_field n fs) below w f m k p c =
    leads (opening below) m k (spot_text (after_field n fs)) (at (after_field n fs) below) (m + spot_parts (after_field n fs)) (k + spot_cells (after_field n fs)) (Like (after_field n fs) below)
    (after_field_goes n fs below w.0 w.1 m k p c) refl
spot_leads entry_or_end below w f m k p c =
    leads (opening below) m k (mark 60 ∷ []) (at entry_or_end below) (m + 1) (k + 0) (Like entry_or_end below)
    (to (opening below) m k (mark 60 ∷ []) (at entry_or_end below) (at entry_or_end below) (m + 1) k (m + 1) (k + 0) refl refl (omega arith) (map_first below m k (omega (arith, w)) p)) refl
spot_leads (entry_due ps us last) below w f m k p c =
    leads (opening below) m k (spot_text (entry_due ps us last)) (at (entry_due ps us last) below) (m + spot_parts (entry_due ps us last)) (k + spot_cells (entry_due ps us last))
    (Like (entry_due ps us last) below)
    (entry_due_goes ps us last w.2.earlier below m k (record { formed = w.0; ordered = w.2.ordered; levels = w.3; parts = p; cells = c }) w.2.ends (entries_there ps us last w.2)) refl
spot_leads (keyed ps us x) below w f m k p c =
    leads (opening below) m k (spot_text (keyed ps us x)) (at (keyed ps us x) below) (m + spot_parts (keyed ps us x)) (k + spot_cells (keyed ps us x)) (Like (keyed ps us x) below)
    (keyed_goes ps us x below w m k p c) refl
spot_leads (after_entry ps us last) below w f m k p c =
    leads (opening below) m k (spot_text (after_entry ps us last)) (at (after_entry ps us last) below) (m + spot_parts (after_entry ps us last)) (k + spot_cells (after_entry ps us last))
    (Like (after_entry ps us last) below)
    (after_entry_goes ps us last w.2.earlier below m k (record { formed = w.0; ordered = w.2.ordered; levels = w.3; parts = p; cells = c }) w.2.ends) refl
spot_leads rest_paren below w f m k p c =
    leads (opening below) m k (mark 37 ∷ []) (at rest_paren below) (m + 1) (k + 0) (Like rest_paren below)
    (to (opening below) m k (mark 37 ∷ []) (at rest_paren below) (at rest_paren below) (m + 1) k (m + 1) (k + 0) refl refl (omega arith) (rest_first below m k (omega (arith, w)) p)) refl
spot_leads rest_bits below w f m k p c =
    leads (opening below) m k (mark 37 ∷ mark 40 ∷ []) (at rest_bits below) (m + 1) (k + 0) (Like rest_bits below)
    (to (opening below) m k (mark 37 ∷ mark 40 ∷ []) (at rest_bits below) (at rest_bits below) (m + 1) k (m + 1) (k + 0) refl refl (omega arith)
    (rest_bits_go below m k (omega (arith, w)) p)) refl
spot_leads (after_rest r) below w f m k p c =
    let l = w.1 in
    leads (opening below) m k (spot_text (after_rest r)) (at (after_rest r) below) (m + 1) (k + refs_cells r.refs) (Like (after_rest r) below)
    (after_rest_goes r below m k w.0 (omega (arith, l)) p c) refl
spot_leads (rest_child r) below w f m k p c =
    let l = w.1 in
    leads (opening below) m k (spot_text (rest_child r)) (at (rest_child r) below) (m + 1) (k + refs_cells r.refs) (Like (rest_child r) below)
    (rest_child_goes r below m k w.0 (omega (arith, l)) p c) refl
spot_leads (in_cell base ps s) below w f m k p c = in_cell_leads base ps s below m k w p c
spot_leads (done v) [] w f m k p c =
    leads (at due []) m k (spot_text (done v)) (at (done v) []) (m + spot_parts (done v)) (k + spot_cells (done v)) (Like (done v) [])
    (value_goes v w.0 [] m k (let l = w.1 in omega (arith, l)) p c) refl
spot_leads (done v) (g ∷ below) w f m k p c = let e = w.2 in absurd (omega (arith, e))

-- the text up to where it stands leads there, but for places
pub open_leads : (spot : Spot) (below : List Frame) → IsWithin spot below
    → Leads (at due []) 0 0 (so_far (at spot below)) (Like spot below) (parts_begun (at spot below)) (cells_begun (at spot below))
open_leads spot below w =
    let p = w.parts in
    let c = w.cells in
    leads_on (at due []) 0 0 (frames_text below) (λ o. o ≡ opening below) (frames_parts below) (frames_cells below) (spot_text spot) (Like spot below)
    (parts_begun (at spot below)) (cells_begun (at spot below))
    (leads (at due []) 0 0 (frames_text below) (opening below) (frames_parts below) (frames_cells below) (λ o. o ≡ opening below)
    (frames_go below w.frames (omega (arith, p)) (omega (arith, c))) refl)
    (λ o e. leads_from o (opening below) (frames_parts below) (frames_cells below) (spot_text spot) (Like spot below) (parts_begun (at spot below)) (cells_begun (at spot below)) (sym e)
    (spot_leads spot below w.there w.not_first (frames_parts below) (frames_cells below) p c))
