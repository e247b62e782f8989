-- What the productions derive, the machine goes through: one line a production.
use Rattle.std.proofs.Common.{◌≡◌, ℕ, suc, Bool, true, false, List, [], ◌∷◌, ◌++◌, Option, Some, None, refl, sym, ap, ◌∙◌}
use Rattle.value_text.specs.declared.lexeme.Sign.TheVariants.{CloseBrace, CloseBracket, OpenParen, CloseParen, Greater, Colon, Bang}
use Rattle.value_grammar.specs.Shapes.{Shape, sign, bits}
use Rattle.value_grammar.specs.Grammar.{ACell, AField, AValue, AnEntry, Body, CanGoOn, Children, Entries, Fields, IsLabel, IsWhole, Items, MoreEntries, MoreFields, MoreItems, a_body, a_cell, a_child, a_field, a_hidden, a_hidden_part, a_list, a_map, a_named, a_nameless, a_number, a_pair, a_reference, a_rest, an_absent, an_exotic, an_ordinary, by_name, by_x, entries_end, fields_end, items_end, next_entry, next_field, next_item, no_child, no_entry, no_field, no_item, some_bits, some_entries, some_fields, some_items}
use Rattle.value_grammar.proofs.ShapeSteps.{Around, State, after_entry, after_field, after_item, after_part, after_rest, at, bits_due, cell_given, child_due, done, due, entry_due, entry_or_end, field_due, field_or_end, given, in_field, in_item, in_pair, in_reference, item_or_end, onward, paren_due, rest_child, rest_paren, run, step}

-- both go on alike
abbrev Same : State → List Shape → State → List Shape → Type 0
Same p s q r = run p s ≡ run q r

step_on : (p q : State) (c : Shape) (s : List Shape) → step p c ≡ Some q → Same p (c ∷ s) q s
step_on p q c s e = ap (λ (o : Option State). onward o (λ next. run next s)) e

-- ---- cells

mutual
  children_run : {s m : List Shape} → Children s m → (r : List Shape) → m ≡ sign CloseParen ∷ r → (base : Bool) (n : ℕ) (b : List Around)
      → Same (at (after_part base n) b) s (cell_given base n b) r
  children_run no_child r e base n b = ap (run (at (after_part base n) b)) e
  children_run (a_child c cs) r e base n b = cell_run c (at (child_due base n) b) base (suc n) b refl refl ∙ children_run cs r e base n b

  body_run : {s r : List Shape} → Body s r → (base : Bool) (n : ℕ) (b : List Around) → Same (at (paren_due base n) b) s (cell_given base n b) r
  body_run (a_body {r = r} cs) base n b = children_run cs r refl base n b

  ordinary_run : {s r : List Shape} → Body s r → (p : State) (base : Bool) (n : ℕ) (b : List Around) → step p (sign OpenParen) ≡ Some (at (bits_due base n) b)
      → Same p s (cell_given base n b) r
  ordinary_run (a_body {s = s} {r = r} cs) p base n b e =
      step_on p (at (bits_due base n) b) (sign OpenParen) (bits ∷ s) e ∙ children_run cs r refl base n b

  cell_run : {s r : List Shape} → ACell s r → (p : State) (base : Bool) (n : ℕ) (b : List Around) → step p (sign OpenParen) ≡ Some (at (bits_due base n) b)
      → step p (sign Bang) ≡ Some (at (paren_due base n) b) → Same p s (cell_given base n b) r
  cell_run (an_ordinary c) p base n b e f = ordinary_run c p base n b e
  cell_run (an_exotic {s = s} c) p base n b e f = step_on p (at (paren_due base n) b) (sign Bang) s f ∙ body_run c base n b

-- what is left of a cell
rest_children : {s m : List Shape} → Children s m → (r : List Shape) → m ≡ sign CloseParen ∷ r → (b : List Around)
    → Same (at after_rest b) s (given b) r
rest_children no_child r e b = ap (run (at after_rest b)) e
rest_children (a_child c cs) r e b = cell_run c (at rest_child b) true 0 b refl refl ∙ rest_children cs r e b

rest_run : {s r : List Shape} → Body s r → (b : List Around) → Same (at rest_paren b) s (given b) r
rest_run (a_body {r = r} cs) b = rest_children cs r refl b

-- ---- values

label_run : {n : Shape} → IsLabel n → (s : List Shape) (b : List Around) → Same (at field_due b) (n ∷ sign Colon ∷ s) (at due (in_field ∷ b)) s
label_run by_name s b = refl
label_run by_x s b = refl

label_first : {n : Shape} → IsLabel n → (s : List Shape) (b : List Around) → Same (at field_or_end b) (n ∷ sign Colon ∷ s) (at due (in_field ∷ b)) s
label_first by_name s b = refl
label_first by_x s b = refl

-- the first item of a list: a value begins after `[` as it does in a list
mutual
  value_run : {s r : List Shape} → AValue s r → (b : List Around) → Same (at due b) s (given b) r
  value_run a_number b = refl
  value_run some_bits b = refl
  value_run (a_named fs) b = fields_run fs _ refl b
  value_run (a_nameless fs) b = fields_run fs _ refl b
  value_run an_absent b = refl
  value_run (a_list is) b = items_run is _ refl b
  value_run (a_reference v) b = value_run v (in_reference ∷ b)
  value_run a_hidden b = refl
  value_run (a_map es) b = entries_run es _ refl b
  value_run (a_cell c) b = cell_run c (at due b) false 0 b refl refl
  value_run (a_rest c) b = rest_run c b

  first_run : {s r : List Shape} → AValue s r → (b : List Around) → Same (at item_or_end b) s (at after_item b) r
  first_run a_number b = refl
  first_run some_bits b = refl
  first_run (a_named fs) b = fields_run fs _ refl (in_item ∷ b)
  first_run (a_nameless fs) b = fields_run fs _ refl (in_item ∷ b)
  first_run an_absent b = refl
  first_run (a_list is) b = items_run is _ refl (in_item ∷ b)
  first_run (a_reference v) b = value_run v (in_reference ∷ in_item ∷ b)
  first_run a_hidden b = refl
  first_run (a_map es) b = entries_run es _ refl (in_item ∷ b)
  first_run (a_cell c) b = cell_run c (at item_or_end b) false 0 (in_item ∷ b) refl refl
  first_run (a_rest c) b = rest_run c (in_item ∷ b)

  fields_run : {s m : List Shape} → Fields s m → (r : List Shape) → m ≡ sign CloseBrace ∷ r → (b : List Around) → Same (at field_or_end b) s (given b) r
  fields_run no_field r e b = ap (run (at field_or_end b)) e
  fields_run (some_fields f fs) r e b = field_first f b ∙ more_fields fs r e b

  field_first : {s r : List Shape} → AField s r → (b : List Around) → Same (at field_or_end b) s (at after_field b) r
  field_first (a_field {s = s} n v) b = label_first n s b ∙ value_run v (in_field ∷ b)

  field_run : {s r : List Shape} → AField s r → (b : List Around) → Same (at field_due b) s (at after_field b) r
  field_run (a_field {s = s} n v) b = label_run n s b ∙ value_run v (in_field ∷ b)

  more_fields : {s m : List Shape} → MoreFields s m → (r : List Shape) → m ≡ sign CloseBrace ∷ r → (b : List Around) → Same (at after_field b) s (given b) r
  more_fields fields_end r e b = ap (run (at after_field b)) e
  more_fields (next_field f fs) r e b = field_run f b ∙ more_fields fs r e b

  items_run : {s m : List Shape} → Items s m → (r : List Shape) → m ≡ sign CloseBracket ∷ r → (b : List Around) → Same (at item_or_end b) s (given b) r
  items_run no_item r e b = ap (run (at item_or_end b)) e
  items_run (some_items v is) r e b = first_run v b ∙ more_items is r e b

  more_items : {s m : List Shape} → MoreItems s m → (r : List Shape) → m ≡ sign CloseBracket ∷ r → (b : List Around) → Same (at after_item b) s (given b) r
  more_items items_end r e b = ap (run (at after_item b)) e
  more_items (next_item v is) r e b = value_run v (in_item ∷ b) ∙ more_items is r e b

  entries_run : {s m : List Shape} → Entries s m → (r : List Shape) → m ≡ sign Greater ∷ r → (b : List Around) → Same (at entry_or_end b) s (given b) r
  entries_run no_entry r e b = ap (run (at entry_or_end b)) e
  entries_run (some_entries f fs) r e b = entry_first f b ∙ more_entries fs r e b

  entry_first : {s r : List Shape} → AnEntry s r → (b : List Around) → Same (at entry_or_end b) s (at after_entry b) r
  entry_first (a_pair v) b = value_run v (in_pair ∷ b)
  entry_first a_hidden_part b = refl

  entry_run : {s r : List Shape} → AnEntry s r → (b : List Around) → Same (at entry_due b) s (at after_entry b) r
  entry_run (a_pair v) b = value_run v (in_pair ∷ b)
  entry_run a_hidden_part b = refl

  more_entries : {s m : List Shape} → MoreEntries s m → (r : List Shape) → m ≡ sign Greater ∷ r → (b : List Around) → Same (at after_entry b) s (given b) r
  more_entries entries_end r e b = ap (run (at after_entry b)) e
  more_entries (next_entry f fs) r e b = entry_run f b ∙ more_entries fs r e b

abbrev pub start : State
start = at due []

pub whole_runs : (s : List Shape) → IsWhole s → run start s ≡ Some (at done [])
whole_runs s h = value_run h []

-- ---- prefixes

pub run-append : (p : State) (xs ys : List Shape) → run p (xs ++ ys) ≡ onward (run p xs) (λ q. run q ys)
run-append p [] ys = refl
run-append p (x ∷ xs) ys =
    elim (step p x) as (λ o. onward o (λ q. run q (xs ++ ys)) ≡ onward (onward o (λ q. run q xs)) (λ q. run q ys)) [
      | Some q ↦ run-append q xs ys
      | None ↦ refl
    ]

-- a prefix that goes on leads somewhere
pub prefix_runs : (prefix : List Shape) → CanGoOn prefix → run start prefix ≡ None → ⊥
prefix_runs prefix g e =
    let there : run start (prefix ++ g.more) ≡ None = run-append start prefix g.more ∙ ap (λ (o : Option State). onward o (λ q. run q g.more)) e in
    let no : Some (at done []) ≡ None = sym (whole_runs (prefix ++ g.more) g.whole) ∙ there in
    absurd (cc)

pub stuck : (prefix : List Shape) (p : State) (c : Shape) → run start prefix ≡ Some p → step p c ≡ None → CanGoOn (prefix ++ c ∷ []) → ⊥
stuck prefix p c e n g =
    prefix_runs (prefix ++ c ∷ []) g
    (run-append start prefix (c ∷ []) ∙ ap (λ (o : Option State). onward o (λ q. run q (c ∷ []))) e ∙ ap (λ (o : Option State). onward o (λ q. run q [])) n)

pub not_whole : (prefix : List Shape) (p : State) → run start prefix ≡ Some p → (p ≡ at done [] → ⊥) → IsWhole prefix → ⊥
not_whole prefix p e n h =
    let same : Some p ≡ Some (at done []) = sym e ∙ whole_runs prefix h in
    n (let f : p ≡ at done [] = cc in f)
