-- The meaning of a state follows from that of the state a step leads to, so a run that ends well is over what is written.
use Rattle.std.proofs.Common.{◌≡◌, ◌≤◌, ◌||◌, ℕ, zero, suc, Bool, true, false, nat_le, bytes_eq, List, [], ◌∷◌, codes, Option, Some, None, Ok, Err, refl, sym, ap, ◌∙◌, subst, if◌then◌else◌}
use Rattle.std.proofs.lemmas.Bool.{leb-true, false≢true}
use Rattle.std.proofs.lemmas.Slice.Eq.{bytes_eq-Decides}
use Rattle.tlb_syntax.specs.declared.sign.Sign.{Sign}
use Rattle.nat_solver.specs.declared.compare.Op.{Op}
use Rattle.tlb_syntax.specs.declared.sign.Sign.TheVariants.{Hash, HashHash, HashLess, HashLessEqual, Colon, Semicolon, Equal, OpenParen, CloseParen, OpenBrace, CloseBrace, OpenBracket, CloseBracket, Caret, Tilde, Question, Dot, Asterisk, Plus, Less, LessEqual, Greater, GreaterEqual, Bang}
use Rattle.tlb_syntax.specs.Lexeme.{Lexeme, word, blank, number, tag, sign}
use Rattle.tlb_syntax.specs.Tree.{ExprView, ItemView, ItemList, TagView, ConstructorView, SchemaView, named, no_exprs, plus, plain}
use Rattle.tlb_syntax.specs.Grammar.{Count, Bounds, Spends, freely, one_less, Compares, equal, less, less_equal, greater, greater_equal, Heads, by_name, by_blank, Tagged, tagged, untagged, Term, a_number, a_name, a_hash, an_output, a_reference, a_paren, a_record, no_terms, a_term, Apply, of_name, of_bits, of_below, of_up_to, of_term, one_factor, two_factors, a_sum, no_addend, an_addend, always, on_number, on_bit, AnItem, of_numbers, of_types, a_check, a_field, a_bare_field, Items, no_item, one_item, no_param, a_param, Declared, a_declaration, of_ordinary, of_exotic, Declarations, no_declaration, one_more, TypeWord}
use Rattle.syntax_check.specs.declared.machine.Side.{Side}
use Rattle.syntax_check.specs.declared.machine.Side.TheVariants as sides
use Rattle.syntax_check.specs.declared.machine.Spot.{Spot}
use Rattle.syntax_check.specs.declared.machine.Spot.TheVariants as spots
use Rattle.syntax_check.specs.declared.machine.ParserState.{ParserState}
use Rattle.syntax_check.specs.declared.machine.ParserState.TheVariants as modes
use Rattle.syntax_check.specs.declared.machine.Frame.{Frame}
use Rattle.syntax_check.specs.declared.machine.Frame.TheVariants as frames
use Rattle.syntax_check.specs.declared.machine.Cause.{Cause}
use Rattle.syntax_check.specs.declared.machine.Cause.TheVariants.{Syntax, DeepType, TooManyFields, TooManyParams}
use Rattle.syntax_check.specs.Machine.{State, at, Outcome, and_then, spend, Begin, leaf, no_leaf, prefix, paren, record_, begin_of, begin_sign, begin_number, begins, is_width, compares, opens, bare_or_end, ends_items, ends_sum, operated, applied, apply, items, typed, params, term, step_mode, run, schema_start, word_start, is_schema_end, is_word_end}
use Rattle.syntax_check.proofs.StateMeaning.{Completes, Resulted, resulted, EndsSum, paren_ends, left_ends, right_ends, word_ends, EndsItems, record_ends, declaration_ends, Means, means_start, means_marked, means_headed, means_items, means_brace, means_brace_name, means_kind, means_kind_end, means_item_name, means_item_blank, means_term, means_apply, means_applied, means_operated, means_typed, means_bit, means_bit_end, means_result, means_params}

-- the meaning of the state that a step leads to
abbrev StepMeans : Bounds → Outcome → List Lexeme → Type 0
StepMeans m (Ok (at mode lv below)) ts = Means m mode lv below ts
StepMeans m (Err why) ts = ⊥

-- ---- counts, and tests of a lexeme

spent : (m : Bounds) (k : Count) (why : Cause) (f : Count → Outcome) (ts : List Lexeme)
    → StepMeans m (and_then (spend k why) f) ts → (left : Count) × Spends k left × StepMeans m (f left) ts
spent m None why f ts h = (None, freely, h)
spent m (Some zero) why f ts h = elim h [ ]
spent m (Some (suc n)) why f ts h = (Some n, one_less, h)

opened : (m : Bounds) (b : Begin) (lv : Count) (o : Outcome) (ts : List Lexeme)
    → StepMeans m (and_then (opens b lv) (λ _. o)) ts → StepMeans m o ts
opened m leaf lv o ts h = h
opened m no_leaf lv o ts h = h
opened m prefix lv o ts h = let k = spent m lv DeepType (λ _. o) ts h in k.2
opened m paren lv o ts h = let k = spent m lv DeepType (λ _. o) ts h in k.2
opened m record_ lv o ts h = let k = spent m lv DeepType (λ _. o) ts h in k.2

tested : (m : Bounds) (b : Bool) (o : Outcome) (ts : List Lexeme) → StepMeans m (if b then o else Err Syntax) ts
    → (b ≡ true) × StepMeans m o ts
tested m true o ts h = (refl, h)
tested m false o ts h = elim h [ ]

compared : (c : Sign) → compares c ≡ true → (op : Op) × Compares c op
compared Equal e = (_, equal)
compared Less e = (_, less)
compared LessEqual e = (_, less_equal)
compared Greater e = (_, greater)
compared GreaterEqual e = (_, greater_equal)
compared c e = absurd (false≢true e)

-- how a lexeme begins a term
data Opens : Lexeme → Option Begin → Type 0 where
  by_number : {n : ℕ} → Opens (number (Some n)) (Some leaf)
  by_no_number : Opens (number None) (Some no_leaf)
  by_word : {x : List ℕ} → Opens (word x) (Some leaf)
  by_hash : Opens (sign Hash) (Some leaf)
  by_tilde : Opens (sign Tilde) (Some prefix)
  by_caret : Opens (sign Caret) (Some prefix)
  by_paren : Opens (sign OpenParen) (Some paren)
  by_bracket : Opens (sign OpenBracket) (Some record_)
  by_nothing : {t : Lexeme} → Opens t None

opens_number : (n : Option ℕ) → Opens (number n) (Some (begin_number n))
opens_number (Some n) = by_number
opens_number None = by_no_number

opens_sign : (c : Sign) → Opens (sign c) (begin_sign c)
opens_sign Hash = by_hash
opens_sign Tilde = by_tilde
opens_sign Caret = by_caret
opens_sign OpenParen = by_paren
opens_sign OpenBracket = by_bracket
opens_sign c = by_nothing

opens_of : (t : Lexeme) → Opens t (begin_of t)
opens_of (word x) = by_word
opens_of (number n) = opens_number n
opens_of (sign c) = opens_sign c
opens_of t = by_nothing

-- ---- a term begins

begins_sound : (m : Bounds) {t : Lexeme} {b : Begin} (spot : Spot) (lv inner : Count) (below : List Frame)
    (ts : List Lexeme) → Opens t (Some b)
    → StepMeans m (begins m b spot lv inner below) ts → Means m (modes.Term spot inner) lv below (t ∷ ts)
begins_sound m spot lv inner below ts by_number h = means_term a_number h
begins_sound m spot lv inner below ts by_no_number h = elim h [ ]
begins_sound m spot lv inner below ts by_word h = means_term a_name h
begins_sound m spot lv inner below ts by_hash h = means_term a_hash h
begins_sound m spot lv inner below ts by_tilde h =
    let k = spent m inner DeepType (λ left. Ok (at (modes.Term spot left) lv below)) ts h in
    go k.0 k.1 k.2
  where
    go : (left : Count) → Spends inner left → Means m (modes.Term spot left) lv below ts
        → Means m (modes.Term spot inner) lv below (sign Tilde ∷ ts)
    go left sp (means_term x rest) = means_term (an_output sp x) rest
begins_sound m spot lv inner below ts by_caret h =
    let k = spent m inner DeepType (λ left. Ok (at (modes.Term spot left) lv below)) ts h in
    go k.0 k.1 k.2
  where
    go : (left : Count) → Spends inner left → Means m (modes.Term spot left) lv below ts
        → Means m (modes.Term spot inner) lv below (sign Caret ∷ ts)
    go left sp (means_term x rest) = means_term (a_reference sp x) rest
begins_sound m spot lv inner below ts by_paren h =
    let k = spent m inner DeepType
    (λ left. Ok (at (modes.Apply sides.Paren false) left (frames.Paren spot lv ∷ below))) ts h in
    go k.0 k.1 k.2
  where
    go : (left : Count) → Spends inner left
        → Means m (modes.Apply sides.Paren false) left (frames.Paren spot lv ∷ below) ts
        → Means m (modes.Term spot inner) lv below (sign OpenParen ∷ ts)
    go left sp (means_apply e x xs (paren_ends rest)) = means_term (a_paren sp (a_sum x (xs e).1)) rest
begins_sound m spot lv inner below ts by_bracket h =
    let k = spent m inner DeepType (λ left. Ok (at (modes.Items m.items) left (frames.Record spot lv ∷ below))) ts h in
    go k.0 k.1 k.2
  where
    go : (left : Count) → Spends inner left → Means m (modes.Items m.items) left (frames.Record spot lv ∷ below) ts
        → Means m (modes.Term spot inner) lv below (sign OpenBracket ∷ ts)
    go left sp (means_items x (record_ends rest)) = means_term (a_record sp x) rest

term_sound : (m : Bounds) {t : Lexeme} (o : Option Begin) (spot : Spot) (lv inner : Count) (below : List Frame)
    (ts : List Lexeme) → Opens t o
    → StepMeans m (term m o spot lv inner below) ts → Means m (modes.Term spot inner) lv below (t ∷ ts)
term_sound m None spot lv inner below ts w h = elim h [ ]
term_sound m (Some b) spot lv inner below ts w h = begins_sound m spot lv inner below ts w h

-- ---- sums

ends_sum_sound : (m : Bounds) (p : Side) (lv : Count) (below : List Frame) (t : Lexeme) (ts : List Lexeme)
    → StepMeans m (ends_sum p lv below t) ts → EndsSum m p lv below (t ∷ ts)
ends_sum_sound m sides.Paren lv (frames.Paren spot outer ∷ below) (sign CloseParen) ts h = paren_ends h
ends_sum_sound m (sides.Left k) lv below (sign c) ts h =
    let a = tested m (compares c) (Ok (at (modes.Apply (sides.Right k) false) lv below)) ts h in go a.1
  where
    go : Means m (modes.Apply (sides.Right k) false) lv below ts → EndsSum m (sides.Left k) lv below (sign c ∷ ts)
    go (means_apply e x xs (right_ends rest)) =
        let a = tested m (compares c) (Ok (at (modes.Apply (sides.Right k) false) lv below)) ts h in
        left_ends (compared c a.0).1 (a_sum x (xs e).1) rest
ends_sum_sound m (sides.Right k) lv below (sign CloseBrace) ts h = right_ends h
ends_sum_sound m p lv below t ts h = elim h [ ]

-- an operand alone is a whole one
alone : (m : Bounds) (d : Count) (b : Bool) (s : List Lexeme) → Completes m d b s s
alone m d false s = λ earlier a x. (a, one_factor x)
alone m d true s = λ earlier a x. (a, x)

operated_sound : (m : Bounds) (p : Side) (b : Bool) (lv : Count) (below : List Frame) (t : Lexeme) (ts : List Lexeme)
    → StepMeans m (operated p b lv below t) ts
    → Means m (modes.Operated p b) lv below (t ∷ ts)
operated_sound m p true lv below (sign Asterisk) ts h = elim h [ ]
operated_sound m p false lv below (sign Asterisk) ts h = go h
  where
    go : Means m (modes.Apply p true) lv below ts → Means m (modes.Operated p false) lv below (sign Asterisk ∷ ts)
    go (means_apply e x xs rest) = means_operated (λ earlier a y. (_, two_factors y x)) xs rest
operated_sound m p b lv below (sign Plus) ts h = go h
  where
    go : Means m (modes.Apply p false) lv below ts → Means m (modes.Operated p b) lv below (sign Plus ∷ ts)
    go (means_apply e x xs rest) =
        means_operated (alone m lv b (sign Plus ∷ ts)) (λ a. (_, an_addend x (xs (plus a e)).1)) rest
operated_sound m p b lv below t ts h =
    means_operated (alone m lv b (t ∷ ts)) (λ a. (a, no_addend)) (ends_sum_sound m p lv below t ts h)

applied_sound : (m : Bounds) {t : Lexeme} (o : Option Begin) (p : Side) (b : Bool) (lv : Count) (below : List Frame)
    (ts : List Lexeme) → Opens t o
    → StepMeans m (applied m o p b lv below t) ts → Means m (modes.Applied p b) lv below (t ∷ ts)
applied_sound m {t} None p b lv below ts w h = means_applied no_terms (operated_sound m p b lv below t ts h)
applied_sound m {t} (Some x) p b lv below ts w h = go (begins_sound m (spots.Argument p b) lv lv below ts w h)
  where
    go : Means m (modes.Term (spots.Argument p b) lv) lv below (t ∷ ts) → Means m (modes.Applied p b) lv below (t ∷ ts)
    go (means_term x (means_applied xs rest)) = means_applied (a_term x xs) rest

-- an operand that is written, and what follows it
operand_sound : (m : Bounds) {p : Side} {b : Bool} {lv : Count} {below : List Frame} (s r : List Lexeme) (e : ExprView)
    → Apply m lv s e r → Means m (modes.Operated p b) lv below r
    → Means m (modes.Apply p b) lv below s
operand_sound m s r e x (means_operated on xs rest) = let k = on s e x in means_apply k.0 k.1 xs rest

term_operand : (m : Bounds) {p : Side} {b : Bool} {lv : Count} {below : List Frame} (s : List Lexeme)
    → Means m (modes.Term (spots.Operand p b) lv) lv below s
    → Means m (modes.Apply p b) lv below s
term_operand m s (means_term {r = r} {e = e} x rest) = operand_sound m s r e (of_term x) rest

apply_sign_sound : (m : Bounds) (c : Sign) (p : Side) (b : Bool) (lv : Count) (below : List Frame) (ts : List Lexeme)
    → StepMeans m
    (if is_width c then Ok (at (modes.Term (spots.Width p b) lv) lv below) else term m (begin_sign c)
    (spots.Operand p b) lv lv below) ts
    → Means m (modes.Apply p b) lv below (sign c ∷ ts)
apply_sign_sound m HashHash p b lv below ts h = go h
  where
    go : Means m (modes.Term (spots.Width p b) lv) lv below ts → Means m (modes.Apply p b) lv below (sign HashHash ∷ ts)
    go (means_term {r = r} x rest) = operand_sound m (sign HashHash ∷ ts) r _ (of_bits x) rest
apply_sign_sound m HashLess p b lv below ts h = go h
  where
    go : Means m (modes.Term (spots.Width p b) lv) lv below ts → Means m (modes.Apply p b) lv below (sign HashLess ∷ ts)
    go (means_term {r = r} x rest) = operand_sound m (sign HashLess ∷ ts) r _ (of_below x) rest
apply_sign_sound m HashLessEqual p b lv below ts h = go h
  where
    go : Means m (modes.Term (spots.Width p b) lv) lv below ts
        → Means m (modes.Apply p b) lv below (sign HashLessEqual ∷ ts)
    go (means_term {r = r} x rest) = operand_sound m (sign HashLessEqual ∷ ts) r _ (of_up_to x) rest
apply_sign_sound m c p b lv below ts h =
    term_operand m (sign c ∷ ts) (term_sound m (begin_sign c) (spots.Operand p b) lv lv below ts (opens_sign c) h)

apply_sound : (m : Bounds) (p : Side) (b : Bool) (lv : Count) (below : List Frame) (t : Lexeme) (ts : List Lexeme)
    → StepMeans m (apply m p b lv below t) ts
    → Means m (modes.Apply p b) lv below (t ∷ ts)
apply_sound m p b lv below (word x) ts h = go h
  where
    go : Means m (modes.Applied p b) lv below ts → Means m (modes.Apply p b) lv below (word x ∷ ts)
    go (means_applied {r = r} {es = es} xs rest) = operand_sound m (word x ∷ ts) r (named x es) (of_name xs) rest
apply_sound m p b lv below (sign c) ts h = apply_sign_sound m c p b lv below ts h
apply_sound m p b lv below t ts h =
    term_operand m (t ∷ ts) (term_sound m (begin_of t) (spots.Operand p b) lv lv below ts (opens_of t) h)

-- ---- items

ends_items_sound : (m : Bounds) (lv : Count) (below : List Frame) (t : Lexeme) (ts : List Lexeme)
    → StepMeans m (ends_items lv below t) ts → EndsItems m lv below (t ∷ ts)
ends_items_sound m lv [] (sign Equal) ts h = go h
  where
    go : Means m modes.Result lv [] ts → EndsItems m lv [] (sign Equal ∷ ts)
    go (means_result f) = declaration_ends (λ e. f (e, refl))
ends_items_sound m lv (frames.Record spot outer ∷ below) (sign CloseBracket) ts h = record_ends h
ends_items_sound m lv below t ts h = elim h [ ]

-- an item before items
item_before : (m : Bounds) {k left lv : Count} {below : List Frame} {s r : List Lexeme} {i : ItemView} → Spends k left
    → AnItem m lv s i r → Means m (modes.Items left) lv below r
    → Means m (modes.Items k) lv below s
item_before m sp x (means_items xs rest) = means_items (one_item sp x xs) rest

bare_sound : (m : Bounds) {t : Lexeme} (o : Option Begin) (k lv : Count) (below : List Frame) (ts : List Lexeme)
    → Opens t o
    → StepMeans m (bare_or_end m o k lv below t) ts → Means m (modes.Items k) lv below (t ∷ ts)
bare_sound m {t} None k lv below ts w h = means_items no_item (ends_items_sound m lv below t ts h)
bare_sound m {t} (Some x) k lv below ts w h =
    let a = spent m k TooManyFields (λ left. begins m x (spots.Field left) lv lv below) ts (opened m x lv _ ts h) in
    go a.0 a.1 (begins_sound m (spots.Field a.0) lv lv below ts w a.2)
  where
    go : (left : Count) → Spends k left → Means m (modes.Term (spots.Field left) lv) lv below (t ∷ ts)
        → Means m (modes.Items k) lv below (t ∷ ts)
    go left sp (means_term {e = e} y (means_typed f rest)) = item_before m sp (a_bare_field (f (t ∷ ts) e y).1) rest

items_sound : (m : Bounds) (k lv : Count) (below : List Frame) (t : Lexeme) (ts : List Lexeme)
    → StepMeans m (items m k lv below t) ts
    → Means m (modes.Items k) lv below (t ∷ ts)
items_sound m k lv below (word x) ts h =
    let a = spent m k TooManyFields (λ left. Ok (at (modes.ItemName left) lv below)) ts h in go a.0 a.1 a.2
  where
    go : (left : Count) → Spends k left → Means m (modes.ItemName left) lv below ts
        → Means m (modes.Items k) lv below (word x ∷ ts)
    go left sp (means_item_name f rest) = item_before m sp (f x).1 rest
items_sound m k lv below blank ts h =
    let a = spent m k TooManyFields (λ left. Ok (at (modes.ItemBlank left) lv below)) ts h in go a.0 a.1 a.2
  where
    go : (left : Count) → Spends k left → Means m (modes.ItemBlank left) lv below ts
        → Means m (modes.Items k) lv below (blank ∷ ts)
    go left sp (means_item_blank x rest) = item_before m sp x rest
items_sound m k lv below (sign OpenBrace) ts h =
    let a = spent m k TooManyFields (λ left. Ok (at (modes.Brace left) lv below)) ts h in go a.0 a.1 a.2
  where
    go : (left : Count) → Spends k left → Means m (modes.Brace left) lv below ts
        → Means m (modes.Items k) lv below (sign OpenBrace ∷ ts)
    go left sp (means_brace x rest) = item_before m sp x rest
items_sound m k lv below t ts h = bare_sound m (begin_of t) k lv below ts (opens_of t) h

typed_sound : (m : Bounds) (k lv : Count) (below : List Frame) (t : Lexeme) (ts : List Lexeme)
    → StepMeans m (typed m k lv below t) ts
    → Means m (modes.Typed k) lv below (t ∷ ts)
typed_sound m k lv below (sign Question) ts h = go h
  where
    go : Means m (modes.Term (spots.Guarded k) lv) lv below ts → Means m (modes.Typed k) lv below (sign Question ∷ ts)
    go (means_term x rest) = means_typed (λ earlier a y. (_, on_number y x)) rest
typed_sound m k lv below (sign Dot) ts h = go h
  where
    go : {s : List Lexeme} → Means m (modes.Bit k) lv below s → Means m (modes.Typed k) lv below (sign Dot ∷ s)
    go (means_bit le x rest) = means_typed (λ earlier a y. (_, on_bit le y x)) rest
typed_sound m k lv below t ts h = means_typed (λ earlier a y. (plain a, always y)) (items_sound m k lv below t ts h)

-- ---- items in braces

check_sound : (m : Bounds) {k lv : Count} {below : List Frame} {s : List Lexeme}
    → Means m (modes.Apply (sides.Left k) false) lv below s → Means m (modes.Brace k) lv below s
check_sound m (means_apply e x xs (left_ends c y rest)) = means_brace (a_check c (a_sum x (xs e).1) y) rest

name_check_sound : (m : Bounds) {k lv : Count} {below : List Frame} {s : List Lexeme}
    → Means m (modes.Applied (sides.Left k) false) lv below s → Means m (modes.BraceName k) lv below s
name_check_sound m {s = s} (means_applied {es = es} ys (means_operated on xs (left_ends c y rest))) =
    means_brace_name
    (λ x. let a = on (word x ∷ s) (named x es) (of_name ys) in (_, a_check c (a_sum a.1 (xs a.0).1) y)) rest

kind_sound : (m : Bounds) (k lv : Count) (below : List Frame) (t : Lexeme) (ts : List Lexeme)
    → StepMeans m (step_mode m (modes.Kind k) lv below t) ts
    → Means m (modes.Kind k) lv below (t ∷ ts)
kind_sound m k lv below (sign Hash) ts h = go h
  where
    go : {s : List Lexeme} → Means m (modes.KindEnd k) lv below s → Means m (modes.Kind k) lv below (sign Hash ∷ s)
    go (means_kind_end rest) = means_kind (λ x. (_, of_numbers)) rest
kind_sound m k lv below (word x) ts h =
    let a = tested m (bytes_eq x (codes "Type")) (Ok (at (modes.KindEnd k) lv below)) ts h in
    let P : List ℕ → Type 0 = λ y. Means m (modes.Kind k) lv below (word y ∷ ts) in
    subst P (sym ((bytes_eq-Decides x (codes "Type")).0 a.0)) (go a.1)
  where
    go : {s : List Lexeme} → Means m (modes.KindEnd k) lv below s
        → Means m (modes.Kind k) lv below (word (codes "Type") ∷ s)
    go (means_kind_end rest) = means_kind (λ x. (_, of_types)) rest
kind_sound m k lv below t ts h = elim h [ ]

-- ---- declarations

params_sound : (m : Bounds) {t : Lexeme} (o : Option Begin) (k lv : Count) (below : List Frame) (ts : List Lexeme)
    → Opens t o
    → StepMeans m (params m o k lv below t) ts → Means m (modes.Params k) lv below (t ∷ ts)
params_sound m {t} (Some x) k lv below ts w h =
    let a = spent m k TooManyParams (λ left. begins m x (spots.Param left) lv lv below) ts h in
    go a.0 a.1 (begins_sound m (spots.Param a.0) lv lv below ts w a.2)
  where
    go : (left : Count) → Spends k left → Means m (modes.Term (spots.Param left) lv) lv below (t ∷ ts)
        → Means m (modes.Params k) lv below (t ∷ ts)
    go left sp (means_term {r = r} {e = e} y (means_params f)) = means_params (λ out.
        let b = f out in
        let P : Count → Type 0 = λ z. Term m z (t ∷ ts) e r in
        (_, b.1, b.2, a_param sp (subst P out.0 y) b.3, b.4))
params_sound m {t} None k lv below ts w h = ends t h
  where
    ends : (u : Lexeme) → StepMeans m (params m None k lv below u) ts → Means m (modes.Params k) lv below (u ∷ ts)
    ends (sign Semicolon) h = go h
      where
        go : Means m modes.Start lv below ts → Means m (modes.Params k) lv below (sign Semicolon ∷ ts)
        go (means_start f) = means_params (λ out. let b = f out in (_, ts, b.0, no_param, b.1))
    ends u h = elim h [ ]

-- a declaration, and those after it
declared : (m : Bounds) (exotic : Bool) {h : Lexeme} {x : Option (List ℕ)} {g : TagView} {s mid r : List Lexeme}
    {is : ItemList}
    → Resulted m r → Heads h x → Tagged s g mid
    → Items m m.levels m.items mid is (sign Equal ∷ r)
    → (c : ConstructorView) × (r : List Lexeme) × (cs : SchemaView) × Declared m exotic (h ∷ s) c r
    × Declarations m r cs
declared m exotic (resulted ps ds) h g its = (_, _, _, a_declaration h g its ps, ds)

outside_declared : (m : Bounds) (exotic : Bool) {h : Lexeme} {x : Option (List ℕ)} {g : TagView} {s r : List Lexeme}
    → Means m (modes.Items m.items) m.levels [] r → Heads h x → Tagged s g r
    → (c : ConstructorView) × (r : List Lexeme) × (cs : SchemaView) × Declared m exotic (h ∷ s) c r
    × Declarations m r cs
outside_declared m exotic (means_items its (declaration_ends f)) h g = declared m exotic (f refl) h g its

headed_sound : (m : Bounds) {s r : List Lexeme} {g : TagView} (lv : Count) (below : List Frame) → Tagged s g r
    → Means m (modes.Items m.items) lv below r → Means m modes.Headed lv below s
headed_sound m {s} {r} lv below g rest = means_headed (λ out exotic h x hd.
    let P : Count → Type 0 = λ z. Means m (modes.Items m.items) z below r in
    let Q : List Frame → Type 0 = λ z. Means m (modes.Items m.items) m.levels z r in
    outside_declared m exotic (subst Q out.1 (subst P out.0 rest)) hd g)

start_sound : (m : Bounds) {h : Lexeme} {x : Option (List ℕ)} {s : List Lexeme} {lv : Count} {below : List Frame}
    → Heads h x → Means m modes.Headed lv below s
    → Means m modes.Start lv below (h ∷ s)
start_sound m {h} {x} hd (means_headed f) = means_start (λ out.
    let a = f out false h x hd in
    (a.0 ∷ a.2, one_more (of_ordinary a.3) a.4))

marked_sound : (m : Bounds) {h : Lexeme} {x : Option (List ℕ)} {s : List Lexeme} {lv : Count} {below : List Frame}
    → Heads h x → Means m modes.Headed lv below s
    → Means m modes.Marked lv below (h ∷ s)
marked_sound m {h} {x} hd (means_headed f) = means_marked (λ out. f out true h x hd)

mark_sound : (m : Bounds) {s : List Lexeme} {lv : Count} {below : List Frame} → Means m modes.Marked lv below s
    → Means m modes.Start lv below (sign Bang ∷ s)
mark_sound m (means_marked f) = means_start (λ out. let a = f out in (a.0 ∷ a.2, one_more (of_exotic a.3) a.4))

-- ---- one step

-- the meaning of the next state gives that of the state before the step
reported : (m : Bounds) (mode : ParserState) (lv : Count) (below : List Frame) (t : Lexeme) (ts : List Lexeme)
    → StepMeans m (step_mode m mode lv below t) ts → Means m mode lv below (t ∷ ts)
reported m modes.Start lv below (word x) ts h = start_sound m by_name h
reported m modes.Start lv below blank ts h = start_sound m by_blank h
reported m modes.Start lv below (sign Bang) ts h = mark_sound m h
reported m modes.Start lv below t ts h = elim h [ ]
reported m modes.Marked lv below (word x) ts h = marked_sound m by_name h
reported m modes.Marked lv below blank ts h = marked_sound m by_blank h
reported m modes.Marked lv below t ts h = elim h [ ]
reported m modes.Headed lv below (tag (Some b)) ts h = headed_sound m lv below tagged h
reported m modes.Headed lv below (tag None) ts h = elim h [ ]
reported m modes.Headed lv below t ts h = headed_sound m lv below untagged (items_sound m m.items lv below t ts h)
reported m (modes.Items k) lv below t ts h = items_sound m k lv below t ts h
reported m (modes.Brace k) lv below (word x) ts h = go h
  where
    go : Means m (modes.BraceName k) lv below ts → Means m (modes.Brace k) lv below (word x ∷ ts)
    go (means_brace_name f rest) = means_brace (f x).1 rest
reported m (modes.Brace k) lv below t ts h = check_sound m (apply_sound m (sides.Left k) false lv below t ts h)
reported m (modes.BraceName k) lv below (sign Colon) ts h = go h
  where
    go : Means m (modes.Kind k) lv below ts → Means m (modes.BraceName k) lv below (sign Colon ∷ ts)
    go (means_kind f rest) = means_brace_name f rest
reported m (modes.BraceName k) lv below t ts h =
    name_check_sound m (applied_sound m (begin_of t) (sides.Left k) false lv below ts (opens_of t) h)
reported m (modes.Kind k) lv below t ts h = kind_sound m k lv below t ts h
reported m (modes.KindEnd k) lv below (sign CloseBrace) ts h = means_kind_end h
reported m (modes.KindEnd k) lv below t ts h = elim h [ ]
reported m (modes.ItemName k) lv below (sign Colon) ts h = go h
  where
    go : Means m (modes.Term (spots.Field k) lv) lv below ts → Means m (modes.ItemName k) lv below (sign Colon ∷ ts)
    go (means_term {e = e} y (means_typed f rest)) = means_item_name (λ x. (_, a_field by_name (f ts e y).1)) rest
reported m (modes.ItemName k) lv below t ts h = go (typed_sound m k lv below t ts h)
  where
    go : Means m (modes.Typed k) lv below (t ∷ ts) → Means m (modes.ItemName k) lv below (t ∷ ts)
    go (means_typed f rest) =
        means_item_name (λ x. (_, a_bare_field (f (word x ∷ t ∷ ts) (named x no_exprs) a_name).1)) rest
reported m (modes.ItemBlank k) lv below (sign Colon) ts h = go h
  where
    go : Means m (modes.Term (spots.Field k) lv) lv below ts → Means m (modes.ItemBlank k) lv below (sign Colon ∷ ts)
    go (means_term {e = e} y (means_typed f rest)) = means_item_blank (a_field by_blank (f ts e y).1) rest
reported m (modes.ItemBlank k) lv below t ts h = elim h [ ]
reported m (modes.Term spot inner) lv below t ts h = term_sound m (begin_of t) spot lv inner below ts (opens_of t) h
reported m (modes.Apply p b) lv below t ts h = apply_sound m p b lv below t ts h
reported m (modes.Applied p b) lv below t ts h = applied_sound m (begin_of t) p b lv below ts (opens_of t) h
reported m (modes.Operated p b) lv below t ts h = operated_sound m p b lv below t ts h
reported m (modes.Typed k) lv below t ts h = typed_sound m k lv below t ts h
reported m (modes.Bit k) lv below (number (Some n)) ts h =
    let a = tested m (nat_le n 31) (Ok (at (modes.BitEnd k) lv below)) ts h in
    go (leb-true n 31 a.0) a.1
  where
    go : {s : List Lexeme} → n ≤ 31 → Means m (modes.BitEnd k) lv below s
        → Means m (modes.Bit k) lv below (number (Some n) ∷ s)
    go le (means_bit_end x rest) = means_bit le x rest
reported m (modes.Bit k) lv below t ts h = elim h [ ]
reported m (modes.BitEnd k) lv below (sign Question) ts h = go h
  where
    go : Means m (modes.Term (spots.Guarded k) lv) lv below ts → Means m (modes.BitEnd k) lv below (sign Question ∷ ts)
    go (means_term x rest) = means_bit_end x rest
reported m (modes.BitEnd k) lv below t ts h = elim h [ ]
reported m modes.Result lv below (word x) ts h = go h
  where
    go : Means m (modes.Params m.params) lv below ts → Means m modes.Result lv below (word x ∷ ts)
    go (means_params f) = means_result (λ out. let a = f out in resulted a.3 a.4)
reported m modes.Result lv below t ts h = elim h [ ]
reported m (modes.Params k) lv below t ts h = params_sound m (begin_of t) k lv below ts (opens_of t) h

-- ---- whole runs

abbrev may_end : State → Bool
may_end st = is_schema_end st || is_word_end st

end_sound : (m : Bounds) (mode : ParserState) (lv : Count) (below : List Frame) → may_end (at mode lv below) ≡ true
    → Means m mode lv below []
end_sound m modes.Start lv below e = means_start (λ out. ([], no_declaration))
end_sound m (modes.Applied sides.Word b) lv below e =
    means_applied no_terms (means_operated (alone m lv b []) (λ a. (a, no_addend)) word_ends)
end_sound m (modes.Operated sides.Word b) lv below e = means_operated (alone m lv b []) (λ a. (a, no_addend)) word_ends
end_sound m mode lv below e = absurd (false≢true e)

ok_one : (x y : State) → (◌≡◌ {A = Outcome} (Ok x) (Ok y)) → x ≡ y
ok_one x y e = cc

soundness : (m : Bounds) (ls : List Lexeme) (mode : ParserState) (lv : Count) (below : List Frame) (last : State)
    → run m (at mode lv below) ls ≡ Ok last → may_end last ≡ true
    → Means m mode lv below ls
soundness m [] mode lv below last e f = end_sound m mode lv below (ap may_end (ok_one (at mode lv below) last e) ∙ f)
soundness m (t ∷ ts) mode lv below last e f =
    reported m mode lv below t ts (go (step_mode m mode lv below t) e (λ mode lv below g. soundness m ts mode lv below last g f))
  where
    go : (o : Outcome) → and_then o (λ next. run m next ts) ≡ Ok last
        → ((mode : ParserState) (lv : Count) (below : List Frame) → run m (at mode lv below) ts ≡ Ok last
        → Means m mode lv below ts) → StepMeans m o ts
    go (Ok (at mode lv below)) g further = further mode lv below g
    go (Err why) g further = cc

start_soundness : (m : Bounds) {ls : List Lexeme} → Means m modes.Start m.levels [] ls
    → (s : SchemaView) × Declarations m ls s
start_soundness m (means_start f) = f (refl, refl)

pub schema_soundness : (m : Bounds) (ls : List Lexeme) (st : State) → run m (schema_start m) ls ≡ Ok st
    → is_schema_end st ≡ true → (s : SchemaView) × Declarations m ls s
schema_soundness m ls st e f = start_soundness m (soundness m ls modes.Start m.levels [] st e (ap (λ z. z || is_word_end st) f))

or_right : (a b : Bool) → b ≡ true → a || b ≡ true
or_right true b e = refl
or_right false b e = e

apply_soundness : (m : Bounds) {ls : List Lexeme} → Means m (modes.Apply sides.Word false) m.levels [] ls
    → (e : ExprView) × TypeWord m ls e
apply_soundness m (means_apply e x xs word_ends) = let a = xs e in (a.0, a_sum x a.1)

pub word_soundness : (m : Bounds) (ls : List Lexeme) (st : State) → run m (word_start m) ls ≡ Ok st
    → is_word_end st ≡ true
    → (e : ExprView) × TypeWord m ls e
word_soundness m ls st e f =
    apply_soundness m
    (soundness m ls (modes.Apply sides.Word false) m.levels [] st e (or_right (is_schema_end st) (is_word_end st) f))
