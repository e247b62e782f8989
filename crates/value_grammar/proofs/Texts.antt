-- Each step adds its lexeme to what has been written.
use Rattle.std.proofs.Common.{◌≡◌, ℕ, zero, suc, ◌≤◌, Bool, true, false, if◌then◌else◌, List, [], ◌∷◌, ◌++◌, map, take, drop, length, Option, refl, sym, ap, ◌∙◌, arith, append_assoc, append-nil}
use Rattle.std.proofs.lemmas.List.{map-append, take-append-le, drop-append-le, take_all, drop_all}
use Rattle.cell_nodes.specs.declared.tree.Hidden.{Hidden}
use Rattle.cell_nodes.specs.declared.tree.Kind.{Kind}
use Rattle.cell_nodes.specs.declared.tree.Tree.{Tree}
use Rattle.cell_nodes.specs.Equations.{out-tree_of}
use Rattle.cell_nodes.specs.Tree.{is_exotic, tree_of}
use Rattle.typed_value.specs.Values.{Plain, ref_to}
use Rattle.value_text.specs.Text.{body, cell, cell_step, comes_before, count_before, hidden_entry, more, name_of, separated, tokens}
use Rattle.value_text.specs.TextLaws.{cell-out}
use Rattle.value_text.specs.Tokens.{Token, mark, bits, name, hidden}
use Rattle.value_grammar.specs.Open.{Frame, bang, body_text, entry_tokens, field, field_tokens, frames_text, item, item_tokens, pair, past, reference, so_far}
use Rattle.value_grammar.specs.Steps.{give}

-- ---- lists with commas

pub past-push : (es : List (List Token)) (e : List Token) → past (es ++ e ∷ []) ≡ past es ++ (e ++ mark 44 ∷ [])
past-push [] e = refl
past-push (d ∷ es) e = ap (λ (l : List Token). d ++ mark 44 ∷ l) (past-push es e) ∙ sym (append_assoc d (mark 44 ∷ past es) (e ++ mark 44 ∷ []))

more-push : (es : List (List Token)) (e : List Token) → more (es ++ e ∷ []) ≡ more es ++ mark 44 ∷ e
more-push [] e = ap (λ (l : List Token). mark 44 ∷ l) (append-nil e)
more-push (d ∷ es) e = ap (λ (l : List Token). mark 44 ∷ d ++ l) (more-push es e) ∙ sym (append_assoc (mark 44 ∷ d) (more es) (mark 44 ∷ e))

past-more : (e : List Token) (es : List (List Token)) → past (e ∷ es) ≡ (e ++ more es) ++ mark 44 ∷ []
past-more e [] = ap (λ (l : List Token). l ++ mark 44 ∷ []) (sym (append-nil e))
past-more e (d ∷ es) = ap (λ (l : List Token). e ++ mark 44 ∷ l) (past-more d es) ∙ sym (append_assoc e (mark 44 ∷ d ++ more es) (mark 44 ∷ []))

pub separated-push : (es : List (List Token)) (e : List Token) → separated (es ++ e ∷ []) ≡ past es ++ e
separated-push [] e = append-nil e
separated-push (d ∷ []) e = ap (λ (l : List Token). d ++ mark 44 ∷ l) (append-nil e) ∙ sym (append_assoc d (mark 44 ∷ []) e)
separated-push (d ∷ c ∷ es) e =
    ap (λ (l : List Token). d ++ mark 44 ∷ l) (separated-push (c ∷ es) e) ∙ sym (append_assoc d (mark 44 ∷ past (c ∷ es)) e)

abbrev pub HasSome : List (List Token) → Type 0
HasSome [] = ⊥
HasSome (e ∷ es) = Unit {0}

pub past-separated : (es : List (List Token)) → HasSome es → past es ≡ separated es ++ mark 44 ∷ []
past-separated [] h = absurd h
past-separated (e ∷ es) h = past-more e es

-- ---- what is added to a record, a list, a map

pub field_tokens-push : (fs : List (List ℕ × Plain)) (x : List ℕ) (v : Plain)
    → field_tokens (fs ++ (x, v) ∷ []) ≡ field_tokens fs ++ (name x ∷ mark 58 ∷ tokens v) ∷ []
field_tokens-push [] x v = refl
field_tokens-push (f ∷ fs) x v = ap (λ (l : List (List Token)). (name f.0 ∷ mark 58 ∷ tokens f.1) ∷ l) (field_tokens-push fs x v)

pub item_tokens-push : (vs : List Plain) (v : Plain) → item_tokens (vs ++ v ∷ []) ≡ item_tokens vs ++ tokens v ∷ []
item_tokens-push [] v = refl
item_tokens-push (w ∷ vs) v = ap (λ (l : List (List Token)). tokens w ∷ l) (item_tokens-push vs v)

-- hidden parts that all come before a key
abbrev pub AllBefore : List (List ℕ × Hidden) → List ℕ → Type 0
AllBefore [] k = Unit {0}
AllBefore (u ∷ us) k = (comes_before u.0 k ≡ true) × AllBefore us k

-- keys of pairs, none of which comes after a key
abbrev pub NoneAfter : List (List ℕ × Plain) → List ℕ → Type 0
NoneAfter [] k = Unit {0}
NoneAfter (p ∷ ps) k = (comes_before k p.0 ≡ false) × NoneAfter ps k

pub count-all : (us : List (List ℕ × Hidden)) (k : List ℕ) → AllBefore us k → count_before k us ≡ length us
count-all [] k h = refl
count-all (u ∷ us) k h = ap (λ (b : Bool). if b then suc (count_before k us) else 0) h.0 ∙ ap suc (count-all us k h.1)

pub all_before-drop : (n : ℕ) (us : List (List ℕ × Hidden)) (k : List ℕ) → AllBefore us k → AllBefore (drop n us) k
all_before-drop zero us k h = h
all_before-drop (suc n) [] k h = tt
all_before-drop (suc n) (u ∷ us) k h = all_before-drop n us k h.1

pub count-le : (us : List (List ℕ × Hidden)) (k : List ℕ) → count_before k us ≤ length us
count-le [] k = omega arith
count-le (u ∷ us) k = by_test (comes_before u.0 k) (count-le us k)
  where
    by_test : (b : Bool) → count_before k us ≤ length us → (if b then suc (count_before k us) else 0) ≤ length (u ∷ us)
    by_test true h = omega arith
    by_test false h = omega arith

-- a hidden part that does not come before a key changes nothing before it
pub count-push : (us : List (List ℕ × Hidden)) (u : List ℕ × Hidden) (k : List ℕ) → comes_before u.0 k ≡ false
    → count_before k (us ++ u ∷ []) ≡ count_before k us
count-push [] u k h = ap (λ (b : Bool). if b then 1 else 0) h
count-push (w ∷ us) u k h = by_test (comes_before w.0 k) (count-push us u k h)
  where
    by_test : (b : Bool) → count_before k (us ++ u ∷ []) ≡ count_before k us
        → (if b then suc (count_before k (us ++ u ∷ [])) else 0) ≡ (if b then suc (count_before k us) else 0)
    by_test true e = ap suc e
    by_test false e = refl

pub pair-push : (ps : List (List ℕ × Plain)) (us : List (List ℕ × Hidden)) (k : List ℕ) (v : Plain) → AllBefore us k
    → entry_tokens (ps ++ (k, v) ∷ []) us ≡ entry_tokens ps us ++ (bits k ∷ mark 58 ∷ tokens v) ∷ []
pair-push [] us k v h =
    let n : count_before k us ≡ length us = count-all us k h in
    let first : take (count_before k us) us ≡ us = take_all (count_before k us) us (omega arith) in
    let after : drop (count_before k us) us ≡ [] = drop_all (count_before k us) us (omega arith) in
    (λ i. map hidden_entry (first i) ++ (bits k ∷ mark 58 ∷ tokens v) ∷ map hidden_entry (after i))
pair-push (p ∷ ps) us k v h =
    let c : ℕ = count_before p.0 us in
    ap (λ (l : List (List Token)). map hidden_entry (take c us) ++ (bits p.0 ∷ mark 58 ∷ tokens p.1) ∷ l)
    (pair-push ps (drop c us) k v (all_before-drop c us k h))
    ∙ sym (append_assoc (map hidden_entry (take c us)) ((bits p.0 ∷ mark 58 ∷ tokens p.1) ∷ entry_tokens ps (drop c us)) ((bits k ∷ mark 58 ∷ tokens v) ∷ []))

pub hidden-push : (ps : List (List ℕ × Plain)) (us : List (List ℕ × Hidden)) (k : List ℕ) (h : Hidden) → NoneAfter ps k
    → entry_tokens ps (us ++ (k, h) ∷ []) ≡ entry_tokens ps us ++ (bits k ∷ hidden h ∷ []) ∷ []
hidden-push [] us k h n = map-append hidden_entry us ((k, h) ∷ [])
hidden-push (p ∷ ps) us k h n =
    let c : ℕ = count_before p.0 us in
    let same : count_before p.0 (us ++ (k, h) ∷ []) ≡ c = count-push us (k, h) p.0 n.0 in
    let few : c ≤ length us = count-le us p.0 in
    let first : take (count_before p.0 (us ++ (k, h) ∷ [])) (us ++ (k, h) ∷ []) ≡ take c us =
    ap (λ (m : ℕ). take m (us ++ (k, h) ∷ [])) same ∙ take-append-le c us ((k, h) ∷ []) few in
    let after : drop (count_before p.0 (us ++ (k, h) ∷ [])) (us ++ (k, h) ∷ []) ≡ drop c us ++ (k, h) ∷ [] =
    ap (λ (m : ℕ). drop m (us ++ (k, h) ∷ [])) same ∙ drop-append-le c us ((k, h) ∷ []) few in
    (λ i. map hidden_entry (first i) ++ (bits p.0 ∷ mark 58 ∷ tokens p.1) ∷ entry_tokens ps (after i))
    ∙ ap (λ (l : List (List Token)). map hidden_entry (take c us) ++ (bits p.0 ∷ mark 58 ∷ tokens p.1) ∷ l) (hidden-push ps (drop c us) k h n.1)
    ∙ sym (append_assoc (map hidden_entry (take c us)) ((bits p.0 ∷ mark 58 ∷ tokens p.1) ∷ entry_tokens ps (drop c us)) ((bits k ∷ hidden h ∷ []) ∷ []))

-- ---- a whole value inside the frames

-- what has been written is kept where a value's tokens come after a frame's
abbrev Gives : Plain → List Frame → Type 0
Gives v below = so_far (give v below) ≡ frames_text below ++ tokens v

-- the key of a map's last entry comes after what is in it
abbrev pub MapOrder : List Frame → Type 0
MapOrder [] = Unit {0}
MapOrder (pair ps us k ∷ below) = AllBefore us k × MapOrder below
MapOrder (f ∷ below) = MapOrder below

in_field : (b : List Token) (n : Option (List ℕ)) (fs : List (List ℕ × Plain)) (x : List ℕ) (v : Plain)
    → b ++ (name_of n ++ mark 123 ∷ separated (field_tokens (fs ++ (x, v) ∷ [])))
    ≡ (b ++ (name_of n ++ mark 123 ∷ past (field_tokens fs) ++ name x ∷ mark 58 ∷ [])) ++ tokens v
in_field b n fs x v =
    let e = ap separated (field_tokens-push fs x v) ∙ separated-push (field_tokens fs) (name x ∷ mark 58 ∷ tokens v) in
    ap (λ (l : List Token). b ++ (name_of n ++ mark 123 ∷ l)) e
    ∙ simp append_assoc refl

in_item : (b : List Token) (vs : List Plain) (v : Plain)
    → b ++ mark 91 ∷ separated (item_tokens (vs ++ v ∷ [])) ≡ (b ++ mark 91 ∷ past (item_tokens vs)) ++ tokens v
in_item b vs v =
    let e = ap separated (item_tokens-push vs v) ∙ separated-push (item_tokens vs) (tokens v) in
    ap (λ (l : List Token). b ++ mark 91 ∷ l) e ∙ sym (append_assoc b (mark 91 ∷ past (item_tokens vs)) (tokens v))

in_pair : (b : List Token) (ps : List (List ℕ × Plain)) (us : List (List ℕ × Hidden)) (k : List ℕ) (v : Plain) → AllBefore us k
    → b ++ mark 60 ∷ separated (entry_tokens (ps ++ (k, v) ∷ []) us)
    ≡ (b ++ (mark 60 ∷ past (entry_tokens ps us) ++ bits k ∷ mark 58 ∷ [])) ++ tokens v
in_pair b ps us k v h =
    let e = ap separated (pair-push ps us k v h) ∙ separated-push (entry_tokens ps us) (bits k ∷ mark 58 ∷ tokens v) in
    ap (λ (l : List Token). b ++ mark 60 ∷ l) e
    ∙ simp append_assoc refl

pub give_text : (v : Plain) (below : List Frame) → MapOrder below → Gives v below
give_text v [] h = refl
give_text v (field n fs x ∷ below) h = in_field (frames_text below) n fs x v
give_text v (item vs ∷ below) h = in_item (frames_text below) vs v
give_text v (reference ∷ below) h = give_text (ref_to tt v) below h ∙ sym (append_assoc (frames_text below) (mark 94 ∷ []) (tokens v))
give_text v (pair ps us k ∷ below) h = in_pair (frames_text below) ps us k v h.0

-- ---- cells

pub cell_text : (exotic : Bool) (kind : Kind) (bs : List ℕ) (refs : List Tree) → is_exotic kind ≡ exotic
    → cell (tree_of kind bs refs) ≡ (bang exotic ++ body_text bs refs) ++ mark 41 ∷ []
cell_text exotic kind bs refs e =
    let o = out-tree_of kind bs refs in
    cell-out (tree_of kind bs refs)
    ∙ (λ i. cell_step (o i).kind (o i).bits (map cell (o i).children))
    ∙ ap (λ (b : Bool). (if b then mark 33 ∷ [] else []) ++ body bs (map cell refs)) e
    ∙ sym (append_assoc (bang exotic) (body_text bs refs) (mark 41 ∷ []))

pub body_text-push : (bs : List ℕ) (refs : List Tree) (t : Tree) → body_text bs (refs ++ t ∷ []) ≡ body_text bs refs ++ mark 44 ∷ cell t
body_text-push bs refs t =
    ap (λ (l : List (List Token)). mark 40 ∷ bits bs ∷ more l) (map-append cell refs (t ∷ []))
    ∙ ap (λ (l : List Token). mark 40 ∷ bits bs ∷ l) (more-push (map cell refs) (cell t))
