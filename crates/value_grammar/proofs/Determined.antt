-- The steps lead through a text in one way: to one value, or to one refusal, and not to both.
use Rattle.std.proofs.Common.{◌≡◌, ◌≢◌, ◌⊎◌, inl, inr, ⊎_elim, ℕ, zero, suc, ◌+◌, List, [], ◌∷◌, ◌++◌, take, drop, Ok, Err, refl, sym, ap, ◌∙◌, subst, append-nil}
use Rattle.typed_value.specs.Values.{Plain}
use Rattle.value_text.specs.declared.lexeme.Lexeme.{Lexeme}
use Rattle.value_text.specs.Division.{Divides, Placed, none, one, space_before, without_space}
use Rattle.value_text.specs.Lexemes.{NothingStands, Stands}
use Rattle.value_text.specs.OneLexemeLaws.{one_stands}
use Rattle.value_text.specs.SeparateLaws.{first_byte}
use Rattle.value_grammar.specs.declared.cause.Cause.{Cause}
use Rattle.value_grammar.specs.declared.cause.Cause.TheVariants.{Syntax}
use Rattle.value_grammar.specs.Open.{Frame, Spot, at, done}
use Rattle.value_grammar.specs.Steps.{Held, Refusal, Stepped, and_then, run, start, step}
use Rattle.value_grammar.specs.Reading.{Finishes, IsUnfinished, Reaches, Stops, at_end, at_lexeme, at_nothing}
use Rattle.value_grammar.proofs.Goes.{run_append}
use Rattle.value_grammar.proofs.Sound.{run_first}

-- one division goes on from another
pub record Further (e : ℕ) (r : List ℕ) (ls : List Placed) (f : ℕ) (s : List ℕ) (ms : List Placed) : Type 0 where
  pub more : List Placed
  pub divides : Divides e r more f s
  pub whole : ms ≡ ls ++ more

further_cons : (e f : ℕ) (r s : List ℕ) (ls ms : List Placed) (l m : Placed) → m ≡ l → Further e r ls f s ms → Further e r (l ∷ ls) f s (m ∷ ms)
further_cons e f r s ls ms l m same h = record { more = h.more; divides = h.divides; whole = (λ i. same i ∷ h.whole i) }

compare : (ls ms : List Placed) (p e f : ℕ) (text r s : List ℕ) → Divides p text ls e r → Divides p text ms f s → Further e r ls f s ms ⊎ Further f s ms e r ls
compare [] ms p e f text r s none d = inl (record { more = ms; divides = d; whole = refl })
compare (l ∷ ls) [] p e f text r s d none = inr (record { more = l ∷ ls; divides = d; whole = refl })
compare (l ∷ ls) (m ∷ ms) p e f text r s (one {n = n} {l = a} {ls = xs} st d) (one {n = k} {l = b} {ls = ys} su g) =
    let o = one_stands (without_space text) a b n k st su in
    let P : ℕ → Type 0 = λ x. Divides (p + space_before text + x) (drop x (without_space text)) ys f s in
    let same : (p + space_before text, b) ≡ (p + space_before text, a) = (λ i. (p + space_before text, sym o.lexemes i)) in
    ⊎_elim
    (λ (h : Further e r xs f s ys). inl (further_cons e f r s xs ys (p + space_before text, a) (p + space_before text, b) same h))
    (λ (h : Further f s ys e r xs). inr (further_cons f e s r ys xs (p + space_before text, b) (p + space_before text, a) (sym same) h))
    (compare xs ys (p + space_before text + n) e f (drop n (without_space text)) r s d (subst P (sym o.lengths) g))

no_bytes : (n : ℕ) (xs : List ℕ) → xs ≡ [] → take n xs ≡ []
no_bytes zero xs e = refl
no_bytes (suc n) [] e = refl
no_bytes (suc n) (x ∷ xs) e = absurd (cc)

-- no lexeme stands at the end of a text
none_at_end : (text : List ℕ) (l : Lexeme) (n : ℕ) → text ≡ [] → Stands l n text → ⊥
none_at_end text l n e st =
    let b = first_byte l (take n text) st.spelled in
    let none_left : take n text ≡ [] = no_bytes n text e in
    let both : b.first ∷ b.later ≡ [] = sym b.whole ∙ none_left in
    absurd (cc)

end_alone : (e f : ℕ) (r s : List ℕ) (ls : List Placed) → without_space r ≡ [] → Divides e r ls f s → ls ≡ []
end_alone e f r s [] h d = refl
end_alone e f r s (l ∷ ls) h (one {n = n} {l = m} {ls = ms} st d) = absurd (none_at_end (without_space r) m n h st)

-- ---- one value

held_is : (g h : Held) (ls : List Placed) → run start ls ≡ Ok g → run start ls ≡ Ok h → g ≡ h
held_is g h ls e f = let b : Ok g ≡ Ok h = sym e ∙ f in cc

whole_is : (v w : Plain) (a b : List Frame) → at (done v) a ≡ at (done w) b → v ≡ w
whole_is v w a b e = cc

-- where both end, the lexemes are the same
same_lexemes : (e f : ℕ) (r s : List ℕ) (ls ms : List Placed) → without_space r ≡ [] → Further e r ls f s ms → ms ≡ ls
same_lexemes e f r s ls ms h g =
    g.whole ∙ ap (λ (x : List Placed). ls ++ x) (end_alone e f r s g.more h g.divides) ∙ append-nil ls

ended : (file : List ℕ) (place : ℕ) (h : Held) (r : Reaches file place h) → drop place file ≡ [] → without_space r.rest ≡ []
ended file place h r e = sym r.left ∙ e

one_held : (file : List ℕ) (p q : ℕ) (g h : Held) (r : Reaches file p g) (s : Reaches file q h) → drop p file ≡ [] → drop q file ≡ [] → g ≡ h
one_held file p q g h r s e f =
    let R : List Placed → Type 0 = λ x. run start x ≡ Ok g in
    ⊎_elim
    (λ (x : Further r.end r.rest r.before s.end s.rest s.before).
    held_is g h s.before (subst R (sym (same_lexemes r.end s.end r.rest s.rest r.before s.before (ended file p g r e) x)) r.ran) s.ran)
    (λ (x : Further s.end s.rest s.before r.end r.rest r.before).
    held_is g h s.before (subst R (same_lexemes s.end r.end s.rest r.rest s.before r.before (ended file q h s f) x) r.ran) s.ran)
    (compare r.before s.before 0 r.end s.end file r.rest s.rest r.divides s.divides)

pub one_finish : (file : List ℕ) (v w : Plain) → Finishes file v → Finishes file w → v ≡ w
one_finish file v w f g =
    let e = one_held file f.place g.place f.held g.held f.reaches g.reaches f.ends g.ends in
    whole_is v w f.below g.below (sym f.whole ∙ ap (λ (x : Held). x.begun) e ∙ g.whole)

-- ---- not both

-- what goes on after a state has a step from it
goes_on : (h last : Held) (before more : List Placed) (l : Placed) → run start before ≡ Ok h → run start (before ++ l ∷ more) ≡ Ok last
    → and_then (step h l) (λ x. run x more) ≡ Ok last
goes_on h last before more l e f =
    sym (ap (λ (r : Stepped). and_then r (λ x. run x (l ∷ more))) e) ∙ sym (run_append start before (l ∷ more)) ∙ f

refused_run : (o : Stepped) (more : List Placed) (last : Held) (r : Refusal) → o ≡ Err r → and_then o (λ x. run x more) ≡ Ok last → ⊥
refused_run (Ok q) more last r e f = absurd (cc)
refused_run (Err s) more last r e f = absurd (cc)

-- a lexeme that stands where a text is gone on with is the next
next_is : (e f : ℕ) (r s : List ℕ) (m : Placed) (ms : List Placed) (l : Lexeme) (n : ℕ) → Divides e r (m ∷ ms) f s → Stands l n (without_space r)
    → m ≡ (e + space_before r, l)
next_is e f r s m ms l n (one {n = k} {l = a} {ls = xs} st d) su =
    let o = one_stands (without_space r) a l k n st su in
    (λ i. (e + space_before r, o.lexemes i))

some_stands : (e f : ℕ) (r s : List ℕ) (m : Placed) (ms : List Placed) → Divides e r (m ∷ ms) f s → (l : Lexeme) × (n : ℕ) × Stands l n (without_space r)
some_stands e f r s m ms (one {n = k} {l = a} {ls = xs} st d) = (a, k, st)

-- a whole text, and a place that it reaches: the place is its end, or a lexeme follows there
pub record Within (file : List ℕ) (place : ℕ) (h last : Held) : Type 0 where
  pub next : Placed
  pub more : List Placed
  pub stands : (l : Lexeme) × (n : ℕ) × Stands l n (drop place file)
  pub goes : and_then (step h next) (λ x. run x more) ≡ Ok last
  pub is : (l : Lexeme) (n : ℕ) → Stands l n (drop place file) → next ≡ (place, l)

at_or_within : (file : List ℕ) (p q : ℕ) (g h : Held) (r : Reaches file p g) (s : Reaches file q h) → drop p file ≡ []
    → ((drop q file ≡ []) × (g ≡ h)) ⊎ Within file q h g
at_or_within file p q g h r s e =
    ⊎_elim
    (λ (x : Further r.end r.rest r.before s.end s.rest s.before). inl (ends_too x))
    (λ (x : Further s.end s.rest s.before r.end r.rest r.before). by_more x.more x.divides x.whole)
    (compare r.before s.before 0 r.end s.end file r.rest s.rest r.divides s.divides)
  where
    rest_is : (e f : ℕ) (a b : List ℕ) (ls : List Placed) → ls ≡ [] → Divides e a ls f b → a ≡ b
    rest_is e f a b [] i none = refl
    rest_is e f a b (l ∷ ls) i d = absurd (cc)

    ends_too : Further r.end r.rest r.before s.end s.rest s.before → (drop q file ≡ []) × (g ≡ h)
    ends_too x =
        let alone = end_alone r.end s.end r.rest s.rest x.more (ended file p g r e) x.divides in
        let same = rest_is r.end s.end r.rest s.rest x.more alone x.divides in
        let f : drop q file ≡ [] = s.left ∙ ap without_space (sym same) ∙ ended file p g r e in
        (f, one_held file p q g h r s e f)

    by_more : (more : List Placed) → Divides s.end s.rest more r.end r.rest → r.before ≡ s.before ++ more → ((drop q file ≡ []) × (g ≡ h)) ⊎ Within file q h g
    by_more [] d w =
        let same = rest_is s.end r.end s.rest r.rest [] refl d in
        let f : drop q file ≡ [] = s.left ∙ ap without_space same ∙ ended file p g r e in
        inl (f, one_held file p q g h r s e f)
    by_more (m ∷ ms) d w =
        let S : List ℕ → Type 0 = λ x. (l : Lexeme) × (n : ℕ) × Stands l n x in
        let R : List Placed → Type 0 = λ x. run start x ≡ Ok g in
        inr (record {
          next = m;
          more = ms;
          stands = subst S (sym s.left) (some_stands s.end r.end s.rest r.rest m ms d);
          goes = goes_on h g s.before ms m s.ran (subst R w r.ran);
          is = λ l n st.
              let T : List ℕ → Type 0 = λ x. Stands l n x in
              next_is s.end r.end s.rest r.rest m ms l n d (subst T s.left st) ∙ ap (λ (x : ℕ). (x, l)) (sym s.spaced);
        })

unfinished : (spot : Spot) (v : Plain) (a b : List Frame) → at (done v) a ≡ at spot b → IsUnfinished spot → ⊥
unfinished spot v a b e u =
    let same : done v ≡ spot = cc in
    let P : Spot → Type 0 = λ x. IsUnfinished x in
    absurd (subst P (sym same) u)

pub finish_or_stop : (file : List ℕ) (v : Plain) (cause : Cause) (byte : ℕ) → Finishes file v → Stops file cause byte → ⊥
finish_or_stop file v cause byte f (at_lexeme {place = p} {n = n} {byte = b} {h = h} {l = l} {cause = c} s st e) = ⊎_elim
    (λ (x : (drop p file ≡ []) × (f.held ≡ h)). none_at_end (drop p file) l n x.0 st)
    (λ (x : Within file p h f.held).
    refused_run (step h x.next) x.more f.held (c, b) (ap (step h) (x.is l n st) ∙ e) x.goes)
    (at_or_within file f.place p f.held h f.reaches s f.ends)
finish_or_stop file v cause byte f (at_nothing {place = p} {h = h} s some nothing) = ⊎_elim
    (λ (x : (drop p file ≡ []) × (f.held ≡ h)). some x.0)
    (λ (x : Within file p h f.held). nothing x.stands.0 x.stands.1 x.stands.2)
    (at_or_within file f.place p f.held h f.reaches s f.ends)
finish_or_stop file v cause byte f (at_end {place = p} {h = h} s ends spot below is u) = ⊎_elim
    (λ (x : (drop p file ≡ []) × (f.held ≡ h)). unfinished spot v f.below below (sym f.whole ∙ ap (λ (y : Held). y.begun) x.1 ∙ is) u)
    (λ (x : Within file p h f.held). none_at_end (drop p file) x.stands.0 x.stands.1 ends x.stands.2)
    (at_or_within file f.place p f.held h f.reaches s f.ends)

-- ---- one refusal

-- why the steps stop where they are
data StopsHere (text : List ℕ) (place : ℕ) (h : Held) : Cause → ℕ → Type 0 where
  here_lexeme : {n byte : ℕ} {l : Lexeme} {cause : Cause} → Stands l n text → step h (place, l) ≡ Err (cause, byte) → StopsHere text place h cause byte
  here_nothing : text ≢ [] → NothingStands text → StopsHere text place h Syntax place
  here_end : text ≡ [] → StopsHere text place h Syntax place

-- the steps go on from there
record GoesOn (text : List ℕ) (place : ℕ) (h : Held) : Type 0 where
  l : Lexeme
  n : ℕ
  next : Held
  stands : Stands l n text
  goes : step h (place, l) ≡ Ok next

one_error : (o : Stepped) (a b : Refusal) → o ≡ Err a → o ≡ Err b → a ≡ b
one_error (Ok h) a b e f = absurd (cc)
one_error (Err r) a b e f = cc

same_stop : (text : List ℕ) (place : ℕ) (h : Held) (c d : Cause) (x y : ℕ) → StopsHere text place h c x → StopsHere text place h d y → ◌≡◌ {A = Refusal} (c, x) (d, y)
same_stop text place h c d x y (here_lexeme {n = n} {byte = a} {l = l} {cause = q} st e) (here_lexeme {n = k} {byte = b} {l = m} {cause = r} su f) =
    let o = one_stands text l m n k st su in
    one_error (step h (place, l)) (q, a) (r, b) e (ap (λ (z : Lexeme). step h (place, z)) o.lexemes ∙ f)
same_stop text place h c d x y (here_lexeme {n = n} {l = l} st e) (here_nothing some none_stands) = absurd (none_stands l n st)
same_stop text place h c d x y (here_lexeme {n = n} {l = l} st e) (here_end ends) = absurd (none_at_end text l n ends st)
same_stop text place h c d x y (here_nothing some none_stands) (here_lexeme {n = n} {l = l} st e) = absurd (none_stands l n st)
same_stop text place h c d x y (here_nothing some none_stands) (here_nothing some_too none_too) = refl
same_stop text place h c d x y (here_nothing some none_stands) (here_end ends) = absurd (some ends)
same_stop text place h c d x y (here_end ends) (here_lexeme {n = n} {l = l} st e) = absurd (none_at_end text l n ends st)
same_stop text place h c d x y (here_end ends) (here_nothing some none_stands) = absurd (some ends)
same_stop text place h c d x y (here_end ends) (here_end ends_too) = refl

ok_or_error : (o : Stepped) (h : Held) (r : Refusal) → o ≡ Ok h → o ≡ Err r → ⊥
ok_or_error o h r e f = let b : Ok h ≡ Err r = sym e ∙ f in absurd (cc)

stop_or_go : (text : List ℕ) (place : ℕ) (h : Held) (c : Cause) (x : ℕ) → StopsHere text place h c x → GoesOn text place h → ⊥
stop_or_go text place h c x (here_lexeme {n = n} {byte = a} {l = l} {cause = q} st e) g =
    let o = one_stands text l g.l n g.n st g.stands in
    ok_or_error (step h (place, l)) g.next (q, a) (ap (λ (z : Lexeme). step h (place, z)) o.lexemes ∙ g.goes) e
stop_or_go text place h c x (here_nothing some none_stands) g = none_stands g.l g.n g.stands
stop_or_go text place h c x (here_end ends) g = none_at_end text g.l g.n ends g.stands

-- two places that the steps reach are one, or the steps go on from one of the two
data Meets (file : List ℕ) (p : ℕ) (g : Held) (q : ℕ) (h : Held) : Type 0 where
  same_there : ◌≡◌ {A = ℕ × Held} (p, g) (q, h) → Meets file p g q h
  first_goes : GoesOn (drop p file) p g → Meets file p g q h
  second_goes : GoesOn (drop q file) q h → Meets file p g q h

ends_are : (e f : ℕ) (r s : List ℕ) → Divides e r [] f s → ◌≡◌ {A = ℕ × List ℕ} (e, r) (f, s)
ends_are e f r s none = refl

goes_from : (file : List ℕ) (p q : ℕ) (g h : Held) (r : Reaches file p g) (s : Reaches file q h) (m : Placed) (ms : List Placed) → Divides r.end r.rest (m ∷ ms) s.end s.rest
    → s.before ≡ r.before ++ m ∷ ms → GoesOn (drop p file) p g
goes_from file p q g h r s m ms d w =
    let t = some_stands r.end s.end r.rest s.rest m ms d in
    let R : List Placed → Type 0 = λ x. run start x ≡ Ok h in
    let n = run_first (step g m) ms h (goes_on g h r.before ms m r.ran (subst R w s.ran)) in
    let same : m ≡ (p, t.0) = next_is r.end s.end r.rest s.rest m ms t.0 t.1 d t.2 ∙ ap (λ (x : ℕ). (x, t.0)) (sym r.spaced) in
    let S : List ℕ → Type 0 = λ x. Stands t.0 t.1 x in
    record { l = t.0; n = t.1; next = n.0; stands = subst S (sym r.left) t.2; goes = ap (step g) (sym same) ∙ n.1 }

same_reach : (file : List ℕ) (p q : ℕ) (g h : Held) (r : Reaches file p g) (s : Reaches file q h) → ◌≡◌ {A = ℕ × List ℕ} (r.end, r.rest) (s.end, s.rest) → s.before ≡ r.before
    → ◌≡◌ {A = ℕ × Held} (p, g) (q, h)
same_reach file p q g h r s e w =
    let R : List Placed → Type 0 = λ x. run start x ≡ Ok h in
    let places : p ≡ q = r.spaced ∙ ap (λ (x : ℕ × List ℕ). x.0 + space_before x.1) e ∙ sym s.spaced in
    let helds = held_is g h r.before r.ran (subst R w s.ran) in
    (λ i. (places i, helds i))

meets : (file : List ℕ) (p q : ℕ) (g h : Held) → Reaches file p g → Reaches file q h → Meets file p g q h
meets file p q g h r s = ⊎_elim
    (λ (x : Further r.end r.rest r.before s.end s.rest s.before). first x.more x.divides x.whole)
    (λ (x : Further s.end s.rest s.before r.end r.rest r.before). second x.more x.divides x.whole)
    (compare r.before s.before 0 r.end s.end file r.rest s.rest r.divides s.divides)
  where
    first : (more : List Placed) → Divides r.end r.rest more s.end s.rest → s.before ≡ r.before ++ more → Meets file p g q h
    first [] d w = same_there (same_reach file p q g h r s (ends_are r.end s.end r.rest s.rest d) (w ∙ append-nil r.before))
    first (m ∷ ms) d w = first_goes (goes_from file p q g h r s m ms d w)

    second : (more : List Placed) → Divides s.end s.rest more r.end r.rest → r.before ≡ s.before ++ more → Meets file p g q h
    second [] d w = same_there (sym (same_reach file q p h g s r (ends_are s.end r.end s.rest r.rest d) (w ∙ append-nil s.before)))
    second (m ∷ ms) d w = second_goes (goes_from file q p h g s r m ms d w)

record StopsAt (file : List ℕ) (cause : Cause) (byte : ℕ) : Type 0 where
  place : ℕ
  held : Held
  reaches : Reaches file place held
  here : StopsHere (drop place file) place held cause byte

stops_at : (file : List ℕ) (cause : Cause) (byte : ℕ) → Stops file cause byte → StopsAt file cause byte
stops_at file cause byte (at_lexeme {place = p} {h = h} r st e) = record { place = p; held = h; reaches = r; here = here_lexeme st e }
stops_at file cause byte (at_nothing {place = p} {h = h} r some nothing) = record { place = p; held = h; reaches = r; here = here_nothing some nothing }
stops_at file cause byte (at_end {place = p} {h = h} r ends spot below is u) = record { place = p; held = h; reaches = r; here = here_end ends }

pub one_stop : (file : List ℕ) (c d : Cause) (x y : ℕ) → Stops file c x → Stops file d y → ◌≡◌ {A = Refusal} (c, x) (d, y)
one_stop file c d x y f g =
    let a = stops_at file c x f in
    let b = stops_at file d y g in
    met a b (meets file a.place b.place a.held b.held a.reaches b.reaches)
  where
    met : (a : StopsAt file c x) (b : StopsAt file d y) → Meets file a.place a.held b.place b.held → ◌≡◌ {A = Refusal} (c, x) (d, y)
    met a b (same_there e) =
        let P : ℕ × Held → Type 0 = λ z. StopsHere (drop z.0 file) z.0 z.1 d y in
        same_stop (drop a.place file) a.place a.held c d x y a.here (subst P (sym e) b.here)
    met a b (first_goes n) = absurd (stop_or_go (drop a.place file) a.place a.held c x a.here n)
    met a b (second_goes n) = absurd (stop_or_go (drop b.place file) b.place b.held d y b.here n)
