-- What a chain of types that begin with one another keeps.
use Rattle.std.proofs.Common.{◌≡◌, ℕ, zero, suc, ◌+◌, ◌-◌, ◌*◌, ◌<◌, ◌≤◌, ◌⊎◌, inl, inr, Bool, true, false, List, [], ◌∷◌, ◌++◌, length, take, map, refl, sym, ap, ◌∙◌, subst, arith, set, get_or, length-append}
use Rattle.std.specs.Prelude.{◌||◌, cond, bytes_eq, nat_eq, filter, All, Option, Some, None, slice_get}
use Rattle.std.specs.List.{flat_map, list_any}
use Rattle.std.proofs.lemmas.Bool.{false≢true, true≢false, eqb-true, eqb-false, eq-eqb, or_left, or_right}
use Rattle.std.proofs.lemmas.Option.{slice_get-get_or, slice_get_within}
use Rattle.std.proofs.lemmas.Slice.Eq.{bytes_eq-Decides}
use Rattle.tlb_syntax.specs.Tree.{ConstructorView, SchemaView}
use Rattle.kind_terms.specs.Words.{Word, is_among}
use Rattle.tlb_guard.specs.Numbering.{place_of, word_at}
use Rattle.core_form.specs.Core.{Declaration, CoreSchema}
use Rattle.schema_core.specs.Cores.{declaration_of, cores_after}
use Rattle.schema_leads.specs.Tags.{tag_of, cores}
use Rattle.schema_leads.specs.Leads.{Leads, First, anything, fixed, declared, first_of, at_most_64, by_first, by_tag, of_declaration, of_type_named, with_leads, together, type_count, type_leads, rounds, leads}
use Rattle.schema_leads.specs.FirstFields.{BeginsWithType, LeadsTo, IsDeclared, IsGuarded}
use Rattle.schema_leads.specs.Laws.{NoCycle, RoundsEnd}
use Rattle.lead_table.specs.declared.first.First.{First as ProgramFirst}
use Rattle.lead_table.specs.declared.first.First.TheVariants.{Anything, Label, RootBit, Declared}
use Rattle.lead_table.specs.declared.heads.Head.{Head}
use Rattle.lead_table.specs.declared.leads.Entry.{Entry}
use Rattle.lead_table.specs.declared.leads.Entry.TheVariants.{Unseen, Open, Done}
use Rattle.lead_table.specs.Heads.{IsNumber, first_by, IsNumbered, IsHead, AreHeads, places, AreMembers, leads_first, leads_by, leads_at, leads_of_members}
use Rattle.lead_table.specs.Chains.{leads_in, done_leads, is_unseen, if_unseen, unseen_first, unseen_by, unseen_by_tag, unseen_at, IsChain, kept_leads, IsFollowing, IsFollowed, IsSeen, IsDone, IsSettled}
use Rattle.lead_table.proofs.Places.{place_word, place_number, set_same}
use Rattle.lead_table.proofs.Listing.{head_count}
use Rattle.lead_table.proofs.Entries.{at_set}

-- ---- heads at their places

pub record HeadAt (s cs : SchemaView) (h : Head) (i : ℕ) : Type 0 where
  pub of : ConstructorView
  pub there : slice_get cs i ≡ Some of
  pub is_head : IsHead s of h

pub head_at : (s cs : SchemaView) (hs : List Head) (i : ℕ) (h : Head) → AreHeads s cs hs → slice_get hs i ≡ Some h → HeadAt s cs h i
head_at s [] [] i h are is = cc
head_at s [] (g ∷ hs) i h are is = absurd are
head_at s (c ∷ cs) [] i h are is = absurd are
head_at s (c ∷ cs) (g ∷ hs) zero h are is =
    let same : g ≡ h = cc in
    let P : Head → Type 0 = λ z. IsHead s c z in
    record { of = c; there = refl; is_head = subst P same are.0 }
head_at s (c ∷ cs) (g ∷ hs) (suc i) h are is =
    let r = head_at s cs hs i h are.1 is in
    record { of = r.of; there = r.there; is_head = r.is_head }

-- the core form at a place
core_there : (types before cs : SchemaView) (i : ℕ) (c : ConstructorView) → slice_get cs i ≡ Some c
    → (b : SchemaView) × (slice_get (cores_after types tag_of before cs) i ≡ Some (declaration_of types (tag_of c) b c))
core_there types before [] i c is = cc
core_there types before (d ∷ cs) zero c is =
    let same : d ≡ c = cc in (before, ap (λ (z : ConstructorView). Some (declaration_of types (tag_of z) before z)) same)
core_there types before (d ∷ cs) (suc i) c is = core_there types (before ++ d ∷ []) cs i c is

-- the heads of a type are those at its places
pub record MemberAt (hs : List Head) (t i : ℕ) : Type 0 where
  pub place : ℕ
  pub head : Head
  pub there : slice_get hs place ≡ Some head
  pub of_type : head.of_type ≡ t

member_from : (t k : ℕ) (hs : List Head) (j i : ℕ) → slice_get (places t k hs) j ≡ Some i → (m : MemberAt hs t i) × (i ≡ k + m.place)
member_from t k [] j i is = cc
member_from t k (h ∷ hs) j i is = at (nat_eq h.of_type t) refl j is (λ l e. member_from t (suc k) hs l i e)
  where
    later : (m : MemberAt hs t i) × (i ≡ suc k + m.place) → (m : MemberAt (h ∷ hs) t i) × (i ≡ k + m.place)
    later r = (record { place = suc r.0.place; head = r.0.head; there = r.0.there; of_type = r.0.of_type }, omega (arith, r.1))

    at : (b : Bool) → nat_eq h.of_type t ≡ b → (j : ℕ) → slice_get (cond b (k ∷ places t (suc k) hs) (places t (suc k) hs)) j ≡ Some i
        → ((l : ℕ) → slice_get (places t (suc k) hs) l ≡ Some i → (m : MemberAt hs t i) × (i ≡ suc k + m.place))
        → (m : MemberAt (h ∷ hs) t i) × (i ≡ k + m.place)
    at true same zero is rest =
        let e : k ≡ i = cc in
        (record { place = 0; head = h; there = refl; of_type = eqb-true h.of_type t same }, omega (arith, e))
    at true same (suc j) is rest = later (rest j is)
    at false other j is rest = later (rest j is)

pub member_at : (t : ℕ) (hs : List Head) (j i : ℕ) → slice_get (places t 0 hs) j ≡ Some i → (h : Head) × (slice_get hs i ≡ Some h) × (h.of_type ≡ t)
member_at t hs j i is =
    let r = member_from t 0 hs j i is in
    let e : r.0.place ≡ i = omega (arith, r.1) in
    (r.0.head, ap (slice_get hs) (sym e) ∙ r.0.there, r.0.of_type)

-- a head of a type has its place among them
member_there : (t k : ℕ) (hs : List Head) (j : ℕ) (h : Head) → slice_get hs j ≡ Some h → h.of_type ≡ t → (l : ℕ) × (slice_get (places t k hs) l ≡ Some (k + j))
member_there t k [] j h is of_type = cc
member_there t k (g ∷ hs) zero h is of_type =
    let same : g ≡ h = cc in
    let test : nat_eq g.of_type t ≡ true = eq-eqb g.of_type t (ap (λ (x : Head). x.of_type) same ∙ of_type) in
    let e : k ≡ k + 0 = omega arith in
    (0, ap (λ b. slice_get (cond b (k ∷ places t (suc k) hs) (places t (suc k) hs)) 0) test ∙ ap Some e)
member_there t k (g ∷ hs) (suc j) h is of_type =
    let r = member_there t (suc k) hs j h is of_type in
    let e : suc k + j ≡ k + suc j = omega arith in
    at (nat_eq g.of_type t) r.0 (r.1 ∙ ap Some e)
  where
    at : (b : Bool) (l : ℕ) → slice_get (places t (suc k) hs) l ≡ Some (k + suc j) → (l : ℕ) × (slice_get (cond b (k ∷ places t (suc k) hs) (places t (suc k) hs)) l ≡ Some (k + suc j))
    at true l e = (suc l, e)
    at false l e = (l, e)

-- ---- types that begin with one another

among_at : (s : SchemaView) (n : ℕ) → n < length s → is_among (map (λ (c : ConstructorView). c.result) s) (word_at s n) ≡ true
among_at [] n lt = absurd (omega (arith, lt))
among_at (c ∷ cs) zero lt = or_left (bytes_eq c.result c.result) _ ((bytes_eq-Decides c.result c.result).1 refl)
among_at (c ∷ cs) (suc n) lt = or_right (bytes_eq (word_at cs n) c.result) _ (among_at cs n (omega (arith, lt)))

types_after : (types before cs : SchemaView) → map (λ (d : Declaration). d.of_type) (cores_after types tag_of before cs) ≡ map (λ (c : ConstructorView). c.result) cs
types_after types before [] = refl
types_after types before (c ∷ cs) = ap (λ (xs : List Word). c.result ∷ xs) (types_after types (before ++ c ∷ []) cs)

pub number_declared : (s : SchemaView) (n : ℕ) → IsNumber s n → IsDeclared (cores s) (word_at s n)
number_declared s n is =
    ap (λ ws. is_among ws (word_at s n)) (types_after s [] s) ∙ among_at s n (place_word s (word_at s n) n is).below

-- the word of a head's type
head_word : (s : SchemaView) (c : ConstructorView) (h : Head) (t : ℕ) → IsHead s c h → h.of_type ≡ t → c.result ≡ word_at s t
head_word s c h t is same = sym (place_word s c.result h.of_type is.of_type).word ∙ ap (word_at s) same

-- a constructor that begins with an unseen type makes its own type begin with it
pub record Begins (s : SchemaView) (t n : ℕ) : Type 0 where
  pub begins : BeginsWithType (cores s) (word_at s t) (word_at s n)
  pub number : IsNumber s n

begins_by : (s : SchemaView) (hs : List Head) (i t n : ℕ) (h : Head) → AreHeads s s hs → slice_get hs i ≡ Some h → h.of_type ≡ t → h.tag ≡ [] → h.first ≡ Declared n
    → Begins s t n
begins_by s hs i t n h are there of_type tag first =
    let at = head_at s s hs i h are there in
    let c = at.of in
    let core = core_there s [] s i c at.there in
    let N : ProgramFirst → Type 0 = λ f. IsNumbered s f in
    let number = subst N first at.is_head.first.numbered in
    record {
      begins = record {
        place = i;
        constructor = declaration_of s (tag_of c) core.0 c;
        there = core.1;
        of_type = head_word s c h t at.is_head of_type;
        empty_tag = sym at.is_head.tag ∙ tag;
        first = sym at.is_head.first.is ∙ ap (first_by s) first;
        is_declared = number_declared s n number;
      };
      number = number;
    }

unseen_is : (table : List Entry) (f : ProgramFirst) (n : ℕ) → unseen_first table f ≡ Some n → (f ≡ Declared n) × (is_unseen (slice_get table n) ≡ true)
unseen_is table Anything n is = cc
unseen_is table Label n is = cc
unseen_is table RootBit n is = cc
unseen_is table (Declared m) n is = at (is_unseen (slice_get table m)) refl is
  where
    at : (b : Bool) → is_unseen (slice_get table m) ≡ b → if_unseen b m ≡ Some n → (Declared m ≡ Declared n) × (is_unseen (slice_get table n) ≡ true)
    at true e is = let same : m ≡ n = cc in (ap Declared same, ap (λ k. is_unseen (slice_get table k)) (sym same) ∙ e)
    at false e is = cc

no_bits : (tag : List ℕ) (o : Option ℕ) (n : ℕ) → unseen_by_tag tag o ≡ Some n → (tag ≡ []) × (o ≡ Some n)
no_bits [] o n is = (refl, is)
no_bits (b ∷ tag) o n is = cc

pub record NextType (s : SchemaView) (table : List Entry) (t n : ℕ) : Type 0 where
  pub begins : Begins s t n
  pub unseen : is_unseen (slice_get table n) ≡ true

unseen_head : (table : List Entry) (o : Option Head) (n : ℕ) → unseen_at table o ≡ Some n → (h : Head) × (o ≡ Some h) × (unseen_by table h ≡ Some n)
unseen_head table None n is = cc
unseen_head table (Some h) n is = (h, refl, is)

-- the entry to go to is unseen
pub entry_unseen : (table : List Entry) (o : Option Head) (n : ℕ) → unseen_at table o ≡ Some n → is_unseen (slice_get table n) ≡ true
entry_unseen table o n is =
    let found = unseen_head table o n is in
    let bits = no_bits found.0.tag (unseen_first table found.0.first) n found.2 in
    (unseen_is table found.0.first n bits.1).1

pub next_type : (s : SchemaView) (hs : List Head) (table : List Entry) (t j i n : ℕ) → AreHeads s s hs → slice_get (places t 0 hs) j ≡ Some i
    → unseen_at table (slice_get hs i) ≡ Some n → Begins s t n
next_type s hs table t j i n are member is =
    let found = unseen_head table (slice_get hs i) n is in
    let at = member_at t hs j i member in
    let same : at.0 ≡ found.0 = (let e : Some at.0 ≡ Some found.0 = sym at.1 ∙ found.1 in cc) in
    let of_type : found.0.of_type ≡ t = ap (λ (h : Head). h.of_type) (sym same) ∙ at.2 in
    let bits = no_bits found.0.tag (unseen_first table found.0.first) n found.2 in
    let first = unseen_is table found.0.first n bits.1 in
    begins_by s hs i t n found.0 are found.1 of_type bits.0 first.0

-- ---- one step of the chain

last_at : (xs : List ℕ) (x k : ℕ) (y : ℕ) → slice_get (xs ++ x ∷ []) k ≡ Some y → (slice_get xs k ≡ Some y) ⊎ ((k ≡ length xs) × (y ≡ x))
last_at [] x zero y is = let e : x ≡ y = cc in inr (refl, sym e)
last_at [] x (suc k) y is = cc
last_at (z ∷ xs) x zero y is = inl is
last_at (z ∷ xs) x (suc k) y is = elim (last_at xs x k y is) [
  | inl e ↦ inl e
  | inr e ↦ inr (ap suc e.0, e.1)
]

pub front_at : (xs : List ℕ) (x k y : ℕ) → slice_get xs k ≡ Some y → slice_get (xs ++ x ∷ []) k ≡ Some y
front_at [] x k y is = cc
front_at (z ∷ xs) x zero y is = is
front_at (z ∷ xs) x (suc k) y is = front_at xs x k y is

pub end_at : (xs : List ℕ) (x : ℕ) → slice_get (xs ++ x ∷ []) (length xs) ≡ Some x
end_at [] x = refl
end_at (z ∷ xs) x = end_at xs x

-- the chain goes on to a type that its last one begins with
pub gone_on : (s : SchemaView) (chain : List ℕ) (table : List Entry) (t n : ℕ) → IsFollowed s (chain ++ t ∷ []) table → Begins s t n → n < length table
    → IsFollowed s ((chain ++ t ∷ []) ++ n ∷ []) (set table n Open)
gone_on s chain table t n f b lt = record {
  numbers = λ k a is. elim (last_at (chain ++ t ∷ []) n k a is) [
    | inl e ↦ f.numbers k a e
    | inr e ↦ (let P : ℕ → Type 0 = λ z. IsNumber s z in subst P (sym e.1) b.number)
  ];
  is_chain = λ k a c is next. elim (last_at (chain ++ t ∷ []) n (suc k) c next) [
    | inl e ↦ f.is_chain k a c (before_end k a c is e) e
    | inr e ↦ last_step k a c is e.0 e.1
  ];
  open_in_chain = λ m is. elim (at_set table n m Open Open lt is) [
    | inl e ↦ (length (chain ++ t ∷ []), end_at (chain ++ t ∷ []) n ∙ ap Some e.0)
    | inr e ↦ (let r = f.open_in_chain m e in (r.0, front_at (chain ++ t ∷ []) n r.0 m r.1))
  ];
  done = λ m ls is. elim (at_set table n m Open (Done ls) lt is) [
    | inl e ↦ cc (e.1)
    | inr e ↦ f.done m ls e
  ];
}
  where
    before_end : (k a c : ℕ) → slice_get ((chain ++ t ∷ []) ++ n ∷ []) k ≡ Some a → slice_get (chain ++ t ∷ []) (suc k) ≡ Some c → slice_get (chain ++ t ∷ []) k ≡ Some a
    before_end k a c is next = elim (last_at (chain ++ t ∷ []) n k a is) [
      | inl e ↦ e
      | inr e ↦ absurd (omega (arith, slice_get_within (chain ++ t ∷ []) (suc k) c next, e.0))
    ]

    last_step : (k a c : ℕ) → slice_get ((chain ++ t ∷ []) ++ n ∷ []) k ≡ Some a → suc k ≡ length (chain ++ t ∷ []) → c ≡ n
        → BeginsWithType (cores s) (word_at s a) (word_at s c)
    last_step k a c is at same =
        let place : k ≡ length chain = omega (arith, at, length-append chain (t ∷ [])) in
        let top : slice_get ((chain ++ t ∷ []) ++ n ∷ []) (length chain) ≡ Some t = front_at (chain ++ t ∷ []) n (length chain) t (end_at chain t) in
        let is_top : Some a ≡ Some t = sym is ∙ ap (slice_get ((chain ++ t ∷ []) ++ n ∷ [])) place ∙ top in
        let e : a ≡ t = cc in
        let P : ℕ → Type 0 = λ z. BeginsWithType (cores s) (word_at s z) (word_at s c) in
        let Q : ℕ → Type 0 = λ z. BeginsWithType (cores s) (word_at s t) (word_at s z) in
        subst P (sym e) (subst Q (sym same) b.begins)

-- the last type is done
pub gone_back : (s : SchemaView) (chain : List ℕ) (table : List Entry) (t : ℕ) (ls : Leads) → IsFollowed s (chain ++ t ∷ []) table → t < length table → ls ≡ kept_leads s t
    → IsFollowed s chain (set table t (Done ls))
gone_back s chain table t ls f lt right = record {
  numbers = λ k a is. f.numbers k a (front_at chain t k a is);
  is_chain = λ k a c is next. f.is_chain k a c (front_at chain t k a is) (front_at chain t (suc k) c next);
  open_in_chain = λ m is. elim (at_set table t m (Done ls) Open lt is) [
    | inl e ↦ cc (e.1)
    | inr e ↦ in_chain m is e
  ];
  done = λ m ks is. elim (at_set table t m (Done ls) (Done ks) lt is) [
    | inl e ↦ (let same : ks ≡ ls = cc (e.1) in same ∙ right ∙ ap (kept_leads s) e.0)
    | inr e ↦ f.done m ks e
  ];
}
  where
    in_chain : (m : ℕ) → slice_get (set table t (Done ls)) m ≡ Some Open → slice_get table m ≡ Some Open → (k : ℕ) × (slice_get chain k ≡ Some m)
    in_chain m now before =
        let r = f.open_in_chain m before in
        elim (last_at chain t r.0 m r.1) [
          | inl e ↦ (r.0, e)
          | inr e ↦ (let there = ap (slice_get (set table t (Done ls))) e.1 ∙ set_same table t (Done ls) lt in
              let clash : Some Open ≡ Some (Done ls) = sym now ∙ there in cc)
        ]

-- ---- when a type is done

chain_leads : (s : SchemaView) (xs : List ℕ) → IsChain s xs → (n k a b : ℕ) → slice_get xs k ≡ Some a → slice_get xs (k + n) ≡ Some b
    → LeadsTo (cores s) n (word_at s a) (word_at s b)
chain_leads s xs chain zero k a b is end =
    let e : k + 0 ≡ k = omega arith in
    let both : Some a ≡ Some b = sym is ∙ ap (slice_get xs) (sym e) ∙ end in
    let same : a ≡ b = cc in
    ap (word_at s) same
chain_leads s xs chain (suc n) k a b is end =
    let within : suc k < length xs = omega (arith, slice_get_within xs (k + suc n) b end) in
    let m = get_or xs (suc k) 0 in
    let next = slice_get-get_or xs (suc k) 0 within in
    let e : k + suc n ≡ suc k + n = omega arith in
    (word_at s m, chain k a m is next, chain_leads s xs chain n (suc k) m b next (ap (slice_get xs) (sym e) ∙ end))

-- no type that the last of a chain begins with is open
not_open : NoCycle → (s : SchemaView) (chain : List ℕ) (table : List Entry) (t n : ℕ) → IsGuarded s → IsFollowed s (chain ++ t ∷ []) table → Begins s t n
    → slice_get table n ≡ Some Open → ⊥
not_open no_cycle s chain table t n ok f b is =
    let r = f.open_in_chain n is in
    let k = r.0 in
    let within = slice_get_within (chain ++ t ∷ []) k n r.1 in
    let d = length chain - k in
    let e : k + d ≡ length chain = omega (arith, within, length-append chain (t ∷ [])) in
    let way = chain_leads s (chain ++ t ∷ []) f.is_chain d k n t r.1 (ap (slice_get (chain ++ t ∷ [])) e ∙ end_at chain t) in
    no_cycle s d (word_at s n) (word_at s t) ok way b.begins

-- each type that the last one begins with is done
done_first : NoCycle → (s : SchemaView) (hs : List Head) (chain : List ℕ) (table : List Entry) (t n : ℕ) → IsGuarded s → IsFollowed s (chain ++ t ∷ []) table
    → length table ≡ length s → Begins s t n → is_unseen (slice_get table n) ≡ false → done_leads table n ≡ kept_leads s n
done_first no_cycle s hs chain table t n ok f size b seen = at (slice_get table n) refl seen
  where
    at : (o : Option Entry) → slice_get table n ≡ o → is_unseen o ≡ false → leads_in o ≡ kept_leads s n
    at None is seen =
        let below = (place_word s (word_at s n) n b.number).below in
        let there = slice_get-get_or table n Unseen (omega (arith, below, size)) in
        let clash : None ≡ Some (get_or table n Unseen) = sym is ∙ there in cc
    at (Some Unseen) is seen = absurd (true≢false seen)
    at (Some Open) is seen = absurd (not_open no_cycle s chain table t n ok f b is)
    at (Some (Done ls)) is seen = f.done n ls is

-- a head's leads, where the types that it begins with are done
pub head_leads_are : (s : SchemaView) (M : ℕ → Leads) (h : Head) (c : ConstructorView) (before : SchemaView) → IsHead s c h
    → ((n : ℕ) → h.tag ≡ [] → h.first ≡ Declared n → M n ≡ kept_leads s n) → leads_by M h ≡ of_declaration (type_leads (cores s)) (declaration_of s (tag_of c) before c)
head_leads_are s M h c before is done =
    at_tag h.tag refl ∙ ap (λ t. by_tag t (by_first (type_leads (cores s)) (first_by s h.first))) is.tag
    ∙ ap (λ f. by_tag (tag_of c) (by_first (type_leads (cores s)) f)) is.first.is
  where
    at_first : h.tag ≡ [] → (f : ProgramFirst) → h.first ≡ f → leads_first M f ≡ by_first (type_leads (cores s)) (first_by s f)
    at_first none Anything e = refl
    at_first none Label e = refl
    at_first none RootBit e = refl
    at_first none (Declared n) e = done n none e

    at_tag : (t : List ℕ) → h.tag ≡ t → by_tag t (leads_first M h.first) ≡ by_tag t (by_first (type_leads (cores s)) (first_by s h.first))
    at_tag [] e = at_first e h.first refl
    at_tag (b ∷ t) e = refl

same_type : (s : SchemaView) (c : ConstructorView) (h : Head) (t : ℕ) → IsNumber s t → IsHead s c h → (b : Bool) → nat_eq h.of_type t ≡ b → bytes_eq c.result (word_at s t) ≡ b
same_type s c h t number is true e = (bytes_eq-Decides c.result (word_at s t)).1 (head_word s c h t is (eqb-true h.of_type t e))
same_type s c h t number is false e = go (bytes_eq c.result (word_at s t)) refl
  where
    go : (b : Bool) → bytes_eq c.result (word_at s t) ≡ b → b ≡ false
    go false other = refl
    go true same =
        let word : c.result ≡ word_at s t = (bytes_eq-Decides c.result (word_at s t)).0 same in
        let both : Some h.of_type ≡ Some t = sym is.of_type ∙ ap (place_of s) word ∙ number in
        let equal : h.of_type ≡ t = cc in
        absurd (eqb-false h.of_type t e equal)

-- the leads of the heads at the places of a type are those of its constructors
members_flat : (s : SchemaView) (whole : List Head) (t : ℕ) → IsNumber s t → (M : ℕ → Leads) → (cs before : SchemaView) (hs : List Head) (k : ℕ) → AreHeads s cs hs
    → ((j : ℕ) → slice_get whole (k + j) ≡ slice_get hs j)
    → ((j : ℕ) (h : Head) (c : ConstructorView) (b : SchemaView) → slice_get hs j ≡ Some h → IsHead s c h → h.of_type ≡ t
    → leads_by M h ≡ of_declaration (type_leads (cores s)) (declaration_of s (tag_of c) b c))
    → leads_of_members M whole (places t k hs) ≡ flat_map (of_declaration (type_leads (cores s))) (of_type_named (cores_after s tag_of before cs) (word_at s t))
members_flat s whole t number M [] before [] k are at same = refl
members_flat s whole t number M [] before (g ∷ hs) k are at same = absurd are
members_flat s whole t number M (c ∷ cs) before [] k are at same = absurd are
members_flat s whole t number M (c ∷ cs) before (h ∷ hs) k are at same =
    step (nat_eq h.of_type t) refl (bytes_eq c.result (word_at s t)) refl
    (members_flat s whole t number M cs (before ++ c ∷ []) hs (suc k) are.1 (λ j. (let e : suc k + j ≡ k + suc j = omega arith in ap (slice_get whole) e ∙ at (suc j))) (λ j. same (suc j)))
  where
    here : slice_get whole k ≡ Some h
    here = let e : k + 0 ≡ k = omega arith in ap (slice_get whole) (sym e) ∙ at 0

    step : (b : Bool) → nat_eq h.of_type t ≡ b → (a : Bool) → bytes_eq c.result (word_at s t) ≡ a
        → leads_of_members M whole (places t (suc k) hs) ≡ flat_map (of_declaration (type_leads (cores s))) (of_type_named (cores_after s tag_of (before ++ c ∷ []) cs) (word_at s t))
        → leads_of_members M whole (cond b (k ∷ places t (suc k) hs) (places t (suc k) hs))
        ≡ flat_map (of_declaration (type_leads (cores s))) (cond a (declaration_of s (tag_of c) before c ∷ of_type_named (cores_after s tag_of (before ++ c ∷ []) cs) (word_at s t)) (of_type_named (cores_after s tag_of (before ++ c ∷ []) cs) (word_at s t)))
    step true is true word rest =
        let first = ap (leads_at M) here ∙ same 0 h c before refl are.0 (eqb-true h.of_type t is) in
        rw (first, rest) refl
    step false is false word rest = rest
    step true is false word rest = absurd (true≢false (sym (same_type s c h t number are.0 true is) ∙ word))
    step false is true word rest = absurd (false≢true (sym (same_type s c h t number are.0 false is) ∙ word))

entry_seen : (table : List Entry) (h : Head) (n : ℕ) → unseen_by table h ≡ None → h.tag ≡ [] → h.first ≡ Declared n → is_unseen (slice_get table n) ≡ false
entry_seen table h n seen none first =
    let by_tag = sym (ap (λ t. unseen_by_tag t (unseen_first table h.first)) none) ∙ seen in
    at (is_unseen (slice_get table n)) (sym (ap (unseen_first table) first) ∙ by_tag)
  where
    at : (b : Bool) → if_unseen b n ≡ None → b ≡ false
    at true e = cc
    at false e = refl

-- the entry that is made of the last type holds its leads
pub done_right : NoCycle → RoundsEnd → (s : SchemaView) (hs : List Head) (members : List (List ℕ)) (chain : List ℕ) (table : List Entry) (t : ℕ) (of_t : List ℕ)
    → IsFollowing s hs members → IsFollowed s (chain ++ t ∷ []) table → length table ≡ length members → t < length members
    → slice_get members t ≡ Some of_t → All (λ i. unseen_at table (slice_get hs i) ≡ None) of_t
    → at_most_64 (with_leads [] (leads_of_members (done_leads table) hs of_t)) ≡ kept_leads s t
unfolding together rounds
done_right no_cycle rounds_end s hs members chain table t of_t is f size within there seen =
    let number = f.numbers (length chain) t (end_at chain t) in
    let places_are : of_t ≡ places t 0 hs = (let e : Some of_t ≡ Some (places t 0 hs) = sym there ∙ is.are_members t within in cc) in
    let whole = head_count s s hs is.are_heads in
    let right = members_flat s hs t number (done_leads table) s [] hs 0 is.are_heads
    (λ j. (let e : 0 + j ≡ j = omega arith in ap (slice_get hs) e))
    (λ j h c b at head of_type. head_leads_are s (done_leads table) h c b head
    (λ n none first. done_first no_cycle s hs chain table t n is.guarded f (size ∙ is.size ∙ whole)
    (begins_by s hs j t n h is.are_heads at of_type none first)
    (entry_seen table h n (seen_there j h at of_type) none first))) in
    let rounds_same = rounds_end s (suc (type_count (cores s))) (word_at s t) is.guarded (omega arith) in
    ap (λ ms. at_most_64 (with_leads [] (leads_of_members (done_leads table) hs ms))) places_are
    ∙ ap (λ ls. at_most_64 (with_leads [] ls)) right ∙ ap at_most_64 rounds_same
  where
    seen_there : (j : ℕ) (h : Head) → slice_get hs j ≡ Some h → h.of_type ≡ t → unseen_by table h ≡ None
    seen_there j h at of_type =
        let places_are : of_t ≡ places t 0 hs = (let e : Some of_t ≡ Some (places t 0 hs) = sym there ∙ is.are_members t within in cc) in
        let r = member_there t 0 hs j h at of_type in
        let e : 0 + j ≡ j = omega arith in
        let member : slice_get of_t r.0 ≡ Some j = ap (λ ms. slice_get ms r.0) places_are ∙ r.1 ∙ ap Some e in
        let k = r.0 in
        let below = slice_get_within of_t k j member in
        let got : get_or of_t k 0 ≡ j = (let same : Some (get_or of_t k 0) ≡ Some j = sym (slice_get-get_or of_t k 0 below) ∙ member in cc) in
        ap (unseen_at table) (sym at) ∙ ap (λ i. unseen_at table (slice_get hs i)) (sym got) ∙ seen k 0 below

-- the members of a type as the code has them
pub members_at : (hs : List Head) (members : List (List ℕ)) (t : ℕ) (m of_t : List ℕ) → AreMembers hs members → t < length members → m ≡ get_or members t m → of_t ≡ m
    → (of_t ≡ places t 0 hs) × (slice_get members t ≡ Some of_t)
members_at hs members t m of_t are within at is =
    let there : slice_get members t ≡ Some of_t = slice_get-get_or members t m within ∙ ap Some (sym at ∙ sym is) in
    let both : Some of_t ≡ Some (places t 0 hs) = sym there ∙ are t within in
    (cc, there)

pub all_and : (P : ℕ → Type 0) (xs : List ℕ) (x : ℕ) → All P xs → P x → All P (xs ++ x ∷ [])
all_and P [] x all here zero d lt = here
all_and P [] x all here (suc k) d lt = absurd (omega (arith, lt))
all_and P (y ∷ xs) x all here zero d lt = all 0 d (omega arith)
all_and P (y ∷ xs) x all here (suc k) d lt = all_and P xs x (λ j e below. all (suc j) e (omega (arith, below))) here k d (omega (arith, lt))

pub all_front : (P : ℕ → Type 0) (xs : List ℕ) (x : ℕ) → All P (xs ++ x ∷ []) → All P xs
all_front P [] x all k d lt = absurd (omega (arith, lt))
all_front P (y ∷ xs) x all zero d lt = all 0 d (omega arith)
all_front P (y ∷ xs) x all (suc k) d lt = all_front P xs x (λ j e below. all (suc j) e (omega (arith, below))) k d (omega (arith, lt))

-- a head's type stands by its number
pub head_number : (s : SchemaView) (hs : List Head) (i : ℕ) (h : Head) → AreHeads s s hs → slice_get hs i ≡ Some h → IsNumber s h.of_type
head_number s hs i h are there =
    let at = head_at s s hs i h are there in
    place_number s at.of.result h.of_type at.is_head.of_type

word_there : (s : SchemaView) (n : ℕ) (c : ConstructorView) → slice_get s n ≡ Some c → c.result ≡ word_at s n
word_there [] n c is = cc
word_there (d ∷ cs) zero c is = let same : d ≡ c = cc in ap (λ (z : ConstructorView). z.result) (sym same)
word_there (d ∷ cs) (suc n) c is = word_there cs n c is

-- ---- the whole table

-- a type that is seen is done where nothing is open
pub seen_done : (s : SchemaView) (table : List Entry) (n : ℕ) → IsSettled s table → IsSeen table n → n < length table → IsDone s table n
seen_done s table n settled seen lt = at (slice_get table n) refl seen
  where
    at : (o : Option Entry) → slice_get table n ≡ o → is_unseen o ≡ false → o ≡ Some (Done (kept_leads s n))
    at None is seen = let clash : None ≡ Some (get_or table n Unseen) = sym is ∙ slice_get-get_or table n Unseen lt in cc
    at (Some Unseen) is seen = absurd (true≢false seen)
    at (Some Open) is seen = absurd (settled.none_open n is)
    at (Some (Done ls)) is seen = ap (λ ks. Some (Done ks)) (settled.done n ls is)

-- with each type done the heads have the leads of their constructors
pub all_right : (s : SchemaView) (table : List Entry) (cs before : SchemaView) (hs : List Head) → AreHeads s cs hs → ((n : ℕ) → IsNumber s n → done_leads table n ≡ kept_leads s n)
    → map (leads_by (done_leads table)) hs ≡ map (leads (cores s)) (cores_after s tag_of before cs)
unfolding leads
all_right s table [] before [] are done = refl
all_right s table [] before (g ∷ hs) are done = absurd are
all_right s table (c ∷ cs) before [] are done = absurd are
all_right s table (c ∷ cs) before (h ∷ hs) are done =
    let N : ProgramFirst → Type 0 = λ f. IsNumbered s f in
    let first = head_leads_are s (done_leads table) h c before are.0 (λ n none is. done n (subst N is are.0.first.numbered)) in
    let rest = all_right s table cs (before ++ c ∷ []) hs are.1 done in
    rw (first, rest) refl

-- the head at the number of a type is one of that type
pub number_head : (s : SchemaView) (hs : List Head) (n : ℕ) → AreHeads s s hs → IsNumber s n → (h : Head) × (slice_get hs n ≡ Some h) × (h.of_type ≡ n)
number_head s hs n are number =
    let placed = place_word s (word_at s n) n number in
    let below : n < length hs = omega (arith, placed.below, head_count s s hs are) in
    let h = get_or hs n (record { of_type = 0; tag = []; first = Anything }) in
    let there = slice_get-get_or hs n (record { of_type = 0; tag = []; first = Anything }) below in
    let at = head_at s s hs n h are there in
    let word : at.of.result ≡ word_at s n = word_there s n at.of at.there in
    let both : Some h.of_type ≡ Some n = sym at.is_head.of_type ∙ ap (place_of s) word ∙ number in
    (h, there, (let same : h.of_type ≡ n = cc in same))

-- so each declared type is done
pub all_done : (s : SchemaView) (hs : List Head) (table : List Entry) → AreHeads s s hs → All (λ (h : Head). IsDone s table h.of_type) hs → (n : ℕ) → IsNumber s n
    → done_leads table n ≡ kept_leads s n
all_done s hs table are done n number =
    let r = number_head s hs n are number in
    let below = slice_get_within hs n r.0 r.1 in
    let at = done n r.0 below in
    let got : Some (get_or hs n r.0) ≡ Some r.0 = sym (slice_get-get_or hs n r.0 below) ∙ r.1 in
    let same : get_or hs n r.0 ≡ r.0 = cc in
    let P : Head → Type 0 = λ h. IsDone s table h.of_type in
    let here = subst P same at in
    let Q : ℕ → Type 0 = λ k. slice_get table k ≡ Some (Done (kept_leads s k)) in
    ap leads_in (subst Q r.2 here)
