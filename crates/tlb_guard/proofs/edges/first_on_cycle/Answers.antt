use Rattle.std.proofs.Common.{◌≡◌, ℕ, ◌+◌, ◌<◌, Vec, Global, true, false, Bool, Option, option_map, List, length, get_or, sym, ap, ◌∙◌, subst, arith, below_more, rules as steps}
use Rattle.std.specs.Prelude.{All}
use Rattle.std.proofs.lemmas.List.{get_or_default, places}
use Rattle.std.proofs.lemmas.Bool.{false≢true, false_from_ne_true}
use Rattle.tlb_guard.specs.declared.rules.Rule.{Rule}
use Rattle.tlb_guard.specs.declared.edges.Edge.{Edge}
use Rattle.tlb_guard.specs.Facts.{IsBelow, holds}
use Rattle.tlb_guard.specs.Users.{AreUsersTo}
use Rattle.tlb_guard.specs.Edges.{AreSearches, is_round_trip}
use Rattle.tlb_guard.proofs.RoundTrips.{back_below, find_none, find_first}
use Rattle.tlb_guard.proofs.edges.first_on_cycle.Goals as goal
use Rattle.tlb_guard.proofs.edges.first_on_cycle.Goals.{then-not-is_found+in_ok-is_on_cycle+else-branch, else-not-is_found}

pub users_of-requires : goal.users_of-requires
users_of-requires c =
    let P : List Rule → Type 0 = All (IsBelow c.args.count) in
    subst P (sym (c.as_slice.ensures ∙ c.in_ok-rules.ensures)) (back_below c.args.count c.args.edges.now c.requires)

pub is_on_cycle-requires-clause-below : goal.is_on_cycle-requires-clause-below
is_on_cycle-requires-clause-below c =
    let P : List Rule → Type 0 = All (IsBelow c.args.count) in
    let N : ℕ → Type 0 = λ n. All (IsBelow n) c.as_slice-rules.result.now in
    let size : c.args.count ≡ length c.as_slice-then-not-is_found.result.now = sym c.in_ok-users.ensures.facts ∙ ap length (sym c.as_slice-then-not-is_found.ensures.value) in
    subst N size (subst P (sym (c.as_slice-rules.ensures ∙ c.in_ok-rules.ensures)) (back_below c.args.count c.args.edges.now c.requires))

pub is_on_cycle-requires-clause-users : goal.is_on_cycle-requires-clause-users
is_on_cycle-requires-clause-users c =
    let rules = c.as_slice-rules.result.now in
    let same : c.as_slice.result.now ≡ rules = c.as_slice.ensures ∙ sym c.as_slice-rules.ensures in
    let R : List Rule → Type 0 = λ z. AreUsersTo c.in_ok-users.users.items z (length z) in
    let U : List (List ℕ) → Type 0 = λ z. AreUsersTo z rules (length rules) in
    subst U (sym c.as_slice-then-not-is_found.ensures.value) (subst R same c.in_ok-users.ensures.users)

pub returns-then-branch : goal.returns-then-branch
returns-then-branch c =
    let edges = c.args.edges.now in
    let i = c.loop-edge.edge-index in
    let d : Edge = record { from = 0; to = 0; at = record { constructor = 0; item = 0 } } in
    let lt : i < length edges = omega arith in
    let S : List (Option (List Bool)) → Type 0 = AreSearches edges in
    let are : S c.as_mut_slice.result.now = subst S (sym c.as_mut_slice.ensures.value) c.loop-edge.invariant.searches in
    let found = c.in_ok-is_on_cycle.ensures.found edges (c.as_slice-rules.ensures ∙ c.in_ok-rules.ensures) are in
    let yes : is_round_trip edges (get_or edges i d) ≡ true = sym found ∙ c.if-branch.true in
    let first = find_first (is_round_trip edges) edges i d lt c.loop-edge.invariant.none yes in
    ap (option_map (λ (e : Edge). e.at)) (sym first)

pub loop-edge-preserved : goal.loop-edge-preserved
loop-edge-preserved c =
    let edges = c.args.edges.now in
    let i = c.loop-edge.edge-index in
    let P : ℕ → Type 0 = λ k. (e : Edge) → is_round_trip edges (get_or edges k e) ≡ false in
    let before : (k : ℕ) → k < i → P k = λ k lt e. c.loop-edge.invariant.none k e lt in
    let d : Edge = record { from = 0; to = 0; at = record { constructor = 0; item = 0 } } in
    let lt : i < length edges = omega arith in
    let none : is_round_trip edges (get_or edges i d) ≡ false → P i =
    λ no e. ap (is_round_trip edges) (get_or_default edges i e d lt) ∙ no in
    elim c.if-not-is_found.branch [
      | then-not-is_found+in_ok-is_on_cycle+else-branch w ↦
          (let new = w.is_on_cycle.new.searches in
          let S : List (Option (List Bool)) → Type 0 = AreSearches edges in
          let are : S w.as_mut_slice.result.now = subst S (sym w.as_mut_slice.ensures.value) c.loop-edge.invariant.searches in
          let same = w.as_slice-rules.ensures ∙ c.in_ok-rules.ensures in
          let found = w.in_ok-is_on_cycle.ensures.found edges same are in
          let no : is_round_trip edges (get_or edges i d) ≡ false = sym found ∙ w.if-branch.false in
          let size : length new ≡ c.args.count = search steps in
          let back : c.if-not-is_found.searches.items ≡ new = ap (λ v. v.items) w.searches-is ∙ search (steps, places) in
          let R : List (Option (List Bool)) → Type 0 = λ z. record { size : length z ≡ c.args.count; searches : AreSearches edges z; none : (k : ℕ) (e : Edge) → k < i + 1 → is_round_trip edges (get_or edges k e) ≡ false } in
          subst R (sym back) (record {
            size = size;
            searches = w.in_ok-is_on_cycle.ensures.searches edges same are;
            none = λ k e below. below_more P i before (none no) k below e;
          }))
      | else-not-is_found w ↦
          (let ends : holds c.in_ok-ending.ending (get_or edges i d).to ≡ true =
          ap (λ z. holds z (get_or edges i d).to) (sym c.as_slice-in-loop-edge.ensures) ∙ sym w.if-not-is_found.ensures in
          let no : is_round_trip edges (get_or edges i d) ≡ false =
          false_from_ne_true (is_round_trip edges (get_or edges i d)) (λ trip. false≢true (sym (c.in_ok-ending.ensures i d lt trip) ∙ ends)) in
          let R : Vec (Option (List Bool)) Global → Type 0 = λ z. record { size : length z.items ≡ c.args.count; searches : AreSearches edges z.items; none : (k : ℕ) (e : Edge) → k < i + 1 → is_round_trip edges (get_or edges k e) ≡ false } in
          subst R (sym w.searches-is) (record {
            size = c.loop-edge.invariant.size;
            searches = c.loop-edge.invariant.searches;
            none = λ k e below. below_more P i before (none no) k below e;
          }))
    ]

pub returns : goal.returns
returns c =
    let edges = c.args.edges.now in
    let end : c.loop-edge.edge-index ≡ length edges = omega arith in
    let none : All (λ e. is_round_trip edges e ≡ false) edges = λ k d lt. c.loop-edge.invariant.none k d (omega (arith, lt, end)) in
    ap (option_map (λ (e : Edge). e.at)) (sym (find_none (is_round_trip edges) edges none))
