-- Lists of distinct trees that grow: how long they become, and what stands where they grew in part.
use Rattle.std.proofs.Common.{◌≡◌, ◌∙◌, ℕ, ◌+◌, ◌*◌, ◌<◌, ◌≤◌, Bool, true, false, cond, List, [], ◌∷◌, ◌++◌, length}
use Rattle.std.proofs.Common.{map, append_assoc, length-append, refl, ap, sym, ⊎_elim, arith}
use Rattle.std.specs.Prelude.{not}
use Rattle.std.proofs.lemmas.Bool.{cases_Bool}
use Rattle.std.proofs.lemmas.List.{append-nil, append_cancel_left}
use Rattle.cell_nodes.specs.declared.tree.Tree.{Tree, out-Tree}
use Rattle.cell_nodes.specs.Tree.{total, unfolded}
use Rattle.cell_nodes.specs.Equations.{unfolded-out, one_le-unfolded}
use Rattle.cell_pool.specs.Post.{stands, without, joined, post}
use Rattle.cell_pool.specs.Listing.{added, added_all, ChildrenBefore, LiesBetween, IsPartly}
use Rattle.cell_pool.specs.SameLaws.{EachOf, tree_induction}
use Rattle.cell_pool.specs.PlaceLaws.{or_left, or_right, stands-append, joined-after}
use Rattle.cell_pool.specs.PostLaws.{closed, post-out, added-out, added-known, still_new}

-- ---- lengths

length-cond : (b : Bool) (t : Tree) (ts : List Tree) (n : ℕ) → length ts ≤ n → length (cond b (t ∷ ts) ts) ≤ 1 + n
length-cond true t ts n h = omega arith
length-cond false t ts n h = omega arith

length-without : (seen ts : List Tree) → length (without seen ts) ≤ length ts
length-without seen [] = omega arith
length-without seen (t ∷ ts) =
    let h = length-cond (not (stands seen t)) t (without seen ts) (length ts) (length-without seen ts) in
    omega (arith, h)

length-joined : (seen : List Tree) (more : List (List Tree))
    → length (joined seen more) ≤ length seen + total (map length more)
length-joined seen [] = omega arith
length-joined seen (ts ∷ more) =
    omega (
      arith,
      length-joined (seen ++ without seen ts) more,
      length-append seen (without seen ts),
      length-without seen ts,
    )

lengths-posts : (ts : List Tree) → EachOf (λ t. length (post t) ≤ unfolded t) ts
    → total (map length (map post ts)) ≤ total (map unfolded ts)
lengths-posts [] each = omega arith
lengths-posts (t ∷ ts) each = omega (arith, lengths-posts ts each.1, each.0)

length-post_step : (t : Tree) → EachOf (λ u. length (post u) ≤ unfolded u) (out-Tree t).children
    → length (post t) ≤ unfolded t
length-post_step t each =
    let cs = (out-Tree t).children in
    rw (post-out t)
    (omega (
      arith,
      length-append (joined [] (map post cs)) (t ∷ []),
      length-joined [] (map post cs),
      lengths-posts cs each,
      unfolded-out t,
    ))

-- a tree has no more distinct subtrees than cells
pub length-post : (t : Tree) → length (post t) ≤ unfolded t
length-post = tree_induction (λ t. length (post t) ≤ unfolded t) length-post_step

each-length : (ts : List Tree) → EachOf (λ t. length (post t) ≤ unfolded t) ts
each-length [] = tt
each-length (t ∷ ts) = (length-post t, each-length ts)

pub length-added : (seen : List Tree) (t : Tree) → length (added seen t) ≤ length seen + unfolded t
length-added seen t =
    omega (arith, length-append seen (without seen (post t)), length-without seen (post t), length-post t)

pub length-added_all : (seen ts : List Tree) → length (added_all seen ts) ≤ length seen + total (map unfolded ts)
length-added_all seen ts = omega (arith, length-joined seen (map post ts), lengths-posts ts (each-length ts))

-- ---- lists between two

pub between-here : (xs ys : List Tree) → LiesBetween xs xs (xs ++ ys)
between-here xs ys = record { part = []; rest = ys; starts = sym (append-nil xs); ends = refl }

-- what lies between the beginning and the middle lies between the beginning and the end
pub between-more : (a b c : List Tree) (more : List (List Tree)) → LiesBetween a b c → LiesBetween a b (joined c more)
between-more a b c more l = record {
  part = l.part;
  rest = l.rest ++ without c (joined [] more);
  starts = l.starts;
  ends = joined-after c more ∙ ap (λ (x : List Tree). x ++ without c (joined [] more)) l.ends
      ∙ append_assoc b l.rest (without c (joined [] more));
}

-- what lies between the middle and the end lies between the beginning and the end
pub between-after : (a b c d : List Tree) (x : List Tree) → b ≡ a ++ x → LiesBetween b c d → LiesBetween a c d
between-after a b c d x e l = record {
  part = x ++ l.part;
  rest = l.rest;
  starts = l.starts ∙ ap (λ (y : List Tree). y ++ l.part) e ∙ append_assoc a x l.part;
  ends = l.ends;
}

pub between-partly : (a b : List Tree) (t : Tree) → IsPartly a b t → LiesBetween a b (added a t)
between-partly a b t p = record {
  part = p.part;
  rest = p.rest;
  starts = p.starts;
  ends = ap (λ (x : List Tree). a ++ x) p.whole ∙ sym (append_assoc a p.part p.rest)
      ∙ ap (λ (x : List Tree). x ++ p.rest) (sym p.starts);
}

pub between-all : (seen ts : List Tree) → LiesBetween seen (added_all seen ts) (added_all seen ts)
between-all seen ts = record {
  part = without seen (joined [] (map post ts));
  rest = [];
  starts = joined-after seen (map post ts);
  ends = sym (append-nil (added_all seen ts));
}

-- ---- a tree that was added in part

none-long : (ts : List Tree) → length ts ≤ 0 → ts ≡ []
none-long [] h = refl
none-long (t ∷ ts) h = absurd (omega arith)

stands-part : (seen part rest : List Tree) (t : Tree) → stands ((seen ++ part) ++ rest) t ≡ false
    → stands part t ≡ false
stands-part seen part rest t h = ⊎_elim
    (λ (k : stands part t ≡ true).
    let e : stands ((seen ++ part) ++ rest) t ≡ true =
    stands-append (seen ++ part) rest t ∙ or_left _ _ (stands-append seen part t ∙ or_right _ _ k) in
    absurd (cc))
    (λ (k : stands part t ≡ false). k)
    (cases_Bool (stands part t))

part-not_whole : (seen new : List Tree) (t : Tree) → ChildrenBefore seen
    → (l : LiesBetween seen new (added_all seen (out-Tree t).children))
    → stands l.part t ≡ false
part-not_whole seen new t b l = ⊎_elim
    (λ (h : stands seen t ≡ true).
    let n = ap length (added-known seen t (closed seen b) h) in
    let m = ap length (added-out seen t) in
    let k = length-append (added_all seen (out-Tree t).children) (without seen (t ∷ [])) in
    let e : l.part ≡ [] =
    none-long l.part (omega (
      arith,
      ap length l.ends,
      ap length l.starts,
      length-append new l.rest,
      length-append seen l.part,
    )) in
    ap (λ (x : List Tree). stands x t) e)
    (λ (h : stands seen t ≡ false).
    let e : added_all seen (out-Tree t).children ≡ (seen ++ l.part) ++ l.rest =
    l.ends ∙ ap (λ (x : List Tree). x ++ l.rest) l.starts in
    stands-part seen l.part l.rest t (ap (λ (x : List Tree). stands x t) (sym e) ∙ still_new seen t h))
    (cases_Bool (stands seen t))

-- where only subtrees of its children were added
pub partly : (seen new : List Tree) (t : Tree) → ChildrenBefore seen
    → LiesBetween seen new (added_all seen (out-Tree t).children)
    → IsPartly seen new t
partly seen new t b l =
    let all = added_all seen (out-Tree t).children in
    let last = without seen (t ∷ []) in
    let e : seen ++ without seen (post t) ≡ seen ++ (l.part ++ (l.rest ++ last)) =
    added-out seen t
    ∙ ap (λ (x : List Tree). x ++ last) (l.ends ∙ ap (λ (x : List Tree). x ++ l.rest) l.starts)
    ∙ append_assoc (seen ++ l.part) l.rest last
    ∙ append_assoc seen l.part (l.rest ++ last) in
    record {
      part = l.part;
      rest = l.rest ++ last;
      starts = l.starts;
      whole = append_cancel_left seen _ _ e;
      not_whole = part-not_whole seen new t b l;
    }

-- ---- a walk down a tree ends

pub down : (t : Tree) (cs : List Tree) → cs ≡ (out-Tree t).children → 2 * total (map unfolded cs) + 1 < 2 * unfolded t
down t cs e = rw e (omega (arith, unfolded-out t))

pub ruleset walks = (down, one_le-unfolded)
