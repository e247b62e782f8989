-- Chains through the nodes of one bucket.
use Rattle.std.proofs.Common.{◌≡◌, ◌∙◌, ◌≢◌, ℕ, zero, ◌+◌, ◌<◌, ◌≤◌, List, [], ◌∷◌, ◌++◌, length, get_or, set, replicate, length-append, get_or-set_same, get_or-set_other, ap, sym, subst, ⊎_elim, arith}
use Rattle.std.proofs.lemmas.Bool.{cases_lt}
use Rattle.std.proofs.lemmas.List.{get_or-replicate, get_or_append_left, length-set, length-replicate}
use Rattle.std.proofs.Math.Seq.{get_or-append_seam}
use Rattle.cell_pool.specs.Nodes.{IsLink, IsChained}

-- a link stays where a place is added from its bound on
link-more : (bs xs : List ℕ) (bound b link : ℕ) → bound ≤ length bs → IsLink bs bound b link → IsLink (bs ++ xs) bound b link
link-more bs xs bound b link h l = record {
  within = l.within;
  inside = λ i e. get_or_append_left bs xs 0 i (omega (arith, l.within, e)) ∙ l.inside i e;
  last = λ i k e. l.last i k (sym (get_or_append_left bs xs 0 i (omega (arith, k))) ∙ e);
}

-- and passes over a place of another bucket
link-passed : (bs : List ℕ) (b x link : ℕ) → b ≢ x → IsLink bs (length bs) b link → IsLink (bs ++ x ∷ []) (length bs + 1) b link
link-passed bs b x link ne l = record {
  within = omega (arith, l.within);
  inside = λ i e. get_or_append_left bs (x ∷ []) 0 i (omega (arith, l.within, e)) ∙ l.inside i e;
  last = λ i k e. ⊎_elim
      (λ (h : i < length bs). l.last i h (sym (get_or_append_left bs (x ∷ []) 0 i h) ∙ e))
      (λ (h : length bs ≤ i).
      let z : length bs ≡ i = omega (arith, k, h) in
      absurd (ne (sym e ∙ ap (λ (j : ℕ). get_or (bs ++ x ∷ []) j 0) (sym z) ∙ get_or-append_seam bs x [] 0)))
      (cases_lt i (length bs));
}

-- the link to a place that is added
link-new : (bs : List ℕ) (x : ℕ) → IsLink (bs ++ x ∷ []) (length bs + 1) x (length bs + 1)
link-new bs x = record {
  within = omega arith;
  inside = λ i e.
      let z : i ≡ length bs = omega (arith, e) in
      ap (λ (j : ℕ). get_or (bs ++ x ∷ []) j 0) z ∙ get_or-append_seam bs x [] 0;
  last = λ i k e. k;
}

heads_step : (bs heads : List ℕ) (b x : ℕ) → ((y : ℕ) → y < length heads → IsLink bs (length bs) y (get_or heads y 0)) → b < length heads → x < length heads
    → IsLink (bs ++ b ∷ []) (length bs + 1) x (get_or (set heads b (length bs + 1)) x 0)
heads_step bs heads b x all h k = ⊎_elim
    (λ (l : x < b). let ne : x ≢ b = omega arith in passed ne)
    (λ (l : b ≤ x). ⊎_elim
    (λ (m : b < x). let ne : x ≢ b = omega arith in passed ne)
    (λ (m : x ≤ b).
    let z : b ≡ x = omega arith in
    subst (λ (y : ℕ). IsLink (bs ++ b ∷ []) (length bs + 1) y (get_or (set heads b (length bs + 1)) y 0)) z
    (let e : get_or (set heads b (length bs + 1)) b 0 ≡ length bs + 1 = get_or-set_same heads b (length bs + 1) 0 h in
    rw e (link-new bs b)))
    (cases_lt b x))
    (cases_lt x b)
  where
    passed : x ≢ b → IsLink (bs ++ b ∷ []) (length bs + 1) x (get_or (set heads b (length bs + 1)) x 0)
    passed ne =
        let e : get_or (set heads b (length bs + 1)) x 0 ≡ get_or heads x 0 = get_or-set_other heads b x (length bs + 1) 0 ne in
        rw e (link-passed bs x b (get_or heads x 0) ne (all x k))

nodes_step : (bs links : List ℕ) (b link i : ℕ) → length links ≡ length bs → ((j : ℕ) → j < length bs → IsLink bs j (get_or bs j 0) (get_or links j 0))
    → IsLink bs (length bs) b link → i < length bs + 1 → IsLink (bs ++ b ∷ []) i (get_or (bs ++ b ∷ []) i 0) (get_or (links ++ link ∷ []) i 0)
nodes_step bs links b link i same all head h = ⊎_elim
    (λ (k : i < length bs).
    let e : get_or (bs ++ b ∷ []) i 0 ≡ get_or bs i 0 = get_or_append_left bs (b ∷ []) 0 i k in
    let f : get_or (links ++ link ∷ []) i 0 ≡ get_or links i 0 = get_or_append_left links (link ∷ []) 0 i (omega (arith, k, same)) in
    rw (e, f) (link-more bs (b ∷ []) i (get_or bs i 0) (get_or links i 0) (omega (arith, k)) (all i k)))
    (λ (k : length bs ≤ i).
    let z : length bs ≡ i = omega (arith, k, h) in
    let e : get_or (bs ++ b ∷ []) (length bs) 0 ≡ b = get_or-append_seam bs b [] 0 in
    let f : get_or (links ++ link ∷ []) (length bs) 0 ≡ link = ap (λ (j : ℕ). get_or (links ++ link ∷ []) j 0) (sym same) ∙ get_or-append_seam links link [] 0 in
    subst (λ (j : ℕ). IsLink (bs ++ b ∷ []) j (get_or (bs ++ b ∷ []) j 0) (get_or (links ++ link ∷ []) j 0)) z
    (rw (e, f) (link-more bs (b ∷ []) (length bs) b link (omega arith) head)))
    (cases_lt i (length bs))

-- a place is added as the first of the chain of its bucket
pub chained-push : (bs links heads : List ℕ) (b : ℕ) → IsChained bs links heads → length links ≡ length bs → b < length heads
    → IsChained (bs ++ b ∷ []) (links ++ get_or heads b 0 ∷ []) (set heads b (length bs + 1))
chained-push bs links heads b c same h =
    let n : length bs + 1 ≡ length (bs ++ b ∷ []) = omega (arith, length-append bs (b ∷ [])) in
    record {
      heads_link = λ x k.
          let m : x < length heads = omega (arith, k, length-set heads b (length bs + 1)) in
          subst (λ (j : ℕ). IsLink (bs ++ b ∷ []) j x (get_or (set heads b (length bs + 1)) x 0)) n
          (heads_step bs heads b x c.heads_link h m);
      nodes_link = λ i k.
          nodes_step bs links b (get_or heads b 0) i same c.nodes_link (c.heads_link b h) (omega (arith, k, n));
    }

-- no chain has a node
pub chained-empty : (n : ℕ) → IsChained [] [] (replicate n 0)
chained-empty n = record {
  heads_link = λ b h.
      let e : get_or {A = ℕ} (replicate {A = ℕ} n 0) b 0 ≡ zero = get_or-replicate {A = ℕ} n b 0 0 (omega (arith, h, length-replicate {A = ℕ} n 0)) in
      rw e (record { within = omega arith; inside = λ i k. absurd (omega (arith, k)); last = λ i k f. absurd (omega (arith, k)) });
  nodes_link = λ i h. absurd (omega (arith, h));
}
