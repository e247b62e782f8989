use Rattle.std.proofs.Common.{◌≡◌, ◌∙◌, subst, ℕ, List, Some}
use Rattle.std.specs.BTreeMap.{UpdatesBy}
use Rattle.std.specs.Cmp.Lexicographic.{slice_cmp}
use Rattle.std.specs.Ordering.{nat_cmp}
use Rattle.tlb_syntax.specs.View.{constructor}
use Rattle.type_index.specs.declared.index.TypeEntry.{TypeEntry}
use Rattle.type_index.proofs.Entries.{first_entered}
use Rattle.type_index.proofs.index.add_type.Goals as goal

pub returns : goal.returns
returns c = λ s size none old.
    let e : TypeEntry = record { kinds = c.in_ok-kinds.kinds; constructors = c.push.new.self } in
    let same : c.in_ok-name.name.items ≡ c.args.added.now.result =
    c.in_ok-name.ensures.items_if_clones_equal (λ x y h. h) ∙ c.text.ensures.value in
    let P : List ℕ → Type 0 =
    λ bs. UpdatesBy (λ x y. slice_cmp nat_cmp x.items y.items) (λ k. slice_cmp nat_cmp bs k.items) c.args.by_name.now c.insert.new.self (Some e) in
    first_entered c.args.by_name.now c.insert.new.self s (constructor c.args.added.now) c.args.number e size
    c.in_ok-kinds.ensures (rw c.new-constructors.ensures at c.in_ok-push.ensures.ok)
    (subst P same c.in_ok-insert.ensures.updates) none old
