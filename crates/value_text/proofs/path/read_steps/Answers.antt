use Rattle.std.proofs.Common.{◌≡◌, ◌+◌, Some, List, ℕ, [], ◌∷◌, ap, sym, refl, subst, ◌∙◌, arith, get_or, map, take}
use Rattle.std.proofs.lemmas.List.{map-append, take_rest}
use Rattle.typed_value.specs.Paths.{Stride}
use Rattle.typed_value.specs.View.{stride}
use Rattle.value_text.specs.declared.point.Point.{Point}
use Rattle.value_text.specs.declared.point.Point.TheVariants.{Root}
use Rattle.value_text.specs.PathPoints.{walk}
use Rattle.value_text.specs.PathText.{PathWrites}
use Rattle.value_text.proofs.PathStands.{So, bad_at, bad_at_end, ends_with_step, ends_without, first_so, held, next_walked, plain_so, step_so}
use Rattle.value_text.proofs.path.read_steps.Goals as goal
use Rattle.value_text.proofs.path.read_steps.Goals.{then-byte-eq47, then-is_step+in_ok-step_of+in_ok-push, else-is_step, else-byte-eq47, then-is_step-2+in_ok-step_of-2+in_ok-push-2, else-is_step-2}

pub returns-in_default : goal.returns-in_default
returns-in_default c =
    bad_at c.bytes.point c.args.text.now c.bytes.i (get_or c.args.text.now c.bytes.i 0) (omega arith) refl c.bytes.invariant.walked (sym c.next.ensures ∙ c.in_default.is)

pub step_of-requires-clause-holds : goal.step_of-requires-clause-holds
step_of-requires-clause-holds c =
    held (map stride c.bytes.steps) c.bytes.start c.bytes.point c.args.text.now c.bytes.i (omega arith) c.bytes.invariant.so (sym c.is_step.ensures ∙ c.if-is_step.true)

pub bytes-preserved : goal.bytes-preserved
bytes-preserved c =
    let text = c.args.text.now in
    let i = c.bytes.i in
    let p = c.bytes.point in
    let steps = map stride c.bytes.steps in
    let start = c.bytes.start in
    let byte = get_or text i 0 in
    let t = sym c.next.ensures ∙ c.in-Some.is in
    let Goal : List Stride → ℕ → Point → Type 0 = λ ss s q. (walk Root (take (i + 1) text) ≡ Some q) × So ss s q (take (i + 1) text) in
    let both : Goal (map stride c.if-byte-eq47.steps) c.if-byte-eq47.start c.if-byte-eq47.point = elim c.if-byte-eq47.branch [
      | then-byte-eq47 w ↦
          let P : ℕ → Type 0 = λ s. Goal (map stride c.if-byte-eq47.steps) s c.if-byte-eq47.point in
          let Q : Point → Type 0 = λ q. Goal (map stride c.if-byte-eq47.steps) (i + 1) q in
          let R : List Stride → Type 0 = λ ss. Goal ss (i + 1) c.in-Some.next in
          let walked = next_walked p c.in-Some.next text i byte (omega arith) refl c.bytes.invariant.walked t in
          subst P (sym w.start-is) (subst Q (sym w.point-is) (elim w.if-is_step.branch [
            | then-is_step+in_ok-step_of+in_ok-push v ↦
                let pushed = ap (map stride) (w.steps-is ∙ v.steps-is ∙ v.in_ok-push.ensures.ok) ∙ map-append stride c.bytes.steps (v.in_ok-step_of.field-0 ∷ []) in (
                  walked,
                  step_so steps (map stride c.if-byte-eq47.steps) start p c.in-Some.next text i byte (stride v.in_ok-step_of.field-0) (omega arith) refl w.if-byte-eq47.true
                      c.bytes.invariant.so t (sym w.is_step.ensures ∙ v.if-is_step.true) v.in_ok-step_of.ensures.0 v.in_ok-step_of.ensures.1 pushed,
                )
            | else-is_step v ↦
                subst R (ap (map stride) (sym (w.steps-is ∙ v.steps-is)))
                (walked, first_so steps start p c.in-Some.next text i byte (omega arith) refl w.if-byte-eq47.true c.bytes.invariant.so t (sym w.is_step.ensures ∙ v.if-is_step.false))
          ]))
      | else-byte-eq47 w ↦
          let P : ℕ → Type 0 = λ s. Goal (map stride c.if-byte-eq47.steps) s c.if-byte-eq47.point in
          let Q : Point → Type 0 = λ q. Goal (map stride c.if-byte-eq47.steps) start q in
          let R : List Stride → Type 0 = λ ss. Goal ss start c.in-Some.next in
          subst P (sym w.start-is) (subst Q (sym w.point-is) (subst R (ap (map stride) (sym w.steps-is)) (
            next_walked p c.in-Some.next text i byte (omega arith) refl c.bytes.invariant.walked t,
            plain_so steps start p c.in-Some.next text i byte (omega arith) refl w.if-byte-eq47.false c.bytes.invariant.so t,
          )))
    ] in
    record { walked = both.0; so = both.1 }

pub returns-then-not-may_end : goal.returns-then-not-may_end
returns-then-not-may_end c =
    bad_at_end c.bytes.point c.args.text.now c.bytes.i (omega arith) c.bytes.invariant.walked (sym c.may_end.ensures ∙ c.if-not-may_end.true)

pub returns : goal.returns
returns c =
    let text = c.args.text.now in
    let steps = map stride c.bytes.steps in
    elim c.if-is_step-2.branch [
      | then-is_step-2+in_ok-step_of-2+in_ok-push-2 w ↦
          let pushed = ap (map stride) (w.steps-is ∙ w.in_ok-push-2.ensures.ok) ∙ map-append stride c.bytes.steps (w.in_ok-step_of-2.field-0 ∷ []) in
          ends_with_step steps (map stride c.if-is_step-2.steps) c.bytes.start c.bytes.point text c.bytes.i (stride w.in_ok-step_of-2.field-0) (omega arith) c.bytes.invariant.so
          (sym c.is_step-2.ensures ∙ w.if-is_step-2.true) w.in_ok-step_of-2.ensures.0 (sym (take_rest text c.bytes.start) ∙ w.in_ok-step_of-2.ensures.1) pushed
      | else-is_step-2 w ↦
          let P : List Stride → Type 0 = λ ss. PathWrites text ss in
          subst P (ap (map stride) (sym w.steps-is))
          (ends_without steps c.bytes.start c.bytes.point text c.bytes.i (omega arith) c.bytes.invariant.so (sym c.may_end.ensures ∙ c.if-not-may_end.false) (sym c.is_step-2.ensures ∙ w.if-is_step-2.false))
    ]
