use Rattle.std.proofs.Common.{sym, ◌∙◌, ◌+◌, drop}
use Rattle.std.proofs.lemmas.List.{at_drop_more}
use Rattle.core_form.specs.Core.{outs}
use Rattle.core_form.specs.Scope.{bind}
use Rattle.flat_form.specs.Stands.{args_in, type_at}
use Rattle.plan_closing.specs.Counted.{scope_of}
use Rattle.plan_reading.proofs.slots.bind_args.Goals as goal

pub loop-arg-preserved : goal.loop-arg-preserved
loop-arg-preserved c = λ types.
    let f = c.args.flat.now in
    sym (c.bind_arg-left.ensures f (args_in f (type_at f) (drop (c.loop-arg.arg-index + 1) c.args.args.now)) types)
    ∙ sym (at_drop_more (λ z. bind (outs (args_in f (type_at f) z)) c.loop-arg.left.now (scope_of c.loop-arg.env types))
    c.args.args.now c.loop-arg.arg-index _ c.loop-arg-test.true)
    ∙ c.loop-arg.invariant types
