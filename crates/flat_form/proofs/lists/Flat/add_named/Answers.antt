use Rattle.std.proofs.Common.{◌≡◌, subst, sym, ap, IfOk, ◌∙◌, List}
use Rattle.core_form.specs.Core.{Args, Word}
use Rattle.core_form.specs.Core as core
use Rattle.flat_form.specs.declared.lists.PlanArg.{PlanArg}
use Rattle.flat_form.specs.Stands.{type_at, args_in, name_at}
use Rattle.flat_form.specs.Sound.{ArgsAreSound}
use Rattle.flat_form.specs.GrowthLaws.{adds_on, on_ok, args_then, arguments_stay, arguments_sound}
use Rattle.flat_form.proofs.lists.Flat.add_named.Goals as goal

pub add_type-requires-clause-sound : goal.add_type-requires-clause-sound
add_type-requires-clause-sound c =
    let f = c.args.self.now in
    let g = c.add_arguments.new.self in
    let h = c.add_name.new.self in
    let count : c.in_ok-count.count ≡ _ = c.in_ok-count.ensures ∙ c.len.ensures in
    let there = args_then g h c.in_ok-first.first c.in_ok-count.count c.args.args c.in_ok-name.ensures.adds (c.in_ok-first.ensures.stands) c.in_ok-first.ensures.there count in
    let P : List PlanArg → Type 0 = ArgsAreSound h _ in
    (c.in_ok-name.ensures.there, there.0, subst P (sym there.1) (arguments_sound f h c.args.args (adds_on f g h c.in_ok-first.ensures.adds c.in_ok-name.ensures.adds) c.requires.sound))

pub returns-clause-stands : goal.returns-clause-stands
returns-clause-stands c =
    let f = c.args.self.now in
    let g = c.add_arguments.new.self in
    let h = c.add_name.new.self in
    let count : c.in_ok-count.count ≡ _ = c.in_ok-count.ensures ∙ c.len.ensures in
    let there = args_then g h c.in_ok-first.first c.in_ok-count.count c.args.args c.in_ok-name.ensures.adds (c.in_ok-first.ensures.stands) c.in_ok-first.ensures.there count in
    let same = ap (args_in h (type_at h)) there.1 ∙ arguments_stay f h c.args.args c.requires.flat (adds_on f g h c.in_ok-first.ensures.adds c.in_ok-name.ensures.adds) c.requires.sound in
    let P : Args → Type 0 = λ a. IfOk c.add_type.result (λ t. type_at c.add_type.new.self t ≡ core.named (name_at h c.in_ok-name.name) a) in
    let Q : Word → Type 0 = λ x. IfOk c.add_type.result (λ t. type_at c.add_type.new.self t ≡ core.named x (args_in f (type_at f) c.args.args)) in
    subst Q c.in_ok-name.ensures.stands (subst P same c.add_type.ensures.stands)

pub returns-clause-adds : goal.returns-clause-adds
returns-clause-adds c =
    let f = c.args.self.now in
    let g = c.add_arguments.new.self in
    let h = c.add_name.new.self in
    on_ok c.add_type.result (adds_on f h c.add_type.new.self (adds_on f g h c.in_ok-first.ensures.adds c.in_ok-name.ensures.adds)) c.add_type.ensures.adds
