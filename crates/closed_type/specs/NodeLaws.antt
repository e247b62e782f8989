-- Turns of a loop that counts the nodes of arguments.
use Rattle.std.proofs.Common.{◌≡◌, ℕ, ◌+◌, ◌<◌, List, refl, ap, sym, ◌∙◌, drop, length, get_or, arith}
use Rattle.std.proofs.lemmas.List.{at_drop_more}
use Rattle.core_form.specs.Closed.{ClosedArgs, arg_nodes}
use Rattle.closed_type.specs.View.{AnArg, number, type, onto, closed_args, closed_arg}
use Rattle.closed_type.specs.declared.tree.ClosedArg.{ClosedArg}
use Rattle.closed_type.specs.Nodes.{more, an_arg_nodes}

pub onto_nodes : (a : AnArg) (rest : ClosedArgs) → arg_nodes (onto a rest) ≡ an_arg_nodes a + arg_nodes rest
onto_nodes (number n) rest = refl
onto_nodes (type t) rest = refl

pub more_more : (count m n new : ℕ) → new ≡ more count m → more new n ≡ more count (m + n)
more_more count m n new e = omega arith

pub arg_turn : (all : List ClosedArg) (i : ℕ) (here : ClosedArg) (count new total : ℕ) → i < length all
    → here ≡ get_or all i here
    → new ≡ more count (an_arg_nodes (closed_arg here)) → more count (arg_nodes (closed_args (drop i all))) ≡ total
    → more new (arg_nodes (closed_args (drop (i + 1) all))) ≡ total
arg_turn all i here count new total lt is one so_far =
    more_more count (an_arg_nodes (closed_arg here)) (arg_nodes (closed_args (drop (i + 1) all))) new one
    ∙ ap (more count) (sym (onto_nodes (closed_arg here) (closed_args (drop (i + 1) all))))
    ∙ ap (λ z. more count (arg_nodes (onto (closed_arg z) (closed_args (drop (i + 1) all))))) is
    ∙ sym (at_drop_more (λ z. more count (arg_nodes (closed_args z))) all i here lt)
    ∙ so_far
