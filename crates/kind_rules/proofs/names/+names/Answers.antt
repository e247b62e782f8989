use Rattle.std.proofs.Common.{map}
use Rattle.kind_rules.proofs.NamesInside.{ok_in_sum, ok_in_star}
use Rattle.kind_rules.proofs.names.+names.Goals as goal

pub add_names_in-returns-in_ok-add_names_in-in-Sum-2 : goal.add_names_in-returns-in_ok-add_names_in-in-Sum-2
add_names_in-returns-in_ok-add_names_in-in-Sum-2 t c =
    ok_in_sum c.add_names_in_all-in-Sum.result (map (λ x. x.now) c.args.names.now) _ _ (map (λ x. x.now) c.add_names_in_all-in-Sum.new.names)
    _ _ _ _ _ _ _ c.in-Sum.is c.get.ensures c.get-in-Sum.ensures c.as_slice-in-Sum.ensures
    c.in_ok-add_names_in-in-Sum.ensures c.in_ok-add_names_in-in-Sum-2.ensures c.add_names_in_all-in-Sum.ensures

pub add_names_in-returns-in_ok-add_names_in-in-Star : goal.add_names_in-returns-in_ok-add_names_in-in-Star
add_names_in-returns-in_ok-add_names_in-in-Star t c =
    ok_in_star c.add_names_in-in-Star-2.result (map (λ x. x.now) c.args.names.now) _ (map (λ x. x.now) c.add_names_in-in-Star-2.new.names)
    _ _ _ _ _ c.in-Star.is c.get-in-Star.ensures c.get-in-Star-2.ensures c.in_ok-add_names_in-in-Star.ensures c.add_names_in-in-Star-2.ensures
