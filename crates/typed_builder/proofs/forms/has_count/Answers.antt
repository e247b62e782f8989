use Rattle.std.proofs.Common.{ap, nat_eq, sym}
use Rattle.typed_builder.proofs.Lists.{count_is}
use Rattle.typed_builder.proofs.forms.has_count.Goals as goal

pub returns : goal.returns
returns c = ap (λ n. nat_eq n c.args.count) (sym (count_is c.args.items.now))
