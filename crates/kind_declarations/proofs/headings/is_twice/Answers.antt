use Rattle.std.proofs.Common.{◌∙◌, ap, sym}
use Rattle.std.specs.List.{list_any}
use Rattle.kind_terms.specs.Views.{constructors_by}
use Rattle.kind_declarations.specs.Headings.{same_name}
use Rattle.kind_declarations.proofs.Params.{none_is_named}
use Rattle.kind_declarations.proofs.headings.is_twice.Goals as goal

pub returns-in-None : goal.returns-in-None
returns-in-None c =
    let earlier = constructors_by c.args.earlier in
    sym (ap (λ n. list_any (same_name n) earlier) c.in-None.is ∙ none_is_named earlier)
