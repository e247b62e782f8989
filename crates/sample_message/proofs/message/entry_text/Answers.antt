use Rattle.std.proofs.Common.{◌∙◌, ◌++◌, ap, codes, decimal}
use Rattle.sample_message.specs.Message.{key_text}
use Rattle.sample_message.proofs.Entries.{in-four}
use Rattle.sample_message.proofs.message.entry_text.Goals as goal

pub returns : goal.returns
returns c =
    c.in_ok-text.ensures.ok
    ∙ ap (λ bits. bits ++ (codes ":var_uint{len:4,value:" ++ (decimal c.args.key ++ codes "}"))) c.in_ok-bits.ensures
    ∙ in-four (key_text c.args.key) (codes ":var_uint{len:4,value:") (decimal c.args.key) (codes "}")
