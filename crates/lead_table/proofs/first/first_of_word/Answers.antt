use Rattle.std.proofs.Common.{◌≡◌, sym, ap, ◌∙◌}
use Rattle.tlb_guard.specs.Numbering.{views}
use Rattle.kind_terms.specs.Classes.{word_class}
use Rattle.kind_terms.specs.declared.words.WordClass.TheVariants.{Free}
use Rattle.lead_table.proofs.Firsts.{free_placed, free_unplaced}
use Rattle.lead_table.proofs.first.first_of_word.Goals as goal

pub returns-in-Some : goal.returns-in-Some
returns-in-Some c =
    let free : word_class c.args.name.now ≡ Free = ap word_class (sym c.text.ensures.value) ∙ sym c.word_class.ensures ∙ c.in-Free.is in
    free_placed (views c.args.types.now) c.args.name.now c.in-Some.number (word_class c.args.name.now) free (sym c.place.ensures ∙ c.in-Some.is)

pub returns-in-None : goal.returns-in-None
returns-in-None c =
    let free : word_class c.args.name.now ≡ Free = ap word_class (sym c.text.ensures.value) ∙ sym c.word_class.ensures ∙ c.in-Free.is in
    free_unplaced (views c.args.types.now) c.args.name.now (word_class c.args.name.now) free (sym c.place.ensures ∙ c.in-None.is)
