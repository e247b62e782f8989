use Rattle.std.proofs.Common.{rules, ◌++◌, ◌∙◌, ap, sym, refl, arith, map, string_bytes}
use Rattle.std.proofs.lemmas.List.{length-map}
use Rattle.tlb_files.specs.View.{files_by}
use Rattle.cli_commands.specs.declared.slot.Slot.TheVariants.{Schema}
use Rattle.cli_commands.proofs.SlotFiles.{lacks, puts}
use Rattle.cli_commands.proofs.form.Form.files.Goals as goal
use Rattle.cli_commands.proofs.form.Form.files.Goals.{in-Some+in_ok-push_named, in_default}

pub slots-preserved : goal.slots-preserved
slots-preserved c = elim c.match-get.branch [
  | in-Some+in_ok-push_named w ↦
      puts (files_by c.slots.files.items) _ c.slots-slot-items.result.now c.args.self.now.words.now c.slots.place Schema _
      w.in-Some.word.now w.as_str.result.now c.slots-test.true (search rules) refl (search rules) w.as_str.ensures.value
      (rw (w.files-is) w.in_ok-push_named.ensures) c.slots.invariant
  | in_default w ↦
      rw (w.files-is)
      (ap (λ xs. files_by c.slots.files.items ++ xs)
      (sym (lacks c.slots-slot-items.result.now (map string_bytes c.args.self.now.words.now) c.slots.place
      (grind (arith, length-map c.args.self.now.words.now string_bytes, c.get.ensures.lookup))))
      ∙ c.slots.invariant)
]
