-- A path that names an absence leads to no value, and what is known of a chosen path that names something.
use Rattle.std.proofs.Common.{◌≡◌, inl, inr, true, List, [], ◌∷◌, Option, Some, None, refl, sym, ap}
use Rattle.std.proofs.Common.{◌∙◌}
use Rattle.typed_value.specs.Paths.{Stride, named, item, keyed, entry_at, step_at, onward, at_path}
use Rattle.typed_value.specs.Values.{Plain, number, bit_string, record_of, absent, list_of, ref_to, unknown, map_of}
use Rattle.typed_value.specs.Values.{raw, rest}
use Rattle.pruning.specs.declared.Knowledge.TheVariants.{Known, KnownAbsent}
use Rattle.pruning.specs.Blanked.{Blanked}
use Rattle.pruning.specs.SpellsLaid.{plain_root}
use Rattle.pruning.specs.Spots.{unless_kept, unkept, spots_of}
use Rattle.pruning.specs.Knowing.{known, as_named, is_none, lacks, lacked_at, names_absence, NamesSomething}
use Rattle.pruning_laws.specs.BlankedLaws.{blanks}
use Rattle.pruning_laws.specs.KnownLaws.{chosen_known}
use Rattle.pruning_laws.specs.Laws.{AbsenceHasNoValue, KnowsNamed, NamedIsKnown}
use Rattle.pruning_laws.specs.NamesLaws.{root_apart}

-- ---- absence

none-is : (o : Option Plain) → is_none o ≡ true → o ≡ None
none-is None e = refl
none-is (Some v) e = absurd (cc)

lacks-no_step : (v : Plain) (s : Stride) → lacks v s ≡ true → step_at v s ≡ None
lacks-no_step (number negative size) s e = refl
lacks-no_step (bit_string bits) s e = refl
lacks-no_step (record_of name names vs) s e = absurd (cc)
lacks-no_step absent s e = refl
lacks-no_step (list_of vs) s e = absurd (cc)
lacks-no_step (ref_to a v) s e = lacks-no_step v s e
lacks-no_step (unknown h) s e = refl
lacks-no_step (map_of a ps us) (named name) e = refl
lacks-no_step (map_of a ps us) (item i) e = refl
lacks-no_step (map_of a ps us) (keyed key) e = none-is (entry_at ps key) e
lacks-no_step (raw c) s e = refl
lacks-no_step (rest r) s e = refl

pub no_value : AbsenceHasNoValue
no_value v [] e = absurd (cc)
no_value v (s ∷ []) e = ap (λ (o : Option Plain). onward o (λ u. at_path u [])) (lacks-no_step v s e)
no_value v (s ∷ t ∷ steps) e = go (step_at v s) e (λ u h. no_value u (t ∷ steps) h)
  where
    go : (o : Option Plain) → lacked_at o (λ u. names_absence u (t ∷ steps)) ≡ true
        → ((u : Plain) → names_absence u (t ∷ steps) ≡ true → at_path u (t ∷ steps) ≡ None)
        → onward o (λ u. at_path u (t ∷ steps)) ≡ None
    go None h further = refl
    go (Some u) h further = further u h

-- ---- what is known

as_named-value : (o : Option Plain) → as_named o ≡ Known → (u : Plain) × (o ≡ Some u)
as_named-value None e = absurd (cc)
as_named-value (Some u) e = (u, refl)

as_named-none : (o : Option Plain) → as_named o ≡ KnownAbsent → o ≡ None
as_named-none None e = refl
as_named-none (Some u) e = absurd (cc)

none-not_some : (o : Option Plain) (u : Plain) → o ≡ None → o ≡ Some u → ⊥
none-not_some o u a b = cc

knows_named : (v w : Plain) (path : List Stride) → known w path ≡ as_named (at_path v path) → NamesSomething v path
    → KnowsNamed v w path
knows_named v w path k (inl x) =
    let there : known w path ≡ Known = k ∙ ap as_named x.1 in
    record {
      either = inl there;
      value = ((λ e. x), (λ e. there));
      absence = (
        (λ e. absurd (none-not_some (at_path v path) x.0 (as_named-none (at_path v path) (sym k ∙ e)) x.1)),
        (λ e. absurd (none-not_some (at_path v path) x.0 (no_value v path e) x.1)),
      );
    }
knows_named v w path k (inr h) =
    let gone : known w path ≡ KnownAbsent = k ∙ ap as_named (no_value v path h) in
    record {
      either = inr gone;
      value = (
        (λ e. as_named-value (at_path v path) (sym k ∙ e)),
        (λ x. absurd (none-not_some (at_path v path) x.0 (no_value v path h) x.1)),
      );
      absence = ((λ e. h), (λ e. gone));
    }

pub named_known : NamedIsKnown
named_known schema names t c r lies paths i path at something =
    let v = plain_root r in
    let w = Blanked v (unkept paths (spots_of r)) in
    let same = blanks (unless_kept paths) r (root_apart schema names t c r lies) in
    knows_named v w path (ap (λ (x : Plain). known x path) same ∙ chosen_known paths i path at r) something
