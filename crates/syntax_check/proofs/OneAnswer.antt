-- No list of lexemes is both written and refused, and there is one first refusal.
use Rattle.std.proofs.Common.{◌≡◌, inl, inr, ℕ, zero, suc, ◌<◌, true, List, [], ◌∷◌, ◌++◌, length, Some, None, Ok, refl, sym, ap, ◌∙◌, subst, arith, length-append, append-nil, append_assoc}
use Rattle.tlb_syntax.specs.Lexeme.{Lexeme}
use Rattle.tlb_syntax.specs.Grammar.{Declarations}
use Rattle.tlb_syntax.specs.Written.{Grammar, form_of, Splits, ended, Exceeds, WithinCounts, ComesFirst, SchemaRefusal, WordRefusal, rank, unbounded, standard, syntax, deep_type, too_many_constructors, too_many_fields, too_many_params, Cause as Reason}
use Rattle.syntax_check.specs.Machine.{State, run, schema_start, is_schema_end}
use Rattle.syntax_check.specs.Judge.{Verdict, schema_verdict, word_verdict}
use Rattle.syntax_check.specs.Verdict.{cause_of, SchemaTaken, SchemaOneAnswer, WordTaken, WordOneAnswer, OneFirst}
use Rattle.syntax_check.proofs.WithoutCounts.{every, without}
use Rattle.syntax_check.proofs.RunResults.{results, results_on}
use Rattle.syntax_check.proofs.Completeness.{schema_runs, schema_results, word_runs}
use Rattle.syntax_check.proofs.Stepwise.{run_prefix, run_more, one_run}
use Rattle.syntax_check.proofs.NameCounts.{NamesWithinCounts, types_counts}
use Rattle.syntax_check.proofs.ResultNames.{results_more, results_without, named_form, end_without}
use Rattle.syntax_check.proofs.Prefixes.{Language, but_levels, but_items, but_params, runs_without, no_stop, no_excess}
use Rattle.syntax_check.proofs.FirstRefusal.{Plain}
use Rattle.syntax_check.proofs.ConstructorCounts.{schemas, can_end}
use Rattle.syntax_check.proofs.SchemaPrefix.{form_step}
use Rattle.syntax_check.proofs.TypeWords.{words, word_refused}
use Rattle.syntax_check.proofs.Schemas.{schema_refused}

split_below : (ls : List Lexeme) (place : ℕ) → Splits ls place → place < length ls
split_below ls place sp = omega (arith, sp.size, ap length sp.whole, length-append sp.prefix (sp.next ∷ sp.later))

-- ---- written within the bounds, and not refused

module _ {X : Type 0} {G : Grammar X} (l : Language G) where
  pub not_plain : (ls : List Lexeme) (st : State) → run standard (l.start standard) ls ≡ Ok st → l.is_end st ≡ true
      → (c : Reason) (place : ℕ) → Plain G ls c place → ⊥
  not_plain ls st e ends syntax place (inl s) = no_stop l standard ls ls [] st place e (sym (append-nil ls)) s
      (split_below ls place s.split)
  not_plain ls st e ends syntax place (inr s) =
      let w = l.soundness unbounded ls (without every st) (runs_without l every standard ls st e) (l.end_without every st
      ∙ ends) in
      s.not_yet w.0 w.1
  not_plain ls st e ends deep_type place s = no_excess l but_levels standard ls ls [] st place e (sym (append-nil ls))
      s (split_below ls place s.split)
  not_plain ls st e ends too_many_constructors place s = s
  not_plain ls st e ends too_many_fields place s = no_excess l but_items standard ls ls [] st place e
      (sym (append-nil ls)) s (split_below ls place s.split)
  not_plain ls st e ends too_many_params place s = no_excess l but_params standard ls ls [] st place e
      (sym (append-nil ls)) s (split_below ls place s.split)

-- a text within the counts is within them at each place
not_many : (ls : List Lexeme) (st : State) (place : ℕ) → run unbounded (schema_start unbounded) ls ≡ Ok st
    → is_schema_end st ≡ true → NamesWithinCounts (results unbounded (schema_start unbounded) ls) → Exceeds Declarations
    unbounded WithinCounts ls place → ⊥
not_many ls st place e ends counts x =
    let sp = x.split in
    let whole : ls ≡ (sp.prefix ++ sp.next ∷ []) ++ sp.later = sp.whole
    ∙ sym (append_assoc sp.prefix (sp.next ∷ []) sp.later) in
    let P : List Lexeme → Type 0 = λ z. run unbounded (schema_start unbounded) z ≡ Ok st in
    let far = run_prefix unbounded (schema_start unbounded) (sp.prefix ++ sp.next ∷ []) sp.later st (subst P whole e) in
    let near = run_prefix unbounded (schema_start unbounded) sp.prefix (sp.next ∷ []) far.0 far.1 in
    let one = one_run unbounded near.0 far.0 sp.next near.2 in
    let form = form_step sp.prefix near.0 far.0 sp.next near.1 one in
    let names = results_more unbounded sp.prefix sp.next (schema_start unbounded) near.0 far.0 near.1 one in
    let form_names = results_more unbounded sp.prefix (form_of sp.next) (schema_start unbounded) near.0 far.0 near.1 form
    in
    let same = form_names ∙ ap (λ z. results unbounded (schema_start unbounded) sp.prefix ++ z)
    (named_form near.0 sp.next) ∙ sym names in
    let all_names = ap (λ z. results unbounded (schema_start unbounded) z) whole ∙ results_on unbounded
    (schema_start unbounded) (sp.prefix ++ sp.next ∷ []) sp.later far.0 far.1
    ∙ ap (λ z. z ++ results unbounded far.0 sp.later) (sym same) in
    x.too_much (can_end (ended sp.prefix (form_of sp.next)) sp.later far.0 st (run_more unbounded (schema_start unbounded)
    near.0 far.0 sp.prefix (form_of sp.next) near.1 form) far.2 ends (subst NamesWithinCounts all_names counts))

pub schema_one_answer : SchemaOneAnswer
schema_one_answer ls s c place w counts refusal = go c refusal
  where
    k : (st : State) × (run standard (schema_start standard) ls ≡ Ok st) × (is_schema_end st ≡ true)
    k = schema_runs standard ls s w

    counts_names : NamesWithinCounts (results unbounded (schema_start unbounded) ls)
    counts_names =
        let same = results_without every standard ls (schema_start standard) k.0 k.1 ∙ schema_results standard ls s w in
        subst NamesWithinCounts (sym same) (types_counts s counts)

    go : (c : Reason) → SchemaRefusal ls c place → ⊥
    go syntax r = not_plain schemas ls k.0 k.1 k.2 syntax place r
    go deep_type r = not_plain schemas ls k.0 k.1 k.2 deep_type place r
    go too_many_constructors r = not_many ls (without every k.0) r.0 (runs_without schemas every standard ls k.0 k.1)
        (end_without every k.0 ∙ k.2) counts_names r.1
    go too_many_fields r = not_plain schemas ls k.0 k.1 k.2 too_many_fields place r
    go too_many_params r = not_plain schemas ls k.0 k.1 k.2 too_many_params place r

pub word_one_answer : WordOneAnswer
word_one_answer ls e c place w refusal = go c refusal
  where
    k : (st : State) × (run standard (words.start standard) ls ≡ Ok st) × (words.is_end st ≡ true)
    k = word_runs standard ls e w

    go : (c : Reason) → WordRefusal ls c place → ⊥
    go syntax r = not_plain words ls k.0 k.1 k.2 syntax place r
    go deep_type r = not_plain words ls k.0 k.1 k.2 deep_type place r
    go too_many_constructors r = r
    go too_many_fields r = not_plain words ls k.0 k.1 k.2 too_many_fields place r
    go too_many_params r = r

pub schema_taken : SchemaTaken
schema_taken ls s w counts = go (schema_verdict ls) refl
  where
    go : (v : Verdict) → schema_verdict ls ≡ v → schema_verdict ls ≡ None
    go None e = e
    go (Some refusal) e = absurd (schema_one_answer ls s (cause_of refusal.0) refusal.1 w counts
        (schema_refused ls refusal.0 refusal.1 e).refused)

pub word_taken : WordTaken
word_taken ls x w = go (word_verdict ls) refl
  where
    go : (v : Verdict) → word_verdict ls ≡ v → word_verdict ls ≡ None
    go None e = e
    go (Some refusal) e = absurd (word_one_answer ls x (cause_of refusal.0) refusal.1 w
        (word_refused ls refusal.0 refusal.1 e).refused)

-- ---- one first refusal

abbrev of_rank : ℕ → Reason
of_rank zero = deep_type
of_rank (suc zero) = too_many_constructors
of_rank (suc (suc zero)) = too_many_fields
of_rank (suc (suc (suc zero))) = too_many_params
of_rank _ = syntax

of_its_rank : (c : Reason) → of_rank (rank c) ≡ c
of_its_rank syntax = refl
of_its_rank deep_type = refl
of_its_rank too_many_constructors = refl
of_its_rank too_many_fields = refl
of_its_rank too_many_params = refl

pub same_rank : (c d : Reason) → rank c ≡ rank d → c ≡ d
same_rank c d e = sym (of_its_rank c) ∙ ap of_rank e ∙ of_its_rank d

pub one_first : (Refusal : Reason → ℕ → Type 0) → OneFirst Refusal
one_first Refusal c d place other x y = go (x.first d other y.refused) (y.first c place x.refused)
  where
    go : ComesFirst place c other d → ComesFirst other d place c → (c ≡ d) × (place ≡ other)
    go (inl a) (inl b) = absurd (omega arith)
    go (inl a) (inr b) = absurd (omega (arith, b.0))
    go (inr a) (inl b) = absurd (omega (arith, a.0))
    go (inr a) (inr b) = (same_rank c d (omega (arith, a.1, b.1)), a.0)
