-- Each stage comes to exactly one answer.
use Rattle.std.proofs.Common.{◌≡◌, ◌⊎◌, inl, inr, ◌∙◌, ap, sym, subst, refl, arith, ℕ, List, [], ◌∷◌}
use Rattle.std.proofs.Common.{Option, None, Some, Result, Ok, Err}
use Rattle.tlb_edge.specs.Files.{Name}
use Rattle.bag_cells.specs.Bag.{BagHolds, BagRefused}
use Rattle.bag_cells.specs.declared.error.BagError.{BagError}
use Rattle.cell_nodes.specs.declared.tree.Mode.{Mode}
use Rattle.cell_nodes.specs.declared.tree.Tree.{Tree}
use Rattle.kind_declarations.specs.Faults.{first}
use Rattle.tlb_grammar.specs.Answer.{Refuses}
use Rattle.tlb_grammar.specs.declared.error.GrammarError.{GrammarError}
use Rattle.tlb_kinds.specs.RefusalLaws.{refused_not_kinded}
use Rattle.tlb_kinds.specs.Refusals.{IsKinded, kept_of, refusals}
use Rattle.tlb_kinds.specs.declared.error.KindError.{KindError}
use Rattle.tlb_syntax.specs.Limits.{IsWithinLimits}
use Rattle.tlb_syntax.specs.Tree.{SchemaView}
use Rattle.tlb_syntax.specs.Written.{Writes}
use Rattle.typed_value.specs.Values.{Plain}
use Rattle.core_form.specs.Closed.{Closed}
use Rattle.core_form.specs.Core.{Word}
use Rattle.spelling.specs.Places.{Place}
use Rattle.spelling.specs.Spells.{Reading}
use Rattle.spelling.specs.Stuck.{Stuck}
use Rattle.spelling_laws.specs.Laws.{ExactlyOne}
use Rattle.accepted_spelling.specs.Laws.{ReadOrStuck}
use Rattle.tlb_syntax.specs.Text.{expr_text}
use Rattle.type_word.specs.InSchema.{ResolvesIn, kinds_of}
use Rattle.type_word.specs.declared.error.TypeError.{TypeError}
use Rattle.schema_leads.specs.Tags.{cores}
use Rattle.accepted_schema.specs.Accepted.{IsAccepted}
use Rattle.accepted_schema.specs.Refusals.{TagRefusal, tag_too_long, ambiguous, first_of, first_tag_refusal, tag_refusals}
use Rattle.tag_ambiguity.specs.Judged.{refusal_by}
use Rattle.tag_ambiguity.specs.declared.error.TagError.{TagError}
use Rattle.tag_ambiguity.specs.declared.error.TagError.TheVariants.{TagTooLong, Ambiguous, NoMemory as NoTagMemory}
use Rattle.cli_refusals.specs.Lines.{spot_text}
use Rattle.cli_refusals.specs.Refusal.{Refusal, schema, type_word, bag, cell, status_of}
use Rattle.cli_refusals.specs.declared.refusal.SchemaCause.TheVariants.{Text, Kinds as ByKinds, Tags as ByTags}
use Rattle.cli_stages.specs.Bag.{Bag, RefusesBag}
use Rattle.cli_stages.specs.Cell.{Cell, RefusesCell}
use Rattle.cli_stages.specs.Kinds.{Kinds, RefusesKinds}
use Rattle.cli_stages.specs.Schema.{IsWhole, Schema}
use Rattle.cli_stages.specs.SchemaText.{SchemaText, RefusesText}
use Rattle.cli_stages.specs.Stage.{stage, IsAnswered, IsStageStatus, IsOnce, IsStage}
use Rattle.cli_stages.specs.StageLaws.{next-stage}
use Rattle.cli_stages.specs.Tags.{Tags, RefusesTags}
use Rattle.cli_stages.specs.TypeWord.{NamesType, RefusesWord, ShownType, TypeWord}
use Rattle.cli_stages.proofs.Layers.{Bags, Schemas, Texts, Words}
use Rattle.cli_stages.proofs.Named.{expr_of, never_named}

some-same : {X : Type 0} (d e : X) (o : Option X) → o ≡ Some d → o ≡ Some e → d ≡ e
some-same d e o a b = let same : Some d ≡ Some e = sym a ∙ b in cc

none-some : {X : Type 0} (d : X) (o : Option X) → o ≡ None → o ≡ Some d → ⊥
none-some d o a b = let same : None ≡ Some d = sym a ∙ b in grind arith

pub judged-as : (r s : Refusal) → r ≡ s → IsStageStatus (status_of s) → IsStageStatus (status_of r)
judged-as r s is holds = let P : Refusal → Type 0 = λ x. IsStageStatus (status_of x) in subst P (sym is) holds

-- a stage of one refusal or one result
pub stage-once : {X : Type 0} (refuses : Refusal → Type 0) (gives : X → Type 0) → ((r s : Refusal) → refuses r → refuses s → r ≡ s)
    → ((x y : X) → gives x → gives y → x ≡ y) → ((r : Refusal) (x : X) → refuses r → gives x → ⊥) → IsOnce (stage refuses gives)
stage-once refuses gives one_refusal one_result never_both (Ok x) (Ok y) a b = ap Ok (one_result x y a b)
stage-once refuses gives one_refusal one_result never_both (Ok x) (Err r) a b = absurd (never_both r x b a)
stage-once refuses gives one_refusal one_result never_both (Err r) (Ok x) a b = absurd (never_both r x a b)
stage-once refuses gives one_refusal one_result never_both (Err r) (Err s) a b = ap Err (one_refusal r s a b)

-- ---- a schema's text

text-some : (text : List ℕ) → ((s : SchemaView) × Writes text s) ⊎ ((e : GrammarError) × Refuses text e)
    → IsAnswered (SchemaText text)
text-some text (inl h) = (Ok h.0, h.1)
text-some text (inr h) = (Err _, (h.0, h.1, refl))

text-stage : Texts → (text : List ℕ) → IsStage (SchemaText text)
text-stage laws text = record {
  once = stage-once (RefusesText text) _
      (λ r s a b. a.2 ∙ ap (λ e. schema (Text e)) (laws.refused text a.0 b.0 a.1 b.1) ∙ sym b.2)
      (λ s t a b. laws.written text s t a b)
      (λ r s a b. laws.not_both text s a.0 b a.1);
  answered = text-some text (laws.some text);
  refuses = λ r given. judged-as r _ given.2 tt;
}

-- ---- its kinds

kinds-by : (es : List KindError) → (es ≡ []) ⊎ ((e : KindError) × (first es ≡ Some e))
kinds-by [] = inl refl
kinds-by (e ∷ es) = inr (e, refl)

kinds-some : (s : SchemaView) → (refusals s ≡ []) ⊎ ((e : KindError) × (first (refusals s) ≡ Some e)) → IsAnswered (Kinds s)
kinds-some s (inl is) = (Ok (kept_of s), (is, refl))
kinds-some s (inr h) = (Err _, (h.0, h.1, refl))

kinds-stage : (s : SchemaView) → IsStage (Kinds s)
kinds-stage s = record {
  once = stage-once (RefusesKinds s) _
      (λ r t a b. a.2 ∙ ap (λ e. schema (ByKinds e)) (some-same a.0 b.0 _ a.1 b.1) ∙ sym b.2)
      (λ k l a b. a.1 ∙ sym b.1)
      (λ r kept a b. refused_not_kinded s a.0 a.1 b.0);
  answered = kinds-some s (kinds-by (refusals s));
  refuses = λ r given. judged-as r _ given.2 tt;
}

-- ---- its tags

too-long-same : (x c : Word) (f : TagError) → Some (tag_too_long x c) ≡ refusal_by f → TagTooLong x c ≡ f
too-long-same x c (TagTooLong y d) is = cc
too-long-same x c (Ambiguous y d e) is = cc
too-long-same x c NoTagMemory is = cc

ambiguous-same : (x c d : Word) (f : TagError) → Some (ambiguous x c d) ≡ refusal_by f → Ambiguous x c d ≡ f
ambiguous-same x c d (TagTooLong y e) is = cc
ambiguous-same x c d (Ambiguous y e g) is = cc
ambiguous-same x c d NoTagMemory is = cc

errors-same : (e f : TagError) → (e ≡ NoTagMemory → ⊥) → refusal_by e ≡ refusal_by f → e ≡ f
errors-same (TagTooLong x c) f ne is = too-long-same x c f is
errors-same (Ambiguous x c d) f ne is = ambiguous-same x c d f is
errors-same NoTagMemory f ne is = absurd (ne refl)

tags-same : (s : SchemaView) (r q : Refusal) → RefusesTags s r → RefusesTags s q → r ≡ q
tags-same s r q a b =
    let same : a.0 ≡ b.0 = errors-same a.0 b.0 a.1.is_refusal (sym a.1.first ∙ b.1.first) in
    a.1.is ∙ ap (λ e. schema (ByTags e)) same ∙ sym b.1.is

reported-none : (rs : List TagRefusal) (e : TagError) → rs ≡ [] → (e ≡ NoTagMemory → ⊥) → first_of rs ≡ refusal_by e → ⊥
reported-none rs (TagTooLong x c) none ne is = let same : None ≡ Some (tag_too_long x c) = sym (ap first_of none) ∙ is in cc
reported-none rs (Ambiguous x c d) none ne is = let same : None ≡ Some (ambiguous x c d) = sym (ap first_of none) ∙ is in cc
reported-none rs NoTagMemory none ne is = ne refl

refused-by : (s : SchemaView) (r : TagRefusal) → first_tag_refusal (cores s) ≡ Some r → (q : Refusal) × RefusesTags s q
refused-by s (tag_too_long x c) is =
    (schema (ByTags (TagTooLong x c)), (TagTooLong x c, record { is_refusal = λ same. cc; first = is; is = refl }))
refused-by s (ambiguous x c d) is =
    (schema (ByTags (Ambiguous x c d)), (Ambiguous x c d, record { is_refusal = λ same. cc; first = is; is = refl }))

tags-by : (s : SchemaView) → IsAccepted s ⊎ ((r : TagRefusal) × (first_tag_refusal (cores s) ≡ Some r)) → IsAnswered (Tags s)
tags-by s (inl accepted) = (Ok s, (accepted, refl))
tags-by s (inr h) = let found = refused-by s h.0 h.1 in (Err found.0, found.1)

-- what the stages before give: within the limits, without a refusal by its kinds, and nothing in it is passed over
pub record IsJudgedByKinds (s : SchemaView) : Type 0 where
  pub within : IsWithinLimits s
  pub kinded : IsKinded s
  pub kept : kept_of s ≡ s

tags-some : Schemas → (s : SchemaView) → IsJudgedByKinds s → IsAnswered (Tags s)
tags-some laws s is =
    let P : SchemaView → Type 0 = λ x. IsAccepted s ⊎ ((r : TagRefusal) × (first_tag_refusal (cores x) ≡ Some r)) in
    tags-by s (subst P is.kept (laws.accepted_or_refused s is.within is.kinded))

no-refusal : Schemas → (s : SchemaView) → kept_of s ≡ s → IsAccepted s → tag_refusals (cores s) ≡ []
no-refusal laws s kept accepted =
    let P : SchemaView → Type 0 = λ x. tag_refusals (cores x) ≡ [] in subst P kept (laws.has_no_refusal s accepted)

tags-stage : Schemas → (s : SchemaView) → IsJudgedByKinds s → IsStage (Tags s)
tags-stage laws s is = record {
  once = stage-once (RefusesTags s) _ (tags-same s) (λ k l a b. a.1 ∙ sym b.1)
      (λ r accepted a b. reported-none (tag_refusals (cores s)) a.0 (no-refusal laws s is.kept b.0) a.1.is_refusal a.1.first);
  answered = tags-some laws s is;
  refuses = λ r given. judged-as r _ given.1.is tt;
}

-- ---- all three

kept-judged : Schemas → (text : List ℕ) (tree kept : SchemaView) → Writes text tree → Kinds tree (Ok kept) → IsJudgedByKinds kept
kept-judged laws text tree kept writes given =
    let P : SchemaView → Type 0 = IsJudgedByKinds in
    subst P (sym given.1) (record {
      within = laws.stays_within tree (laws.within text tree writes);
      kinded = laws.stays_kinded tree given.0;
      kept = laws.passed_over tree;
    })

pub schema-stage : Texts → Schemas → (text : List ℕ) → IsStage (Schema text)
schema-stage texts laws text =
    next-stage (text-stage texts text) (λ tree writes.
    next-stage (kinds-stage tree) (λ kept given.
    tags-stage laws kept (kept-judged laws text tree kept writes given)))

-- ---- a type word

words-same : (e f : TypeError) → (◌≡◌ {A = Result Closed TypeError} (Err e) (Err f)) → e ≡ f
words-same e f is = cc

types-same : (t u : Closed) → (◌≡◌ {A = Result Closed TypeError} (Ok t) (Ok u)) → t ≡ u
types-same t u is = cc

shown-same : (s t : ShownType) → s.closed ≡ t.closed → s.text ≡ t.text → s ≡ t
shown-same s t closed text = λ i. record { closed = closed i; text = text i }

word-answer : Words → (word : Name) (s : SchemaView) (r : Result Closed TypeError) → ResolvesIn s word r
    → IsAnswered (TypeWord word s)
word-answer laws word s (Ok t) is =
    let found = expr_of s word t is in (
      Ok (record { closed = t; text = expr_text found.0 }),
      record { resolved = is; expr = found.0; writes = found.1; shown = refl },
    )
word-answer laws word s (Err e) is =
    let P : TypeError → Type 0 = λ x. ResolvesIn s word (Err x) in (
      Err (type_word e),
      record { error = e; is_refusal = λ same. laws.memory _ word (subst P same is); refused = is; is = refl },
    )

pub word-stage : Words → (word : Name) (s : SchemaView) → IsStage (TypeWord word s)
word-stage laws word s = record {
  once = stage-once (RefusesWord word s) (NamesType word s)
      (λ r q a b. a.is ∙ ap type_word (words-same a.error b.error (laws.one _ word _ _ a.refused b.refused)) ∙ sym b.is)
      (λ t u a b. shown-same t u (types-same t.closed u.closed (laws.one _ word _ _ a.resolved b.resolved))
      (a.shown ∙ ap expr_text (laws.written word a.expr b.expr a.writes b.writes) ∙ sym b.shown))
      (λ r t a b. never_named t.closed a.error (laws.one _ word _ _ b.resolved a.refused));
  answered = let some = laws.some (kinds_of s) word in word-answer laws word s some.0 some.1;
  refuses = λ r given. judged-as r _ given.is tt;
}

-- ---- a bag

bag-some : (file : List ℕ) → ((t : Tree) × BagHolds file t) ⊎ ((e : BagError) × BagRefused file e) → IsAnswered (Bag file)
bag-some file (inl h) = (Ok h.0, h.1)
bag-some file (inr h) = (Err _, (h.0, h.1, refl))

pub bag-stage : Bags → (file : List ℕ) → IsStage (Bag file)
bag-stage laws file = record {
  once = stage-once (RefusesBag file) _
      (λ r s a b. a.2 ∙ ap bag (laws.refused file a.0 b.0 a.1 b.1) ∙ sym b.2)
      (λ t u a b. laws.tree file t u a b)
      (λ r t a b. laws.not_both file t a.0 b a.1);
  answered = bag-some file (laws.some file);
  refuses = λ r given. judged-as r _ given.2 tt;
}

-- ---- a cell

cell-some : (mode : Mode) (s : SchemaView) (type : ShownType) (t : Tree)
    → ((v : Plain) × Reading mode (cores s) type.closed t v) ⊎ ((p : Place) × Stuck mode (cores s) type.closed t p)
    → IsAnswered (Cell mode s type t)
cell-some mode s type t (inl h) = (Ok h.0, h.1)
cell-some mode s type t (inr h) = (Err _, record { place = h.0; stuck = h.1; is = refl })

cell-refused : (s : SchemaView) (type : ShownType) (p q : Place) → p ≡ q
    → cell (spot_text (cores s) type.text p.spot) p.cause ≡ cell (spot_text (cores s) type.text q.spot) q.cause
cell-refused s type p q same = ap (λ (x : Place). cell (spot_text (cores s) type.text x.spot) x.cause) same

pub cell-stage : ReadOrStuck → (mode : Mode) (s : SchemaView) (type : ShownType) (t : Tree) → IsWhole s
    → IsStage (Cell mode s type t)
cell-stage laws mode s type t whole =
    let P : SchemaView → Type 0 = λ x. ExactlyOne mode (cores x) type.closed t in
    let one = subst P whole.kept (laws mode s whole.accepted type.closed t) in
    record {
      once = stage-once (RefusesCell mode s type t) (Reading mode (cores s) type.closed t)
          (λ r q a b. a.is ∙ cell-refused s type a.place b.place (one.one_place a.place b.place a.stuck b.stuck) ∙ sym b.is)
          (λ v w a b. one.one_reading v w a b)
          (λ r v a b. one.not_both v a.place b a.stuck);
      answered = cell-some mode s type t one.some;
      refuses = λ r given. judged-as r _ given.is tt;
    }
