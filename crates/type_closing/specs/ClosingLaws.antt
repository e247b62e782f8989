-- A closed type that is named without a fault is one of the schema.
use Rattle.std.proofs.Common.{◌≡◌, ℕ, ◌+◌, ◌<◌, ◌^◌, ap, sym, ◌∙◌, subst, List, [], ◌∷◌, length, refl, Bool, true}
use Rattle.std.proofs.Common.{false, cond, drop, Some, None, arith}
use Rattle.std.specs.Prelude.{Option, option_map, nat_eq, nat_lt, not, if◌then◌else◌}
use Rattle.std.proofs.lemmas.Bool.{eqb-true, ltb-true}
use Rattle.tlb_syntax.specs.Lexeme.{decimal_onto, number_of}
use Rattle.tlb_syntax.specs.Limits.{IsExpr, AreExprs}
use Rattle.tlb_syntax.specs.Tree.{ExprView, ExprList, lit, named, nat32, bits, below, up_to, plus, star, out, ref}
use Rattle.tlb_syntax.specs.Tree.{group, no_exprs, an_expr}
use Rattle.kind_terms.specs.declared.kind.TermKind.{TermKind}
use Rattle.kind_terms.specs.declared.kind.TermKind.TheVariants.{NumberIn, TypeIn, NumberOut, NoKind}
use Rattle.kind_terms.specs.declared.words.Family.{Family}
use Rattle.kind_terms.specs.declared.words.Family.TheVariants.{Uint, Int, Bits}
use Rattle.kind_terms.specs.declared.words.WordClass.{WordClass}
use Rattle.kind_terms.specs.declared.words.WordClass.TheVariants.{TypeWord, Any, Cell, Sized, Numbered, Hashmap}
use Rattle.kind_terms.specs.declared.words.WordClass.TheVariants.{HashmapE, HashmapNode, Free}
use Rattle.kind_terms.specs.Words.{Word, family_word}
use Rattle.kind_terms.specs.Classes.{word_class}
use Rattle.kind_terms.specs.Params.{has_outputs}
use Rattle.kind_terms.specs.Types.{TypeNamed, no_type, basic, declared, parameters, count}
use Rattle.closed_type.specs.View.{AnArg, number, type, onto}
use Rattle.core_form.specs.Core.{Parameter, CoreSchema, number_in, type_in, number_out, no_parameter}
use Rattle.core_form.specs.Closed.{Closed, ClosedArgs, ClosedOf, AreClosedOf, AreInputs, AreInputsOf, parameters_of}
use Rattle.type_closing.specs.Closing.{an_arg, args_of, closed_by, closed_of, first_number, first_type, second_type}
use Rattle.type_closing.specs.Closing.{literal, number_or_0, of_family, width_of}
use Rattle.type_closing.specs.Faults.{DeclaredKinds, Fault, first_of, first_kind, later_kinds, name_fault, number_fault}
use Rattle.type_closing.specs.Faults.{arity, output, argument_fault, arguments_fault, type_fault, type_by, type_called}
use Rattle.type_closing.specs.Faults.{declared_as}
use Rattle.type_closing.specs.Laws.{ClosingIsClosed, Declares, parameters_by}

-- ---- small numbers

literal_small : (e : ExprView) → IsExpr e → literal e < 2 ^ 32
literal_small (lit n) h = h
literal_small (named x es) h = omega arith
literal_small nat32 h = omega arith
literal_small (bits es) h = omega arith
literal_small (below es) h = omega arith
literal_small (up_to es) h = omega arith
literal_small (plus a b) h = omega arith
literal_small (star a b) h = omega arith
literal_small (out e) h = omega arith
literal_small (ref e) h = omega arith
literal_small (group is) h = omega arith

first_small : (es : ExprList) → AreExprs es → first_number es < 2 ^ 32
first_small no_exprs h = omega arith
first_small (an_expr e es) h = literal_small e h.0

number_small : (ds : List ℕ) → number_or_0 (number_of ds) < 2 ^ 32
number_small ds = cases (nat_lt (decimal_onto 0 ds) (2 ^ 32)) refl
  where
    cases : (b : Bool) → nat_lt (decimal_onto 0 ds) (2 ^ 32) ≡ b
        → number_or_0 (cond b (Some (decimal_onto 0 ds)) None) < 2 ^ 32
    cases true e = ltb-true (decimal_onto 0 ds) (2 ^ 32) e
    cases false e = omega arith

family_closed : (s : CoreSchema) (f : Family) (n : ℕ) → n < 2 ^ 32 → ClosedOf s (of_family f n)
family_closed s Uint n h = h
family_closed s Int n h = h
family_closed s Bits n h = h

-- ---- none of two

none_first : (f g : Option Fault) → first_of f g ≡ None → f ≡ None
none_first None g h = refl
none_first (Some f) g h = cc

none_later : (f g : Option Fault) → first_of f g ≡ None → g ≡ None
none_later None g h = h
none_later (Some f) g h = cc

-- ---- an argument

number_alone : (d : DeclaredKinds) (h : Option Word) (most : ℕ) (e : ExprView) (t : Closed)
    → number_fault d h most e ≡ None
    → number (literal e) ≡ an_arg e t
number_alone d h most (lit n) t f = refl
number_alone d h most (named x es) t f = cc
number_alone d h most nat32 t f = cc
number_alone d h most (bits es) t f = cc
number_alone d h most (below es) t f = cc
number_alone d h most (up_to es) t f = cc
number_alone d h most (plus a b) t f = cc
number_alone d h most (star a b) t f = cc
number_alone d h most (out e) t f = cc
number_alone d h most (ref e) t f = cc
number_alone d h most (group is) t f = cc

type_alone : (d : DeclaredKinds) (h : Option Word) (e : ExprView) (t : Closed) → type_fault d h e ≡ None
    → type t ≡ an_arg e t
type_alone d h (lit n) t f = cc
type_alone d h (named x es) t f = refl
type_alone d h nat32 t f = refl
type_alone d h (bits es) t f = refl
type_alone d h (below es) t f = refl
type_alone d h (up_to es) t f = refl
type_alone d h (plus a b) t f = refl
type_alone d h (star a b) t f = refl
type_alone d h (out e) t f = refl
type_alone d h (ref e) t f = refl
type_alone d h (group is) t f = refl

-- arguments at these parameters, and each of the schema
abbrev AreArguments : CoreSchema → List TermKind → ClosedArgs → Type 0
AreArguments s ks args = AreInputs (parameters_by ks) args × AreClosedOf s args

one_argument : (s : CoreSchema) (d : DeclaredKinds) (h : Option Word) (k : TermKind) (ks : List TermKind)
    (e : ExprView) (rest : ClosedArgs)
    → IsExpr e → argument_fault d h k e (type_fault d h e) ≡ None → (type_fault d h e ≡ None → ClosedOf s (closed_of e))
    → AreArguments s ks rest → AreArguments s (k ∷ ks) (onto (an_arg e (closed_of e)) rest)
one_argument s d h (NumberIn most) ks e rest is f closes later =
    let P : AnArg → Type 0 = λ a. AreArguments s (NumberIn most ∷ ks) (onto a rest) in
    subst P (number_alone d h most e (closed_of e) f) (later.0, (literal_small e is, later.1))
one_argument s d h TypeIn ks e rest is f closes later =
    let P : AnArg → Type 0 = λ a. AreArguments s (TypeIn ∷ ks) (onto a rest) in
    subst P (type_alone d h e (closed_of e) f) (later.0, (closes f, later.1))
one_argument s d h NumberOut ks e rest is f closes later = cc
one_argument s d h NoKind ks e rest is f closes later = cc

no_parameters : (s : CoreSchema) (ks : List TermKind) → 0 ≡ length ks → AreArguments s ks (args_of no_exprs)
no_parameters s [] h = (tt, tt)
no_parameters s (k ∷ ks) h = absurd (omega (arith, h))

-- ---- names

-- what is known of the arguments of a name
pub record Arguments (s : CoreSchema) (d : DeclaredKinds) (x : Word) (es : ExprList) : Type 0 where
  pub first : first_number es < 2 ^ 32
  pub second : arguments_fault d (Some x) (NumberIn 1023 ∷ TypeIn ∷ []) es ≡ None → ClosedOf s (second_type es)
  pub all : (ks : List TermKind) → count es ≡ length ks → arguments_fault d (Some x) ks es ≡ None
      → AreArguments s ks (args_of es)

declared_closed : (s : CoreSchema) (d : DeclaredKinds) (x : Word) (es : ExprList) (k : Option (List TermKind))
    → option_map parameters_by k ≡ parameters_of s x → Arguments s d x es
    → first_of (name_fault (declared_as k) x (count es)) (arguments_fault d (Some x) (parameters (declared_as k)) es)
    ≡ None
    → AreInputsOf (parameters_of s x) (args_of es) × AreClosedOf s (args_of es)
declared_closed s d x es None is known f = cc
declared_closed s d x es (Some ks) is known f = cases (nat_eq (count es) (length ks)) refl f
  where
    P : Option (List Parameter) → Type 0
    P o = AreInputsOf o (args_of es) × AreClosedOf s (args_of es)

    cases : (b : Bool) → nat_eq (count es) (length ks) ≡ b
        → first_of (cond (not b) (Some (arity x)) (cond (has_outputs ks) (Some (output x)) None))
        (arguments_fault d (Some x) ks es) ≡ None
        → P (parameters_of s x)
    cases true e f = subst P is (known.all ks (eqb-true (count es) (length ks) e) (none_later _ _ f))
    cases false e f = cc

named_closed : (s : CoreSchema) (d : DeclaredKinds) (x : Word) (es : ExprList) (w : WordClass) → Declares d s
    → Arguments s d x es
    → first_of (name_fault (type_by d x w) x (count es)) (arguments_fault d (Some x) (parameters (type_by d x w)) es)
    ≡ None
    → ClosedOf s (closed_by w x (first_number es) (second_type es) (args_of es))
named_closed s d x es TypeWord is known f = tt
named_closed s d x es Any is known f = tt
named_closed s d x es Cell is known f = tt
named_closed s d x es (Sized g) is known f = family_closed s g _ known.first
named_closed s d x es (Numbered g) is known f =
    family_closed s g (width_of g x) (number_small (drop (length (family_word g)) x))
named_closed s d x es Hashmap is known f = (known.first, known.second (none_later _ _ f))
named_closed s d x es HashmapE is known f = (known.first, known.second (none_later _ _ f))
named_closed s d x es HashmapNode is known f = tt
named_closed s d x es Free is known f = declared_closed s d x es (d x) (is x) known f

-- ---- expressions

mutual
  pub closing : (s : CoreSchema) (d : DeclaredKinds) (h : Option Word) (e : ExprView) → Declares d s → IsExpr e
      → type_fault d h e ≡ None → ClosedOf s (closed_of e)
  closing s d h nat32 is w f = tt
  closing s d h (bits es) is w f = first_small es w.1
  closing s d h (below es) is w f = first_small es w.1
  closing s d h (up_to es) is w f = first_small es w.1
  closing s d h (star a b) is w f = (literal_small a w.0, closing s d None b is w.1 (none_later _ _ f))
  closing s d h (ref e) is w f = closing s d None e is w f
  closing s d h (named x es) is w f =
      named_closed s d x es (word_class x) is (record {
        first = first_small es w.1;
        second = second_closed s d (Some x) es is w.1;
        all = λ ks size none. arguments_closed s d (Some x) ks es is w.1 size none;
      }) f
  closing s d h (lit n) is w f = tt
  closing s d h (plus a b) is w f = tt
  closing s d h (out e) is w f = tt
  closing s d h (group is) declares w f = tt

  arguments_closed : (s : CoreSchema) (d : DeclaredKinds) (h : Option Word) (ks : List TermKind) (es : ExprList)
      → Declares d s
      → AreExprs es → count es ≡ length ks → arguments_fault d h ks es ≡ None → AreArguments s ks (args_of es)
  arguments_closed s d h ks no_exprs is w size f = no_parameters s ks size
  arguments_closed s d h [] (an_expr e es) is w size f = absurd (omega (arith, size))
  arguments_closed s d h (k ∷ ks) (an_expr e es) is w size f =
      one_argument s d h k ks e (args_of es) w.0 (none_first _ _ f) (λ g. closing s d h e is w.0 g)
      (let rest : count es ≡ length ks = omega (arith, size) in
      arguments_closed s d h ks es is w.1 rest (none_later _ _ f))

  first_closed : (s : CoreSchema) (d : DeclaredKinds) (h : Option Word) (ks : List TermKind) (es : ExprList)
      → Declares d s → AreExprs es
      → arguments_fault d h (TypeIn ∷ ks) es ≡ None → ClosedOf s (first_type es)
  first_closed s d h ks no_exprs is w f = tt
  first_closed s d h ks (an_expr e es) is w f = closing s d h e is w.0 (none_first _ _ f)

  second_closed : (s : CoreSchema) (d : DeclaredKinds) (h : Option Word) (es : ExprList) → Declares d s → AreExprs es
      → arguments_fault d h (NumberIn 1023 ∷ TypeIn ∷ []) es ≡ None → ClosedOf s (second_type es)
  second_closed s d h no_exprs is w f = tt
  second_closed s d h (an_expr e es) is w f = first_closed s d h [] es is w.1 (none_later _ _ f)

pub closing_is_closed : ClosingIsClosed
closing_is_closed s d e is w f = closing s d None e is w f
