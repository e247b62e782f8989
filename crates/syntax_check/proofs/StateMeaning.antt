-- What a state of the machine means for the lexemes that are left, where a run over them ends well.
use Rattle.std.proofs.Common.{◌≡◌, ◌≤◌, ℕ, Bool, true, false, List, [], ◌∷◌, Option, Some}
use Rattle.tlb_syntax.specs.declared.sign.Sign.{Sign}
use Rattle.nat_solver.specs.declared.compare.Op.{Op}
use Rattle.tlb_syntax.specs.declared.sign.Sign.TheVariants.{Colon, Semicolon, Equal, CloseParen, OpenBrace, CloseBrace, CloseBracket, Question}
use Rattle.tlb_syntax.specs.Lexeme.{Lexeme, word, blank, number, sign}
use Rattle.tlb_syntax.specs.Tree.{ExprView, ExprList, ItemView, ItemList, TypeView, ConstructorView, SchemaView}
use Rattle.tlb_syntax.specs.Grammar.{Count, Bounds, Compares, Heads, Term, Terms, Apply, Product, Sum, Addends, Typed, AnItem, Items, Params, Declared, Declarations}
use Rattle.syntax_check.specs.declared.machine.Side.{Side}
use Rattle.syntax_check.specs.declared.machine.Side.TheVariants as sides
use Rattle.syntax_check.specs.declared.machine.Spot.{Spot}
use Rattle.syntax_check.specs.declared.machine.ParserState.{ParserState}
use Rattle.syntax_check.specs.declared.machine.ParserState.TheVariants as modes
use Rattle.syntax_check.specs.declared.machine.Frame.{Frame}
use Rattle.syntax_check.specs.declared.machine.Frame.TheVariants as frames
use Rattle.syntax_check.specs.Machine.{given_to}

-- ---- parts of a sum

-- an operand, after `*` or not, with what is joined to it by `*`
abbrev pub Factor : Bounds → Count → Bool → List Lexeme → ExprView → List Lexeme → Type 0
Factor m d false s e r = Product m d s e r
Factor m d true s e r = Apply m d s e r

-- from s to r the lexemes complete what an operand before them begins
abbrev pub Completes : Bounds → Count → Bool → List Lexeme → List Lexeme → Type 0
Completes m d b s r =
    (prefix : List Lexeme) → (a : ExprView) → Apply m d prefix a s → (e : ExprView) × Factor m d b prefix e r

-- from s to r the lexemes are further addends
abbrev pub Adds : Bounds → Count → List Lexeme → List Lexeme → Type 0
Adds m d s r = (a : ExprView) → (e : ExprView) × Addends m d a s e r

-- ---- the end of a schema

-- the result of a declaration, and the further declarations
pub data Resulted (m : Bounds) : List Lexeme → Type 0 where
  resulted : {y : List ℕ} {s r : List Lexeme} {es : ExprList} {cs : SchemaView}
      → Params m m.params s es (sign Semicolon ∷ r) → Declarations m r cs → Resulted m (word y ∷ s)

-- in no brackets, with every level still to be opened
abbrev pub IsOutside : Bounds → Count → List Frame → Type 0
IsOutside m lv below = (lv ≡ m.levels) × (below ≡ [])

-- ---- states

mutual
  -- from the end of a sum
  pub data EndsSum (m : Bounds) : Side → Count → List Frame → List Lexeme → Type 0 where
    paren_ends : {lv outer : Count} {spot : Spot} {below : List Frame} {r : List Lexeme}
        → Means m (given_to spot) outer below r
        → EndsSum m sides.Paren lv (frames.Paren spot outer ∷ below) (sign CloseParen ∷ r)
    left_ends : {k lv : Count} {below : List Frame} {mid r : List Lexeme} {c : Sign} {op : Op} {b : ExprView}
        → Compares c op → Sum m lv mid b (sign CloseBrace ∷ r) → Means m (modes.Items k) lv below r
        → EndsSum m (sides.Left k) lv below (sign c ∷ mid)
    right_ends : {k lv : Count} {below : List Frame} {r : List Lexeme} → Means m (modes.Items k) lv below r
        → EndsSum m (sides.Right k) lv below (sign CloseBrace ∷ r)
    word_ends : {lv : Count} {below : List Frame} → EndsSum m sides.Word lv below []

  -- from the end of a record
  pub data EndsItems (m : Bounds) : Count → List Frame → List Lexeme → Type 0 where
    record_ends : {lv outer : Count} {spot : Spot} {below : List Frame} {r : List Lexeme}
        → Means m (given_to spot) outer below r
        → EndsItems m lv (frames.Record spot outer ∷ below) (sign CloseBracket ∷ r)
    declaration_ends : {lv : Count} {r : List Lexeme} → (lv ≡ m.levels → Resulted m r)
        → EndsItems m lv [] (sign Equal ∷ r)

  pub data Means (m : Bounds) : ParserState → Count → List Frame → List Lexeme → Type 0 where
    means_start : {lv : Count} {below : List Frame} {s : List Lexeme}
        → (IsOutside m lv below → (cs : SchemaView) × Declarations m s cs) → Means m modes.Start lv below s
    means_marked : {lv : Count} {below : List Frame} {s : List Lexeme}
        → (IsOutside m lv below → (c : ConstructorView) × (r : List Lexeme) × (cs : SchemaView) × Declared m true s c r
        × Declarations m r cs)
        → Means m modes.Marked lv below s
    means_headed : {lv : Count} {below : List Frame} {s : List Lexeme}
        → (IsOutside m lv below → (exotic : Bool) (h : Lexeme) (x : Option (List ℕ)) → Heads h x
        → (c : ConstructorView) × (r : List Lexeme) × (cs : SchemaView) × Declared m exotic (h ∷ s) c r
        × Declarations m r cs)
        → Means m modes.Headed lv below s
    means_items : {k lv : Count} {below : List Frame} {s r : List Lexeme} {is : ItemList} → Items m lv k s is r
        → EndsItems m lv below r → Means m (modes.Items k) lv below s
    means_brace : {k lv : Count} {below : List Frame} {s r : List Lexeme} {i : ItemView}
        → AnItem m lv (sign OpenBrace ∷ s) i r → Means m (modes.Items k) lv below r → Means m (modes.Brace k) lv below s
    means_brace_name : {k lv : Count} {below : List Frame} {s r : List Lexeme}
        → ((x : List ℕ) → (i : ItemView) × AnItem m lv (sign OpenBrace ∷ word x ∷ s) i r)
        → Means m (modes.Items k) lv below r → Means m (modes.BraceName k) lv below s
    means_kind : {k lv : Count} {below : List Frame} {s r : List Lexeme}
        → ((x : List ℕ) → (i : ItemView) × AnItem m lv (sign OpenBrace ∷ word x ∷ sign Colon ∷ s) i r)
        → Means m (modes.Items k) lv below r → Means m (modes.Kind k) lv below s
    means_kind_end : {k lv : Count} {below : List Frame} {r : List Lexeme} → Means m (modes.Items k) lv below r
        → Means m (modes.KindEnd k) lv below (sign CloseBrace ∷ r)
    means_item_name : {k lv : Count} {below : List Frame} {s r : List Lexeme}
        → ((x : List ℕ) → (i : ItemView) × AnItem m lv (word x ∷ s) i r) → Means m (modes.Items k) lv below r
        → Means m (modes.ItemName k) lv below s
    means_item_blank : {k lv : Count} {below : List Frame} {s r : List Lexeme} {i : ItemView}
        → AnItem m lv (blank ∷ s) i r → Means m (modes.Items k) lv below r → Means m (modes.ItemBlank k) lv below s
    means_term : {spot : Spot} {inner lv : Count} {below : List Frame} {s r : List Lexeme} {e : ExprView}
        → Term m inner s e r → Means m (given_to spot) lv below r → Means m (modes.Term spot inner) lv below s
    means_apply : {p : Side} {b : Bool} {lv : Count} {below : List Frame} {s mid r : List Lexeme} → (e : ExprView)
        → Factor m lv b s e mid → Adds m lv mid r → EndsSum m p lv below r → Means m (modes.Apply p b) lv below s
    means_applied : {p : Side} {b : Bool} {lv : Count} {below : List Frame} {s r : List Lexeme} {es : ExprList}
        → Terms m lv s es r → Means m (modes.Operated p b) lv below r → Means m (modes.Applied p b) lv below s
    means_operated : {p : Side} {b : Bool} {lv : Count} {below : List Frame} {s mid r : List Lexeme}
        → Completes m lv b s mid → Adds m lv mid r → EndsSum m p lv below r → Means m (modes.Operated p b) lv below s
    means_typed : {k lv : Count} {below : List Frame} {s r : List Lexeme}
        → ((prefix : List Lexeme) (a : ExprView) → Term m lv prefix a s → (t : TypeView) × Typed m lv prefix t r)
        → Means m (modes.Items k) lv below r → Means m (modes.Typed k) lv below s
    means_bit : {k lv : Count} {below : List Frame} {n : ℕ} {s r : List Lexeme} {e : ExprView} → n ≤ 31
        → Term m lv s e r
        → Means m (modes.Items k) lv below r → Means m (modes.Bit k) lv below (number (Some n) ∷ sign Question ∷ s)
    means_bit_end : {k lv : Count} {below : List Frame} {s r : List Lexeme} {e : ExprView} → Term m lv s e r
        → Means m (modes.Items k) lv below r → Means m (modes.BitEnd k) lv below (sign Question ∷ s)
    means_result : {lv : Count} {below : List Frame} {s : List Lexeme} → (IsOutside m lv below → Resulted m s)
        → Means m modes.Result lv below s
    means_params : {k lv : Count} {below : List Frame} {s : List Lexeme}
        → (IsOutside m lv below
        → (es : ExprList) × (r : List Lexeme) × (cs : SchemaView) × Params m k s es (sign Semicolon ∷ r)
        × Declarations m r cs) → Means m (modes.Params k) lv below s
