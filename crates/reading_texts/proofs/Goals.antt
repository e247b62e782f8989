-- Goals and shapes whose fields have names and whose closed types are small.
use Rattle.std.proofs.Common.{◌≡◌, ℕ, subst, refl, Option, Some, None, Result, Ok, Err, Bool, true, false, nat_lt}
use Rattle.std.specs.Prelude.{if◌then◌else◌}
use Rattle.core_form.specs.Closed.{Closed, nodes}
use Rattle.core_form.specs.Closing.{big_type, bounded, close, closing}
use Rattle.core_form.specs.Core.{Condition, Ty, Items}
use Rattle.core_form.specs.Core as core
use Rattle.core_form.specs.Scope.{Scope, value_in}
use Rattle.spelling.specs.Goals.{Goal, at_type, at_field, at_cell, Shape, typed, fields_here, fields_under, left_out, as_cell, in_table, typed_or, laid, in_width, judged, passes, tested, conditional, shape_of}
use Rattle.spelling.specs.declared.Cause.{Cause}
use Rattle.spelling.specs.declared.Cause.TheVariants.{Width}
use Rattle.reading_texts.proofs.Items.{NamedItems, NamedTy}
use Rattle.reading_texts.proofs.Types.{AreSmallTypes, Small, closing-small}

abbrev pub IsFair : Goal → Type 0
IsFair (at_type t) = Small t
IsFair (at_field c t scope) = NamedTy t × AreSmallTypes scope.types
IsFair at_cell = Unit {0}

-- a shape, before its width is judged
abbrev Loose : Shape → Type 0
Loose (typed t) = Small t
Loose (fields_here is scope) = NamedItems is × AreSmallTypes scope.types
Loose (fields_under is scope) = NamedItems is × AreSmallTypes scope.types
Loose left_out = Unit {0}
Loose as_cell = Unit {0}

abbrev pub IsSound : Shape → Type 0
IsSound (typed t) = Small t × (in_table t ≡ true)
IsSound (fields_here is scope) = NamedItems is × AreSmallTypes scope.types
IsSound (fields_under is scope) = NamedItems is × AreSmallTypes scope.types
IsSound left_out = Unit {0}
IsSound as_cell = Unit {0}

same-shape : (c d : Shape) → IsSound c → (◌≡◌ {A = Result Shape Cause} (Ok c) (Ok d)) → IsSound d
same-shape c d h e = let same : c ≡ d = cc in subst IsSound same h

width-sound : (t : Closed) (b : Bool) (d : Shape) → in_table t ≡ b → Small t
    → (if b then Ok (typed t) else Err Width) ≡ Ok d → IsSound d
width-sound t true d w h e = same-shape (typed t) d (h, w) e
width-sound t false d w h e = absurd (cc)

sound-in : (c d : Shape) → Loose c → in_width c ≡ Ok d → IsSound d
sound-in (typed t) d h e = width-sound t (in_table t) d refl h e
sound-in (fields_here is scope) d h e = same-shape (fields_here is scope) d h e
sound-in (fields_under is scope) d h e = same-shape (fields_under is scope) d h e
sound-in left_out d h e = same-shape left_out d h e
sound-in as_cell d h e = same-shape as_cell d h e

bounded-loose : (t : Closed) (b : Bool) (c : Shape) → Small t → typed_or (if b then Err big_type else Ok t) ≡ Ok c → Loose c
bounded-loose t true c h e = absurd (cc)
bounded-loose t false c h e = let same : typed t ≡ c = cc in subst Loose same h

close-loose : (o : Option Closed) (c : Shape) → ((t : Closed) → o ≡ Some t → Small t) → typed_or (bounded o) ≡ Ok c
    → Loose c
close-loose None c h e = absurd (cc)
close-loose (Some t) c h e = bounded-loose t (nat_lt 4096 (nodes t)) c (h t refl) e

by-close : (t : Ty) (scope : Scope) (c : Shape) → AreSmallTypes scope.types → typed_or (close t scope) ≡ Ok c → Loose c
by-close t scope c h e = close-loose (closing t scope) c (λ u k. closing-small t scope u h k) e

same-loose : (c d : Shape) → Loose c → (◌≡◌ {A = Result Shape Cause} (Ok c) (Ok d)) → Loose d
same-loose c d h e = let same : c ≡ d = cc in subst Loose same h

laid-ref : (t : Ty) (scope : Scope) (c : Shape) → NamedTy t → AreSmallTypes scope.types → laid (core.ref t) scope ≡ Ok c
    → Loose c
laid-ref (core.group is) scope c n h e = same-loose (fields_under is scope) c (n, h) e
laid-ref core.nat32 scope c n h e = by-close (core.ref core.nat32) scope c h e
laid-ref (core.bits x) scope c n h e = by-close (core.ref (core.bits x)) scope c h e
laid-ref (core.below x) scope c n h e = by-close (core.ref (core.below x)) scope c h e
laid-ref (core.up_to x) scope c n h e = by-close (core.ref (core.up_to x)) scope c h e
laid-ref (core.uint x) scope c n h e = by-close (core.ref (core.uint x)) scope c h e
laid-ref (core.int x) scope c n h e = by-close (core.ref (core.int x)) scope c h e
laid-ref (core.bit_str x) scope c n h e = by-close (core.ref (core.bit_str x)) scope c h e
laid-ref core.whole scope c n h e = by-close (core.ref core.whole) scope c h e
laid-ref (core.variable v) scope c n h e = by-close (core.ref (core.variable v)) scope c h e
laid-ref (core.ref t) scope c n h e = by-close (core.ref (core.ref t)) scope c h e
laid-ref (core.repeat x t) scope c n h e = by-close (core.ref (core.repeat x t)) scope c h e
laid-ref (core.dict x t) scope c n h e = by-close (core.ref (core.dict x t)) scope c h e
laid-ref (core.dict_e x t) scope c n h e = by-close (core.ref (core.dict_e x t)) scope c h e
laid-ref (core.named x args) scope c n h e = by-close (core.ref (core.named x args)) scope c h e

laid-loose : (t : Ty) (scope : Scope) (c : Shape) → NamedTy t → AreSmallTypes scope.types → laid t scope ≡ Ok c → Loose c
laid-loose (core.group is) scope c n h e = same-loose (fields_here is scope) c (n, h) e
laid-loose (core.ref t) scope c n h e = laid-ref t scope c n h e
laid-loose core.nat32 scope c n h e = by-close core.nat32 scope c h e
laid-loose (core.bits x) scope c n h e = by-close (core.bits x) scope c h e
laid-loose (core.below x) scope c n h e = by-close (core.below x) scope c h e
laid-loose (core.up_to x) scope c n h e = by-close (core.up_to x) scope c h e
laid-loose (core.uint x) scope c n h e = by-close (core.uint x) scope c h e
laid-loose (core.int x) scope c n h e = by-close (core.int x) scope c h e
laid-loose (core.bit_str x) scope c n h e = by-close (core.bit_str x) scope c h e
laid-loose core.whole scope c n h e = by-close core.whole scope c h e
laid-loose (core.variable v) scope c n h e = by-close (core.variable v) scope c h e
laid-loose (core.repeat x t) scope c n h e = by-close (core.repeat x t) scope c h e
laid-loose (core.dict x t) scope c n h e = by-close (core.dict x t) scope c h e
laid-loose (core.dict_e x t) scope c n h e = by-close (core.dict_e x t) scope c h e
laid-loose (core.named x args) scope c n h e = by-close (core.named x args) scope c h e

judged-sound : (r : Result Shape Cause) (d : Shape) → ((c : Shape) → r ≡ Ok c → Loose c) → judged r ≡ Ok d → IsSound d
judged-sound (Ok c) d h e = sound-in c d (h c refl) e
judged-sound (Err why) d h e = absurd (cc)

passed-sound : (b : Bool) (c d : Shape) → Loose c → (if b then in_width c else Ok left_out) ≡ Ok d → IsSound d
passed-sound true c d h e = sound-in c d h e
passed-sound false c d h e = same-shape left_out d tt e

tested-sound : (k o : Option ℕ) (r : Result Shape Cause) (d : Shape) → ((c : Shape) → r ≡ Ok c → Loose c)
    → tested k o r ≡ Ok d → IsSound d
tested-sound k None r d h e = absurd (cc)
tested-sound k (Some n) (Err why) d h e = absurd (cc)
tested-sound k (Some n) (Ok c) d h e = passed-sound (passes k n) c d (h c refl) e

conditional-sound : (o : Option Condition) (scope : Scope) (r : Result Shape Cause) (d : Shape)
    → ((c : Shape) → r ≡ Ok c → Loose c) → conditional o scope r ≡ Ok d → IsSound d
conditional-sound None scope r d h e = judged-sound r d h e
conditional-sound (Some x) scope r d h e = tested-sound x.bit (value_in x.number scope) r d h e

pub shape-sound : (g : Goal) (c : Shape) → IsFair g → shape_of g ≡ Ok c → IsSound c
shape-sound (at_type t) c h e = sound-in (typed t) c h e
shape-sound (at_field x t scope) c h e =
    conditional-sound x scope (laid t scope) c (λ d k. laid-loose t scope d h.0 h.1 k) e
shape-sound at_cell c h e = same-shape as_cell c tt e
