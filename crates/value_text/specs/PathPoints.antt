-- How a path is read byte by byte: where the text stands, and what one more byte leads to. The contract of the public
-- call speaks of the text of a path alone; proofs/ ties the two.
use Rattle.std.specs.Prelude.{◌≡◌, ℕ, ◌+◌, ◌-◌, ◌*◌, ◌<◌, ◌≤◌, ◌^◌, ◌==◌, Bool, true, false, ◌&&◌, ◌||◌, not, nat_lt, List, [], ◌∷◌, ◌++◌, length, decimal, if◌then◌else◌, Option, Some, None}
use Rattle.std.specs.Char.{is_ascii_alphabetic, is_ascii_digit}
use Rattle.std.specs.List.{list_all}
use Rattle.bit_slice.specs.HexLists.{is_hex_digit, AreDigits}
use Rattle.bit_slice.specs.Names.{is_count, is_name_byte}
use Rattle.value_text.specs.Tokens.{bits, spelling}
use Rattle.value_text.specs.Writes.{AreFew}
use Rattle.value_text.specs.BitsTextLaws.{is_markable, last_digit}
use Rattle.value_text.specs.declared.point.Point.{Point}
use Rattle.value_text.specs.declared.point.Point.TheVariants.{Root, First, Due, X, Name, Blank, Count, Zero, Number, Key, Marked, Closed}

-- a whole step ends at a '/' (47)
abbrev pub ended : ℕ → Option Point
ended c = if c == 47 then Some Due else None

-- a step begins: 120 is 'x', 95 is '_', 48 is '0'
abbrev pub begun : ℕ → Option Point
begun c =
    if c == 120 then Some X else if is_ascii_alphabetic c then Some Name else if c == 95 then Some Blank
    else if c == 48 then Some Zero else if is_ascii_digit c then Some (Number (c - 48)) else None

abbrev pub in_name : ℕ → Option Point
in_name c = if is_name_byte c then Some Name else ended c

abbrev pub longer : ℕ → ℕ → Option Point
longer n c = if nat_lt (10 * n + (c - 48)) (2 ^ 32) then Some (Number (10 * n + (c - 48))) else None

-- one more digit of a key: of 256 the last has to end by a mark
abbrev pub digit : ℕ → ℕ → Option Point
digit k c = if nat_lt k 255 || (k == 255 && is_markable c) then Some (Key (k + 1) c) else None

-- '_' marks the end, '}' (125) closes
abbrev pub in_key : ℕ → ℕ → ℕ → Option Point
in_key k last c =
    if is_hex_digit c then digit k c else if c == 95 then (if is_markable last then Some Marked else None)
    else if c == 125 && nat_lt k 256 then Some Closed else None

-- where one more byte leads to, if a path can go on with it; 123 is '{'
abbrev pub next : Point → ℕ → Option Point
next Root c = if c == 47 then Some First else None
next First c = begun c
next Due c = begun c
next X c = if c == 123 then Some (Key 0 48) else in_name c
next Name c = in_name c
next Blank c = if is_ascii_digit c && not (c == 48) then Some Count else ended c
next Count c = if is_ascii_digit c then Some Count else ended c
next Zero c = ended c
next (Number n) c = if is_ascii_digit c then longer n c else ended c
next (Key k last) c = in_key k last c
next Marked c = if c == 125 then Some Closed else None
next Closed c = ended c

-- a whole step stands there
abbrev pub is_step : Point → Bool
is_step Root = false
is_step First = false
is_step Due = false
is_step X = true
is_step Name = true
is_step Blank = true
is_step Count = true
is_step Zero = true
is_step (Number n) = true
is_step (Key k last) = false
is_step Marked = false
is_step Closed = true

-- a path may end there: after the first '/', or after a whole step
abbrev pub may_end : Point → Bool
may_end First = true
may_end p = is_step p

abbrev pub onward : Option Point → (Point → Option Point) → Option Point
onward (Some p) further = further p
onward None further = None

-- where the bytes lead to
abbrev pub walk : Point → List ℕ → Option Point
walk p [] = Some p
walk p (c ∷ cs) = onward (next p c) (λ q. walk q cs)

-- ---- what a point says of the bytes of the step so far

pub record IsLetters (step : List ℕ) : Type 0 where
  pub first : ℕ
  pub later : List ℕ
  pub whole : step ≡ first ∷ later
  pub letter : is_ascii_alphabetic first ≡ true
  pub are_name_bytes : list_all is_name_byte later ≡ true

pub record IsCounted (step : List ℕ) : Type 0 where
  pub digits : List ℕ
  pub whole : step ≡ 95 ∷ digits
  pub is_count : is_count digits ≡ true
  pub some : 0 < length digits

pub record IsKey (k last : ℕ) (step : List ℕ) : Type 0 where
  pub digits : List ℕ
  pub whole : step ≡ 120 ∷ 123 ∷ digits
  pub are_digits : AreDigits digits
  pub size : length digits ≡ k
  pub few : k ≤ 256
  pub is_last : last ≡ last_digit digits
  pub ends : k ≡ 256 → is_markable last ≡ true

pub record IsMarked (step : List ℕ) : Type 0 where
  pub digits : List ℕ
  pub whole : step ≡ 120 ∷ 123 ∷ digits ++ 95 ∷ []
  pub are_digits : AreDigits digits
  pub few : length digits ≤ 256
  pub ends : is_markable (last_digit digits) ≡ true

pub record IsClosed (step : List ℕ) : Type 0 where
  pub key : List ℕ
  pub are_few : AreFew key
  pub whole : step ≡ spelling (bits key)

abbrev pub Holds : Point → List ℕ → Type 0
Holds Root step = ⊥
Holds First step = step ≡ []
Holds Due step = step ≡ []
Holds X step = step ≡ 120 ∷ []
Holds Name step = IsLetters step
Holds Blank step = step ≡ 95 ∷ []
Holds Count step = IsCounted step
Holds Zero step = step ≡ 48 ∷ []
Holds (Number n) step = (0 < n) × (n < 2 ^ 32) × (step ≡ decimal n)
Holds (Key k last) step = IsKey k last step
Holds Marked step = IsMarked step
Holds Closed step = IsClosed step
