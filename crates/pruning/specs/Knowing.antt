-- What is known of a path in a value with hidden parts, and what a path names. This project's own.
use Rattle.std.specs.Prelude.{◌≡◌, ◌⊎◌, Bool, true, false, if◌then◌else◌, List, [], ◌∷◌, Option, Some, None}
use Rattle.typed_value.specs.Paths.{Stride, named, item, keyed, entry_at, step_at, at_path}
use Rattle.typed_value.specs.Values.{Plain, PlainPairs, number, bit_string, record_of, absent, list_of, ref_to}
use Rattle.typed_value.specs.Values.{unknown, map_of, raw, rest}
use Rattle.pruning.specs.declared.Knowledge.{Knowledge}
use Rattle.pruning.specs.declared.Knowledge.TheVariants.{Known, KnownAbsent, NotKnown}
use Rattle.pruning.specs.Blanked.{KeyPart, some_begin}

-- ---- what is known

-- the value is hidden, behind references too
abbrev pub is_hidden : Plain → Bool
is_hidden (number negative size) = false
is_hidden (bit_string bits) = false
is_hidden (record_of name names vs) = false
is_hidden absent = false
is_hidden (list_of vs) = false
is_hidden (ref_to a v) = is_hidden v
is_hidden (unknown h) = true
is_hidden (map_of a ps us) = false
is_hidden (raw c) = false
is_hidden (rest s) = false

-- a hidden prefix begins the key
abbrev pub hides_key : List KeyPart → Stride → Bool
hides_key us (named name) = false
hides_key us (item i) = false
hides_key us (keyed key) = some_begin us key

-- a step from the value meets a hidden part
abbrev pub hides : Plain → Stride → Bool
hides (number negative size) s = false
hides (bit_string bits) s = false
hides (record_of name names vs) s = false
hides absent s = false
hides (list_of vs) s = false
hides (ref_to a v) s = hides v s
hides (unknown h) s = true
hides (map_of a ps us) s = hides_key us s
hides (raw c) s = false
hides (rest r) s = false

abbrev pub known_at : Option Plain → (Plain → Knowledge) → Knowledge
known_at None further = KnownAbsent
known_at (Some v) further = further v

-- the way goes through each reference that it meets, at its end too
abbrev pub known : Plain → List Stride → Knowledge
known v [] = if is_hidden v then NotKnown else Known
known v (s ∷ steps) = if hides v s then NotKnown else known_at (step_at v s) (λ u. known u steps)

-- what is known of a path on which nothing is hidden, by what it leads to
abbrev pub as_named : Option Plain → Knowledge
as_named None = KnownAbsent
as_named (Some u) = Known

-- ---- what a path names

abbrev pub is_none : Option Plain → Bool
is_none None = true
is_none (Some v) = false

abbrev pub lacks_key : PlainPairs → Stride → Bool
lacks_key ps (named name) = false
lacks_key ps (item i) = false
lacks_key ps (keyed key) = is_none (entry_at ps key)

-- the value is a map, behind references too, that does not hold the key, whatever its width
abbrev pub lacks : Plain → Stride → Bool
lacks (number negative size) s = false
lacks (bit_string bits) s = false
lacks (record_of name names vs) s = false
lacks absent s = false
lacks (list_of vs) s = false
lacks (ref_to a v) s = lacks v s
lacks (unknown h) s = false
lacks (map_of a ps us) s = lacks_key ps s
lacks (raw c) s = false
lacks (rest r) s = false

abbrev pub lacked_at : Option Plain → (Plain → Bool) → Bool
lacked_at None further = false
lacked_at (Some v) further = further v

-- all steps but the last lead to a map that does not hold the last, a key
abbrev pub names_absence : Plain → List Stride → Bool
names_absence v [] = false
names_absence v (s ∷ []) = lacks v s
names_absence v (s ∷ t ∷ steps) = lacked_at (step_at v s) (λ u. names_absence u (t ∷ steps))

-- the path leads to a value, or names an absence
abbrev pub NamesSomething : Plain → List Stride → Type 0
NamesSomething v path = ((u : Plain) × (at_path v path ≡ Some u)) ⊎ (names_absence v path ≡ true)
