-- A search for a name, entry by entry.
use Rattle.std.proofs.Common.{◌≡◌, ◌<◌, ◌+◌, suc, ◌∙◌, sym, ap, ℕ, true, false, List, length, drop, get_or, drop-cons, add-one, Some, refl, string_bytes, Vec, if◌then◌else◌}
use Rattle.std.specs.Prelude.{String}
use Rattle.std.specs.Str.{bytes_eq}
use Rattle.std.specs.Option.{option_map}
use Rattle.std.proofs.lemmas.Option.{slice_get_read}
use Rattle.std.specs.declared.alloc.Global.{Global}
use Rattle.tlb_edge.specs.Files.{Name, entries, file_at, bytes_at}

-- the i-th entry has the name
pub file_at-found : (es : List (String Global × Vec ℕ Global)) (name : Name) (i : ℕ) (d : String Global × Vec ℕ Global) → i < length es →
    d ≡ get_or es i d → bytes_eq (string_bytes d.0) name ≡ true → file_at (entries (drop i es)) name ≡ bytes_at es i
file_at-found es name i d h is hit =
    rw (drop-cons es i d)
    (rw (← is) (ap (λ b. if b then Some d.1.items else file_at (entries (drop (suc i) es)) name) hit
    ∙ sym (ap (option_map (λ e. e.1.items)) (slice_get_read es (length es) i d refl h is))))

-- it has not
pub file_at-passed : (es : List (String Global × Vec ℕ Global)) (name : Name) (i : ℕ) (d : String Global × Vec ℕ Global) → i < length es →
    d ≡ get_or es i d → bytes_eq (string_bytes d.0) name ≡ false → file_at (entries (drop i es)) name ≡ file_at (entries (drop (i + 1) es)) name
file_at-passed es name i d h is miss =
    rw (add-one, drop-cons es i d)
    (rw (← is) (ap (λ b. if b then Some d.1.items else file_at (entries (drop (suc i) es)) name) miss))
