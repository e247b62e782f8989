-- What files hold, one file more.
use Rattle.std.proofs.Common.{◌≡◌, ◌≤◌, ◌<◌, ◌+◌, ◌∙◌, ap, sym, subst, suc, refl, arith, drop, map, append_assoc, slice_get, ℕ, List, [], ◌∷◌, ◌++◌, length, nat_lt, true, false, Bool, Option, None, Some, IfSome, if◌then◌else◌}
use Rattle.std.proofs.lemmas.Bool.{lt-ltb, le-ltb}
use Rattle.std.proofs.Math.ListN.{drop_of_length-le}
use Rattle.std.proofs.Math.Seq.{drop-cons}
use Rattle.std.proofs.lemmas.List.{append-nil, drop-map, length-map, map_push}
use Rattle.std.proofs.lemmas.Option.{slice_get-get_or, slice_get-map}
use Rattle.std.specs.Option.{option_map}
use Rattle.std.specs.Prelude.{slice_index_or, Vec}
use Rattle.std.specs.declared.alloc.Global.{Global}
use Rattle.tlb_edge.specs.Causes.{counted}
use Rattle.tlb_edge.specs.Files.{Files, file_at, reported_at}
use Rattle.tlb_files.specs.Contents.{AreShort, IsLoading, IsOrNotHeld}
use Rattle.tlb_files.specs.Counts.{FileName, Counts, Opens, RoseAtMost}
use Rattle.tlb_files.specs.Loading.{Loading, not_held, too_long, loaded, with_file, with_bytes, loading}
use Rattle.tlb_files.specs.View.{bytes_of, contents_of, file_by, files_by}
use Rattle.tlb_files.specs.declared.load.File.{File}
use Rattle.tlb_files.proofs.Counting.{Opens-after, Opens-none}

-- the bytes of files before those of others
abbrev pub after : List (List ℕ) → Loading → Loading
after [] rest = rest
after (bytes ∷ contents) rest = with_bytes bytes (after contents rest)

pub after-one : (contents : List (List ℕ)) (bytes : List ℕ) (rest : Loading) → after (contents ++ bytes ∷ []) rest ≡ after contents (with_bytes bytes rest)
after-one [] bytes rest = refl
after-one (first ∷ contents) bytes rest = ap (with_bytes first) (after-one contents bytes rest)

pub after-loaded : (contents rest : List (List ℕ)) → after contents (loaded rest) ≡ loaded (contents ++ rest)
after-loaded [] rest = refl
after-loaded (first ∷ contents) rest = ap (with_bytes first) (after-loaded contents rest)

pub after-long : (contents : List (List ℕ)) (file : FileName) → after contents (too_long file) ≡ too_long file
after-long [] file = refl
after-long (first ∷ contents) file = ap (with_bytes first) (after-long contents file)

bytes-same : (held bytes : List ℕ) (all rest : Loading) → bytes ≡ held → IsOrNotHeld all rest → IsOrNotHeld (with_bytes held all) (with_bytes bytes rest)
bytes-same held bytes not_held rest same is = tt
bytes-same held bytes (too_long file) rest same is = ap (with_bytes bytes) is
bytes-same held bytes (loaded contents) rest same is = ap (λ bs. loaded (bs ∷ contents)) (sym same) ∙ ap (with_bytes bytes) is

file-held : (file : FileName) (held : Option (List ℕ)) (bytes : List ℕ) (all rest : Loading) → IfSome held (λ h. bytes ≡ h) → length bytes ≤ file.limit →
    IsOrNotHeld all rest → IsOrNotHeld (with_file file held all) (with_bytes bytes rest)
file-held file None bytes all rest same short is = tt
file-held file (Some held) bytes all rest same short is =
    let fits : nat_lt file.limit (length held) ≡ false = le-ltb file.limit (length held) (omega (arith, ap length same, short)) in
    rw fits (bytes-same held bytes all rest same is)

-- a file that was loaded
pub IsLoading-file : (held : Option Files) (file : FileName) (files : List FileName) (bytes : List ℕ) (rest : Loading) →
    IfSome (reported_at held file.name) (λ h. bytes ≡ h) → length bytes ≤ file.limit → IsLoading held files rest →
    IsLoading held (file ∷ files) (with_bytes bytes rest)
IsLoading-file None file files bytes rest same short is = tt
IsLoading-file (Some held) file files bytes rest same short is = file-held file (file_at held file.name) bytes (loading held files) rest same short is

file-long : (file : FileName) (held : Option (List ℕ)) (all : Loading) → IfSome held (λ h. file.limit < length h) →
    IsOrNotHeld (with_file file held all) (too_long file)
file-long file None all long = tt
file-long file (Some held) all long = rw (lt-ltb file.limit (length held) long) refl

-- a file that is too long
pub IsLoading-long : (held : Option Files) (file : FileName) (files : List FileName) → IfSome (reported_at held file.name) (λ h. file.limit < length h) →
    IsLoading held (file ∷ files) (too_long file)
IsLoading-long None file files long = tt
IsLoading-long (Some held) file files long = file-long file (file_at held file.name) (loading held files) long

-- the file at a place, and those after it
pub files-cons : (files : List File) (place : ℕ) (d : File) → place < length files →
    files_by (drop place files) ≡ file_by (slice_index_or files place d) ∷ files_by (drop (place + 1) files)
files-cons files place d less =
    let next : suc place ≡ place + 1 = omega arith in
    ap files_by (drop-cons files place d less) ∙ ap (λ n. file_by (slice_index_or files place d) ∷ files_by (drop n files)) next

pub files-at : (files : List File) (place : ℕ) (d : File) → place < length files → slice_get (files_by files) place ≡ Some (file_by (slice_index_or files place d))
files-at files place d less = slice_get-map file_by files place ∙ ap (option_map file_by) (slice_get-get_or files place d less)

-- a file more was opened
pub opens-turn : (files : List File) (place : ℕ) (d : File) (first before mid : Counts) → place < length files →
    ((count : ℕ) (end : Counts) → Opens (files_by (drop place files)) count before end → Opens (files_by files) (place + count) first end) →
    mid.opens ≡ counted before.opens 1 → mid.given ≤ (slice_index_or files place d).limit + 1 → RoseAtMost (mid.given + 1) before.reads mid.reads →
    (count : ℕ) (end : Counts) → Opens (files_by (drop (place + 1) files)) count mid end → Opens (files_by files) (place + 1 + count) first end
opens-turn files place d first before mid less others opened given reads =
    let file : FileName = file_by (slice_index_or files place d) in
    let rest : List FileName = files_by (drop (place + 1) files) in
    Opens-after (files_by files) rest file place first before mid
    (λ count end o. let P : List FileName → Type 0 = λ xs. Opens xs count before end in others count end (subst P (sym (files-cons files place d less)) o))
    opened given reads

-- and no other one
pub opens-here : (files : List File) (place : ℕ) (d : File) (first before mid : Counts) → place < length files →
    ((count : ℕ) (end : Counts) → Opens (files_by (drop place files)) count before end → Opens (files_by files) (place + count) first end) →
    mid.opens ≡ counted before.opens 1 → mid.given ≤ (slice_index_or files place d).limit + 1 → RoseAtMost (mid.given + 1) before.reads mid.reads →
    Opens (files_by files) (place + 1) first mid
opens-here files place d first before mid less others opened given reads =
    let same : place + 1 + 0 ≡ place + 1 = omega arith in
    let P : ℕ → Type 0 = λ n. Opens (files_by files) n first mid in
    subst P same (opens-turn files place d first before mid less others opened given reads 0 mid (Opens-none (files_by (drop (place + 1) files)) mid))

-- its bytes are within its limit
pub short-turn : (files : List File) (place : ℕ) (d : File) (contents all : List (Vec ℕ Global)) (bytes : Vec ℕ Global) → place < length files →
    all ≡ contents ++ bytes ∷ [] → length bytes.items ≤ (slice_index_or files place d).limit →
    ((rest : List (List ℕ)) → AreShort (files_by (drop place files)) rest → AreShort (files_by files) (contents_of contents ++ rest)) →
    (rest : List (List ℕ)) → AreShort (files_by (drop (place + 1) files)) rest → AreShort (files_by files) (contents_of all ++ rest)
short-turn files place d contents all bytes less whole fits others rest short =
    let P : List FileName → Type 0 = λ xs. AreShort xs (bytes.items ∷ rest) in
    let Q : List (List ℕ) → Type 0 = λ xs. AreShort (files_by files) xs in
    let same : contents_of contents ++ bytes.items ∷ rest ≡ contents_of all ++ rest =
    sym (append_assoc (contents_of contents) (bytes.items ∷ []) rest) ∙ ap (λ xs. xs ++ rest) (sym (ap contents_of whole ∙ map_push bytes_of contents bytes)) in
    subst Q same (others (bytes.items ∷ rest) (subst P (sym (files-cons files place d less)) (fits, short)))

-- it is what is held
pub holds-turn : (held : Option Files) (files : List File) (place : ℕ) (d : File) (contents all : List (Vec ℕ Global)) (bytes : Vec ℕ Global) → place < length files →
    all ≡ contents ++ bytes ∷ [] → length bytes.items ≤ (slice_index_or files place d).limit →
    IfSome (reported_at held (slice_index_or files place d).name.now) (λ h. bytes.items ≡ h) →
    ((rest : Loading) → IsLoading held (files_by (drop place files)) rest → IsLoading held (files_by files) (after (contents_of contents) rest)) →
    (rest : Loading) → IsLoading held (files_by (drop (place + 1) files)) rest → IsLoading held (files_by files) (after (contents_of all) rest)
holds-turn held files place d contents all bytes less whole fits same others rest is =
    let file : FileName = file_by (slice_index_or files place d) in
    let next : List FileName = files_by (drop (place + 1) files) in
    let P : List FileName → Type 0 = λ xs. IsLoading held xs (with_bytes bytes.items rest) in
    let Q : Loading → Type 0 = λ x. IsLoading held (files_by files) x in
    let one : after (contents_of contents) (with_bytes bytes.items rest) ≡ after (contents_of all) rest =
    sym (ap (λ xs. after xs rest) (ap contents_of whole ∙ map_push bytes_of contents bytes) ∙ after-one (contents_of contents) bytes.items rest) in
    subst Q one (others (with_bytes bytes.items rest) (subst P (sym (files-cons files place d less)) (IsLoading-file held file next bytes.items rest same fits is)))

-- a file that is too long
pub long-turn : (held : Option Files) (files : List File) (place : ℕ) (d : File) (contents : List (Vec ℕ Global)) → place < length files →
    IfSome (reported_at held (slice_index_or files place d).name.now) (λ h. (slice_index_or files place d).limit < length h) →
    ((rest : Loading) → IsLoading held (files_by (drop place files)) rest → IsLoading held (files_by files) (after (contents_of contents) rest)) →
    IsLoading held (files_by files) (too_long (file_by (slice_index_or files place d)))
long-turn held files place d contents less long others =
    let file : FileName = file_by (slice_index_or files place d) in
    let P : List FileName → Type 0 = λ xs. IsLoading held xs (too_long file) in
    let Q : Loading → Type 0 = λ x. IsLoading held (files_by files) x in
    subst Q (after-long (contents_of contents) file)
    (others (too_long file) (subst P (sym (files-cons files place d less)) (IsLoading-long held file (files_by (drop (place + 1) files)) long)))

-- no file is left
pub holds-all : (held : Option Files) (files : List FileName) (contents : List (List ℕ)) →
    ((rest : Loading) → IsLoading held [] rest → IsLoading held files (after contents rest)) → IsLoading held files (loaded contents)
holds-all held files contents others =
    let Q : Loading → Type 0 = λ x. IsLoading held files x in
    let same : after contents (loaded []) ≡ loaded contents = after-loaded contents [] ∙ ap loaded (append-nil contents) in
    subst Q same (others (loaded []) (none held))
  where
    none : (held : Option Files) → IsLoading held [] (loaded [])
    none None = tt
    none (Some files) = refl

pub short-all : (files : List FileName) (contents : List (List ℕ)) → ((rest : List (List ℕ)) → AreShort [] rest → AreShort files (contents ++ rest)) → AreShort files contents
short-all files contents others =
    let Q : List (List ℕ) → Type 0 = λ xs. AreShort files xs in
    subst Q (append-nil contents) (others [] tt)

pub none-left : (files : List File) (place : ℕ) → length files ≤ place → files_by (drop place files) ≡ []
none-left files place all = ap files_by (drop_of_length-le files all)

pub opens-all : (files : List File) (place : ℕ) (first now : Counts) → place ≡ length files →
    ((count : ℕ) (end : Counts) → Opens (files_by (drop place files)) count now end → Opens (files_by files) (place + count) first end) →
    Opens (files_by files) (length (files_by files)) first now
opens-all files place first now all others =
    let same : place + 0 ≡ length (files_by files) = omega (arith, all, length-map files file_by) in
    let P : ℕ → Type 0 = λ n. Opens (files_by files) n first now in
    subst P same (others 0 now (Opens-none (files_by (drop place files)) now))
