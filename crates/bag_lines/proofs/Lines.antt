-- What the line of a bag holds.
use Rattle.std.proofs.Common.{◌≡◌, ◌∙◌, ℕ, List, [], ◌∷◌, ◌++◌, refl, sym, arith, Ok}
use Rattle.std.specs.Prelude.{slice_index}
use Rattle.std.proofs.lemmas.List.{length-append}
use Rattle.hex.specs.Hex.{encode_lower, encode_with, lower_digits}
use Rattle.hex.proofs.HexLemmas.{length-encode_with}
use Rattle.cell_nodes.specs.declared.tree.Tree.{Tree}
use Rattle.bag_cells.specs.Form.{raw_of}
use Rattle.bag_cells.specs.Written.{bag_of, bag_over, header_bytes}
use Rattle.bag_lines.specs.Laws.{LineHolds, WidthIsLeast, WrittenHolds}
use Rattle.bag_lines.proofs.Bytes.{bag-bytes, bytes-at}
use Rattle.bag_lines.proofs.Digits.{raw-line}

first-byte : (t : Tree) → slice_index (bag_of t) 0 ≡ 0xb5
unfolding bag_over header_bytes
first-byte t = refl

by-byte : (file : List ℕ) → slice_index file 0 ≡ 0xb5 → raw_of file ≡ Ok file
by-byte file h = rw h refl

first-digit : (t : Tree) → slice_index (encode_lower (bag_of t) ++ 10 ∷ []) 0 ≡ 98
unfolding bag_over header_bytes encode_with
first-digit t = refl

pub line-holds : WrittenHolds → WidthIsLeast → LineHolds
line-holds written least t g small =
    let raw = bag_of t in
    let h = written t g small in
    let within = bag-bytes least t g small in
    let spelled = raw-line raw (bytes-at raw within.are_bytes) (first-digit t) in
    record {
      holds = record {
        raw = h.raw;
        form = spelled ∙ sym (by-byte raw (first-byte t)) ∙ h.form;
        accepted = h.accepted;
        unfolded = h.unfolded;
      };
      short =
          omega (
            arith,
            within.short,
            length-encode_with lower_digits raw,
            length-append (encode_lower raw) (10 ∷ []),
          );
    }
