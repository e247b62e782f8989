use Rattle.bit_slice.specs.HexTexts.{HexText-unique}
use Rattle.bit_slice.proofs.laws.hex_text_unique.Goals as goal

pub returns : goal.returns
returns c = HexText-unique
