-- What the program's scans stand for.
use Rattle.type_word.specs.declared.signs.Scan.{Scan}
use Rattle.type_word.specs.declared.signs.Scan.TheVariants.{Refused, Passed}
use Rattle.type_word.specs.Scanning.{Scanned, refused, passed}

abbrev pub scan_by : Scan → Scanned
scan_by (Refused place) = refused place
scan_by (Passed places) = passed places.now
