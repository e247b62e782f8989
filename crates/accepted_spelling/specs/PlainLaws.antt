-- In a plain core form each equation seeks its one unknown.
use Rattle.core_form.specs.Core.{Ty, Items, check, solve, field, no_items, an_item, group, ref, nat32, bits, below}
use Rattle.core_form.specs.Core.{up_to}
use Rattle.core_form.specs.Core.{uint, int, bit_str, whole, variable, repeat, dict, dict_e, named}
use Rattle.core_form.specs.Plain.{IsPlainType, ArePlainItems}
use Rattle.spelling.specs.Acceptable.{Seeks, SeeksIn}

mutual
  pub plain_seeks : (is : Items) → ArePlainItems is → Seeks is
  plain_seeks no_items h = tt
  plain_seeks (an_item (check a op b i) is) h = plain_seeks is h.1
  plain_seeks (an_item (solve v a b i) is) h = (h.0, plain_seeks is h.1)
  plain_seeks (an_item (field x slot c t) is) h = (seeks_in t h.0.1, plain_seeks is h.1)

  seeks_in : (t : Ty) → IsPlainType t → SeeksIn t
  seeks_in (group is) h = plain_seeks is h
  seeks_in (ref t) h = seeks_in t h
  seeks_in nat32 h = tt
  seeks_in (bits e) h = tt
  seeks_in (below e) h = tt
  seeks_in (up_to e) h = tt
  seeks_in (uint e) h = tt
  seeks_in (int e) h = tt
  seeks_in (bit_str e) h = tt
  seeks_in whole h = tt
  seeks_in (variable v) h = tt
  seeks_in (repeat e t) h = tt
  seeks_in (dict e t) h = tt
  seeks_in (dict_e e t) h = tt
  seeks_in (named x args) h = tt
