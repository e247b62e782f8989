use Rattle.std.proofs.Common.{◌≡◌, ◌||◌, not, refl}
use Rattle.kind_terms.specs.declared.words.WordClass.{WordClass}
use Rattle.kind_terms.specs.declared.words.WordClass.TheVariants.{TypeWord, Any, Cell, Sized, Numbered, Hashmap}
use Rattle.kind_terms.specs.declared.words.WordClass.TheVariants.{HashmapE, HashmapNode, Free}
use Rattle.kind_terms.specs.Classes.{is_built_in_class, is_dictionary_class, is_free_class, word_class}
use Rattle.kind_terms.proofs.laws.free_words.Goals as goal

free : (w : WordClass) → is_free_class w ≡ not (is_built_in_class w || is_dictionary_class w)
free TypeWord = refl
free Any = refl
free Cell = refl
free (Sized f) = refl
free (Numbered f) = refl
free Hashmap = refl
free HashmapE = refl
free HashmapNode = refl
free Free = refl

pub returns : goal.returns
returns c = λ x. free (word_class x)
