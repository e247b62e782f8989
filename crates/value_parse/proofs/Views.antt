-- The states of the program grow at the end, and those of the definitions at the beginning.
use Rattle.std.proofs.Common.{◌≡◌, List, [], ◌∷◌, ◌++◌, map, length, reverse, ap, ◌∙◌}
use Rattle.std.proofs.lemmas.List.{length-map, length-reverse, map-append, reverse-append}
use Rattle.value_grammar.specs.Open as opened
use Rattle.value_parse.specs.declared.state.Frame.{Frame}
use Rattle.value_parse.specs.declared.state.OpenCell.{OpenCell}
use Rattle.value_parse.specs.View.{around, frame, frames, open_cell}

pub frames_push : (fs : List Frame) (f : Frame) → frames (fs ++ f ∷ []) ≡ frame f ∷ frames fs
frames_push fs f = ap (λ (l : List opened.Frame). reverse l) (map-append frame fs (f ∷ [])) ∙ reverse-append (map frame fs) (frame f ∷ [])

pub around_push : (ps : List OpenCell) (p : OpenCell) → around (ps ++ p ∷ []) ≡ open_cell p ∷ around ps
around_push ps p = ap (λ (l : List opened.OpenCell). reverse l) (map-append open_cell ps (p ∷ [])) ∙ reverse-append (map open_cell ps) (open_cell p ∷ [])

pub frames_length : (fs : List Frame) → length (frames fs) ≡ length fs
frames_length fs = length-reverse (map frame fs) ∙ length-map fs frame

pub around_length : (ps : List OpenCell) → length (around ps) ≡ length ps
around_length ps = length-reverse (map open_cell ps) ∙ length-map ps open_cell

pub ruleset views = (frames_push, around_push, frames_length, around_length, map-append)
