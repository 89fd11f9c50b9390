-- The text of the events of a search for tries (own layout; the Popeye manual shows tries and threats by its options Try
-- and Threat).
use Rattle.std.specs.Prelude.{ℕ, List, ◌++◌, codes, decimal}
use Rattle.pop_events.specs.Shown.{Shown}
use Rattle.pop_events.specs.declared.event.Phase.TheVariants.{Play}
use Rattle.pop_events.specs.declared.try_event.TryEvent.{TryEvent}
use Rattle.pop_events.specs.declared.try_event.TryEvent.TheVariants.{But, Check, Key, KeyTotal, Keys, NoTries, Node, Refutation, Set, Stalemate, Threat, Tries, Try, TryTotal, Zugzwang}
use Rattle.pop_print.specs.Events.{event_text, node_text, phase_text, prefix_text, total_text}
use Rattle.pop_print.specs.Moves.{move_text}

-- the text of a first move, with its sign at the end of the line
abbrev pub first_move_text : Shown → List ℕ → List ℕ
first_move_text shown ending = prefix_text 1 ++ move_text shown ++ ending

-- the text of a refutation, two levels below the try
abbrev pub refutation_text : Shown → List ℕ
refutation_text shown = codes "    " ++ prefix_text 2 ++ move_text shown ++ codes "!\n"

-- the text of an event: one whole line
unfoldable pub try_event_text : TryEvent → List ℕ
try_event_text NoTries = codes "no tries in help play\n"
try_event_text (Set event) = event_text event
try_event_text Keys = phase_text Play
try_event_text (Key shown) = first_move_text shown (codes "!\n")
try_event_text (KeyTotal count stopped) = total_text count stopped
try_event_text Tries = codes "tries\n"
try_event_text (Try shown) = first_move_text shown (codes "?\n")
try_event_text (TryTotal count) = codes "tries: " ++ decimal count ++ codes "\n"
try_event_text Check = codes "  check\n"
try_event_text Threat = codes "  threat\n"
try_event_text Zugzwang = codes "  zugzwang\n"
try_event_text (Node depth half shown) = node_text depth half shown
try_event_text But = codes "  but\n"
try_event_text (Refutation shown) = refutation_text shown
try_event_text Stalemate = codes "    stalemate\n"
