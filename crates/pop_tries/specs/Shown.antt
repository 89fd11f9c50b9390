-- The events of a problem with its tries, as they are shown (own).
use Rattle.std.specs.Prelude.{◌+◌, length}
use Rattle.chess_core.specs.Position.{Position}
use Rattle.chess_core.specs.declared.man.Move.{Move}
use Rattle.chess_attacks.specs.RuleSet.{RuleSet}
use Rattle.chess_rules.specs.Play.{position_after}
use Rattle.pop_battle.specs.Chess.{set_start}
use Rattle.pop_events.specs.Shown.{shown_move}
use Rattle.pop_input.specs.Posed.{Posed}
use Rattle.pop_walk.specs.Events.{event_of, last_shown, play_start}
use Rattle.pop_stipulation.specs.declared.stipulation.Goal.{Goal}
use Rattle.pop_tries.specs.Tries.{Below, but, check, refutation, reply, stalemate, threat, threatened, zugzwang}
use Rattle.pop_tries.specs.Events.{BareTryEvent, attempt, below, key, key_total, keys, no_tries, set_event, tries, try_total}
use Rattle.pop_events.specs.declared.try_event.TryEvent.{TryEvent}
use Rattle.pop_events.specs.declared.try_event.TryEvent.TheVariants.{NoTries, Set, Keys, Key, KeyTotal, Tries, Try, TryTotal, Check, Threat, Zugzwang, Node, But, Refutation, Stalemate}

-- what is shown below a first move that leads to q: a reply has one move above it, and a threat two, since
-- Black has passed
abbrev pub shown_below_first : Goal → RuleSet → Position → Below Move → TryEvent
shown_below_first goal rule q check = Check
shown_below_first goal rule q threat = Threat
shown_below_first goal rule q zugzwang = Zugzwang
shown_below_first goal rule q (threatened path) =
    Node (length path + 1) (length path + 2) (last_shown goal rule (set_start q) path)
shown_below_first goal rule q (reply path) =
    Node (length path) (length path + 1) (last_shown goal rule q path)
shown_below_first goal rule q but = But
shown_below_first goal rule q (refutation d) = Refutation (shown_move goal rule q d)
shown_below_first goal rule q stalemate = Stalemate

-- an event as it is shown
abbrev pub try_event_of : RuleSet → Posed → BareTryEvent → TryEvent
try_event_of rule problem no_tries = NoTries
try_event_of rule problem (set_event event) = Set (event_of rule problem event)
try_event_of rule problem keys = Keys
try_event_of rule problem (key m) =
    Key (shown_move problem.stipulation.goal rule (play_start problem) m)
try_event_of rule problem (key_total count stopped) = KeyTotal count stopped
try_event_of rule problem tries = Tries
try_event_of rule problem (attempt m) =
    Try (shown_move problem.stipulation.goal rule (play_start problem) m)
try_event_of rule problem (try_total count) = TryTotal count
try_event_of rule problem (below m shown) = shown_below_first problem.stipulation.goal rule
    (position_after rule (play_start problem) m) shown
