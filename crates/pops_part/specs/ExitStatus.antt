-- The exit status of the program (own).
use Rattle.std.specs.Prelude.{ℕ, List, [], Bool, false, true, codes}
use Rattle.pop_run.specs.declared.status.Status.{Status}
use Rattle.pop_run.specs.declared.status.Status.TheVariants.{Sound, Faulty as SomeFaulty, InputFailed as ListBroken, OutputFailed as ListCut}
use Rattle.pop_parts.specs.declared.request.Outcome.{Outcome}
use Rattle.pop_parts.specs.declared.request.Outcome.TheVariants.{Shown, NoItem, FaultyItem, NoPhase, NoPart, InputFailed as PartsBroken, OutputFailed as PartsCut}
use Rattle.pops_part.specs.declared.program.Ending.{Ending}
use Rattle.pops_part.specs.declared.program.Ending.TheVariants.{Done, Faulty, Refused, InputFailed, OutputFailed}

-- how a run that lists parts or faults ends
abbrev pub ending_of_list : Status → Ending
ending_of_list Sound = Done
ending_of_list SomeFaulty = Faulty
ending_of_list ListBroken = InputFailed
ending_of_list ListCut = OutputFailed

-- how a run that shows parts ends
abbrev pub ending_of_parts : Outcome → Ending
ending_of_parts Shown = Done
ending_of_parts PartsBroken = InputFailed
ending_of_parts PartsCut = OutputFailed
ending_of_parts NoItem = Refused NoItem
ending_of_parts FaultyItem = Refused FaultyItem
ending_of_parts NoPhase = Refused NoPhase
ending_of_parts NoPart = Refused NoPart

-- the exit status of an ending
abbrev pub status_of : Ending → ℕ
status_of Done = 0
status_of Faulty = 1
status_of (Refused outcome) = 2
status_of InputFailed = 3
status_of OutputFailed = 3

-- how a run ends, given how it ended before the last flush and whether the flush succeeded
abbrev pub ending_flushed : Ending → Bool → Ending
ending_flushed ending true = ending
ending_flushed ending false = OutputFailed

-- the message on standard error
abbrev pub message_of : Ending → List ℕ
message_of Done = []
message_of Faulty = []
message_of InputFailed = []
message_of OutputFailed = codes "pops-part: output failed\n"
message_of (Refused NoItem) = codes "pops-part: the input has no such item\n"
message_of (Refused FaultyItem) = codes "pops-part: the item is faulty\n"
message_of (Refused NoPhase) = codes "pops-part: the problem has no such phase\n"
message_of (Refused other) = codes "pops-part: the phase has no such part\n"
