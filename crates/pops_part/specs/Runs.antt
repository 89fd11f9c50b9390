-- What a run does (own).
use Rattle.std.specs.Prelude.{◌≡◌, ℕ, List, Option, Bool, true, false}
use Rattle.pop_text.specs.Bytes.{Appends, Begins}
use Rattle.pop_text.specs.Words.{Input}
use Rattle.pop_run.specs.Run.{ReadsUpTo}
use Rattle.pop_parts.specs.Runs.{ReadsItems}
use Rattle.pops_part.specs.declared.program.Ending.{Ending}
use Rattle.pops_part.specs.declared.program.Ending.TheVariants.{OutputFailed}
use Rattle.pop_events.specs.declared.event.Phase.{Phase}
use Rattle.pop_events.specs.declared.event.Phase.TheVariants.{Set, Play}
use Rattle.pop_parts.specs.declared.request.PartRequest.{PartRequest}
use Rattle.pop_settings.specs.declared.pops_part.wanted.NamedParts.{NamedParts}
use Rattle.pop_settings.specs.declared.pops_part.wanted.PhaseName.{PhaseName}
use Rattle.pop_settings.specs.declared.pops_part.wanted.PhaseName.TheVariants.{Set as SetName, Play as PlayName}
use Rattle.pop_settings.specs.declared.pops_part.wanted.Wanted.{Wanted}
use Rattle.pop_settings.specs.declared.pops_part.wanted.Wanted.TheVariants.{List as ListOf, Parts, Faults}

-- the phase with this name
abbrev pub phase_named : PhaseName → Phase
phase_named SetName = Set
phase_named PlayName = Play

-- the request for the parts that are named
abbrev pub request_of : NamedParts → PartRequest
request_of named = record {
  item = named.item;
  phase = phase_named named.phase;
  first = named.first;
  last = named.last;
  depth = named.depth;
}

-- A run writes this text and ends in this way. If the sink fails, it writes a beginning of the text and returns
-- `OutputFailed`.
abbrev pub WritesText : List ℕ → Ending → Option (List ℕ) → Option (List ℕ) → Bool → Ending → Type 0
WritesText text good before now false ending = Appends before now text × (ending ≡ good)
WritesText text good before now true ending = Begins before now text × (ending ≡ OutputFailed)

-- how far a run reads: for the lists as far as a run of `pops`, for parts no further than their item
abbrev pub ReadsWanted : Wanted → Input → List ℕ → Type 0
ReadsWanted (ListOf depth) input taken = ReadsUpTo input taken
ReadsWanted (Parts named) input taken = ReadsItems named.item input taken
ReadsWanted Faults input taken = ReadsUpTo input taken
