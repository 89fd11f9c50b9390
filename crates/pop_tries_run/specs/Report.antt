-- The report of an input with tries (own layout).
use Rattle.std.specs.Prelude.{ℕ, List, map}
use Rattle.std.specs.List.{flat_map}
use Rattle.pop_input.specs.Posed.{Posed, rule_of}
use Rattle.pop_print.specs.Tries.{try_event_text}
use Rattle.pop_run.specs.Report.{ItemText, entry_text_by}
use Rattle.pop_run.specs.declared.choice.Choice.{Choice}
use Rattle.pop_tries.specs.Events.{try_events}
use Rattle.pop_tries.specs.Shown.{try_event_of}

-- the greatest number of refutations of a try that can be asked for (own)
abbrev pub most_refutations : ℕ
most_refutations = 200

-- the text of a problem's keys and tries; a try has at most `most` refutations
abbrev pub tries_text : ℕ → Posed → List ℕ
tries_text most posed = flat_map try_event_text
    (map (try_event_of (rule_of posed.condition) posed)
    (try_events (rule_of posed.condition) posed most))

-- the text of an item
abbrev pub tries_entry_text : Choice → ℕ → ItemText
tries_entry_text choice most = entry_text_by (tries_text most) choice
