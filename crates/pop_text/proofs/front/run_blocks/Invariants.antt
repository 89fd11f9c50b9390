use Rattle.pop_text.proofs.Basics.{is_in_word, length, list_all, take, true, ◌-◌, ◌≡◌, ◌≤◌}
use Rattle.pop_text.proofs.front.run_blocks.Given as goal

-- no blank or line end so far
abbrev pub invariant-loop-count : goal.invariant-loop-count
invariant-loop-count l = record { within : l.count ≤ length l.view; all : list_all is_in_word (take l.count l.view) ≡ true }

-- fewer bytes are left to look at
abbrev pub decreases-loop-count : goal.decreases-loop-count
decreases-loop-count l = length l.view - l.count
