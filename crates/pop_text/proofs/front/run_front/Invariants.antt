use Rattle.pop_text.proofs.Basics.{is_in_word, list_all, take, true, ◌≡◌}
use Rattle.pop_text.proofs.front.run_front.Given as goal

-- no blank or line end so far
abbrev pub invariant-loop-count : goal.invariant-loop-count
invariant-loop-count l = list_all is_in_word (take l.count l.view) ≡ true
