use Rattle.pop_text.proofs.Basics.{is_in_word, list_all, take, ◌≡◌}
use Rattle.pop_text.proofs.front.are_in_run.Given as goal

-- whether no byte so far is a blank or line end
abbrev pub invariant-loop-byte : goal.invariant-loop-byte
invariant-loop-byte l = l.all ≡ list_all is_in_word (take l.byte-index l.block)
