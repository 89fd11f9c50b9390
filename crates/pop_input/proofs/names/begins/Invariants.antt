use Rattle.pop_input.proofs.Words.{drop, map, nat_eq, starts_with, to_ascii_lowercase, ◌≡◌}
use Rattle.pop_input.proofs.names.begins.Given as goal

-- what is left to compare decides
abbrev pub invariant-loop-at : goal.invariant-loop-at
invariant-loop-at l = starts_with nat_eq l.name (map to_ascii_lowercase l.word)
    ≡ starts_with nat_eq (drop l.at l.name) (map to_ascii_lowercase (drop l.at l.word))
