use Rattle.pop_input.proofs.Words.{castling_squares, has_castling_rights, fold, mark_unmoved, none_unmoved, take, ◌≡◌}
use Rattle.pop_input.proofs.draft.Draft.unmoved.Given as goal

-- the castling squares so far are marked
abbrev pub invariant-loop-square : goal.invariant-loop-square
invariant-loop-square l = l.set ≡ fold (λ set square. mark_unmoved set square (has_castling_rights l.self.men l.self.castling_forbidden square)) none_unmoved
    (take l.square-index castling_squares)
