-- Aimed legal moves: walking from candidate to candidate skips all others.
use Rattle.chess_mates.proofs.Chess.{Man, Move, Position, Some, and_left, arith, bit_at, cases_Bool, false, first_of_and, is_fairy, king_square, man_on, may_check_from, off_second, off_zero, on_first, other, other_twice, word_has, ℕ, ◌<◌, ◌==◌, ◌≡◌}
use Rattle.chess_attacks.specs.ties.Lines.{AreReached}
use Rattle.chess_mates.specs.ties.Aims.{aims_at_king}
use Rattle.chess_rules.proofs.Chess.{second_fails}
use Rattle.chess_rules.proofs.Filtering.{kept_after}

-- a man other than a fairy man doesn't attack the king from where it wouldn't reach it on any board
pub never_aimed : (p : Position) (m : Move) (x : Man) (k w : ℕ) → man_on p.men m.from ≡ Some x → king_square p.men (other p.turn) ≡ Some k → k < 64
    → AreReached (record { colour = p.turn; kind = x.kind }) m.to w → is_fairy x.kind ≡ false → (bit_at w k == 1) ≡ false → aims_at_king p m ≡ false
unfolding aims_at_king may_check_from
never_aimed p m x k w here king small reached plain off = grind (arith, here, king, plain, off, other_twice p.turn, reached.inside p.men k small)

-- for the candidates of one origin
pub ruleset aimed_candidates = (and_left, cases_Bool, off_second, off_zero, on_first, second_fails, word_has)

-- for the next move
pub ruleset next_aimed = (first_of_and, kept_after)
