use Rattle.chess_threats.proofs.Chess.{IsUnhopped, bit_at, true, ℕ, ◌<◌, ◌==◌, ◌≡◌}
use Rattle.chess_threats.proofs.king_zone.landings_among.Given as goal

abbrev pub invariant-loop-to : goal.invariant-loop-to
invariant-loop-to l = (f : ℕ) → f < 64 → (bit_at l.found f == 1) ≡ true → IsUnhopped l.king_attack l.king f l.springboards

abbrev pub decreases-loop-to : goal.decreases-loop-to
decreases-loop-to l = l.rest
