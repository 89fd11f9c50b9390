-- Steps of the king that give no check, found without playing them.
use Rattle.chess_mates.proofs.Chess.{AreOpen, DescribesMen, Colour, IsUnreached, IsWellFormed, King, Man, Position, RuleSet, Some, and_from, and_parts, ap, arith, bit_and, bit_at, capture_square, captures_are_reborn, cond-true, exposed_is, false, is_arrival, is_legal, is_open, king_after, king_square, leaps, list_any, man_on, not, not_attacked, on_first, other, queen_steps, rules, same_colour, same_colour-true, same_kind, occupancy_after, subst, sym, true, word, word_has, ℕ, ◌<◌, ◌==◌, ◌≡◌}
use Rattle.chess_flights.proofs.Fleeing.{IsKingStep, king_on, may_step, on_second, reached_near, simple_step, step_to}

-- for the word of a king's steps
pub open_steps : (rule : RuleSet) (p : Position) (k n w : ℕ) → captures_are_reborn rule ≡ false → n ≡ word (λ t. list_any (leaps k t) queen_steps)
    → w ≡ word (is_arrival rule p k) → (x : Man) → man_on p.men k ≡ Some x → same_kind x.kind King ≡ true → AreOpen rule p.men p.turn k (bit_and n w)
unfolding is_open is_arrival
open_steps rule p k n w circe near at x here king =
    grind (arith, reached_near p.men p.turn k n, word_has (is_arrival rule p k) w, on_first n w, on_second n w, near, at, here, and_parts, and_from)

-- a step to a square where no enemy reaches the king is legal
pub step_legal : (rule : RuleSet) (p : Position) (x : Man) (k t w : ℕ) → IsWellFormed p → king_square p.men p.turn ≡ Some k → man_on p.men k ≡ Some x
    → ((y : Man) → man_on p.men k ≡ Some y → same_kind y.kind King ≡ true → AreOpen rule p.men p.turn k w)
    → (t < 64) × ((bit_at w t == 1) ≡ true) → IsUnreached p x k t → is_legal rule p (step_to k t) ≡ true
unfolding is_legal
step_legal rule p x k t w well at here ways on u =
    let side : (same_colour x.colour p.turn ≡ true) × (same_kind x.kind King ≡ true) = grind (arith, king_on p.men p.turn k at) in
    let near = (ways x here side.1).inside t on.0 on.1 in
    let i : IsKingStep rule p x k t = search rules in
    let parts = simple_step rule p x k t i in
    let king : king_after p x (step_to k t) ≡ Some t = cond-true (same_kind x.kind King) _ _ side.1 in
    let mine : x.colour ≡ p.turn = same_colour-true x.colour p.turn side.0 in
    and_from _ _ (may_step rule p x k t i) (ap not (sym (exposed_is rule p x (step_to k t) t false well (may_step rule p x k t i) on.0 here
    (grind (arith, parts.castling, parts.rebirth)) king (λ men are seen. sym (not_attacked rule men (other x.colour) t (rw mine (u.none men
    (subst (λ (c : Colour). DescribesMen p.men men (other c) (occupancy_after p.men k (capture_square p x (step_to k t)) t)) mine seen))))))))
