use Rattle.chess_rules.proofs.Chess.{arith, bit_and, bit_at, bit_not, differs, eq-eqb, find_first, sym, w64, ◌==◌, ◌∙◌}
use Rattle.chess_rules.proofs.Arrivals.{goes-blocked, goes-once, goes-twice}
use Rattle.chess_rules.proofs.legality.targets.pawn_steps_to.Goals as goal

pub returns-then-rank-second_rank : goal.returns-then-rank-second_rank
returns-then-rank-second_rank c =
    let w = bit_and (bit_and c.pawn_advances.result (bit_not w64 c.occupied.result)) c.king_leaps.result in
    let first = find_first (λ q. bit_at w q == 1) 0 64 c.in-Some._next (sym c.next_bit.ensures.value ∙ c.in-Some.is) in
    goes-twice c.args.board.now c.args.man c.args.from (omega arith) _ _ _ c.pawn_advances.ensures c.occupied.ensures c.king_leaps.ensures c.in-Some._next first
    (eq-eqb _ _ (sym c.rank.ensures.value ∙ c.if-rank-second_rank.true ∙ c.second_rank.ensures))

pub returns-in_default : goal.returns-in_default
returns-in_default c = grind (arith, goes-blocked)

pub returns : goal.returns
returns c = grind (arith, differs, goes-once)
