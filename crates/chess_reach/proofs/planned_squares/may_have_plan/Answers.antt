use Rattle.std.proofs.Common.{arith, sym, ◌∙◌}
use Rattle.std.proofs.lemmas.Bool.{false≢true}
use Rattle.chess_attacks.proofs.Bits.{off_zero}
use Rattle.chess_reach.proofs.Planning.{ends_apart, guard_checks, king_arrives, king_moves, king_there, plan_holds}
use Rattle.chess_reach.proofs.planned_squares.may_have_plan.Goals as goal

pub returns-in_default : goal.returns-in_default
returns-in_default c prey p ends plan captures of =
    let k = ends c.args.king.now.from in
    absurd (c.in_default.ensures.fewest k.kind k.square k.moves (omega arith) (omega (arith, king_moves _ prey _ p _ _ _ _ ends plan captures of))
    (omega (arith, king_moves _ prey _ p _ _ _ _ ends plan captures of, of.few)) (king_arrives _ prey _ p _ _ _ _ ends plan captures of) (king_there _ prey _ p _ _ _ _ ends plan captures of c.at.result c.at.ensures.here))

pub returns-in_default-keep_apart : goal.returns-in_default-keep_apart
returns-in_default-keep_apart c prey p ends plan captures of =
    let k = ends c.args.king.now.from in
    let cheap = c.in-Some.ensures.fewest k.kind k.square k.moves (omega arith) (omega (arith, king_moves _ prey _ p _ _ _ _ ends plan captures of))
    (omega (arith, king_moves _ prey _ p _ _ _ _ ends plan captures of, of.few)) (king_arrives _ prey _ p _ _ _ _ ends plan captures of)
    (king_there _ prey _ p _ _ _ _ ends plan captures of c.at.result c.at.ensures.here) in
    absurd (c.in_default-keep_apart.ensures p.men ends 0 _
    (plan_holds _ prey _ p _ _ _ _ ends plan captures of c.first_posts-posts.result 0 c.in-Some.steps c.requires.moves c.show_below_64.ensures c.first_posts-posts.ensures
    (λ t small on. absurd (false≢true (sym (off_zero t) ∙ on))) cheap) (ends_apart _ prey _ p _ _ _ _ ends plan captures of))

pub returns-in-Mate : goal.returns-in-Mate
returns-in-Mate c prey p ends plan captures of =
    let k = ends c.args.king.now.from in
    let cheap = c.in-Some.ensures.fewest k.kind k.square k.moves (omega arith) (omega (arith, king_moves _ prey _ p _ _ _ _ ends plan captures of))
    (omega (arith, king_moves _ prey _ p _ _ _ _ ends plan captures of, of.few)) (king_arrives _ prey _ p _ _ _ _ ends plan captures of)
    (king_there _ prey _ p _ _ _ _ ends plan captures of c.at.result c.at.ensures.here) in
    let (i, lt, checks) = guard_checks _ prey _ p _ _ _ _ ends plan captures of c.in-Mate.is in
    c.can_mate.ensures p.men ends i (c.in-Some-keep_apart.ensures p.men ends _ _
    (plan_holds _ prey _ p _ _ _ _ ends plan captures of c.first_posts-posts.result c.unheld_squares-unheld.result c.in-Some.steps c.requires.moves c.show_below_64.ensures c.first_posts-posts.ensures
    c.unheld_squares-unheld.ensures cheap) (ends_apart _ prey _ p _ _ _ _ ends plan captures of)) lt checks

pub returns-in-Stalemate : goal.returns-in-Stalemate
returns-in-Stalemate c prey p ends plan captures of =
    let k = ends c.args.king.now.from in
    let cheap = c.in-Some.ensures.fewest k.kind k.square k.moves (omega arith) (omega (arith, king_moves _ prey _ p _ _ _ _ ends plan captures of))
    (omega (arith, king_moves _ prey _ p _ _ _ _ ends plan captures of, of.few)) (king_arrives _ prey _ p _ _ _ _ ends plan captures of)
    (king_there _ prey _ p _ _ _ _ ends plan captures of c.at.result c.at.ensures.here) in
    c.can_hold.ensures p.men ends (c.in-Some-keep_apart.ensures p.men ends _ _
    (plan_holds _ prey _ p _ _ _ _ ends plan captures of c.first_posts-posts.result c.unheld_squares-unheld.result c.in-Some.steps c.requires.moves c.show_below_64.ensures c.first_posts-posts.ensures
    c.unheld_squares-unheld.ensures cheap) (ends_apart _ prey _ p _ _ _ _ ends plan captures of))
