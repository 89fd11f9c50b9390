use Rattle.std.proofs.Common.{arith, refl, rules, subst, sym}
use Rattle.chess_reach.proofs.Planning.{plan_again, quest_with}
use Rattle.chess_reach.proofs.Prey.{found_with, found_without}
use Rattle.chess_reach.specs.declared.hold.Ending.{Ending}
use Rattle.chess_reach.specs.ties.Hold.{Captures}
use Rattle.chess_reach.proofs.planned_squares.planned_near.Goals as goal

pub returns-then-not-may_lure : goal.returns-then-not-may_lure
returns-then-not-may_lure c k ends begun low plan near =
    found_without _ _ _ c.args.board.now _ _ _ k ends plan c.prey-prey.result c.lures-lures.result _ begun.few begun.usual begun.blocks c.prey-prey.ensures.reborn
    c.prey-prey.ensures.here c.lures-lures.ensures _ c.planned_part-planned.result c.planned_part-planned.type_inv low near (c.may_lure.ensures.none (search rules))
    (λ captures. c.planned_part-planned.ensures.planned c.prey-prey.result c.args.board.now k ends
    (quest_with _ c.args.board.now c.args.quest.now _ _ _ _ _ refl refl refl begun c.in-Some.ensures (omega arith)) low plan captures near)

pub returns : goal.returns
returns c k ends begun low plan near =
    let ending = c.planned_part-planned.ensures.ending in
    let colour = c.planned_part-planned.ensures.colour in
    found_with _ _ _ c.args.board.now _ _ _ k ends plan c.prey-prey.result c.lures-lures.result _ begun.few begun.usual begun.blocks c.prey-prey.ensures.reborn
    c.prey-prey.ensures.here c.lures-lures.ensures _ c.planned_part-planned.result c.planned_part.result c.planned_part-planned.type_inv low near
    (λ captures. c.planned_part-planned.ensures.planned c.prey-prey.result c.args.board.now k ends
    (quest_with _ c.args.board.now c.args.quest.now _ _ _ _ _ refl refl refl begun c.in-Some.ensures (omega arith)) low plan captures near)
    (λ captures left. c.planned_part.ensures.planned c.lures-lures.result c.args.board.now k ends
    (quest_with _ c.args.board.now c.args.quest.now _ _ _ _ _ ending colour c.planned_part-planned.ensures.blockable begun c.in-Some-list_guards.ensures (omega arith)) low
    (plan_again c.args.board.now c.args.quest.now.colour _ c.args.quest.now.ending _ c.args.ours c.args.theirs k ends colour ending plan)
    (subst (λ (e : Ending). Captures e.are_reborn c.lures-lures.result 1 c.args.board.now c.planned_part-planned.new.quest.colour ends) (sym ending)
    (subst (λ d. Captures c.args.quest.now.ending.are_reborn c.lures-lures.result 1 c.args.board.now d ends) (sym colour) captures)) left)
