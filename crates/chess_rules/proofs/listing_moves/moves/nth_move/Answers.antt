use Rattle.chess_attacks.proofs.Basics.{arith, rules, ◌∙◌, ◌≡◌}
use Rattle.chess_rules.proofs.Places.{moves_after-start}
use Rattle.chess_rules.proofs.listing_moves.Calls.{answer_is, step_on}
use Rattle.chess_rules.proofs.listing_moves.moves.nth_move.Goals as goal

pub loop-call-init : goal.loop-call-init
loop-call-init g c = search (rules, moves_after-start)

pub loop-call-preserved : goal.loop-call-preserved
loop-call-preserved g c =
    let rest = rw c.loop-call.invariant.board at c.next-earlier.ensures.rest in
    record {
      board = c.next-earlier.ensures.board ∙ c.loop-call.invariant.board;
      place = step_on g.R.Rules.rule c.args.board.now c.loop-call._call c.loop-call.cursor c.next-earlier.new.self c.next-earlier.result
          c.loop-call.invariant.place c.next-earlier.ensures.place rest;
    }

pub returns-clause-answer : goal.returns-clause-answer
returns-clause-answer g c =
    let all : c.loop-call._call ≡ c.args.number = omega arith in
    let rest = rw c.loop-call.invariant.board at c.next.ensures.rest in
    let at = rw all at c.loop-call.invariant.place in
    answer_is g.R.Rules.rule c.args.board.now c.args.number c.loop-call.cursor c.next.new.self c.next.result at rest
