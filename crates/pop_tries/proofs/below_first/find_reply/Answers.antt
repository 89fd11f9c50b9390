use Rattle.pop_tries.proofs.Words.{arith, below, refl, reply, rules, ◌∙◌, ◌∷◌, [], position_after}
unfoldable use Rattle.pop_tries.specs.ties.Searching.{HoldsAt, rank}
use Rattle.pop_tries.specs.ties.Searching.{after_first, contest_of}
use Rattle.pop_tries.proofs.Goings.{with_event, without_event}
use Rattle.pop_tries.proofs.StepsBelow as steps
use Rattle.pop_tries.proofs.GoesBelow as goes
use Rattle.chess_rules.specs.ties.Places.{moves_after}
use Rattle.pop_tries.specs.ties.FirstMoves.{is_shown}
use Rattle.pop_tries.proofs.Starts.{reply_comes}
use Rattle.pop_tries.proofs.below_first.find_reply.Goals as goal

pub returns-in_default : goal.returns-in_default
unfolding HoldsAt rank
returns-in_default g c =
    let h = c.requires.holds in
    let rule = g.R.Rules.rule in
    let task = c.args.task.now in
    let bare = goes.still_bare c.next_reply-found.ensures.rest h.1.bare in
    let next = rw (c.contest.ensures, h.1.bare.board_at) at c.in_default.ensures.next in
    rw bare.none (without_event rule task _ _ _ _ _ c.end_replies.ensures.holds
    (steps.replies_over rule task h.0 c.args.first c.args.place _ next ∙ c.end_replies.ensures.left) (omega (arith, c.end_replies.ensures.rank)))

pub returns : goal.returns
unfolding HoldsAt
returns g c =
    let h = c.requires.holds in
    let rule = g.R.Rules.rule in
    let task = c.args.task.now in
    let first = c.args.first in
    let q = after_first rule task first.by in
    let by = c.in-Some.by in
    let bare = goes.still_bare c.next_reply-found.ensures.rest h.1.bare in
    let next = rw (c.contest.ensures, h.1.bare.board_at) at c.in-Some.ensures.next in
    let played = rw bare.board_at at c.play_reply-undo.ensures in
    let met = goes.shown_is_met rule (contest_of task) q by
    (goes.head_meets (is_shown rule (contest_of task) q) (moves_after rule q c.args.place) by _ next.0) in
    with_event rule task _ _ _ _ _ (
      h.0,
      record { first_is = h.1.first_is; threat = h.1.threat; walking = played.walking },
      record { sound = h.1.first_is.sound; legal = next.1; led = refl; undone = played.undo },
    ) _ (below first.by (reply (by ∷ [])))
    (search (
      rules,
      steps.reply_found rule task h.0 first c.args.place _ by c.args.desk.now.frames.items c.play_reply-undo.new.desk.frames.items
          c.play_reply-undo.result.0 next.0 (reply_comes rule task.problem task.battle h.0 (position_after rule q by) _ met played.come),
    )) played.event
