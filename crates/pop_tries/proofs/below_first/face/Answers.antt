use Rattle.pop_tries.proofs.Words.{ap, arith, rules, sym, ◌∙◌, ◌≡◌, [], false}
unfoldable use Rattle.pop_tries.specs.ties.Searching.{HoldsAt, left_of, rank}
use Rattle.pop_tries.specs.ties.Searching.{after_first, contest_of, event_of_faced}
use Rattle.pop_tries.proofs.Goings.{with_event, without_event}
use Rattle.pop_tries.proofs.StepsBelow as steps
use Rattle.pop_tries.proofs.GoesBelow as goes
use Rattle.std.specs.Prelude.{is_some}
use Rattle.pop_tries.proofs.Contests.{has_reply}
use Rattle.pop_tries.specs.declared.progress.TriesProgress.TheVariants.{Faced, Reply}
use Rattle.pop_tries.specs.declared.progress.First.{First}
use Rattle.pop_tries.proofs.below_first.face.Goals as goal

pub returns-then-not-has_legal_move : goal.returns-then-not-has_legal_move
unfolding HoldsAt rank
returns-then-not-has_legal_move g c =
    let h = c.requires.holds in
    let rule = g.R.Rules.rule in
    let task = c.args.task.now in
    let first = c.args.first in
    let none = rw h.1.board_at at (sym (has_reply _) ∙ (sym c.has_legal_move.ensures.answer ∙ c.if-not-has_legal_move.true)) in
    rw h.1.none (without_event rule task _ _ _ _ _ c.end_replies.ensures.holds
    (steps.faced_without_reply rule task h.0 first [] (steps.shown_without_reply rule task h.0 first none) ∙ c.end_replies.ensures.left)
    (omega (arith, c.end_replies.ensures.rank)))

pub returns-then-is_some : goal.returns-then-is_some
unfolding left_of rank
returns-then-is_some g c =
    let b = c.begin_threats.ensures in
    record { holds = b.holds; emits = b.emits; falls = b.falls }

pub returns : goal.returns
unfolding HoldsAt left_of
returns g c =
    let h = c.requires.holds in
    let rule = g.R.Rules.rule in
    let task = c.args.task.now in
    let first : First = record {
      firsts = c.args.first.firsts;
      by = c.args.first.by;
      undo = c.args.first.undo;
      threat = c.find_threat-threat.result;
      refuting = c.args.first.refuting;
    } in
    let keeps = c.find_threat-threat.ensures.rest in
    let at = keeps.board ∙ (c.has_legal_move.ensures.board ∙ h.1.board_at) in
    let t = rw (c.contest.ensures, c.has_legal_move.ensures.board, h.1.board_at) at c.find_threat-threat.ensures.threat in
    let none : is_some c.find_threat-threat.result ≡ false = search rules in
    let some = rw h.1.board_at at (sym (has_reply _) ∙ (sym c.has_legal_move.ensures.answer ∙ c.if-not-has_legal_move.false)) in
    let no = goes.no_threat_is rule (contest_of task) (after_first rule task first.by) first.threat none t in
    let checked = rw (c.turn.ensures, at) at c.in_check-checked.ensures in
    let holds : HoldsAt rule task (Reply first c.start.result) c.find_threat-threat.new.desk.frames.items c.find_threat-threat.new.desk.board = (
      h.0,
      record {
        first_is = record { came = h.2.came; sound = h.2.sound; refuted = h.2.refuted; placed = h.2.placed };
        threat = t;
        bare = record { board_at = at; none = keeps.frames ∙ h.1.none };
      },
    ) in
    with_event rule task (Faced c.args.first) _ _ _ _ holds _ _
    (steps.faced_without rule task h.0 first c.start.result c.args.desk.now.frames.items c.find_threat-threat.new.desk.frames.items _ c.start.ensures
    (steps.shown_without_threats rule task h.0 first some no))
    (c.faced_event.ensures ∙ ap event_of_faced checked ∙ goes.faced_shown task.problem.stipulation.goal rule (after_first rule task first.by) _)
