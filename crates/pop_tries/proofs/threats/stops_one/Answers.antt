use Rattle.pop_tries.proofs.Words.{may_be_made, keeps_win, not, position_after, rules, sym, works, ◌∙◌, ◌≡◌}
use Rattle.pop_battle.specs.Chess.{set_start}
use Rattle.pop_tries.specs.Events.{chess_passing}
use Rattle.pop_tries.specs.ties.Contests.{game_in, moves_of}
use Rattle.pop_tries.proofs.Contests.{defence_by_loop, passed_well_formed, placed}
use Rattle.pop_tries.proofs.Loops.{found, not_asked, not_there}
use Rattle.pop_tries.proofs.threats.stops_one.Goals as goal

pub works-still-requires : goal.works-still-requires
works-still-requires g c =
    let legal = rw c.loop-tried.invariant.0 at c.in-Some.ensures.next.1 in
    let on = placed g.R.Rules.rule (set_start c.args.desk.now.board) _ _ (passed_well_formed c.args.desk.now.board c.requires.well_formed) legal
    c.in-Some.ensures.place in
    (search rules, (c.requires.threat.timed.fits, ((on.0, on.1), (c.play-undo.ensures.well_formed, search (rules, c.requires.threat.timed.most)))))

pub unplay-requires : goal.unplay-requires
unplay-requires g c =
    let back : c.unpass.new.board ≡ c.args.desk.now.board = c.unpass.ensures.before c.args.desk.now.board (search rules) c.loop-tried.invariant.1 in
    record {
      before = c.args.desk.now.board;
      well_formed = c.requires.well_formed;
      pseudo = may_be_made _ _ _ c.requires.legal;
      after = c.works-still.ensures.rest.board ∙ (rw back at c.play-undo.ensures.after);
      undo = rw back at c.play-undo.ensures.undo;
    }

pub returns-then-not-still-clause-defence : goal.returns-then-not-still-clause-defence
returns-then-not-still-clause-defence g c =
    let next = rw c.loop-tried.invariant.0 at c.in-Some.ensures.next in
    let on = placed g.R.Rules.rule (set_start c.args.desk.now.board) _ _ (passed_well_formed c.args.desk.now.board c.requires.well_formed) next.1
    c.in-Some.ensures.place in
    let back : c.unpass.new.board ≡ c.args.desk.now.board = c.unpass.ensures.before c.args.desk.now.board (search rules) c.loop-tried.invariant.1 in
    let there = found (λ m. keeps_win c.args.contest.battle (game_in g.R.Rules.rule c.args.contest) (moves_of c.args.threat.length)
    (position_after g.R.Rules.rule (set_start c.args.desk.now.board) m)) c.in-Some.tried _ _ next.0
    (λ t. not (works c.args.contest.battle (game_in g.R.Rules.rule c.args.contest) c.args.contest.stipulation.n (chess_passing g.R.Rules.rule)
    (moves_of c.args.threat.length) (position_after g.R.Rules.rule c.args.desk.now.board c.args.by) t)) _ (search rules) (search (rules, back, on.2)) c.loop-tried.invariant.4 in
    sym (defence_by_loop g.R.Rules.rule c.args.contest c.args.desk.now.board c.args.threat.length c.args.by c.requires.threat.timed ∙ there)

pub loop-tried-preserved-then-is_threat : goal.loop-tried-preserved-then-is_threat
loop-tried-preserved-then-is_threat g c =
    let next = rw c.loop-tried.invariant.0 at c.in-Some.ensures.next in
    let on = placed g.R.Rules.rule (set_start c.args.desk.now.board) _ _ (passed_well_formed c.args.desk.now.board c.requires.well_formed) next.1
    c.in-Some.ensures.place in
    let back : c.unpass.new.board ≡ c.args.desk.now.board = c.unpass.ensures.before c.args.desk.now.board (search rules) c.loop-tried.invariant.1 in
    let home : c.unplay.new.board ≡ c.args.desk.now.board = c.unplay.ensures.before c.args.desk.now.board c.requires.well_formed
    (may_be_made _ _ _ c.requires.legal) (c.works-still.ensures.rest.board ∙ (rw back at c.play-undo.ensures.after))
    (rw back at c.play-undo.ensures.undo) in
    let none = not_there (λ m. keeps_win c.args.contest.battle (game_in g.R.Rules.rule c.args.contest) (moves_of c.args.threat.length)
    (position_after g.R.Rules.rule (set_start c.args.desk.now.board) m)) c.in-Some.tried _ _ next.0
    (λ t. not (works c.args.contest.battle (game_in g.R.Rules.rule c.args.contest) c.args.contest.stipulation.n (chess_passing g.R.Rules.rule)
    (moves_of c.args.threat.length) (position_after g.R.Rules.rule c.args.desk.now.board c.args.by) t)) _ (search rules) (search (rules, back, on.2)) c.loop-tried.invariant.4 in
    (search (rules, home), search (rules, home), search rules, search rules, none)

pub loop-tried-preserved : goal.loop-tried-preserved
loop-tried-preserved g c =
    let next = rw c.loop-tried.invariant.0 at c.in-Some.ensures.next in
    let none = not_asked (λ m. keeps_win c.args.contest.battle (game_in g.R.Rules.rule c.args.contest) (moves_of c.args.threat.length)
    (position_after g.R.Rules.rule (set_start c.args.desk.now.board) m)) c.in-Some.tried _ _ next.0
    (λ t. not (works c.args.contest.battle (game_in g.R.Rules.rule c.args.contest) c.args.contest.stipulation.n (chess_passing g.R.Rules.rule)
    (moves_of c.args.threat.length) (position_after g.R.Rules.rule c.args.desk.now.board c.args.by) t)) _ (search rules) c.loop-tried.invariant.4 in
    (search rules, search rules, search rules, search rules, none)

pub returns-then-not-still-clause-rest : goal.returns-then-not-still-clause-rest
returns-then-not-still-clause-rest g c =
    let back : c.unpass.new.board ≡ c.args.desk.now.board = c.unpass.ensures.before c.args.desk.now.board (search rules) c.loop-tried.invariant.1 in
    record {
      board = c.unplay.ensures.before c.args.desk.now.board c.requires.well_formed (may_be_made _ _ _ c.requires.legal)
          (c.works-still.ensures.rest.board ∙ (rw back at c.play-undo.ensures.after)) (rw back at c.play-undo.ensures.undo);
      frames = c.works-still.ensures.rest.frames ∙ (c.is_threat.ensures.rest.frames ∙ c.loop-tried.invariant.2);
    }
