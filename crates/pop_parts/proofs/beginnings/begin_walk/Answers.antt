use Rattle.pop_parts.proofs.Words.{phase_start, rules, start_sound, ◌≡◌}
use Rattle.pop_parts.proofs.Seeking as seeking
use Rattle.pop_walk.proofs.Walking as walking
use Rattle.pop_parts.proofs.beginnings.begin_walk.Goals as goal

pub returns-clause-seeking : goal.returns-clause-seeking
returns-clause-seeking g c = λ sound there d some room.
    let set : c.set_up.new.board ≡ phase_start c.args.problem.now c.args.phase = search (rules, rw c.if-not-set_up.false at c.set_up.ensures.board) in
    rw (c.push.ensures.items, walking.reverse-push, c.requires.none)
    (seeking.seeking-begun g.R.Rules.rule _ _ (search rules) _ d _ (search rules) (search rules) some room set (rw set (start_sound c.args.problem.now sound c.args.phase)))

pub returns-clause-come : goal.returns-clause-come
returns-clause-come g c = search (rules, walking.reverse-push, seeking.come-begun)
