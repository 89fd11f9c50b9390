use Rattle.pop_tries.proofs.Words.{Bool, Move, Some, [], filter, legal_moves, subst, sym, ◌∙◌}
use Rattle.pop_tries.specs.ties.FewPlaces.{AreAt}
use Rattle.pop_tries.specs.ties.MoveSets.{HoldAll}
use Rattle.pop_tries.proofs.FewPlaces.{mating_wins}
use Rattle.pop_tries.proofs.threats.winning_moves.Goals as goal

pub returns-then-is_for_mate-clause-held : goal.returns-then-is_for_mate-clause-held
returns-then-is_for_mate-clause-held g c =
    let rule = g.R.Rules.rule in
    let p = c.args.desk.now.board in
    let same = mating_wins rule p c.args.contest c.args.length c.requires.length c.if-length-eq1.true (sym c.is_for_mate.ensures ∙ c.if-is_for_mate.true) in
    subst (λ (test : Move → Bool). HoldAll rule p test (Some c.mating_moves.result.moves)) (sym same) c.mating_moves.ensures.held

pub returns-then-is_for_mate-clause-places : goal.returns-then-is_for_mate-clause-places
returns-then-is_for_mate-clause-places g c =
    let rule = g.R.Rules.rule in
    let p = c.args.desk.now.board in
    let same = mating_wins rule p c.args.contest c.args.length c.requires.length c.if-length-eq1.true (sym c.is_for_mate.ensures ∙ c.if-is_for_mate.true) in
    subst (λ (test : Move → Bool). AreAt c.mating_moves.result.places (filter test (legal_moves rule p)) []) (sym same) c.mating_moves.ensures.places
