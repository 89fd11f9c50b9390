use Rattle.pop_tries.proofs.Words.{refl, sym, ◌∙◌}
unfoldable use Rattle.pop_tries.specs.ties.Searching.{HoldsAt}
use Rattle.pop_tries.proofs.Contests.{has_reply}
use Rattle.pop_tries.proofs.Goings.{with_event}
use Rattle.pop_tries.proofs.StepsBelow as steps
use Rattle.pop_tries.proofs.below_first.begin_refutations.Goals as goal

pub returns-then-not-has_legal_move : goal.returns-then-not-has_legal_move
unfolding HoldsAt
returns-then-not-has_legal_move g c =
    let h = c.requires.holds in
    let none = rw h.1.board_at at (sym (has_reply _) ∙ (sym c.has_legal_move.ensures.answer ∙ c.if-not-has_legal_move.true)) in
    rw c.has_legal_move.ensures.board (with_event g.R.Rules.rule c.args.task.now _ _ _ _ _ h _ _
    (steps.stalemate_begins g.R.Rules.rule c.args.task.now h.0 c.args.first _ _ none) refl)

pub returns : goal.returns
unfolding HoldsAt
returns g c =
    let h = c.requires.holds in
    let some = rw h.1.board_at at (sym (has_reply _) ∙ (sym c.has_legal_move.ensures.answer ∙ c.if-not-has_legal_move.false)) in
    rw c.has_legal_move.ensures.board (with_event g.R.Rules.rule c.args.task.now _ _ _ _ _ h _ _
    (steps.refutations_begin g.R.Rules.rule c.args.task.now h.0 c.args.first c.start.result _ _ c.start.ensures some) refl)
