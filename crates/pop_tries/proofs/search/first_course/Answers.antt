use Rattle.pop_tries.proofs.Words.{rules, sym, ◌∙◌}
use Rattle.pop_tries.proofs.search.first_course.Goals as goal

pub returns : goal.returns
returns c =
    let fought = rw c.stipulation.ensures.stipulation at (sym c.battle.ensures ∙ c.in-Some.is) in
    rw fought (search rules)
