use Rattle.pop_walk.proofs.Words.{rules, sym, ◌∙◌}
use Rattle.pop_walk.proofs.Walking.{last_on_top}
use Rattle.pop_walk.proofs.walk.next_of_top.Goals as goal

pub next_of-requires : goal.next_of-requires
next_of-requires g c =
    let top = c.requires.cursor _ _ (last_on_top c.args.frames.now.items c.index-as_mut_slice-last.result (search rules) c.requires.«open») in
    search (rules, rw (c.index-as_mut_slice-last.is ∙ sym c.top.view_is) at top)
