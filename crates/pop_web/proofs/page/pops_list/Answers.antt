use Rattle.std.proofs.lemmas.Option.{same_Some}
use Rattle.pop_web.proofs.Showing.{call_is_shown}
use Rattle.pop_web.proofs.page.pops_list.Goals as goal

pub returns-clause-lists : goal.returns-clause-lists
returns-clause-lists c enough =
    let text = same_Some _ _ c.new-source.ensures in
    let empty = c.new-sink.ensures in
    call_is_shown _ _ _ _ _ _ _ _ (rw (text, empty, c.depth_of.ensures) at c.list_parts-ending.ensures.headline) c.copy_out.ensures.text
    c.copy_out.ensures.fits c.copy_out.ensures.full c.status_number.ensures
