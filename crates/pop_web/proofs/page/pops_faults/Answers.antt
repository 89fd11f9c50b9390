use Rattle.std.proofs.lemmas.Option.{same_Some}
use Rattle.pop_web.proofs.Showing.{call_is_shown}
use Rattle.pop_web.proofs.page.pops_faults.Goals as goal

pub returns-clause-shows : goal.returns-clause-shows
returns-clause-shows c enough =
    let text = same_Some _ _ c.new-source.ensures in
    let empty = c.new-sink.ensures in (
      _,
      call_is_shown _ _ _ _ _ _ _ _ (rw (text, empty) at c.list_faults-ending.ensures.headline) c.copy_out.ensures.text
          c.copy_out.ensures.fits c.copy_out.ensures.full c.status_number.ensures,
    )
