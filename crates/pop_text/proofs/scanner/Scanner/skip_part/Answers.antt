use Rattle.pop_text.proofs.Basics.{ap, arith, count_by, is_gap, is_line_end, length, length-drop, list_all, subst, true, ◌∙◌, ◌≡◌}
use Rattle.pop_text.proofs.Windows.{view_some, view_within}
use Rattle.pop_text.proofs.scanner.Scanner.skip_part.Goals as goal

pub advance-requires : goal.advance-requires
advance-requires c =
    let gap = c.gap_prefix-gap.ensures.first in
    let v = view_within c.view.ensures gap.within in
    record { waits = v.few; room = v.room; lines = gap.lines ∙ ap (count_by is_line_end) v.front }

pub returns : goal.returns
returns c =
    let gap = c.gap_prefix-gap.ensures in
    let v = view_within c.view.ensures gap.first.within in
    let done = c.advance.ensures in record {
      uses = λ had. record { bytes = _; all = subst (λ bytes. list_all is_gap bytes ≡ true) v.front gap.first.all; uses = done.uses had };
      end = done.end;
      waits = omega (arith, ap length done.window, length-drop c.gap_prefix-gap.result.count c.args.self.now.window);
      within = omega (arith, v.room, done.used);
      some = λ b rest at is below. omega (arith, view_some c.view.ensures gap.first.within is_gap gap.some b rest at is below, done.used);
    }
