use Rattle.pop_text.proofs.Basics.{Uses, ap, arith, count_by, is_line_end, length, length-drop, limit, subst, sym, ◌-◌, ◌∙◌}
use Rattle.pop_text.proofs.Plain.{after_view, skips}
use Rattle.pop_text.proofs.Windows.{view_within}
use Rattle.pop_text.proofs.scanner.Scanner.skip_plain.Goals as goal

pub advance-requires : goal.advance-requires
advance-requires c =
    let plain = c.plain_prefix-plain.ensures in
    let v = view_within c.view.ensures plain.within in
    record { waits = v.few; room = v.room; lines = plain.lines ∙ ap (count_by is_line_end) v.front }

pub returns : goal.returns
returns c =
    let plain = c.plain_prefix-plain.ensures in
    let old = c.args.self.now in
    let done = c.advance.ensures in
    let count = c.plain_prefix-plain.result.count in
    let v = view_within c.view.ensures plain.within in
    let following = after_view c.view.result.now old.window (limit - old.used) count c.view.ensures.bytes (omega (arith, v.room)) in
    skips old c.advance.new.self _ _ (λ had. subst (λ bytes. Uses old c.advance.new.self had had bytes) (sym v.front) (done.uses had)) plain.plain plain.over
    (grind (arith, following, done.window, done.used)) (omega (arith, v.room, done.used)) done.end
    (omega (arith, ap length done.window, length-drop count old.window))
