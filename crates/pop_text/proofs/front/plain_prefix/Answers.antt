use Rattle.pop_text.proofs.Basics.{arith, length, refl, slice_range, take_rest}
use Rattle.pop_text.proofs.Plain.{none_plain, none_out, step_more}
use Rattle.pop_text.proofs.front.plain_prefix.Goals as goal

pub loop-plain-init : goal.loop-plain-init
loop-plain-init c = record { within = omega arith; plain = none_plain; over = none_out c.args.view.now; lines = refl }

pub loop-plain-preserved : goal.loop-plain-preserved
loop-plain-preserved c =
    let view = c.args.view.now in
    let left = slice_range view c.loop-plain.plain.count (length view) in
    let following = slice_range left c.gap_prefix-gap.result.count (length left) in
    let reported = c.says_nothing.ensures in
    let yes = c.if-not-says_nothing.false in
    let some = reported.some yes in
    let whole = reported.whole yes in
    rw (c.both-plain.ensures.count, c.both-plain.ensures.line_ends)
    (step_more view left following c.loop-plain.plain.count c.gap_prefix-gap.result.count c.run_front-run.result
    c.loop-plain.plain.line_ends c.gap_prefix-gap.result.line_ends
    (take_rest view c.loop-plain.plain.count) (take_rest left c.gap_prefix-gap.result.count) (λ none. omega (arith, none, some))
    (λ all. omega (arith, all, whole))
    c.gap_prefix-gap.ensures.first.within c.run_front-run.ensures.front.within
    c.gap_prefix-gap.ensures.first.all c.run_front-run.ensures.front.all c.run_front-run.ensures.over (reported.plain yes) c.gap_prefix-gap.ensures.first.lines
    c.loop-plain.invariant)
