use Rattle.pop_input.proofs.Words.{arith, length, sym, ◌<◌, ◌∙◌}
use Rattle.pop_input.proofs.Naming.{begins_all, begins_more, begins_stop, too_long}
use Rattle.pop_input.proofs.names.begins.Goals as goal

pub returns-then-word-name : goal.returns-then-word-name
returns-then-word-name c = sym (too_long c.args.name.now c.args.word.now c.if-word-name.true)

pub returns-then-name-at : goal.returns-then-name-at
returns-then-name-at c =
    let within : c.loop-at.at < length c.args.name.now = omega arith in
    sym (c.loop-at.invariant ∙ begins_stop c.args.name.now c.args.word.now c.loop-at.at within c.loop-at-test.true
    (λ same. c.if-name-at.true (sym same ∙ sym c.to_ascii_lowercase.ensures.value)))

pub loop-at-preserved : goal.loop-at-preserved
loop-at-preserved c =
    let within : c.loop-at.at < length c.args.name.now = omega arith in
    c.loop-at.invariant ∙ begins_more c.args.name.now c.args.word.now c.loop-at.at within c.loop-at-test.true
    (sym c.to_ascii_lowercase.ensures.value ∙ sym c.if-name-at.false)

pub returns : goal.returns
returns c = sym (c.loop-at.invariant ∙ begins_all c.args.name.now c.args.word.now c.loop-at.at (omega arith))
