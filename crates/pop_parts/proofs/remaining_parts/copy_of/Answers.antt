use Rattle.pop_parts.proofs.Words.{arith, cut-at, length, refl, sym, take_all, ◌+◌, ◌<◌, ◌∙◌}
use Rattle.pop_parts.proofs.remaining_parts.copy_of.Goals as goal

pub new-copy-requires : goal.new-copy-requires
new-copy-requires g c = omega (arith, c.requires.few)

pub loop-k-preserved : goal.loop-k-preserved
loop-k-preserved g c =
    let all = c.args.frames.now.items in
    let less : c.loop-k.k < length all = omega arith in
    let more = cut-at all (c.loop-k.k + 1) c.loop-k.k c.index-deref-k.result refl (rw c.deref.ensures.0 at c.index-deref-k.is) less in
    (c.push.ensures.items ∙ rw c.loop-k.invariant.0 (sym more), omega (arith, c.push.ensures.len, c.loop-k.invariant.1), omega (arith, less))

pub returns : goal.returns
returns g c = c.loop-k.invariant.0 ∙ take_all c.loop-k.k c.args.frames.now.items (omega (arith, c.loop-k-test.false, c.len.ensures.value))
