use Rattle.std.proofs.Common.{Some, arith, sym, ◌∙◌, ◌≡◌}
use Rattle.chess_attacks.proofs.HoldTaken.{taken_all, taken_map, taken_on}
use Rattle.chess_reach.proofs.Blocking.{man_gets}
use Rattle.chess_reach.proofs.Listing.{blocker_on}
use Rattle.chess_reach.proofs.blocks.blocks_of.Goals as goal

pub loop-from-preserved-in-Some-man_at : goal.loop-from-preserved-in-Some-man_at
loop-from-preserved-in-Some-man_at c =
    taken_on _ _ _ _ _ _ (taken_map _ _ _ _ (λ s h allowed x n j t usual is le takes way. c.add_man.ensures.kept n t (h allowed x n j t usual is le takes way)) c.loop-from.invariant)
    c.pop_first.ensures.taken c.in-Some.is (λ allowed x n j t usual is le takes way. c.add_man.ensures.added x.kind j n t (omega (arith, le, c.requires))
    (man_gets _ _ _ c.in-Some-man_at.man _ x (let e : Some x ≡ Some c.in-Some-man_at.man = sym is ∙ sym c.man_at.ensures ∙ c.in-Some-man_at.is in cc)
    (c.chain_of-chain.ensures (omega (arith, c.requires))) allowed n j t usual le takes way))

pub returns : goal.returns
returns c allowed usual = record {
  gets = λ s x n j t small is blocker le takes way. taken_all _ _ _ _ c.loop-from.invariant c.pop_first.ensures.none c.in_default.is s small
      (blocker_on _ _ _ _ s c.side.ensures c.squares.ensures.word small blocker) allowed x n j t usual is le takes way;
}
