use Rattle.std.proofs.Common.{length, ◌≡◌, ◌-◌, slice_index_or}
use Rattle.chess_reach.specs.ties.Ways.{IsChain, nowhere}
use Rattle.chess_reach.proofs.ways.chain_of.Given as goal

abbrev pub invariant-loop-n : goal.invariant-loop-n
invariant-loop-n l = record {
  size : length l.chain ≡ 9;
  now : l.now ≡ slice_index_or l.chain (l.n - 1) nowhere;
  chain : IsChain l.fn.are_reborn l.fn.prey l.fn.man l.fn.from (l.n - 1) l.chain;
}
