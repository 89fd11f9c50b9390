use Rattle.std.proofs.Common.{ap, arith, length, ◌<◌, refl, rules, subst, sym, true, ◌+◌, ◌-◌, ◌∙◌, ◌≡◌, slice_index_or, slice_set}
use Rattle.std.proofs.lemmas.List.{get_or-set_same, length-set}
use Rattle.chess_reach.proofs.Chains.{chain_goes_on, chain_starts}
use Rattle.chess_reach.specs.ties.Whereabouts.{has}
use Rattle.chess_reach.specs.ties.Ways.{IsChain, Leads, nowhere}
use Rattle.chess_reach.proofs.ways.chain_of.Goals as goal

pub loop-n-init : goal.loop-n-init
loop-n-init c = record {
  size = refl;
  now = refl;
  chain = chain_starts c.args.are_reborn c.args.prey c.args.man c.args.from c.at-here.result _ (search rules) c.at-here.ensures.here c.at_rest-now.ensures.reborn;
}

pub loop-n-preserved : goal.loop-n-preserved
loop-n-preserved c =
    let back : c.loop-n.n + 1 - 1 ≡ c.loop-n.n = omega arith in
    let room : c.loop-n.n < length c.loop-n.chain = omega (arith, c.loop-n.invariant.size) in
    let w = c.at_rest-now-in-loop-n.result in
    record {
      size = length-set c.loop-n.chain c.loop-n.n w ∙ c.loop-n.invariant.size;
      now = sym (ap (λ i. slice_index_or (slice_set c.loop-n.chain c.loop-n.n w) i nowhere) back ∙ get_or-set_same c.loop-n.chain c.loop-n.n w nowhere room);
      chain = subst (λ i. IsChain c.args.are_reborn c.args.prey c.args.man c.args.from i (slice_set c.loop-n.chain c.loop-n.n w)) (sym back)
          (chain_goes_on c.args.are_reborn c.args.prey c.args.man c.args.from (c.loop-n.n - 1) c.loop-n.n c.loop-n.chain c.go_on-next.result w c.loop-n.invariant.chain
          (omega arith) room (search rules) (subst (λ b. Leads c.args.prey c.args.man b c.go_on-next.result) c.loop-n.invariant.now c.go_on-next.ensures.reached)
          c.at_rest-now-in-loop-n.ensures.reborn
          (λ j t small had. c.at_rest-now-in-loop-n.ensures.kept j t small
          (c.go_on-next.ensures.kept j t small (subst (λ b. has c.args.man.kind j t b ≡ true) (sym c.loop-n.invariant.now) had))));
    }
