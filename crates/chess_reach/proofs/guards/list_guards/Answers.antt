use Rattle.std.proofs.Common.{Some, ap, arith, length, refl, rules, subst, sym, true, ◌<◌, ◌==◌, ◌∙◌, ◌≡◌}
use Rattle.std.proofs.lemmas.Bool.{cases_eq, false≢true}
use Rattle.std.proofs.Common.{inl, inr}
use Rattle.std.proofs.lemmas.List.{length-set}
use Rattle.std.specs.Int.{bit_at}
use Rattle.chess_attacks.proofs.HoldTaken.{is_taken, taken_all, taken_map, taken_on}
use Rattle.chess_core.specs.Position.{man_on}
use Rattle.chess_reach.proofs.Listing.{listed, man_of_side, now_listed, side_has, still_listed, sum_first, sum_next}
use Rattle.chess_reach.specs.declared.guards.Guard.{Guard}
use Rattle.chess_reach.specs.ties.Ways.{IsChain}
use Rattle.chess_reach.proofs.guards.list_guards.Goals as goal

pub loop-from-init : goal.loop-from-init
loop-from-init c = record {
  few = omega arith;
  size = search rules;
  each = λ i lt. absurd (omega (arith, lt));
  small = λ i lt. absurd (omega (arith, lt));
  chains = λ i lt. absurd (omega (arith, lt));
  all = record { holds = λ s small on off. absurd (false≢true (sym off ∙ ap (λ w. bit_at w s == 1) c.side-rest.ensures ∙ on)) };
  inside = λ s on. subst (λ w. (bit_at w s == 1) ≡ true) c.side-rest.ensures on;
  sum = λ f. omega (arith, sum_first c.args.board.now.men c.args.colour c.side-rest.result f c.side-rest.ensures);
}

pub loop-from-preserved : goal.loop-from-preserved
loop-from-preserved c =
    let old = c.loop-from.invariant in
    let g : Guard = record { kind = c.in-Some-man_at.man.kind; from = c.in-Some.from; chain = c.chain_of.result } in
    let popped = is_taken _ _ _ _ c.pop_first.ensures.taken c.in-Some.is in
    let room : c.loop-from.count < length c.loop-from.guards = omega (arith, old.few, old.size, c.if-count-eq-MOST_GUARDS.false) in
    let mine = sym (side_has c.args.board.now.men c.args.colour _ c.in-Some.from refl popped.small) ∙ old.inside c.in-Some.from popped.here in
    let is = man_of_side c.args.board.now.men c.args.colour c.in-Some.from _ c.in-Some-man_at.man c.man_at.ensures c.in-Some-man_at.is mine in
    record {
      few = omega (arith, room, old.size);
      size = length-set _ _ _ ∙ old.size;
      each = listed c.loop-from.guards c.loop-from.count g room (λ x. man_on c.args.board.now.men x.from ≡ Some (record { colour = c.args.colour; kind = x.kind })) old.each is;
      small = listed c.loop-from.guards c.loop-from.count g room (λ x. x.from < 64) old.small popped.small;
      chains = listed c.loop-from.guards c.loop-from.count g room (λ x. IsChain c.args.are_reborn c.args.prey (record { colour = c.args.colour; kind = x.kind }) x.from c.args.most x.chain) old.chains
          (c.chain_of.ensures (search rules));
      all = taken_on _ _ _ _ _ _ (taken_map _ _ _ _ (λ s there. still_listed c.loop-from.guards c.loop-from.count g room s there) old.all) c.pop_first.ensures.taken c.in-Some.is
          (now_listed c.loop-from.guards c.loop-from.count g room);
      inside = λ s on. old.inside s (elim (cases_eq c.in-Some.from s) [
        | inl same ↦ subst (λ k. (bit_at c.loop-from.rest k == 1) ≡ true) same popped.here
        | inr off ↦ subst (λ b. (b == 1) ≡ true) (popped.others s off) on
      ]);
      sum = λ f. sum_next c.loop-from.guards c.loop-from.count g room f _ _ _ popped (old.sum f);
    }

pub returns : goal.returns
returns c =
    let last = c.loop-from.invariant in
    record {
      few = last.few;
      each = last.each;
      small = last.small;
      chains = last.chains;
      all = λ s small mine. taken_all _ _ _ _ last.all c.pop_first.ensures.none c.in_default.is s small (side_has c.args.board.now.men c.args.colour _ s refl small ∙ mine);
      sum = λ f. omega (arith, last.sum f);
    }
