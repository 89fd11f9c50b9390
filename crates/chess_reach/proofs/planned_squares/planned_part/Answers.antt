use Rattle.std.proofs.Common.{ap, arith, subst, sym, ◌∙◌}
use Rattle.std.proofs.lemmas.Bool.{false≢true}
use Rattle.chess_attacks.proofs.Bits.{on_left, on_right}
use Rattle.chess_attacks.proofs.HoldTaken.{is_taken, taken_all, taken_map, taken_on}
use Rattle.chess_reach.proofs.Planning.{bit_here}
use Rattle.chess_reach.proofs.Prey.{quest_at}
use Rattle.chess_reach.specs.Plans.{IsPlan}
use Rattle.chess_reach.specs.declared.hold.Ending.{Ending}
use Rattle.chess_reach.specs.declared.hold.Quest.{Quest}
use Rattle.chess_reach.specs.ties.Hold.{Captures}
use Rattle.chess_reach.proofs.planned_squares.planned_part.Goals as goal

pub loop-to-preserved-then-may_have_plan : goal.loop-to-preserved-then-may_have_plan
loop-to-preserved-then-may_have_plan c =
    let old = c.loop-to.invariant in
    let popped = is_taken _ _ _ _ c.pop_first.ensures.taken c.in-Some.is in
    record {
      count = omega (arith, old.count, ap (λ (x : Quest). x.count) c.seek.ensures);
      ending = ap (λ (x : Quest). x.ending) c.seek.ensures ∙ old.ending;
      colour = ap (λ (x : Quest). x.colour) c.seek.ensures ∙ old.colour;
      blockable = ap (λ (x : Quest). x.blockable) c.seek.ensures ∙ old.blockable;
      of = λ prey p of. quest_at prey p c.loop-to.quest c.seek.new.self _ _ _ c.in-Some.to c.seek.ensures (old.of prey p of);
      taken = taken_on _ _ _ _ _ _ (taken_map _ _ _ _ (λ s found prey p ends of plan captures. on_left _ _ s (found prey p ends of plan captures)) old.taken)
          c.pop_first.ensures.taken c.in-Some.is (λ prey p ends of plan captures. on_right _ _ _ (bit_here _ _ c.index.ensures.value popped.small));
    }

pub loop-to-preserved : goal.loop-to-preserved
loop-to-preserved c =
    let old = c.loop-to.invariant in
    let colour = ap (λ (x : Quest). x.colour) c.seek.ensures ∙ old.colour in
    let ending = ap (λ (x : Quest). x.ending) c.seek.ensures ∙ old.ending in
    let king = ap (λ (x : Quest). x.king) c.seek.ensures in
    record {
      count = omega (arith, old.count, ap (λ (x : Quest). x.count) c.seek.ensures);
      ending = ending;
      colour = colour;
      blockable = ap (λ (x : Quest). x.blockable) c.seek.ensures ∙ old.blockable;
      of = λ prey p of. quest_at prey p c.loop-to.quest c.seek.new.self _ _ _ c.in-Some.to c.seek.ensures (old.of prey p of);
      taken = taken_on _ _ _ _ _ _ old.taken c.pop_first.ensures.taken c.in-Some.is (λ prey p ends of plan captures. absurd (false≢true (sym c.if-may_have_plan.false
          ∙ c.may_have_plan.ensures prey p ends
          (subst (λ k. IsPlan c.seek.new.self.ending.goal c.seek.new.self.ending.standing_checks c.seek.new.self.ending.are_reborn p c.seek.new.self.colour c.args.ours c.args.theirs k ends) (sym king)
          (subst (λ (e : Ending). IsPlan e.goal e.standing_checks e.are_reborn p c.seek.new.self.colour c.args.ours c.args.theirs c.in-Some.to ends) (sym ending)
          (subst (λ d. IsPlan c.args.quest.now.ending.goal c.args.quest.now.ending.standing_checks c.args.quest.now.ending.are_reborn p d c.args.ours c.args.theirs c.in-Some.to ends) (sym colour) plan)))
          (subst (λ (e : Ending). Captures e.are_reborn prey c.args.captured p c.seek.new.self.colour ends) (sym ending)
          (subst (λ d. Captures c.args.quest.now.ending.are_reborn prey c.args.captured p d ends) (sym colour) captures))
          (quest_at prey p c.loop-to.quest c.seek.new.self _ _ _ c.in-Some.to c.seek.ensures (old.of prey p of)))));
    }

pub returns-clause-planned : goal.returns-clause-planned
returns-clause-planned c prey p k ends of low plan captures on =
    taken_all _ _ _ _ c.loop-to.invariant.taken c.pop_first.ensures.none c.in_default.is k low on prey p ends of plan captures
