use Rattle.std.proofs.Common.{subst, sym, ◌∙◌, ◌<◌}
use Rattle.chess_attacks.specs.ties.Lines.{AreReached}
use Rattle.chess_reach.proofs.Guarding.{pawn_guarding, piece_guarding}
use Rattle.chess_reach.proofs.guards.Guard.guarding.Goals as goal

pub returns-then-not-is : goal.returns-then-not-is
returns-then-not-is c j s small be off guards =
    piece_guarding c.args.colour c.other-enemy.result s c.args.square c.args.king c.index.result c.other-enemy.ensures c.index.ensures.value small
    c.show_below_64.ensures (subst (λ n. n < 64) c.index.ensures.value c.index.ensures.small) off
    c.args.self.now.kind j _ (sym c.is.ensures ∙ c.if-not-is.true) be
    (subst (λ k. AreReached (record { colour = c.other-enemy.result; kind = k }) c.args.square c.unblocked_reach.result) c.without_hops-kind.ensures
    c.unblocked_reach.ensures) guards

pub returns : goal.returns
returns c j s small be off guards =
    pawn_guarding c.args.colour c.other-enemy.result s c.args.square c.args.king c.index.result c.other-enemy.ensures c.index.ensures.value small
    c.show_below_64.ensures (subst (λ n. n < 64) c.index.ensures.value c.index.ensures.small) off
    c.args.self.now.kind j _ _ _ (sym c.is.ensures ∙ c.if-not-is.false) be
    (subst (λ k. AreReached (record { colour = c.other-enemy.result; kind = k }) c.args.square c.unblocked_reach.result) c.without_hops-kind.ensures
    c.unblocked_reach.ensures) c.unblocked_reach-2.ensures c.unblocked_reach-3.ensures guards
