use Rattle.std.proofs.Common.{Some, subst, ◌≡◌}
use Rattle.chess_reach.proofs.Resting.{fairy_kind, king_dies}
use Rattle.chess_rules.specs.Play.{rebirth}
use Rattle.chess_reach.proofs.ways.homes.Goals as goal

pub returns-in-King : goal.returns-in-King
returns-in-King c s h small on home = king_dies c.args.colour s h (subst (λ k. rebirth c.args.colour k s ≡ Some h) c.in-King.is home) _

pub returns-in-Queen : goal.returns-in-Queen
returns-in-Queen c s h small on home = c.queen_home.ensures s h (subst (λ k. rebirth c.args.colour k s ≡ Some h) c.in-Queen.is home)

pub returns-in-Rook : goal.returns-in-Rook
returns-in-Rook c s h small on home = c.rook_homes.ensures s h small on (subst (λ k. rebirth c.args.colour k s ≡ Some h) c.in-Rook.is home)

pub returns-in-Bishop : goal.returns-in-Bishop
returns-in-Bishop c s h small on home = c.bishop_homes.ensures s h small on (subst (λ k. rebirth c.args.colour k s ≡ Some h) c.in-Bishop.is home)

pub returns-in-Knight : goal.returns-in-Knight
returns-in-Knight c s h small on home = c.knight_homes.ensures s h small on (subst (λ k. rebirth c.args.colour k s ≡ Some h) c.in-Knight.is home)

pub returns-in-Pawn : goal.returns-in-Pawn
returns-in-Pawn c s h small on home = c.pawn_homes.ensures s h small on (subst (λ k. rebirth c.args.colour k s ≡ Some h) c.in-Pawn.is home)

pub returns-in_default : goal.returns-in_default
returns-in_default c s h small on home =
    let d = c.in_default in
    c.fairy_homes.ensures c.args.kind s h (fairy_kind c.args.kind d.not-King d.not-Queen d.not-Rook d.not-Bishop d.not-Knight d.not-Pawn) small on home
