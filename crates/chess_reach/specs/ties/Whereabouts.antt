-- Where the search for plans takes a man to be (own).
use Rattle.std.specs.Prelude.{ℕ, ◌==◌, Bool, ◌&&◌, not, if◌then◌else◌}
use Rattle.std.specs.Int.{bit_at}
use Rattle.chess_core.specs.Position.{same_kind}
use Rattle.chess_core.specs.declared.man.Kind.{Kind}
use Rattle.chess_core.specs.declared.man.Kind.TheVariants.{Knight, Pawn}
use Rattle.chess_reach.specs.declared.whereabouts.Whereabouts.{Whereabouts}

-- the squares of a man that is now of kind k and will be of kind j
abbrev pub part : Kind → Kind → Whereabouts → ℕ
part k j w =
    if same_kind k Pawn && not (same_kind j Pawn) then (if same_kind j Knight then w.knight
    else w.queen) else w.unpromoted

-- a man that is now of kind k can be on t as one of kind j
abbrev pub has : Kind → Kind → ℕ → Whereabouts → Bool
has k j t w = bit_at (part k j w) t == 1
