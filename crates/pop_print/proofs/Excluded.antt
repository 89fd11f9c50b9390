-- What the clauses exclude: a board that leaves a rank out or draws another in its place.
use Rattle.std.proofs.Common.{◌≡◌, [], ◌∷◌, List, Option, None, refl}
use Rattle.std.specs.List.{repeat}
use Rattle.std.specs.Prelude.{codes}
use Rattle.chess_core.specs.Position.{with_man}
use Rattle.chess_core.specs.SquareNames.{a1}
use Rattle.chess_core.specs.declared.man.Colour.TheVariants.{White}
use Rattle.chess_core.specs.declared.man.Kind.TheVariants.{King}
use Rattle.chess_core.specs.declared.man.Man.{Man}
use Rattle.pop_print.specs.Heads.{board_text, rank_text}

-- a board with only a white king on a1
abbrev king_on_a1 : List (Option Man)
king_on_a1 = with_man (repeat 64 (None ∷ [])) a1 (record { colour = White; kind = King })

-- each rank of a board is drawn, the last one too, and no other rank is drawn in its place
pub all_ranks_are_drawn : board_text king_on_a1
    ≡ codes "8 ........\n7 ........\n6 ........\n5 ........\n4 ........\n3 ........\n2 ........\n1 K.......\n  abcdefgh\n"
unfolding board_text rank_text
all_ranks_are_drawn = refl
