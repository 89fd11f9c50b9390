-- Inputs, and the items that they hold, computed from the definitions.
use Rattle.pop_input.proofs.Words.{BadLimit, BadStipulation, BeginProblemMissing, Clean, Colour, ColourMissing, DeviceFailed, EnPassantImpossible, EndProblemMissing, Ending, Entry, Failed, FaultKind, Kind, King, KingMissing, List, Man, NoMen, None, NoneCastlesThere, Option, PawnOnOuterRank, Rook, SecondCondition, SecondKing, SecondStipulation, Some, Sound, SquareMissing, SquareTaken, StipulationMissing, WaitingSideInCheck, WordMisplaced, WordTooLong, [], expected_of, codes, is_attacked}
use Rattle.pop_input.proofs.Words.{colour_of, command_of, condition_of, entries_of, attacks_like, is_attacked_by_like, false, fault_at, has_unmoved, in_check, is_en_passant_square_right, is_home, is_paralysed, is_taken, is_man_on, kind_of, king_square, limit, limit_of, mark_unmoved, no_men, none_unmoved, option_of, posed_entry, refl, replicate, section_of, squares_named, has_man, stipulation_of, is_attacker, text_word_of, true, castling_rights_of, with_man, words_of, ℕ, ◌++◌, ◌∷◌, ◌≡◌}
use Rattle.chess_core.specs.Squares.{some_square, squares}
use Rattle.chess_core.specs.Steps.{along}
use Rattle.chess_core.specs.declared.man.Colour.TheVariants.{White, Black}
use Rattle.chess_attacks.specs.Reaches.{hops, is_clear, leaps, reaches, reaches_as, rides}
use Rattle.pop_input.specs.Blocks.{Faulty}
use Rattle.pop_input.specs.declared.condition.Condition.TheVariants.{Madrasi}
use Rattle.pop_stipulation.specs.declared.stipulation.Goal.TheVariants.{Mate, Stalemate}
use Rattle.pop_stipulation.specs.declared.stipulation.Form.TheVariants.{Direct, Help}

abbrev items_by : Ending → List ℕ → List Entry
items_by ending bytes = entries_of true (words_of (record { bytes = bytes; ending = ending }))

abbrev items : List ℕ → List Entry
items bytes = items_by Clean bytes

abbrev only_fault : FaultKind → ℕ → List Entry
only_fault kind line = Faulty (fault_at kind line) ∷ []

-- an input without words, and a first word too short
no_words : (items [] ≡ only_fault BeginProblemMissing 1) × (items (codes "Be") ≡ only_fault BeginProblemMissing 1)
    × (items (codes "Beg") ≡ only_fault EndProblemMissing 1)
unfolding limit command_of section_of
no_words = (refl, refl, refl)

-- men without a colour, an unknown word, a word that is a man and no squares
men_misplaced : (items (codes "BeginProblem\nPieces Kg6\n") ≡ only_fault ColourMissing 2)
    × (items (codes "BeginProblem\nPieces White Protocol\n") ≡ only_fault WordMisplaced 2)
    × (items (codes "BeginProblem\nPieces White Kg6h\n") ≡ only_fault SquareMissing 2)
    × (items (codes "BeginProblem\nPieces White Kg") ≡ only_fault SquareMissing 2)
unfolding limit expected_of colour_of command_of condition_of kind_of option_of section_of text_word_of limit_of squares_named stipulation_of is_man_on has_man
    some_square squares
men_misplaced = (refl, refl, refl, refl)

-- a square named twice, a pawn on rank 8, a second king
squares_misplaced : (items (codes "BeginProblem\nPieces White Kg6 Rg6 Black Kg8\n") ≡ only_fault SquareTaken 2)
    × (items (codes "BeginProblem\nPieces White Pa8\n") ≡ only_fault PawnOnOuterRank 2)
    × (items (codes "BeginProblem\nPieces White Kg6h1\n") ≡ only_fault SecondKing 2)
unfolding limit expected_of colour_of command_of condition_of kind_of option_of section_of text_word_of limit_of squares_named stipulation_of is_man_on has_man
    some_square squares
squares_misplaced = (refl, refl, refl)

-- a second stipulation, another word after one, one out of range
stipulations_misplaced : (items (codes "BeginProblem\nPieces White Kg6 Ra1 Black Kg8\nStipulation #1 #1\nEndProblem\n") ≡ only_fault SecondStipulation 3)
    × (items (codes "BeginProblem\nPieces White Kg6 Ra1 Black Kg8\nStipulation #1 foo\nEndProblem\n") ≡ only_fault WordMisplaced 3)
    × (items (codes "BeginProblem\nPieces White Kg6 Ra1 Black Kg8\nStipulation h#16.5\nEndProblem\n") ≡ only_fault BadStipulation 3)
    × (items (codes "BeginProblem\nPieces White Kg6 Ra1 Black Kg8\nStipulation #0\nEndProblem\n") ≡ only_fault BadStipulation 3)
unfolding limit expected_of colour_of command_of condition_of kind_of option_of section_of text_word_of limit_of squares_named stipulation_of is_man_on has_man
    some_square squares
stipulations_misplaced = (refl, refl, refl, refl)

-- with the other goal: a second stipulation, numbers out of range and with a leading zero
goals_misplaced : (items (codes "BeginProblem\nPieces White Kg6 Ra1 Black Kg8\nStipulation #1 =1\nEndProblem\n") ≡ only_fault SecondStipulation 3)
    × (items (codes "BeginProblem\nStipulation =0\n") ≡ only_fault BadStipulation 2)
    × (items (codes "BeginProblem\nStipulation =17\n") ≡ only_fault BadStipulation 2)
    × (items (codes "BeginProblem\nStipulation s=01\n") ≡ only_fault BadStipulation 2)
    × (items (codes "BeginProblem\nStipulation h=16.5\n") ≡ only_fault BadStipulation 2)
unfolding limit expected_of colour_of command_of condition_of kind_of option_of section_of text_word_of limit_of squares_named stipulation_of is_man_on has_man
    some_square squares
goals_misplaced = (refl, refl, refl, refl, refl)

-- limits out of range, a square that does not come, a square from which none castles, a second condition
values_misplaced : (items (codes "BeginProblem\nPieces White Kg6 Ra1 Black Kg8\nStipulation #1\nOption MaxSolutions 4000000001\nEndProblem\n")
    ≡ only_fault BadLimit 4) × (items (codes "BeginProblem\nPieces White Kg6 Ra1 Black Kg8\nStipulation #1\nOption MaxSolutions 0\nEndProblem\n")
    ≡ only_fault BadLimit 4) × (items (codes "BeginProblem\nPieces White Kg6 Ra1 Black Kg8\nStipulation #1\nOption EnPassant\nEndProblem\n")
    ≡ only_fault SquareMissing 5) × (items (codes "BeginProblem\nPieces White Kg6 Ra1 Black Kg8\nStipulation #1\nOption NoCastling a2\nEndProblem\n")
    ≡ only_fault NoneCastlesThere 4) × (items (codes "BeginProblem\nPieces White Kg6 Ra1 Black Kg8\nStipulation #1\nCondition Circe Circe\nEndProblem\n")
    ≡ only_fault SecondCondition 4)
unfolding limit expected_of colour_of command_of condition_of kind_of option_of section_of text_word_of limit_of squares_named stipulation_of is_man_on has_man
    some_square squares
values_misplaced = (refl, refl, refl, refl, refl)

-- a word of 161 bytes, and one of 160
long_words : (items (codes "BeginProblem\n" ++ replicate 161 120 ++ codes "\nEndProblem\n") ≡ only_fault WordTooLong 2)
    × (items (codes "BeginProblem\n" ++ replicate 160 120 ++ codes "\nEndProblem\n") ≡ only_fault WordMisplaced 2)
unfolding limit expected_of colour_of command_of condition_of kind_of option_of section_of text_word_of limit_of squares_named stipulation_of is_man_on has_man
    some_square squares
long_words = (refl, refl)

-- a source that fails in a problem, and after a problem's fault
failing_source : (items_by Failed (codes "BeginProblem\nPieces White Kg6\nxx") ≡ only_fault DeviceFailed 3)
    × (items_by Failed (codes "BeginProblem\nxx\n") ≡ Faulty (fault_at WordMisplaced 2) ∷ only_fault DeviceFailed 3)
unfolding limit expected_of colour_of command_of condition_of kind_of option_of section_of text_word_of limit_of squares_named stipulation_of is_man_on has_man
    some_square squares
failing_source = (refl, refl)

-- a stipulation missing, no men, en passant not possible, no king to be mated, check to the side that is not to move
ends : (items (codes "BeginProblem\nEndProblem\n") ≡ only_fault StipulationMissing 2)
    × (items (codes "BeginProblem\nStipulation #1\nEndProblem\n") ≡ only_fault NoMen 3)
    × (items (codes "BeginProblem\nPieces White Kg6 Ba1 Bb3 Pe5 Black Kh8\nStipulation #1\nOption EnPassant d6\nEndProblem\n")
    ≡ only_fault EnPassantImpossible 5) × (items (codes "BeginProblem\nPieces White Kg6 Ra1\nStipulation #1\nEndProblem\n") ≡ only_fault KingMissing 4)
    × (items (codes "BeginProblem\nPieces White Kg6 Rh1 Black Kh8\nStipulation #1\nEndProblem\n") ≡ only_fault WaitingSideInCheck 4)
unfolding limit expected_of colour_of command_of condition_of kind_of option_of section_of text_word_of limit_of squares_named stipulation_of is_man_on has_man
    some_square squares posed_entry is_taken castling_rights_of has_unmoved mark_unmoved none_unmoved is_home is_en_passant_square_right king_square is_attacked
    attacks_like is_attacked_by_like in_check is_paralysed is_attacker hops is_clear leaps reaches reaches_as rides along
ends = (refl, refl, refl, refl, refl)

abbrev man : Colour → Kind → Man
man colour of = record { colour = colour; kind = of }

-- White Kg6 Ra1, Black Kg8
abbrev three_men : List (Option Man)
three_men = with_man (with_man (with_man no_men 46 (man White King)) 0 (man White Rook)) 62 (man Black King)

-- a title before the problem has no effect; the last author counts, without the blanks around it; a keyword in a text line is text
sound_problem : items
    (codes "Title early\nBeginProblem\nAuthor X\nPieces White Kg6 Remark EndProblem\nRa1 Black Kg8\naut  A. B. \nStipulation #1\nEndProblem foo\n")
    ≡ Sound (record {
      diagram = record { men = three_men; turn = White; unmoved = mark_unmoved none_unmoved 0 true; crossed = None };
      stipulation = record { form = Direct; goal = Mate; n = 1 };
      condition = None;
      set_play = false;
      variation = false;
      no_board = false;
      max_solutions = 4000000000;
      title = [];
      author = codes "A. B.";
    }) ∷ []
unfolding limit expected_of colour_of command_of condition_of kind_of option_of section_of text_word_of limit_of squares_named stipulation_of is_man_on has_man
    some_square squares posed_entry is_taken castling_rights_of has_unmoved mark_unmoved none_unmoved is_home is_en_passant_square_right king_square is_attacked
    attacks_like is_attacked_by_like in_check is_paralysed is_attacker hops is_clear leaps reaches reaches_as rides along
sound_problem = refl

-- sections twice and in any order, small letters, short forms, options with their values
sound_options : items (codes "beg\nopt set max 5 max 007 noc h1a1\nsti H=12\ncon mad\npie w kG6 ra1\noption VAR nob\npieces b Kg8\nnex\n")
    ≡ Sound (record {
      diagram = record { men = three_men; turn = Black; unmoved = none_unmoved; crossed = None };
      stipulation = record { form = Help; goal = Stalemate; n = 12 };
      condition = Some Madrasi;
      set_play = true;
      variation = true;
      no_board = true;
      max_solutions = 7;
      title = [];
      author = [];
    }) ∷ only_fault EndProblemMissing 9
unfolding limit expected_of colour_of command_of condition_of kind_of option_of section_of text_word_of limit_of squares_named stipulation_of is_man_on has_man
    some_square squares posed_entry is_taken castling_rights_of has_unmoved mark_unmoved none_unmoved is_home is_en_passant_square_right king_square is_attacked
    attacks_like is_attacked_by_like in_check is_paralysed is_attacker hops is_clear leaps reaches reaches_as rides along
sound_options = refl
