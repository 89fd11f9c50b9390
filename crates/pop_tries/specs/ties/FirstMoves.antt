-- The groups of first moves that a search shows, and the replies shown below one (own).
use Rattle.std.specs.Prelude.{◌≡◌, ◌&&◌, ◌<◌, ℕ, Bool, not, true, false, List, [], ◌∷◌, filter, ◌||◌, Option, None, Some, IfSome, MatchOption}
use Rattle.chess_core.specs.Position.{Position, man_on, same_kind}
use Rattle.chess_core.specs.declared.man.Kind.TheVariants.{Queen, Rook}
use Rattle.chess_core.specs.declared.man.Man.{Man}
use Rattle.chess_core.specs.declared.man.Move.{Move}
use Rattle.chess_attacks.specs.Attacks.{in_check}
use Rattle.chess_attacks.specs.RuleSet.{RuleSet}
use Rattle.chess_rules.specs.Legal.{is_legal, is_stalemate}
use Rattle.chess_core.specs.Undo.{Undo}
use Rattle.chess_rules.specs.Play.{position_after, undo_of}
use Rattle.chess_rules.specs.ties.Places.{moves_after}
use Rattle.pop_walk.specs.Tree.{is_in_set_play, keeps_win}
use Rattle.pop_stipulation.specs.declared.stipulation.Battle.{Battle}
use Rattle.pop_stipulation.specs.declared.stipulation.Battle.TheVariants.{Direct, SelfMate}
use Rattle.pop_stipulation.specs.declared.stipulation.Goal.{Goal}
use Rattle.pop_stipulation.specs.declared.stipulation.Goal.TheVariants.{Mate, Stalemate}
use Rattle.pop_tries.specs.Events.{chess_passing}
use Rattle.pop_tries.specs.Tries.{is_defence, is_try}
use Rattle.pop_tries.specs.declared.kept_tries.Candidates.{Candidates}
use Rattle.pop_tries.specs.declared.kept_tries.KeptTry.{KeptTry}
use Rattle.pop_tries.specs.declared.contest.Contest.{Contest}
use Rattle.pop_tries.specs.declared.first_moves.Group.{Group}
use Rattle.pop_tries.specs.declared.first_moves.Group.TheVariants.{Keys, Tries}
use Rattle.pop_tries.specs.declared.refuting.Refuting.{Refuting}
use Rattle.pop_tries.specs.declared.replies.Counted.{Counted}
use Rattle.pop_tries.specs.declared.replies.Counted.TheVariants.{All, Forcing, Others}
use Rattle.pop_tries.specs.ties.Candidates.{try_at}
use Rattle.pop_tries.specs.ties.Contests.{game_in}
use Rattle.pop_tries.specs.ties.FewPlaces.{IsPlaceOf}
use Rattle.pop_tries.specs.ties.MoveSets.{HoldAll, HoldBefore}

-- the first move that leads to q belongs to the group
abbrev pub belongs : RuleSet → Contest → Group → Position → Bool
belongs rule contest Keys q =
    keeps_win contest.battle (game_in rule contest) contest.stipulation.n q
belongs rule contest (Tries most) q =
    is_try contest.battle (game_in rule contest) contest.stipulation.n (chess_passing rule) most q

-- the first moves of a group after a place in the order of the moves of p
abbrev pub firsts_after : RuleSet → Contest → Group → Position → ℕ → List Move
firsts_after rule contest group p place =
    filter (λ m. belongs rule contest group (position_after rule p m)) (moves_after rule p place)

-- the first move that leads to q is refuted by stalemate
abbrev pub is_refuted_by_stalemate : Battle → Goal → RuleSet → Position → Bool
is_refuted_by_stalemate Direct Mate rule q = is_stalemate rule q
is_refuted_by_stalemate Direct Stalemate rule q = false
is_refuted_by_stalemate SelfMate goal rule q = false

-- the move m of p is a try with at most `most` refutations
abbrev pub is_try_after : RuleSet → Contest → ℕ → Position → Move → Bool
is_try_after rule contest most p m = belongs rule contest (Tries most) (position_after rule p m)

-- the tries of a group have at most `most` refutations
abbrev pub IsAsked : Group → ℕ → Type 0
IsAsked Keys most = Unit {0}
IsAsked (Tries some) most = some ≡ most

-- the reply d to a first move that leads to q is shown: a defence that doesn't refute
abbrev pub is_shown : RuleSet → Contest → Position → Move → Bool
is_shown rule contest q d =
    is_in_set_play contest.battle (game_in rule contest) contest.stipulation.n
    (position_after rule q d)
    && is_defence contest.battle (game_in rule contest) contest.stipulation.n
    (chess_passing rule) q d

-- the reply d to a first move that leads to q refutes it
abbrev pub refutes : RuleSet → Contest → Position → Move → Bool
refutes rule contest q d = not (is_in_set_play contest.battle (game_in rule contest)
    contest.stipulation.n (position_after rule q d))

-- the reply at a place, if there is one, refutes the first move that leads to q
abbrev pub IsRefutedAt : RuleSet → Contest → Position → ℕ → Type 0
IsRefutedAt rule contest q place = (m : Move) → IsPlaceOf place m → refutes rule contest q m ≡ true

-- what is known of the refutations of the first move that leads to q
abbrev pub AreRefuting : RuleSet → Contest → Position → Refuting → Type 0
AreRefuting rule contest q refuting = HoldAll rule q (refutes rule contest q) (Some refuting.moves)
    × IsRefutedAt rule contest q refuting.last

-- the first move that leads to q is a try with these refutations, if they are known
abbrev pub IsKnownTry : RuleSet → Contest → ℕ → Position → Option Refuting → Type 0
IsKnownTry rule contest most q known = IfSome known
    (λ refuting. (belongs rule contest (Tries most) q ≡ true) × AreRefuting rule contest q refuting)

-- the move of p at the place of a try that is kept is one, with these refutations
abbrev pub IsKept : RuleSet → Contest → ℕ → Position → KeptTry → Type 0
IsKept rule contest most p kept = (m : Move) → IsPlaceOf kept.place m
    → IsKnownTry rule contest most (position_after rule p m) (Some kept.refuting)

abbrev pub AreKept : RuleSet → Contest → ℕ → Position → List KeptTry → Type 0
AreKept rule contest most p kept = (i : ℕ) → i < 16 → IsKept rule contest most p (try_at kept i)

-- all tries of p are among the candidates
abbrev pub AreTries : RuleSet → Contest → ℕ → Position → Candidates → Type 0
AreTries rule contest most p candidates =
    HoldAll rule p (is_try_after rule contest most p) candidates.set
    × AreKept rule contest most p candidates.kept

-- what is known of the moves of p that may be tries, at a place among the first moves of a group: keys come
-- first, and with them it becomes known, for the moves up to the place
abbrev pub AreCandidates : RuleSet → Contest → Group → ℕ → Position → Candidates → ℕ → Type 0
AreCandidates rule contest Keys most p candidates place =
    HoldBefore rule p (is_try_after rule contest most p) candidates.set place
    × AreKept rule contest most p candidates.kept
AreCandidates rule contest (Tries some) most p candidates place =
    AreTries rule contest most p candidates

-- the next first move of a group after a place among the moves of p was found and played: `next` is its place
abbrev pub IsPlayed : RuleSet → Contest → Group → (p board : Position) → (place next : ℕ)
    → Option (Move × Undo × Refuting) → Type 0
IsPlayed rule contest group p board place next found = MatchOption found
    ((firsts_after rule contest group p place ≡ []) × (board ≡ p))
    (λ f. (firsts_after rule contest group p place
    ≡ f.0 ∷ firsts_after rule contest group p next)
    × (board ≡ position_after rule p f.0)
    × (f.1 ≡ undo_of rule p f.0)
    × (is_legal rule p f.0 ≡ true)
    × AreRefuting rule contest (position_after rule p f.0) f.2)

-- the move d of q gives check
abbrev pub gives_check : RuleSet → Position → Move → Bool
gives_check rule q d = in_check rule (position_after rule q d).men (position_after rule q d).turn

-- a man is a queen or a rook
abbrev pub is_heavy : Option Man → Bool
is_heavy None = false
is_heavy (Some man) = same_kind man.kind Queen || same_kind man.kind Rook

-- the move d of q gives check or captures a queen or a rook
abbrev pub is_forcing : RuleSet → Position → Move → Bool
is_forcing rule q d = is_heavy (man_on q.men d.to) || gives_check rule q d

-- the move d of q is one of those that are counted
abbrev pub is_counted : RuleSet → Position → Counted → Move → Bool
is_counted rule q All d = true
is_counted rule q Forcing d = is_forcing rule q d
is_counted rule q Others d = not (is_forcing rule q d)

-- the reply d is counted, and refutes
abbrev pub refutes_among : RuleSet → Contest → Counted → Position → Move → Bool
refutes_among rule contest counted q d = is_counted rule q counted d && refutes rule contest q d

-- `found` is the next legal move of p after a place that meets a test; `next` is its place
abbrev pub IsNext : RuleSet → Position → (Move → Bool) → (place next : ℕ) → Option Move → Type 0
IsNext rule p test place next found = MatchOption found
    (filter test (moves_after rule p place) ≡ [])
    (λ m. (filter test (moves_after rule p place) ≡ m ∷ filter test (moves_after rule p next))
    × (is_legal rule p m ≡ true))
