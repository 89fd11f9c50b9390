-- The text of a move determines the move: two moves with one text castle to one side, or one man goes between the same
-- squares and is promoted to the same kind.
use Rattle.std.proofs.Common.{◌≡◌, ℕ, ◌+◌, ◌<◌, Bool, true, false, cond, nat_lt, List, [], ◌∷◌, ◌++◌, Option, Some, None, refl, sym, ap, ◌∙◌, arith, append_assoc, drop, get_or, ◌⊎◌, inl}
use Rattle.std.specs.Prelude.{codes, find, unwrap_or, ◌==◌}
use Rattle.std.proofs.lemmas.Bool.{and_from, and_parts, cases_Bool, cond-false, cond-true, eqb-true, le-ltb, lt-ltb, or_cases, true≢false}
use Rattle.chess_core.specs.Squares.{file_of, rank_of}
use Rattle.chess_core.specs.declared.man.Man.{Man}
use Rattle.chess_core.specs.declared.man.Kind.{Kind}
use Rattle.chess_core.specs.declared.man.Kind.TheVariants.{King, Pawn}
use Rattle.chess_core.specs.Position.{Position, is_man, kinds, man_on, same_kind}
use Rattle.chess_core.specs.declared.man.Move.{Move}
use Rattle.chess_core.specs.WellFormed.{IsWellFormed}
use Rattle.chess_rules.specs.Legal.{is_legal, is_promotion_right, is_pseudo_legal}
use Rattle.chess_attacks.specs.RuleSet.{RuleSet}
use Rattle.chess_rules.proofs.LegalMoves.{may_be_made}
use Rattle.chess_rules.proofs.Pseudo.{IsMade, king_is_no_pawn, made}
use Rattle.chess_core.proofs.Kept.{same_colour-refl}
use Rattle.pop_stipulation.specs.declared.stipulation.Goal.{Goal}
use Rattle.pop_events.specs.declared.shown.Side.{Side}
use Rattle.pop_events.specs.declared.shown.Side.TheVariants.{A, H}
use Rattle.pop_events.specs.declared.shown.Mark.{Mark}
use Rattle.pop_events.specs.Shown.{Shown, castling_side, shown_move, shown_of}
use Rattle.pop_print.specs.Moves.{castling_text, en_passant_text, mark_text, move_text, rebirth_text, step_text, unmarked_text}
use Rattle.chess_core.specs.Letters.{letter_of}
use Rattle.chess_core.specs.Move.{promotion_text}
use Rattle.chess_core.specs.SquareNames.{square_text}
use Rattle.pop_print.specs.Notation.{man_text}

-- the kind with this letter
abbrev kind_written : ℕ → Kind
kind_written l = unwrap_or (find (λ k. letter_of k == l) kinds) King

letter_reports : (k : Kind) → kind_written (letter_of k) ≡ k
letter_reports k = grind arith

same_letter : (j k : Kind) → letter_of j ≡ letter_of k → j ≡ k
same_letter j k e = sym (letter_reports j) ∙ ap kind_written e ∙ letter_reports k

capital_letter : (k : Kind) → letter_of k < 96
capital_letter k = grind arith

same_square : (s t : ℕ) → 96 + file_of s ≡ 96 + file_of t → 48 + rank_of s ≡ 48 + rank_of t → s ≡ t
same_square s t f r = omega (arith, f, r)

-- The text after the arrival square, without ` ep.`.
abbrev end_text : Option Kind → Option (Man × ℕ) → Mark → List ℕ
end_text promo rebirth mark = promotion_text promo ++ rebirth_text rebirth ++ mark_text mark

-- The first byte and the second, or 0.
abbrev first : List ℕ → ℕ
first [] = 0
first (b ∷ rest) = b

abbrev second : List ℕ → ℕ
second [] = 0
second (b ∷ rest) = first rest

no_blank : (k : Option Kind) (r : Option (Man × ℕ)) (m : Mark) (rest : List ℕ) → 32 ∷ rest ≡ end_text k r m → ⊥
no_blank k r m rest e = grind arith

above : (k : Kind) → 60 < letter_of k
above k = grind arith

-- A text shows whether there is a promotion: "=" with a letter after it, and not alone as the mark of stalemate.
promotes : (k : Kind) (rest : List ℕ) (r : Option (Man × ℕ)) (m : Mark) → 61 ∷ letter_of k ∷ rest ≡ end_text None r m → ⊥
promotes k rest r m e = grind (arith, above)

same_end : (j k : Option Kind) (r s : Option (Man × ℕ)) (m n : Mark) → end_text j r m ≡ end_text k s n → j ≡ k
same_end j k r s m n e = grind (arith, same_letter)

same_promotion : (b c : Bool) (j k : Option Kind) (r s : Option (Man × ℕ)) (m n : Mark)
    → en_passant_text b ++ end_text j r m ≡ en_passant_text c ++ end_text k s n → j ≡ k
same_promotion true true j k r s m n e = let tails : end_text j r m ≡ end_text k s n = ap (drop 4) e in same_end j k r s m n tails
same_promotion false false j k r s m n e = same_end j k r s m n e
same_promotion b c j k r s m n e = grind (arith, no_blank)

-- One man goes between the same squares in both moves, and is promoted to the same kind.
pub record GoAlike (a b : Shown) : Type 0 where
  pub kind : a.man.kind ≡ b.man.kind
  pub from : a.from ≡ b.from
  pub to : a.to ≡ b.to
  pub promo : a.promo ≡ b.promo

-- The text from the origin on: five bytes, and the text after the arrival square.
abbrev ways : ℕ → ℕ → ℕ → List ℕ → List ℕ
ways s step q tail = (96 + file_of s) ∷ (48 + rank_of s) ∷ step ∷ (96 + file_of q) ∷ (48 + rank_of q) ∷ tail

abbrev step_byte : Bool → ℕ
step_byte true = 42
step_byte false = 45

-- The text after the arrival square.
abbrev tail_text : Shown → List ℕ
tail_text a = en_passant_text a.ep ++ end_text a.promo a.rebirth a.mark

same_way : (a b : Shown) → a.man.kind ≡ b.man.kind
    → ways a.from (step_byte a.capture) a.to (tail_text a) ≡ ways b.from (step_byte b.capture) b.to (tail_text b) → GoAlike a b
same_way a b k e = record {
  kind = k;
  from = same_square a.from b.from (ap (λ t. get_or t 0 0) e) (ap (λ t. get_or t 1 0) e);
  to = same_square a.to b.to (ap (λ t. get_or t 3 0) e) (ap (λ t. get_or t 4 0) e);
  promo = same_promotion a.ep b.ep a.promo b.promo a.rebirth b.rebirth a.mark b.mark (ap (drop 5) e);
}

-- A pawn has no letter, and each other man has its own.
man_case : (k : Kind) → (k ≡ Pawn) ⊎ ((rest : List ℕ) → man_text k ++ rest ≡ letter_of k ∷ rest)
man_case Pawn = inl refl
man_case k = grind arith

-- A man's letter isn't a file's letter: a man that isn't a pawn isn't written as a pawn.
no_file : (k : Kind) (s : ℕ) → letter_of k ≡ 96 + file_of s → ⊥
no_file k s e = omega (arith, e, capital_letter k)

-- Two moves with one text, neither of them castling: the letter determines the man.
same_going : (a b : Shown) (j k : Kind) → a.man.kind ≡ j → b.man.kind ≡ k
    → man_text j ++ ways a.from (step_byte a.capture) a.to (tail_text a) ≡ man_text k ++ ways b.from (step_byte b.capture) b.to (tail_text b)
    → GoAlike a b
same_going a b j k p q e = grind (arith, man_case, same_way, no_file, same_letter)

regrouped : (m s c q e p r k : List ℕ) → m ++ s ++ c ++ q ++ e ++ p ++ r ++ k ≡ m ++ (s ++ (c ++ (q ++ (e ++ (p ++ r ++ k)))))
regrouped m s c q e p r k = grind (arith, append_assoc)

after_step : (c : Bool) (s q : ℕ) (rest : List ℕ) → square_text s ++ (step_text c ++ (square_text q ++ rest)) ≡ ways s (step_byte c) q rest
after_step c s q rest = grind arith

-- The text of a move that isn't castling, byte by byte.
going_is : (a : Shown) → unmarked_text None a ++ mark_text a.mark
    ≡ man_text a.man.kind ++ ways a.from (step_byte a.capture) a.to (tail_text a)
going_is a = grind (arith, regrouped, after_step)

-- The first byte of a move that isn't castling is a letter.
begins_by : (k : Kind) (s : ℕ) (rest : List ℕ) → 60 < first (man_text k ++ (96 + file_of s) ∷ rest)
begins_by k s rest = grind (arith, man_case, above)

abbrev rest_of : Shown → List ℕ
rest_of b = (48 + rank_of b.from) ∷ step_byte b.capture ∷ (96 + file_of b.to) ∷ (48 + rank_of b.to) ∷ tail_text b

zero_first : (side : Side) (rest : List ℕ) → first (castling_text side ++ rest) ≡ 48
zero_first side rest = grind arith

-- Castling begins with "0", and no other move does.
no_castling : (a b : Shown) (side : Side) → castling_text side ++ mark_text a.mark ≡ unmarked_text None b ++ mark_text b.mark → ⊥
no_castling a b side e = omega (arith, zero_first side (mark_text a.mark), ap first (e ∙ going_is b), begins_by b.man.kind b.from (rest_of b))

-- A mark isn't the rest of the longer castling.
no_mark : (m n : Mark) → codes "0-0" ++ mark_text m ≡ codes "0-0-0" ++ mark_text n → ⊥
no_mark m n e = grind arith

alike : (a b : Shown) (c d : Option Side) → unmarked_text c a ++ mark_text a.mark ≡ unmarked_text d b ++ mark_text b.mark
    → (c ≡ d) × (c ≡ None → GoAlike a b)
alike a b c d e = grind (arith, same_going, going_is, no_castling, no_mark)

-- Moves with one text both castle to one side, or neither castles and one man goes between the same squares and is
-- promoted to the same kind.
pub written_alike : (a b : Shown) → move_text a ≡ move_text b
    → (a.castling ≡ b.castling) × (a.castling ≡ None → GoAlike a b)
unfolding move_text
written_alike a b e = alike a b a.castling b.castling e

-- A castling man is a king, which goes two files along its rank to the side that is shown.
record IsCastled (x : Man) (m : Move) (side : Side) : Type 0 where
  king : same_kind x.kind King ≡ true
  way : ((m.to ≡ m.from + 2) × (side ≡ H)) ⊎ ((m.to + 2 ≡ m.from) × (side ≡ A))

side_is : (b : Bool) (side : Side) → Some (cond b H A) ≡ Some side → cond b H A ≡ side
side_is b side e = grind arith

castled : (x : Man) (m : Move) (side : Side) → castling_side x m ≡ Some side → IsCastled x m side
castled x m side e = grind (arith, cases_Bool, cond-false, nat_lt, cond-true, and_parts, eqb-true, or_cases, side_is, lt-ltb, le-ltb)

no_promotion : (p : Position) (x : Man) (m : Move) (r : Option Kind) → is_promotion_right p x m r ≡ true → same_kind x.kind King ≡ true → r ≡ None
no_promotion p x m r h king = grind (arith, true≢false, and_parts, king_is_no_pawn)

-- The squares of two castlings of one king to one side.
same_castling : (m n : Move) (side : Side) → m.from ≡ n.from
    → ((m.to ≡ m.from + 2) × (side ≡ H)) ⊎ ((m.to + 2 ≡ m.from) × (side ≡ A))
    → ((n.to ≡ n.from + 2) × (side ≡ H)) ⊎ ((n.to + 2 ≡ n.from) × (side ≡ A)) → m.to ≡ n.to
same_castling m n side from h e = grind arith

same_triple : (m n : Move) → m.from ≡ n.from → m.to ≡ n.to → m.promo ≡ n.promo → m ≡ n
same_triple m n from to promo = grind arith

module _ (goal : Goal) (rule : RuleSet) (p : Position) (well : IsWellFormed p) where
  -- The man of a legal move, and what is shown of the move.
  record IsShown (m : Move) (x : Man) : Type 0 where
    made : IsMade rule p x m
    castling : (shown_move goal rule p m).castling ≡ castling_side x m
    from : (shown_move goal rule p m).from ≡ m.from
    to : (shown_move goal rule p m).to ≡ m.to
    promo : (shown_move goal rule p m).promo ≡ m.promo

  shown_by_man : (m : Move) (o : Option Man) → man_on p.men m.from ≡ o → is_legal rule p m ≡ true → (x : Man) × IsShown m x
  unfolding shown_move shown_of is_pseudo_legal
  shown_by_man m None here h = grind (arith, may_be_made rule p m h, true≢false)
  shown_by_man m (Some x) here h = grind (arith, made rule p m x (may_be_made rule p m h) here, may_be_made rule p m h, made)

  -- The text determines the move, if neither move castles or both castle to one side.
  same_move : (m n : Move) (x y : Man) (c d : Option Side) → IsShown m x → IsShown n y
      → castling_side x m ≡ c → castling_side y n ≡ d → c ≡ d
      → (c ≡ None → GoAlike (shown_move goal rule p m) (shown_move goal rule p n)) → m ≡ n
  same_move m n x y None None a b e f s goes = grind (arith, same_triple)
  same_move m n x y (Some side) (Some other) a b e f s goes =
      let v = castled x m side e in
      let same : other ≡ side = cc in
      let w = castled y n side (rw same at f) in
      let here : is_man (man_on p.men m.from) p.turn King ≡ true = rw (a.made.here, a.made.mine) (and_from _ _ (same_colour-refl p.turn) v.king) in
      let there : is_man (man_on p.men n.from) p.turn King ≡ true = rw (b.made.here, b.made.mine) (and_from _ _ (same_colour-refl p.turn) w.king) in
      grind (arith, same_castling, no_promotion, same_triple)
  same_move m n x y c d a b e f s goes = grind arith

  -- No two legal moves of a position have one text.
  pub moves_are_written_apart : (m n : Move) → is_legal rule p m ≡ true → is_legal rule p n ≡ true
      → move_text (shown_move goal rule p m) ≡ move_text (shown_move goal rule p n) → m ≡ n
  moves_are_written_apart m n h k e =
      let a = shown_by_man m (man_on p.men m.from) refl h in
      let b = shown_by_man n (man_on p.men n.from) refl k in
      let reported = written_alike (shown_move goal rule p m) (shown_move goal rule p n) e in
      same_move m n a.0 b.0 (castling_side a.0 m) (castling_side b.0 n) a.1 b.1 refl refl
      (sym a.1.castling ∙ reported.0 ∙ b.1.castling) (λ none. reported.1 (a.1.castling ∙ none))
