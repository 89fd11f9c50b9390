-- The text of the men, rank by rank and square by square.
use Rattle.fen.proofs.Basics.{List, None, Option, Some, [], ap, append_assoc, cond-false, cond-true, false, inl, inr, map, refl, sym, ℕ, ◌*◌, ◌++◌, ◌-◌, ◌∙◌, ◌∷◌, ◌≡◌, cases_Bool}
use Rattle.std.specs.List.{range_with_len}
use Rattle.chess_core.specs.declared.man.Man.{Man}
use Rattle.chess_core.specs.Castling.{Unmoved}
use Rattle.chess_core.specs.Diagrams.{Diagram}
use Rattle.chess_core.specs.Position.{man_on}
use Rattle.fen.specs.Letters.{blank, slash, turn_letter, man_text}
use Rattle.fen.specs.Fen.{castling_letters, crossed_text, fen_text, is_digit, men_text, or_dash, rank_text, row_text, with_empty, with_square}
use Rattle.fen.specs.ties.Reading.{begins_with_digit, fields_text, rights_before, text_from, with_mark}

-- the text of squares before another text
squares_before : List (Option Man) → List ℕ → List ℕ
squares_before [] text = text
squares_before (square ∷ squares) text = with_square square (squares_before squares text)

empty_append : (first text : List ℕ) → begins_with_digit text ≡ false → with_empty first ++ text ≡ with_empty (first ++ text)
unfolding with_empty
empty_append [] [] ends = refl
empty_append [] (first ∷ rest) ends = sym (cond-false (is_digit first) _ _ ends)
empty_append (first ∷ rest) text ends = elim (cases_Bool (is_digit first)) [
  | inl e ↦ ap (λ t. t ++ text) (cond-true (is_digit first) _ _ e) ∙ sym (cond-true (is_digit first) _ _ e)
  | inr e ↦ ap (λ t. t ++ text) (cond-false (is_digit first) _ _ e) ∙ sym (cond-false (is_digit first) _ _ e)
]

square_append : (square : Option Man) (first text : List ℕ) → begins_with_digit text ≡ false
    → with_square square first ++ text ≡ with_square square (first ++ text)
unfolding with_square
square_append None first text ends = empty_append first text ends
square_append (Some man) first text ends = append_assoc (man_text man) first text

row_append : (squares : List (Option Man)) (text : List ℕ) → begins_with_digit text ≡ false → row_text squares ++ text ≡ squares_before squares text
unfolding row_text squares_before
row_append [] text ends = refl
row_append (square ∷ squares) text ends =
    square_append square (row_text squares) text ends ∙ ap (with_square square) (row_append squares text ends)

-- the squares of a rank
rank : List (Option Man) → ℕ → List (Option Man)
rank men r = map (man_on men) (range_with_len (8 * (r - 1)) 8)

rank_append : (men : List (Option Man)) (r : ℕ) (text : List ℕ) → begins_with_digit text ≡ false → rank_text men r ++ text ≡ squares_before (rank men r) text
unfolding rank_text rank
rank_append men r text ends = row_append (map (man_on men) (range_with_len (8 * (r - 1)) 8)) text ends

-- rank after rank
pub ranks : List (Option Man) → List ℕ → List ℕ
ranks men tail =
    squares_before (rank men 8) (slash ∷ squares_before (rank men 7) (slash ∷ squares_before (rank men 6) (slash ∷ squares_before (rank men 5) (slash
    ∷ squares_before (rank men 4) (slash ∷ squares_before (rank men 3) (slash ∷ squares_before (rank men 2) (slash ∷ squares_before (rank men 1) (blank ∷ tail))))))))

ranks_from : (men : List (Option Man)) (tail : List ℕ) → ranks men tail ≡ text_from men 64 tail
unfolding ranks rank squares_before text_from with_mark
ranks_from men tail = refl

-- one rank and what comes after it
with_rank : (men : List (Option Man)) (r : ℕ) (mark : ℕ) (rest tail : List ℕ) (all : List ℕ) → is_digit mark ≡ false
    → rest ++ tail ≡ all → (rank_text men r ++ (mark ∷ rest)) ++ tail ≡ squares_before (rank men r) (mark ∷ all)
with_rank men r mark rest tail all ends e =
    append_assoc (rank_text men r) (mark ∷ rest) tail ∙ rank_append men r (mark ∷ (rest ++ tail)) ends
    ∙ ap (λ t. squares_before (rank men r) (mark ∷ t)) e

pub men_text_from : (men : List (Option Man)) (tail : List ℕ) → men_text men ++ (blank ∷ tail) ≡ text_from men 64 tail
unfolding men_text ranks
men_text_from men tail =
    let t = blank ∷ tail in
    with_rank men 8 slash _ t _ refl (with_rank men 7 slash _ t _ refl (with_rank men 6 slash _ t _ refl (with_rank men 5 slash _ t _ refl
    (with_rank men 4 slash _ t _ refl (with_rank men 3 slash _ t _ refl (with_rank men 2 slash _ t _ refl (rank_append men 1 t refl)))))))
    ∙ ranks_from men tail

-- the fields one after the other
pub fen_text_from : (d : Diagram) → fen_text d ≡ text_from d.men 64 (fields_text d)
unfolding fen_text rights_before fields_text
fen_text_from d = append_assoc (men_text d.men) (blank ∷ turn_letter d.turn ∷ blank ∷ or_dash (castling_letters d.unmoved)) (blank ∷ crossed_text d.crossed)
    ∙ men_text_from d.men (turn_letter d.turn ∷ blank ∷ (or_dash (castling_letters d.unmoved) ++ (blank ∷ crossed_text d.crossed)))

-- the fields written one after the other
fields_written : (d : Diagram) → text_from d.men 64 [] ++ (turn_letter d.turn ∷ []) ++ (blank ∷ []) ++ or_dash (castling_letters d.unmoved) ++ (blank ∷ []) ++ crossed_text d.crossed ≡ fen_text d
unfolding fen_text
fields_written d =
    let letters = or_dash (castling_letters d.unmoved) in
    let men = men_text d.men in
    rw (← men_text_from d.men [])
    (append_assoc (men ++ (blank ∷ []) ++ (turn_letter d.turn ∷ []) ++ (blank ∷ []) ++ letters) (blank ∷ []) (crossed_text d.crossed)
    ∙ ap (λ t. t ++ (blank ∷ crossed_text d.crossed)) (append_assoc (men ++ (blank ∷ []) ++ (turn_letter d.turn ∷ [])) (blank ∷ []) letters
    ∙ append_assoc (men ++ (blank ∷ [])) (turn_letter d.turn ∷ []) (blank ∷ letters) ∙ append_assoc men (blank ∷ []) (turn_letter d.turn ∷ blank ∷ letters)))

pub fen_written : (d : Diagram) (turn : ℕ) (u : Unmoved) (crossed : Option ℕ) → turn ≡ turn_letter d.turn → u ≡ d.unmoved → crossed ≡ d.crossed
    → text_from d.men 64 [] ++ (turn ∷ []) ++ (blank ∷ []) ++ or_dash (castling_letters u) ++ (blank ∷ []) ++ crossed_text crossed ≡ fen_text d
fen_written d turn u crossed et eu ec = rw (et, eu, ec) (fields_written d)
