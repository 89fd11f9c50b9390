-- Men and fields of a diagram together.
use Rattle.fen.proofs.Basics.{List, Option, ap, sym, ℕ, ◌∙◌, ◌≡◌}
use Rattle.std.proofs.Common.{Err, MatchResult, Ok, Result}
use Rattle.chess_core.specs.declared.man.Man.{Man}
use Rattle.chess_core.specs.declared.man.Colour.{Colour}
use Rattle.chess_core.specs.Castling.{Unmoved}
use Rattle.chess_core.specs.Diagrams.{Diagram}
use Rattle.fen.specs.Fen.{HasFenRights, IsFenOf, IsReadAs, crossed_text}
use Rattle.fen.specs.ties.Reading.{Finds, FindsNone, HasAll, HasFields, IsColour, IsOnBoard, fields_text, men_before, rights_before, text_from, turn_before}
use Rattle.fen.specs.declared.not_fen.NotFen.{NotFen}
use Rattle.fen.proofs.Ranks.{fen_text_from}

-- all fields are read
pub has_fields : (text : List ℕ) (turn : Colour) (rest : List ℕ) (u : Unmoved) (last : List ℕ) (crossed : Option ℕ) (d : Diagram)
    → Finds IsColour turn_before text turn rest → Finds HasFenRights rights_before rest u last → IsOnBoard crossed → last ≡ crossed_text crossed
    → d.turn ≡ turn → d.unmoved ≡ u → d.crossed ≡ crossed → HasFields text d
unfolding fields_text
has_fields text turn rest u last crossed d first second inside third et eu ec = record {
  rights = rw eu second.fits;
  crossed = rw ec inside;
  is = rw (et, eu, ec) (first.is ∙ ap (turn_before turn) (second.is ∙ ap (rights_before u) third));
}

-- no side to move
pub no_turn : (text : List ℕ) → FindsNone IsColour turn_before text → (d : Diagram) → HasFields text d → ⊥
unfolding fields_text
no_turn text none d has = none d.turn (rights_before d.unmoved (crossed_text d.crossed)) _ has.is

-- no castling rights
pub no_rights : (text : List ℕ) (turn : Colour) (rest : List ℕ) → Finds IsColour turn_before text turn rest → FindsNone HasFenRights rights_before rest
    → (d : Diagram) → HasFields text d → ⊥
unfolding fields_text
no_rights text turn rest first none d has =
    none d.unmoved (crossed_text d.crossed) has.rights
    (sym (first.only d.turn (rights_before d.unmoved (crossed_text d.crossed)) _ has.is).1)

-- no en passant square
pub no_crossed : (text : List ℕ) (turn : Colour) (rest : List ℕ) (u : Unmoved) (last : List ℕ) → Finds IsColour turn_before text turn rest
    → Finds HasFenRights rights_before rest u last → ((crossed : Option ℕ) → IsOnBoard crossed → last ≡ crossed_text crossed → ⊥)
    → (d : Diagram) → HasFields text d → ⊥
unfolding fields_text
no_crossed text turn rest u last first second none d has =
    let e = sym (first.only d.turn (rights_before d.unmoved (crossed_text d.crossed)) _ has.is).1 in
    none d.crossed has.crossed (sym (second.only d.unmoved (crossed_text d.crossed) has.rights e).1)

-- men and fields are the diagram's
pub is_fen : (text : List ℕ) (men : List (Option Man)) (rest : List ℕ) (d : Diagram) → Finds HasAll men_before text men rest
    → HasFields rest d → d.men ≡ men → IsFenOf text d
is_fen text men rest d found fields e = record {
  size = rw e found.fits;
  rights = fields.rights;
  crossed = fields.crossed;
  is = found.is ∙ ap (text_from men 64) fields.is ∙ ap (λ m. text_from m 64 (fields_text d)) (sym e) ∙ sym (fen_text_from d);
}

-- no fields after the men
pub no_fields : (text : List ℕ) (men : List (Option Man)) (rest : List ℕ) → Finds HasAll men_before text men rest
    → ((d : Diagram) → HasFields rest d → ⊥) → (d : Diagram) → IsFenOf text d → ⊥
no_fields text men rest found none d fen =
    let only = found.only d.men (fields_text d) fen.size (fen.is ∙ fen_text_from d) in
    none d (record { rights = fen.rights; crossed = fen.crossed; is = sym only.1 })

-- no men
pub no_men : (text : List ℕ) → FindsNone HasAll men_before text → (d : Diagram) → IsFenOf text d → ⊥
no_men text none d fen = none d.men (fields_text d) fen.size (fen.is ∙ fen_text_from d)

-- reading goes on after the men
pub read_on : (text : List ℕ) (men : List (Option Man)) (rest : List ℕ) (result : Result Diagram NotFen) → Finds HasAll men_before text men rest
    → MatchResult result (λ d. HasFields rest d × (d.men ≡ men)) (λ _. (d : Diagram) → HasFields rest d → ⊥) → IsReadAs text result
read_on text men rest (Ok d) found has = is_fen text men rest d found has.0 has.1
read_on text men rest (Err e) found none = no_fields text men rest found none
