-- The letters of men: they name a man, in brackets or not.
use Rattle.fen.proofs.Basics.{Bool, List, None, Option, Some, [], ap, arith, false, sym, true, ℕ, ◌∙◌, ◌∷◌, ◌≡◌, ◌≤◌, cases_Bool}
use Rattle.std.specs.Char.{to_ascii_uppercase}
use Rattle.std.specs.Prelude.{MatchOption, find, unwrap_or}
use Rattle.chess_core.specs.Letters.{capital_letter}
use Rattle.chess_core.specs.declared.man.Man.{Man}
use Rattle.chess_core.specs.declared.man.Colour.{Colour}
use Rattle.chess_core.specs.declared.man.Colour.TheVariants.{White, Black}
use Rattle.chess_core.specs.declared.man.Kind.{Kind}
use Rattle.chess_core.specs.declared.man.Kind.TheVariants.{King}
use Rattle.chess_core.specs.Position.{kinds}
use Rattle.fen.specs.Letters.{is_bracketed, letter_in, letter_of, small_letter}
use Rattle.fen.specs.ties.Reading.{is_written}

-- a man
abbrev pub of : Colour → Kind → Man
of c k = record { colour = c; kind = k }

-- small letters are letters
pub small_letters : (k : Kind) → (97 ≤ small_letter k) × (small_letter k ≤ 122)
small_letters k = grind arith

-- the capital of a small letter
pub capital_of : (k : Kind) → to_ascii_uppercase (small_letter k) ≡ capital_letter (small_letter k)
capital_of k = grind arith

-- letters come after all digits and marks
large : (c : Colour) (k : Kind) → 65 ≤ letter_in c (small_letter k)
large White k = omega (arith, small_letters k)
large Black k = omega (arith, small_letters k)

pub letter_large : (man : Man) → 65 ≤ letter_of man
letter_large man = large man.colour man.kind

-- the kind of a letter
abbrev kind_with : Bool → ℕ → Kind
kind_with b small = unwrap_or (find (is_written small b) kinds) King

kind_again : (k : Kind) → kind_with (is_bracketed k) (small_letter k) ≡ k
unfolding is_written
kind_again k = grind arith

same_small : (j k : Kind) → is_bracketed j ≡ is_bracketed k → small_letter j ≡ small_letter k → j ≡ k
same_small j k b e = sym (kind_again j) ∙ (λ i. kind_with (b i) (e i)) ∙ kind_again k

same_letter : (c d : Colour) (j k : Kind) → is_bracketed j ≡ is_bracketed k → letter_in c (small_letter j) ≡ letter_in d (small_letter k) → of c j ≡ of d k
same_letter White White j k b e = ap (of White) (same_small j k b (omega (arith, e, small_letters j, small_letters k)))
same_letter Black Black j k b e = ap (of Black) (same_small j k b e)
same_letter White Black j k b e = absurd (omega (arith, e, small_letters j, small_letters k))
same_letter Black White j k b e = absurd (omega (arith, e, small_letters j, small_letters k))

-- men with one letter, both in brackets or neither, are the same
pub letter_names : (m n : Man) → is_bracketed m.kind ≡ is_bracketed n.kind → letter_of m ≡ letter_of n → m ≡ n
letter_names m n b e = same_letter m.colour n.colour m.kind n.kind b e

-- the kind that is found has the letter
find_holds : (test : Kind → Bool) (ks : List Kind) (k : Kind) → find test ks ≡ Some k → test k ≡ true
find_holds test [] k e = grind arith
find_holds test (j ∷ ks) k e = grind (arith, cases_Bool (test j), find_holds test ks k)

written_parts : (small : ℕ) (b : Bool) (k : Kind) → is_written small b k ≡ true → (small ≡ small_letter k) × (is_bracketed k ≡ b)
unfolding is_written
written_parts small true k h = grind arith
written_parts small false k h = grind arith

is_written_by : (small : ℕ) (b : Bool) (k : Kind) → is_bracketed k ≡ b → small ≡ small_letter k → is_written small b k ≡ true
unfolding is_written
is_written_by small true k b e = grind arith
is_written_by small false k b e = grind arith

-- where none is found, none has it
none_holds : (test : Kind → Bool) → find test kinds ≡ None → (k : Kind) → test k ≡ true → ⊥
none_holds test e k h = grind arith

pub kind_matches : (o : Option Kind) (small : ℕ) (b : Bool) → o ≡ find (is_written small b) kinds
    → MatchOption o ((k : Kind) → is_bracketed k ≡ b → small ≡ small_letter k → ⊥) (λ k. (small ≡ small_letter k) × (is_bracketed k ≡ b))
kind_matches None small b e = λ k w s. none_holds (is_written small b) (sym e) k (is_written_by small b k w s)
kind_matches (Some k) small b e = written_parts small b k (find_holds (is_written small b) kinds k (sym e))
