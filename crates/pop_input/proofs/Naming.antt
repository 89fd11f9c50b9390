-- Keywords, letter by letter.
use Rattle.pop_input.proofs.Words.{List, arith, drop, drop_all, drop_more, eq-eqb, false, get_or, length, length-map, longer, map, nat_eq, ne_eqb, refl, starts_with, to_ascii_lowercase, true, ℕ, ◌&&◌, ◌+◌, ◌<◌, ◌≡◌, ◌≤◌}

-- a word in small letters
abbrev pub small : List ℕ → List ℕ
small word = map to_ascii_lowercase word

-- one letter more
begins_step : (name word : List ℕ) (i : ℕ) → i < length name → i < length word
    → starts_with nat_eq (drop i name) (small (drop i word)) ≡ (nat_eq (to_ascii_lowercase (get_or word i 0)) (get_or name i 0)
    && starts_with nat_eq (drop (i + 1) name) (small (drop (i + 1) word)))
begins_step name word i in_name in_word = rw (drop_more name i 0 in_name, drop_more word i 0 in_word) refl

-- a letter that is the name's, or is not
pub begins_more : (name word : List ℕ) (i : ℕ) → i < length name → i < length word → to_ascii_lowercase (get_or word i 0) ≡ get_or name i 0
    → starts_with nat_eq (drop i name) (small (drop i word)) ≡ starts_with nat_eq (drop (i + 1) name) (small (drop (i + 1) word))
begins_more name word i in_name in_word same = grind (arith, begins_step, eq-eqb)

-- a letter that isn't the name's ends the comparison
pub begins_stop : (name word : List ℕ) (i : ℕ) → i < length name → i < length word → (to_ascii_lowercase (get_or word i 0) ≡ get_or name i 0 → ⊥)
    → starts_with nat_eq (drop i name) (small (drop i word)) ≡ false
begins_stop name word i in_name in_word other = grind (arith, begins_step, ne_eqb)

-- all letters are the name's
pub begins_all : (name word : List ℕ) (i : ℕ) → length word ≤ i → starts_with nat_eq (drop i name) (small (drop i word)) ≡ true
begins_all name word i over = rw (drop_all i word over) (grind arith)

-- no name begins with a word longer than itself
pub too_long : (name word : List ℕ) → length name < length word → starts_with nat_eq name (small word) ≡ false
too_long name word long = longer name (small word) (omega (arith, length-map word to_ascii_lowercase))
