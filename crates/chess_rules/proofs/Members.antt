-- Elements of lists made from other lists, and sorted lists.
use Rattle.chess_attacks.proofs.Basics.{AllPairs, AllPairs-cons, Bool, Contains, Contains-append_cases, Contains-append_left, Contains-append_right, Contains-get_or, List, [], ap, arith, cond, false, false≢true, filter, flat_map, get_or, get_or-map, get_or-range_with_len, inl, inr, length-map, length-range_with_len, map, range_with_len, refl, suc, sym, true, ℕ, ◌++◌, ◌+◌, ◌-◌, ◌<◌, ◌∙◌, ◌∷◌, ◌≡◌, ◌≤◌, ◌⊎◌}

module _ {X : Type 0} where
  -- an empty list has no elements
  pub none_in_nil : (x : X) → Contains [] x → ⊥
  none_in_nil x (k, less, at) = omega (arith, less)

  -- the first element of a list is in it
  pub first_in : (x : X) (xs : List X) → Contains (x ∷ xs) x
  first_in x xs = (0, omega arith, refl)

  -- each later element of a list is in it
  pub later_in : (y : X) (xs : List X) (x : X) → Contains xs x → Contains (y ∷ xs) x
  later_in y xs x (k, less, at) = (suc k, omega (arith, less), at)

  -- the first, or one of the others
  pub in_cases : (y : X) (xs : List X) (x : X) → Contains (y ∷ xs) x → (y ≡ x) ⊎ Contains xs x
  in_cases y xs x h = grind arith

  -- the elements of a filter
  pub from_filter : (test : X → Bool) (xs : List X) (x : X) → Contains (filter test xs) x → Contains xs x × (test x ≡ true)
  from_filter test [] x c = absurd (none_in_nil x c)
  from_filter test (y ∷ xs) x c = grind (arith, later_in, in_cases, from_filter test xs x)

  -- an element that meets the test is in the filter
  pub in_filter : (test : X → Bool) (xs : List X) (x : X) → Contains xs x → test x ≡ true → Contains (filter test xs) x
  in_filter test [] x c t = absurd (none_in_nil x c)
  in_filter test (y ∷ xs) x c t = elim (in_cases y xs x c) [
    | inl same ↦ here (test y) (ap test same ∙ t) same
    | inr r ↦ following (test y) (in_filter test xs x r t)
  ]
    where
      here : (b : Bool) → b ≡ true → y ≡ x → Contains (cond b (y ∷ filter test xs) (filter test xs)) x
      here true e same = (0, omega arith, same)
      here false e same = absurd (false≢true e)

      following : (b : Bool) → Contains (filter test xs) x → Contains (cond b (y ∷ filter test xs) (filter test xs)) x
      following true w = later_in y (filter test xs) x w
      following false w = w

-- the numbers of a range
pub in_range : (a n k : ℕ) → a ≤ k → k < a + n → Contains (range_with_len a n) k
in_range a n k low high =
    (k - a, rw length-range_with_len (omega (arith, low, high)), get_or-range_with_len a n (k - a) k (omega (arith, low, high)) ∙ omega (arith, low))

-- a range has no other numbers
pub from_range : (a n k : ℕ) → Contains (range_with_len a n) k → (a ≤ k) × (k < a + n)
from_range a n k c = let less : c.0 < n = rw length-range_with_len at c.1 in omega (arith, less, sym (get_or-range_with_len a n c.0 k less) ∙ c.2)

module _ {X Y : Type 0} where
  -- the elements of a map
  pub from_map : (f : X → Y) (xs : List X) (y : Y) → Contains (map f xs) y → (x : X) × Contains xs x × (f x ≡ y)
  from_map f [] y c = absurd (none_in_nil y c)
  from_map f (x ∷ xs) y c = grind (arith, in_cases (f x) (map f xs) y c, first_in x xs, from_map f xs y, later_in x xs)

  -- the image of an element is in the map
  pub in_map : (f : X → Y) (xs : List X) (x : X) → Contains xs x → Contains (map f xs) (f x)
  in_map f xs x c = (c.0, rw length-map c.1, get_or-map f xs c.0 x (f x) c.1 ∙ ap f c.2)

  -- the elements of joined lists
  pub from_flat_map : (f : X → List Y) (xs : List X) (y : Y) → Contains (flat_map f xs) y → (x : X) × Contains xs x × Contains (f x) y
  from_flat_map f [] y c = absurd (none_in_nil y c)
  from_flat_map f (x ∷ xs) y c = grind (arith, Contains-append_cases (f x) (flat_map f xs) y c, first_in x xs, from_flat_map f xs y, later_in x xs)

  -- an element of one of the lists is in the joined list
  pub in_flat_map : (f : X → List Y) (xs : List X) (x : X) (y : Y) → Contains xs x → Contains (f x) y → Contains (flat_map f xs) y
  in_flat_map f [] x y c h = absurd (none_in_nil x c)
  in_flat_map f (z ∷ xs) x y c h = grind (arith, in_cases z xs x c, Contains-append_left, Contains-append_right, in_flat_map f xs x y)

-- Lists of which each element stands before each later one.

module _ {X : Type 0} (R : X → X → Type 0) where
  -- an empty list is in order
  pub pairs_nil : AllPairs R []
  pairs_nil i j d low high = absurd (omega (arith, high))

  -- the first element of a list in order stands before each other
  pub pairs_first : (x : X) (xs : List X) → AllPairs R (x ∷ xs) → (y : X) → Contains xs y → R x y
  pairs_first x xs pairs y (k, less, at) = rw at at (pairs 0 (suc k) y (omega arith) (omega (arith, less)))

  -- the others are in order
  pub pairs_later : (x : X) (xs : List X) → AllPairs R (x ∷ xs) → AllPairs R xs
  pairs_later x xs pairs i j d low high = pairs (suc i) (suc j) d (omega (arith, low)) (omega (arith, high))

  -- a list is in order if its first stands before all others, and these are in order
  pub pairs_of : (x : X) (xs : List X) → ((y : X) → Contains xs y → R x y) → AllPairs R xs → AllPairs R (x ∷ xs)
  pairs_of x xs first pairs = AllPairs-cons R x xs (λ k d less. first (get_or xs k d) (Contains-get_or xs k d less)) pairs

  -- two lists in order are so joined, if each of the first stands before each of the second
  pub pairs_append : (xs ys : List X) → AllPairs R xs → AllPairs R ys → ((x y : X) → Contains xs x → Contains ys y → R x y) → AllPairs R (xs ++ ys)
  pairs_append [] ys a b across = b
  pairs_append (x ∷ xs) ys a b across =
      pairs_of x (xs ++ ys) (λ y c. grind (arith, Contains-append_cases xs ys y c, pairs_first x xs a y, across x y, first_in x xs))
      (pairs_append xs ys (pairs_later x xs a) b (λ z y c. across z y (later_in x xs z c)))

  -- the beginning of a list in order is in order
  pub pairs_front : (xs ys : List X) → AllPairs R (xs ++ ys) → AllPairs R xs
  pairs_front [] ys a = pairs_nil
  pairs_front (x ∷ xs) ys a =
      pairs_of x xs (λ y c. pairs_first x (xs ++ ys) a y (Contains-append_left xs ys y c)) (pairs_front xs ys (pairs_later x (xs ++ ys) a))

-- a list in order is in any weaker order
pub pairs_weaker : {X : Type 0} (R S : X → X → Type 0) (xs : List X) → ((x y : X) → R x y → S x y) → AllPairs R xs → AllPairs S xs
pairs_weaker R S xs weaker a i j d low high = weaker (get_or xs i d) (get_or xs j d) (a i j d low high)

module _ {X Y : Type 0} (R : X → X → Type 0) (S : Y → Y → Type 0) where
  -- a map that keeps the order keeps a list in order
  pub pairs_map : (f : X → Y) (xs : List X) → ((x y : X) → R x y → S (f x) (f y)) → AllPairs R xs → AllPairs S (map f xs)
  pairs_map f [] keeps a = pairs_nil S
  pairs_map f (x ∷ xs) keeps a =
      pairs_of S (f x) (map f xs) (λ y c. let w = from_map f xs y c in rw (w.2) at (keeps x w.0 (pairs_first R x xs a w.0 w.1)))
      (pairs_map f xs keeps (pairs_later R x xs a))

  -- joined lists are sorted if each is, and the elements of each come before the elements of later ones
  pub pairs_flat_map : (f : X → List Y) (xs : List X) → AllPairs R xs → ((x : X) → AllPairs S (f x))
      → ((x y : X) → R x y → (a b : Y) → Contains (f x) a → Contains (f y) b → S a b) → AllPairs S (flat_map f xs)
  pairs_flat_map f [] a each across = pairs_nil S
  pairs_flat_map f (x ∷ xs) a each across =
      pairs_append S (f x) (flat_map f xs) (each x) (pairs_flat_map f xs (pairs_later R x xs a) each across)
      (λ u v c d. let w = from_flat_map f xs v d in across x w.0 (pairs_first R x xs a w.0 w.1) u v c w.2)
