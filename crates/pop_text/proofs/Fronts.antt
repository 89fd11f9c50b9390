-- Prefixes of a view, one after another.
use Rattle.pop_text.proofs.Basics.{AreFirst, Bool, Leads, List, ap, arith, count_by, drop, is_line_end, length, length-drop, length-take, list_all, list_all-append, refl, slice_range, sum_by-append, take, take-add, true, ℕ, ◌+◌, ◌-◌, ◌≡◌, ◌≤◌}

module _ (test : ℕ → Bool) (view left : List ℕ) (count more : ℕ) (is : left ≡ drop count view) where
  -- a prefix and the prefix of the rest together are a prefix, with the line ends of both
  pub first_both : (ends others : ℕ) → AreFirst test view count ends → AreFirst test left more others → AreFirst test view (count + more) (ends + others)
  first_both ends others p q = grind (arith, length-drop, sum_by-append, take-add, list_all-append)

  -- a prefix and the prefix of the rest together are a prefix, without counting line ends
  pub leads_both : count ≤ length view → list_all test (take count view) ≡ true → Leads test left more → Leads test view (count + more)
  leads_both within all q = grind (arith, length-drop, list_all-append, take-add)

-- Whole blocks.

block_size : (view : List ℕ) (count : ℕ) → slice_range view count (count + 32) ≡ take 32 (drop count view)
block_size view count = let size : (count + 32) - count ≡ 32 = omega arith in ap (λ n. take n (drop count view)) size

-- a prefix whose bytes meet the test, extended by one whole block
pub all_block : (test : ℕ → Bool) (view : List ℕ) (count : ℕ) → list_all test (take count view) ≡ true
    → list_all test (slice_range view count (count + 32)) ≡ true → list_all test (take (count + 32) view) ≡ true
all_block test view count front all = grind (arith, block_size, list_all-append, take-add)

-- a prefix whose bytes meet the test, extended by one whole block, with the block's line ends counted
pub first_block : {test : ℕ → Bool} {view : List ℕ} {count ends others : ℕ} → AreFirst test view count ends → 32 ≤ length view - count
    → list_all test (slice_range view count (count + 32)) ≡ true → others ≡ count_by is_line_end (slice_range view count (count + 32))
    → others ≤ length (slice_range view count (count + 32)) → AreFirst test view (count + 32) (ends + others)
first_block {test} {view} {count} {ends} {others} p fits all lines few =
    first_both test view (drop count view) count 32 refl ends others p (grind (arith, length-drop, block_size, length-take))
