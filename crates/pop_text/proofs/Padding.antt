-- A text fills its room with zeros.
use Rattle.pop_text.proofs.Basics.{IsPadded, List, ap, drop, drop-replicate, length, padded_cells, replicate, sym, take, take-append_seam, ℕ, ◌++◌, ◌-◌, ◌∙◌, ◌≡◌, ◌≤◌}

-- bytes over the first cells of a room of zeros
pub bytes_padded : (bytes : List ℕ) (size : ℕ) → length bytes ≡ size → size ≤ 200 → IsPadded (bytes ++ drop size (replicate {A = ℕ} 200 0)) size
bytes_padded bytes size long within =
    let front : take size (bytes ++ drop size (replicate {A = ℕ} 200 0)) ≡ bytes = ap (λ n. take n (bytes ++ drop size (replicate {A = ℕ} 200 0))) (sym long)
    ∙ take-append_seam bytes _ in
    record {
      within = within;
      cells_are = ap padded_cells front ∙ ap (λ zeros. bytes ++ zeros) (ap (λ n. replicate {A = ℕ} (200 - n) 0) long ∙ sym (drop-replicate size 200 0));
      size_is = ap length front ∙ long;
    }
