-- The sums and the differences of all lanes at once, their top bits held back, are those of each lane: over the width and the number of
-- the lanes.
-- Assumes nothing.
use Rattle.std.proofs.Common.{◌≡◌, ℕ, zero, suc, ◌+◌, ◌-◌, ◌*◌, ◌%◌, ◌^◌, ◌<◌, ◌≤◌, sym, refl, ap, ◌∙◌, ap₂, le_of_lt, mul-le-mul_right, add-mul, add_comm, mul-zero, mul-suc, sub-add_cancel, arith, pow_pos}
use native.Mathlib.Nat.{two-pow-succ}
use lib.Bits.{bit_xor, bit_and, bit_or, and_block, or_block, xor_block, and_le_r, and_lt, xor_lt, or_lt}
use lib.Pow.{ones_lt, ones_split}
use Rattle.words.specs.Arithmetic.{sum, difference}
use Rattle.words.specs.Lanes.{lanewise}
use Rattle.std.proofs.lemmas.Nat.{le_or_r}
use Rattle.words.proofs.LaneLaws.{lanewise-whole}
use Rattle.words.proofs.HeldBack.{held_sum, held_difference, sum-lane, difference-lane}

-- lanes x and y above words r and s of m bits: h and H hold their top bits, l and L the bits below those
module _ (m h H l L x y r s : ℕ) (fit-H : H < 2 ^ m) (fit-L : L + L < 2 ^ m) (fit-r : r < 2 ^ m) (fit-s : s < 2 ^ m) where
  once_L : L < 2 ^ m
  once_L = omega arith

  -- the top bits that are held back are put in apart
  put_block : (u v : ℕ) → v < 2 ^ m
      → bit_xor (u * 2 ^ m + v) (bit_and (bit_xor (x * 2 ^ m + r) (y * 2 ^ m + s)) (h * 2 ^ m + H))
      ≡ bit_xor u (bit_and (bit_xor x y) h) * 2 ^ m + bit_xor v (bit_and (bit_xor r s) H)
  put_block u v fit =
      let both : bit_xor r s < 2 ^ m = xor_lt m r s fit-r fit-s in
      ap (bit_xor (u * 2 ^ m + v))
      (ap (λ (w : ℕ). bit_and w (h * 2 ^ m + H)) (xor_block m x y r s fit-r fit-s) ∙ and_block m (bit_xor x y) h (bit_xor r s) H both fit-H)
      ∙ xor_block m u (bit_and (bit_xor x y) h) v (bit_and (bit_xor r s) H) fit (and_lt m (bit_xor r s) H both fit-H)

  -- nothing is carried into x and y
  added : bit_and (x * 2 ^ m + r) (l * 2 ^ m + L) + bit_and (y * 2 ^ m + s) (l * 2 ^ m + L) ≡ (bit_and x l + bit_and y l) * 2 ^ m + (bit_and r L + bit_and s L)
  added =
      ap₂ ◌+◌ (and_block m x l r L fit-r once_L) (and_block m y l s L fit-s once_L)
      ∙ together (bit_and x l) (bit_and y l) (bit_and r L) (bit_and s L)
    where
      together : (p q u v : ℕ) → p * 2 ^ m + u + (q * 2 ^ m + v) ≡ (p + q) * 2 ^ m + (u + v)
      together p q u v = omega (arith, add-mul p q (2 ^ m))

  sum_block : held_sum (h * 2 ^ m + H) (l * 2 ^ m + L) (x * 2 ^ m + r) (y * 2 ^ m + s) ≡ held_sum h l x y * 2 ^ m + held_sum H L r s
  sum_block =
      ap (λ (w : ℕ). bit_xor w (bit_and (bit_xor (x * 2 ^ m + r) (y * 2 ^ m + s)) (h * 2 ^ m + H))) added
      ∙ put_block (bit_and x l + bit_and y l) (bit_and r L + bit_and s L) (omega (arith, and_le_r r L, and_le_r s L))

  -- nothing is borrowed from x
  module _ (l-h : l ≤ h) (L-H : L ≤ H) where
    taken : bit_or (x * 2 ^ m + r) (h * 2 ^ m + H) - bit_and (y * 2 ^ m + s) (l * 2 ^ m + L) ≡ (bit_or x h - bit_and y l) * 2 ^ m + (bit_or r H - bit_and s L)
    taken =
        ap₂ ◌-◌ (or_block m x h r H fit-r fit-H) (and_block m y l s L fit-s once_L)
        ∙ apart (bit_or x h) (bit_and y l) (bit_or r H) (bit_and s L) (omega (arith, and_le_r y l, le_or_r x h)) (omega (arith, and_le_r s L, le_or_r r H))
      where
        apart : (p q u v : ℕ) → q ≤ p → v ≤ u → p * 2 ^ m + u - (q * 2 ^ m + v) ≡ (p - q) * 2 ^ m + (u - v)
        apart p q u v hp hv = omega (arith, sym (ap (λ (t : ℕ). t * 2 ^ m) (sub-add_cancel hp)) ∙ add-mul (p - q) q (2 ^ m))

    difference_block : held_difference (h * 2 ^ m + H) (l * 2 ^ m + L) (x * 2 ^ m + r) (y * 2 ^ m + s) ≡ held_difference h l x y * 2 ^ m + held_difference H L r s
    difference_block =
        let low : bit_or r H - bit_and s L < 2 ^ m = omega (arith, or_lt m r H fit-r fit-H) in
        let tops : bit_and (bit_xor r s) H < 2 ^ m = and_lt m (bit_xor r s) H (xor_lt m r s fit-r fit-s) fit-H in
        ap (λ (w : ℕ). bit_xor w (h * 2 ^ m + H))
        (ap (λ (w : ℕ). bit_xor w (bit_and (bit_xor (x * 2 ^ m + r) (y * 2 ^ m + s)) (h * 2 ^ m + H))) taken
        ∙ put_block (bit_or x h - bit_and y l) (bit_or r H - bit_and s L) low)
        ∙ xor_block m (bit_xor (bit_or x h - bit_and y l) (bit_and (bit_xor x y) h)) h (bit_xor (bit_or r H - bit_and s L) (bit_and (bit_xor r s) H)) H
        (xor_lt m (bit_or r H - bit_and s L) (bit_and (bit_xor r s) H) low tops) fit-H

-- the top bits of n lanes of j + 1 bits, and the bits below them
abbrev tops : ℕ → ℕ → ℕ
tops j n = lanewise (λ _ _. 2 ^ j) (suc j) n 0 0

abbrev below : ℕ → ℕ → ℕ
below j n = lanewise (λ _ _. 2 ^ j - 1) (suc j) n 0 0

module _ (j : ℕ) where
  -- together they are all bits
  all_bits : (n : ℕ) → tops j n + below j n ≡ 2 ^ (suc j * n) - 1
  unfolding lanewise
  all_bits zero = simp mul-zero
  all_bits (suc n) =
      omega (
        arith,
        all_bits n,
        add-mul (2 ^ j) (2 ^ j - 1) (2 ^ (suc j * n)),
        ap (λ (x : ℕ). x * 2 ^ (suc j * n)) lane,
        sym (ones_split (suc j) (suc j * n)),
        ap (λ (x : ℕ). 2 ^ x) (mul-suc (suc j) n ∙ add_comm (suc j * n) (suc j)),
      )
    where
      lane : 2 ^ j + (2 ^ j - 1) ≡ 2 ^ suc j - 1
      lane = omega (arith, two-pow-succ j, pow_pos j)

  below_le_tops : (n : ℕ) → below j n ≤ tops j n
  unfolding lanewise
  below_le_tops zero = omega arith
  below_le_tops (suc n) = omega (arith, mul-le-mul_right (2 ^ (suc j * n)) (le_of_lt (ones_lt j)), below_le_tops n)

  tops_fit : (n : ℕ) → tops j n < 2 ^ (suc j * n)
  tops_fit n = omega (arith, all_bits n, pow_pos (suc j * n))

  pub below_twice : (n : ℕ) → below j n + below j n < 2 ^ (suc j * n)
  below_twice n = omega (arith, all_bits n, below_le_tops n, pow_pos (suc j * n))

  -- what works on each lane, and on the highest apart from those below it, works on all at once
  module _ (held : ℕ → ℕ → ℕ → ℕ → ℕ) (f : ℕ → ℕ → ℕ) (none : held 0 0 0 0 ≡ 0)
      (one : (x y : ℕ) → x < 2 ^ suc j → y < 2 ^ suc j → held (2 ^ j) (2 ^ j - 1) x y ≡ f x y)
      (block : (n x y r s : ℕ) → r < 2 ^ (suc j * n) → s < 2 ^ (suc j * n)
      → held (2 ^ j * 2 ^ (suc j * n) + tops j n) ((2 ^ j - 1) * 2 ^ (suc j * n) + below j n) (x * 2 ^ (suc j * n) + r) (y * 2 ^ (suc j * n) + s)
      ≡ held (2 ^ j) (2 ^ j - 1) x y * 2 ^ (suc j * n) + held (tops j n) (below j n) r s) where
    at_once : (n a b : ℕ) → lanewise f (suc j) n a b ≡ held (tops j n) (below j n) (a % 2 ^ (suc j * n)) (b % 2 ^ (suc j * n))
    unfolding lanewise
    at_once =
        lanewise-whole f (suc j) (λ n. held (tops j n) (below j n)) none
        (λ n x y r s hx hy hr hs. block n x y r s hr hs ∙ ap (λ (t : ℕ). t * 2 ^ (suc j * n) + held (tops j n) (below j n) r s) (one x y hx hy))

  pub sums_at_once : (n a b : ℕ)
      → lanewise (sum (suc j)) (suc j) n a b ≡ held_sum (tops j n) (below j n) (a % 2 ^ (suc j * n)) (b % 2 ^ (suc j * n))
  sums_at_once =
      at_once held_sum (sum (suc j)) refl (sum-lane j)
      (λ n x y r s hr hs. sum_block (suc j * n) (2 ^ j) (tops j n) (2 ^ j - 1) (below j n) x y r s (tops_fit n) (below_twice n) hr hs)

  pub differences_at_once : (n a b : ℕ)
      → lanewise (difference (suc j)) (suc j) n a b ≡ held_difference (tops j n) (below j n) (a % 2 ^ (suc j * n)) (b % 2 ^ (suc j * n))
  differences_at_once =
      at_once held_difference (difference (suc j)) refl (difference-lane j)
      (λ n x y r s hr hs. difference_block (suc j * n) (2 ^ j) (tops j n) (2 ^ j - 1) (below j n) x y r s (tops_fit n) (below_twice n) hr hs (le_of_lt (ones_lt j)) (below_le_tops n))
