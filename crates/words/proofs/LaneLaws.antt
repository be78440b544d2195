-- The laws of lanes, over the width k and the number n of the lanes.
-- Assumes nothing.
use Rattle.std.proofs.Common.{◌≡◌, ℕ, zero, suc, ◌+◌, ◌*◌, ◌/◌, ◌%◌, ◌^◌, ◌<◌, ◌⊎◌, sym, refl, ap, ◌∙◌, ap₂, inl, inr, lt_trans, le_of_suc-le-suc, not-suc-le-zero, mod-lt, mod-eq_of_lt, lt-suc_self, add_comm, eq-or-lt_of_le, mul-zero, mul-suc, mul-add, pow_pos, pow-add}
use mathlib.Core.Path.{subst⁻¹}
use native.Mathlib.Nat.{mod-one, mul-add-mod_self_right, le_dest, suc_inj}
use lib.Arith.{digits_lt}
use lib.Bits.{bit_xor, bit_and, bit_or, xor_block, and_block, or_block}
use lib.Pow.{high, field, mod-pow-add, mod-mod-pow}
use Rattle.words.specs.Lanes.{lane, lanewise}

-- a lane fits its width
pub lane_below : (k i w : ℕ) → lane k i w < 2 ^ k
lane_below k i w = mod-lt (w / 2 ^ (k * i)) (pow_pos k)

-- the low n + 1 lanes of a word are lane n above the low n
next : (k n : ℕ) → k + k * n ≡ k * suc n
next k n = add_comm k (k * n) ∙ sym (mul-suc k n)

pub one-lane-more : (k n w : ℕ) → w % 2 ^ (k * suc n) ≡ lane k n w * 2 ^ (k * n) + w % 2 ^ (k * n)
one-lane-more k n w = ap (λ (x : ℕ). w % 2 ^ x) (sym (next k n)) ∙ mod-pow-add w k (k * n)

-- the lanes below n are those of the low n lanes
apart : (k i d : ℕ) → k * (suc i + d) ≡ k * d + (k + k * i)
apart k i d = mul-add k (suc i) d ∙ add_comm (k * suc i) (k * d) ∙ ap (λ (x : ℕ). k * d + x) (sym (next k i))

pub lane_of_low : (k n i w : ℕ) → i < n → lane k i (w % 2 ^ (k * n)) ≡ lane k i w
lane_of_low k n i w h =
    let d = le_dest h in
    sym (field (w % 2 ^ (k * n)) k (k * i))
    ∙ ap (λ (x : ℕ). w % 2 ^ x % 2 ^ (k + k * i) / 2 ^ (k * i)) (ap (λ (x : ℕ). k * x) (sym d.1) ∙ apart k i d.0)
    ∙ ap (λ (x : ℕ). x / 2 ^ (k * i)) (mod-mod-pow w (k * d.0) (k + k * i))
    ∙ field w k (k * i)

-- two words whose low n lanes agree agree in their low bits
pub same_lanes : (k n a b : ℕ) → ((i : ℕ) → i < n → lane k i a ≡ lane k i b) → a % 2 ^ (k * n) ≡ b % 2 ^ (k * n)
same_lanes k zero a b h = simp (mul-zero, mod-one)
same_lanes k (suc n) a b h =
    one-lane-more k n a
    ∙ ap₂ (λ (x y : ℕ). x * 2 ^ (k * n) + y) (h n (lt-suc_self n)) (same_lanes k n a b (λ i l. h i (lt_trans l (lt-suc_self n))))
    ∙ sym (one-lane-more k n b)

-- a lane put above the low n lanes is lane n, and the lanes below it stay
lane-put : (k n t low : ℕ) → t < 2 ^ k → low < 2 ^ (k * n) → lane k n (t * 2 ^ (k * n) + low) ≡ t
lane-put k n t low ht hl = ap (λ (x : ℕ). x % 2 ^ k) (high t (k * n) hl) ∙ mod-eq_of_lt ht

lane-kept : (k n i t low : ℕ) → i < n → lane k i (t * 2 ^ (k * n) + low) ≡ lane k i low
lane-kept k n i t low h =
    sym (lane_of_low k n i (t * 2 ^ (k * n) + low) h)
    ∙ ap (λ (x : ℕ). lane k i x) (mul-add-mod_self_right t (2 ^ (k * n)) low)
    ∙ lane_of_low k n i low h

module _ (f : ℕ → ℕ → ℕ) (k : ℕ) (fits : (x y : ℕ) → x < 2 ^ k → y < 2 ^ k → f x y < 2 ^ k) where
  fits_at : (n a b : ℕ) → f (lane k n a) (lane k n b) < 2 ^ k
  fits_at n a b = fits (lane k n a) (lane k n b) (lane_below k n a) (lane_below k n b)

  -- n lanes fit into n times the width
  pub lanewise_below : (n a b : ℕ) → lanewise f k n a b < 2 ^ (k * n)
  unfolding lanewise
  lanewise_below zero a b = pow_pos (k * zero)
  lanewise_below (suc n) a b =
      subst⁻¹ (λ (x : ℕ). lanewise f k (suc n) a b < x) (ap (λ (x : ℕ). 2 ^ x) (sym (next k n)) ∙ pow-add 2 k (k * n))
      (digits_lt (fits_at n a b) (lanewise_below n a b))

  -- lane i of the result is f of lane i of a and lane i of b
  pub lanewise-lane : (n a b i : ℕ) → i < n → lane k i (lanewise f k n a b) ≡ f (lane k i a) (lane k i b)
  unfolding lanewise
  lanewise-lane zero a b i h = absurd (not-suc-le-zero h)
  lanewise-lane (suc n) a b i h = go (lanewise-lane n a b i) (eq-or-lt_of_le h)
    where
      go : (i < n → lane k i (lanewise f k n a b) ≡ f (lane k i a) (lane k i b)) → (suc i ≡ suc n) ⊎ (suc i < suc n)
          → lane k i (lanewise f k (suc n) a b) ≡ f (lane k i a) (lane k i b)
      go below (inl e) = rw (suc_inj e) (lane-put k n (f (lane k n a) (lane k n b)) (lanewise f k n a b) (fits_at n a b) (lanewise_below n a b))
      go below (inr l) =
          lane-kept k n i (f (lane k n a) (lane k n b)) (lanewise f k n a b) (le_of_suc-le-suc l) ∙ below (le_of_suc-le-suc l)

  -- so no lane of the result depends on another lane: words that agree in lane i give results that agree in lane i
  pub lanewise_apart : (n a b a' b' i : ℕ) → i < n → lane k i a ≡ lane k i a' → lane k i b ≡ lane k i b'
      → lane k i (lanewise f k n a b) ≡ lane k i (lanewise f k n a' b')
  lanewise_apart n a b a' b' i h p q = lanewise-lane n a b i h ∙ ap₂ f p q ∙ sym (lanewise-lane n a' b' i h)

-- an operation on n lanes that works on the highest apart from those below it works on the whole word at once
module _ (f : ℕ → ℕ → ℕ) (k : ℕ) (op : ℕ → ℕ → ℕ → ℕ) (none : op 0 0 0 ≡ 0)
    (highest : (n x y r s : ℕ) → x < 2 ^ k → y < 2 ^ k → r < 2 ^ (k * n) → s < 2 ^ (k * n)
    → op (suc n) (x * 2 ^ (k * n) + r) (y * 2 ^ (k * n) + s) ≡ f x y * 2 ^ (k * n) + op n r s) where
  pub lanewise-whole : (n a b : ℕ) → lanewise f k n a b ≡ op n (a % 2 ^ (k * n)) (b % 2 ^ (k * n))
  unfolding lanewise
  lanewise-whole zero a b = simp (mul-zero, mod-one) (sym none)
  lanewise-whole (suc n) a b =
      ap (λ (x : ℕ). f (lane k n a) (lane k n b) * 2 ^ (k * n) + x) (lanewise-whole n a b)
      ∙ sym
      (highest n (lane k n a) (lane k n b) (a % 2 ^ (k * n)) (b % 2 ^ (k * n)) (lane_below k n a) (lane_below k n b) (mod-lt a (pow_pos (k * n))) (mod-lt b (pow_pos (k * n))))
      ∙ ap₂ (op (suc n)) (sym (one-lane-more k n a)) (sym (one-lane-more k n b))

-- so does one that works on each run of bits apart, whatever the lanes' width
module _ (op : ℕ → ℕ → ℕ) (none : op 0 0 ≡ 0)
    (block : (k a b r s : ℕ) → r < 2 ^ k → s < 2 ^ k → op (a * 2 ^ k + r) (b * 2 ^ k + s) ≡ op a b * 2 ^ k + op r s) where
  lanewise_bits : (k n a b : ℕ) → lanewise op k n a b ≡ op (a % 2 ^ (k * n)) (b % 2 ^ (k * n))
  lanewise_bits k = lanewise-whole op k (λ _. op) none (λ n x y r s _ _ hr hs. block (k * n) x y r s hr hs)

pub lanewise_xor : (k n a b : ℕ) → lanewise bit_xor k n a b ≡ bit_xor (a % 2 ^ (k * n)) (b % 2 ^ (k * n))
lanewise_xor = lanewise_bits bit_xor refl xor_block

pub lanewise_and : (k n a b : ℕ) → lanewise bit_and k n a b ≡ bit_and (a % 2 ^ (k * n)) (b % 2 ^ (k * n))
lanewise_and = lanewise_bits bit_and refl and_block

pub lanewise_or : (k n a b : ℕ) → lanewise bit_or k n a b ≡ bit_or (a % 2 ^ (k * n)) (b % 2 ^ (k * n))
lanewise_or = lanewise_bits bit_or refl or_block
