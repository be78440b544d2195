-- The products of lanes, put in from the lowest lane up, stay a word.
-- Assumes nothing.
use Rattle.std.proofs.Common.{◌≡◌, ℕ, suc, ◌+◌, ◌*◌, ◌/◌, ◌%◌, ◌^◌, ◌<◌, ◌≤◌, sym, ap, ◌∙◌, add_comm, add-one, lt_of_lt_of_le, le_trans, mul-le-mul_left, div-mul-le_self, mul_comm, mod-eq_of_lt, arith, pow-add, pow_mono}
use Rattle.std.proofs.lemmas.Nat.{mul-lt}
use Rattle.words.specs.Arithmetic.{product}
use Rattle.words.specs.Lanes.{lane, lanewise}
use Rattle.words.proofs.LaneLaws.{lane_below, lanewise_below}
use Rattle.words.proofs.WordLaws.{product_below}

-- the product of two numbers of k bits has at most k + k
pub product-fits : (k : ℕ) {a b : ℕ} → a < 2 ^ k → b < 2 ^ k → a * b < 2 ^ (k + k)
product-fits k {a} {b} ha hb = rw (pow-add 2 k k) (mul-lt _ _ _ _ ha hb)

module _ (k i a b : ℕ) where
  -- lane i put in above the lower ones
  pub more_lanes : lanewise (product k) k i a b + product k (lane k i a) (lane k i b) * 2 ^ (k * i) ≡ lanewise (product k) k (i + 1) a b
  unfolding lanewise
  more_lanes =
      add_comm (lanewise (product k) k i a b) (product k (lane k i a) (lane k i b) * 2 ^ (k * i))
      ∙ ap (λ (n : ℕ). lanewise (product k) k n a b) (sym (add-one i))

  -- they are a word
  pub more_lanes_fit : i < 32 / k → product k (lane k i a) (lane k i b) * 2 ^ (k * i) + lanewise (product k) k i a b < 2 ^ 32
  unfolding lanewise
  more_lanes_fit h =
      lt_of_lt_of_le (lanewise_below (product k) k (λ x y _ _. product_below k x y) (suc i) a b)
      (pow_mono {j = 32} (le_trans (mul-le-mul_left k h) (omega (arith, mul_comm k (32 / k), div-mul-le_self 32 k))))

  -- so its shift loses no bit
  pub shifted_lane : i < 32 / k → product k (lane k i a) (lane k i b) * 2 ^ (k * i) % 2 ^ 32 ≡ product k (lane k i a) (lane k i b) * 2 ^ (k * i)
  shifted_lane h = mod-eq_of_lt (omega (arith, more_lanes_fit h))

  -- the product of two lanes of at most 16 bits is a word
  pub lane_product_fits : k ≤ 16 → lane k i a * lane k i b < 2 ^ 32
  lane_product_fits h =
      lt_of_lt_of_le (product-fits k (lane_below k i a) (lane_below k i b)) (pow_mono {j = 32} (omega arith))
