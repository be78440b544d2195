-- What differences, magnitudes and extended numbers are.
-- Assumes nothing.
use Rattle.std.proofs.Common.{◌≡◌, ℕ, suc, ◌+◌, ◌-◌, ◌*◌, ◌%◌, ◌^◌, ◌<◌, ◌≤◌, ◌⊎◌, pos, negsuc, nat_abs, refl, ap, ◌∙◌, inl, inr, mod-eq_of_lt, arith, pow_mono, le-ltb, lt-ltb}
use native.Mathlib.Nat.{mod-add-mod, add-mod_right, pow-succ'}
use Rattle.words.specs.Signed.{signed_of, extended}
use Rattle.words.specs.Arithmetic.{difference, magnitude}
use Rattle.words.proofs.SignedOrder.{signed_small, signed_large}
use Rattle.words.proofs.Order.{lt_or_ge}

-- the difference is a number that b added to gives a back, modulo 2 ^ k
pub difference-back : (k a b : ℕ) → b ≤ 2 ^ k → a < 2 ^ k → (difference k a b + b) % 2 ^ k ≡ a
difference-back k a b hb ha =
    mod-add-mod (a + (2 ^ k - b)) (2 ^ k) b
    ∙ ap (λ (x : ℕ). x % 2 ^ k) (omega arith)
    ∙ add-mod_right a (2 ^ k)
    ∙ mod-eq_of_lt ha

-- the magnitude is the signed number without its sign; of the least number it is that word itself
pub magnitude_abs : (a : ℕ) → a < 2 ^ 32 → magnitude a ≡ nat_abs (signed_of a)
unfolding magnitude
magnitude_abs a h = go (lt_or_ge a (2 ^ 31))
  where
    go : (a < 2 ^ 31) ⊎ (2 ^ 31 ≤ a) → magnitude a ≡ nat_abs (signed_of a)
    go (inl p) = rw (lt-ltb a (2 ^ 31) p)
    go (inr p) = rw (le-ltb a (2 ^ 31) p) (omega arith)

pub magnitude-least : magnitude (2 ^ 31) ≡ 2 ^ 31
unfolding magnitude
magnitude-least = refl

-- an extended number keeps its signed value
pub extended_small : (k x : ℕ) → k ≤ 32 → x < 2 ^ (k - 1) → signed_of (extended k x) ≡ pos x
extended_small k x hk p =
    let half : 2 ^ (k - 1) ≤ 2 ^ 31 = pow_mono {j = 31} (omega arith) in
    rw (lt-ltb x (2 ^ (k - 1)) p) (signed_small x (omega arith))

pub extended_large : (k x : ℕ) → 0 < k → k ≤ 32 → 2 ^ (k - 1) ≤ x → x < 2 ^ k → signed_of (extended k x) ≡ negsuc (2 ^ k - suc x)
extended_large k x p hk l h =
    let half : 2 ^ (k - 1) ≤ 2 ^ 31 = pow_mono {j = 31} (omega arith) in
    let next : k ≡ suc (k - 1) = omega arith in
    let twice : 2 ^ k ≡ 2 * 2 ^ (k - 1) = ap (λ (n : ℕ). 2 ^ n) next ∙ pow-succ' 2 (k - 1) in
    rw (le-ltb x (2 ^ (k - 1)) l) (signed_large (x + (2 ^ 32 - 2 ^ k)) (omega arith) ∙ ap negsuc (omega arith))
