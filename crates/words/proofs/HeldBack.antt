-- The sum and the difference of two lanes with their top bits held back and put in by xor.
-- Assumes nothing.
use Rattle.std.proofs.Common.{◌≡◌, ℕ, suc, ◌+◌, ◌-◌, ◌*◌, ◌/◌, ◌%◌, ◌^◌, ◌<◌, sym, ap, ◌∙◌, subst, ap₂, add-zero, mod-lt, mod-eq_of_lt, mul_assoc, add-mul, mul-lt-mul_of_pos_right, one-mul, pow-suc, mul-add, arith, pow_pos}
use native.Mathlib.Nat.{mod-add-mod, mod-add-div', add-mul-mod_self_right, two-pow-succ, pow-succ'}
use lib.Bits.{bit_xor, bit_and, bit_or, and_block, and_mask, and_zero_r, xor_lt, or_add_and, xor_add_and}
use lib.Pow.{add-lt-pow, split, recompose}
use Rattle.words.specs.Arithmetic.{sum, difference}
use Rattle.words.specs.Counts.{bit}
use Rattle.words.proofs.BitwiseLaws.{xor_bit}

-- what the code computes of two words, by the top bits of their lanes and the bits below them
abbrev pub held_sum : ℕ → ℕ → ℕ → ℕ → ℕ
held_sum tops below a b = bit_xor (bit_and a below + bit_and b below) (bit_and (bit_xor a b) tops)

abbrev pub held_difference : ℕ → ℕ → ℕ → ℕ → ℕ
held_difference tops below a b = bit_xor (bit_xor (bit_or a tops - bit_and b below) (bit_and (bit_xor a b) tops)) tops

-- one lane of j + 1 bits
module _ (j : ℕ) where
  -- what a word has below the top bit
  low : (w : ℕ) → w % 2 ^ j < 2 ^ j
  low w = mod-lt w (pow_pos j)

  -- an and with what stands from the top bit on
  and_top : (u t : ℕ) → bit_and u (t * 2 ^ j) ≡ bit_and (u / 2 ^ j) t * 2 ^ j
  and_top u t =
      ap₂ bit_and (sym (split u j)) (sym (add-zero (t * 2 ^ j)))
      ∙ and_block j (u / 2 ^ j) t (u % 2 ^ j) 0 (low u) (pow_pos j)
      ∙ ap (λ (x : ℕ). bit_and (u / 2 ^ j) t * 2 ^ j + x) (and_zero_r (u % 2 ^ j))
      ∙ add-zero (bit_and (u / 2 ^ j) t * 2 ^ j)

  -- a top bit put in by xor is added, but for what would be carried out of the lane
  xor_top : (u t : ℕ) → bit_xor u (t * 2 ^ j) % 2 ^ suc j ≡ (u + t * 2 ^ j) % 2 ^ suc j
  xor_top u t =
      sym (add-mul-mod_self_right (bit_xor u (t * 2 ^ j)) (bit_and (u / 2 ^ j) t) (2 ^ suc j))
      ∙ ap (λ (x : ℕ). (bit_xor u (t * 2 ^ j) + x) % 2 ^ suc j) carried
      ∙ ap (λ (x : ℕ). x % 2 ^ suc j) (xor_add_and u (t * 2 ^ j))
    where
      carried : bit_and (u / 2 ^ j) t * 2 ^ suc j ≡ bit_and u (t * 2 ^ j) * 2
      carried =
          ap (λ (x : ℕ). bit_and (u / 2 ^ j) t * x) (pow-suc 2 j)
          ∙ sym (mul_assoc (bit_and (u / 2 ^ j) t) (2 ^ j) 2)
          ∙ ap (λ (x : ℕ). x * 2) (sym (and_top u t))

  put_in : (u t : ℕ) → u < 2 ^ suc j → t < 2 → bit_xor u (t * 2 ^ j) ≡ (u + t * 2 ^ j) % 2 ^ suc j
  put_in u t h l =
      sym (mod-eq_of_lt (xor_lt (suc j) u (t * 2 ^ j) h (subst (λ (n : ℕ). t * 2 ^ j < n) (sym (pow-succ' 2 j)) (mul-lt-mul_of_pos_right l (pow_pos j)))))
      ∙ xor_top u t

  -- two of them are carried out
  two_tops : (u n : ℕ) → (u + n % 2 * 2 ^ j) % 2 ^ suc j ≡ (u + n * 2 ^ j) % 2 ^ suc j
  two_tops u n =
      sym (add-mul-mod_self_right (u + n % 2 * 2 ^ j) (n / 2) (2 ^ suc j)) ∙ ap (λ (x : ℕ). x % 2 ^ suc j) (omega (arith, halves, both))
    where
      halves : n / 2 * 2 ^ suc j ≡ n / 2 * 2 * 2 ^ j
      halves = ap (λ (x : ℕ). n / 2 * x) (pow-succ' 2 j) ∙ sym (mul_assoc (n / 2) 2 (2 ^ j))

      both : n % 2 * 2 ^ j + n / 2 * 2 * 2 ^ j ≡ n * 2 ^ j
      both = sym (add-mul (n % 2) (n / 2 * 2) (2 ^ j)) ∙ ap (λ (x : ℕ). x * 2 ^ j) (mod-add-div' n 2)

  -- a lane's top bit alone, and with the bits below it
  top_alone : (w : ℕ) → bit_and w (2 ^ j) ≡ bit j w * 2 ^ j
  top_alone w = ap (bit_and w) (sym (one-mul (2 ^ j))) ∙ and_top w 1 ∙ ap (λ (x : ℕ). x * 2 ^ j) (and_mask (w / 2 ^ j) 1)

  by_top : (w : ℕ) → w < 2 ^ suc j → bit j w * 2 ^ j + w % 2 ^ j ≡ w
  by_top w h = recompose 1 j (subst (λ (n : ℕ). w < 2 ^ n) (omega arith) h)

  module _ (x y : ℕ) (hx : x < 2 ^ suc j) (hy : y < 2 ^ suc j) where
    -- the two top bits put in
    put_both : (u : ℕ) → u < 2 ^ suc j → bit_xor u (bit_and (bit_xor x y) (2 ^ j)) ≡ (u + (bit j x + bit j y) * 2 ^ j) % 2 ^ suc j
    put_both u h =
        ap (bit_xor u) (top_alone (bit_xor x y))
        ∙ put_in u (bit j (bit_xor x y)) h (mod-lt (bit_xor x y / 2 ^ j) (omega arith))
        ∙ ap (λ (t : ℕ). (u + t * 2 ^ j) % 2 ^ suc j) (xor_bit j x y)
        ∙ two_tops u (bit j x + bit j y)

    pub sum-lane : held_sum (2 ^ j) (2 ^ j - 1) x y ≡ sum (suc j) x y
    sum-lane =
        ap (λ (u : ℕ). bit_xor u (bit_and (bit_xor x y) (2 ^ j))) (ap₂ ◌+◌ (and_mask x j) (and_mask y j))
        ∙ put_both (x % 2 ^ j + y % 2 ^ j) (add-lt-pow j (low x) (low y))
        ∙ ap (λ (n : ℕ). n % 2 ^ suc j) (omega (arith, add-mul (bit j x) (bit j y) (2 ^ j), by_top x hx, by_top y hy))

    pub difference-lane : held_difference (2 ^ j) (2 ^ j - 1) x y ≡ difference (suc j) x y
    difference-lane =
        ap (λ (u : ℕ). bit_xor (bit_xor u (bit_and (bit_xor x y) (2 ^ j))) (2 ^ j)) (ap₂ ◌-◌ lent (and_mask y j))
        ∙ ap₂ bit_xor (put_both (2 ^ j + x % 2 ^ j - y % 2 ^ j) (omega (arith, low x, two-pow-succ j))) (sym (one-mul (2 ^ j)))
        ∙ put_in (with_tops % 2 ^ suc j) 1 (mod-lt with_tops (pow_pos (suc j))) (omega arith)
        ∙ mod-add-mod with_tops (2 ^ suc j) (1 * 2 ^ j)
        ∙ ap (λ (n : ℕ). n % 2 ^ suc j) whole
        ∙ add-mul-mod_self_right (x + (2 ^ suc j - y)) (bit j y) (2 ^ suc j)
      where
        lent : bit_or x (2 ^ j) ≡ 2 ^ j + x % 2 ^ j
        lent = omega (arith, or_add_and x (2 ^ j), top_alone x, by_top x hx)

        with_tops : ℕ
        with_tops = 2 ^ j + x % 2 ^ j - y % 2 ^ j + (bit j x + bit j y) * 2 ^ j

        whole : with_tops + 1 * 2 ^ j ≡ x + (2 ^ suc j - y) + bit j y * 2 ^ suc j
        whole =
            omega (
              arith,
              low y,
              two-pow-succ j,
              by_top x hx,
              by_top y hy,
              add-mul (bit j x) (bit j y) (2 ^ j),
              ap (λ (n : ℕ). bit j y * n) (two-pow-succ j) ∙ mul-add (bit j y) (2 ^ j) (2 ^ j),
            )
