-- The counts of zeros at either end are the place of the first set bit, over the number of bits.
-- Assumes nothing.
use Rattle.std.proofs.Common.{◌≡◌, ℕ, zero, suc, ◌-◌, ◌*◌, ◌/◌, ◌%◌, ◌^◌, ◌<◌, ◌≤◌, cond, eqb, ◌⊎◌, sym, refl, ap, ◌∙◌, ap₂, inl, inr, le_refl, le_of_suc-le-suc, lt_irrefl, mod-eq_of_lt, zero-lt-suc, eq-zero-or-pos, one-mul, div-one, arith}
use mathlib.Core.Path.{fun_ext}
use native.Mathlib.Nat.{zero-div, zero-mod, div-eq_of_lt-le, div-div-eq-div-mul, pow-succ'}
use Rattle.std.proofs.lemmas.Nat.Bits.{bit_at_above}
use lib.Dec.{eqb-suc-zero}
use lib.Arith.{sub-sub_self}
use lib.Count.{count_leading_zeros, count_trailing_zeros, under, leading_of_zero, leading_le, leading_top}
use Rattle.words.specs.Counts.{bit, first_set, clz_of, ctz_of}
use Rattle.words.proofs.LaneLaws.{same_lanes}
use Rattle.words.proofs.FirstSet.{First, first, first_only, first_found}

-- the library counts trailing zeros by halving
bit_of_half : (i x : ℕ) → bit (suc i) x ≡ bit i (x / 2)
bit_of_half i x = ap (λ (y : ℕ). x / y % 2) (pow-succ' 2 i) ∙ ap (λ (y : ℕ). y % 2) (sym (div-div-eq-div-mul x 2 (2 ^ i)))

under_cond : (d t : ℕ) → under d t ≡ cond (eqb d 0) (suc t) 0
under_cond zero t = refl
under_cond (suc d) t = rw (eqb-suc-zero d)

pub trailing_first : (k x : ℕ) → count_trailing_zeros k x ≡ first_set (λ i. bit i x) k
unfolding first_set count_trailing_zeros
trailing_first zero x = refl
trailing_first (suc k) x =
    under_cond (x % 2) (count_trailing_zeros k (x / 2))
    ∙ ap₂ (λ (d t : ℕ). cond (eqb d 0) (suc t) 0) (ap (λ (y : ℕ). y % 2) (sym (div-one x)))
    (trailing_first k (x / 2) ∙ ap (λ (b : ℕ → ℕ). first_set b k) (fun_ext (λ i. sym (bit_of_half i x))))

-- the highest set bit j of a number that has k + 1 bits
bit_top : (x j : ℕ) → 2 ^ j ≤ x → x < 2 ^ suc j → bit j x ≡ 1
bit_top x j l h = rw (div-eq_of_lt-le {k = 1} (2 ^ j) {m = x} (omega arith) (omega (arith, pow-succ' 2 j)))

bit_of_zero : (i : ℕ) → bit i 0 ≡ 0
bit_of_zero i = simp (zero-div, zero-mod)

pub leading_first : (k x : ℕ) → x < 2 ^ suc k → count_leading_zeros (suc k) x ≡ first_set (λ i. bit (k - i) x) (suc k)
leading_first k x h = first_only (λ i. bit (k - i) x) (suc k) (count_leading_zeros (suc k) x) (go (eq-zero-or-pos x))
  where
    go : (x ≡ 0) ⊎ (0 < x) → First (λ i. bit (k - i) x) (suc k) (count_leading_zeros (suc k) x)
    go (inl e) =
        rw (e, leading_of_zero (suc k))
        (record { within = le_refl (suc k); clear = λ i l. bit_of_zero (k - i); set = λ l. absurd (lt_irrefl (suc k) l) })
    go (inr p) =
        let top = leading_top (suc k) x p h in
        let place : k - count_leading_zeros (suc k) x ≡ top.0 = omega (arith, top.1) in
        record {
          within = leading_le (suc k) x;
          clear = λ i l. bit_at_above x (suc top.0) (k - i) top.3 (omega (arith, top.1));
          set = λ l. rw (place, bit_top x top.0 top.2 top.3) (zero-lt-suc 0);
        }

-- a number that is not 0 has a set bit
nonzero : (k x : ℕ) → 0 < x → x < 2 ^ k → ((i : ℕ) → i < k → bit i x ≡ 0) → ⊥
nonzero k x p h none =
    let zeros : x % 2 ^ (1 * k) ≡ 0 % 2 ^ (1 * k) = same_lanes 1 k x 0 (λ i l. simp (one-mul, bit_of_zero) (none i l)) in
    let gone : x ≡ 0 = sym (mod-eq_of_lt h) ∙ (simp (one-mul, zero-mod) at zeros) in
    omega arith

-- of x, not 0, with k + 1 bits: looking down from bit k, the first set bit is set and all above it are clear
module _ (k x : ℕ) (p : 0 < x) (h : x < 2 ^ suc k) where
  pub top_within : first_set (λ i. bit (k - i) x) (suc k) < suc k
  top_within =
      first_found (λ i. bit (k - i) x) (suc k)
      (λ none. nonzero (suc k) x p h (λ i l. rw (sub-sub_self (le_of_suc-le-suc l)) at (none (k - i) (omega arith))))

  pub top_set : bit (k - first_set (λ i. bit (k - i) x) (suc k)) x ≡ 1
  top_set = omega (arith, (first (λ i. bit (k - i) x) (suc k)).set top_within)

  pub top_clear : (i : ℕ) → k - first_set (λ i. bit (k - i) x) (suc k) < i → i ≤ k → bit i x ≡ 0
  top_clear i l m =
      rw (sub-sub_self m) at ((first (λ i. bit (k - i) x) (suc k)).clear (k - i) (omega (arith, top_within)))

-- and looking up from bit 0, it is set and all below it are clear
module _ (k x : ℕ) (p : 0 < x) (h : x < 2 ^ k) where
  pub low_within : first_set (λ i. bit i x) k < k
  low_within = first_found (λ i. bit i x) k (nonzero k x p h)

  pub low_set : bit (first_set (λ i. bit i x) k) x ≡ 1
  low_set = omega (arith, (first (λ i. bit i x) k).set low_within)

  pub low_clear : (i : ℕ) → i < first_set (λ i. bit i x) k → bit i x ≡ 0
  low_clear i l = (first (λ i. bit i x) k).clear i l

-- CLZ and CTZ give at most 32
pub clz_le : (x : ℕ) → clz_of x ≤ 32
clz_le x = (first (λ i. bit (31 - i) x) 32).within

pub ctz_le : (x : ℕ) → ctz_of x ≤ 32
ctz_le x = (first (λ i. bit i x) 32).within

-- of a word that is not 0 they mark its highest and its lowest set bit
module _ (x : ℕ) (p : 0 < x) (h : x < 2 ^ 32) where
  pub clz_set : bit (31 - clz_of x) x ≡ 1
  clz_set = top_set 31 x p h

  pub clz_clear : (i : ℕ) → 31 - clz_of x < i → i ≤ 31 → bit i x ≡ 0
  clz_clear = top_clear 31 x p h

  pub ctz_set : bit (ctz_of x) x ≡ 1
  ctz_set = low_set 32 x p h

  pub ctz_clear : (i : ℕ) → i < ctz_of x → bit i x ≡ 0
  ctz_clear = low_clear 32 x p h

-- of 0 there is none: 32
pub clz_zero : clz_of 0 ≡ 32
unfolding first_set
clz_zero = refl

pub ctz_zero : ctz_of 0 ≡ 32
unfolding first_set
ctz_zero = refl
