-- The first set place of n.
-- Assumes nothing.
use Rattle.std.proofs.Common.{◌≡◌, ℕ, zero, suc, ◌<◌, ◌≤◌, ◌⊎◌, sym, ap, ◌∙◌, inl, inr, suc-le-suc, zero-le, le_of_suc-le-suc, not-suc-le-zero, lt_irrefl, zero-lt-suc, eq-zero-or-pos, eq-or-lt_of_le, arith, ne_eqb}
use lib.Arith.{le-zero}
use Rattle.words.specs.Counts.{first_set}

-- what the first set place r of n is: none is set before it, and it is set, unless it is n
pub record First (b : ℕ → ℕ) (n r : ℕ) : Type 0 where
  pub within : r ≤ n
  pub clear : (i : ℕ) → i < r → b i ≡ 0
  pub set : r < n → 0 < b r

after_clear : (b : ℕ → ℕ) (n : ℕ) → b 0 ≡ 0 → first_set b (suc n) ≡ suc (first_set (λ i. b (suc i)) n)
unfolding first_set
after_clear b n e = rw e

at_set : (b : ℕ → ℕ) (n : ℕ) → 0 < b 0 → first_set b (suc n) ≡ 0
unfolding first_set
at_set b n p = rw (ne_eqb (b 0) 0 (λ e. omega arith))

clear_more : (b : ℕ → ℕ) (r : ℕ) → b 0 ≡ 0 → ((i : ℕ) → i < r → b (suc i) ≡ 0) → (i : ℕ) → i < suc r → b i ≡ 0
clear_more b r e clear zero h = e
clear_more b r e clear (suc i) h = clear i (le_of_suc-le-suc h)

pub first : (b : ℕ → ℕ) (n : ℕ) → First b n (first_set b n)
unfolding first_set
first b zero = record { within = zero-le; clear = λ i h. absurd (not-suc-le-zero h); set = λ h. absurd (lt_irrefl 0 h) }
first b (suc n) = go (first (λ i. b (suc i)) n) (eq-zero-or-pos (b 0))
  where
    go : First (λ i. b (suc i)) n (first_set (λ i. b (suc i)) n) → (b 0 ≡ 0) ⊎ (0 < b 0) → First b (suc n) (first_set b (suc n))
    go ih (inl e) =
        rw (after_clear b n e)
        (record {
          within = suc-le-suc ih.within;
          clear = clear_more b (first_set (λ i. b (suc i)) n) e ih.clear;
          set = λ h. ih.set (le_of_suc-le-suc h);
        })
    go ih (inr p) = rw (at_set b n p) (record { within = zero-le; clear = λ i h. absurd (not-suc-le-zero h); set = λ h. p })

-- only one place is the first
pub first_only : (b : ℕ → ℕ) (n r : ℕ) → First b n r → r ≡ first_set b n
unfolding first_set
first_only b zero r f = le-zero f.within
first_only b (suc n) zero f = sym (at_set b n (f.set (zero-lt-suc n)))
first_only b (suc n) (suc r) f =
    ap suc (first_only (λ i. b (suc i)) n r
    (record {
      within = le_of_suc-le-suc f.within;
      clear = λ i h. f.clear (suc i) (suc-le-suc h);
      set = λ h. f.set (suc-le-suc h);
    }))
    ∙ sym (after_clear b n (f.clear 0 (zero-lt-suc r)))

-- some place is set, so the first is one of the n
pub first_found : (b : ℕ → ℕ) (n : ℕ) → (((i : ℕ) → i < n → b i ≡ 0) → ⊥) → first_set b n < n
first_found b n some = go (eq-or-lt_of_le (first b n).within)
  where
    go : (first_set b n ≡ n) ⊎ (first_set b n < n) → first_set b n < n
    go (inl e) = absurd (some (λ i l. (first b n).clear i (rw e l)))
    go (inr l) = l
