-- Laws of numbers in decimal: how they are made, that they read back, that they have no leading zero, and how long they are.
-- Assumes nothing.
use mathlib.Core.Path.{◌≡◌, refl}
use mathlib.Core.Bool.{Bool, true, false}
use mathlib.Core.List.{List, [], ◌∷◌, ◌++◌}
use Prim.Native.Nat.{ℕ, zero, suc, ◌+◌, ◌-◌, ◌*◌, ◌/◌, ◌%◌, ◌^◌, ◌≤◌, ◌<◌}
use native.Mathlib.Nat.{pow-suc}
use native.Mathlib.Omega.{arith}
use lib.Dec.{ltb}
use lib.ListN.{length, get_or, set, length-append, get_or-append}
use lib.Seq.{sets}
use borrow.Author.Tests.{lt-ltb, le-ltb, ltb-true, ltb-false}
use Rattle.spelling.specs.Decimal.{digit, digits, decimal}
use Rattle.spelling.proofs.Stores.{sets_append}

one-digit : (most n : ℕ) → n < 10 → digits (suc most) n ≡ digit n ∷ []
unfolding digits
one-digit most n h = rw (lt-ltb n 10 h)

more-digits : (most n : ℕ) → 10 ≤ n → digits (suc most) n ≡ digits most (n / 10) ++ (digit (n % 10) ∷ [])
unfolding digits
more-digits most n h = rw (le-ltb n 10 h)

-- what holds of one digit, and of a number if it holds of its tenth, holds of every number's digits
module _ (P : ℕ → List ℕ → Type 0) (one : (n : ℕ) → n < 10 → P n (digit n ∷ []))
    (more : (n : ℕ) (tenth : List ℕ) → 10 ≤ n → P (n / 10) tenth → P n (tenth ++ (digit (n % 10) ∷ []))) where
  step : (most n : ℕ) → (10 ≤ n → P (n / 10) (digits most (n / 10))) → P n (digits (suc most) n)
  unfolding digits
  step most n rec = go (ltb n 10) refl
    where
      go : (small : Bool) → ltb n 10 ≡ small → P n (digits (suc most) n)
      go true e = rw e (one n (ltb-true _ _ e))
      go false e = rw e (more n (digits most (n / 10)) (ltb-false _ _ e) (rec (ltb-false _ _ e)))

  all : (most n : ℕ) → n < most → P n (digits most n)
  all zero n h = absurd (omega arith)
  all (suc most) n h = step most n (λ ten. all most (n / 10) (omega arith))

  pub of_decimal : (n : ℕ) → P n (decimal n)
  unfolding decimal
  of_decimal n = all (suc n) n (omega arith)

-- any count that is large enough gives the same digits
same_digits : (most n : ℕ) → n < most → digits most n ≡ decimal n
same_digits most n h = of_decimal (λ k ds. (m : ℕ) → k < m → digits m k ≡ ds) small large n most h
  where
    small : (k : ℕ) → k < 10 → (m : ℕ) → k < m → digits m k ≡ digit k ∷ []
    small k b zero h = absurd (omega arith)
    small k b (suc m) h = one-digit m k b

    large : (k : ℕ) (tenth : List ℕ) → 10 ≤ k → ((m : ℕ) → k / 10 < m → digits m (k / 10) ≡ tenth) → (m : ℕ) → k < m → digits m k ≡ tenth ++ (digit (k % 10) ∷ [])
    large k tenth b rec zero h = absurd (omega arith)
    large k tenth b rec (suc m) h = rw (more-digits m k b, rec m (omega arith))

pub decimal_small : (n : ℕ) → n < 10 → decimal n ≡ digit n ∷ []
unfolding decimal
decimal_small n h = one-digit n n h

pub decimal_more : (n : ℕ) → 10 ≤ n → decimal n ≡ decimal (n / 10) ++ (digit (n % 10) ∷ [])
unfolding decimal
decimal_more n h = rw (more-digits n n h, same_digits n (n / 10) (omega arith), decimal)

-- one more digit than its tenth
pub length_more : (n : ℕ) → 10 ≤ n → length (decimal n) ≡ length (decimal (n / 10)) + 1
length_more n h = rw (decimal_more n h, length-append)

-- and one more store, to put it
pub put-more : (m : List ℕ) (at n : ℕ) → 10 ≤ n
    → sets m at (decimal n) ≡ set (sets m at (decimal (n / 10))) (at + length (decimal (n / 10))) (digit (n % 10))
put-more m at n h = rw (decimal_more n h) (sets_append m at (decimal (n / 10)) (digit (n % 10) ∷ []))

-- a row of digits read back, after a number that stands for those before it
unfoldable pub read_on : ℕ → List ℕ → ℕ
read_on sum [] = sum
read_on sum (b ∷ bs) = read_on (10 * sum + (b - 48)) bs

read_last : (sum : ℕ) (bs : List ℕ) (b : ℕ) → read_on sum (bs ++ (b ∷ [])) ≡ 10 * read_on sum bs + (b - 48)
unfolding read_on
read_last sum [] b = refl
read_last sum (c ∷ bs) b = read_last (10 * sum + (c - 48)) bs b

read_one : (n : ℕ) → read_on 0 (digit n ∷ []) ≡ n
unfolding read_on
read_one n = omega arith

-- a number in decimal reads back as the number
pub reads_back : (n : ℕ) → read_on 0 (decimal n) ≡ n
reads_back = of_decimal (λ n ds. read_on 0 ds ≡ n) (λ n h. read_one n) large
  where
    large : (n : ℕ) (tenth : List ℕ) → 10 ≤ n → read_on 0 tenth ≡ n / 10 → read_on 0 (tenth ++ (digit (n % 10) ∷ [])) ≡ n
    large n tenth h rec = omega (arith, read_last 0 tenth (digit (n % 10)))

-- it has a digit, and the first is 0 only of the number 0
pub no_leading_zero : (n : ℕ) → (1 ≤ length (decimal n)) × (1 ≤ n → 49 ≤ get_or (decimal n) 0 0)
no_leading_zero = of_decimal (λ n ds. (1 ≤ length ds) × (1 ≤ n → 49 ≤ get_or ds 0 0)) (λ n h. (omega arith, λ k. omega arith)) large
  where
    large : (n : ℕ) (tenth : List ℕ) → 10 ≤ n → (1 ≤ length tenth) × (1 ≤ n / 10 → 49 ≤ get_or tenth 0 0)
        → (1 ≤ length (tenth ++ (digit (n % 10) ∷ []))) × (1 ≤ n → 49 ≤ get_or (tenth ++ (digit (n % 10) ∷ [])) 0 0)
    large n tenth h rec =
        (simp length-append (omega arith), λ k. rw (get_or-append tenth (digit (n % 10) ∷ []) 0 0 (omega arith)) (rec.1 (omega arith)))

-- a number below the (k + 1)-th power of ten has at most k + 1 digits
pub digits-most : (n k : ℕ) → n < 10 ^ suc k → length (decimal n) ≤ suc k
digits-most = of_decimal (λ n ds. (k : ℕ) → n < 10 ^ suc k → length ds ≤ suc k) (λ n h k b. omega arith) large
  where
    large : (n : ℕ) (tenth : List ℕ) → 10 ≤ n → ((k : ℕ) → n / 10 < 10 ^ suc k → length tenth ≤ suc k)
        → (k : ℕ) → n < 10 ^ suc k → length (tenth ++ (digit (n % 10) ∷ [])) ≤ suc k
    large n tenth h rec zero b = absurd (omega arith)
    large n tenth h rec (suc k) b =
        let tenth-below : n / 10 < 10 ^ suc k = omega (arith, pow-suc 10 (suc k)) in
        simp length-append (omega (arith, rec k tenth-below))

pub digits_of_word : (n : ℕ) → n < 2 ^ 32 → length (decimal n) ≤ 10
digits_of_word n h = digits-most n 9 (omega arith)
