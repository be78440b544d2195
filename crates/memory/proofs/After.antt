-- Laws of `after`: no turn, one more turn, what each turn keeps, what one turn makes, what no turn changes any more, turns in rows,
-- turns that agree, and turns that may be swapped.
-- Assumes nothing.
use mathlib.Core.Path.{◌≡◌, refl, subst, ap, ◌∙◌}
use Prim.Native.Nat.{ℕ, zero, suc, ◌+◌, ◌-◌, ◌*◌, ◌≤◌, ◌<◌}
use native.Mathlib.Nat.{add-zero, add-suc, zero-mul, suc-mul}
use native.Mathlib.Numerals.{add-one}
use native.Mathlib.Decide.{dec_lt, le_ind}
use native.Mathlib.Omega.{arith}
use Rattle.memory.specs.After.{after}

module _ {A : Type 0} (f : ℕ → A → A) where
  pub after_none : (m : A) → after f 0 m ≡ m
  unfolding after
  after_none m = refl

  pub after_more : (n : ℕ) (m : A) → after f (n + 1) m ≡ f n (after f n m)
  unfolding after
  after_more n m = rw add-one

  -- what each turn below n keeps, all of them keep
  pub after-keeps : (P : A → Type 0) (n : ℕ) (m : A) → ((i : ℕ) (x : A) → i < n → P x → P (f i x)) → P m → P (after f n m)
  unfolding after
  after-keeps P zero m step h = h
  after-keeps P (suc n) m step h =
      step n (after f n m) (omega arith) (after-keeps P n m (λ i x b. step i x (omega arith)) h)

  -- a number or a list that each turn keeps is as it was
  pub after_same : {B : Type 0} (g : A → B) (n : ℕ) (m : A) → ((i : ℕ) (x : A) → g (f i x) ≡ g x) → g (after f n m) ≡ g m
  unfolding after
  after_same g zero m step = refl
  after_same g (suc n) m step = rw (step n (after f n m)) (after_same g n m step)

  -- what turn j makes so and every later turn keeps is so in the end
  pub after-made : (P : A → Type 0) (j n : ℕ) (m : A) → j < n → P (f j (after f j m))
      → ((i : ℕ) (x : A) → j < i → i < n → P x → P (f i x)) → P (after f n m)
  unfolding after
  after-made P j zero m h made step = absurd (omega arith)
  after-made P j (suc n) m h made step = go (dec_lt j n) (λ b. after-made P j n m b made (λ i x low high. step i x low (omega arith)))
    where
      go : Dec (j < n) → (j < n → P (after f n m)) → P (f n (after f n m))
      go (yes b) before = step n (after f n m) b (omega arith) (before b)
      go (no b) before =
          let last : j ≡ n = omega arith in
          subst (λ k. P (f k (after f k m))) last made

  -- what no turn changes any more stays
  pub after_stays : (m : A) (k n : ℕ) → k ≤ n → ((i : ℕ) → f i (after f k m) ≡ after f k m) → after f n m ≡ after f k m
  unfolding after
  after_stays m k n h stays = le_ind (λ (j : ℕ). after f j m ≡ after f k m) refl (λ j b e. ap (f j) e ∙ stays j) n h

-- n + k turns are n turns and then k more
pub after_split : {A : Type 0} (f : ℕ → A → A) (n k : ℕ) (m : A) → after f (n + k) m ≡ after (λ i. f (n + i)) k (after f n m)
unfolding after
after_split f n zero m = rw add-zero
after_split f n (suc k) m = rw (add-suc, after_split f n k m)

-- rows · width turns are width turns, rows times
pub after_rows : {A : Type 0} (f : ℕ → A → A) (rows width : ℕ) (m : A)
    → after f (rows * width) m ≡ after (λ r. after (λ i. f (r * width + i)) width) rows m
unfolding after
after_rows f zero width m = rw zero-mul
after_rows f (suc rows) width m = rw (suc-mul rows width) (after_split f (rows * width) width m ∙ (rw (after_rows f rows width m)))

-- two ways that agree below n, on whatever they meet, give the same
pub after-agree : {A : Type 0} (f g : ℕ → A → A) (n : ℕ) (m : A) → ((i : ℕ) (x : A) → i < n → f i x ≡ g i x) → after f n m ≡ after g n m
unfolding after
after-agree f g zero m same = refl
after-agree f g (suc n) m same =
    rw (after-agree f g n m (λ i x b. same i x (omega arith))) (same n (after g n m) (omega arith))

module _ {A : Type 0} (f : ℕ → A → A) where
  -- what may be swapped with each turn may be swapped with all of them
  pub after_swap : (g : A → A) (n : ℕ) (m : A) → ((i : ℕ) (x : A) → i < n → f i (g x) ≡ g (f i x)) → after f n (g m) ≡ g (after f n m)
  unfolding after
  after_swap g zero m swap = refl
  after_swap g (suc n) m swap = ap (f n) (after_swap g n m (λ i x b. swap i x (omega arith))) ∙ swap n (after f n m) (omega arith)

  -- turns that may be swapped with one another give the same in falling order
  pub after_falling : (n : ℕ) (m : A) → ((i j : ℕ) (x : A) → i < j → j < n → f i (f j x) ≡ f j (f i x))
      → after (λ i. f (n - 1 - i)) n m ≡ after f n m
  unfolding after
  after_falling zero m swap = refl
  after_falling (suc n) m swap =
      let fall : ℕ → A → A = λ i. f (suc n - 1 - i) in
      let rest : ℕ → A → A = λ i. f (n - 1 - i) in
      let next : (i : ℕ) → suc n - 1 - (1 + i) ≡ n - 1 - i = λ i. omega arith in
      let last : suc n - 1 - 0 ≡ n = omega arith in
      let count : suc n ≡ 1 + n = omega arith in
      ap (λ k. after fall k m) count
      ∙ after_split fall 1 n m
      ∙ after-agree (λ i. fall (1 + i)) rest n (after fall 1 m) (λ i x b. ap (λ k. f k x) (next i))
      ∙ ap (after rest n) (ap (λ k. f k m) last)
      ∙ after_falling n (f n m) (λ i j x low high. swap i j x low (omega arith))
      ∙ after_swap (f n) n m (λ i x b. swap i n x b (omega arith))
