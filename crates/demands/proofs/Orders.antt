-- Laws of the places and counts that an order of starts goes by.
-- Assumes nothing.
use mathlib.Core.Path.{◌≡◌, refl, ap}
use mathlib.Core.Bool.{Bool, true, false, ◌&&◌, cond}
use mathlib.Core.List.{List}
use mathlib.Core.Logic.{⊎_elim}
use Prim.Native.Nat.{ℕ, zero, suc, ◌+◌, ◌*◌, ◌≤◌, ◌<◌}
use native.Mathlib.Nat.{eq-or-lt_of_le, le_of_suc-le-suc, le_refl}
use native.Mathlib.Omega.{arith}
use lib.Dec.{eqb}
use borrow.Author.Tests.{eq-eqb, ne_eqb}
use Rattle.command.specs.declared.header.Command.{Command}
use Rattle.command.proofs.Sizes.{size_least}
use Rattle.device.specs.Untaken.{sum_of}
use Rattle.demands.specs.RingCommands.{place_of, nth}
use Rattle.demands.specs.EmitsAndWaits.{is_emitting}
use Rattle.demands.specs.Idle.{emits_in, count_of, one_more}
use Rattle.demands.proofs.Sums.{sum_grows, sum-most}

-- 1 if the command emits to the slot, else 0
abbrev pub hit : Command → ℕ → ℕ
hit c slot = cond (is_emitting c && eqb c.rdst slot) 1 0

hit_most : (b : Bool) → cond b 1 0 ≤ 1
hit_most true = le_refl 1
hit_most false = omega arith

module _ (b : List ℕ) where
  -- each command takes at least 16 bytes
  pub place-least : (n : ℕ) → 16 * n ≤ place_of b n
  unfolding place_of
  place-least zero = omega arith
  place-least (suc n) = omega (arith, place-least n, size_least b (place_of b n))

  pub emits-most : (slot n : ℕ) → emits_in b slot n ≤ n
  unfolding emits_in
  emits-most slot zero = omega arith
  emits-most slot (suc n) = omega (arith, emits-most slot n, hit_most (is_emitting (nth b n) && eqb (nth b n).rdst slot))

  pub emits_rise : (slot n m : ℕ) → n ≤ m → emits_in b slot n ≤ emits_in b slot m
  unfolding emits_in
  emits_rise slot n zero le = let none : n ≡ 0 = omega arith in omega (arith, ap (λ k. emits_in b slot k) none)
  emits_rise slot n (suc m) le =
      ⊎_elim
      (λ same. omega (arith, ap (λ k. emits_in b slot k) same))
      (λ less. omega (arith, emits_rise slot n m (le_of_suc-le-suc less)))
      (eq-or-lt_of_le le)

module _ (n : ℕ → ℕ) (r : ℕ) where
  pub more-here : one_more n r r ≡ suc (n r)
  unfolding one_more
  more-here = rw (eq-eqb r r refl)

  pub more_other : (q : ℕ) → (q ≡ r → ⊥) → one_more n r q ≡ n q
  unfolding one_more
  more_other q other = rw (ne_eqb q r other)

module _ (R : ℕ → List ℕ) where
  -- one more start adds what its command emits
  pub count-more : (n : ℕ → ℕ) (r slot : ℕ) → r < 4 → count_of R (one_more n r) slot ≡ count_of R n slot + hit (nth (R r) (n r)) slot
  unfolding emits_in
  count-more n r slot four =
      sum_grows (λ q. emits_in (R q) slot (n q)) (λ q. emits_in (R q) slot (one_more n r q)) (hit (nth (R r) (n r)) slot) r four
      (λ q other. rw (more_other n r q other)) (rw (more-here n r))

  pub count_not_less : (n : ℕ → ℕ) (r slot : ℕ) → r < 4 → count_of R n slot ≤ count_of R (one_more n r) slot
  count_not_less n r slot four = omega (arith, count-more n r slot four)

  -- and that is at most 1
  pub count-one_more : (n : ℕ → ℕ) (r slot : ℕ) → r < 4 → count_of R (one_more n r) slot ≤ count_of R n slot + 1
  count-one_more n r slot four =
      omega (arith, count-more n r slot four, hit_most (is_emitting (nth (R r) (n r)) && eqb (nth (R r) (n r)).rdst slot))

  pub count_most : (n : ℕ → ℕ) (slot : ℕ) → count_of R n slot ≤ sum_of 4 n
  count_most n slot = sum-most (λ q. emits_in (R q) slot (n q)) n (λ q four. emits-most (R q) slot (n q))

  pub count_rises : (n m : ℕ → ℕ) (slot : ℕ) → ((q : ℕ) → n q ≤ m q) → count_of R n slot ≤ count_of R m slot
  count_rises n m slot le =
      sum-most (λ q. emits_in (R q) slot (n q)) (λ q. emits_in (R q) slot (m q)) (λ q four. emits_rise (R q) slot (n q) (m q) (le q))
