-- A test asked of each number of a range `0..n` by the library's `all` is the one that is asked of each below n.
-- Assumes nothing.
use Rattle.std.proofs.Common.{◌≡◌, ℕ, zero, suc, ◌+◌, Bool, true, false, ◌&&◌, Option, refl, ap, sym, ◌∙◌}
use Rattle.std.proofs.Math.Bool.{and_assoc}
use Rattle.std.proofs.iter.Yields.{nat_range_steps}
use Rattle.std.proofs.lemmas.Iterator.{YieldsList-from_range}
use Rattle.std.proofs.lemmas.Iterator.Search.{all_from_yields_List}
use Rattle.std.specs.Fn.{Called}
use Rattle.std.specs.Iterator.{YieldsThen}
use Rattle.std.specs.List.{FoldsTo, list_all, range_with_len}
use Rattle.std.specs.Option.{MatchOption}
use Rattle.std.specs.declared.ops.Range.{Range}
use denote.Param.Members.{Mut}
use mathlib.Core.List.{List}
use native.Mathlib.Nat.{add-zero, zero-add, add-suc, suc-add}
use native.Mathlib.Numerals.{add-one}
use native.Mathlib.Omega.{arith}
use Rattle.words.specs.Choice.{all_below}

-- tests that agree
same_tests : (s t : ℕ → Bool) (n : ℕ) → ((k : ℕ) → s k ≡ t k) → all_below s n ≡ all_below t n
unfolding all_below
same_tests s t zero same = refl
same_tests s t (suc n) same = rw (same_tests s t n same, same n)

-- the first number apart
first_apart : (test : ℕ → Bool) (n : ℕ) → all_below test (suc n) ≡ (test 0 && all_below (λ k. test (suc k)) n)
unfolding all_below
first_apart test zero = and_true (test 0)
  where
    and_true : (b : Bool) → (true && b) ≡ (b && true)
    and_true true = refl
    and_true false = refl
first_apart test (suc n) = rw (first_apart test n) (and_assoc (test 0) (all_below (λ k. test (suc k)) n) (test (suc n)))

-- from the front, as a list is gone through
in_list : (test : ℕ → Bool) (a n : ℕ) → list_all test (range_with_len a n) ≡ all_below (λ k. test (a + k)) n
unfolding all_below
in_list test a zero = refl
in_list test a (suc n) =
    ap (λ rest. test a && rest)
    (in_list test (a + 1) n ∙ same_tests (λ k. test (a + 1 + k)) (λ k. test (a + suc k)) n (λ k. ap test (rw (add-one, suc-add, add-suc))))
    ∙ sym (rw (first_apart (λ k. test (a + k)) n, add-zero))

pub all_in_range : {F : Type 0} {g : Mut F (ℕ × Unit {0}) Bool} {s : Range ℕ} (test : ℕ → Bool) (n : ℕ) (u : Range ℕ) (f : F) (r : Bool)
    → s ≡ record { start = 0; end = n }
    → (xs : List ℕ) × (o : Option ℕ) × (j : F) × YieldsThen nat_range_steps s xs o u × FoldsTo (λ p x q. Called g p (x, tt) true q) f xs j
    × MatchOption o (r ≡ true) (λ x. (r ≡ false) × ((h : F) × Called g j (x, tt) false h))
    → ((x : ℕ) (b : Bool) (q : F) → Called g f (x, tt) b q → (q ≡ f) × (b ≡ test x)) → r ≡ all_below test n
all_in_range test n u f r range ran each = all_from_yields_List test u f r ran (YieldsList-from_range 0 n n range (omega arith)) each ∙ in_list test 0 n ∙ same_tests (λ k. test (0 + k)) test n (λ k. ap test (zero-add k))
