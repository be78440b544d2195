-- A wait that is met stays met as its slot's count rises: in edition 1 always, in edition 2 for a target near the starting number.
-- Assumes nothing.
use mathlib.Core.Path.{◌≡◌, refl}
use mathlib.Core.Bool.{Bool, true, false, not, ◌&&◌, ◌||◌, cond}
use Prim.Native.Nat.{ℕ, ◌+◌, ◌-◌, ◌*◌, ◌/◌, ◌%◌, ◌^◌, ◌≤◌, ◌<◌}
use native.Mathlib.Omega.{arith}
use borrow.Author.Tests.{ne_eqb, leb-true, le-leb, ltb-true, lt-ltb}
use Rattle.words.specs.Arithmetic.{difference}
use Rattle.command.specs.declared.header.Command.{Command}
use Rattle.command.specs.Flags.{wait_bit}
use Rattle.command.specs.Faults.{header_fault}
use Rattle.command.specs.Outcome.{is_done}
use Rattle.state.specs.declared.edition.Edition.{Edition}
use Rattle.state.specs.declared.edition.Start.{Start}
use Rattle.state.specs.declared.edition.Start.TheVariants.{Edition1, Edition2}
use Rattle.state.specs.Edition.{edition_of, first_of}
use Rattle.state.specs.Slots.{is_met, is_full, emitted}
use Rattle.state.specs.Ready.{ready_with}
use Rattle.demands.specs.EmitsAndWaits.{is_waiting}
use Rattle.demands.specs.Targets.{NearByDifference, NearStart, TargetsNear, NothingAsked}

-- a ready command stays ready if its wait, where it waits, stays met
pub ready_if : (edition : Edition) (c : Command) (x y : ℕ)
    → (is_waiting c ≡ true → is_met edition x c.target ≡ true → is_met edition y c.target ≡ true)
    → ready_with edition c x ≡ true → ready_with edition c y ≡ true
unfolding ready_with is_waiting
ready_if edition c x y further = go (is_done (header_fault c)) (wait_bit c.flags) (is_met edition x c.target) (is_met edition y c.target) further
  where
    go : (fine waits was is : Bool) → ((waits && fine) ≡ true → was ≡ true → is ≡ true) → (not fine || not waits || was) ≡ true
        → (not fine || not waits || is) ≡ true
    go false waits was is further e = refl
    go true false was is further e = refl
    go true true was is further e = further refl e

-- the same edition, the same readiness
pub ready_under : {e f : Edition} → e ≡ f → (c : Command) (x : ℕ) → ready_with e c x ≡ true → ready_with f c x ≡ true
ready_under same c x ready = rw (← same) ready

-- what a slot holds once n commands have emitted to it: in edition 1 the count, and in edition 2 the count past the starting
-- number, round the wrap
abbrev pub Holds : Start → ℕ → ℕ → Type 0
Holds Edition1 slot n = slot ≡ n
Holds (Edition2 first) slot n = slot % 2 ^ 32 ≡ (first + n) % 2 ^ 32

-- the starting number plus the count is so
pub holds_plain : (chosen : Start) (n : ℕ) → Holds chosen (first_of chosen + n) n
holds_plain Edition1 n = omega arith
holds_plain (Edition2 first) n = refl

pub holds_first : (chosen : Start) → Holds chosen (first_of chosen) 0
holds_first Edition1 = refl
holds_first (Edition2 first) = omega arith

-- one more emit, or none
pub holds_more : (chosen : Start) (emits : Bool) (slot n : ℕ) → n ≤ 16384 → Holds chosen slot n
    → Holds chosen (cond emits (emitted slot) slot) (n + cond emits 1 0)
holds_more Edition1 true slot n few holds = omega (arith, few, holds)
holds_more Edition1 false slot n few holds = omega (arith, holds)
holds_more (Edition2 first) true slot n few holds = omega (arith, holds)
holds_more (Edition2 first) false slot n few holds = omega (arith, holds)

-- after few emits no slot is full
pub holds_free : (chosen : Start) (slot n : ℕ) → n ≤ 16384 → Holds chosen slot n → is_full (edition_of chosen) slot ≡ false
holds_free Edition1 slot n few holds = ne_eqb slot 4294967295 (λ is. omega (arith, few, holds, is))
holds_free (Edition2 first) slot n few holds = refl

pub zero_free : (chosen : Start) → is_full (edition_of chosen) 0 ≡ false
zero_free Edition1 = refl
zero_free (Edition2 first) = refl

-- numbers that differ by some rounds are the same round the wrap
same-round : (u v a b : ℕ) → u + 4294967296 * a ≡ v + 4294967296 * b → u % 2 ^ 32 ≡ v % 2 ^ 32
same-round u v a b same = omega (arith, same)

-- of two numbers past the same one, round the wrap, the difference is that of how far they are past it
same_apart : (first target past x n : ℕ) → past ≤ 1073741824 → target ≡ (first + past) % 2 ^ 32 → x % 2 ^ 32 ≡ (first + n) % 2 ^ 32
    → difference 32 x target ≡ difference 32 n past
same_apart first target past x n most round holds =
    same-round (x + (4294967296 - target)) (n + (4294967296 - past)) ((first + n) / 2 ^ 32) (x / 2 ^ 32 + (first + past) / 2 ^ 32)
    (omega (arith, most, round, holds))

-- of few commands, and targets near the starting number, the wrap cannot be seen
met_rises : (chosen : Start) (target x y n m : ℕ) → NearStart chosen target → Holds chosen x n → Holds chosen y m → n ≤ m
    → m < 1073741824 → is_met (edition_of chosen) x target ≡ true → is_met (edition_of chosen) y target ≡ true
met_rises Edition1 target x y n m near was is rise few met = le-leb target y (omega (arith, leb-true target x met, was, is, rise))
met_rises (Edition2 first) target x y n m near was is rise few met =
    let past = near.past in
    let before = same_apart first target past x n near.most near.round was in
    let after = same_apart first target past y m near.most near.round is in
    let met_at : difference 32 n past < 2147483648 = rw (← before) (ltb-true (difference 32 x target) 2147483648 met) in
    rw after (lt-ltb (difference 32 m past) 2147483648 (counts_on past n m near.most rise few met_at))
  where
    counts_on : (past n m : ℕ) → past ≤ 1073741824 → n ≤ m → m < 1073741824 → difference 32 n past < 2147483648
        → difference 32 m past < 2147483648
    counts_on past n m most rise few met = omega (arith, most, rise, few, met)

-- so a ready command stays ready as its slot's count rises
pub ready_rises : (chosen : Start) (c : Command) (x y n m : ℕ) → (is_waiting c ≡ true → NearStart chosen c.target)
    → (is_waiting c ≡ true → Holds chosen x n) → (is_waiting c ≡ true → Holds chosen y m) → n ≤ m → m < 1073741824
    → ready_with (edition_of chosen) c x ≡ true → ready_with (edition_of chosen) c y ≡ true
ready_rises chosen c x y n m near was is rise few =
    ready_if (edition_of chosen) c x y (λ waits. met_rises chosen c.target x y n m (near waits) (was waits) (is waits) rise few)

pub nothing_asked : NothingAsked
unfolding NothingAsked TargetsNear
nothing_asked R q n four whole waits = tt

-- near round the wrap is a small difference
pub near_by_difference : NearByDifference
unfolding NearByDifference
near_by_difference first target a b = (
  λ near. omega (arith, near.most, near.round, a, b),
  λ small. record { past = difference 32 target first; most = small; round = omega (arith, a, b) },
)
