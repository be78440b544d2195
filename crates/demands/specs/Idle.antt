-- Demand 3, second part: when the answer is idle, no order of starts gets further than the device did.
use Rattle.std.specs.Prelude.{ℕ, zero, suc, ◌+◌, ◌≤◌, ◌<◌, ◌≡◌, true, ◌&&◌, cond, List, eqb}
use Rattle.command.specs.Header.{is_whole}
use Rattle.state.specs.declared.device.Window.{Window}
use Rattle.state.specs.declared.edition.Start.{Start}
use Rattle.state.specs.Device.{fresh_device}
use Rattle.state.specs.Edition.{edition_of, first_of}
use Rattle.state.specs.Ready.{ready_with}
use Rattle.device.specs.Turn.{Call}
use Rattle.device.specs.Untaken.{sum_of}
use Rattle.demands.specs.Calls.{number_in, last_of, EachHeard}
use Rattle.demands.specs.Bounded.{Lends, taken}
use Rattle.demands.specs.RingCommands.{place_of, nth}
use Rattle.demands.specs.EmitsAndWaits.{is_emitting}
use Rattle.demands.specs.Targets.{TargetsNear}

-- how many of a ring's first n commands emit to a slot: a plain count
unfoldable pub emits_in : List ℕ → ℕ → ℕ → ℕ
emits_in b slot zero = 0
emits_in b slot (suc n) = emits_in b slot n + cond (is_emitting (nth b n) && eqb (nth b n).rdst slot) 1 0

-- how many commands that emit to a slot have been started, n q of each ring q
abbrev pub count_of : (ℕ → List ℕ) → (ℕ → ℕ) → ℕ → ℕ
count_of R n slot = sum_of 4 (λ q. emits_in (R q) slot (n q))

-- one more of ring q
unfoldable pub one_more : (ℕ → ℕ) → ℕ → ℕ → ℕ
one_more n q r = cond (eqb r q) (suc (n r)) (n r)

-- an order in which n q commands of each ring q start: nothing has started, or one more has, which is whole, and ready by the
-- edition's rule against the starting number plus the count of the emits to its slot started before it; in edition 1 that is the
-- count alone
pub data Order (chosen : Start) (R : ℕ → List ℕ) : (ℕ → ℕ) → Type 0 where
  nothing : Order chosen R (λ q. 0)
  start : {n : ℕ → ℕ} → Order chosen R n → (q : ℕ) → q < 4 → is_whole (R q) (place_of (R q) (n q)) ≡ true
      → ready_with (edition_of chosen) (nth (R q) (n q)) (first_of chosen + count_of R n (nth (R q) (n q)).rdst) ≡ true
      → Order chosen R (one_more n q)

-- after calls from fresh, one more call answers idle: then no order has started more of a ring than the device took; of the
-- rings only edition 2 asks something, that their targets are near the starting number
unfoldable pub IdleIsDone : Type 0
IdleIsDone =
    (windows : List Window) (limit : ℕ) (chosen : Start) (R : ℕ → List ℕ) (calls : List Call) (last : Call) → TargetsNear chosen R
    → EachHeard (Lends R) (fresh_device windows limit chosen) calls → Lends R last
    → number_in (last_of (fresh_device windows limit chosen) calls) last ≡ 1
    → (n : ℕ → ℕ) → Order chosen R n → (q : ℕ) → n q ≤ taken (fresh_device windows limit chosen) calls q
