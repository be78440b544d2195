-- The bytes that are not yet taken.
use Rattle.std.specs.Prelude.{ℕ, zero, suc, ◌+◌, ◌-◌, List, length}
use Rattle.state.specs.declared.device.Device.{Device}
use Rattle.state.specs.Device.{ring_of}

-- how many of ring q's bytes, `ring`, stand after its cursor
unfoldable pub untaken_of : Device → ℕ → List ℕ → ℕ
untaken_of d q ring = length ring - (ring_of d q).cursor

-- f 0 + f 1 + .. + f (n - 1)
unfoldable pub sum_of : ℕ → (ℕ → ℕ) → ℕ
sum_of zero f = 0
sum_of (suc n) f = sum_of n f + f n

-- of all four rings, whose bytes are R
unfoldable pub untaken_in : (ℕ → List ℕ) → Device → ℕ
untaken_in R d = sum_of 4 (λ q. untaken_of d q (R q))
