-- Whole calls that are refused, in this order and for nothing else.
use Rattle.std.specs.Prelude.{ℕ, ◌+◌, ◌%◌, Bool, ◌&&◌, cond, List, [], ◌∷◌, leb, eqb, Result, Ok, Err}
use Rattle.command.specs.Outcome.{is_done}
use Rattle.command.specs.Frame.{held_fault}
use Rattle.pack.specs.Kernels.{sound_pack}
use Rattle.state.specs.declared.device.Window.{Window}
use Rattle.state.specs.declared.device.Ring.{Ring}
use Rattle.state.specs.declared.device.Device.{Device}
use Rattle.state.specs.declared.refusal.Refusal.{Refusal}
use Rattle.state.specs.declared.refusal.Refusal.TheVariants.{Memory, State, Rings, Pipe, Pack}
use Rattle.state.specs.Counts.{balanced}
use Rattle.state.specs.Device.{nth_window, ring_of}

-- the number of each refusal
abbrev pub refusal_number : Refusal → ℕ
refusal_number Memory = 101
refusal_number State = 102
refusal_number Rings = 103
refusal_number Pipe = 104
refusal_number Pack = 105

-- start and length are multiples of 4, and the window lies inside the memory, an empty one too
unfoldable pub window_fits : ℕ → Window → Bool
window_fits memory w = eqb (w.start % 4) 0 && eqb (w.length % 4) 0 && leb (w.start + w.length) memory

-- not 101: the memory is not too long, and each window fits
unfoldable pub memory_fits : ℕ → List Window → Bool
memory_fits memory windows =
    leb memory 1048576
    && (window_fits memory (nth_window windows 0) && window_fits memory (nth_window windows 1)
    && window_fits memory (nth_window windows 2) && window_fits memory (nth_window windows 3))

-- not 101, of the windows that the rings have
unfoldable pub windows_fit : Device → ℕ → Bool
windows_fit d memory =
    memory_fits memory ((ring_of d 0).window ∷ (ring_of d 1).window ∷ (ring_of d 2).window ∷ (ring_of d 3).window ∷ [])

-- the cursor is at most 65,536, and a held frame is one that SET_FB would not refuse
unfoldable pub ring_sound : Ring → Bool
ring_sound r = leb r.cursor 65536 && is_done (held_fault r.frame r.window.length)

-- the limit is 1 to 65,536
unfoldable pub limit_fits : ℕ → Bool
limit_fits limit = leb 1 limit && leb limit 65536

-- not 102: the marker is at most 3, the limit fits, the counts' two sums agree, and each ring is sound
unfoldable pub state_sound : Device → Bool
state_sound d =
    (leb d.marker 3 && limit_fits d.limit && balanced d.counts)
    && (ring_sound (ring_of d 0) && ring_sound (ring_of d 1) && ring_sound (ring_of d 2) && ring_sound (ring_of d 3))

-- a ring's bytes are not too many, and not fewer than its cursor
unfoldable pub ring_fits : Ring → ℕ → Bool
ring_fits r length = leb length 65536 && leb r.cursor length

-- not 103: each ring's bytes are so
unfoldable pub rings_fit : Device → ℕ → ℕ → ℕ → ℕ → Bool
rings_fit d l0 l1 l2 l3 = ring_fits (ring_of d 0) l0 && ring_fits (ring_of d 1) l1 && ring_fits (ring_of d 2) l2 && ring_fits (ring_of d 3) l3

-- the verdict on a call, from the lengths of its memory, rings and pipe, and its pack
unfoldable pub verdict_of : Device → ℕ → ℕ → ℕ → ℕ → ℕ → ℕ → List ℕ → Result Unit Refusal
verdict_of d memory l0 l1 l2 l3 pipe pack =
    cond (windows_fit d memory)
    (cond (state_sound d)
    (cond (rings_fit d l0 l1 l2 l3)
    (cond (leb 1020 pipe)
    (cond (sound_pack pack) (Ok tt)
    (Err Pack))
    (Err Pipe))
    (Err Rings))
    (Err State))
    (Err Memory)
