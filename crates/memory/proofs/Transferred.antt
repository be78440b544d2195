-- Laws of transfers.
-- Assumes nothing.
use mathlib.Core.Path.{◌≡◌, sym}
use mathlib.Core.List.{List, append_assoc}
use Prim.Native.Nat.{ℕ, zero, suc, ◌+◌, ◌-◌, ◌≤◌}
use native.Mathlib.Omega.{arith}
use lib.ListN.{length, get_or, set, take, drop, length-drop}
use lib.Seq.{paste, paste-zero, paste-suc, get_or-drop, drop-drop}
use borrow.Rule.Slice.PartMut.{put_mid}
use Rattle.memory.specs.After.{after}
use Rattle.memory.specs.Transfer.{transferred}
use Rattle.memory.proofs.After.{after_none, after_more}

-- byte by byte
pub transferred-none : (source : List ℕ) (start at : ℕ) (m : List ℕ) → transferred source start at 0 m ≡ m
unfolding transferred
transferred-none source start at m = after_none _ m

pub transferred-more : (source : List ℕ) (start at n : ℕ) (m : List ℕ)
    → transferred source start at (n + 1) m ≡ set (transferred source start at n m) (at + n) (get_or source (start + n) 0)
unfolding transferred
transferred-more source start at n m = after_more _ n m

-- a transfer of bytes that lie inside both lists is one copy
transferred-pasted : (source : List ℕ) (start at n : ℕ) (m : List ℕ) → start + n ≤ length source → at + n ≤ length m
    → transferred source start at n m ≡ paste m at (drop start source) n
unfolding transferred after
transferred-pasted source start at zero m within fits = paste-zero m at (drop start source)
transferred-pasted source start at (suc n) m within fits =
    rw (transferred-pasted source start at n m (omega arith) (omega arith), ← get_or-drop start source n 0)
    (paste-suc m at (drop start source) n 0 (omega arith) (simp length-drop (omega arith)))

-- what the borrow checker says of a part of a list that a copy was written over
pub copied_over : (source : List ℕ) (start at n : ℕ) (m part : List ℕ) → start + n ≤ length source → at + n ≤ length m
    → part ≡ take (start + n - start) (drop start source) → put_mid at (at + n - at) m part ≡ transferred source start at n m
copied_over source start at n m part within fits e =
    let same₁ : start + n - start ≡ n = omega arith in
    let same₂ : at + n - at ≡ n = omega arith in
    rw (e, same₁, same₂, transferred-pasted source start at n m within fits, drop-drop, paste) (sym (append_assoc (take at m) (take n (drop start source)) (drop (at + n) m)))
