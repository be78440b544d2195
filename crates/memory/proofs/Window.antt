-- Laws of a window taken out of a memory and put back.
-- Assumes nothing.
use mathlib.Core.Path.{◌≡◌, sym, ap, ◌∙◌}
use mathlib.Core.List.{List, ◌++◌}
use mathlib.Core.Logic.{◌⊎◌, inl, inr, ⊎_elim}
use Prim.Native.Nat.{ℕ, ◌+◌, ◌-◌, ◌≤◌, ◌<◌}
use native.Mathlib.Omega.{arith}
use lib.ListN.{length, get_or, take, drop, length-append, length-take, length-drop, take-append-drop, get_or-append}
use lib.Seq.{length-take-le, get_or-take, get_or-drop, get_or-append-add, take_at, drop_at, drop-drop, ext_get_or}
use Rattle.memory.specs.Window.{window_of, put_back}

-- what the borrow checker says of a memory whose part from a to e was lent and came back as ys
pub loan_put_back : (a e : ℕ) (xs ys : List ℕ) → length ys ≡ e - a → take a xs ++ (ys ++ drop (e - a) (drop a xs)) ≡ put_back a ys xs
unfolding put_back
loan_put_back a e xs ys h = rw (drop-drop, h)

-- the same where the part came back as long as it was lent, as every callee leaves it
pub loan_kept : (a e : ℕ) (xs ys : List ℕ) → a ≤ e → e ≤ length xs → length ys ≡ length (take (e - a) (drop a xs))
    → take a xs ++ (ys ++ drop (e - a) (drop a xs)) ≡ put_back a ys xs
loan_kept a e xs ys low high kept = loan_put_back a e xs ys (kept ∙ simp (length-take, length-drop) (omega arith))

-- two memories that agree on a window's bytes have the same window
pub same-window : (start n : ℕ) (m₁ m₂ : List ℕ) → length m₁ ≡ length m₂ → start + n ≤ length m₂
    → ((i : ℕ) → start ≤ i → i < start + n → get_or m₁ i 0 ≡ get_or m₂ i 0) → window_of start n m₁ ≡ window_of start n m₂
unfolding window_of
same-window start n m₁ m₂ long fits agree =
    ext_get_or 0 (take n (drop start m₁)) (take n (drop start m₂)) (simp (length-take, length-drop, long))
    (λ i h.
    let below : i < n = omega (arith, simp (length-take, length-drop) at h) in
    get_or-take n (drop start m₁) i 0 below
    ∙ get_or-drop start m₁ i 0
    ∙ agree (start + i) (omega arith) (omega arith)
    ∙ sym (get_or-drop start m₂ i 0)
    ∙ sym (get_or-take n (drop start m₂) i 0 below))

module _ (start n : ℕ) (m : List ℕ) (fits : start + n ≤ length m) where
  pub window-length : length (window_of start n m) ≡ n
  unfolding window_of
  window-length = simp (length-take, length-drop) (omega arith)

  pub window_byte : (i : ℕ) → i < n → get_or (window_of start n m) i 0 ≡ get_or m (start + i) 0
  unfolding window_of
  window_byte i h = rw (get_or-take n (drop start m) i 0 h, get_or-drop)

  pub put_back-window : put_back start (window_of start n m) m ≡ m
  unfolding put_back window_of
  put_back-window =
      rw (window-length, ← drop-drop n start m, window_of, take-append-drop n (drop start m)) (take-append-drop start m)

  module _ (w : List ℕ) (same : length w ≡ n) where
    front : length (take start m) ≡ start
    front = length-take-le start m (omega arith)

    pub put_back-length : length (put_back start w m) ≡ length m
    unfolding put_back
    put_back-length = simp (length-append, length-take, length-drop) (omega arith)

    -- the window reads what was put back
    pub window-put_back : window_of start n (put_back start w m) ≡ w
    unfolding window_of put_back
    window-put_back = rw (drop_at (take start m) (w ++ drop (start + length w) m) start front, take_at w (drop (start + length w) m) n same)

    -- every byte outside the window is as it was
    pub put_back-before : (i : ℕ) → i < start → get_or (put_back start w m) i 0 ≡ get_or m i 0
    unfolding put_back
    put_back-before i h = get_or-append (take start m) _ 0 i (omega (arith, front)) ∙ get_or-take start m i 0 h

    pub put_back-after : (i : ℕ) → start + n ≤ i → get_or (put_back start w m) i 0 ≡ get_or m i 0
    unfolding put_back
    put_back-after i h =
        let rest = drop (start + length w) m in
        let k = i - (start + n) in
        let here : i ≡ length (take start m) + (length w + k) = omega (arith, front) in
        let there : start + length w + k ≡ i = omega arith in
        ap (λ j. get_or (take start m ++ (w ++ rest)) j 0) here
        ∙ get_or-append-add (take start m) (w ++ rest) (length w + k) 0
        ∙ get_or-append-add w rest k 0
        ∙ get_or-drop (start + length w) m k 0
        ∙ ap (λ j. get_or m j 0) there

    pub put_back-outside : (i : ℕ) → (i < start) ⊎ (start + n ≤ i) → get_or (put_back start w m) i 0 ≡ get_or m i 0
    put_back-outside i h = ⊎_elim (put_back-before i) (put_back-after i) h

    -- and so is every window that shares no byte with it
    pub other_window : (start' n' : ℕ) → start' + n' ≤ length m → (start' + n' ≤ start) ⊎ (start + n ≤ start')
        → window_of start' n' (put_back start w m) ≡ window_of start' n' m
    other_window start' n' fits' apart =
        same-window start' n' (put_back start w m) m put_back-length fits'
        (λ i low high. put_back-outside i (⊎_elim (λ h. inl (omega arith)) (λ h. inr (omega arith)) apart))

-- what is done to a window depends on the window's bytes alone
module _ (start n : ℕ) (f : List ℕ → List ℕ) (keeps : (w : List ℕ) → length (f w) ≡ length w) where
  pub window-after : (m : List ℕ) → start + n ≤ length m → window_of start n (put_back start (f (window_of start n m)) m) ≡ f (window_of start n m)
  window-after m fits = window-put_back start n m fits (f (window_of start n m)) (keeps (window_of start n m) ∙ window-length start n m fits)

  pub windows-after : (m₁ m₂ : List ℕ) → start + n ≤ length m₁ → start + n ≤ length m₂ → window_of start n m₁ ≡ window_of start n m₂
      → window_of start n (put_back start (f (window_of start n m₁)) m₁) ≡ window_of start n (put_back start (f (window_of start n m₂)) m₂)
  windows-after m₁ m₂ fits₁ fits₂ same = window-after m₁ fits₁ ∙ ap f same ∙ sym (window-after m₂ fits₂)
