-- A window taken out of a memory and put back.
use Rattle.std.specs.Prelude.{List, ◌++◌, ℕ, ◌+◌, length, take, drop}

-- the n bytes of the memory from `start` on
unfoldable pub window_of : ℕ → ℕ → List ℕ → List ℕ
window_of start n m = take n (drop start m)

-- the memory with the bytes w from `start` on
unfoldable pub put_back : ℕ → List ℕ → List ℕ → List ℕ
put_back start w m = take start m ++ (w ++ drop (start + length w) m)
