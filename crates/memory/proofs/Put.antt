-- Laws of words and pixels put: none, one more, and words that agree.
-- Assumes nothing.
use mathlib.Core.Path.{◌≡◌, ap}
use mathlib.Core.List.{List}
use Prim.Native.Nat.{ℕ, ◌+◌, ◌*◌, ◌<◌}
use Rattle.memory.specs.Place.{with_word}
use Rattle.memory.specs.Rectangle.{words_put, pixels_put}
use Rattle.memory.proofs.After.{after_none, after_more, after_same, after-agree}

pub words_put-none : (address : ℕ) (word : ℕ → ℕ) (m : List ℕ) → words_put address 0 word m ≡ m
unfolding words_put
words_put-none address word m = after_none _ m

pub words_put-more : (address n : ℕ) (word : ℕ → ℕ) (m : List ℕ)
    → words_put address (n + 1) word m ≡ with_word (words_put address n word m) (address + 4 * n) (word n)
unfolding words_put
words_put-more address n word m = after_more _ n m

pub words_put-agree : (address count : ℕ) (word word' : ℕ → ℕ) (m : List ℕ) → ((i : ℕ) → i < count → word i ≡ word' i)
    → words_put address count word m ≡ words_put address count word' m
unfolding words_put
words_put-agree address count word word' m same = after-agree _ _ count m (λ i x below. ap (with_word x (address + 4 * i)) (same i below))

pub pixels_put-none : (address stride width : ℕ) (pixel : ℕ → ℕ → ℕ) (m : List ℕ) → pixels_put address stride width 0 pixel m ≡ m
unfolding pixels_put
pixels_put-none address stride width pixel m = after_none _ m

pub pixels_put-more : (address stride width n : ℕ) (pixel : ℕ → ℕ → ℕ) (m : List ℕ)
    → pixels_put address stride width (n + 1) pixel m ≡ words_put (address + n * stride) width (λ x. pixel x n) (pixels_put address stride width n pixel m)
unfolding pixels_put
pixels_put-more address stride width n pixel m = after_more _ n m

pub pixels_put-empty : (address stride height : ℕ) (pixel : ℕ → ℕ → ℕ) (m : List ℕ) → pixels_put address stride 0 height pixel m ≡ m
unfolding pixels_put
pixels_put-empty address stride height pixel m = after_same _ (λ x. x) height m (λ y x. words_put-none _ _ x)
