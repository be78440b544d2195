-- Vector registers of four words each.
use Rattle.std.specs.Prelude.{ℕ, List, get_or, set}
use Rattle.words.specs.declared.lanes.LaneOp.{LaneOp}
use Rattle.words.specs.declared.lanes.LaneType.{LaneType}
use Rattle.words.specs.Lanes.{lanes_of}
use Rattle.memory.specs.declared.quad.Quad.{Quad}
use Rattle.memory.specs.Quad.{quad_by, quad_word}

-- one word to four
abbrev pub broadcast : ℕ → Quad
broadcast x = quad_by (λ i. x)

-- the four words of register n
unfoldable pub quad_of : List Quad → ℕ → Quad
quad_of vectors n = get_or vectors n (broadcast 0)

-- the registers with four words in register n
unfoldable pub with_quad : List Quad → ℕ → Quad → List Quad
with_quad vectors n q = set vectors n q

-- the operation on each of the four words
unfoldable pub lanes_of_quads : LaneOp → LaneType → Quad → Quad → Quad
lanes_of_quads op ty a b = quad_by (λ i. lanes_of op ty (quad_word a i) (quad_word b i))
