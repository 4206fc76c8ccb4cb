-- What the reader lost to a buffer that is to be filled. Assumes nothing.
use Rattle.std.specs.Prelude.{List, ℕ, ◌<◌, length, take}
use Rattle.std.specs.Io.KnownBytes.{Consumes, IsAtEnd}
use Rattle.std.specs.declared.option.Option.{Option}

-- the first `n` bytes of the buffer, which is full unless the input has ended
pub record FullRead (old new : Option (List ℕ)) (buf : List ℕ) (n : ℕ) : Type 0 where
  pub read : Consumes old new (take n buf)
  pub full : n < length buf → IsAtEnd new

-- some bytes, and the buffer begins with them
pub record LostRead (old new : Option (List ℕ)) (buf : List ℕ) : Type 0 where
  pub count : ℕ
  pub read : Consumes old new (take count buf)
